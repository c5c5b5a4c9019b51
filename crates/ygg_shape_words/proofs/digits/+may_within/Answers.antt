use Rattle.std.proofs.Common.{◌<◌, ◌-◌, slice_get, ap, ◌∙◌, arith}
use Rattle.ygg_value.specs.Words.{resized}
use Rattle.ygg_bank.specs.Making.{known_in}
use Rattle.ygg_bank.specs.declared.node.Node.TheVariants.{Input, Const, Bin, Not, Resize, Pick}
use Rattle.ygg_shape_words.proofs.Children.{bin_stands, resize_stands}
use Rattle.ygg_shape_words.specs.Digits.{all_ones, may_bin, may_within}
use Rattle.ygg_shape_words.proofs.Masks.{within_zero, within_node}
use Rattle.ygg_shape_words.proofs.digits.+may_within.Goals as goal

pub returns-then-depth-eq0 : goal.returns-then-depth-eq0
returns-then-depth-eq0 t c =
    c.all_ones.ensures ∙ ap all_ones c.width-width.ensures.value ∙ within_zero c.args.depth c.args.bank.now c.args.at c.if-depth-eq0.true

pub may_within-requires : goal.may_within-requires
may_within-requires t c =
    let stands = resize_stands c.args.bank.now c.args.at.0 c.in-Resize.digits c.in-Resize.a c.requires.bank.ordered c.in-Resize.ensures.there in
    (omega arith, (c.requires.bank, stands))

pub may_within-requires-in-Bin : goal.may_within-requires-in-Bin
may_within-requires-in-Bin t c =
    let stands = bin_stands c.args.bank.now c.args.at.0 c.in-Bin.op c.in-Bin.a c.in-Bin.b c.requires.bank.ordered c.in-Bin.ensures.there in
    (omega arith, (c.requires.bank, stands.0))

pub known-requires : goal.known-requires
known-requires t c = (bin_stands c.args.bank.now c.args.at.0 c.in-Bin.op c.in-Bin.a c.in-Bin.b c.requires.bank.ordered c.in-Bin.ensures.there).1

pub returns-in-Const : goal.returns-in-Const
returns-in-Const t c =
    let l : 0 < c.args.depth = omega (arith, c.if-depth-eq0.false) in
    within_node c.args.depth c.args.bank.now c.args.at (Const c.in-Const.word) l c.in-Const.ensures.there

pub returns-in-Resize : goal.returns-in-Resize
returns-in-Resize t c =
    let l : 0 < c.args.depth = omega (arith, c.if-depth-eq0.false) in
    c.resize.ensures ∙ ap (λ z. resized z c.in-Resize.digits) c.may_within.ensures
    ∙ within_node c.args.depth c.args.bank.now c.args.at (Resize c.in-Resize.a c.in-Resize.digits) l c.in-Resize.ensures.there

pub returns-in-Bin : goal.returns-in-Bin
returns-in-Bin t c =
    let l : 0 < c.args.depth = omega (arith, c.if-depth-eq0.false) in
    c.may_bin.ensures ∙ ap (λ z. may_bin c.in-Bin.op z c.known.result c.width-width.result) c.may_within-in-Bin.ensures
    ∙ ap (λ z. may_bin c.in-Bin.op (may_within (c.args.depth - 1) c.args.bank.now c.in-Bin.a) z c.width-width.result) c.known.ensures
    ∙ ap (may_bin c.in-Bin.op (may_within (c.args.depth - 1) c.args.bank.now c.in-Bin.a) (known_in (slice_get c.args.bank.now c.in-Bin.b.0)))
    c.width-width.ensures.value
    ∙ within_node c.args.depth c.args.bank.now c.args.at (Bin c.in-Bin.op c.in-Bin.a c.in-Bin.b) l c.in-Bin.ensures.there

pub returns-in-Input : goal.returns-in-Input
returns-in-Input t c =
    let l : 0 < c.args.depth = omega (arith, c.if-depth-eq0.false) in
    c.all_ones-in-Input.ensures ∙ ap all_ones c.width-width.ensures.value
    ∙ within_node c.args.depth c.args.bank.now c.args.at (Input c.in-Input.number c.in-Input.width) l c.in-Input.ensures.there

pub returns-in-Not : goal.returns-in-Not
returns-in-Not t c =
    let l : 0 < c.args.depth = omega (arith, c.if-depth-eq0.false) in
    c.all_ones-in-Not.ensures ∙ ap all_ones c.width-width.ensures.value
    ∙ within_node c.args.depth c.args.bank.now c.args.at (Not c.in-Not.a) l c.in-Not.ensures.there

pub returns-in-Pick : goal.returns-in-Pick
returns-in-Pick t c =
    let l : 0 < c.args.depth = omega (arith, c.if-depth-eq0.false) in
    c.all_ones-in-Pick.ensures ∙ ap all_ones c.width-width.ensures.value
    ∙ within_node c.args.depth c.args.bank.now c.args.at (Pick c.in-Pick.test c.in-Pick.yes c.in-Pick.no) l c.in-Pick.ensures.there
