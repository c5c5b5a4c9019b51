use Rattle.std.proofs.Common.{rules, ◌<◌, Some, sym, ap, ◌∙◌, subst, arith}
use Rattle.ygg_shape_nodes.specs.Rules.{InsteadFits}
use Rattle.ygg_shape_nodes.proofs.Instead.{instead_fits}
use Rattle.ygg_shape_nodes.proofs.Moved.{can_later}
use Rattle.ygg_shape_nodes.proofs.Made.{split_widths, other_wide}
use Rattle.ygg_shape_nodes.proofs.Steps.{zero_made, itself_made, term_made, constant_made, other_made, split_made}
use Rattle.ygg_shape_nodes.proofs.making.+made_within.Goals as goal

pub returns-then-depth-eq0-clause-made : goal.returns-then-depth-eq0-clause-made
returns-then-depth-eq0-clause-made g t c =
    zero_made (g.B.Book.kinds c.args.book.now) c.args.depth c.args.node.now c.args.bank.now c.make.new.self c.in_ok-answer.answer c.if-depth-eq0.true
    c.in_ok-answer.ensures.nodes c.in_ok-answer.ensures.id

pub made_within-requires : goal.made_within-requires
made_within-requires g t c κs within =
    let bank = c.args.bank.now in
    let fits = subst (InsteadFits bank c.args.node.now) (sym c.instead_of.ensures) (instead_fits bank c.requires.bank.ordered c.args.node.now c.requires.can) in
    let d = subst (InsteadFits bank c.args.node.now) c.in-Other.is fits in (
      omega arith,
      (search rules, (c.requires.bank, d.can)),
    )

pub made_within-requires-in-Split : goal.made_within-requires-in-Split
made_within-requires-in-Split g t c κs within =
    let bank = c.args.bank.now in
    let fits = subst (InsteadFits bank c.args.node.now) (sym c.instead_of.ensures) (instead_fits bank c.requires.bank.ordered c.args.node.now c.requires.can) in
    let d = subst (InsteadFits bank c.args.node.now) c.in-Split.is fits in (
      omega arith,
      (search rules, (c.requires.bank, d.1.can)),
    )

pub made_within-requires-in-Split-2 : goal.made_within-requires-in-Split-2
made_within-requires-in-Split-2 g t c κs within =
    let bank = c.args.bank.now in
    let next = c.made_within-in-Split.new.bank in
    let fits = subst (InsteadFits bank c.args.node.now) (sym c.instead_of.ensures) (instead_fits bank c.requires.bank.ordered c.args.node.now c.requires.can) in
    let d = subst (InsteadFits bank c.args.node.now) c.in-Split.is fits in (
      omega arith,
      (
        search rules,
        (c.made_within-in-Split.ensures.bank, can_later bank next c.made_within-in-Split.ensures.grows c.in-Split.no d.2.own d.2.can),
      ),
    )

pub pick-requires-clause-pick : goal.pick-requires-clause-pick
pick-requires-clause-pick g t c =
    let bank = c.args.bank.now in
    let fits = subst (InsteadFits bank c.args.node.now) (sym c.instead_of.ensures) (instead_fits bank c.requires.bank.ordered c.args.node.now c.requires.can) in
    split_widths bank c.made_within-in-Split.new.bank c.made_within-in-Split-2.new.bank c.args.node.now c.in-Split.yes c.in-Split.no c.in-Split.test
    c.in_ok-one-in-Split.one c.in_ok-two-in-Split.two c.made_within-in-Split.ensures.grows c.made_within-in-Split-2.ensures.grows
    (subst (InsteadFits bank c.args.node.now) c.in-Split.is fits) c.in_ok-one-in-Split.ensures.width c.in_ok-two-in-Split.ensures.width

pub returns-in_ok-answer-in-Itself-clause-made : goal.returns-in_ok-answer-in-Itself-clause-made
returns-in_ok-answer-in-Itself-clause-made g t c =
    let l : 0 < c.args.depth = omega (arith, c.if-depth-eq0.false) in
    itself_made (g.B.Book.kinds c.args.book.now) c.args.depth c.args.node.now c.args.bank.now c.make-in-Itself.new.self c.in_ok-answer-in-Itself.answer l
    (sym c.in-Itself.is ∙ c.instead_of.ensures) c.in_ok-answer-in-Itself.ensures.nodes c.in_ok-answer-in-Itself.ensures.id

pub returns-in-Term-clause-made : goal.returns-in-Term-clause-made
returns-in-Term-clause-made g t c =
    let l : 0 < c.args.depth = omega (arith, c.if-depth-eq0.false) in
    term_made (g.B.Book.kinds c.args.book.now) c.args.depth c.args.node.now c.args.bank.now c.in-Term.term l (sym c.in-Term.is ∙ c.instead_of.ensures)

pub returns-in-Term-clause-width : goal.returns-in-Term-clause-width
returns-in-Term-clause-width g t c =
    let bank = c.args.bank.now in
    let fits = subst (InsteadFits bank c.args.node.now) (sym c.instead_of.ensures) (instead_fits bank c.requires.bank.ordered c.args.node.now c.requires.can) in
    subst (InsteadFits bank c.args.node.now) c.in-Term.is fits

pub returns-in_ok-answer-in-Constant-clause-made : goal.returns-in_ok-answer-in-Constant-clause-made
returns-in_ok-answer-in-Constant-clause-made g t c =
    let l : 0 < c.args.depth = omega (arith, c.if-depth-eq0.false) in
    constant_made (g.B.Book.kinds c.args.book.now) c.args.depth c.args.node.now c.in-Constant.word c.args.bank.now c.make-in-Constant.new.self
    c.in_ok-answer-in-Constant.answer l (sym c.in-Constant.is ∙ c.instead_of.ensures) c.in_ok-answer-in-Constant.ensures.nodes
    c.in_ok-answer-in-Constant.ensures.id

pub returns-in_ok-answer-in-Constant-clause-width : goal.returns-in_ok-answer-in-Constant-clause-width
returns-in_ok-answer-in-Constant-clause-width g t c =
    let bank = c.args.bank.now in
    let fits = subst (InsteadFits bank c.args.node.now) (sym c.instead_of.ensures) (instead_fits bank c.requires.bank.ordered c.args.node.now c.requires.can) in
    let d = subst (InsteadFits bank c.args.node.now) c.in-Constant.is fits in c.in_ok-answer-in-Constant.ensures.width ∙ ap (λ z. Some z) d.1

pub returns-in_ok-answer-in-Other-clause-made : goal.returns-in_ok-answer-in-Other-clause-made
returns-in_ok-answer-in-Other-clause-made g t c =
    let l : 0 < c.args.depth = omega (arith, c.if-depth-eq0.false) in
    other_made (g.B.Book.kinds c.args.book.now) c.args.depth c.args.node.now c.in-Other.other c.args.bank.now c.made_within.new.bank
    c.in_ok-answer-in-Other.answer l (sym c.in-Other.is ∙ c.instead_of.ensures) c.in_ok-answer-in-Other.ensures.made

pub returns-in_ok-answer-in-Other-clause-width : goal.returns-in_ok-answer-in-Other-clause-width
returns-in_ok-answer-in-Other-clause-width g t c =
    let bank = c.args.bank.now in
    let fits = subst (InsteadFits bank c.args.node.now) (sym c.instead_of.ensures) (instead_fits bank c.requires.bank.ordered c.args.node.now c.requires.can) in
    let d = subst (InsteadFits bank c.args.node.now) c.in-Other.is fits in c.in_ok-answer-in-Other.ensures.width ∙ ap (λ z. Some z) d.width

pub returns-in_ok-answer-in-Split-clause-made : goal.returns-in_ok-answer-in-Split-clause-made
returns-in_ok-answer-in-Split-clause-made g t c =
    let l : 0 < c.args.depth = omega (arith, c.if-depth-eq0.false) in
    split_made (g.B.Book.kinds c.args.book.now) c.args.depth c.args.node.now c.in-Split.yes c.in-Split.no c.in-Split.test c.in_ok-one-in-Split.one
    c.in_ok-two-in-Split.two c.in_ok-answer-in-Split.answer c.args.bank.now c.made_within-in-Split.new.bank c.made_within-in-Split-2.new.bank
    c.pick.new.bank l (sym c.in-Split.is ∙ c.instead_of.ensures) c.in_ok-one-in-Split.ensures.made c.in_ok-two-in-Split.ensures.made
    c.in_ok-answer-in-Split.ensures.nodes c.in_ok-answer-in-Split.ensures.form

pub returns-in_ok-answer-in-Split-clause-width : goal.returns-in_ok-answer-in-Split-clause-width
returns-in_ok-answer-in-Split-clause-width g t c =
    let bank = c.args.bank.now in
    let fits = subst (InsteadFits bank c.args.node.now) (sym c.instead_of.ensures) (instead_fits bank c.requires.bank.ordered c.args.node.now c.requires.can) in
    c.in_ok-answer-in-Split.ensures.width
    ∙ ap (λ z. Some z) (other_wide bank c.made_within-in-Split.new.bank c.made_within-in-Split-2.new.bank c.args.node.now c.in-Split.yes c.in-Split.no
    c.in-Split.test c.in_ok-one-in-Split.one c.made_within-in-Split-2.ensures.grows
    (subst (InsteadFits bank c.args.node.now) c.in-Split.is fits) c.in_ok-one-in-Split.ensures.width)
