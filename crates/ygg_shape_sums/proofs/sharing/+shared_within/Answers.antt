use Rattle.std.proofs.Common.{rules, ◌≡◌, ◌<◌, IfOk, OnOk, slice_get, refl, sym, ap, ◌∙◌, subst, arith}
use Rattle.ygg_shape_words.specs.ygg_bank_proofs_Widths.{stands, wider}
use Rattle.ygg_shape_words.specs.ygg_bank.Makes.{Out}
use Rattle.ygg_shape_words.specs.ygg_bank.declared.node.Id.{Id}
use Rattle.ygg_shape_sums.proofs.Shared.{SharingFits, sharing_fits}
use Rattle.ygg_shape_sums.proofs.Steps.{shared_zero, shared_more, beside_goes, more_goes}
use Rattle.ygg_shape_sums.specs.declared.sharing.Sharing.TheVariants as sharing
use Rattle.ygg_shape_sums.proofs.sharing.+shared_within.Goals as goal

pub returns-then-depth-eq0-clause-nodes : goal.returns-then-depth-eq0-clause-nodes
returns-then-depth-eq0-clause-nodes g t c =
    ap (λ (o : Out Id). o.nodes) (sym (shared_zero (g.B.Book.kinds c.args.book.now) c.args.width c.args.depth c.args.term c.args.bank.now c.if-depth-eq0.true))

pub returns-then-depth-eq0-clause-form : goal.returns-then-depth-eq0-clause-form
returns-then-depth-eq0-clause-form g t c =
    ap (λ (o : Out Id). o.value) (sym (shared_zero (g.B.Book.kinds c.args.book.now) c.args.width c.args.depth c.args.term c.args.bank.now c.if-depth-eq0.true))

pub sharing_of-requires-clause-term : goal.sharing_of-requires-clause-term
sharing_of-requires-clause-term g t c = stands c.args.bank.now c.args.term c.args.width c.requires.term

pub shared_within-requires : goal.shared_within-requires
shared_within-requires g t c κs within =
    let old = c.args.bank.now in
    let a = c.args.term in
    let w = c.args.width in
    let fits : SharingFits old w (sharing.Beside c.in-Beside.other c.in-Beside.pick) =
    subst (SharingFits old w) (sym c.in-Beside.ensures) (sharing_fits old w a (slice_get old a.0) c.requires.bank.ordered refl c.requires.term) in
    (omega (arith, c.if-depth-eq0.false), (search rules, (c.requires.bank, (c.requires.width, fits.1))))

pub sum-requires-clause-one : goal.sum-requires-clause-one
sum-requires-clause-one g t c =
    let old = c.args.bank.now in
    let a = c.args.term in
    let w = c.args.width in
    let fits : SharingFits old w (sharing.Beside c.in-Beside.other c.in-Beside.pick) =
    subst (SharingFits old w) (sym c.in-Beside.ensures) (sharing_fits old w a (slice_get old a.0) c.requires.bank.ordered refl c.requires.term) in
    wider old c.shared_within.new.bank c.in-Beside.other w c.shared_within.ensures.grows fits.0

pub shared_within-requires-in-More : goal.shared_within-requires-in-More
shared_within-requires-in-More g t c κs within =
    let old = c.args.bank.now in
    let a = c.args.term in
    let w = c.args.width in
    let fits : SharingFits old w (sharing.More c.in-More.test c.in-More.digit c.in-More.base c.in-More.more) =
    subst (SharingFits old w) (sym c.in-More.ensures) (sharing_fits old w a (slice_get old a.0) c.requires.bank.ordered refl c.requires.term) in
    let two = fits.1 in
    (omega (arith, c.if-depth-eq0.false), (search rules, (c.requires.bank, (c.requires.width, two.0))))

pub more_where-requires-clause-test : goal.more_where-requires-clause-test
more_where-requires-clause-test g t c =
    let old = c.args.bank.now in
    let a = c.args.term in
    let w = c.args.width in
    let fits : SharingFits old w (sharing.More c.in-More.test c.in-More.digit c.in-More.base c.in-More.more) =
    subst (SharingFits old w) (sym c.in-More.ensures) (sharing_fits old w a (slice_get old a.0) c.requires.bank.ordered refl c.requires.term) in
    wider old c.shared_within-in-More.new.bank c.in-More.test 1 c.shared_within-in-More.ensures.grows fits.0

pub more_where-requires-clause-more : goal.more_where-requires-clause-more
more_where-requires-clause-more g t c =
    let old = c.args.bank.now in
    let a = c.args.term in
    let w = c.args.width in
    let fits : SharingFits old w (sharing.More c.in-More.test c.in-More.digit c.in-More.base c.in-More.more) =
    subst (SharingFits old w) (sym c.in-More.ensures) (sharing_fits old w a (slice_get old a.0) c.requires.bank.ordered refl c.requires.term) in
    let two = fits.1 in
    wider old c.shared_within-in-More.new.bank c.in-More.more w c.shared_within-in-More.ensures.grows two.1

pub returns-in-Apart-clause-nodes : goal.returns-in-Apart-clause-nodes
returns-in-Apart-clause-nodes g t c =
    let l : 0 < c.args.depth = omega (arith, c.if-depth-eq0.false) in
    ap (λ (o : Out Id). o.nodes)
    (shared_more (g.B.Book.kinds c.args.book.now) c.args.width c.args.depth c.args.term c.args.bank.now sharing.Apart l c.in-Apart.ensures)

pub returns-in-Apart-clause-form : goal.returns-in-Apart-clause-form
returns-in-Apart-clause-form g t c =
    let l : 0 < c.args.depth = omega (arith, c.if-depth-eq0.false) in
    ap (λ (o : Out Id). o.value)
    (shared_more (g.B.Book.kinds c.args.book.now) c.args.width c.args.depth c.args.term c.args.bank.now sharing.Apart l c.in-Apart.ensures)

pub returns-in-Either-clause-nodes : goal.returns-in-Either-clause-nodes
returns-in-Either-clause-nodes g t c =
    let l : 0 < c.args.depth = omega (arith, c.if-depth-eq0.false) in
    ap (λ (o : Out Id). o.nodes)
    (shared_more (g.B.Book.kinds c.args.book.now) c.args.width c.args.depth c.args.term c.args.bank.now
    (sharing.Either c.in-Either.test c.in-Either.yes c.in-Either.no) l c.in-Either.ensures)

pub returns-in-Either-clause-form : goal.returns-in-Either-clause-form
returns-in-Either-clause-form g t c =
    let l : 0 < c.args.depth = omega (arith, c.if-depth-eq0.false) in
    ap (λ (o : Out Id). o.value)
    (shared_more (g.B.Book.kinds c.args.book.now) c.args.width c.args.depth c.args.term c.args.bank.now
    (sharing.Either c.in-Either.test c.in-Either.yes c.in-Either.no) l c.in-Either.ensures)

pub returns-in_ok-inner-in-Beside-clause-nodes : goal.returns-in_ok-inner-in-Beside-clause-nodes
returns-in_ok-inner-in-Beside-clause-nodes g t c =
    let l : 0 < c.args.depth = omega (arith, c.if-depth-eq0.false) in
    let inner = c.in_ok-inner-in-Beside in
    subst (λ (o : Out Id). OnOk c.sum.result (c.sum.new.bank ≡ o.nodes))
    (beside_goes (g.B.Book.kinds c.args.book.now) c.args.width c.args.depth c.args.term c.args.bank.now c.shared_within.new.bank l c.in-Beside.other
    c.in-Beside.pick inner.inner c.in-Beside.ensures inner.ensures.nodes inner.ensures.form) c.sum.ensures.nodes

pub returns-in_ok-inner-in-Beside-clause-form : goal.returns-in_ok-inner-in-Beside-clause-form
returns-in_ok-inner-in-Beside-clause-form g t c =
    let l : 0 < c.args.depth = omega (arith, c.if-depth-eq0.false) in
    let inner = c.in_ok-inner-in-Beside in
    subst (λ (o : Out Id). IfOk c.sum.result (λ (id : Id). id ≡ o.value))
    (beside_goes (g.B.Book.kinds c.args.book.now) c.args.width c.args.depth c.args.term c.args.bank.now c.shared_within.new.bank l c.in-Beside.other
    c.in-Beside.pick inner.inner c.in-Beside.ensures inner.ensures.nodes inner.ensures.form) c.sum.ensures.form

pub returns-in_ok-inner-in-More-clause-nodes : goal.returns-in_ok-inner-in-More-clause-nodes
returns-in_ok-inner-in-More-clause-nodes g t c =
    let l : 0 < c.args.depth = omega (arith, c.if-depth-eq0.false) in
    let inner = c.in_ok-inner-in-More in
    subst (λ (o : Out Id). OnOk c.more_where.result (c.more_where.new.bank ≡ o.nodes))
    (more_goes (g.B.Book.kinds c.args.book.now) c.args.width c.args.depth c.args.term c.args.bank.now c.shared_within-in-More.new.bank l c.in-More.test
    c.in-More.digit c.in-More.base c.in-More.more inner.inner c.in-More.ensures inner.ensures.nodes inner.ensures.form) c.more_where.ensures.nodes

pub returns-in_ok-inner-in-More-clause-form : goal.returns-in_ok-inner-in-More-clause-form
returns-in_ok-inner-in-More-clause-form g t c =
    let l : 0 < c.args.depth = omega (arith, c.if-depth-eq0.false) in
    let inner = c.in_ok-inner-in-More in
    subst (λ (o : Out Id). IfOk c.more_where.result (λ (id : Id). id ≡ o.value))
    (more_goes (g.B.Book.kinds c.args.book.now) c.args.width c.args.depth c.args.term c.args.bank.now c.shared_within-in-More.new.bank l c.in-More.test
    c.in-More.digit c.in-More.base c.in-More.more inner.inner c.in-More.ensures inner.ensures.nodes inner.ensures.form) c.more_where.ensures.form
