use Rattle.std.proofs.Common.{rules, ◌≡◌, ◌<◌, IfOk, OnOk, slice_get, refl, sym, ap, ◌∙◌, subst, arith}
use Rattle.ygg_shape_words.specs.ygg_bank_proofs_Widths.{stands, wider, width_is}
use Rattle.ygg_shape_words.specs.ygg_bank.Makes.{Out}
use Rattle.ygg_shape_words.specs.ygg_bank.Nodes.{HasWidth}
use Rattle.ygg_shape_words.specs.ygg_bank.declared.node.Id.{Id}
use Rattle.ygg_shape_words.proofs.Fit.{can_pick}
use Rattle.ygg_shape_sums.proofs.Shared.{SharingFits, sharing_fits}
use Rattle.ygg_shape_sums.proofs.Steps.{inside_zero, inside_more, halves_go}
use Rattle.ygg_shape_sums.specs.declared.sharing.Sharing.TheVariants as sharing
use Rattle.ygg_shape_sums.proofs.sharing.+shared_inside.Goals as goal

pub returns-then-depth-eq0-clause-nodes : goal.returns-then-depth-eq0-clause-nodes
returns-then-depth-eq0-clause-nodes g t c =
    subst (λ (o : Out Id). OnOk c.shared_within.result (c.shared_within.new.bank ≡ o.nodes))
    (inside_zero (g.B.Book.kinds c.args.book.now) c.args.width c.args.depth c.args.term c.args.bank.now c.if-depth-eq0.true) c.shared_within.ensures.nodes

pub returns-then-depth-eq0-clause-form : goal.returns-then-depth-eq0-clause-form
returns-then-depth-eq0-clause-form g t c =
    subst (λ (o : Out Id). IfOk c.shared_within.result (λ (id : Id). id ≡ o.value))
    (inside_zero (g.B.Book.kinds c.args.book.now) c.args.width c.args.depth c.args.term c.args.bank.now c.if-depth-eq0.true) c.shared_within.ensures.form

pub sharing_of-requires-clause-term : goal.sharing_of-requires-clause-term
sharing_of-requires-clause-term g t c = stands c.args.bank.now c.args.term c.args.width c.requires.term

pub shared_inside-requires : goal.shared_inside-requires
shared_inside-requires g t c κs within =
    let old = c.args.bank.now in
    let a = c.args.term in
    let w = c.args.width in
    let fits : SharingFits old w (sharing.Either c.in-Either.test c.in-Either.yes c.in-Either.no) =
    subst (SharingFits old w) (sym c.in-Either.ensures) (sharing_fits old w a (slice_get old a.0) c.requires.bank.ordered refl c.requires.term) in
    let two = fits.1 in
    (omega (arith, c.if-depth-eq0.false), (search rules, (c.requires.bank, (c.requires.width, two.0))))

pub shared_inside-requires-in-Either : goal.shared_inside-requires-in-Either
shared_inside-requires-in-Either g t c κs within =
    let old = c.args.bank.now in
    let a = c.args.term in
    let w = c.args.width in
    let fits : SharingFits old w (sharing.Either c.in-Either.test c.in-Either.yes c.in-Either.no) =
    subst (SharingFits old w) (sym c.in-Either.ensures) (sharing_fits old w a (slice_get old a.0) c.requires.bank.ordered refl c.requires.term) in
    let two = fits.1 in
    let no = wider old c.shared_inside.new.bank c.in-Either.no w c.shared_inside.ensures.grows two.1 in
    (omega (arith, c.if-depth-eq0.false), (search rules, (c.shared_inside.ensures.bank, (c.requires.width, no))))

pub pick-requires-clause-pick : goal.pick-requires-clause-pick
pick-requires-clause-pick g t c =
    let old = c.args.bank.now in
    let a = c.args.term in
    let w = c.args.width in
    let fits : SharingFits old w (sharing.Either c.in-Either.test c.in-Either.yes c.in-Either.no) =
    subst (SharingFits old w) (sym c.in-Either.ensures) (sharing_fits old w a (slice_get old a.0) c.requires.bank.ordered refl c.requires.term) in
    let two = fits.1 in
    let first = c.shared_inside.new.bank in
    let new = c.shared_inside-in-Either.new.bank in
    let grows = c.shared_inside-in-Either.ensures.grows in
    can_pick new c.in-Either.test c.in_ok-one-in-Either.one c.in_ok-two-in-Either.two w
    (wider first new c.in-Either.test 1 grows (wider old first c.in-Either.test 1 c.shared_inside.ensures.grows fits.0))
    (wider first new c.in_ok-one-in-Either.one w grows c.in_ok-one-in-Either.ensures.width) c.in_ok-two-in-Either.ensures.width

pub returns-in_ok-two-in-Either-clause-width : goal.returns-in_ok-two-in-Either-clause-width
returns-in_ok-two-in-Either-clause-width g t c =
    let w = c.args.width in
    let new = c.shared_inside-in-Either.new.bank in
    let one = wider c.shared_inside.new.bank new c.in_ok-one-in-Either.one w c.shared_inside-in-Either.ensures.grows c.in_ok-one-in-Either.ensures.width in
    subst (λ u. IfOk c.pick.result (λ (id : Id). HasWidth c.pick.new.bank id u)) (width_is new c.in_ok-one-in-Either.one w one) c.pick.ensures.width

pub returns-in_ok-two-in-Either-clause-nodes : goal.returns-in_ok-two-in-Either-clause-nodes
returns-in_ok-two-in-Either-clause-nodes g t c =
    let l : 0 < c.args.depth = omega (arith, c.if-depth-eq0.false) in
    let one = c.in_ok-one-in-Either in
    let two = c.in_ok-two-in-Either in
    subst (λ (o : Out Id). OnOk c.pick.result (c.pick.new.bank ≡ o.nodes))
    (halves_go (g.B.Book.kinds c.args.book.now) c.args.width c.args.depth c.args.term c.args.bank.now c.shared_inside.new.bank l c.in-Either.test
    c.in-Either.yes c.in-Either.no one.one two.two c.shared_inside-in-Either.new.bank c.in-Either.ensures one.ensures.nodes one.ensures.form
    two.ensures.nodes two.ensures.form) c.pick.ensures.nodes

pub returns-in_ok-two-in-Either-clause-form : goal.returns-in_ok-two-in-Either-clause-form
returns-in_ok-two-in-Either-clause-form g t c =
    let l : 0 < c.args.depth = omega (arith, c.if-depth-eq0.false) in
    let one = c.in_ok-one-in-Either in
    let two = c.in_ok-two-in-Either in
    subst (λ (o : Out Id). IfOk c.pick.result (λ (id : Id). id ≡ o.value))
    (halves_go (g.B.Book.kinds c.args.book.now) c.args.width c.args.depth c.args.term c.args.bank.now c.shared_inside.new.bank l c.in-Either.test
    c.in-Either.yes c.in-Either.no one.one two.two c.shared_inside-in-Either.new.bank c.in-Either.ensures one.ensures.nodes one.ensures.form
    two.ensures.nodes two.ensures.form) c.pick.ensures.form

pub returns-in-Apart-clause-nodes : goal.returns-in-Apart-clause-nodes
returns-in-Apart-clause-nodes g t c =
    let l : 0 < c.args.depth = omega (arith, c.if-depth-eq0.false) in
    subst (λ (o : Out Id). OnOk c.shared_within-in-Apart.result (c.shared_within-in-Apart.new.bank ≡ o.nodes))
    (inside_more (g.B.Book.kinds c.args.book.now) c.args.width c.args.depth c.args.term c.args.bank.now
    sharing.Apart l c.in-Apart.ensures) c.shared_within-in-Apart.ensures.nodes

pub returns-in-Apart-clause-form : goal.returns-in-Apart-clause-form
returns-in-Apart-clause-form g t c =
    let l : 0 < c.args.depth = omega (arith, c.if-depth-eq0.false) in
    subst (λ (o : Out Id). IfOk c.shared_within-in-Apart.result (λ (id : Id). id ≡ o.value))
    (inside_more (g.B.Book.kinds c.args.book.now) c.args.width c.args.depth c.args.term c.args.bank.now
    sharing.Apart l c.in-Apart.ensures) c.shared_within-in-Apart.ensures.form

pub returns-in-Beside-clause-nodes : goal.returns-in-Beside-clause-nodes
returns-in-Beside-clause-nodes g t c =
    let l : 0 < c.args.depth = omega (arith, c.if-depth-eq0.false) in
    subst (λ (o : Out Id). OnOk c.shared_within-in-Beside.result (c.shared_within-in-Beside.new.bank ≡ o.nodes))
    (inside_more (g.B.Book.kinds c.args.book.now) c.args.width c.args.depth c.args.term c.args.bank.now
    (sharing.Beside c.in-Beside.other c.in-Beside.pick) l c.in-Beside.ensures) c.shared_within-in-Beside.ensures.nodes

pub returns-in-Beside-clause-form : goal.returns-in-Beside-clause-form
returns-in-Beside-clause-form g t c =
    let l : 0 < c.args.depth = omega (arith, c.if-depth-eq0.false) in
    subst (λ (o : Out Id). IfOk c.shared_within-in-Beside.result (λ (id : Id). id ≡ o.value))
    (inside_more (g.B.Book.kinds c.args.book.now) c.args.width c.args.depth c.args.term c.args.bank.now
    (sharing.Beside c.in-Beside.other c.in-Beside.pick) l c.in-Beside.ensures) c.shared_within-in-Beside.ensures.form

pub returns-in-More-clause-nodes : goal.returns-in-More-clause-nodes
returns-in-More-clause-nodes g t c =
    let l : 0 < c.args.depth = omega (arith, c.if-depth-eq0.false) in
    subst (λ (o : Out Id). OnOk c.shared_within-in-More.result (c.shared_within-in-More.new.bank ≡ o.nodes))
    (inside_more (g.B.Book.kinds c.args.book.now) c.args.width c.args.depth c.args.term c.args.bank.now
    (sharing.More c.in-More.test c.in-More.digit c.in-More.base c.in-More.more) l c.in-More.ensures) c.shared_within-in-More.ensures.nodes

pub returns-in-More-clause-form : goal.returns-in-More-clause-form
returns-in-More-clause-form g t c =
    let l : 0 < c.args.depth = omega (arith, c.if-depth-eq0.false) in
    subst (λ (o : Out Id). IfOk c.shared_within-in-More.result (λ (id : Id). id ≡ o.value))
    (inside_more (g.B.Book.kinds c.args.book.now) c.args.width c.args.depth c.args.term c.args.bank.now
    (sharing.More c.in-More.test c.in-More.digit c.in-More.base c.in-More.more) l c.in-More.ensures) c.shared_within-in-More.ensures.form
