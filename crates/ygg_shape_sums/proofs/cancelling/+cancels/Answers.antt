use Rattle.std.proofs.Common.{rules, ◌<◌, ◌-◌, ◌++◌, ◌∷◌, [], true, false, refl, sym, ◌∙◌, arith}
use Rattle.ygg_shape_sums.proofs.Cancels.{within_spent, within_goes, split_rest, split_stops, remainder_digit}
use Rattle.ygg_shape_sums.specs.Cancels.{cancels_within}
use Rattle.ygg_shape_sums.specs.Readings.{fact}
use Rattle.ygg_shape_sums.proofs.cancelling.+cancels.Goals as goal

pub cancels_within-returns-then-depth-eq0 : goal.cancels_within-returns-then-depth-eq0
cancels_within-returns-then-depth-eq0 t c =
    within_spent c.args.depth c.args.bank.now c.args.width c.args.one c.args.two c.args.facts.now c.if-depth-eq0.true

pub cancels_within-returns-in-Nothing : goal.cancels_within-returns-in-Nothing
cancels_within-returns-in-Nothing t c =
    let d : 0 < c.args.depth = omega (arith, c.if-depth-eq0.false) in
    within_goes c.args.depth c.args.bank.now c.args.width c.args.one c.args.two c.args.facts.now _ true d (sym c.in-Nothing.is ∙ c.in_ok-remainder.ensures) refl

pub cancels_within-returns-in-Open : goal.cancels_within-returns-in-Open
cancels_within-returns-in-Open t c =
    let d : 0 < c.args.depth = omega (arith, c.if-depth-eq0.false) in
    within_goes c.args.depth c.args.bank.now c.args.width c.args.one c.args.two c.args.facts.now _ false d (sym c.in-Open.is ∙ c.in_ok-remainder.ensures) refl

pub cancels_within-cancels_where-requires : goal.cancels_within-cancels_where-requires
cancels_within-cancels_where-requires t c =
    let digit = remainder_digit c.args.bank.now c.args.width c.in-Split.test c.args.facts.now c.args.one c.args.two c.requires.bank.ordered c.requires.one
    c.requires.two (sym (sym c.in-Split.is ∙ c.in_ok-remainder.ensures)) in
    (omega (arith, c.if-depth-eq0.false, c.decreases), (c.requires.bank, (c.requires.width, (c.requires.one, (c.requires.two, (c.requires.facts, digit))))))

pub cancels_within-cancels_where-requires-in-Split : goal.cancels_within-cancels_where-requires-in-Split
cancels_within-cancels_where-requires-in-Split t c =
    let digit = remainder_digit c.args.bank.now c.args.width c.in-Split.test c.args.facts.now c.args.one c.args.two c.requires.bank.ordered c.requires.one
    c.requires.two (sym (sym c.in-Split.is ∙ c.in_ok-remainder.ensures)) in
    (omega (arith, c.if-depth-eq0.false, c.decreases), (c.requires.bank, (c.requires.width, (c.requires.one, (c.requires.two, (c.requires.facts, digit))))))

pub cancels_within-returns-then-not-branch : goal.cancels_within-returns-then-not-branch
cancels_within-returns-then-not-branch t c =
    let d : 0 < c.args.depth = omega (arith, c.if-depth-eq0.false) in
    let facts = c.args.facts.now in
    let test = c.in-Split.test in
    let next = cancels_within (c.args.depth - 1) c.args.bank.now c.args.width c.args.one c.args.two in
    within_goes c.args.depth c.args.bank.now c.args.width c.args.one c.args.two facts _ false d (sym c.in-Split.is ∙ c.in_ok-remainder.ensures)
    (split_stops next facts (facts ++ fact test true ∷ []) test c.in_ok-cancels_where-in-Split.field-0 refl c.in_ok-cancels_where-in-Split.ensures
    (search rules))

pub cancels_within-returns-else-not-branch : goal.cancels_within-returns-else-not-branch
cancels_within-returns-else-not-branch t c =
    let d : 0 < c.args.depth = omega (arith, c.if-depth-eq0.false) in
    split_rest c.args.depth c.args.bank.now c.args.width c.args.one c.args.two c.args.facts.now c.in-Split.test c.in_ok-cancels_where-in-Split.field-0
    c.cancels_where-in-Split.result d (sym c.in-Split.is ∙ c.in_ok-remainder.ensures) c.in_ok-cancels_where-in-Split.ensures (search rules)
    c.cancels_where-in-Split.ensures
