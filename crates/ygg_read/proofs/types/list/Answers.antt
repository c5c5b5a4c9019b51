use Rattle.std.proofs.Common.{[], ◌∷◌, ◌++◌, ◌∙◌, sym, ap, length, arith}
use Rattle.ygg_base.specs.declared.token.Symbol.TheVariants as sign
use Rattle.ygg_syntax.specs.Reading.{in_turn}
use Rattle.ygg_syntax.specs.Expressions.{symbol}
use Rattle.ygg_syntax.specs.Pending.{repeated, next_declared, sign_of, outcome}
use Rattle.ygg_read.proofs.ClaimLists.{first_declared, more_declared_read, declared_read, declared_gone, declared_stops}
use Rattle.ygg_read.proofs.Answered.{if_none}
use Rattle.ygg_read.proofs.Results.{where_same, where_some}
use Rattle.ygg_read.proofs.types.list.Goals as goal

pub loop-all-init : goal.loop-all-init
loop-all-init c =
    let step = rw c.in-Some.is at c.in_ok-first.ensures.read in
    let reads = rw step.1.0 at c.declared.ensures.reads in
    let goes = rw step.1.0 at c.declared.ensures.goes in
    let shorter = rw step.1.0 at c.declared.ensures.shorter in
    first_declared c.args.sort _ c.declared.new.reader c.in-Some.first step.0 reads goes shorter
    (step.1.1 ∙ ap (λ ds. ds ++ step.0 ∷ []) c.new-none.ensures)

pub loop-all-preserved : goal.loop-all-preserved
loop-all-preserved c =
    let step = rw c.in-Some-2.is at c.in_ok-more.ensures.read in
    let reads = rw step.1.0 at c.declared-in-Some-symbol.ensures.reads in
    let goes = rw step.1.0 at c.declared-in-Some-symbol.ensures.goes in
    let shorter = rw step.1.0 at c.declared-in-Some-symbol.ensures.shorter in
    more_declared_read c.args.sort _ c.loop-all.reader c.symbol.new.self c.declared-in-Some-symbol.new.reader c.loop-all.all c.in-Some-2.more
    step.0 c.in-Some-symbol.field-0
    c.loop-all.invariant c.in-Some-symbol.ensures.taken c.in-Some-symbol.ensures.reads reads goes shorter step.1.1

pub loop-all-smaller : goal.loop-all-smaller
loop-all-smaller c =
    let step = rw c.in-Some-2.is at c.in_ok-more.ensures.read in
    let shorter = rw step.1.0 at c.declared-in-Some-symbol.ensures.shorter in
    omega (arith, shorter, ap length c.in-Some-symbol.ensures.taken)

pub returns-in_default-clause-refused : goal.returns-in_default-clause-refused
returns-in_default-clause-refused c =
    let none = rw c.in_default.is at c.in_ok-first.ensures.refused in
    let stopped = rw none at c.declared.ensures.refused in
    λ qs. stopped (repeated (next_declared c.args.sort) ∷ sign_of sign.RoundClose ∷ qs)

pub returns-in_default-2-clause-refused : goal.returns-in_default-2-clause-refused
returns-in_default-2-clause-refused c =
    let none = rw c.in_default-2.is at c.in_ok-more.ensures.refused in
    let stopped = rw none at c.declared-in-Some-symbol.ensures.refused in
    λ qs. declared_stops c.args.sort _ c.loop-all.reader c.symbol.new.self c.declared-in-Some-symbol.new.reader c.loop-all.all c.in-Some-symbol.field-0
    c.loop-all.invariant c.in-Some-symbol.ensures.taken stopped (sign_of sign.RoundClose ∷ qs)

pub returns-clause-refused : goal.returns-clause-refused
returns-clause-refused c =
    if_none c.symbol_after.result _ _ (λ stopped qs.
    declared_gone c.args.sort _ c.loop-all.reader c.loop-all.all c.loop-all.invariant c.in_default-symbol.ensures.other (sign_of sign.RoundClose ∷ qs)
    ∙ ap (outcome (sign_of sign.RoundClose ∷ qs)) (sym c.in_default-symbol.ensures.left) ∙ stopped qs) c.symbol_after.ensures.refused

pub returns-clause-reads : goal.returns-clause-reads
returns-clause-reads c =
    where_same c.loop-all.all c.symbol_after.result _ _ c.symbol_after.ensures.same c.symbol_after.ensures.reads (λ read qs.
    declared_read c.args.sort _ c.loop-all.reader c.loop-all.all c.loop-all.invariant (symbol sign.RoundClose ∷ qs)
    ∙ ap (in_turn (symbol sign.RoundClose ∷ qs)) (sym c.in_default-symbol.ensures.left) ∙ read qs)

pub returns-clause-goes : goal.returns-clause-goes
returns-clause-goes c =
    where_some c.symbol_after.result _ _ (λ gone qs.
    declared_gone c.args.sort _ c.loop-all.reader c.loop-all.all c.loop-all.invariant c.in_default-symbol.ensures.other (sign_of sign.RoundClose ∷ qs)
    ∙ ap (outcome (sign_of sign.RoundClose ∷ qs)) (sym c.in_default-symbol.ensures.left) ∙ gone qs) c.symbol_after.ensures.goes

pub returns-clause-shorter : goal.returns-clause-shorter
returns-clause-shorter c =
    where_some c.symbol_after.result _ _ (λ shorter. omega (arith, shorter, c.loop-all.invariant.shorter, ap length c.in_default-symbol.ensures.left))
    c.symbol_after.ensures.shorter
