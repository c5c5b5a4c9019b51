use Rattle.std.proofs.Common.{◌<◌, ◌∙◌, refl, sym, subst, ap, All, List, length, arith, Some, length-append}
use Rattle.ygg_cnf.specs.declared.lit.Lit.{Lit}
use Rattle.ygg_watch.proofs.StatusLemmas.{spreads_none, step_spreads, state_same, within_of, number_within, quiet_or_false, one_false}
use Rattle.ygg_watch.specs.Propagation.{IsWithin, IsConflict}
use Rattle.ygg_watch.specs.Status.{state_of}
use Rattle.ygg_watch.proofs.AssignmentLemmas.{has_place}
use Rattle.ygg_watch.specs.declared.entry.Entry.{Entry}
use Rattle.ygg_watch.proofs.spreading.spread.Goals as goal

pub loop-id-smaller : goal.loop-id-smaller
loop-id-smaller c =
    let within : c.in-Unit.lit.var < c.loop-id.trail.variable_count
    = let w = within_of c.args.clauses.now c.args.trail.now.variable_count c.in-Unit.id c.in-Unit.ensures.0 c.in-Unit.lit c.requires.within
    c.in-Unit.ensures.1.0
    c.in-Unit.ensures.1.1.0 in
    omega (arith, w, c.loop-id.invariant.variable_count) in
    let l : length c.loop-id.trail.entries.items < c.loop-id.trail.variable_count = has_place c.loop-id.trail.entries.items
    (record { lit = c.in-Unit.lit; level = 0; reason = Some c.in-Unit.id }) c.loop-id.trail.variable_count c.loop-id.trail.trail
    c.in-Unit.ensures.1.1.1.0 within in
    let e = ap (λ (t : List Entry). length t) c.push.ensures.entries in
    omega (arith, l, e, c.push.ensures.variable_count, length-append {A = Entry})

pub loop-id-preserved : goal.loop-id-preserved
loop-id-preserved c =
    let within : c.in-Unit.lit.var < c.loop-id.trail.variable_count
    = let w = within_of c.args.clauses.now c.args.trail.now.variable_count c.in-Unit.id c.in-Unit.ensures.0 c.in-Unit.lit c.requires.within
    c.in-Unit.ensures.1.0
    c.in-Unit.ensures.1.1.0 in
    omega (arith, w, c.loop-id.invariant.variable_count) in
    let clauses : List (List Lit) = c.args.clauses.now in
    record {
      spreads = step_spreads (state_of clauses c.args.trail.now)
          (state_of clauses c.loop-id.trail) c.in-Unit.id c.in-Unit.lit c.in-Unit.ensures.0 c.loop-id.invariant.spreads
          c.in-Unit.ensures.1.0 c.in-Unit.ensures.1.1 within (state_of clauses c.push.new.self)
          (state_same clauses _ _ _ _ _ _ _ c.push.ensures.entries c.push.ensures.starts c.push.ensures.variable_count);
      starts = c.push.ensures.starts ∙ c.loop-id.invariant.starts;
      variable_count = c.push.ensures.variable_count ∙ c.loop-id.invariant.variable_count;
    }

pub loop-id-init : goal.loop-id-init
loop-id-init c = record { spreads = spreads_none (state_of c.args.clauses.now c.args.trail.now); starts = refl; variable_count = refl }

pub scan-requires : goal.scan-requires
scan-requires c = subst (λ n. All (IsWithin n) c.args.clauses.now) (sym c.loop-id.invariant.variable_count) c.requires.within

pub returns-in-Quiet-clause-spreads : goal.returns-in-Quiet-clause-spreads
returns-in-Quiet-clause-spreads c = c.loop-id.invariant.spreads

pub returns-in-Quiet-clause-quiet : goal.returns-in-Quiet-clause-quiet
returns-in-Quiet-clause-quiet c _ = c.in-Quiet.ensures

pub returns-in-Quiet-clause-found : goal.returns-in-Quiet-clause-found
returns-in-Quiet-clause-found c id e = absurd (quiet_or_false id e)

pub returns-in-False-clause-spreads : goal.returns-in-False-clause-spreads
returns-in-False-clause-spreads c = c.loop-id.invariant.spreads

pub returns-in-False-clause-quiet : goal.returns-in-False-clause-quiet
returns-in-False-clause-quiet c e = absurd (quiet_or_false c.in-False.id (sym e))

pub returns-in-False-clause-found : goal.returns-in-False-clause-found
returns-in-False-clause-found c id e = subst (IsConflict c.args.clauses.now c.loop-id.trail.entries.items) (one_false c.in-False.id id e) c.in-False.ensures

pub push-requires-clause-within : goal.push-requires-clause-within
push-requires-clause-within c =
    let w = within_of c.args.clauses.now c.args.trail.now.variable_count c.in-Unit.id c.in-Unit.ensures.0 c.in-Unit.lit c.requires.within
    c.in-Unit.ensures.1.0 c.in-Unit.ensures.1.1.0 in
    omega (arith, w, c.loop-id.invariant.variable_count)

pub push-requires-clause-fresh : goal.push-requires-clause-fresh
push-requires-clause-fresh c = c.in-Unit.ensures.1.1.1.0

pub push-requires-clause-reason : goal.push-requires-clause-reason
push-requires-clause-reason c =
    let n = number_within c.args.clauses.now c.in-Unit.id c.in-Unit.ensures.0 c.in-Unit.ensures.1.0 in let few = c.requires.few in
    (n.0, omega (arith, n.1, few))
