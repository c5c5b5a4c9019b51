use Rattle.std.proofs.Common.{◌∙◌, arith, refl, sym, ap}
use Rattle.ygg_cnf.proofs.Lits.{complement_twice}
use Rattle.ygg_cnf.specs.Literals.{complement}
use Rattle.ygg_watch.specs.Status.{state_of}
use Rattle.ygg_watch.proofs.AssignmentLemmas.{filled}
use Rattle.ygg_watch.proofs.StatusLemmas.{spreads_none}
use Rattle.ygg_watch.proofs.StepLemmas.{live_head, spreads_on, at_spread}
use Rattle.ygg_watch.proofs.visit.visit_all.Goals as goal

pub returns-in-Some-clause-spreads : goal.returns-in-Some-clause-spreads
returns-in-Some-clause-spreads c = spreads_on (state_of c.args.clauses.now c.args.trail.now) (state_of c.args.clauses.now c.loop-head.trail)
    (state_of c.args.clauses.now c.visit.new.trail) c.loop-head.invariant.spreads c.visit.ensures.spreads

pub loop-head-smaller : goal.loop-head-smaller
loop-head-smaller c =
    let f = filled c.loop-head.trail.entries.items c.loop-head.trail.variable_count c.loop-head.trail.trail in
    let l = c.loop-head-test.true in let e = c.len.ensures in let r = c.visit.ensures.variable_count in omega (arith, f, l, e, r)

pub loop-head-preserved : goal.loop-head-preserved
loop-head-preserved c = record {
  live = live_head c.args.clauses.now c.visit.new.links.watched c.visit.new.links.next c.visit.new.links.firsts c.loop-head.trail.entries.items
      c.visit.new.trail.entries.items c.visit.new.trail.variable_count c.args.frames.now c.loop-head.head c.args.seen
      c.at.result c.complement-lit.result c.visit.ensures.live
      (at_spread (state_of c.args.clauses.now c.loop-head.trail)
      (state_of c.args.clauses.now c.visit.new.trail) c.loop-head.head c.at.result c.visit.ensures.spreads c.at.ensures)
      (sym (complement_twice c.at.result.lit) ∙ ap complement (sym c.complement-lit.ensures)) c.in_default.ensures.done;
  spreads = spreads_on (state_of c.args.clauses.now c.args.trail.now) (state_of c.args.clauses.now c.loop-head.trail)
      (state_of c.args.clauses.now c.visit.new.trail) c.loop-head.invariant.spreads c.visit.ensures.spreads;
  starts = c.visit.ensures.starts ∙ c.loop-head.invariant.starts;
  variable_count = c.visit.ensures.variable_count ∙ c.loop-head.invariant.variable_count;
}

pub loop-head-init : goal.loop-head-init
loop-head-init c = record {
  live = c.requires.live;
  spreads = spreads_none (state_of c.args.clauses.now c.args.trail.now);
  starts = refl;
  variable_count = refl;
}

pub visit-requires-clause-live : goal.visit-requires-clause-live
visit-requires-clause-live c = c.loop-head.invariant.live

pub visit-requires-clause-entry : goal.visit-requires-clause-entry
visit-requires-clause-entry c =
    (c.at.result, (c.at.ensures, sym (complement_twice c.at.result.lit) ∙ ap complement (sym c.complement-lit.ensures)))

pub returns-in-Some-clause-live : goal.returns-in-Some-clause-live
returns-in-Some-clause-live c = c.visit.ensures.live

pub returns-in-Some-clause-found : goal.returns-in-Some-clause-found
returns-in-Some-clause-found c = c.in-Some.ensures.found

pub overflow_add-head : goal.overflow_add-head
overflow_add-head c = let l = c.loop-head-test.true in let fits = c.len.type_inv in omega (arith, l, fits)

pub returns-clause-live : goal.returns-clause-live
returns-clause-live c = c.loop-head.invariant.live

pub returns-clause-spreads : goal.returns-clause-spreads
returns-clause-spreads c = c.loop-head.invariant.spreads

pub returns-clause-done : goal.returns-clause-done
returns-clause-done c = let l = c.loop-head-test.false in let is = c.len.ensures in omega (arith, l, is)
