use Rattle.std.proofs.Common.{◌∙◌, refl, arith}
use Rattle.ygg_watch.specs.Status.{state_of}
use Rattle.ygg_watch.proofs.StepLemmas.{live_seen, spreads_on}
use Rattle.ygg_watch.proofs.examine.examine_all.Goals as goal

pub loop-seen-preserved : goal.loop-seen-preserved
loop-seen-preserved c = record {
  live = live_seen c.args.clauses.now c.examine.new.links.watched c.examine.new.links.next c.examine.new.links.firsts c.examine.new.trail.entries.items
      c.examine.new.trail.variable_count c.args.frames.now c.args.head c.loop-seen.seen
      c.examine.ensures.live (c.in-Fine.ensures.fine refl);
  within = omega arith;
  spreads = spreads_on (state_of c.args.clauses.now c.args.trail.now) (state_of c.args.clauses.now c.loop-seen.trail)
      (state_of c.args.clauses.now c.examine.new.trail) c.loop-seen.invariant.spreads c.examine.ensures.spreads;
  starts = c.examine.ensures.starts ∙ c.loop-seen.invariant.starts;
  variable_count = c.examine.ensures.variable_count ∙ c.loop-seen.invariant.variable_count;
}

pub returns-in-False-clause-spreads : goal.returns-in-False-clause-spreads
returns-in-False-clause-spreads c = spreads_on (state_of c.args.clauses.now c.args.trail.now) (state_of c.args.clauses.now c.loop-seen.trail)
    (state_of c.args.clauses.now c.examine.new.trail) c.loop-seen.invariant.spreads c.examine.ensures.spreads

pub returns-in-Stuck-clause-spreads : goal.returns-in-Stuck-clause-spreads
returns-in-Stuck-clause-spreads c = spreads_on (state_of c.args.clauses.now c.args.trail.now) (state_of c.args.clauses.now c.loop-seen.trail)
    (state_of c.args.clauses.now c.examine.new.trail) c.loop-seen.invariant.spreads c.examine.ensures.spreads
