use Rattle.std.proofs.Common.{arith, ◌-◌, sym, ◌∙◌}
use Rattle.std.proofs.lemmas.Bool.{false≢true}
use Rattle.ygg_solver.proofs.LearnLemmas.{none_more}
use Rattle.ygg_solver.specs.Learning.{IsSeenAt}
use Rattle.ygg_solver.proofs.seen_places.seen_below.Goals as goal

pub loop-at-preserved : goal.loop-at-preserved
loop-at-preserved c = (
  omega arith,
  none_more (IsSeenAt c.args.seen.now c.args.trail.now) (c.loop-at.at - 1) c.args.end
      (λ m. false≢true (sym c.if-is_seen_at.false ∙ c.is_seen_at.ensures.1 m)) (λ q l. c.loop-at.invariant.1 q (omega arith)),
)

pub returns : goal.returns
returns c q l k = c.loop-at.invariant.1 q (omega arith) k

pub returns-then-is_seen_at : goal.returns-then-is_seen_at
returns-then-is_seen_at c = record {
  from = omega arith;
  below = omega arith;
  is_seen = c.is_seen_at.ensures.0 c.if-is_seen_at.true;
  last = λ q l. c.loop-at.invariant.1 q (omega arith);
}
