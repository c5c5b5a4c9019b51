use Rattle.std.proofs.Common.{arith, sym, ◌∙◌}
use Rattle.std.proofs.lemmas.Bool.{false≢true}
use Rattle.ygg_solver.proofs.LearnLemmas.{none_more}
use Rattle.ygg_solver.specs.Learning.{IsSeenAt}
use Rattle.ygg_solver.proofs.seen_places.seen_from.Goals as goal

pub loop-at-preserved : goal.loop-at-preserved
loop-at-preserved c = (
  omega arith,
  omega arith,
  λ q l k. none_more (IsSeenAt c.args.seen.now c.args.trail.now) c.loop-at.at c.args.end
      (λ m. false≢true (sym c.if-is_seen_at.false ∙ c.is_seen_at.ensures.1 m)) (λ p e. c.loop-at.invariant.2 p (omega arith)) q (omega arith) k,
)
