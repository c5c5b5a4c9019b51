use Rattle.std.proofs.Common.{arith, ◌+◌, ℕ, sym, subst, List}
use Rattle.ygg_cnf_set.specs.LiteralSet.{InSet}
use Rattle.ygg_solver.proofs.LearnLemmas.{none_is_some, chain_more, falses_step, falses_down}
use Rattle.ygg_solver.specs.Learning.{ChainReaches}
use Rattle.ygg_solver.proofs.analysis.resolve_rest.Goals as goal

pub unreachable-requires : goal.unreachable-requires
unreachable-requires c =
    absurd (none_is_some c.entry_at.result.reason c.in_default-reason.is (c.requires.implied c.in-Some.at c.entry_at.result c.entry_at.ensures))

pub loop-at-preserved : goal.loop-at-preserved
loop-at-preserved c = record {
  within = omega (arith, c.in-Some.ensures.below, c.loop-at.invariant.within);
  falses = falses_step c.args.clauses.now c.args.trail.now (InSet c.loop-at.seen) (InSet c.resolve_at.new.seen) c.in-Some.at
      c.entry_at.result c.requires.sound c.entry_at.ensures
      (falses_down c.loop-at.seen c.args.trail.now (c.in-Some.at + 1) c.loop-at.end (λ q l. c.in-Some.ensures.last q (omega arith)) c.loop-at.invariant.falses)
      c.resolve_at.ensures.is_seen;
  reached = subst (λ (l : List ℕ). ChainReaches c.args.clauses.now c.resolve_at.new.seen l) (sym c.in_ok-push.ensures.items)
      (chain_more c.args.clauses.now c.loop-at.seen c.resolve_at.new.seen c.loop-at.chain.items c.in-Some-reason.id
      c.loop-at.invariant.reached c.resolve_at.ensures.step);
}

pub returns-clause-none : goal.returns-clause-none
returns-clause-none c y m =
    let (q, (e, (l, r))) = falses_down c.loop-at.seen c.args.trail.now 0 c.loop-at.end c.in_default.ensures c.loop-at.invariant.falses y m in omega arith
