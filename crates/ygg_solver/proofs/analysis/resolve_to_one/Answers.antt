use Rattle.std.proofs.Common.{All, ap, ◌∙◌, arith, ◌+◌, ℕ, sym, subst, List, length, IsSome}
use Rattle.std.proofs.lemmas.Option.{same_Some}
use Rattle.ygg_watch.specs.declared.entry.Entry.{Entry}
use Rattle.ygg_cnf_set.specs.LiteralSet.{InSet, Fits}
use Rattle.ygg_solver.proofs.LearnLemmas.{seen_within, none_is_some, seen_stays, chain_more, falses_step, falses_down, not_here, lower, later}
use Rattle.ygg_solver.specs.Learning.{ChainReaches}
use Rattle.ygg_solver.proofs.analysis.resolve_to_one.Goals as goal

pub loop-other-init : goal.loop-other-init
loop-other-init c = record {
  from = c.in-Some.ensures.from;
  within = c.in-Some.ensures.below;
  is_seen = c.in-Some.ensures.is_seen;
  falses = falses_down c.args.seen.now c.args.trail.now (c.in-Some.at + 1) (length c.args.trail.now)
      (λ q l. c.in-Some.ensures.last q (omega arith)) c.requires.falses;
  reached = c.requires.reached;
}

pub seen_from-at-requires-clause-is_seen : goal.seen_from-at-requires-clause-is_seen
seen_from-at-requires-clause-is_seen c =
    seen_stays c.args.clauses.now c.loop-other.seen c.resolve_at.new.seen c.args.trail.now c.loop-other.at c.in-Some-seen_below.other c.requires.sound
    c.in-Some-seen_below.ensures.below c.in-Some-seen_below.ensures.is_seen c.resolve_at.ensures.kept

pub loop-other-preserved : goal.loop-other-preserved
loop-other-preserved c = record {
  from = omega (arith, c.in-Some-seen_below.ensures.from, c.seen_from-at.ensures.low);
  within = omega (arith, c.seen_from-at.ensures.below, c.loop-other.invariant.within);
  is_seen = c.seen_from-at.ensures.is_seen;
  falses = falses_down c.resolve_at.new.seen c.args.trail.now (c.seen_from-at.result + 1) c.loop-other.at
      (λ q l. c.seen_from-at.ensures.last q (omega arith))
      (falses_step c.args.clauses.now c.args.trail.now (InSet c.loop-other.seen) (InSet c.resolve_at.new.seen) c.loop-other.at
      c.entry_at.result c.requires.sound c.entry_at.ensures c.loop-other.invariant.falses c.resolve_at.ensures.is_seen);
  reached = subst (λ (l : List ℕ). ChainReaches c.args.clauses.now c.resolve_at.new.seen l) (sym c.in_ok-push.ensures.items)
      (chain_more c.args.clauses.now c.loop-other.seen c.resolve_at.new.seen c.loop-other.chain.items c.in-Some-reason.id
      c.loop-other.invariant.reached c.resolve_at.ensures.step);
}

pub returns-clause-alone : goal.returns-clause-alone
returns-clause-alone c y m n =
    lower c.loop-other.seen c.args.trail.now c.args.start c.loop-other.at y c.in_default-seen_below.ensures m
    (not_here c.args.trail.now c.loop-other.at c.loop-other.invariant.is_seen.0 y c.loop-other.invariant.is_seen.1.0 (c.loop-other.invariant.falses y m) n)

pub unreachable-requires : goal.unreachable-requires
unreachable-requires c =
    let some = c.requires.some in
    c.in_default.ensures some.0 some.1.0 (seen_within c.args.seen.now c.args.trail.now some.0 some.1.1) some.1.1

pub unreachable-requires-in_default-reason : goal.unreachable-requires-in_default-reason
unreachable-requires-in_default-reason c =
    let h : IsSome c.entry_at.result.reason = c.requires.implied c.loop-other.at c.entry_at.result
    (omega (arith, c.in-Some-seen_below.ensures.from, c.in-Some-seen_below.ensures.below)) c.entry_at.ensures in
    absurd (none_is_some c.entry_at.result.reason c.in_default-reason.is h)

pub returns-clause-falses : goal.returns-clause-falses
returns-clause-falses c y m =
    later c.args.trail.now (c.loop-other.at + 1) (length c.args.trail.now) y (omega (arith, c.loop-other.invariant.within)) (c.loop-other.invariant.falses y m)

pub entry_at-requires : goal.entry_at-requires
entry_at-requires c = c.loop-other.invariant.within

pub resolve_at-requires-clause-sound : goal.resolve_at-requires-clause-sound
resolve_at-requires-clause-sound c = c.requires.sound

pub resolve_at-requires-clause-fits : goal.resolve_at-requires-clause-fits
resolve_at-requires-clause-fits c = subst (λ (n : ℕ). All (All (Fits n)) c.args.clauses.now) (sym c.loop-other.auto.seen) c.requires.fits

pub resolve_at-requires-clause-is_seen : goal.resolve_at-requires-clause-is_seen
resolve_at-requires-clause-is_seen c = c.loop-other.invariant.is_seen

pub resolve_at-requires-clause-reason : goal.resolve_at-requires-clause-reason
resolve_at-requires-clause-reason c e at =
    ap (λ (d : Entry). d.reason) (same_Some e c.entry_at.result (sym at ∙ c.entry_at.ensures)) ∙ c.in-Some-reason.is

pub resolve_at-requires-clause-falses : goal.resolve_at-requires-clause-falses
resolve_at-requires-clause-falses c y m =
    later c.args.trail.now (c.loop-other.at + 1) (length c.args.trail.now) y (omega (arith, c.loop-other.invariant.within)) (c.loop-other.invariant.falses y m)

pub seen_from-at-requires-clause-order : goal.seen_from-at-requires-clause-order
seen_from-at-requires-clause-order c = c.in-Some-seen_below.ensures.below

pub returns-clause-found : goal.returns-clause-found
returns-clause-found c = (c.loop-other.invariant.from, c.loop-other.invariant.is_seen)

pub returns-clause-reached : goal.returns-clause-reached
returns-clause-reached c = c.loop-other.invariant.reached
