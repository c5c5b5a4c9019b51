use Rattle.std.proofs.Common.{arith, ◌≤◌, ◌≢◌, ℕ, sym, subst, List, length, ⊎_elim}
use Rattle.ygg_solver.proofs.LearnLemmas.{seen_apart, chain_more, later, seen_within}
use Rattle.ygg_solver.specs.Learning.{ChainReaches}
use Rattle.ygg_solver.proofs.analysis.remove_at.Goals as goal

pub returns : goal.returns
returns c =
    let r = c.requires.reduced in
    let from : c.args.start ≤ c.args.at = r.from in
    let apart : c.args.at ≢ c.args.place = omega (arith, from, c.requires.below) in
    let w = seen_within c.args.seen.now c.args.trail.now c.args.place c.requires.place in
    record {
      from = from;
      is_seen = seen_apart c.args.clauses.now c.args.seen.now c.resolve_at.new.seen c.args.trail.now c.args.place c.args.at c.requires.sound apart
          r.is_seen c.resolve_at.ensures.kept;
      alone = λ y m n. ⊎_elim (λ p. r.alone y p.0 n) (λ f. later c.args.trail.now c.args.place c.args.start y (omega (arith, c.requires.below)) f)
          (c.resolve_at.ensures.is_seen y m);
      falses = λ y m. ⊎_elim (λ p. r.falses y p.0) (λ f. later c.args.trail.now c.args.place (length c.args.trail.now) y (omega (arith, w)) f)
          (c.resolve_at.ensures.is_seen y m);
      reached = subst (λ (l : List ℕ). ChainReaches c.args.clauses.now c.resolve_at.new.seen l) (sym c.in_ok-push.ensures.items)
          (chain_more c.args.clauses.now c.args.seen.now c.resolve_at.new.seen c.args.chain.now.items c.args.id r.reached c.resolve_at.ensures.step);
    }
