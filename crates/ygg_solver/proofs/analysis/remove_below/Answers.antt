use Rattle.std.proofs.Common.{◌≤◌, ◌-◌, arith, ap, sym, subst, ◌∙◌, ℕ, All}
use Rattle.std.proofs.lemmas.Option.{same_Some}
use Rattle.std.proofs.lemmas.Result.{IfOk-from_err}
use Rattle.ygg_cnf_set.specs.LiteralSet.{Fits}
use Rattle.ygg_watch.specs.declared.entry.Entry.{Entry}
use Rattle.ygg_solver.proofs.analysis.remove_below.Goals as goal

pub remove_at-requires-clause-sound : goal.remove_at-requires-clause-sound
remove_at-requires-clause-sound c = c.requires.sound

pub remove_at-requires-clause-fits : goal.remove_at-requires-clause-fits
remove_at-requires-clause-fits c = subst (λ (n : ℕ). All (All (Fits n)) c.args.clauses.now) (sym c.loop-place.auto.seen) c.requires.fits

pub remove_at-requires-clause-place : goal.remove_at-requires-clause-place
remove_at-requires-clause-place c = c.is_seen_at.ensures.0 c.if-is_seen_at.true

pub remove_at-requires-clause-reason : goal.remove_at-requires-clause-reason
remove_at-requires-clause-reason c e at = ap (λ (d : Entry). d.reason) (same_Some e c.entry_at.result (sym at ∙ c.entry_at.ensures)) ∙ c.in-Some.is

pub remove_at-requires-clause-reduced : goal.remove_at-requires-clause-reduced
remove_at-requires-clause-reduced c = c.loop-place.invariant.reduced

pub returns-in_err-remove_at : goal.returns-in_err-remove_at
returns-in_err-remove_at c = IfOk-from_err c.from_residual.result _ c.from_residual.ensures.0

-- one place down
down : (n m : ℕ) → n ≤ m → n - 1 ≤ m
down n m l = omega arith

pub loop-place-preserved : goal.loop-place-preserved
loop-place-preserved c = record { within = down c.loop-place.place c.args.start c.loop-place.invariant.within; reduced = c.loop-place.invariant.reduced }

pub loop-place-preserved-in_default : goal.loop-place-preserved-in_default
loop-place-preserved-in_default c = record {
  within = down c.loop-place.place c.args.start c.loop-place.invariant.within;
  reduced = c.loop-place.invariant.reduced;
}

pub loop-place-preserved-in-Continue-1 : goal.loop-place-preserved-in-Continue-1
loop-place-preserved-in-Continue-1 c = record {
  within = down c.loop-place.place c.args.start c.loop-place.invariant.within;
  reduced = c.in_ok-remove_at.ensures;
}
