use Rattle.std.proofs.Common.{◌≡◌, ◌<◌, ◌≤◌, length, arith, All, inr, inl, sym, subst, Contains, ℕ, List, [], ◌∙◌, ap}
use Rattle.ygg_cnf_set.specs.LiteralSet.{Fits}
use Rattle.ygg_cnf.specs.Derivations.{HasClause, DerivesClause}
use Rattle.ygg_cnf.specs.Literals.{complement}
use Rattle.ygg_cnf.specs.Logs.{IsOpen}
use Rattle.ygg_cnf.specs.declared.lit.Lit.{Lit}
use Rattle.ygg_solver.proofs.LearnLemmas.{seen_entry, fits_clause}
use Rattle.ygg_solver.proofs.TeachLemmas.{conflict_from, numbered_all, teaches_at, append-nil, asserting}
use Rattle.ygg_solver.proofs.analysis.analyze.Goals.{in-Some, in-None}
use Rattle.ygg_watch.proofs.TrailLemmas.{one_entry}
use Rattle.ygg_watch.specs.Trail.{assigned_before}
use Rattle.ygg_watch.specs.declared.entry.Entry.{Entry}
use Rattle.ygg_solver.proofs.analysis.analyze.Goals as goal

pub begin-requires-clause-named : goal.begin-requires-clause-named
begin-requires-clause-named c = (c.requires.falses.0, c.requires.falses.1.0)

pub resolve_to_one-requires-clause-some : goal.resolve_to_one-requires-clause-some
resolve_to_one-requires-clause-some c =
    let conflict = c.requires.falses in
    conflict_from c.args.clauses.now c.begin.new.seen c.args.trail.now c.args.start conflict.0 c.requires.sound
    (numbered_all (IsOpen (assigned_before c.args.trail.now c.args.start)) c.args.clauses.now c.args.conflict conflict.0 c.requires.quiet conflict.1.0)
    conflict.1.1 (λ y d. (c.in_ok-chain.ensures.set conflict.0 conflict.1.0 y).1 d)

pub resolve_to_one-requires-clause-falses : goal.resolve_to_one-requires-clause-falses
resolve_to_one-requires-clause-falses c y m =
    let conflict = c.requires.falses in
    conflict.1.1 y ((c.in_ok-chain.ensures.set conflict.0 conflict.1.0 y).0 m)

pub collect-requires : goal.collect-requires
collect-requires c = record { falses = c.in_ok-minimize.ensures.falses }

pub returns-clause-derived : goal.returns-clause-derived
returns-clause-derived c =
    subst (λ (l : List ℕ). DerivesClause (HasClause c.args.clauses.now) l c.in_ok-clause.clause)
    (append-nil c.minimize.new.chain.items ∙ sym c.shrink_to_fit.ensures.items)
    (c.in_ok-minimize.ensures.reached [] c.in_ok-clause.clause c.in_ok-clause.ensures)

pub returns-clause-teaches : goal.returns-clause-teaches
returns-clause-teaches c =
    let reduced = c.in_ok-minimize.ensures in (
      assigned_before c.args.trail.now c.args.start,
      (
        complement reduced.is_seen.0.lit,
        teaches_at c.args.clauses.now c.args.trail.now c.in_ok-at.at c.args.start reduced.is_seen.0 c.in_ok-clause.clause c.requires.sound
            reduced.is_seen.1.0 reduced.from c.requires.quiet
            ((c.in_ok-clause.ensures (complement reduced.is_seen.0.lit)).0 reduced.is_seen.1.1)
            (λ y d n. c.in_ok-minimize.ensures.alone y ((c.in_ok-clause.ensures y).1 d)
            (λ e k q. n (q ∙ ap (λ (x : Entry). complement x.lit) (one_entry c.args.trail.now c.in_ok-at.at e reduced.is_seen.0 k reduced.is_seen.1.0)))),
      ),
    )

pub returns-clause-falses : goal.returns-clause-falses
returns-clause-falses c y d = c.in_ok-minimize.ensures.falses y ((c.in_ok-clause.ensures y).1 d)

pub returns-clause-jump : goal.returns-clause-jump
returns-clause-jump c =
    let reduced = c.in_ok-minimize.ensures in
    elim c.match-seen_below.branch [
      | in-Some w ↦ inr (asserting c.args.clauses.now c.args.trail.now c.minimize.new.seen c.in_ok-clause.clause c.in_ok-at.at w.in-Some.first
          c.args.start c.match-seen_below.level
          reduced.is_seen.0 w.entry_at.result c.requires.sound reduced.is_seen.1.0 reduced.from w.entry_at.ensures w.in-Some.ensures.below reduced.is_seen.1.1
          (seen_entry c.minimize.new.seen c.args.trail.now w.in-Some.first w.entry_at.result w.in-Some.ensures.is_seen w.entry_at.ensures)
          (λ y m. (c.in_ok-clause.ensures y).0 m) (sym w.level-is))
      | in-None w ↦ inl w.level-is
    ]

pub minimize-requires-clause-reduced : goal.minimize-requires-clause-reduced
minimize-requires-clause-reduced c = record {
  from = c.in_ok-at.ensures.found.0;
  is_seen = c.in_ok-at.ensures.found.1;
  alone = c.in_ok-at.ensures.alone;
  falses = c.in_ok-at.ensures.falses;
  reached = c.in_ok-at.ensures.reached;
}

pub remove_all-requires : goal.remove_all-requires
remove_all-requires c =
    let size : length c.minimize.new.seen ≡ length c.args.seen.now = c.minimize.auto.seen ∙ (c.resolve_to_one.auto.seen ∙ c.begin.auto.seen) in
    subst (All (Fits (length c.minimize.new.seen))) (sym c.as_slice-2.ensures)
    (fits_clause c.args.trail.now (length c.minimize.new.seen) (length c.args.trail.now) c.in_ok-clause.clause
    (λ q e h. let f = c.requires.seen q e h in omega (arith, f, size))
    (λ y d. c.in_ok-minimize.ensures.falses y ((c.in_ok-clause.ensures y).1 d)))

pub returns-clause-clear : goal.returns-clause-clear
returns-clause-clear c y = (
  (λ m. let p = (c.remove_all.ensures y).0 m in
      p.1 (subst (λ (l : List Lit). Contains l y) (sym c.as_slice-2.ensures) ((c.in_ok-clause.ensures y).0 p.0))),
  (λ none. absurd none),
)

pub begin-requires-clause-fits : goal.begin-requires-clause-fits
begin-requires-clause-fits c = c.requires.fits

pub resolve_to_one-requires-clause-fits : goal.resolve_to_one-requires-clause-fits
resolve_to_one-requires-clause-fits c = subst (λ (n : ℕ). All (All (Fits n)) c.args.clauses.now) (sym c.begin.auto.seen) c.requires.fits

pub minimize-requires-clause-sound : goal.minimize-requires-clause-sound
minimize-requires-clause-sound c = c.requires.sound

pub minimize-requires-clause-within : goal.minimize-requires-clause-within
minimize-requires-clause-within c = c.requires.within

pub minimize-requires-clause-fits : goal.minimize-requires-clause-fits
minimize-requires-clause-fits c =
    subst (λ (n : ℕ). All (All (Fits n)) c.args.clauses.now) (sym (c.resolve_to_one.auto.seen ∙ c.begin.auto.seen)) c.requires.fits

pub seen_below-requires : goal.seen_below-requires
seen_below-requires c = record { within = c.requires.within }

before : (a b n : ℕ) → a < b → b ≤ n → a < n
before a b n l m = omega arith

pub entry_at-requires : goal.entry_at-requires
entry_at-requires c = before c.in-Some.first c.args.start (length c.args.trail.now) c.in-Some.ensures.below c.requires.within
