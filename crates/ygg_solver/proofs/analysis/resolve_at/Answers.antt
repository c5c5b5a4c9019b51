use Rattle.std.proofs.lemmas.List.Elements.{All-contains}
use Rattle.std.proofs.Common.{sym, subst, List, length, All, ◌↔◌}
use Rattle.ygg_cnf_set.specs.LiteralSet.{Fits, InSet}
use Rattle.ygg_cnf.proofs.Steps.{one_clause, resolves_step}
use Rattle.ygg_cnf.specs.Derivations.{HasClause, Resolvent}
use Rattle.ygg_cnf.specs.Literals.{complement}
use Rattle.ygg_cnf.specs.declared.lit.Lit.{Lit}
use Rattle.ygg_solver.proofs.LearnLemmas.{numbered_within, reason_at, reason_pivot, seen_step, seen_entry, seen_within}
use Rattle.ygg_solver.proofs.TeachLemmas.{numbered_all}
use Rattle.ygg_solver.proofs.analysis.resolve_at.Goals as goal

pub clause_at-clause-requires-clause-first : goal.clause_at-clause-requires-clause-first
clause_at-clause-requires-clause-first c =
    let r = c.requires.sound.reasons c.args.at c.entry_at-entry.result c.args.id c.entry_at-entry.ensures
    (c.requires.reason c.entry_at-entry.result c.entry_at-entry.ensures) in
    (numbered_within c.args.clauses.now c.args.id r.0 r.1.numbered).0

pub clause_at-clause-requires-clause-last : goal.clause_at-clause-requires-clause-last
clause_at-clause-requires-clause-last c =
    let r = c.requires.sound.reasons c.args.at c.entry_at-entry.result c.args.id c.entry_at-entry.ensures
    (c.requires.reason c.entry_at-entry.result c.entry_at-entry.ensures) in
    (numbered_within c.args.clauses.now c.args.id r.0 r.1.numbered).1

pub resolve-requires-clause-fits : goal.resolve-requires-clause-fits
resolve-requires-clause-fits c =
    subst (All (Fits (length c.args.seen.now))) (sym c.as_slice.ensures)
    (numbered_all (All (Fits (length c.args.seen.now))) c.args.clauses.now c.args.id c.clause_at-clause.result.now c.requires.fits c.clause_at-clause.ensures)

pub returns-clause-step : goal.returns-clause-step
returns-clause-step c rest clause d =
    let clauses = c.args.clauses.now in
    let lits = c.clause_at-clause.result.now in
    let entry = c.entry_at-entry.result in
    let reason = reason_at clauses c.args.trail.now c.args.at c.args.id entry lits c.requires.sound c.entry_at-entry.ensures
    (c.requires.reason entry c.entry_at-entry.ensures) c.clause_at-clause.ensures in
    let pivot = reason_pivot clauses c.args.trail.now (InSet c.args.seen.now) c.args.at
    (length c.args.trail.now) c.args.id entry.lit lits c.requires.sound reason
    c.requires.falses (seen_entry c.args.seen.now c.args.trail.now c.args.at entry c.requires.is_seen c.entry_at-entry.ensures) in
    (resolves_step (HasClause clauses) (one_clause clauses) (InSet c.args.seen.now) (InSet c.resolve.new.seen) c.args.id rest lits
    (complement entry.lit) clause c.clause_at-clause.ensures pivot
    (λ y. subst (λ x. InSet c.resolve.new.seen y ↔ Resolvent (InSet c.args.seen.now) lits x y) c.complement.ensures
    (subst (λ (l : List Lit). InSet c.resolve.new.seen y ↔ Resolvent (InSet c.args.seen.now) l c.complement.result y) c.as_slice.ensures
    (c.resolve.ensures y)))).1 d

pub returns-clause-is_seen : goal.returns-clause-is_seen
returns-clause-is_seen c y m =
    let clauses = c.args.clauses.now in
    let lits = c.clause_at-clause.result.now in
    let entry = c.entry_at-entry.result in
    let reason = reason_at clauses c.args.trail.now c.args.at c.args.id entry lits c.requires.sound c.entry_at-entry.ensures
    (c.requires.reason entry c.entry_at-entry.ensures) c.clause_at-clause.ensures in
    seen_step clauses c.args.trail.now (InSet c.args.seen.now) (InSet c.resolve.new.seen) c.args.at c.args.id entry lits c.entry_at-entry.ensures reason
    (λ z k. subst (λ x. Resolvent (InSet c.args.seen.now) lits x z) c.complement.ensures
    (subst (λ (l : List Lit). Resolvent (InSet c.args.seen.now) l c.complement.result z) c.as_slice.ensures ((c.resolve.ensures z).0 k))) y m

pub resolve-requires-clause-pivot : goal.resolve-requires-clause-pivot
resolve-requires-clause-pivot c =
    let clauses = c.args.clauses.now in
    let lits = c.clause_at-clause.result.now in
    let entry = c.entry_at-entry.result in
    let reason = reason_at clauses c.args.trail.now c.args.at c.args.id entry lits c.requires.sound c.entry_at-entry.ensures
    (c.requires.reason entry c.entry_at-entry.ensures) c.clause_at-clause.ensures in
    let fits : Fits (length c.args.seen.now) entry.lit = All-contains (Fits (length c.args.seen.now)) lits entry.lit
    (numbered_all (All (Fits (length c.args.seen.now))) clauses c.args.id lits c.requires.fits c.clause_at-clause.ensures) reason.here in
    subst (λ (z : Lit). Fits (length c.args.seen.now) z) (sym c.complement.ensures) fits

pub entry_at-entry-requires : goal.entry_at-entry-requires
entry_at-entry-requires c = seen_within c.args.seen.now c.args.trail.now c.args.at c.requires.is_seen
