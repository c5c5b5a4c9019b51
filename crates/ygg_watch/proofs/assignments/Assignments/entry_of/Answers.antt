use Rattle.std.proofs.Common.{false, sym, ap, ◌∙◌, arith}
use Rattle.std.proofs.lemmas.Bool.{false≢true}
use Rattle.ygg_cnf.specs.declared.lit.Lit.{Lit}
use Rattle.ygg_watch.proofs.AssignmentLemmas.{none_from, entry_at}
use Rattle.ygg_watch.proofs.TrailLemmas.{one_entry, entry_within}
use Rattle.ygg_watch.proofs.StatusLemmas.{free_of, on_of_false}
use Rattle.ygg_watch.specs.declared.entry.Entry.{Entry}
use Rattle.ygg_watch.proofs.assignments.Assignments.entry_of.Goals as goal

pub returns-then-var-self-clause-none : goal.returns-then-var-self-clause-none
returns-then-var-self-clause-none c =
    none_from c.args.self.now.entries.items c.args.self.now.variable_count c.args.var c.args.self.now.trail c.if-var-self.true

pub returns-then-not-negative-clause-none : goal.returns-then-not-negative-clause-none
returns-then-not-negative-clause-none c =
    let trail = c.args.self.now.entries.items in
    let x : Lit = record { var = c.args.var; negated = false } in
    free_of trail x (λ t. false≢true (sym c.if-not-positive.true ∙ c.is_true-positive.ensures.1 t))
    (λ f. false≢true (sym c.if-not-negative.true ∙ c.is_true-negative.ensures.1 (on_of_false trail x f)))

pub index-requires : goal.index-requires
index-requires c = let size = c.args.self.now.kept.places_size in let l = c.if-var-self.false in omega (arith, size, l)

pub at-requires : goal.at-requires
at-requires c =
    let s = c.args.self.now in let size = s.kept.places_size in let l = c.if-var-self.false in
    let (e, (h, v)) = entry_at s.entries.items s.truth.items s.places.items s.variable_count c.args.var c.index.result.now _ _ s.kept
    c.is_true-positive.ensures.0 c.is_true-negative.ensures.0 c.else-not-positive.either (omega (arith, size, l)) c.index.ensures in
    entry_within s.entries.items c.index.result.now e h

pub returns-clause-some : goal.returns-clause-some
returns-clause-some c =
    let s = c.args.self.now in let size = s.kept.places_size in let l = c.if-var-self.false in
    let (e, (h, v)) = entry_at s.entries.items s.truth.items s.places.items s.variable_count c.args.var c.index.result.now _ _ s.kept
    c.is_true-positive.ensures.0 c.is_true-negative.ensures.0 c.else-not-positive.either (omega (arith, size, l)) c.index.ensures in
    let same = one_entry s.entries.items c.index.result.now c.at.result e c.at.ensures h in
    (ap (λ (z : Entry). z.lit.var) same ∙ v, (c.index.result.now, c.at.ensures))
