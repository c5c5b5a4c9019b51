use Rattle.std.proofs.Common.{◌≡◌, ◌≤◌, ◌*◌, ℕ, Bool, false, List, All, length, replicate, get_or, ⊎_elim, sym, ap, ◌∙◌, subst, arith}
use Rattle.std.proofs.lemmas.Bool.{cases_lt, false≢true}
use Rattle.std.proofs.lemmas.List.{get_or-replicate, get_or_past, length-replicate}
use Rattle.ygg_cnf.specs.declared.lit.Lit.{Lit}
use Rattle.ygg_cnf_set.specs.LiteralSet.{InSet, code_of}
use Rattle.ygg_watch.specs.Propagation.{Propagation, IsWithin}
use Rattle.ygg_solver.proofs.ReadyLemmas.{ready_empty, fits_within}
use Rattle.ygg_solver.proofs.searching.search_clauses.Goals as goal

pub search-requires-clause-ready : goal.search-requires-clause-ready
search-requires-clause-ready g c = ready_empty (g.P.Propagate.state c.args.propagation.now) c.requires.fresh.empty

pub search-requires-clause-variables : goal.search-requires-clause-variables
search-requires-clause-variables g c =
    subst (λ (n : ℕ). All (IsWithin n) (g.P.Propagate.state c.args.propagation.now).clauses) (sym c.requires.variable_count) c.requires.fresh.within

enough : (n v w : ℕ) → n ≡ 2 * v → v ≡ w → 2 * w ≤ n
enough n v w e s = omega arith

none_in : (seen : List Bool) (n : ℕ) (y : Lit) → seen ≡ replicate n false → InSet seen y → ⊥
none_in seen n y is m =
    let h : InSet (replicate n false) y = rw is at m in
    ⊎_elim (λ l. false≢true (sym (get_or-replicate n (code_of y) false false l) ∙ h))
    (λ l. false≢true (sym (get_or_past (replicate n false) (code_of y) false (rw length-replicate l)) ∙ h)) (cases_lt (code_of y) n)

pub search-requires-clause-clear : goal.search-requires-clause-clear
search-requires-clause-clear g c y = (
  none_in c.as_mut_slice.result.now _ y (c.as_mut_slice.ensures.value ∙ c.in_ok-seen.ensures.items_if_clones_equal (λ z e. e)),
  (λ none. absurd none),
)

pub search-requires-clause-fits : goal.search-requires-clause-fits
search-requires-clause-fits g c k d l i e m =
    let p : Propagation = g.P.Propagate.state c.args.propagation.now in
    let len : length c.as_mut_slice.result.now ≡ 2 * c.args.variable_count
    = ap (λ (s : List Bool). length s) c.as_mut_slice.ensures.value ∙ (sym c.in_ok-seen.seen.ok.0 ∙ c.in_ok-seen.ensures.len) in
    fits_within (length c.as_mut_slice.result.now) p.variable_count (get_or (get_or p.clauses k d) i e)
    (c.requires.fresh.within k d l i e m) (enough (length c.as_mut_slice.result.now) c.args.variable_count p.variable_count len c.requires.variable_count)
