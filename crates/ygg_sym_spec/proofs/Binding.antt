-- Names that get values one after another.
use Rattle.std.proofs.Common.{◌≡◌, ◌<◌, ◌≤◌, ℕ, ◌+◌, List, [], ◌∷◌, ◌++◌, length, drop, get_or, sym, ap, ◌∙◌, append_assoc, arith}
use Rattle.std.proofs.lemmas.List.{append-nil, drop_all, map-append}
use Rattle.ygg_syntax.specs.declared.tree.Declared.{Declared}
use Rattle.ygg_sym_runs.specs.ygg_shape_cells.declared.terms.SymValue.{SymValue}
use Rattle.ygg_sym_runs.specs.Names.{SymEnv, sym_bind}
use Rattle.ygg_sym_runs.specs.Seen.{env_of}
use Rattle.ygg_sym_runs.specs.declared.held.SymBinding.{SymBinding}
use Rattle.ygg_sym_spec.proofs.Left.{rest_is}

env_more : (items : List SymBinding) (b : SymBinding) → env_of (items ++ b ∷ []) ≡ env_of items ++ (b.name.now, b.value) ∷ []
env_more items b = map-append (λ (b : SymBinding). (b.name.now, b.value)) items (b ∷ [])

module _ (ds : List Declared) (xs : List SymValue) (i : ℕ) (whole : SymEnv) where
  -- a name more
  pub bound_more : (items more : List SymBinding) (b : SymBinding) (d : Declared) (x : SymValue) → i < length ds → length ds ≡ length xs →
      d ≡ get_or ds i d → x ≡ get_or xs i x → b.name.now ≡ (get_or ds i d).name.text → b.value ≡ x →
      more ≡ items ++ b ∷ [] → env_of items ++ sym_bind (drop i ds) (drop i xs) ≡ whole → env_of more ++ sym_bind (drop (i + 1) ds) (drop (i + 1) xs) ≡ whole
  bound_more items more b d x l e is has name value pushed h =
      let m : i < length xs = omega arith in
      let rest = sym_bind (drop (i + 1) ds) (drop (i + 1) xs) in
      ap (λ z. env_of z ++ rest) pushed
      ∙ ap (λ z. z ++ rest) (env_more items b)
      ∙ append_assoc (env_of items) ((b.name.now, b.value) ∷ []) rest
      ∙ ap (λ n. env_of items ++ (n, b.value) ∷ rest) (name ∙ ap (λ (z : Declared). z.name.text) (sym is))
      ∙ ap (λ v. env_of items ++ (d.name.text, v) ∷ rest) value
      ∙ ap (λ z. env_of items ++ sym_bind (d ∷ drop (i + 1) ds) z) (sym (rest_is xs i x x m has))
      ∙ ap (λ z. env_of items ++ sym_bind z (drop i xs)) (sym (rest_is ds i d d l is))
      ∙ h

  -- all names
  pub bound_all : (env : SymEnv) → length ds ≤ i → env ++ sym_bind (drop i ds) (drop i xs) ≡ whole → env ≡ whole
  bound_all env l h = sym (append-nil env) ∙ ap (λ z. env ++ sym_bind z (drop i xs)) (sym (drop_all i ds l)) ∙ h
