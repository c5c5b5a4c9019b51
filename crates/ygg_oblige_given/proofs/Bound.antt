-- Values that inputs give to declared names, as values of these names.
use Rattle.std.proofs.Common.{◌≡◌, ◌∙◌, ◌+◌, ℕ, true, List, [], ◌∷◌, ◌++◌, append_assoc, refl, sym, ap, subst}
use Rattle.std.specs.Prelude.{◌&&◌}
use Rattle.std.specs.Str.{bytes_eq}
use Rattle.std.proofs.lemmas.Bool.{and_from, and_parts}
use Rattle.ygg_value.specs.declared.row.Value.{Value}
use Rattle.ygg_syntax.specs.declared.tree.Declared.{Declared}
use Rattle.ygg_oblige_laws.specs.ygg_meaning.Environments.{bind}
use Rattle.ygg_oblige_laws.specs.ygg_meaning.Shapes.{env_fits, fits, shape_in, values_fit}
use Rattle.ygg_oblige_laws.specs.ygg_bank.Values.{Inputs}
use Rattle.ygg_oblige_laws.specs.ygg_shape.Fresh.{given_value, words_of}
use Rattle.ygg_oblige_laws.specs.Inputs.{given_env}
use Rattle.ygg_oblige_given.specs.Tables.{given_values}

module _ (inputs : Inputs) where
  pub bound_given : (number : ℕ) (ds : List Declared) → bind ds (given_values inputs number ds) ≡ given_env inputs number ds
  bound_given number [] = refl
  bound_given number (d ∷ ds) =
      ap (λ env. (d.name.text, given_value inputs number (shape_in d.shape)) ∷ env) (bound_given (number + words_of (shape_in d.shape)) ds)

  pub fit_given : (number : ℕ) (ds : List Declared) → env_fits ds (given_env inputs number ds) ≡ true → values_fit ds (given_values inputs number ds) ≡ true
  fit_given number [] h = refl
  fit_given number (d ∷ ds) h =
      let v = given_value inputs number (shape_in d.shape) in
      let rest = given_env inputs (number + words_of (shape_in d.shape)) ds in
      let both = and_parts (bytes_eq d.name.text d.name.text && fits (shape_in d.shape) v) (env_fits ds rest) h in
      let own = and_parts (bytes_eq d.name.text d.name.text) (fits (shape_in d.shape) v) both.0 in
      and_from (fits (shape_in d.shape) v) (values_fit ds (given_values inputs (number + words_of (shape_in d.shape)) ds)) own.1
      (fit_given (number + words_of (shape_in d.shape)) ds both.1)

  -- the first of some names fits, and so do the others
  pub first_fits : (number : ℕ) (d : Declared) (ds : List Declared) → env_fits (d ∷ ds) (given_env inputs number (d ∷ ds)) ≡ true →
      (fits (shape_in d.shape) (given_value inputs number (shape_in d.shape)) ≡ true)
      × (env_fits ds (given_env inputs (number + words_of (shape_in d.shape)) ds) ≡ true)
  first_fits number d ds h =
      let v = given_value inputs number (shape_in d.shape) in
      let rest = given_env inputs (number + words_of (shape_in d.shape)) ds in
      let both = and_parts (bytes_eq d.name.text d.name.text && fits (shape_in d.shape) v) (env_fits ds rest) h in
      ((and_parts (bytes_eq d.name.text d.name.text) (fits (shape_in d.shape) v) both.0).1, both.1)

  -- one more value behind those so far
  pub values_go : (whole values after : List Value) (next further : ℕ) (left rest : List Declared) (d : Declared) (v : Value) → left ≡ d ∷ rest →
      values ++ given_values inputs next left ≡ whole → after ≡ values ++ v ∷ [] → v ≡ given_value inputs next (shape_in d.shape) →
      further ≡ next + words_of (shape_in d.shape) → after ++ given_values inputs further rest ≡ whole
  values_go whole values after next further left rest d v e h a is n =
      ap (λ xs. xs ++ given_values inputs further rest) a ∙ append_assoc values (v ∷ []) (given_values inputs further rest)
      ∙ ap (λ y. values ++ y ∷ given_values inputs further rest) is
      ∙ ap (λ m. values ++ given_value inputs next (shape_in d.shape) ∷ given_values inputs m rest) n
      ∙ ap (λ ds. values ++ given_values inputs next ds) (sym e) ∙ h

  -- of names that fit, the first does, and the others do
  pub left_fits : (next further : ℕ) (left rest : List Declared) (d : Declared) → left ≡ d ∷ rest → further ≡ next + words_of (shape_in d.shape) →
      env_fits left (given_env inputs next left) ≡ true →
      (fits (shape_in d.shape) (given_value inputs next (shape_in d.shape)) ≡ true) × (env_fits rest (given_env inputs further rest) ≡ true)
  left_fits next further left rest d e n h =
      let both = first_fits next d rest (subst (λ ds. env_fits ds (given_env inputs next ds) ≡ true) e h) in
      (both.0, subst (λ m. env_fits rest (given_env inputs m rest) ≡ true) (sym n) both.1)
