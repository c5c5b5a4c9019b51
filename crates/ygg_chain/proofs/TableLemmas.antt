-- Tables of places, as variables come.
use Rattle.std.proofs.Common.{◌≡◌, ◌≢◌, ℕ, ◌<◌, ◌+◌, ◌⊎◌, List, [], ◌∷◌, ◌++◌, length, get_or, Some, None, Contains}
use Rattle.std.proofs.Common.{⊎_elim, inl, inr, refl, sym, ap, subst, ◌∙◌, arith, length-append}
use Rattle.std.proofs.lemmas.Bool.{cases_lt}
use Rattle.std.proofs.lemmas.List.{get_or_append_left, get_or_push}
use Rattle.std.proofs.lemmas.Grind.{get_or_default_zero}
use Rattle.std.proofs.lemmas.List.Elements.{Contains-get_or}
use Rattle.std.proofs.lemmas.Option.{same_Some}
use Rattle.ygg_cnf.specs.declared.lit.Lit.{Lit}
use Rattle.ygg_cnf.proofs.Lits.{same_lit}
use Rattle.ygg_chain.specs.Places.{IsDistinct, StandsFor}
use Rattle.ygg_chain.specs.PlaceTable.{place_of, IsIndexOf}
use Rattle.ygg_chain.specs.declared.place_table.PlaceTable.{PlaceTable}

none_some : {X : Type 0} (x : X) → None ≡ Some x → ⊥
none_some x e = cc

-- variables that a table is of are apart
pub distinct_indexed : (table : PlaceTable) (variables : List ℕ) → IsIndexOf table variables → IsDistinct variables
distinct_indexed table variables index i j d below within same =
    let inside : i < length variables = omega (arith, below, within) in
    let first : place_of table (get_or variables i 0) ≡ Some i = (index (get_or variables i 0) i).1 (inside, refl) in
    let again : get_or variables j 0 ≡ get_or variables i 0 =
    sym (get_or_default_zero variables j d within) ∙ (sym same ∙ get_or_default_zero variables i d inside) in
    let second : place_of table (get_or variables i 0) ≡ Some j = (index (get_or variables i 0) j).1 (within, again) in
    let e : i ≡ j = same_Some i j (sym first ∙ second) in
    omega (arith, below, e)

-- the place of a variable is the one that stands for its literals
pub place_stands : (table : PlaceTable) (variables : List ℕ) → IsIndexOf table variables → (lit : Lit) (place : ℕ)
    → place_of table lit.var ≡ Some place → StandsFor variables (record { var = place; negated = lit.negated }) lit
place_stands table variables index lit place is =
    let (inside, at) = (index lit.var place).0 is in
    (inside, same_lit (record { var = get_or variables place 0; negated = lit.negated }) lit at refl)

-- and one without a place has none that stands for them
pub none_stands : (table : PlaceTable) (variables : List ℕ) → IsIndexOf table variables → (lit x : Lit) → place_of table lit.var ≡ None
    → StandsFor variables x lit → ⊥
none_stands table variables index lit x none (inside, is) =
    none_some x.var (sym none ∙ (index lit.var x.var).1 (inside, ap (λ l. l.var) is))

-- what isn't among the variables has no place
pub no_place : (table : PlaceTable) (variables : List ℕ) → IsIndexOf table variables → (variable : ℕ) → (Contains variables variable → ⊥)
    → place_of table variable ≡ None
no_place table variables index variable absent =
    elim (place_of table variable) as (λ o. place_of table variable ≡ o → place_of table variable ≡ None) [
      | None ↦ λ e. e
      | Some place ↦ λ e.
          let (inside, at) = (index variable place).0 e in
          absurd (absent (subst (Contains variables) at (Contains-get_or variables place 0 inside)))
    ] refl

-- and what has no place isn't among them
pub absent : (table : PlaceTable) (variables : List ℕ) → IsIndexOf table variables → (variable : ℕ) → place_of table variable ≡ None →
    Contains variables variable → ⊥
absent table variables index variable none (place, within, is) =
    none_some place (sym none ∙ (index variable place).1 (within, sym (get_or_default_zero variables place variable within) ∙ is))

-- a new variable's place stands for its literals
pub last_stands : (variables : List ℕ) (lit : Lit)
    → StandsFor (variables ++ lit.var ∷ []) (record { var = length variables; negated = lit.negated }) lit
last_stands variables lit = (
  omega (arith, length-append variables (lit.var ∷ [])),
  same_lit (record { var = get_or (variables ++ lit.var ∷ []) (length variables) 0; negated = lit.negated }) lit
      (get_or_push variables lit.var 0 (length variables) refl) refl,
)

-- a table that gives the same places is of the same variables
pub index_same : (before after : PlaceTable) (variables : List ℕ) → ((v : ℕ) → place_of after v ≡ place_of before v)
    → IsIndexOf before variables → IsIndexOf after variables
index_same before after variables same index v place =
    ((λ is. (index v place).0 (sym (same v) ∙ is)), (λ at. same v ∙ (index v place).1 at))

cases_eq : (i j : ℕ) → (i ≡ j) ⊎ (i ≢ j)
cases_eq i j =
    ⊎_elim (λ l. inr (λ e. omega (arith, l, e)))
    (λ g. ⊎_elim (λ l. inr (λ e. omega (arith, l, e))) (λ h. inl (omega (arith, g, h))) (cases_lt j i))
    (cases_lt i j)

-- one more variable, at the end
pub index_more : (before after : PlaceTable) (variables : List ℕ) (variable : ℕ) → IsIndexOf before variables
    → place_of before variable ≡ None → place_of after variable ≡ Some (length variables)
    → ((v : ℕ) → v ≢ variable → place_of after v ≡ place_of before v) → IsIndexOf after (variables ++ variable ∷ [])
index_more before after variables variable index fresh here others v place =
    let size : length (variables ++ variable ∷ []) ≡ length variables + 1 = length-append variables (variable ∷ []) in (
      (λ is. ⊎_elim
          (λ same.
          let last : place ≡ length variables = same_Some place (length variables) (sym is ∙ ap (place_of after) same ∙ here) in
          (omega (arith, size, last), get_or_push variables variable 0 place (sym last) ∙ sym same))
          (λ differs.
          let (inside, at) = (index v place).0 (sym (others v differs) ∙ is) in
          (omega (arith, size, inside), get_or_append_left variables (variable ∷ []) 0 place inside ∙ at))
          (cases_eq v variable)),
      (λ (inside, at). ⊎_elim
          (λ l.
          let old : place_of before v ≡ Some place =
          (index v place).1 (l, sym (get_or_append_left variables (variable ∷ []) 0 place l) ∙ at) in
          others v (λ same. none_some place (sym fresh ∙ ap (place_of before) (sym same) ∙ old)) ∙ old)
          (λ g.
          let last : length variables ≡ place = omega (arith, size, inside, g) in
          let same : v ≡ variable = sym at ∙ get_or_push variables variable 0 place last in
          ap (place_of after) same ∙ here ∙ ap Some last)
          (cases_lt place (length variables))),
    )
