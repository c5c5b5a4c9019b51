-- A value fits a shape exactly where the shape is its own.
use Rattle.std.proofs.Common.{
  ◌≡◌,
  ℕ,
  suc,
  ◌+◌,
  ◌<◌,
  ◌≤◌,
  Bool,
  true,
  false,
  ◌&&◌,
  List,
  [],
  ◌∷◌,
  length,
  get_or,
  drop,
  refl,
  sym,
  ap,
  ◌∙◌,
  subst,
}
use Rattle.std.specs.Prelude.{◌==◌, nat_lt, ◌^◌}
use Rattle.std.specs.List.{list_all}
use Rattle.std.proofs.lemmas.Bool.{eqb-true}
use Rattle.std.proofs.lemmas.List.{at_drop_more, at_drop_all}
use Rattle.ygg_value.specs.Shapes.{IsValue, shape_of}
use Rattle.ygg_value.specs.declared.row.Value.{Value}
use Rattle.ygg_value.specs.declared.row.Value.TheVariants as value
use Rattle.ygg_value.specs.declared.shape.Shape.{Shape}
use Rattle.ygg_value.specs.declared.shape.Shape.TheVariants as shape
use Rattle.ygg_syntax.specs.declared.tree.Declared.{Declared}
use Rattle.ygg_eval.specs.ygg_meaning.Shapes.{words_fit, shape_in, fits, values_fit}
use Rattle.ygg_eval.specs.ygg_meaning_laws_proofs_Fits.{value_fits}
use Rattle.ygg_eval.specs.ygg_meaning_laws_proofs_Tests.{left, right}

-- what fits a shape has it
shape_is : (s : Shape) (v : Value) → fits s v ≡ true → shape_of v ≡ s
shape_is (shape.Word w) (value.Word n) h = ap shape.Word (eqb-true n.width w (left (n.width == w) (nat_lt n.bits (2 ^ w)) h))
shape_is (shape.Row m w) (value.Row r) h =
    let width = eqb-true r.width w (left (r.width == w) (words_fit w m r.words) h) in
    let words = eqb-true (length r.words) m (left (length r.words == m) (list_all (λ n. nat_lt n (2 ^ w)) r.words)
    (right (r.width == w) (words_fit w m r.words) h)) in
    ap (λ k. shape.Row k r.width) words ∙ ap (λ k. shape.Row m k) width
shape_is (shape.Table n m w) (value.Table t) h =
    let sized = left (t.width == w && t.words == m && length t.rows == n) (list_all (words_fit w m) t.rows) h in
    let shaped = left (t.width == w && t.words == m) (length t.rows == n) sized in
    let width = eqb-true t.width w (left (t.width == w) (t.words == m) shaped) in
    let words = eqb-true t.words m (right (t.width == w) (t.words == m) shaped) in
    let rows = eqb-true (length t.rows) n (right (t.width == w && t.words == m) (length t.rows == n) sized) in
    ap (λ k. shape.Table k t.words t.width) rows ∙ ap (λ k. shape.Table n k t.width) words ∙ ap (λ k. shape.Table n m k) width
shape_is (shape.Word w) (value.Row r) h = absurd (cc)
shape_is (shape.Word w) (value.Table t) h = absurd (cc)
shape_is (shape.Row m w) (value.Word n) h = absurd (cc)
shape_is (shape.Row m w) (value.Table t) h = absurd (cc)
shape_is (shape.Table n m w) (value.Word k) h = absurd (cc)
shape_is (shape.Table n m w) (value.Row r) h = absurd (cc)

-- a test of the shape tells whether the value fits
pub fits_by_shape : (b : Bool) (s : Shape) (v : Value) → IsValue v → (b ≡ true → shape_of v ≡ s) → (shape_of v ≡ s → b ≡ true) → b ≡ fits s v
fits_by_shape true s v x to from = sym (subst (λ k. fits k v ≡ true) (to refl) (value_fits v x))
fits_by_shape false s v x to from = cases (fits s v) refl
  where
    cases : (c : Bool) → fits s v ≡ c → false ≡ c
    cases false h = refl
    cases true h = from (shape_is s v h)

-- values that fit are as many as what is declared
pub counted : (ds : List Declared) (vs : List Value) → values_fit ds vs ≡ true → length ds ≡ length vs
counted [] [] h = refl
counted (d ∷ ds) (v ∷ vs) h = ap suc (counted ds vs (right (fits (shape_in d.shape) v) (values_fit ds vs) h))
counted [] (v ∷ vs) h = absurd (cc)
counted (d ∷ ds) [] h = absurd (cc)

-- other numbers don't fit
pub uncounted : (ds : List Declared) (vs : List Value) → (length ds ≡ length vs → ⊥) → false ≡ values_fit ds vs
uncounted ds vs differ = cases (values_fit ds vs) refl
  where
    cases : (b : Bool) → values_fit ds vs ≡ b → false ≡ b
    cases false h = refl
    cases true h = absurd (differ (counted ds vs h))

module _ (ds : List Declared) (vs : List Value) (i : ℕ) (whole : Bool) (so_far : values_fit (drop i ds) (drop i vs) ≡ whole) where
  -- what is left begins with this name and its value
  begins : (d : Declared) (v : Value) → i < length ds → d ≡ get_or ds i d → i < length vs → v ≡ get_or vs i v →
      (fits (shape_in d.shape) v && values_fit (drop (i + 1) ds) (drop (i + 1) vs)) ≡ whole
  begins d v few d_is many v_is =
      let left = drop (i + 1) ds in
      let others = drop (i + 1) vs in
      ap (λ (x : Declared). fits (shape_in x.shape) v && values_fit left others) d_is
      ∙ ap (λ y. fits (shape_in (get_or ds i d).shape) y && values_fit left others) v_is
      ∙ sym (at_drop_more (λ ys. values_fit (get_or ds i d ∷ left) ys) vs i v many)
      ∙ sym (at_drop_more (λ xs. values_fit xs (drop i vs)) ds i d few)
      ∙ so_far

  -- where it fits, what is left then decides
  pub fits_on : (d : Declared) (v : Value) → i < length ds → d ≡ get_or ds i d → i < length vs → v ≡ get_or vs i v →
      true ≡ fits (shape_in d.shape) v → values_fit (drop (i + 1) ds) (drop (i + 1) vs) ≡ whole
  fits_on d v few d_is many v_is good =
      ap (λ b. b && values_fit (drop (i + 1) ds) (drop (i + 1) vs)) good ∙ begins d v few d_is many v_is

  -- where it doesn't, the values don't
  pub fits_not : (d : Declared) (v : Value) → i < length ds → d ≡ get_or ds i d → i < length vs → v ≡ get_or vs i v →
      false ≡ fits (shape_in d.shape) v → false ≡ whole
  fits_not d v few d_is many v_is bad =
      ap (λ b. b && values_fit (drop (i + 1) ds) (drop (i + 1) vs)) bad ∙ begins d v few d_is many v_is

  -- past the last ones they fit
  pub fits_all : length ds ≤ i → length vs ≤ i → true ≡ whole
  fits_all few many =
      sym (at_drop_all (values_fit []) vs i many) ∙ sym (at_drop_all (λ xs. values_fit xs (drop i vs)) ds i few) ∙ so_far
