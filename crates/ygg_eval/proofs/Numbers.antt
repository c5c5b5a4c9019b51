-- Layers that are gathered from the lowest up, by their places.
use Rattle.std.proofs.Common.{
  ◌≡◌,
  ℕ,
  zero,
  suc,
  ◌+◌,
  List,
  [],
  ◌∷◌,
  ◌++◌,
  length,
  slice_get,
  Option,
  Some,
  None,
  ◌⊎◌,
  inl,
  inr,
  refl,
  sym,
  ap,
  ◌∙◌,
  append_assoc,
  arith,
}
use Rattle.ygg_syntax.specs.declared.tree.Declared.{Declared}
use Rattle.ygg_syntax.specs.declared.tree.Layer.{Layer}
use Rattle.ygg_meaning_laws.specs.ygg_meaning.Meaning.{Functions, functions_of}
use Rattle.ygg_meaning_laws.specs.ygg_meaning.Layer.{ClosedLayer}
use Rattle.ygg_meaning_laws.specs.ygg_meaning.Refines.{OnDisk, OnSpec}
use Rattle.ygg_meaning_laws.specs.ygg_meaning.Stack.{Layers, layers_on, tables_of}
use Rattle.ygg_eval.specs.Layers.{variables_from, closed_at}
use Rattle.ygg_eval.specs.Numbers.{IsAt, ListedIsNumbered, NumberedIsListed, BelowIsNumbered}

-- a layer over the variables that stand below its place
abbrev over : Functions → List Declared → List Layer → ℕ → Layer → ClosedLayer
over functions low ls place l = record { functions = functions; layer = l; low = variables_from low ls place }

-- one of the layers that were gathered before
record WasThere (lower gathered : Layers) (L : ClosedLayer) : Type 0 where
  pub before : Layers
  pub is : gathered ≡ before ++ L ∷ lower

-- one of those that are gathered
record Gathered (functions : Functions) (low : List Declared) (ls : List Layer) (count : ℕ) (lower : Layers) (L : ClosedLayer) : Type 0 where
  pub place : ℕ
  pub layer : Layer
  pub there : slice_get ls place ≡ Some layer
  pub is : L ≡ over functions low ls place layer
  pub counts : length lower ≡ place + count

-- the one that is gathered next, or another that was there
first_or : (functions : Functions) (low : List Declared) (x : Layer) (xs : List Layer) (gathered lower before : Layers) (L : ClosedLayer) →
    over functions low (x ∷ xs) 0 x ∷ gathered ≡ before ++ L ∷ lower →
    WasThere lower gathered L ⊎ Gathered functions low (x ∷ xs) (length gathered) lower L
first_or functions low x xs gathered lower [] L h =
    let same : L ≡ over functions low (x ∷ xs) 0 x = cc in
    let rest : lower ≡ gathered = cc in
    let count = ap (λ (m : Layers). length m) rest in
    inr (record { place = 0; layer = x; there = refl; is = same; counts = omega arith })
first_or functions low x xs gathered lower (b ∷ before) L h = inl (record { before = before; is = cc })

listed : (functions : Functions) (low : List Declared) (ls : List Layer) (gathered upper lower : Layers) (L : ClosedLayer) →
    layers_on functions low ls gathered ≡ upper ++ L ∷ lower →
    WasThere lower gathered L ⊎ Gathered functions low ls (length gathered) lower L
listed functions low [] gathered upper lower L h = inl (record { before = upper; is = h })
listed functions low (x ∷ xs) gathered upper lower L h = cases (listed functions x.state xs (over functions low (x ∷ xs) 0 x ∷ gathered) upper lower L h)
  where
    cases : WasThere lower (over functions low (x ∷ xs) 0 x ∷ gathered) L ⊎ Gathered functions x.state xs (suc (length gathered)) lower L →
        WasThere lower gathered L ⊎ Gathered functions low (x ∷ xs) (length gathered) lower L
    cases (inl w) = first_or functions low x xs gathered lower w.before L w.is
    cases (inr g) =
        let count = g.counts in
        inr (record { place = suc g.place; layer = g.layer; there = g.there; is = g.is; counts = omega arith })

none_there : (lower : Layers) (L : ClosedLayer) → WasThere lower [] L → ⊥
none_there lower L w = at w.before w.is
  where
    at : (before : Layers) → [] ≡ before ++ L ∷ lower → ⊥
    at [] h = absurd (cc)
    at (b ∷ before) h = absurd (cc)

pub listed_is_numbered : ListedIsNumbered
listed_is_numbered f upper lower L h = cases (listed (functions_of f.defs) (tables_of f.disk) f.layers [] upper lower L h)
  where
    cases : WasThere lower [] L ⊎ Gathered (functions_of f.defs) (tables_of f.disk) f.layers 0 lower L → IsAt f (length lower) L
    cases (inl w) = absurd (none_there lower L w)
    cases (inr g) =
        let count = g.counts in
        let same : g.place ≡ length lower = omega arith in
        record {
          layer = g.layer;
          there = ap (λ n. slice_get f.layers n) (sym same) ∙ g.there;
          is = g.is ∙ ap (λ n. over (functions_of f.defs) (tables_of f.disk) f.layers n g.layer) same;
        }

-- what was gathered stays last
record EndsWith (all gathered : Layers) : Type 0 where
  pub upper : Layers
  pub is : all ≡ upper ++ gathered

ends_with : (functions : Functions) (low : List Declared) (ls : List Layer) (gathered : Layers) → EndsWith (layers_on functions low ls gathered) gathered
ends_with functions low [] gathered = record { upper = []; is = refl }
ends_with functions low (x ∷ xs) gathered =
    let c = over functions low (x ∷ xs) 0 x in
    let e = ends_with functions x.state xs (c ∷ gathered) in
    record { upper = e.upper ++ c ∷ []; is = e.is ∙ sym (append_assoc e.upper (c ∷ []) gathered) }

-- a layer stands over those before it and those that were gathered
record Over (all : Layers) (count : ℕ) (L : ClosedLayer) : Type 0 where
  pub upper : Layers
  pub lower : Layers
  pub is : all ≡ upper ++ L ∷ lower
  pub counts : length lower ≡ count

numbered : (functions : Functions) (low : List Declared) (ls : List Layer) (gathered : Layers) (place : ℕ) (l : Layer) → slice_get ls place ≡ Some l →
    Over (layers_on functions low ls gathered) (place + length gathered) (over functions low ls place l)
numbered functions low [] gathered place l h = absurd (cc)
numbered functions low (x ∷ xs) gathered zero l h =
    let same : x ≡ l = cc in
    let e = ends_with functions x.state xs (over functions low (x ∷ xs) 0 x ∷ gathered) in
    record {
      upper = e.upper;
      lower = gathered;
      is = e.is ∙ ap (λ y. e.upper ++ over functions low (x ∷ xs) 0 y ∷ gathered) same;
      counts = omega arith;
    }
numbered functions low (x ∷ xs) gathered (suc place) l h =
    let o = numbered functions x.state xs (over functions low (x ∷ xs) 0 x ∷ gathered) place l h in
    let count = o.counts in
    record { upper = o.upper; lower = o.lower; is = o.is; counts = omega arith }

pub numbered_is_listed : NumberedIsListed
numbered_is_listed f number l h =
    let o = numbered (functions_of f.defs) (tables_of f.disk) f.layers [] number l h in
    let count = o.counts in
    record { upper = o.upper; lower = o.lower; is = o.is; counts = omega arith }

pub below_is_numbered : BelowIsNumbered
below_is_numbered f upper [] h = refl
below_is_numbered f upper (L ∷ lower) h =
    let at = listed_is_numbered f upper lower L h in
    ap (λ x. OnSpec x) at.is
    ∙ sym (ap (λ (o : Option Layer). elim o [ None ↦ OnDisk f.disk | Some l ↦ OnSpec (closed_at f (length lower) l) ]) at.there)
