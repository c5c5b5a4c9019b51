-- Tables of weights, and one definition more.
use Rattle.std.proofs.Common.{◌≡◌, ℕ, Bool, true, false, cond, min, List, [], ◌∷◌, ◌++◌, Option, Some, None, is_some, unwrap_or, refl, sym, ap, ◌∙◌, true≢false}
use Rattle.std.specs.Str.{bytes_eq}
use Rattle.std.proofs.lemmas.Slice.Eq.{bytes_eq-Decides}
use denote.Ref.{Bor}
use Rattle.indexmap.specs.IndexMap.{IndexMap}
use Rattle.ygg_syntax.specs.Budget.{limit}
use Rattle.ygg_syntax.specs.Weights.{Weights, weight_at, weights_with, weights_of, expr_weight}
use Rattle.ygg_syntax.specs.declared.tree.Def.{Def}
use Rattle.ygg_syntax.specs.Table.{or_first, first_weight, held, IsTable}

-- a name that has no weight weighs nothing
pub weighs : (ks : Weights) (name : List ℕ) → unwrap_or (first_weight ks name) 0 ≡ min limit (weight_at ks name)
weighs [] name = refl
weighs (k ∷ ks) name = cases (bytes_eq k.0 name) (weighs ks name)
  where
    cases : (b : Bool) → unwrap_or (first_weight ks name) 0 ≡ min limit (weight_at ks name) →
        unwrap_or (cond b (Some (min limit k.1)) (first_weight ks name)) 0 ≡ min limit (cond b k.1 (weight_at ks name))
    cases true e = refl
    cases false e = e

first_more : (ks : Weights) (k : List ℕ × ℕ) (name : List ℕ) → first_weight (ks ++ k ∷ []) name ≡ or_first (first_weight ks name) k.0 (min limit k.1) name
first_more [] k name = refl
first_more (j ∷ ks) k name = cases (bytes_eq j.0 name) (first_more ks k name)
  where
    cases : (b : Bool) → first_weight (ks ++ k ∷ []) name ≡ or_first (first_weight ks name) k.0 (min limit k.1) name
        → cond b (Some (min limit j.1)) (first_weight (ks ++ k ∷ []) name) ≡ or_first (cond b (Some (min limit j.1)) (first_weight ks name)) k.0
        (min limit k.1) name
    cases true e = refl
    cases false e = e

-- a definition's name and weight
abbrev entry : Weights → Def → List ℕ × ℕ
entry known d = (d.name.text, expr_weight known d.body)

weights_more : (known : Weights) (ds : List Def) (d : Def) → weights_with known (ds ++ d ∷ []) ≡ weights_with known ds ++ entry (weights_with known ds) d ∷ []
weights_more known [] d = refl
weights_more known (c ∷ ds) d = weights_more (known ++ entry known c ∷ []) ds d

-- a map that has noted the weight of one definition more
pub one_more : {S : Type 0} (old new : IndexMap (Bor (List ℕ)) ℕ S) (defs : List Def) (d : Def) (w : ℕ) →
    w ≡ min limit (expr_weight (weights_of defs) d.body) → IsTable old defs
    → ((other : List ℕ) → held new other ≡ or_first (held old other) d.name.text w other) → IsTable new (defs ++ d ∷ [])
one_more old new defs d w weight table noted = record {
  each = λ name.
      noted name
      ∙ ap (λ found. or_first found d.name.text w name) (table.each name)
      ∙ ap (λ n. or_first (first_weight (weights_of defs) name) d.name.text n name) weight
      ∙ sym (first_more (weights_of defs) (entry (weights_of defs) d) name)
      ∙ ap (λ ks. first_weight ks name) (sym (weights_more [] defs d));
}

module _ {S : Type 0} (m : IndexMap (Bor (List ℕ)) ℕ S) (name : List ℕ) where
  same_name : (other : List ℕ) → bytes_eq name other ≡ true → held m other ≡ held m name
  same_name other e = ap (held m) (sym ((bytes_eq-Decides name other).0 e))

  -- the name had none: the map has the weight now
  pub noted_now : (new : IndexMap (Bor (List ℕ)) ℕ S) (w : ℕ) → is_some (held m name) ≡ false →
      ((q : Bor (List ℕ)) → held new q.now ≡ cond (bytes_eq name q.now) (Some w) (held m q.now))
      → (other : List ℕ) → held new other ≡ or_first (held m other) name w other
  noted_now new w missing now other = now (record { ref_ptr = (0, 0); now = other }) ∙ cases (held m other) refl (bytes_eq name other) refl
    where
      cases : (found : Option ℕ) → held m other ≡ found → (b : Bool) → bytes_eq name other ≡ b →
          cond (bytes_eq name other) (Some w) found ≡ or_first found name w other
      cases (Some n) e true same = absurd (true≢false (sym (ap is_some (sym (same_name other same) ∙ e)) ∙ missing))
      cases (Some n) e false same = ap (λ b. cond b (Some w) (Some n)) same
      cases None e b same = refl
