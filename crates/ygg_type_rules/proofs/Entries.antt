-- The entries of a map as names with values.
use Rattle.std.proofs.Common.{◌≡◌, ℕ, cond, List, [], ◌∷◌, ◌++◌, map, Option, Some, None, Bor, false, is_some, refl, sym, ap, ◌∙◌}
use Rattle.std.specs.Str.{bytes_eq}
use Rattle.std.specs.Map.{lookup}
use Rattle.std.specs.Cmp.Lexicographic.{nat_list_eq_equiv}
use Rattle.std.proofs.lemmas.List.{map-append}
use Rattle.indexmap.specs.IndexMap.{IndexMap, insert_entry}
use Rattle.indexmap.proofs.CallerLemmas.{insert_entry-new}
use Rattle.ygg_type_rules.specs.Names.{look_up, has, added}

-- what contracts see of entries
abbrev pub seen : {V : Type 0} → List (Bor (List ℕ) × V) → List (List ℕ × V)
seen = map (λ e. (e.0.now, e.1))

-- a look-up in the map is one in the names
pub seen_lookup : {V : Type 0} (name : List ℕ) (es : List (Bor (List ℕ) × V)) → lookup (λ k. bytes_eq name k.now) es ≡ look_up name (seen es)
seen_lookup name [] = refl
seen_lookup name (e ∷ es) =
    ap (λ b. cond b (Some e.1) (lookup (λ k. bytes_eq name k.now) es)) (nat_list_eq_equiv.symm name e.0.now)
    ∙ ap (λ o. cond (bytes_eq e.0.now name) (Some e.1) o) (seen_lookup name es)

nothing_there : {V : Type 0} (o : Option V) → is_some o ≡ false → o ≡ None
nothing_there None h = refl
nothing_there (Some v) h = absurd (cc)

-- a new entry is a name that is added
pub seen_new : {V S : Type 0} (m : IndexMap (Bor (List ℕ)) V S) (key : Bor (List ℕ)) (value : V) (names : List (List ℕ × V)) → seen m.entries ≡ names
    → has key.now names ≡ false
    → seen (insert_entry (λ a b. bytes_eq a.now b.now) m.entries key value) ≡ added key.now value names
seen_new m key value names same absent =
    let missing = seen_lookup key.now m.entries ∙ ap (look_up key.now) same ∙ nothing_there (look_up key.now names) absent in
    ap seen (insert_entry-new (λ a b. bytes_eq a.now b.now) m key value missing)
    ∙ map-append _ m.entries ((key, value) ∷ [])
    ∙ ap (λ ns. ns ++ (key.now, value) ∷ []) same
    ∙ ap (λ b. cond b names (names ++ (key.now, value) ∷ [])) (sym absent)
