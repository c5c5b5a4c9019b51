-- Names that are looked for in one list and then in another.
use Rattle.std.proofs.Common.{◌≡◌, Bool, true, false, cond, List, [], ◌∷◌, ◌++◌, Some, None, refl, sym, ◌∙◌, ℕ}
use Rattle.std.specs.Str.{bytes_eq}
use Rattle.ygg_meaning_laws.specs.ygg_type_rules.Names.{look_up as found}
use Rattle.ygg_meaning_laws.specs.Environments.{Env, look_up, nothing}
use Rattle.ygg_meaning_laws.proofs.Names.{still_found, new_found, value_found}
use Rattle.ygg_value.specs.declared.row.Value.{Value}

-- a name without a value
unfound : (name : List ℕ) (env : Env) → found name env ≡ None → nothing ≡ look_up name env
unfound name [] h = refl
unfound name (b ∷ env) h = cases (bytes_eq b.0 name) h (unfound name env)
  where
    cases : (c : Bool) → cond c (Some b.1) (found name env) ≡ None → (found name env ≡ None → nothing ≡ look_up name env) →
        nothing ≡ cond c b.1 (look_up name env)
    cases true h again = absurd (cc)
    cases false h again = again h

-- found in the first list, in the second, or in none
pub first_found : (name : List ℕ) (a b : Env) (v : Value) → found name a ≡ Some v → v ≡ look_up name (a ++ b)
first_found name a b v h = sym (value_found name (a ++ b) v (still_found name a b v h))

pub then_found : (name : List ℕ) (a b : Env) (v : Value) → found name a ≡ None → found name b ≡ Some v → v ≡ look_up name (a ++ b)
then_found name a b v n h = sym (value_found name (a ++ b) v (new_found name a b n ∙ h))

pub not_found : (name : List ℕ) (a b : Env) → found name a ≡ None → found name b ≡ None → nothing ≡ look_up name (a ++ b)
not_found name a b n m = unfound name (a ++ b) (new_found name a b n ∙ m)
