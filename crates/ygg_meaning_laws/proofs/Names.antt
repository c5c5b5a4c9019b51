-- Look-ups in names that have grown.
use Rattle.std.proofs.Common.{◌≡◌, ℕ, Bool, true, false, cond, List, [], ◌∷◌, ◌++◌, Option, Some, None, is_some, refl, ap, ◌∙◌}
use Rattle.std.specs.Str.{bytes_eq}
use Rattle.ygg_value.specs.declared.row.Value.{Value}
use Rattle.ygg_type_rules.specs.Names.{Named, look_up, has, added}
use Rattle.ygg_meaning.specs.Environments.{Env}
use Rattle.ygg_meaning.specs.Environments as meaning

-- the first of two, if there is one, and else the second
abbrev pub or_else : {V : Type 0} → Option V → Option V → Option V
or_else (Some v) second = Some v
or_else None second = second

-- names are looked up in the first list before the second
pub look_up_append : {V : Type 0} (name : List ℕ) (names more : Named V) → look_up name (names ++ more) ≡ or_else (look_up name names) (look_up name more)
look_up_append name [] more = refl
look_up_append {V} name (e ∷ es) more = cases (bytes_eq e.0 name) (look_up_append name es more)
  where
    cases : (b : Bool) → look_up name (es ++ more) ≡ or_else (look_up name es) (look_up name more)
        → cond b (Some e.1) (look_up name (es ++ more)) ≡ or_else (cond b (Some e.1) (look_up name es)) (look_up name more)
    cases true again = refl
    cases false again = again

-- what is found stays found
pub still_found : {V : Type 0} (name : List ℕ) (names more : Named V) (v : V) → look_up name names ≡ Some v → look_up name (names ++ more) ≡ Some v
still_found name names more v h = look_up_append name names more ∙ ap (λ o. or_else o (look_up name more)) h

-- a new name is found behind the others
pub new_found : {V : Type 0} (name : List ℕ) (names more : Named V) → look_up name names ≡ None → look_up name (names ++ more) ≡ look_up name more
new_found name names more h = look_up_append name names more ∙ ap (λ o. or_else o (look_up name more)) h

pub absent : {V : Type 0} (o : Option V) → is_some o ≡ false → o ≡ None
absent None h = refl
absent (Some v) h = absurd (cc)

-- a new name is added at the end
pub added_new : {V : Type 0} (name : List ℕ) (v : V) (names : Named V) → has name names ≡ false → added name v names ≡ names ++ (name, v) ∷ []
added_new name v names h = ap (λ b. cond b names (names ++ (name, v) ∷ [])) h

-- the value of a name in an environment is the one that is found
pub value_found : (name : List ℕ) (env : Env) (v : Value) → look_up name env ≡ Some v → meaning.look_up name env ≡ v
value_found name [] v h = absurd (cc)
value_found name (b ∷ env) v h = cases (bytes_eq b.0 name) (value_found name env v) h
  where
    cases : (c : Bool) → (look_up name env ≡ Some v → meaning.look_up name env ≡ v) → cond c (Some b.1) (look_up name env) ≡ Some v →
        cond c b.1 (meaning.look_up name env) ≡ v
    cases true again h = cc
    cases false again h = again h
