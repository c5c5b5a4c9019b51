-- A scope of typing and the values of names that go together.
use Rattle.std.specs.Prelude.{◌≡◌, ℕ, IsTrue, List, Option, Some}
use Rattle.ygg_value.specs.declared.shape.Shape.{Shape}
use Rattle.ygg_type_rules.specs.Names.{look_up, has}
use Rattle.ygg_type_rules.specs.declared.scope.Local.{Local}
use Rattle.ygg_type_rules.specs.declared.scope.Signature.{Signature}
use Rattle.ygg_type_rules.specs.Scopes.{Scope, name_in, low_in, is_taken}
use Rattle.ygg_meaning.specs.Meaning.{Functions}
use Rattle.ygg_meaning.specs.Meaning as meaning
use Rattle.ygg_meaning_laws.specs.Fitting.{IsShaped, IsHeld, Meets}

-- what typing takes to be in scope is there with values of its shapes
pub record Agrees (functions : Functions) (scope : Scope) (env : meaning.Scope) : Type 0 where
  -- each plain name has a value of its shape
  pub names : (name : List ℕ) (l : Local) → name_in name scope ≡ Some l → IsHeld name l.shape env.own
  -- a plain name that has a value is taken
  pub taken : (name : List ℕ) → IsTrue (has name env.own) → IsTrue (is_taken name scope)
  -- each name behind `low` has a value of its shape
  pub low : (name : List ℕ) (known : Option Shape) → low_in name scope ≡ Some known → IsHeld name known env.low
  -- each definition gives an answer of its shape
  pub defs : (name : List ℕ) (d : Signature) → look_up name scope.defs ≡ Some d → Meets functions name d
  -- each operation of the machine below that gives an answer gives one of some shape
  pub lower : (name : List ℕ) (o : Signature) → look_up name scope.lower ≡ Some o → IsTrue o.answers → IsShaped o.answer
