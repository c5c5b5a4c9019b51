-- Laws of typing and values.
use Rattle.std.specs.Prelude.{◌≡◌, ℕ, IsTrue, List, [], Some}
use Rattle.ygg_meaning.specs.Def.{Def}
use Rattle.ygg_meaning.specs.Expr.{Expr}
use Rattle.ygg_type_rules.specs.Names.{look_up}
use Rattle.ygg_type_rules.specs.declared.scope.Signature.{Signature}
use Rattle.ygg_type_rules.specs.TypeErrors.{none}
use Rattle.ygg_type_rules.specs.Scopes.{Scope}
use Rattle.ygg_type_rules.specs.Expressions.{typing}
use Rattle.ygg_type_rules.specs.Definitions.{definitions_errors, with_definitions}
use Rattle.ygg_meaning.specs.Meaning.{Functions, value_with, functions_of}
use Rattle.ygg_meaning.specs.Meaning as meaning
use Rattle.ygg_meaning_laws.specs.Fitting.{HasShape, Meets}
use Rattle.ygg_meaning_laws.specs.Agrees.{Agrees}

-- an expression without a type error, in a scope that goes together with the values of names, has a shape, and its value has that shape
abbrev pub ExpressionsAreSound : Type 0
ExpressionsAreSound =
    (functions : Functions) (e : Expr) (scope : Scope) (env : meaning.Scope) → Agrees functions scope env → IsTrue (none (typing e scope).type_errors) →
    HasShape (typing e scope).part.shape (value_with functions e env)

-- definitions without a type error give answers of the shapes that they say, for arguments of the shapes that they want
abbrev pub DefinitionsAreSound : Type 0
DefinitionsAreSound =
    (defs : List Def) → IsTrue (none (definitions_errors defs [] [])) →
    (name : List ℕ) (d : Signature) → look_up name (with_definitions defs []) ≡ Some d → Meets (functions_of defs) name d
