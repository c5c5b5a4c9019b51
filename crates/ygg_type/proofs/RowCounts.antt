-- The type errors of the number of a row's words, by what is known of its parts.
use Rattle.std.proofs.Common.{◌≡◌, ◌≤◌, true, false, List, [], ◌∷◌, length, Some, refl, arith}
use Rattle.std.specs.Prelude.{◌==◌, slice_get}
use Rattle.std.proofs.lemmas.Option.{slice_get_past}
use Rattle.std.proofs.lemmas.Bool.Decides.{nat_tests}
use Rattle.ygg_base.specs.declared.reason.Reason.TheVariants as reason
use Rattle.ygg_syntax.specs.declared.tree.Place.{Place}
use Rattle.ygg_type_rules.specs.declared.scope.TypedExpr.{TypedExpr}
use Rattle.ygg_type_rules.specs.TypeErrors.{nothing, one, type_error}
use Rattle.ygg_type_rules.specs.Expressions.{row_count}

-- a row without any parts
pub no_parts : (at : Place) (parts : List TypedExpr) → true ≡ (length parts == 0) → row_count at parts ≡ one (type_error at reason.Limit)
no_parts at [] none = refl
no_parts at (p ∷ ps) none = absurd (grind (arith, nat_tests, none))

-- a row with few parts
pub few_parts : (at : Place) (parts : List TypedExpr) → false ≡ (length parts == 0) → length parts ≤ 64 → row_count at parts ≡ nothing
few_parts at [] some few = absurd (grind (arith, nat_tests, some))
few_parts at (p ∷ ps) some few = rw (slice_get_past (p ∷ ps) 64 few, row_count) refl

-- a row with a 65th part
pub many_parts : (at : Place) (parts : List TypedExpr) (over : TypedExpr) → slice_get parts 64 ≡ Some over
    → row_count at parts ≡ one (type_error over.place reason.Limit)
many_parts at [] over is = cc
many_parts at (p ∷ ps) over is = rw (is, row_count) refl
