-- One more argument.
use Rattle.std.proofs.Common.{◌≡◌, ◌<◌, ◌+◌, ℕ, List, Option, length, drop, get_or, drop-cons, add-one, arith, refl}
use Rattle.ygg_value.specs.declared.shape.Shape.{Shape}
use Rattle.ygg_type_rules.specs.declared.scope.TypedExpr.{TypedExpr}
use Rattle.ygg_type_rules.specs.TypeErrors.{both}
use Rattle.ygg_type_rules.specs.Expressions.{wanted, arguments_wanted}

pub next_wanted : (i : ℕ) (ps : List TypedExpr) (ws : List (Option Shape)) (p : TypedExpr) (w : Option Shape) → i < length ps → length ps ≡ length ws
    → both (wanted (get_or ps i p) (get_or ws i w)) (arguments_wanted (drop (i + 1) ps) (drop (i + 1) ws)) ≡ arguments_wanted (drop i ps) (drop i ws)
next_wanted i ps ws p w h same =
    let within : i < length ws = omega arith in
    rw (drop-cons ps i p h, drop-cons ws i w within, add-one) refl
