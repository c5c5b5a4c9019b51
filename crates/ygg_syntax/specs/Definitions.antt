-- What a definition's name weighs.
use Rattle.std.specs.Prelude.{◌≡◌, ◌<◌, ℕ, List, length, take, slice_get, Some}
use Rattle.ygg_syntax.specs.declared.tree.Def.{Def}
use Rattle.ygg_syntax.specs.Weights.{weights_of, weight_at, expr_weight}

-- the name weighs what the expression of the definition at this place does, over the definitions before it
pub record WeighsAsAt (defs : List Def) (name : List ℕ) (place : ℕ) : Type 0 where
  pub within : place < length defs
  pub means : (def : Def) → slice_get defs place ≡ Some def → weight_at (weights_of defs) name ≡ expr_weight (weights_of (take place defs)) def.body
