-- The least number above those of the inputs so far.
use Rattle.std.proofs.Common.{◌≡◌, ◌<◌, ◌≤◌, ℕ, List, Some}
use Rattle.std.specs.Prelude.{slice_get}
use Rattle.ygg_bank.specs.Inputs.{InputsBelow}
use Rattle.ygg_bank.specs.declared.node.Node.{Node}
use Rattle.ygg_bank.specs.declared.node.Node.TheVariants as node

-- the least number that is above those of the inputs at the first places
pub record BelowSoFar (nodes : List Node) (place next : ℕ) : Type 0 where
  pub above : (k number w : ℕ) → k < place → slice_get nodes k ≡ Some (node.Input number w) → number < next
  pub least : (n : ℕ) → InputsBelow n nodes → next ≤ n
