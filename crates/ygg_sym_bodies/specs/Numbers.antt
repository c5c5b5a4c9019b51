-- Numbers for new inputs.
use Rattle.std.specs.Prelude.{◌≤◌, ℕ, List}
use Rattle.ygg_bank.specs.Inputs.{InputsBelow}
use Rattle.ygg_bank.specs.declared.node.Node.{Node}

-- the least number that is above those of all inputs
pub record IsNextInput (nodes : List Node) (next : ℕ) : Type 0 where
  pub above : InputsBelow next nodes
  pub least : (n : ℕ) → InputsBelow n nodes → next ≤ n
