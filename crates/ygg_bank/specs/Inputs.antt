-- Which numbers the inputs among nodes have.
use Rattle.std.specs.Prelude.{ℕ, ◌≡◌, ◌<◌, ◌+◌, max, Some, List, slice_get}
use Rattle.ygg_bank.specs.declared.node.Node.{Node}
use Rattle.ygg_bank.specs.declared.node.Node.TheVariants.{Input}

-- every input among the nodes has a number below this
abbrev pub InputsBelow : ℕ → List Node → Type 0
InputsBelow next nodes = (place number w : ℕ) → slice_get nodes place ≡ Some (Input number w) → number < next

-- the number that all inputs are below once this node is made, where they were below a number before
abbrev pub next_after : ℕ → Node → ℕ
next_after next (Input number w) = max next (number + 1)
next_after next n = next

-- the node is no input
abbrev pub NoInput : Node → Type 0
NoInput (Input number w) = ⊥
NoInput n = Unit {0}

-- no input came: inputs that were below a number still are
abbrev pub KeepsInputs : List Node → List Node → Type 0
KeepsInputs old new = (next : ℕ) → InputsBelow next old → InputsBelow next new
