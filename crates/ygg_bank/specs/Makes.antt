-- Steps that make nodes, one after another.
use Rattle.std.specs.Prelude.{List}
use Rattle.ygg_bank.specs.declared.node.Node.{Node}

-- what a step answers, and the nodes after it
pub record Out (A : Type 0) : Type 0 where
  pub value : A
  pub nodes : List Node

-- a step that may add nodes
abbrev pub Make : Type 0 → Type 0
Make A = List Node → Out A

-- the step that adds no nodes
abbrev pub pure : {A : Type 0} → A → Make A
pure a nodes = record { value = a; nodes = nodes }

-- what goes on from a step that was made
abbrev pub goes_on : {A B : Type 0} → Out A → (A → Make B) → Out B
goes_on out next = next out.value out.nodes

-- one step, and then another that sees what the first answered
abbrev pub and_make : {A B : Type 0} → Make A → (A → Make B) → Make B
and_make first next nodes = goes_on (first nodes) next
