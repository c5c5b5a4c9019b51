-- Files whose names have the form of a name.
use Rattle.std.specs.Prelude.{List, All}
use Rattle.ygg_syntax.specs.declared.tree.Declared.{Declared}
use Rattle.ygg_syntax.specs.declared.tree.Operation.{Operation}
use Rattle.ygg_syntax.specs.declared.tree.Tick.{Tick}
use Rattle.ygg_syntax.specs.declared.tree.Layer.{Layer}
use Rattle.ygg_syntax.specs.declared.tree.File.{File}
use Rattle.ygg_print.specs.TreeLaws.{IsName}

-- variables or arguments whose names have the form of a name
abbrev pub AreNamed : List Declared → Type 0
AreNamed = All (λ (d : Declared). IsName d.name.text)

-- an operation whose name has it, and those of its arguments
pub record OperationNamed (o : Operation) : Type 0 where
  pub own : IsName o.name.text
  pub arguments : AreNamed o.arguments

-- a layer whose name has it, and those of its variables, operations and background steps
pub record LayerNamed (l : Layer) : Type 0 where
  pub own : IsName l.name.text
  pub state : AreNamed l.state
  pub memory : AreNamed l.memory
  pub operations : All OperationNamed l.operations
  pub ticks : All (λ (t : Tick). IsName t.name.text) l.ticks

-- a file all of whose layers are such
abbrev pub HasNames : File → Type 0
HasNames f = All LayerNamed f.layers
