-- Lists of nodes: widths, and which nodes may stand after which.
use Rattle.std.specs.Prelude.{ℕ, ◌≡◌, ◌<◌, Some, List, [], ◌∷◌, ◌++◌, length, slice_get, slice_index_or}
use Rattle.ygg_value.specs.Number.{IsWord}
use Rattle.ygg_value.specs.Words.{word, result_width, CanApply}
use Rattle.ygg_value.specs.declared.operation.Op.{Op}
use Rattle.ygg_rules.specs.Views.{IsWidth}
use Rattle.ygg_bank.specs.declared.node.Id.{Id}
use Rattle.ygg_bank.specs.declared.node.Node.{Node}
use Rattle.ygg_bank.specs.declared.node.Node.TheVariants.{Input, Const, Bin, Not, Resize, Pick}

-- the width of the node at a place, among the widths of all nodes in order
abbrev pub width_at : List ℕ → Id → ℕ
width_at widths id = slice_index_or widths id.0 0

-- a node's width, where those of the nodes before it are these
abbrev pub node_width : List ℕ → Node → ℕ
node_width widths (Input n w) = w
node_width widths (Const k) = k.width
node_width widths (Bin op a b) = result_width op (width_at widths a)
node_width widths (Not a) = width_at widths a
node_width widths (Resize a w) = w
node_width widths (Pick t a b) = width_at widths a

-- the widths of all nodes in order, where those of the nodes before them are these
abbrev pub widths_after : List ℕ → List Node → List ℕ
widths_after widths [] = widths
widths_after widths (n ∷ ns) = widths_after (widths ++ node_width widths n ∷ []) ns

-- the widths of all nodes in order
abbrev pub widths_of : List Node → List ℕ
widths_of = widths_after []

-- a node of this width stands at the place
abbrev pub HasWidth : List Node → Id → ℕ → Type 0
HasWidth nodes id w = slice_get (widths_of nodes) id.0 ≡ Some w

-- a node stands at the place
abbrev pub Stands : List Node → Id → Type 0
Stands nodes id = id.0 < length nodes

-- every input of this number among the nodes has this width
abbrev pub OneWidth : List Node → ℕ → ℕ → Type 0
OneWidth nodes number w = (k u : ℕ) → slice_get nodes k ≡ Some (Input number u) → u ≡ w

-- the children of an operation stand among the nodes, with widths that it takes
pub record CanBin (nodes : List Node) (op : Op) (a b : Id) : Type 0 where
  pub one : Stands nodes a
  pub two : Stands nodes b
  pub widths : CanApply op (word (width_at (widths_of nodes) a) 0) (word (width_at (widths_of nodes) b) 0)

-- the children of a pick stand among the nodes: a test of width 1, and two of one width
pub record CanPick (nodes : List Node) (t a b : Id) : Type 0 where
  pub test : Stands nodes t
  pub yes : Stands nodes a
  pub no : Stands nodes b
  pub digit : width_at (widths_of nodes) t ≡ 1
  pub widths : width_at (widths_of nodes) a ≡ width_at (widths_of nodes) b

-- the node may stand after the nodes: its children stand there, the widths fit, and each input number has one width
abbrev pub CanMake : List Node → Node → Type 0
CanMake nodes (Input n w) = IsWidth w × OneWidth nodes n w
CanMake nodes (Const k) = IsWord k
CanMake nodes (Bin op a b) = CanBin nodes op a b
CanMake nodes (Not a) = Stands nodes a
CanMake nodes (Resize a w) = Stands nodes a × IsWidth w
CanMake nodes (Pick t a b) = CanPick nodes t a b

-- each of the later nodes may stand after all nodes before it
abbrev pub InOrder : List Node → List Node → Type 0
InOrder before [] = Unit {0}
InOrder before (n ∷ ns) = CanMake before n × InOrder (before ++ n ∷ []) ns

-- no two places hold equal nodes
abbrev pub Distinct : List Node → Type 0
Distinct nodes = (i j : ℕ) (n : Node) → slice_get nodes i ≡ Some n → slice_get nodes j ≡ Some n → i ≡ j

-- children stand before their node, all widths fit, and no two nodes are equal
pub record IsBank (nodes : List Node) : Type 0 where
  pub ordered : InOrder [] nodes
  pub distinct : Distinct nodes

-- the new nodes are the old ones and perhaps more after them
pub record Extends (old new : List Node) : Type 0 where
  pub more : List Node
  pub is : new ≡ old ++ more
