-- What is made in the stead of a node: the rules, which look at the nodes of its operands.
use Rattle.std.specs.Prelude.{◌≡◌, ◌==◌, Option, Some, List, slice_get}
use Rattle.ygg_value.specs.Number.{IsWord}
use Rattle.ygg_value.specs.declared.operation.Op.{Op}
use Rattle.ygg_shape_words.specs.ygg_bank.Inputs.{NoInput}
use Rattle.ygg_shape_words.specs.ygg_bank.Making.{known_in}
use Rattle.ygg_shape_words.specs.ygg_bank.Nodes.{width_at, widths_of, node_width, HasWidth, CanMake}
use Rattle.ygg_shape_words.specs.ygg_bank.declared.node.Id.{Id}
use Rattle.ygg_shape_words.specs.ygg_bank.declared.node.Node.{Node}
use Rattle.ygg_shape_words.specs.ygg_bank.declared.node.Node.TheVariants.{Bin, Not, Resize}
use Rattle.ygg_shape_nodes.specs.Moving.{moved_bin, resize_instead}
use Rattle.ygg_shape_nodes.specs.Surely.{known_first, known_second, twice_at}
use Rattle.ygg_shape_nodes.specs.declared.rules.Instead.{Instead}
use Rattle.ygg_shape_nodes.specs.declared.rules.Instead.TheVariants as instead

-- the first answer, or the second where the first is the node itself
abbrev pub first_of : Instead → Instead → Instead
first_of instead.Itself j = j
first_of (instead.Term a) j = instead.Term a
first_of (instead.Constant k) j = instead.Constant k
first_of (instead.Other m) j = instead.Other m
first_of (instead.Split t m k) j = instead.Split t m k

-- of the complement of a node
abbrev pub not_instead : Option Node → Instead
not_instead (Some (Not x)) = instead.Term x
not_instead n = instead.Itself

-- of an operation on two terms
abbrev pub bin_instead : List Node → Op → Id → Id → Instead
bin_instead nodes op a b =
    first_of (twice_at (a.0 == b.0) op (width_at (widths_of nodes) a) a)
    (first_of (known_first op a b (known_in (slice_get nodes a.0)))
    (first_of (known_second op a b (known_in (slice_get nodes b.0)))
    (moved_bin nodes op a b (slice_get nodes a.0) (slice_get nodes b.0))))

-- what is made in the stead of a node
abbrev pub instead_of : List Node → Node → Instead
instead_of nodes (Bin op a b) = bin_instead nodes op a b
instead_of nodes (Not a) = not_instead (slice_get nodes a.0)
instead_of nodes (Resize a w) = resize_instead nodes a w
instead_of nodes n = instead.Itself

-- a node that may be made in the stead of another: no input, and as wide
pub record Replaces (nodes : List Node) (n m : Node) : Type 0 where
  pub can : CanMake nodes m
  pub own : NoInput m
  pub width : node_width (widths_of nodes) m ≡ node_width (widths_of nodes) n

-- what is made in the stead of a node stands there, or may be made, and is as wide
abbrev pub InsteadFits : List Node → Node → Instead → Type 0
InsteadFits nodes n instead.Itself = Unit {0}
InsteadFits nodes n (instead.Term a) = HasWidth nodes a (node_width (widths_of nodes) n)
InsteadFits nodes n (instead.Constant k) = IsWord k × (k.width ≡ node_width (widths_of nodes) n)
InsteadFits nodes n (instead.Other m) = Replaces nodes n m
InsteadFits nodes n (instead.Split t m k) = HasWidth nodes t 1 × Replaces nodes n m × Replaces nodes n k
