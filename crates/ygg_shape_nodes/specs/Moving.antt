-- What is made in the stead of a word at a width, and of an operation with a constant: they are moved into picks.
use Rattle.std.specs.Prelude.{ℕ, Bool, true, false, ◌==◌, ◌&&◌, ◌||◌, nat_le, if◌then◌else◌, Option, Some, List, slice_get}
use Rattle.ygg_value.specs.declared.operation.Op.{Op}
use Rattle.ygg_value.specs.declared.operation.Op.TheVariants.{Add, Sub}
use Rattle.ygg_shape_words.specs.ygg_bank.Nodes.{width_at, widths_of}
use Rattle.ygg_shape_words.specs.ygg_bank.declared.node.Id.{Id}
use Rattle.ygg_shape_words.specs.ygg_bank.declared.node.Node.{Node}
use Rattle.ygg_shape_words.specs.ygg_bank.declared.node.Node.TheVariants.{Const, Bin, Resize, Pick}
use Rattle.ygg_shape_nodes.specs.declared.rules.Instead.{Instead}
use Rattle.ygg_shape_nodes.specs.declared.rules.Instead.TheVariants as instead

-- whether what is done to a pick between these words is done to the words: one of them is a constant, or neither is a pick
abbrev pub is_open : Option Node → Option Node → Bool
is_open (Some (Const k)) n = true
is_open m (Some (Const k)) = true
is_open (Some (Pick t x y)) n = false
is_open m (Some (Pick t x y)) = false
is_open m n = true

-- a pick between two nodes, where it is open
abbrev pub split_if : Bool → Id → Node → Node → Instead
split_if b t m k = if b then instead.Split t m k else instead.Itself

-- of a node at a width
abbrev pub resize_of : List Node → ℕ → Option Node → Instead
resize_of nodes w (Some (Resize x u)) =
    if nat_le w u || nat_le (width_at (widths_of nodes) x) u then instead.Other (Resize x w) else instead.Itself
resize_of nodes w (Some (Pick t x y)) = split_if (is_open (slice_get nodes x.0) (slice_get nodes y.0)) t (Resize x w) (Resize y w)
resize_of nodes w n = instead.Itself

-- of a term at a width
abbrev pub resize_instead : List Node → Id → ℕ → Instead
resize_instead nodes a w = if width_at (widths_of nodes) a == w then instead.Term a else resize_of nodes w (slice_get nodes a.0)

-- whether an operation with a constant is moved into picks
abbrev pub is_moved : Op → Bool
is_moved Add = true
is_moved Sub = true
is_moved op = false

-- of an operation on two nodes, which stand at these places
abbrev pub moved_bin : List Node → Op → Id → Id → Option Node → Option Node → Instead
moved_bin nodes op a b (Some (Pick t x y)) (Some (Const k)) =
    split_if (is_moved op && is_open (slice_get nodes x.0) (slice_get nodes y.0)) t (Bin op x b) (Bin op y b)
moved_bin nodes op a b (Some (Const k)) (Some (Pick t x y)) =
    split_if (is_moved op && is_open (slice_get nodes x.0) (slice_get nodes y.0)) t (Bin op a x) (Bin op a y)
moved_bin nodes op a b m n = instead.Itself
