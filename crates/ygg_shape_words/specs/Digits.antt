-- Which digits of a term may be 1.
use Rattle.std.specs.Prelude.{ℕ, zero, suc, ◌≡◌, ◌==◌, Bool, bit_and, Option, Some, List, slice_get}
use Rattle.ygg_value.specs.Number.{Number}
use Rattle.ygg_value.specs.Words.{word, apply_to, not_of, resized}
use Rattle.ygg_value.specs.declared.operation.Op.{Op}
use Rattle.ygg_value.specs.declared.operation.Op.TheVariants.{Shl, Shr}
use Rattle.ygg_bank.specs.Making.{known_in}
use Rattle.ygg_bank.specs.Nodes.{width_at, widths_of}
use Rattle.ygg_bank.specs.declared.node.Id.{Id}
use Rattle.ygg_bank.specs.declared.node.Node.{Node}
use Rattle.ygg_bank.specs.declared.node.Node.TheVariants.{Const, Bin, Resize}
use Rattle.ygg_shape_words.specs.declared.digits.TheConstants.{DIGIT_DEPTH}

-- the word of this width whose digits are all 1
abbrev pub all_ones : ℕ → Number
all_ones w = not_of (word w 0)

-- the digits that an operation may have, where the first word may have these and this is known of the second
abbrev pub may_bin : Op → Number → Option Number → ℕ → Number
may_bin Shl m (Some c) w = apply_to Shl m c
may_bin Shr m (Some c) w = apply_to Shr m c
may_bin op m c w = all_ones w

-- the digits that a node may have
abbrev pub may_node : (Id → Number) → List Node → ℕ → Option Node → Number
may_node next nodes w (Some (Const k)) = k
may_node next nodes w (Some (Resize x u)) = resized (next x) u
may_node next nodes w (Some (Bin op x y)) = may_bin op (next x) (known_in (slice_get nodes y.0)) w
may_node next nodes w n = all_ones w

-- the digits that a term may have, where as many nodes below one another are looked at
unfoldable pub may_within : ℕ → List Node → Id → Number
may_within zero nodes a = all_ones (width_at (widths_of nodes) a)
may_within (suc depth) nodes a = may_node (may_within depth nodes) nodes (width_at (widths_of nodes) a) (slice_get nodes a.0)

-- the digits that a term may have
abbrev pub may_have : List Node → Id → Number
may_have nodes a = may_within DIGIT_DEPTH nodes a

-- whether a term may be a constant: it may have all of its digits
abbrev pub may_be : List Node → Id → Number → Bool
may_be nodes a k = bit_and k.bits (may_have nodes a).bits == k.bits

-- the word has no other digits than these
pub record Covers (m x : Number) : Type 0 where
  pub width : m.width ≡ x.width
  pub digits : bit_and x.bits m.bits ≡ x.bits
