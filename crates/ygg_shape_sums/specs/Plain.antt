-- Words in which there are neither sums nor products.
use Rattle.std.specs.Prelude.{◌≡◌, Bool, true, false, Option, Some, List, All, slice_get}
use Rattle.ygg_value.specs.declared.operation.Op.{Op}
use Rattle.ygg_value.specs.declared.operation.Op.TheVariants.{Add, Sub, Mul}
use Rattle.ygg_shape_words.specs.ygg_bank.declared.node.Id.{Id}
use Rattle.ygg_shape_words.specs.ygg_bank.declared.node.Node.{Node}
use Rattle.ygg_shape_words.specs.ygg_bank.declared.node.Node.TheVariants.{Input, Const, Bin, Not, Resize, Pick}

-- whether an operation is neither a sum, nor a difference, nor a product
abbrev pub is_whole_bin : Op → Bool
is_whole_bin Add = false
is_whole_bin Sub = false
is_whole_bin Mul = false
is_whole_bin op = true

-- whether a node is neither of these, nor a complement or a pick
abbrev pub is_whole : Option Node → Bool
is_whole (Some (Input n w)) = true
is_whole (Some (Const k)) = true
is_whole (Some (Bin op x y)) = is_whole_bin op
is_whole (Some (Resize x w)) = true
is_whole n = false

-- a word in which there are neither sums nor products, also below picks and complements
pub data IsPlain (nodes : List Node) : Id → Type 0 where
  whole : (a : Id) → is_whole (slice_get nodes a.0) ≡ true → IsPlain nodes a
  complement : (a x : Id) → slice_get nodes a.0 ≡ Some (Not x) → IsPlain nodes x → IsPlain nodes a
  either : (a t x y : Id) → slice_get nodes a.0 ≡ Some (Pick t x y) → IsPlain nodes x → IsPlain nodes y → IsPlain nodes a

abbrev pub ArePlain : List Node → Id → Id → Type 0
ArePlain nodes a b = IsPlain nodes a × IsPlain nodes b

-- where all of the new list are plain, so are the term and all of the old one
abbrev pub Leads : List Node → Id → List Id → List Id → Type 0
Leads nodes a old new = All (IsPlain nodes) new → All (IsPlain nodes) old × IsPlain nodes a
