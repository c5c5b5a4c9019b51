-- What a bank does to make a node.
use Rattle.std.specs.Prelude.{ℕ, ◌==◌, Bool, true, false, not, ◌&&◌, ◌||◌, if◌then◌else◌, Option, Some, None, is_some, List, [], ◌∷◌, ◌++◌, slice_get}
use Rattle.std.specs.List.{list_any, position_or_len}
use Rattle.ygg_value.specs.Number.{Number}
use Rattle.ygg_value.specs.declared.operation.Op.{Op}
use Rattle.ygg_value.specs.declared.operation.Op.TheVariants.{And, Or, Add}
use Rattle.ygg_rules.specs.Rows.{book_row}
use Rattle.ygg_rules.specs.Views.{Seen, operand, bin_of, not_of, resize_of, pick_of}
use Rattle.ygg_rules.specs.declared.rule.RuleKind.{RuleKind}
use Rattle.ygg_rules.specs.declared.view.Operand.{Operand}
use Rattle.ygg_rules.specs.declared.view.Rewrite.{Rewrite}
use Rattle.ygg_rules.specs.declared.view.Rewrite.TheVariants as rewrite
use Rattle.ygg_bank.specs.Makes.{Make, pure}
use Rattle.ygg_bank.specs.Nodes.{width_at, widths_of}
use Rattle.ygg_bank.specs.contracts.node.NodePartialEq.TheImpl.{eq-value}
use Rattle.ygg_bank.specs.declared.node.Id.{Id}
use Rattle.ygg_bank.specs.declared.node.Node.{Node}
use Rattle.ygg_bank.specs.declared.node.Node.TheVariants.{Input, Const, Bin, Not, Resize, Pick}

-- the place with this number
abbrev pub id : ℕ → Id
id place = record { 0 = place }

-- the word that a node always is, where it is a constant
abbrev pub known_in : Option Node → Option Number
known_in (Some (Const k)) = Some k
known_in _ = None

-- what a rule sees of a node as an operand
abbrev pub operand_of : List Node → Id → Operand
operand_of nodes a = record { id = a.0; width = width_at (widths_of nodes) a; known = known_in (slice_get nodes a.0) }

-- whether the node at a place is a constant
abbrev pub is_known : List Node → Id → Bool
is_known nodes a = is_some (known_in (slice_get nodes a.0))

-- whether each rule keeps an operation on operands of which it is known whether they are constants
abbrev pub is_kept_bin : Op → Bool → Bool → Bool
is_kept_bin And a b = not a && not b
is_kept_bin Or a b = not a && not b
is_kept_bin Add a b = not a && not b
is_kept_bin _ a b = not a || not b

-- whether each rule keeps a node, as far as that is seen of which operands are constants, and which are one
abbrev pub is_kept : List Node → Node → Bool
is_kept nodes (Input n w) = true
is_kept nodes (Const k) = true
is_kept nodes (Bin op a b) = if a.0 == b.0 then false else is_kept_bin op (is_known nodes a) (is_known nodes b)
is_kept nodes (Not a) = not (is_known nodes a)
is_kept nodes (Resize a w) = not (is_known nodes a)
is_kept nodes (Pick t a b) = if a.0 == b.0 then false else not (is_known nodes t)

-- what the book is asked of a node that is to be made; of inputs and constants it is asked nothing
abbrev pub view_of : List Node → Node → Option Seen
view_of nodes (Input n w) = None
view_of nodes (Const k) = None
view_of nodes (Bin op a b) = Some (bin_of op (operand_of nodes a) (operand_of nodes b))
view_of nodes (Not a) = Some (not_of (operand_of nodes a))
view_of nodes (Resize a w) = Some (resize_of (operand_of nodes a) w)
view_of nodes (Pick t a b) = Some (pick_of (operand_of nodes t) (operand_of nodes a) (operand_of nodes b))

-- whether two nodes are equal
abbrev pub same : Node → Node → Bool
same a b = eq-value.it a b

-- the node's place, where it stands, or else the end, where it is added
abbrev pub added : Node → Make Id
added n nodes = record {
  value = id (position_or_len (same n) nodes);
  nodes = if list_any (same n) nodes then nodes else nodes ++ n ∷ [];
}

-- the place of an operand that a rule names; what isn't there, which no rule names, counts as the first place
abbrev pub id_of : Option Operand → Id
id_of (Some o) = id o.id
id_of None = id 0

-- the node, or what a rule's answer names in its stead: an operand, a constant, or an operation on two operands
abbrev pub rewritten : Node → Seen → Rewrite → Make Id
rewritten n v rewrite.Keep = added n
rewritten n v (rewrite.Operand number) = pure (id_of (operand v number))
rewritten n v (rewrite.Constant k) = added (Const k)
rewritten n v (rewrite.Node op first second) = added (Bin op (id_of (operand v first)) (id_of (operand v second)))

-- the node, where the book is asked nothing, or else what it answers
abbrev pub asked : List RuleKind → Node → Option Seen → Make Id
asked kinds n None = added n
asked kinds n (Some v) = rewritten n v (book_row kinds v)

-- what a bank does under a book of these kinds to make a node
abbrev pub made : List RuleKind → Node → Make Id
made kinds n nodes = asked kinds n (view_of nodes n) nodes
