-- What the answers of the table are worth.
use Rattle.std.specs.Prelude.{ℕ, ◌≡◌, Some}
use Rattle.ygg_value.specs.Number.{Number, IsWord}
use Rattle.ygg_value.specs.Words.{apply_to}
use Rattle.ygg_value.specs.declared.operation.Op.{Op}
use Rattle.ygg_rules.specs.Rows.{row}
use Rattle.ygg_rules.specs.Views.{Seen, operand, FitsBin, IsKnown, IsView, number_of, value_of}
use Rattle.ygg_rules.specs.declared.rule.RuleKind.{RuleKind}
use Rattle.ygg_rules.specs.declared.view.Operand.{Operand}
use Rattle.ygg_rules.specs.declared.view.Rewrite.{Rewrite}
use Rattle.ygg_rules.specs.declared.view.Rewrite.TheVariants as rewrite

-- the view's operand with this number is there and has the view's width
pub record IsThere (v : Seen) (number : ℕ) : Type 0 where
  pub it : Operand
  pub there : operand v number ≡ Some it
  pub width : it.width ≡ v.width

-- the view's operands with these numbers are there, and a term of the view's width may apply the operation to them
pub record AreThere (v : Seen) (op : Op) (first second : ℕ) : Type 0 where
  pub one : Operand
  pub two : Operand
  pub one_there : operand v first ≡ Some one
  pub two_there : operand v second ≡ Some two
  pub fits : FitsBin op v.width one.width two.width

-- the operands that an answer names are there, and the term that it names has the view's width
abbrev pub Names : Seen → Rewrite → Type 0
Names v rewrite.Keep = Unit {0}
Names v (rewrite.Operand number) = IsThere v number
Names v (rewrite.Constant k) = IsKnown v.width k
Names v (rewrite.Node op first second) = AreThere v op first second

-- the number may be the operand's: a word of its width, and the known word where that is known
pub record MayBe (o : Operand) (value : Number) : Type 0 where
  pub word : IsWord value
  pub width : value.width ≡ o.width
  pub known : (k : Number) → o.known ≡ Some k → value ≡ k

-- the numbers, one for each id, may be those of the view's operands
abbrev pub MayHold : Seen → (ℕ → Number) → Type 0
MayHold v values = (number : ℕ) (o : Operand) → operand v number ≡ Some o → MayBe o (values o.id)

-- the number of the term that an answer names, where each id has the given one
abbrev pub rewrite_value : (ℕ → Number) → Seen → Rewrite → Number
rewrite_value values v rewrite.Keep = value_of values v
rewrite_value values v (rewrite.Operand number) = number_of values (operand v number)
rewrite_value values v (rewrite.Constant k) = k
rewrite_value values v (rewrite.Node op first second) = apply_to op (number_of values (operand v first)) (number_of values (operand v second))

-- every answer of the table names operands that are there, with widths that fit
abbrev pub RowsName : Type 0
RowsName = (kind : RuleKind) (v : Seen) → IsView v → Names v (row kind v)

-- every answer of the table has the view's value, for all values of the operands
abbrev pub RowsKeepValues : Type 0
RowsKeepValues = (kind : RuleKind) (v : Seen) (values : ℕ → Number) → IsView v → MayHold v values → rewrite_value values v (row kind v) ≡ value_of values v
