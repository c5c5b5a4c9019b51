-- Terms as rules see them, and the value of such a term.
use Rattle.std.specs.Prelude.{ℕ, zero, suc, ◌≡◌, ◌≤◌, ◌==◌, if◌then◌else◌, Option, Some, None}
use Rattle.ygg_value.specs.Number.{Number, IsWord}
use Rattle.ygg_value.specs.Words.{word, apply_to, result_width, CanApply, resized}
use Rattle.ygg_value.specs.Words.{not_of as complement}
use Rattle.ygg_value.specs.declared.operation.Op.{Op}
use Rattle.ygg_rules.specs.declared.view.Operand.{Operand}
use Rattle.ygg_rules.specs.declared.view.Act.{Act}
use Rattle.ygg_rules.specs.declared.view.Act.TheVariants.{Bin, Not, Resize, Pick}

-- what a view holds
pub record Seen : Type 0 where
  pub act : Act
  pub width : ℕ
  pub one : Operand
  pub two : Option Operand
  pub three : Option Operand

-- the operand with a number, where there is one
abbrev pub operand : Seen → ℕ → Option Operand
operand v zero = Some v.one
operand v (suc zero) = v.two
operand v (suc (suc zero)) = v.three
operand v _ = None

-- a width from 1 to 64
pub record IsWidth (width : ℕ) : Type 0 where
  pub least : 1 ≤ width
  pub most : width ≤ 64

-- a term of this width may apply the operation to words of these widths
pub record FitsBin (op : Op) (width one two : ℕ) : Type 0 where
  pub can : CanApply op (word one 0) (word two 0)
  pub is : width ≡ result_width op one

-- a term of this width may pick between words of the last two widths by a word of the first
pub record FitsPick (width one two three : ℕ) : Type 0 where
  pub test : one ≡ 1
  pub yes : two ≡ width
  pub no : three ≡ width

-- a term of this act and width takes these operands and no others
abbrev pub Fits : Act → ℕ → Operand → Option Operand → Option Operand → Type 0
Fits (Bin op) width a (Some b) None = FitsBin op width a.width b.width
Fits Not width a None None = width ≡ a.width
Fits Resize width a None None = Unit {0}
Fits Pick width a (Some b) (Some c) = FitsPick width a.width b.width c.width
Fits _ width a b c = ⊥

-- a word of this width
pub record IsKnown (digits : ℕ) (k : Number) : Type 0 where
  pub word : IsWord k
  pub width : k.width ≡ digits

-- the operand's width may be a word's, and a known word has this width
pub record IsOperand (o : Operand) : Type 0 where
  pub width : IsWidth o.width
  pub known : (k : Number) → o.known ≡ Some k → IsKnown o.width k

-- the operands are those of the act, all widths fit, and operands of one id are equal
pub record IsView (v : Seen) : Type 0 where
  pub fits : Fits v.act v.width v.one v.two v.three
  pub width : IsWidth v.width
  pub operands : (number : ℕ) (o : Operand) → operand v number ≡ Some o → IsOperand o
  pub alike : (i j : ℕ) (a b : Operand) → operand v i ≡ Some a → operand v j ≡ Some b → a.id ≡ b.id → a ≡ b

-- the view of an operation on two operands
abbrev pub bin_of : Op → Operand → Operand → Seen
bin_of op a b = record { act = Bin op; width = result_width op a.width; one = a; two = Some b; three = None }

-- the view of the complement of an operand
abbrev pub not_of : Operand → Seen
not_of a = record { act = Not; width = a.width; one = a; two = None; three = None }

-- the view of an operand at another width
abbrev pub resize_of : Operand → ℕ → Seen
resize_of a width = record { act = Resize; width = width; one = a; two = None; three = None }

-- the view of a pick by the first operand between the others
abbrev pub pick_of : Operand → Operand → Operand → Seen
pick_of a b c = record { act = Pick; width = b.width; one = a; two = Some b; three = Some c }

-- the number that an act makes of its operands' numbers
abbrev pub act_value : Act → ℕ → Number → Number → Number → Number
act_value (Bin op) width a b c = apply_to op a b
act_value Not width a b c = complement a
act_value Resize width a b c = resized a width
act_value Pick width a b c = if a.bits == 1 then b else c

-- the number of an operand, where each id has the given one
abbrev pub number_of : (ℕ → Number) → Option Operand → Number
number_of values (Some o) = values o.id
number_of values None = word 1 0

-- the number of the term, where each id has the given one
abbrev pub value_of : (ℕ → Number) → Seen → Number
value_of values v = act_value v.act v.width (values v.one.id) (number_of values v.two) (number_of values v.three)
