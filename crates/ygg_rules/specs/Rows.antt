-- The table of rules: what a rule of each kind answers of a view.
use Rattle.std.specs.Prelude.{ℕ, Bool, false, ◌==◌, ◌||◌, if◌then◌else◌, Option, Some, None, List, [], ◌∷◌}
use Rattle.ygg_value.specs.Number.{Number}
use Rattle.ygg_value.specs.Words.{word, apply_to, not_of, resized}
use Rattle.ygg_value.specs.declared.operation.Op.{Op}
use Rattle.ygg_value.specs.declared.operation.Op.TheVariants.{Add, And, Or, Eq}
use Rattle.ygg_rules.specs.Views.{Seen}
use Rattle.ygg_rules.specs.declared.rule.RuleKind.{RuleKind}
use Rattle.ygg_rules.specs.declared.rule.RuleKind.TheVariants.{Fold, AndOnes, AndZero, OrZero, AddZero, EqSelf, PickSame}
use Rattle.ygg_rules.specs.declared.view.Operand.{Operand}
use Rattle.ygg_rules.specs.declared.view.Act.{Act}
use Rattle.ygg_rules.specs.declared.view.Act.TheVariants.{Bin, Not, Resize, Pick}
use Rattle.ygg_rules.specs.declared.view.Rewrite.{Rewrite}
use Rattle.ygg_rules.specs.declared.view.Rewrite.TheVariants as rewrite

-- whether the word is known, and its number is n
abbrev pub is_known_as : ℕ → Option Number → Bool
is_known_as n None = false
is_known_as n (Some k) = k.bits == n

-- whether the word is known, and all its digits are 1: the complement is 0
abbrev pub is_known_ones : Option Number → Bool
is_known_ones None = false
is_known_ones (Some k) = (not_of k).bits == 0

-- the other operand, where the first qualifies, or else the second
abbrev pub other_of : Bool → Bool → Rewrite
other_of first second = if first then rewrite.Operand 1 else if second then rewrite.Operand 0 else rewrite.Keep

-- this constant, where the test passes
abbrev pub constant_if : Bool → Number → Rewrite
constant_if test k = if test then rewrite.Constant k else rewrite.Keep

-- the constant that an operation makes of two known words
abbrev pub folded_two : Op → Option Number → Option Number → Rewrite
folded_two op (Some a) (Some b) = rewrite.Constant (apply_to op a b)
folded_two op _ _ = rewrite.Keep

-- the constant that the function makes of a known word
abbrev pub folded_one : (Number → Number) → Option Number → Rewrite
folded_one f (Some a) = rewrite.Constant (f a)
folded_one f None = rewrite.Keep

-- the row of a kind, for each act, width and operands
abbrev pub row_of : RuleKind → Act → ℕ → Operand → Option Operand → Rewrite
row_of Fold (Bin op) width a (Some b) = folded_two op a.known b.known
row_of Fold Not width a b = folded_one not_of a.known
row_of Fold Resize width a b = folded_one (λ k. resized k width) a.known
row_of Fold Pick width a b = if is_known_as 1 a.known then rewrite.Operand 1 else if is_known_as 0 a.known then rewrite.Operand 2 else rewrite.Keep
row_of AndOnes (Bin And) width a (Some b) = other_of (is_known_ones a.known) (is_known_ones b.known)
row_of AndZero (Bin And) width a (Some b) = constant_if (is_known_as 0 a.known || is_known_as 0 b.known) (word width 0)
row_of OrZero (Bin Or) width a (Some b) = other_of (is_known_as 0 a.known) (is_known_as 0 b.known)
row_of AddZero (Bin Add) width a (Some b) = other_of (is_known_as 0 a.known) (is_known_as 0 b.known)
row_of EqSelf (Bin Eq) width a (Some b) = constant_if (a.id == b.id) (word 1 1)
row_of _ _ _ _ _ = rewrite.Keep

-- the second operand, where it and the third have one id
abbrev pub same_of : Option Operand → Option Operand → Rewrite
same_of (Some b) (Some c) = if b.id == c.id then rewrite.Operand 1 else rewrite.Keep
same_of _ _ = rewrite.Keep

-- what a rule of a kind answers
abbrev pub row : RuleKind → Seen → Rewrite
row PickSame v = same_of v.two v.three
row kind v = row_of kind v.act v.width v.one v.two

-- the first answer that isn't Keep
abbrev pub or_else : Rewrite → Rewrite → Rewrite
or_else rewrite.Keep second = second
or_else first second = first

-- what the rules of these kinds answer in order: the first answer that isn't Keep
abbrev pub book_row : List RuleKind → Seen → Rewrite
book_row [] v = rewrite.Keep
book_row (kind ∷ kinds) v = or_else (row kind v) (book_row kinds v)
