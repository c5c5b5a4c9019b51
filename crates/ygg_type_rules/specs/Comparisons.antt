-- What comparing two shapes gives: the reason of a type error, if there is one.
use Rattle.std.specs.Prelude.{ℕ, ◌&&◌, ◌==◌, if◌then◌else◌, Option, Some, None}
use Rattle.ygg_base.specs.declared.reason.Reason.{Reason}
use Rattle.ygg_base.specs.declared.reason.Reason.TheVariants as reason
use Rattle.ygg_value.specs.declared.operation.Op.{Op}
use Rattle.ygg_value.specs.declared.operation.Op.TheVariants.{Add, Sub, Mul, And, Or, Xor, Shl, Shr, Eq, Ne, Lt, Le, Gt, Ge, Imp}
use Rattle.ygg_value.specs.declared.shape.Shape.{Shape}
use Rattle.ygg_value.specs.declared.shape.Shape.TheVariants.{Word}
use Rattle.ygg_type_rules.specs.Shapes.{is_word, width_of, same_shape}

-- the first where the second is wanted: `Width` for words of different width, `Shape` for any other difference
abbrev pub wanted_error : Shape → Shape → Option Reason
wanted_error a wanted = if same_shape a wanted then None else if is_word a && is_word wanted then Some reason.Width else Some reason.Shape

-- `==` and `!=`: `Width` for words of different width, `Shape` for other shapes that differ
abbrev pub equality_error : Shape → Shape → Option Reason
equality_error a b = wanted_error a b

-- `<<` and `>>`: `Shape` unless words
abbrev pub shift_error : Shape → Shape → Option Reason
shift_error a b = if is_word a && is_word b then None else Some reason.Shape

-- `=>`: `Shape` unless words, `Width` unless both have width 1
abbrev pub implication_error : Shape → Shape → Option Reason
implication_error a b = if is_word a && is_word b then (if width_of a == 1 && width_of b == 1 then None else Some reason.Width) else Some reason.Shape

-- `+ - * & | ^ < <= > >=`: `Shape` unless words, `Width` unless of one width
abbrev pub arithmetic_error : Shape → Shape → Option Reason
arithmetic_error a b = if is_word a && is_word b then (if width_of a == width_of b then None else Some reason.Width) else Some reason.Shape

-- the operands of an operator
abbrev pub operator_error : Op → Shape → Shape → Option Reason
operator_error Add = arithmetic_error
operator_error Sub = arithmetic_error
operator_error Mul = arithmetic_error
operator_error And = arithmetic_error
operator_error Or = arithmetic_error
operator_error Xor = arithmetic_error
operator_error Shl = shift_error
operator_error Shr = shift_error
operator_error Eq = equality_error
operator_error Ne = equality_error
operator_error Lt = arithmetic_error
operator_error Le = arithmetic_error
operator_error Gt = arithmetic_error
operator_error Ge = arithmetic_error
operator_error Imp = implication_error

-- the shape of an operator's result, where its first operand has this shape
abbrev pub operator_shape : Op → Shape → Shape
operator_shape Add a = a
operator_shape Sub a = a
operator_shape Mul a = a
operator_shape And a = a
operator_shape Or a = a
operator_shape Xor a = a
operator_shape Shl a = a
operator_shape Shr a = a
operator_shape Eq a = Word 1
operator_shape Ne a = Word 1
operator_shape Lt a = Word 1
operator_shape Le a = Word 1
operator_shape Gt a = Word 1
operator_shape Ge a = Word 1
operator_shape Imp a = Word 1
