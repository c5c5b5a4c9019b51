-- What the operations on words give, over numbers.
use Rattle.std.specs.Prelude.{◌≡◌, ℕ, ◌+◌, ◌-◌, ◌*◌, ◌/◌, ◌%◌, ◌^◌, Bool, not, ◌==◌, ◌&&◌, nat_lt, nat_le, if◌then◌else◌, bit_and, bit_or, bit_xor}
use Rattle.ygg_value.specs.Number.{Number}
use Rattle.ygg_value.specs.declared.operation.Op.{Op}
use Rattle.ygg_value.specs.declared.operation.Op.TheVariants.{Add, Sub, Mul, And, Or, Xor, Shl, Shr, Eq, Ne, Lt, Le, Gt, Ge, Imp}

-- the word of this width and number
abbrev pub word : ℕ → ℕ → Number
word width bits = record { width = width; bits = bits }

-- 1 where the test passes, and 0 where it fails
abbrev pub bit_of : Bool → ℕ
bit_of b = if b then 1 else 0

-- the number that an operation gives of the numbers a and b, where w is the width of a; of a shift, b says how far
abbrev pub apply_bits : Op → ℕ → ℕ → ℕ → ℕ
apply_bits Add w a b = (a + b) % 2 ^ w
apply_bits Sub w a b = (a + 2 ^ w - b) % 2 ^ w
apply_bits Mul w a b = (a * b) % 2 ^ w
apply_bits And w a b = bit_and a b
apply_bits Or w a b = bit_or a b
apply_bits Xor w a b = bit_xor a b
apply_bits Shl w a b = if nat_lt b w then (a * 2 ^ b) % 2 ^ w else 0
apply_bits Shr w a b = if nat_lt b w then a / 2 ^ b else 0
apply_bits Eq w a b = bit_of (a == b)
apply_bits Ne w a b = bit_of (not (a == b))
apply_bits Lt w a b = bit_of (nat_lt a b)
apply_bits Le w a b = bit_of (nat_le a b)
apply_bits Gt w a b = bit_of (nat_lt b a)
apply_bits Ge w a b = bit_of (nat_le b a)
apply_bits Imp w a b = bit_of (not (a == 1 && b == 0))

-- the width of what an operation gives: 1 of a comparison and an implication, and else the first operand's
abbrev pub result_width : Op → ℕ → ℕ
result_width Eq w = 1
result_width Ne w = 1
result_width Lt w = 1
result_width Le w = 1
result_width Gt w = 1
result_width Ge w = 1
result_width Imp w = 1
result_width _ w = w

-- the word that an operation gives
abbrev pub apply_to : Op → Number → Number → Number
apply_to op a b = word (result_width op a.width) (apply_bits op a.width a.bits b.bits)

-- a shift's operands may differ in width, an implication's have width 1, and those of the other operations have one width
abbrev pub CanApply : Op → Number → Number → Type 0
CanApply Shl a b = Unit {0}
CanApply Shr a b = Unit {0}
CanApply Imp a b = (a.width ≡ 1) × (b.width ≡ 1)
CanApply _ a b = a.width ≡ b.width

-- each digit turned round
abbrev pub not_of : Number → Number
not_of a = word a.width (2 ^ a.width - 1 - a.bits)

-- high digits are dropped, or zeros are put before them
abbrev pub resized : Number → ℕ → Number
resized a width = word width (a.bits % 2 ^ width)
