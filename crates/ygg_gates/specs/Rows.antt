-- The gates of each operation, over lists of bits, the lowest first. Gates are made bit by bit from the lowest up.
use Rattle.std.specs.Prelude.{ℕ, suc, zero, ◌+◌, ◌-◌, ◌/◌, ◌%◌, ◌^◌, ◌==◌, nat_lt, if◌then◌else◌, List, [], ◌∷◌, ◌++◌, length, take, drop, replicate}
use Rattle.ygg_cnf.specs.Literals.{complement}
use Rattle.ygg_cnf.specs.declared.lit.Lit.{Lit}
use Rattle.ygg_value.specs.declared.operation.Op.{Op}
use Rattle.ygg_value.specs.declared.operation.Op.TheVariants as op
use Rattle.ygg_gates.specs.Circuits.{Make, pure, and_make, placed, either, complements, true_literal, false_literal}
use Rattle.ygg_gates.specs.declared.gate.Carried.{Carried}
use Rattle.ygg_gates.specs.declared.gate.Gate.TheVariants.{Free, And, Xor, Mux}
use Rattle.ygg_gates.specs.declared.gate.Joint.{Joint}
use Rattle.ygg_gates.specs.declared.gate.Joint.TheVariants as joint
use Rattle.ygg_gates.specs.declared.gate.Way.{Way}
use Rattle.ygg_gates.specs.declared.gate.Way.TheVariants.{Up, Down}

-- so many new variables, no clauses
abbrev pub free_bits : ℕ → Make (List Lit)
free_bits zero = pure []
free_bits (suc width) = and_make (placed Free) (λ d. and_make (free_bits width) (λ rest. pure (d ∷ rest)))

-- the bits of a number at a width: true or false
abbrev pub constant_bits : ℕ → ℕ → List Lit
constant_bits zero bits = []
constant_bits (suc width) bits = (if bits % 2 == 1 then true_literal else false_literal) ∷ constant_bits width (bits / 2)

-- the bits that are kept, then false
abbrev pub resized_bits : ℕ → List Lit → List Lit
resized_bits width xs = take width xs ++ replicate (width - length xs) false_literal

-- the gate of two bits; OR is the complement of AND of the complements
abbrev pub joined : Joint → Lit → Lit → Make Lit
joined joint.And a b = placed (And a b)
joined joint.Or a b = either a b
joined joint.Xor a b = placed (Xor a b)
joined (joint.Pick test) a b = placed (Mux test a b)

-- the gate for each pair of bits
abbrev pub joined_each : Joint → List Lit → List Lit → Make (List Lit)
joined_each j (x ∷ xs) (y ∷ ys) = and_make (joined j x y) (λ o. and_make (joined_each j xs ys) (λ rest. pure (o ∷ rest)))
joined_each j _ _ = pure []

-- a bit of a sum, with x the XOR of the two bits and c the carry: XOR of x, c. The next carry is OR of AND of the bits and AND
-- of x, c
abbrev pub added_bit : Lit → Lit → Lit → Make Carried
added_bit a b c =
    and_make (placed (Xor a b)) (λ x. and_make (placed (Xor x c)) (λ bit.
    and_make (placed (And a b)) (λ both. and_make (placed (And x c)) (λ through.
    and_make (either both through) (λ carry. pure (record { bit = bit; carry = carry }))))))

-- the bits of a sum, and its last carry
pub record Sum : Type 0 where
  pub bits : List Lit
  pub carry : Lit

-- a sum with this carry
abbrev pub added : List Lit → List Lit → Lit → Make Sum
added (x ∷ xs) (y ∷ ys) c =
    and_make (added_bit x y c) (λ one. and_make (added xs ys one.carry) (λ rest. pure (record { bits = one.bit ∷ rest.bits; carry = rest.carry })))
added _ _ c = pure (record { bits = []; carry = c })

-- a difference: the sum with the second operand's complements and the first carry true
abbrev pub subtracted : List Lit → List Lit → Make Sum
subtracted xs ys = added xs (complements ys) true_literal

-- moved towards the high bits by so many places, with false moved in and the highest bits dropped
abbrev pub moved_up : ℕ → List Lit → List Lit
moved_up places xs = replicate places false_literal ++ take (length xs - places) xs

-- moved towards the low bits by so many places, with false moved in and the lowest bits dropped
abbrev pub moved_down : ℕ → List Lit → List Lit
moved_down places xs = drop places xs ++ replicate places false_literal

-- moved that way by so many places
abbrev pub moved : Way → ℕ → List Lit → List Lit
moved Up = moved_up
moved Down = moved_down

-- what a bit of the second operand, at this place, makes of the sum so far: AND of the bit with each bit of the first operand
-- moved up by the place, and then the sum of both
abbrev pub multiplied_bit : List Lit → List Lit → ℕ → Lit → Make (List Lit)
multiplied_bit xs so_far place d =
    and_make (joined_each joint.And (replicate (length xs) d) (moved_up place xs)) (λ part. and_make (added so_far part false_literal) (λ sum. pure sum.bits))

-- what these bits of the second operand, the first of which has this place, make of the sum so far
abbrev pub multiplied : List Lit → List Lit → ℕ → List Lit → Make (List Lit)
multiplied xs so_far place [] = pure so_far
multiplied xs so_far place (d ∷ ds) = and_make (multiplied_bit xs so_far place d) (λ next. multiplied xs next (place + 1) ds)

-- AND, begun with a literal, of the complements of the XOR of each pair of bits
abbrev pub equal_bits : Lit → List Lit → List Lit → Make Lit
equal_bits so_far (x ∷ xs) (y ∷ ys) =
    and_make (placed (Xor x y)) (λ d. and_make (placed (And so_far (complement d))) (λ next. equal_bits next xs ys))
equal_bits so_far _ _ = pure so_far

-- all gates of the difference, and the complement of its last carry
abbrev pub less : List Lit → List Lit → Make Lit
less xs ys = and_make (subtracted xs ys) (λ sum. pure (complement sum.carry))

-- OR, begun with a literal, of the bits
abbrev pub any_bit : Lit → List Lit → Make Lit
any_bit so_far [] = pure so_far
any_bit so_far (d ∷ ds) = and_make (either so_far d) (λ next. any_bit next ds)

-- how many of the bits of an amount, the first of which has this place k, have 2 ^ k below the width
abbrev pub near : ℕ → ℕ → List Lit → ℕ
near width place [] = 0
near width place (d ∷ ds) = if nat_lt (2 ^ place) width then near width (place + 1) ds + 1 else 0

-- for each bit of the amount, the first of which has this place k, MUX of that bit, the value moved by 2 ^ k, and the value
abbrev pub shifted_near : Way → List Lit → ℕ → List Lit → Make (List Lit)
shifted_near way value place [] = pure value
shifted_near way value place (d ∷ ds) = and_make (joined_each (joint.Pick d) (moved way (2 ^ place) value) value) (λ next. shifted_near way next (place + 1) ds)

-- the shift by the bits k of the amount with 2 ^ k below the width; then the OR, begun with false, of its other bits; then AND of
-- each bit with the complement of this OR
abbrev pub shifted : Way → List Lit → List Lit → Make (List Lit)
shifted way xs amount =
    and_make (shifted_near way xs 0 (take (near (length xs) 0 amount) amount)) (λ value.
    and_make (any_bit false_literal (drop (near (length xs) 0 amount) amount)) (λ over.
    joined_each joint.And value (replicate (length value) (complement over))))

-- one bit
abbrev pub single : Lit → Make (List Lit)
single x = pure (x ∷ [])

-- the bits of an operation's result
abbrev pub operation : Op → List Lit → List Lit → Make (List Lit)
operation op.Add xs ys = and_make (added xs ys false_literal) (λ sum. pure sum.bits)
operation op.Sub xs ys = and_make (subtracted xs ys) (λ sum. pure sum.bits)
operation op.Mul xs ys = multiplied xs (replicate (length xs) false_literal) 0 ys
operation op.And xs ys = joined_each joint.And xs ys
operation op.Or xs ys = joined_each joint.Or xs ys
operation op.Xor xs ys = joined_each joint.Xor xs ys
operation op.Shl xs ys = shifted Up xs ys
operation op.Shr xs ys = shifted Down xs ys
operation op.Eq xs ys = and_make (equal_bits true_literal xs ys) (λ o. single o)
operation op.Ne xs ys = and_make (equal_bits true_literal xs ys) (λ o. single (complement o))
operation op.Lt xs ys = and_make (less xs ys) (λ o. single o)
operation op.Le xs ys = and_make (less ys xs) (λ o. single (complement o))
operation op.Gt xs ys = and_make (less ys xs) (λ o. single o)
operation op.Ge xs ys = and_make (less xs ys) (λ o. single (complement o))
operation op.Imp xs ys = joined_each joint.Or (complements xs) ys
