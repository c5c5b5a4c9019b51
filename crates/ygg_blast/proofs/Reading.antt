-- Numbers read from the values of variables, from the highest bit down.
use Rattle.std.proofs.Common.{◌≡◌, ◌<◌, ◌≤◌, ◌^◌, ℕ, suc, ◌+◌, ◌-◌, ◌*◌, Bool, sym, ap, ◌∙◌, arith}
use Rattle.std.proofs.Math.Nat.{pow-le-pow_right}
use Rattle.ygg_value.specs.Words.{bit_of}
use Rattle.ygg_gates.specs.Sources.{number_from}
use Rattle.ygg_gates.proofs.Whole.{number_from_below}

-- the bits from a place on are read
pub record Reading (value : ℕ → Bool) (first width place bits : ℕ) : Type 0 where
  pub is : bits ≡ number_from value (first + place) (width - place)
  pub within : place ≤ width

pub reading_begins : (value : ℕ → Bool) (first width : ℕ) → Reading value first width width 0
reading_begins value first width =
    let none : width - width ≡ 0 = omega arith in record { is = ap (number_from value (first + width)) (sym none); within = omega arith }

pub reading_goes : (value : ℕ → Bool) (first width place bits : ℕ) (bit : Bool) (next : ℕ) → bit ≡ value (first + place) → next ≡ bit_of bit + 2 * bits →
    Reading value first width (place + 1) bits → Reading value first width place next
reading_goes value first width place bits bit next e f s =
    let w = s.within in
    let more : width - place ≡ suc (width - (place + 1)) = omega arith in
    let up : first + (place + 1) ≡ first + place + 1 = omega arith in
    record {
      is = f ∙ ap (λ b. bit_of b + 2 * bits) e ∙ ap (λ n. bit_of (value (first + place)) + 2 * n)
          (s.is ∙ ap (λ k. number_from value k (width - (place + 1))) up)
          ∙ ap (number_from value (first + place)) (sym more);
      within = omega arith;
    }

pub reading_fits : (value : ℕ → Bool) (first width place bits : ℕ) → width ≤ 64 → Reading value first width (place + 1) bits → bits < 2 ^ 63
reading_fits value first width place bits l s =
    let h = number_from_below value (first + (place + 1)) (width - (place + 1)) in
    let e = s.is in
    let p = pow-le-pow_right {n = 2} (omega arith) {i = width - (place + 1)} {j = 63} (omega arith) in
    omega (arith, h, e, p)

pub reading_is : (value : ℕ → Bool) (first width bits : ℕ) → Reading value first width 0 bits → bits ≡ number_from value first width
reading_is value first width bits s =
    let none : first + 0 ≡ first = omega arith in
    let all : width - 0 ≡ width = omega arith in
    s.is ∙ ap (λ k. number_from value k (width - 0)) none ∙ ap (number_from value first) all

pub reading_below : (value : ℕ → Bool) (first width bits : ℕ) → Reading value first width 0 bits → bits < 2 ^ width
reading_below value first width bits s = let e = reading_is value first width bits s in let h = number_from_below value first width in omega (arith, e, h)

pub ruleset reading_rules = (reading_begins, reading_goes, reading_fits, reading_is, reading_below)
