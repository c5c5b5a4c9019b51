-- Words by their binary digits, of which bit_at gives the one at a place, the lowest at 0.
use Rattle.std.proofs.Common.{add-zero, div-add-mod', ◌+◌, ◌≡◌, ℕ, ◌<◌, ◌≤◌, zero, suc, ◌-◌, ◌*◌, ◌/◌, ◌%◌, ◌^◌, ap, sym, subst, ◌∙◌, arith}
use Rattle.std.proofs.lemmas.Nat.Bits.{same_from_bits_below, bit_at_lowest, bit_at-suc, bit_at-zero, bit_at_cat_low, bit_at_cat_high}
use Rattle.std.proofs.Math.Nat.{pow-suc, add_comm, div-div-eq-div-mul}
use Rattle.std.specs.Int.{bit_at}
use Rattle.ygg_value.proofs.Cut.{nat_lt-true}
use Rattle.ygg_value.specs.Number.{Number, IsWord}
use Rattle.ygg_value.specs.Words.{word, apply_to, not_of, resized}
use Rattle.ygg_value.specs.declared.operation.Op.TheVariants.{Shl, Shr}
use Rattle.std.proofs.lemmas.Nat.{pow_pos, pow-add}

-- two words of one width with the same digits are equal
pub same_from_digits :
    (a b : Number) → IsWord a → IsWord b → a.width ≡ b.width → ((place : ℕ) → place < a.width → bit_at a.bits place ≡ bit_at b.bits place) → a ≡ b
same_from_digits a b x y wide digits =
    let fits : b.bits < 2 ^ a.width = let P : ℕ → Type 0 = λ w. b.bits < 2 ^ w in subst P (sym wide) y.fits in
    ap (word a.width) (same_from_bits_below a.width a.bits b.bits x.fits fits digits) ∙ ap (λ w. word w b.bits) wide

-- the digits of the greatest number of a width less another
complement : (w n place : ℕ) → n < 2 ^ w → place < w → bit_at (2 ^ w - 1 - n) place ≡ 1 - bit_at n place
complement zero n place fits h = absurd (omega arith)
complement (suc w) n zero fits h =
    let double : 2 ^ suc w ≡ 2 ^ w * 2 = pow-suc 2 w in
    let low : (2 ^ suc w - 1 - n) % 2 ≡ 1 - n % 2 = omega (arith, double) in
    bit_at_lowest (2 ^ suc w - 1 - n) ∙ low ∙ ap (λ d. 1 - d) (sym (bit_at_lowest n))
complement (suc w) n (suc place) fits h =
    let double : 2 ^ suc w ≡ 2 ^ w * 2 = pow-suc 2 w in
    let half : (2 ^ suc w - 1 - n) / 2 ≡ 2 ^ w - 1 - n / 2 = omega (arith, double) in
    bit_at-suc (2 ^ suc w - 1 - n) place ∙ ap (λ m. bit_at m place) half ∙ complement w (n / 2) place (omega (arith, double)) (omega arith)
    ∙ ap (λ d. 1 - d) (sym (bit_at-suc n place))

-- a complement's digits are turned round
pub bit_at-not_of : (a : Number) (place : ℕ) → IsWord a → place < a.width → bit_at (not_of a).bits place ≡ 1 - bit_at a.bits place
bit_at-not_of a place x h = complement a.width a.bits place x.fits h

-- a cut keeps the digits below it
pub bit_at-cut : (n w place : ℕ) → place < w → bit_at (n % 2 ^ w) place ≡ bit_at n place
bit_at-cut n w place h = sym (bit_at_cat_low (n / 2 ^ w) w (n % 2 ^ w) place h) ∙ ap (λ m. bit_at m place) (div-add-mod' n (2 ^ w))

-- a resize keeps the digits below the new width
pub bit_at-resized : (a : Number) (width place : ℕ) → place < width → bit_at (resized a width).bits place ≡ bit_at a.bits place
bit_at-resized a width place h = bit_at-cut a.bits width place h

-- a shift towards the high digits puts zeros below
pub bit_at-shl_low : (a b : Number) (place : ℕ) → b.bits < a.width → place < b.bits → bit_at (apply_to Shl a b).bits place ≡ 0
bit_at-shl_low a b place within h =
    rw (nat_lt-true b.bits a.width within)
    (bit_at-cut (a.bits * 2 ^ b.bits) a.width place (omega arith) ∙ ap (λ m. bit_at m place) (sym (add-zero (a.bits * 2 ^ b.bits)))
    ∙ bit_at_cat_low a.bits b.bits 0 place h ∙ bit_at-zero place)

-- and moves the digits up
pub bit_at-shl_high : (a b : Number) (place : ℕ) → b.bits < a.width → b.bits ≤ place → place < a.width →
    bit_at (apply_to Shl a b).bits place ≡ bit_at a.bits (place - b.bits)
bit_at-shl_high a b place within h below =
    rw (nat_lt-true b.bits a.width within)
    (bit_at-cut (a.bits * 2 ^ b.bits) a.width place below ∙ ap (λ m. bit_at m place) (sym (add-zero (a.bits * 2 ^ b.bits)))
    ∙ bit_at_cat_high a.bits b.bits 0 place (pow_pos b.bits) h)

-- a shift towards the low digits moves the digits down
pub bit_at-shr : (a b : Number) (place : ℕ) → b.bits < a.width → bit_at (apply_to Shr a b).bits place ≡ bit_at a.bits (place + b.bits)
bit_at-shr a b place within =
    rw (nat_lt-true b.bits a.width within)
    (ap (λ m. m % 2) (div-div-eq-div-mul a.bits (2 ^ b.bits) (2 ^ place))
    ∙ ap (λ m. a.bits / m % 2) (sym (pow-add 2 b.bits place) ∙ ap (λ k. 2 ^ k) (add_comm b.bits place)))
