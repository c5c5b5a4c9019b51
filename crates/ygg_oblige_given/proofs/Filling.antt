-- Numbers that environments give, and which of them are 1.
use Rattle.std.proofs.Common.{◌≡◌, ◌==◌, ℕ, zero, suc, true, false, List, [], ◌∷◌, ◌∙◌, refl}
use Rattle.std.specs.Prelude.{if◌then◌else◌, map, slice_get, unwrap_or, Some}
use Rattle.ygg_oblige_laws.specs.ygg_bank.Values.{bits_or_zero, given_for, inputs_of}
use Rattle.ygg_oblige_laws.specs.ygg_bank.declared.env.Given.{Given}
use Rattle.ygg_oblige_laws.specs.ygg_bank.declared.env.Given.TheVariants as given
use Rattle.ygg_oblige_given.specs.Ones.{given_over, is_one, number_at}

-- one more item before others
pub one_more : (x : Given) (rest : List Given) (before after : ℕ → ℕ) → ((n : ℕ) → before n ≡ inputs_of rest n) →
    ((n : ℕ) → after n ≡ given_over x before n) → (n : ℕ) → after n ≡ inputs_of (x ∷ rest) n
one_more (given.Word k w) rest before after e h n =
    h n ∙ elim (k == n) as (λ b. (if b then w.bits else before n) ≡ bits_or_zero (if b then Some w else given_for rest n)) [
      | true ↦ refl
      | false ↦ e n
    ]

-- the bit at a place says whether the number there is 1
pub bit_is : (numbers : List ℕ) (n : ℕ) → unwrap_or (slice_get (map is_one numbers) n) false ≡ (number_at numbers n == 1)
bit_is [] zero = refl
bit_is [] (suc n) = refl
bit_is (x ∷ xs) zero = refl
bit_is (x ∷ xs) (suc n) = bit_is xs n
