-- Picks that pass a test are found, or there are none.
use Rattle.std.proofs.Common.{◌≡◌, ℕ, zero, suc, Bool, true, false, [], ◌∷◌, length, replicate, ◌⊎◌, inl, inr, refl, sym, arith}
use Rattle.std.proofs.Math.Seq.{take-append_seam}
use Rattle.ygg_meaning.specs.Machine.{Picks}
use Rattle.ygg_meaning.specs.Obligations.{NoPicksPass, IsRead}

pub record Passes (most : ℕ) (test : Picks → Bool) : Type 0 where
  pub picks : Picks
  pub count : length picks ≡ most
  pub yes : test picks ≡ true

pub find_picks : (most : ℕ) (test : Picks → Bool) → Passes most test ⊎ NoPicksPass most test
find_picks zero test = at_none (test []) refl
  where
    at_none : (b : Bool) → test [] ≡ b → Passes zero test ⊎ NoPicksPass zero test
    at_none true e = inl (record { picks = []; count = refl; yes = e })
    at_none false e = inr none
      where
        none : (picks : Picks) → length picks ≡ zero → test picks ≡ false
        none [] h = e
        none (p ∷ picks) h = absurd (omega (arith, h))
find_picks (suc most) test = by_first (find_picks most (λ picks. test (true ∷ picks))) (find_picks most (λ picks. test (false ∷ picks)))
  where
    longer : (p : Bool) → Passes most (λ picks. test (p ∷ picks)) → Passes (suc most) test
    longer p h = record { picks = p ∷ h.picks; count = omega (arith, h.count); yes = h.yes }

    by_first : Passes most (λ picks. test (true ∷ picks)) ⊎ NoPicksPass most (λ picks. test (true ∷ picks)) →
        Passes most (λ picks. test (false ∷ picks)) ⊎ NoPicksPass most (λ picks. test (false ∷ picks)) → Passes (suc most) test ⊎ NoPicksPass (suc most) test
    by_first (inl h) g = inl (longer true h)
    by_first (inr f) (inl h) = inl (longer false h)
    by_first (inr f) (inr g) = inr none
      where
        none : (picks : Picks) → length picks ≡ suc most → test picks ≡ false
        none [] h = absurd (omega (arith, h))
        none (true ∷ picks) h = f picks (omega (arith, h))
        none (false ∷ picks) h = g picks (omega (arith, h))

-- a list is read as the picks that it is
pub reads_itself : (picks : Picks) → IsRead picks picks
reads_itself picks = sym (take-append_seam picks (replicate (length picks) false))
