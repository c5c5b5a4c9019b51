-- What is taken away from a budget.
use Rattle.std.proofs.Common.{◌≡◌, ◌≤◌, ℕ, zero, suc, ◌-◌, ◌*◌, min, arith, ap, ◌∙◌, inl, inr}
use Rattle.std.proofs.lemmas.Bool.{cases_lt}

-- a product takes the same where it is given as this number, once it is greater
capped : (left product most : ℕ) → left ≤ most → left - min product most ≡ left - product
capped left product most h = omega (arith, h)

-- where one time takes more than there is, so many times take as much as if it took what there is
beyond_one : (left n one : ℕ) → left ≤ one → left - n * left ≡ left - n * one
beyond_one left zero one h = omega arith
beyond_one left (suc n) one h = let a : left ≤ suc n * left = omega arith in let b : one ≤ suc n * one = omega arith in omega (arith, a, b, h)

-- stopped on the way or at the end, so many times take the same
pub taken_often : (left n one after most : ℕ) → left ≤ most → after ≡ left - one → left - min (n * (left - after)) most ≡ left - n * one
taken_often left n one after most h e = elim (cases_lt one left) [
  | inl less ↦ capped left (n * (left - after)) most h ∙ ap (λ x. left - n * x) (omega (arith, e, less))
  | inr more ↦ capped left (n * (left - after)) most h ∙ ap (λ x. left - n * x) (omega (arith, e, more)) ∙ beyond_one left n one more
]
