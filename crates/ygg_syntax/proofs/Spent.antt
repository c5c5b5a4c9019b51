-- What parts leave of a budget one after the other.
use Rattle.std.proofs.Common.{◌≡◌, ℕ, ◌+◌, ◌-◌, ◌*◌, ◌<◌, ◌≤◌, List, length, get_or, map, drop, min, sum, sym, ap, ◌∙◌, arith}
use Rattle.std.proofs.lemmas.List.{drop_more, drop_all}
use Rattle.std.proofs.lemmas.List.Sums.{sum_by-cons}
use Rattle.ygg_syntax.specs.Budget.{limit}

-- what is left is within what was
pub one_less : {l m : ℕ} → l ≤ m → l - 1 ≤ m
one_less h = omega (arith, h)

pub less : {r m : ℕ} (l w : ℕ) → r ≡ l - w → l ≤ m → r ≤ m
less l w e h = omega (arith, e, h)

pub less_after_one : {r m : ℕ} (l w : ℕ) → r ≡ l - 1 - w → l ≤ m → r ≤ m
less_after_one l w e h = omega (arith, e, h)

-- a whole takes what its parts do
pub after_one : {r w : ℕ} (l a : ℕ) → r ≡ l - 1 - a → w ≡ 1 + a → r ≡ l - w
after_one l a e is = omega (arith, e, is)

pub after_two : {s r w : ℕ} (l a b : ℕ) → s ≡ l - 1 - a → r ≡ s - b → w ≡ 1 + a + b → r ≡ l - w
after_two l a b e f is = omega (arith, e, f, is)

pub after_three : {s q r w : ℕ} (l a b c : ℕ) → s ≡ l - 1 - a → q ≡ s - b → r ≡ q - c → w ≡ 1 + a + b + c → r ≡ l - w
after_three l a b c e f g is = omega (arith, e, f, g, is)

-- two parts and no more
pub both_taken : {s r : ℕ} (l a b : ℕ) → s ≡ l - a → r ≡ s - b → r ≡ l - (a + b)
both_taken l a b e f = omega (arith, e, f)

-- a part that takes one
pub one_taken : {w : ℕ} (l : ℕ) → w ≡ 1 → l - 1 ≡ l - w
one_taken l is = ap (λ n. l - n) (sym is)

-- where nothing is left, nothing is taken
pub spent : {l : ℕ} (w : ℕ) → l ≡ 0 → 0 ≡ l - w
spent w none = omega (arith, none)

-- as many times as there are none take nothing
pub after_none : {n w : ℕ} (l a : ℕ) → n ≡ 0 → w ≡ 1 + n * (1 + a) → l - 1 ≡ l - w
after_none {n} l a none is = let nothing = ap (λ k. k * (1 + a)) none in omega (arith, nothing, is)

-- one time, behind its own step, leaves what is within
pub stepped : {s r : ℕ} (l a : ℕ) → s ≡ l - 1 → r ≡ s - a → r ≡ l - (1 + a)
stepped l a e f = omega (arith, e, f)

pub within : {l r : ℕ} (w : ℕ) → r ≡ l - w → r ≤ l
within w e = omega (arith, e)

-- what takes nothing
pub nothing_taken : {w : ℕ} (l : ℕ) → w ≡ 0 → l ≡ l - w
nothing_taken l none = omega (arith, none)

-- a count that is cut at the limit takes the same
pub capped_taken : {r f : ℕ} (l w : ℕ) → r ≡ l - f → f ≡ min limit w → l ≤ limit → r ≡ l - w
capped_taken l w e f within = omega (arith, e, f, within)

module _ {A : Type 0} (f : A → ℕ) (xs : List A) (i : ℕ) where
  -- what is left of a list begins with its item
  pub begins : (x : A) → i < length xs → x ≡ get_or xs i x → sum (map f (drop i xs)) ≡ f x + sum (map f (drop (i + 1) xs))
  begins x within is =
      ap (λ (ys : List A). sum (map f ys)) (drop_more xs i x within) ∙ sum_by-cons (λ (n : ℕ). n) (f (get_or xs i x)) (map f (drop (i + 1) xs))
      ∙ ap (λ (z : A). f z + sum (map f (drop (i + 1) xs))) (sym is)

  -- what is left behind an item weighs no more
  pub lighter : (x : A) {total : ℕ} → i < length xs → x ≡ get_or xs i x → sum (map f (drop i xs)) ≤ total → sum (map f (drop (i + 1) xs)) ≤ total
  lighter x within is part = let split = begins x within is in omega (arith, split, part)

  -- an item weighs no more than the list
  pub item_within : (x : A) {total : ℕ} → i < length xs → x ≡ get_or xs i x → sum (map f (drop i xs)) ≤ total → f x ≤ total
  item_within x within is part = let split = begins x within is in omega (arith, split, part)

  -- past an item, what is left takes the rest
  pub next : (x : A) (rest : ℕ) {after total : ℕ} → i < length xs → x ≡ get_or xs i x → after ≡ rest - f x → rest - sum (map f (drop i xs)) ≡ total →
      after - sum (map f (drop (i + 1) xs)) ≡ total
  next x rest within is took same = let split = begins x within is in omega (arith, split, took, same)

  -- all items have taken theirs
  pub all : (rest : ℕ) {total : ℕ} → length xs ≤ i → rest - sum (map f (drop i xs)) ≡ total → rest ≡ total
  all rest past same = let none = ap (λ (ys : List A). sum (map f ys)) (drop_all i xs past) in omega (arith, none, same)
