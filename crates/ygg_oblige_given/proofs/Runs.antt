-- Numbers that inputs have, one after another.
use Rattle.std.proofs.Common.{◌≡◌, ◌<◌, ◌+◌, ◌*◌, ◌^◌, ℕ, zero, suc, true, List, [], ◌∷◌, ◌++◌, ◌∙◌, length, take, refl, ap, sym, subst, arith}
use Rattle.std.specs.Prelude.{◌==◌, nat_lt}
use Rattle.std.specs.List.{list_all}
use Rattle.std.proofs.lemmas.Bool.{and_parts}
use Rattle.std.proofs.lemmas.Bool.Decides.{Decides-ltb}
use Rattle.std.proofs.lemmas.List.{take_more_set}
use Rattle.std.specs.Prelude.{slice_set}
use Rattle.ygg_oblige_laws.specs.ygg_meaning.Shapes.{words_fit}
use Rattle.ygg_oblige_laws.specs.ygg_bank.Values.{Inputs}
use Rattle.ygg_oblige_laws.specs.ygg_shape.Fresh.{numbers_from, rows_from}

module _ (inputs : Inputs) where
  -- one more number
  pub numbers_more : (number k : ℕ) → numbers_from inputs number (suc k) ≡ numbers_from inputs number k ++ inputs (number + k) ∷ []
  numbers_more number zero = let e : number ≡ number + 0 = omega arith in ap (λ n. inputs n ∷ []) e
  numbers_more number (suc k) =
      let e : number + 1 + k ≡ number + suc k = omega arith in
      ap (λ xs. inputs number ∷ xs) (numbers_more (number + 1) k ∙ ap (λ n. numbers_from inputs (number + 1) k ++ inputs n ∷ []) e)

  -- one more row
  pub rows_more : (number k n : ℕ) → rows_from inputs number (suc k) n ≡ rows_from inputs number k n ++ numbers_from inputs (number + k * n) n ∷ []
  rows_more number zero n = let e : number ≡ number + 0 * n = omega arith in ap (λ m. numbers_from inputs m n ∷ []) e
  rows_more number (suc k) n =
      let e : number + n + k * n ≡ number + suc k * n = grind arith in
      ap (λ xs. numbers_from inputs number n ∷ xs) (rows_more (number + n) k n
      ∙ ap (λ m. rows_from inputs (number + n) k n ++ numbers_from inputs m n ∷ []) e)

  -- as many numbers
  pub numbers_length : (number k : ℕ) → length (numbers_from inputs number k) ≡ k
  numbers_length number zero = refl
  numbers_length number (suc k) = ap (λ n. suc n) (numbers_length (number + 1) k)

  -- each of numbers that fit a width fits it
  pub number_fits : (w number count k : ℕ) → list_all (λ n. nat_lt n (2 ^ w)) (numbers_from inputs number count) ≡ true → k < count →
      inputs (number + k) < 2 ^ w
  number_fits w number zero k h l = absurd (omega (arith, l))
  number_fits w number (suc c) zero h l =
      let e : number ≡ number + 0 = omega arith in
      subst (λ n. inputs n < 2 ^ w) e ((Decides-ltb (inputs number) (2 ^ w)).0
      (and_parts (nat_lt (inputs number) (2 ^ w)) (list_all (λ n. nat_lt n (2 ^ w)) (numbers_from inputs (number + 1) c)) h).0)
  number_fits w number (suc c) (suc k) h l =
      let e : number + 1 + k ≡ number + suc k = omega arith in
      subst (λ n. inputs n < 2 ^ w) e (number_fits w (number + 1) c k
      (and_parts (nat_lt (inputs number) (2 ^ w)) (list_all (λ n. nat_lt n (2 ^ w)) (numbers_from inputs (number + 1) c)) h).1 (omega (arith, l)))

  -- so does each of a row's
  pub word_fits : (w number count k : ℕ) → words_fit w count (numbers_from inputs number count) ≡ true → k < count → inputs (number + k) < 2 ^ w
  word_fits w number count k h =
      number_fits w number count k (and_parts (length (numbers_from inputs number count) == count)
      (list_all (λ n. nat_lt n (2 ^ w)) (numbers_from inputs number count)) h).1

  -- each of rows that fit a width fits it
  pub row_fits : (w n number count k : ℕ) → list_all (words_fit w n) (rows_from inputs number count n) ≡ true → k < count →
      words_fit w n (numbers_from inputs (number + k * n) n) ≡ true
  row_fits w n number zero k h l = absurd (omega (arith, l))
  row_fits w n number (suc c) zero h l =
      let e : number ≡ number + 0 * n = omega arith in
      subst (λ m. words_fit w n (numbers_from inputs m n) ≡ true) e
      (and_parts (words_fit w n (numbers_from inputs number n)) (list_all (words_fit w n) (rows_from inputs (number + n) c n)) h).0
  row_fits w n number (suc c) (suc k) h l =
      let e : number + n + k * n ≡ number + suc k * n = grind arith in
      subst (λ m. words_fit w n (numbers_from inputs m n) ≡ true) e (row_fits w n (number + n) c k
      (and_parts (words_fit w n (numbers_from inputs number n)) (list_all (words_fit w n) (rows_from inputs (number + n) c n)) h).1 (omega (arith, l)))

  -- one more number is written behind those so far
  pub row_goes : (words after : List ℕ) (number at bits : ℕ) → at < length words → take at words ≡ numbers_from inputs number at →
      after ≡ slice_set words at bits → bits ≡ inputs (number + at) → take (at + 1) after ≡ numbers_from inputs number (at + 1)
  row_goes words after number at bits l h e b =
      ap (take (at + 1)) e ∙ take_more_set words at bits l ∙ ap (λ xs. xs ++ bits ∷ []) h ∙ ap (λ n. numbers_from inputs number at ++ n ∷ []) b
      ∙ sym (numbers_more number at) ∙ ap (numbers_from inputs number) (let e : suc at ≡ at + 1 = omega arith in e)

  -- one more row
  pub rows_go : (rows after : List (List ℕ)) (number at n : ℕ) (row : List ℕ) → at < length rows → take at rows ≡ rows_from inputs number at n →
      after ≡ slice_set rows at row → row ≡ numbers_from inputs (number + at * n) n → take (at + 1) after ≡ rows_from inputs number (at + 1) n
  rows_go rows after number at n row l h e b =
      ap (take (at + 1)) e ∙ take_more_set rows at row l ∙ ap (λ xs. xs ++ row ∷ []) h ∙ ap (λ (r : List ℕ). rows_from inputs number at n ++ r ∷ []) b
      ∙ sym (rows_more number at n) ∙ ap (λ k. rows_from inputs number k n) (let e : suc at ≡ at + 1 = omega arith in e)
