-- The first false one of some tests.
use Rattle.std.proofs.Common.{
  ◌≡◌,
  ℕ,
  zero,
  suc,
  ◌+◌,
  Bool,
  true,
  false,
  List,
  [],
  ◌∷◌,
  ◌++◌,
  drop,
  length,
  Option,
  Some,
  None,
  is_none,
  option_map,
  slice_get,
  ◌≤◌,
  refl,
  sym,
  ap,
  ◌∙◌,
  arith,
}
use Rattle.ygg_sched.specs.ygg_meaning.Related.{all_true}
use Rattle.ygg_replay.specs.Sites.{first_false}

none_of : (r : Option ℕ) → option_map suc r ≡ None → r ≡ None
none_of None h = refl
none_of (Some n) h = absurd (cc)

-- where none is false all are true, and the other way round
pub all_are : (bs : List Bool) → all_true bs ≡ is_none (first_false bs)
all_are [] = refl
all_are (false ∷ bs) = refl
all_are (true ∷ bs) = all_are bs ∙ none_too (first_false bs)
  where
    none_too : (r : Option ℕ) → is_none r ≡ is_none (option_map suc r)
    none_too None = refl
    none_too (Some n) = refl

-- the tests before the first false one, and those after it
pub record FirstFalse (bs : List Bool) (n : ℕ) : Type 0 where
  pub before : List Bool
  pub after : List Bool
  pub is : bs ≡ before ++ false ∷ after
  pub true_before : all_true before ≡ true
  pub counts : n ≡ length before

pub first_is : (bs : List Bool) (n : ℕ) → first_false bs ≡ Some n → FirstFalse bs n
first_is [] n h = absurd (cc)
first_is (false ∷ bs) n h =
    let zero_is : 0 ≡ n = cc in record { before = []; after = bs; is = refl; true_before = refl; counts = sym zero_is }
first_is (true ∷ bs) n h = by_rest (first_false bs) h (λ m e. first_is bs m e)
  where
    by_rest : (r : Option ℕ) → option_map suc r ≡ Some n → ((m : ℕ) → r ≡ Some m → FirstFalse bs m) → FirstFalse (true ∷ bs) n
    by_rest None g again = absurd (cc)
    by_rest (Some m) g again =
        let f = again m refl in
        let more : suc m ≡ n = cc in
        record { before = true ∷ f.before; after = f.after; is = ap (λ xs. true ∷ xs) f.is; true_before = f.true_before; counts = sym more ∙ ap suc f.counts }

-- the tests before a place were all true
abbrev pub Passed : List Bool → ℕ → Type 0
Passed bs n = first_false bs ≡ option_map (λ k. k + n) (first_false (drop n bs))

drop_get : (bs : List Bool) (n : ℕ) (b : Bool) → slice_get bs n ≡ Some b → drop n bs ≡ b ∷ drop (suc n) bs
drop_get [] n b h = absurd (cc)
drop_get (a ∷ bs) zero b h = let same : a ≡ b = cc in ap (λ x. x ∷ bs) same
drop_get (a ∷ bs) (suc n) b h = drop_get bs n b h

drop_all : (bs : List Bool) (n : ℕ) → length bs ≤ n → drop n bs ≡ []
drop_all [] zero h = refl
drop_all [] (suc n) h = refl
drop_all (b ∷ bs) zero h = absurd (omega (arith, h))
drop_all (b ∷ bs) (suc n) h = drop_all bs n (omega (arith, h))

pub passed_none : (bs : List Bool) → Passed bs 0
passed_none bs = none_more (first_false bs)
  where
    none_more : (r : Option ℕ) → r ≡ option_map (λ k. k + 0) r
    none_more None = refl
    none_more (Some n) = let e : n ≡ n + 0 = omega arith in ap (λ k. Some k) e

pub passed_one : (bs : List Bool) (n : ℕ) → slice_get bs n ≡ Some true → Passed bs n → Passed bs (n + 1)
passed_one bs n h p =
    let next : suc n ≡ n + 1 = omega arith in
    p ∙ ap (λ l. option_map (λ k. k + n) (first_false l)) (drop_get bs n true h) ∙ one_more (first_false (drop (suc n) bs))
    ∙ ap (λ m. option_map (λ k. k + (n + 1)) (first_false (drop m bs))) next
  where
    one_more : (r : Option ℕ) → option_map (λ k. k + n) (option_map suc r) ≡ option_map (λ k. k + (n + 1)) r
    one_more None = refl
    one_more (Some k) = let e : suc k + n ≡ k + (n + 1) = omega arith in ap (λ k. Some k) e

pub passed_until : (bs : List Bool) (n : ℕ) → slice_get bs n ≡ Some false → Passed bs n → first_false bs ≡ Some n
passed_until bs n h p =
    let none_more : 0 + n ≡ n = omega arith in p ∙ ap (λ l. option_map (λ k. k + n) (first_false l)) (drop_get bs n false h) ∙ ap (λ k. Some k) none_more

pub passed_all : (bs : List Bool) (n : ℕ) → length bs ≤ n → Passed bs n → first_false bs ≡ None
passed_all bs n h p = p ∙ ap (λ l. option_map (λ k. k + n) (first_false l)) (drop_all bs n h)
