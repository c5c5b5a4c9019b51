-- Each environment of the declared shapes is given by some numbers of inputs.
use Rattle.std.proofs.Common.{
  ◌≡◌,
  ◌<◌,
  ◌≤◌,
  ◌+◌,
  ◌-◌,
  ◌*◌,
  ◌^◌,
  ◌&&◌,
  ◌⊎◌,
  inl,
  inr,
  ℕ,
  zero,
  suc,
  true,
  if◌then◌else◌,
  List,
  [],
  ◌∷◌,
  length,
  All,
  refl,
  sym,
  ap,
  ◌∙◌,
  subst,
  arith,
}
use Rattle.std.specs.Prelude.{nat_lt}
use Rattle.std.specs.Str.{bytes_eq}
use Rattle.std.proofs.lemmas.Bool.{cases_lt, lt-ltb, le-ltb}
use Rattle.std.proofs.lemmas.List.Elements.{All-head, All-tail}
use Rattle.ygg_value.specs.Shapes.{IsShape, IsValue, shape_of}
use Rattle.ygg_value.specs.Words.{word}
use Rattle.ygg_value.specs.declared.row.Value.{Value}
use Rattle.ygg_value.specs.declared.row.Value.TheVariants as value
use Rattle.ygg_value.specs.declared.shape.Shape.{Shape}
use Rattle.ygg_syntax.specs.declared.tree.Declared.{Declared}
use Rattle.ygg_sym_laws.specs.ygg_meaning.Environments.{Env}
use Rattle.ygg_sym_laws.specs.ygg_meaning.Shapes.{shape_in, fits, env_fits}
use Rattle.ygg_sym_laws.specs.ygg_meaning_laws_proofs_Tests.{left as first_of, right as second_of, bytes_same}
use Rattle.ygg_sym_laws.specs.ygg_meaning_laws_proofs_Fits.{fits_has}
use Rattle.ygg_sym_laws.specs.ygg_bank.Values.{Inputs}
use Rattle.ygg_sym_laws.specs.ygg_shape.Fresh.{words_of, numbers_from, rows_from, given_value}
use Rattle.ygg_oblige_laws.specs.LayerTerms.{ShapesKept}
use Rattle.ygg_oblige_laws.specs.TermStates.{words_in}
use Rattle.ygg_oblige_laws.specs.Inputs.{given_env, width_of, word_width, AreDigits, EnvDigits}

-- numbers, and others after the first so many of them
abbrev joined : ℕ → (ℕ → ℕ) → (ℕ → ℕ) → ℕ → ℕ
joined n f g i = if nat_lt i n then f i else g (i - n)

joined_first : (n : ℕ) (f g : ℕ → ℕ) (i : ℕ) → i < n → joined n f g i ≡ f i
joined_first n f g i l = ap (λ t. if t then f i else g (i - n)) (lt-ltb i n l)

joined_later : (n : ℕ) (f g : ℕ → ℕ) (i k : ℕ) → i ≡ n + k → joined n f g i ≡ g k
joined_later n f g i k e =
    let d : i - n ≡ k = omega arith in ap (λ t. if t then f i else g (i - n)) (le-ltb i n (omega arith)) ∙ ap g d

digits_first : (inputs : Inputs) (number n m : ℕ) (f g : ℕ → ℕ) → AreDigits inputs number (n + m) (joined n f g) → AreDigits inputs number n f
digits_first inputs number n m f g h i l = h i (omega arith) ∙ joined_first n f g i l

digits_later : (inputs : Inputs) (number n m : ℕ) (f g : ℕ → ℕ) → AreDigits inputs number (n + m) (joined n f g) → AreDigits inputs (number + n) m g
digits_later inputs number n m f g h i l =
    let e : number + n + i ≡ number + (n + i) = omega arith in ap inputs e ∙ h (n + i) (omega arith) ∙ joined_later n f g (n + i) i refl

-- what is below something in both parts
joined_below : (n m : ℕ) (f g a b : ℕ → ℕ) → ((i : ℕ) → i < n → f i < 2 ^ a i) → ((i : ℕ) → i < m → g i < 2 ^ b i) →
    (i : ℕ) → i < n + m → joined n f g i < 2 ^ joined n a b i
joined_below n m f g a b p q i l = go (cases_lt i n) where
  go : (i < n) ⊎ (n ≤ i) → joined n f g i < 2 ^ joined n a b i
  go (inl k) =
      let s = joined_first n f g i k in
      let t = joined_first n a b i k in
      subst (λ z. z < 2 ^ joined n a b i) (sym s) (subst (λ z. f i < 2 ^ z) (sym t) (p i k))
  go (inr k) =
      let e : i ≡ n + (i - n) = omega arith in
      let s = joined_later n f g i (i - n) e in
      let t = joined_later n a b i (i - n) e in
      subst (λ z. z < 2 ^ joined n a b i) (sym s) (subst (λ z. g (i - n) < 2 ^ z) (sym t) (q (i - n) (omega arith)))

-- the numbers of a list, and those of rows
abbrev list_digits : List ℕ → ℕ → ℕ
list_digits [] = λ i. 0
list_digits (x ∷ xs) = joined 1 (λ i. x) (list_digits xs)

abbrev rows_digits : ℕ → List (List ℕ) → ℕ → ℕ
rows_digits n [] = λ i. 0
rows_digits n (row ∷ rows) = joined n (list_digits row) (rows_digits n rows)

list_given : (inputs : Inputs) (number : ℕ) (xs : List ℕ) → AreDigits inputs number (length xs) (list_digits xs) → numbers_from inputs number (length xs) ≡ xs
list_given inputs number [] h = refl
list_given inputs number (x ∷ xs) h =
    let j : AreDigits inputs number (1 + length xs) (joined 1 (λ i. x) (list_digits xs)) = λ i l. h i (omega arith) in
    let e : number ≡ number + 0 = omega arith in
    ap (λ z. z ∷ numbers_from inputs (number + 1) (length xs))
    (ap inputs e ∙ digits_first inputs number 1 (length xs) (λ i. x) (list_digits xs) j 0 (omega arith))
    ∙ ap (λ z. x ∷ z) (list_given inputs (number + 1) xs (digits_later inputs number 1 (length xs) (λ i. x) (list_digits xs) j))

rows_given : (inputs : Inputs) (number n : ℕ) (rows : List (List ℕ)) → All (λ (row : List ℕ). length row ≡ n) rows →
    AreDigits inputs number (length rows * n) (rows_digits n rows) → rows_from inputs number (length rows) n ≡ rows
rows_given inputs number n [] even h = refl
rows_given inputs number n (row ∷ rows) even h =
    let size = All-head (λ (row : List ℕ). length row ≡ n) row rows even in
    let m = length rows * n in
    let s : length (row ∷ rows) * n ≡ n + m = omega arith in
    let j : AreDigits inputs number (n + m) (joined n (list_digits row) (rows_digits n rows)) = λ i l. h i (subst (λ z. i < z) (sym s) l) in
    ap (λ z. z ∷ rows_from inputs (number + n) (length rows) n)
    (ap (numbers_from inputs number) (sym size)
    ∙ list_given inputs number row (subst (λ z. AreDigits inputs number z (list_digits row)) (sym size)
    (digits_first inputs number n m (list_digits row) (rows_digits n rows) j)))
    ∙ ap (λ z. row ∷ z) (rows_given inputs (number + n) n rows (All-tail (λ (row : List ℕ). length row ≡ n) row rows even)
    (digits_later inputs number n m (list_digits row) (rows_digits n rows) j))

list_below : (w : ℕ) (xs : List ℕ) → All (λ n. n < 2 ^ w) xs → (i : ℕ) → i < length xs → list_digits xs i < 2 ^ w
list_below w [] h i l = absurd (omega arith)
list_below w (x ∷ xs) h zero l = All-head (λ n. n < 2 ^ w) x xs h
list_below w (x ∷ xs) h (suc i) l =
    let e : suc i ≡ 1 + i = omega arith in
    subst (λ z. z < 2 ^ w) (sym (joined_later 1 (λ i. x) (list_digits xs) (suc i) i e))
    (list_below w xs (All-tail (λ n. n < 2 ^ w) x xs h) i (omega arith))

rows_below : (w n : ℕ) (rows : List (List ℕ)) → All (λ (row : List ℕ). length row ≡ n) rows → All (λ (row : List ℕ). All (λ n. n < 2 ^ w) row) rows →
    (i : ℕ) → i < length rows * n → rows_digits n rows i < 2 ^ w
rows_below w n [] even h i l = absurd (omega arith)
rows_below w n (row ∷ rows) even h i l = go (cases_lt i n)
    (λ k. rows_below w n rows (All-tail (λ (row : List ℕ). length row ≡ n) row rows even) (All-tail (λ (row : List ℕ). All (λ n. n < 2 ^ w) row) row rows h) k)
  where
    size : length row ≡ n
    size = All-head (λ (row : List ℕ). length row ≡ n) row rows even

    go : (i < n) ⊎ (n ≤ i) → ((k : ℕ) → k < length rows * n → rows_digits n rows k < 2 ^ w) → rows_digits n (row ∷ rows) i < 2 ^ w
    go (inl k) rest =
        subst (λ z. z < 2 ^ w) (sym (joined_first n (list_digits row) (rows_digits n rows) i k))
        (list_below w row (All-head (λ (row : List ℕ). All (λ n. n < 2 ^ w) row) row rows h) i (omega (arith, size)))
    go (inr k) rest =
        let e : i ≡ n + (i - n) = omega arith in
        let s : length (row ∷ rows) * n ≡ n + length rows * n = omega arith in
        let l' : i < n + length rows * n = subst (λ z. i < z) s l in
        subst (λ z. z < 2 ^ w) (sym (joined_later n (list_digits row) (rows_digits n rows) i (i - n) e)) (rest (i - n) (omega arith))

-- numbers of words that give a value
pub record ValueDigits (s : Shape) (x : Value) : Type 0 where
  pub digits : ℕ → ℕ
  pub fit : (i : ℕ) → i < words_of s → digits i < 2 ^ width_of s
  pub give : (inputs : Inputs) (number : ℕ) → AreDigits inputs number (words_of s) digits → given_value inputs number s ≡ x

own_digits : (x : Value) → IsValue x → ValueDigits (shape_of x) x
own_digits (value.Word n) h = record {
  digits = λ i. n.bits;
  fit = λ i l. h.fits;
  give = λ inputs number k.
      let e : number ≡ number + 0 = omega arith in ap (λ z. value.Word (word n.width z)) (ap inputs e ∙ k 0 (omega arith));
}
own_digits (value.Row r) h = record {
  digits = list_digits r.words;
  fit = list_below r.width r.words h.fits;
  give = λ inputs number k. ap (λ z. value.Row (record { width = r.width; words = z })) (list_given inputs number r.words k);
}
own_digits (value.Table t) h = record {
  digits = rows_digits t.words t.rows;
  fit = rows_below t.width t.words t.rows h.even h.fits;
  give = λ inputs number k.
      ap (λ z. value.Table (record { width = t.width; words = t.words; rows = z })) (rows_given inputs number t.words t.rows h.even k);
}

value_digits : (s : Shape) (x : Value) → IsShape s → fits s x ≡ true → ValueDigits s x
value_digits s x l f =
    let h = fits_has s x l f in
    let e : s ≡ shape_of x = let g = h.is in cc in
    subst (λ z. ValueDigits z x) (sym e) (own_digits x h.limits)

pub env_digits : (ds : List Declared) (env : Env) → ShapesKept ds → env_fits ds env ≡ true → EnvDigits ds env
env_digits [] [] l f = record { digits = λ i. 0; fit = λ i k. absurd (omega arith); give = λ inputs number h. refl }
env_digits [] (b ∷ env) l f = absurd (cc)
env_digits (d ∷ ds) [] l f = absurd (cc)
env_digits (d ∷ ds) (b ∷ env) l f =
    let s = shape_in d.shape in
    let here = first_of (bytes_eq d.name.text b.0 && fits s b.1) (env_fits ds env) f in
    let name = bytes_same d.name.text b.0 (first_of (bytes_eq d.name.text b.0) (fits s b.1) here) in
    let x = value_digits s b.1 (All-head (λ (d : Declared). IsShape (shape_in d.shape)) d ds l)
    (second_of (bytes_eq d.name.text b.0) (fits s b.1) here) in
    let rest = env_digits ds env (All-tail (λ (d : Declared). IsShape (shape_in d.shape)) d ds l)
    (second_of (bytes_eq d.name.text b.0 && fits s b.1) (env_fits ds env) f) in
    record {
      digits = joined (words_of s) x.digits rest.digits;
      fit = joined_below (words_of s) (words_in ds) x.digits rest.digits (λ i. width_of s) (word_width ds) x.fit rest.fit;
      give = λ inputs number h.
          ap (λ z. z ∷ given_env inputs (number + words_of s) ds)
          (ap (λ n. (n, given_value inputs number s)) name
          ∙ ap (λ y. (b.0, y)) (x.give inputs number (digits_first inputs number (words_of s) (words_in ds) x.digits rest.digits h)))
          ∙ ap (λ z. b ∷ z) (rest.give inputs (number + words_of s)
          (digits_later inputs number (words_of s) (words_in ds) x.digits rest.digits h));
    }
