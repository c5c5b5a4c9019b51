-- Words, rows and lists of rows under a choice, by numbers alone.
use Rattle.std.proofs.Common.{◌≡◌, ◌<◌, ℕ, zero, suc, ◌+◌, ◌==◌, Bool, true, false, ◌&&◌, if◌then◌else◌, List, [], ◌∷◌, slice_get, slice_set, unwrap_or, refl}
use Rattle.std.proofs.Common.{ap, ◌∙◌, arith}
use Rattle.std.proofs.lemmas.Bool.Decides.{nat_tests}

pub row_if : {X : Type 0} (c : Bool) (a b : X) (xs ys : List X) → (if c then a else b) ∷ (if c then xs else ys) ≡ (if c then a ∷ xs else b ∷ ys)
row_if true a b xs ys = refl
row_if false a b xs ys = refl

pub and_assoc : (a b c : Bool) → ((a && b) && c) ≡ (a && (b && c))
and_assoc true b c = refl
and_assoc false b c = refl

-- of the rows, numbered on from a number, the one with the place's number, and else the row before them
abbrev pub among : ℕ → List ℕ → ℕ → List (List ℕ) → List ℕ
among a so_far i [] = so_far
among a so_far i (row ∷ rows) = among a (if a == i then row else so_far) (i + 1) rows

pub among_before : (a : ℕ) (so_far : List ℕ) (i : ℕ) (rows : List (List ℕ)) → a < i → among a so_far i rows ≡ so_far
among_before a so_far i [] l = refl
among_before a so_far i (row ∷ rows) l =
    let t : (a == i) ≡ false = grind (arith, nat_tests) in
    ap (λ c. among a (if c then row else so_far) (i + 1) rows) t ∙ among_before a so_far (i + 1) rows (omega arith)

pub among_is : (a : ℕ) (so_far : List ℕ) (i : ℕ) (rows : List (List ℕ)) (k : ℕ) → a ≡ i + k → among a so_far i rows ≡ unwrap_or (slice_get rows k) so_far
among_is a so_far i [] k e = refl
among_is a so_far i (row ∷ rows) zero e =
    let t : (a == i) ≡ true = grind (arith, nat_tests) in
    ap (λ c. among a (if c then row else so_far) (i + 1) rows) t ∙ among_before a row (i + 1) rows (omega arith)
among_is a so_far i (row ∷ rows) (suc k) e =
    let t : (a == i) ≡ false = grind (arith, nat_tests) in
    ap (λ c. among a (if c then row else so_far) (i + 1) rows) t ∙ among_is a so_far (i + 1) rows k (omega arith)

-- the rows, numbered on from a number, with another in the stead of the one with the place's number
abbrev pub replaced : ℕ → ℕ → List (List ℕ) → List ℕ → List (List ℕ)
replaced a i [] new = []
replaced a i (row ∷ rows) new = (if a == i then new else row) ∷ replaced a (i + 1) rows new

pub replaced_before : (a i : ℕ) (rows : List (List ℕ)) (new : List ℕ) → a < i → replaced a i rows new ≡ rows
replaced_before a i [] new l = refl
replaced_before a i (row ∷ rows) new l =
    let t : (a == i) ≡ false = grind (arith, nat_tests) in
    ap (λ c. (if c then new else row) ∷ replaced a (i + 1) rows new) t ∙ ap (λ z. row ∷ z) (replaced_before a (i + 1) rows new (omega arith))

pub replaced_is : (a i : ℕ) (rows : List (List ℕ)) (new : List ℕ) (k : ℕ) → a ≡ i + k → replaced a i rows new ≡ slice_set rows k new
replaced_is a i [] new k e = refl
replaced_is a i (row ∷ rows) new zero e =
    let t : (a == i) ≡ true = grind (arith, nat_tests) in
    ap (λ c. (if c then new else row) ∷ replaced a (i + 1) rows new) t ∙ ap (λ z. new ∷ z) (replaced_before a (i + 1) rows new (omega arith))
replaced_is a i (row ∷ rows) new (suc k) e =
    let t : (a == i) ≡ false = grind (arith, nat_tests) in
    ap (λ c. (if c then new else row) ∷ replaced a (i + 1) rows new) t ∙ ap (λ z. row ∷ z) (replaced_is a (i + 1) rows new k (omega arith))
