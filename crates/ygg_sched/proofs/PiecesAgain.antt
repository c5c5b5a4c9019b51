-- Pieces that are joined are read again.
use Rattle.std.proofs.Common.{◌≡◌, ℕ, Bool, true, false, List, [], ◌∷◌, ◌++◌, map, length, Option, Some, None, refl, ap, arith}
use Rattle.std.specs.Prelude.{◌==◌, not}
use Rattle.std.specs.List.{list_all, join_with_byte, AllByRecursion}
use Rattle.std.proofs.lemmas.Bool.{and_parts}
use Rattle.std.proofs.lemmas.Bool.Decides.{nat_tests}
use Rattle.ygg_sched.specs.Words.{cut_at, parts}
use Rattle.ygg_sched.specs.Values.{exactly}
use Rattle.ygg_sched.proofs.Cutting.{parts_cut}

-- whether a byte is another than the mark
abbrev pub is_other : ℕ → ℕ → Bool
is_other mark b = not (b == mark)

not_true : (b : Bool) → not b ≡ true → b ≡ false
not_true false e = refl
not_true true e = absurd cc

-- bytes before the mark
pub cut_through : (mark : ℕ) (bytes rest : List ℕ) → list_all (is_other mark) bytes ≡ true → cut_at mark (bytes ++ mark ∷ rest) ≡ (bytes, Some rest)
cut_through mark [] rest others = let same : (mark == mark) ≡ true = grind (arith, nat_tests) in rw same refl
cut_through mark (b ∷ bytes) rest others =
    let p = and_parts (is_other mark b) (list_all (is_other mark) bytes) others in
    rw (not_true (b == mark) p.0, cut_through mark bytes rest p.1) refl

-- bytes without the mark
pub cut_whole : (mark : ℕ) (bytes : List ℕ) → list_all (is_other mark) bytes ≡ true → cut_at mark bytes ≡ (bytes, None)
cut_whole mark [] others = refl
cut_whole mark (b ∷ bytes) others =
    let p = and_parts (is_other mark b) (list_all (is_other mark) bytes) others in
    rw (not_true (b == mark) p.0, cut_whole mark bytes p.1) refl

-- pieces without the mark, joined by it
pub parts_again : (mark : ℕ) (x : List ℕ) (xs : List (List ℕ)) → list_all (list_all (is_other mark)) (x ∷ xs) ≡ true →
    parts mark (join_with_byte mark (x ∷ xs)) ≡ x ∷ xs
parts_again mark x [] others =
    let p = and_parts (list_all (is_other mark) x) true others in
    rw (parts_cut mark x, cut_whole mark x p.0) refl
parts_again mark x (y ∷ xs) others =
    let p = and_parts (list_all (is_other mark) x) (list_all (list_all (is_other mark)) (y ∷ xs)) others in
    rw (parts_cut mark (x ++ mark ∷ join_with_byte mark (y ∷ xs)), cut_through mark x (join_with_byte mark (y ∷ xs)) p.0)
    (ap (λ (pieces : List (List ℕ)). x ∷ pieces) (parts_again mark y xs p.1))

-- each of them
pub exactly_again : {A : Type 0} (read : List ℕ → Option A) (write : A → List ℕ) (xs : List A) →
    AllByRecursion (λ x. read (write x) ≡ Some x) xs → exactly read (length xs) (map write xs) ≡ Some xs
exactly_again read write [] each = refl
exactly_again read write (x ∷ xs) each = rw (each.0, exactly_again read write xs each.1) refl
