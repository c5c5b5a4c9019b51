-- Pieces read one after the other.
use Rattle.std.proofs.Common.{◌≡◌, ℕ, suc, ◌+◌, ◌-◌, ◌<◌, ◌≤◌, true, false, List, [], ◌∷◌, ◌++◌, Bor, Option, Some, None, refl, sym, ap, append_assoc, arith}
use Rattle.std.specs.Prelude.{is_some}
use Rattle.std.specs.Option.{option_map, option_copied}
use Rattle.std.proofs.lemmas.List.{append-nil}
use Rattle.ygg_sched.specs.Words.{cut_at, parts}
use Rattle.ygg_sched.specs.Values.{exactly}
use Rattle.ygg_sched.proofs.Cutting.{pieces_of, parts_cut}

-- what was read before, and what is still read
abbrev pub with_front : {A : Type 0} → List A → Option (List A) → Option (List A)
with_front front read = option_map (λ xs. front ++ xs) read

regroup : {A : Type 0} (front : List A) (x : A) (read : Option (List A)) →
    with_front front (option_map (λ xs. x ∷ xs) read) ≡ with_front (front ++ x ∷ []) read
regroup front x None = refl
regroup front x (Some xs) = ap (λ ys. Some ys) (sym (append_assoc front (x ∷ []) xs))

with_none : {A : Type 0} (read : Option (List A)) → with_front [] read ≡ read
with_none None = refl
with_none (Some xs) = refl

-- where all pieces are left
pub none_read : {A : Type 0} (read : List ℕ → Option A) (count : ℕ) (pieces : List (List ℕ)) →
    with_front [] (exactly read (count - 0) pieces) ≡ exactly read count pieces
none_read read count pieces = let k : count - 0 ≡ count = omega arith in rw k (with_none (exactly read count pieces))

module _ {A : Type 0} (read : List ℕ → Option A) (mark : ℕ) (front : List A) (count i : ℕ) where
  -- a piece that is read
  pub goes_on : (bytes : List ℕ) (x : A) → i < count → read (cut_at mark bytes).0 ≡ Some x →
      with_front (front ++ x ∷ []) (exactly read (count - (i + 1)) (pieces_of mark (cut_at mark bytes).1))
      ≡ with_front front (exactly read (count - i) (parts mark bytes))
  goes_on bytes x more is =
      let k : count - i ≡ suc (count - (i + 1)) = omega arith in
      rw (k, parts_cut mark bytes, is) (sym (regroup front x (exactly read (count - (i + 1)) (pieces_of mark (cut_at mark bytes).1))))

  -- one that is not
  pub stops : (bytes : List ℕ) → i < count → read (cut_at mark bytes).0 ≡ None → with_front front (exactly read (count - i) (parts mark bytes)) ≡ None
  stops bytes more is =
      let k : count - i ≡ suc (count - (i + 1)) = omega arith in
      rw (k, parts_cut mark bytes, is) refl

  -- too few pieces
  pub too_few : i < count → with_front front (exactly read (count - i) []) ≡ None
  too_few more = let k : count - i ≡ suc (count - (i + 1)) = omega arith in rw k refl

  -- too many
  pub too_many : (bytes : List ℕ) → count ≤ i → with_front front (exactly read (count - i) (parts mark bytes)) ≡ None
  too_many bytes done = let k : count - i ≡ 0 = omega arith in rw (k, parts_cut mark bytes) refl

  -- all pieces
  pub ends : count ≤ i → with_front front (exactly read (count - i) []) ≡ Some front
  ends done = let k : count - i ≡ 0 = omega arith in rw k (ap (λ ys. Some ys) (append-nil front))

  -- too many, where more are left
  pub too_many_left : (left : Option (Bor (List ℕ))) → is_some left ≡ true → count ≤ i →
      with_front front (exactly read (count - i) (pieces_of mark (option_copied left))) ≡ None
  too_many_left None more done = absurd cc
  too_many_left (Some rest) more done = too_many rest.now done

  -- all pieces, where none is left
  pub ends_left : (left : Option (Bor (List ℕ))) → is_some left ≡ false → count ≤ i →
      with_front front (exactly read (count - i) (pieces_of mark (option_copied left))) ≡ Some front
  ends_left None more done = ends done
  ends_left (Some rest) more done = absurd cc
