-- Pieces of one length, one after another.
use Rattle.std.proofs.Common.{◌≡◌, ℕ, suc, ◌*◌, List, [], ◌∷◌, ◌++◌, length, take, drop, map, All, refl, sym, ap, ◌∙◌, arith}
use Rattle.std.proofs.Math.Nat.{zero-mul, suc-mul}
use Rattle.std.proofs.lemmas.List.{append_assoc, length-append, take_at, drop_at}
use Rattle.std.specs.List.{flat_map}
use Rattle.std.specs.Simd.{first_chunks}

module _ {X : Type 0} (f : X → List ℕ) (n : ℕ) where
  -- what holds of all items holds of those behind the first
  others : (x : X) (xs : List X) → All (λ y. length (f y) ≡ n) (x ∷ xs) → All (λ y. length (f y) ≡ n) xs
  others x xs even k d h = even (suc k) d (omega arith)

  -- the pieces have their length together
  pub length-pieces : (xs : List X) → All (λ x. length (f x) ≡ n) xs → length (flat_map f xs) ≡ length xs * n
  length-pieces [] even = sym (zero-mul n)
  length-pieces (x ∷ xs) even =
      let first : length (f x) ≡ n = even 0 x (omega arith) in
      let rest = length-pieces xs (others x xs even) in
      let both = length-append (f x) (flat_map f xs) in
      let all = suc-mul (length xs) n in
      omega (arith, first, rest, both, all)

  -- the pieces are cut from what they make together, whatever comes behind it
  pub chunks-pieces : (xs : List X) (behind : List ℕ) → All (λ x. length (f x) ≡ n) xs →
      first_chunks n (length xs) (flat_map f xs ++ behind) ≡ map f xs
  chunks-pieces [] behind even = refl
  chunks-pieces (x ∷ xs) behind even =
      let here : length (f x) ≡ n = even 0 x (omega arith) in
      let joined : f x ++ flat_map f xs ++ behind ≡ f x ++ (flat_map f xs ++ behind) = append_assoc (f x) (flat_map f xs) behind in
      let first : take n (f x ++ flat_map f xs ++ behind) ≡ f x = ap (take n) joined ∙ take_at (f x) (flat_map f xs ++ behind) n here in
      let rest : drop n (f x ++ flat_map f xs ++ behind) ≡ flat_map f xs ++ behind = ap (drop n) joined ∙ drop_at (f x) (flat_map f xs ++ behind) n here in
      ap (λ c. c ∷ first_chunks n (length xs) (drop n (f x ++ flat_map f xs ++ behind))) first
      ∙ ap (λ r. f x ∷ first_chunks n (length xs) r) rest
      ∙ ap (λ cs. f x ∷ cs) (chunks-pieces xs behind (others x xs even))
