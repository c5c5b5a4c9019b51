-- Spaces before a line.
use Rattle.std.proofs.Common.{◌≡◌, ℕ, ◌+◌, ◌*◌, List, [], ◌∷◌, ◌++◌, replicate, arith, ap, ◌∙◌, append_assoc}
use Rattle.std.proofs.lemmas.List.{replicate-append-replicate}

-- two spaces more
pub two_more : (text : List ℕ) (count : ℕ) → text ++ replicate (2 * count) 32 ++ 32 ∷ 32 ∷ [] ≡ text ++ replicate (2 * (count + 1)) 32
two_more text count =
    let twice : 2 * count + 2 ≡ 2 * (count + 1) = omega arith in
    append_assoc text (replicate (2 * count) 32) (32 ∷ 32 ∷ [])
    ∙ ap (λ (spaces : List ℕ). text ++ spaces) (replicate-append-replicate (2 * count) 2 32 ∙ ap (λ (n : ℕ). replicate n 32) twice)
