-- A row that is written word by word.
use Rattle.std.proofs.Common.{◌≡◌, ℕ, zero, suc, ◌+◌, ◌<◌, ◌≤◌, List, [], ◌∷◌, length, map, replicate, get_or, refl, sym, ap, ◌∙◌, arith, add-one}
use Rattle.std.specs.Prelude.{slice_set}
use Rattle.ygg_value.specs.Number.{Number, Digits}
use Rattle.ygg_value.specs.Values.{row_write}
use Rattle.ygg_eval_expr.specs.Words.{row_from}

-- the numbers of these words, where the first so many are written and the others are 0
pub written : List Number → ℕ → List ℕ
written [] k = []
written (w ∷ ws) zero = 0 ∷ written ws zero
written (w ∷ ws) (suc k) = w.bits ∷ written ws k

pub none_written : (ws : List Number) → replicate (length ws) 0 ≡ written ws 0
unfolding written
none_written [] = refl
none_written (w ∷ ws) = ap (λ ns. 0 ∷ ns) (none_written ws)

pub all_written : (ws : List Number) → written ws (length ws) ≡ map (λ (n : Number). n.bits) ws
unfolding written
all_written [] = refl
all_written (w ∷ ws) = ap (λ ns. w.bits ∷ ns) (all_written ws)

pub one_more : (ws : List Number) (k : ℕ) (w : Number) → k < length ws → w ≡ get_or ws k w → slice_set (written ws k) k w.bits ≡ written ws (suc k)
unfolding written
one_more [] k w h e = absurd (omega arith)
one_more (v ∷ ws) zero w h e = ap (λ (n : Number). n.bits ∷ written ws zero) e
one_more (v ∷ ws) (suc k) w h e = ap (λ ns. v.bits ∷ ns) (one_more ws k w (omega arith) e)

-- the row so far
abbrev pub so_far : List Number → ℕ → Digits
so_far ws k = record { width = (row_from ws).width; words = written ws k }

pub row_begun : (ws : List Number) (first : Number) (row : Digits) → 1 ≤ length ws → first ≡ get_or ws 0 first →
    row ≡ record { width = first.width; words = replicate (length ws) 0 } → row ≡ so_far ws 0
row_begun [] first row h e is = absurd (omega arith)
row_begun (w ∷ ws) first row h e is =
    is ∙ ap (λ (n : Number). record { width = n.width; words = replicate (length (w ∷ ws)) 0 }) e
    ∙ ap (λ ns. record { width = w.width; words = ns }) (none_written (w ∷ ws))

pub row_more : (ws : List Number) (k : ℕ) (w : Number) (row new : Digits) → k < length ws → w ≡ get_or ws k w → row ≡ so_far ws k →
    new ≡ row_write row k w → new ≡ so_far ws (k + 1)
row_more ws k w row new h e is write =
    write ∙ ap (λ r. row_write r k w) is ∙ ap (λ ns. record { width = (row_from ws).width; words = ns })
    (one_more ws k w h e ∙ ap (written ws) (sym (add-one k)))

pub row_ended : (ws : List Number) (k : ℕ) (row : Digits) → 1 ≤ length ws → k ≡ length ws → row ≡ so_far ws k → row ≡ row_from ws
row_ended [] k row h n is = absurd (omega arith)
row_ended (w ∷ ws) k row h n is = is ∙ ap (so_far (w ∷ ws)) n ∙ ap (λ ns. record { width = w.width; words = ns }) (all_written (w ∷ ws))
