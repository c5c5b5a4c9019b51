-- Zeros for declared names are values of their shapes.
use Rattle.std.proofs.Common.{◌≡◌, ◌^◌, ◌==◌, ℕ, zero, suc, Bool, true, List, [], ◌∷◌, replicate, refl, ap}
use Rattle.std.specs.Prelude.{nat_lt}
use Rattle.std.specs.List.{list_all}
use Rattle.std.proofs.lemmas.List.{length-replicate}
use Rattle.std.proofs.lemmas.Bool.{and_from, eq-eqb, lt-ltb}
use Rattle.std.proofs.lemmas.Nat.{pow_pos}
use Rattle.ygg_value.specs.Shapes.{zero_of}
use Rattle.ygg_value.specs.declared.shape.Shape.{Shape}
use Rattle.ygg_value.specs.declared.shape.Shape.TheVariants as shape
use Rattle.ygg_syntax.specs.declared.tree.Declared.{Declared}
use Rattle.ygg_oblige_schedule.specs.ygg_meaning_laws_proofs_ProgressFits.{table_whole}
use Rattle.ygg_oblige_schedule.specs.ygg_meaning_laws_proofs_ProgressFits as fitting
use Rattle.ygg_replay.specs.ygg_meaning.Environments.{bind}
use Rattle.ygg_replay.specs.ygg_meaning.Shapes.{fits, shape_in, values_fit, words_fit, zeros_of}
use Rattle.ygg_replay.specs.Zeros.{zero_values}

all_same : {X : Type 0} (test : X → Bool) (n : ℕ) (x : X) → test x ≡ true → list_all test (replicate n x) ≡ true
all_same test zero x e = refl
all_same test (suc n) x e = and_from (test x) (list_all test (replicate n x)) e (all_same test n x e)

rows_fit : (w n m : ℕ) → list_all (words_fit w m) (replicate n (replicate m 0)) ≡ true
rows_fit w n m = all_same (words_fit w m) n (replicate m 0) (fitting.zeros_fit w m)

-- a zero fits its shape
zero_fits : (s : Shape) → fits s (zero_of s) ≡ true
zero_fits (shape.Word w) = and_from (w == w) (nat_lt 0 (2 ^ w)) (eq-eqb w w refl) (lt-ltb 0 (2 ^ w) (pow_pos w))
zero_fits (shape.Row m w) = and_from (w == w) (words_fit w m (replicate m 0)) (eq-eqb w w refl) (fitting.zeros_fit w m)
zero_fits (shape.Table n m w) = table_whole n m w (record { width = w; words = m; rows = replicate n (replicate m 0) })
    (record { width = refl; words = refl; rows = length-replicate n (replicate m 0); all = rows_fit w n m })

-- zeros by their names
pub bind_zeros : (ds : List Declared) → bind ds (zero_values ds) ≡ zeros_of ds
bind_zeros [] = refl
bind_zeros (d ∷ ds) = ap (λ rest. (d.name.text, zero_of (shape_in d.shape)) ∷ rest) (bind_zeros ds)

pub zeros_fit : (ds : List Declared) → values_fit ds (zero_values ds) ≡ true
zeros_fit [] = refl
zeros_fit (d ∷ ds) =
    and_from (fits (shape_in d.shape) (zero_of (shape_in d.shape))) (values_fit ds (zero_values ds)) (zero_fits (shape_in d.shape)) (zeros_fit ds)
