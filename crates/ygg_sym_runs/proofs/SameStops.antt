-- The first stop of a run that is set depends on the stops of the run's places alone.
use Rattle.std.proofs.Common.{◌≡◌, ◌<◌, ◌≤◌, ◌+◌, ◌*◌, ℕ, Bool, true, false, if◌then◌else◌, List, [], ◌∷◌, Option, Some, None, ap, ◌∙◌, arith}
use Rattle.ygg_sym_runs.specs.ygg_meaning.Progress.{Question}
use Rattle.ygg_sym_runs.specs.ygg_meaning.Obligations.{Halt}
use Rattle.ygg_sym_runs.specs.ygg_meaning_laws.Direct.{Event, Within}
use Rattle.ygg_sym_runs.specs.Stops.{before_at, within_at, halt, further, first_stop}

module _ {S : Type 0} (size : Question → ℕ) (one : (q : Question) → 1 ≤ size q) where
  within_low : (es : List (Event S)) (low high : ℕ) → Within size low es high → low ≤ high
  within_low [] low high w = w
  within_low (e ∷ es) low high w = let h = within_low es (e.place + size e.question) high w.1 in let l = w.0 in omega (arith, h, l)

  pub first_stop_same : (f g : ℕ → Bool) (es : List (Event S)) (low last : ℕ) → Within size low es last → ((k : ℕ) → k < 2 * last + 1 → f k ≡ g k) →
      first_stop f es last ≡ first_stop g es last
  first_stop_same f g [] low last w same =
      let l : before_at last < 2 * last + 1 = omega arith in
      ap (λ (c : Bool). let h : Option Halt = if c then Some (halt false 0) else None in h) (same (before_at last) l)
  first_stop_same f g (e ∷ es) low last w same =
      let o = one e.question in
      let n = within_low es (e.place + size e.question) last w.1 in
      let here : before_at e.place < 2 * last + 1 = omega (arith, o, n) in
      let inside : within_at e.place < 2 * last + 1 = omega (arith, o, n) in
      let rest = first_stop_same f g es (e.place + size e.question) last w.1 same in
      ap (λ (c : Bool). let h : Option Halt =
      if c then Some (halt false 0) else (if f (within_at e.place) then Some (halt true 0) else further (first_stop f es last)) in h)
      (same (before_at e.place) here)
      ∙ ap (λ (c : Bool). let h : Option Halt =
      if g (before_at e.place) then Some (halt false 0) else (if c then Some (halt true 0) else further (first_stop f es last)) in h)
      (same (within_at e.place) inside)
      ∙ ap (λ (s : Option Halt). let h : Option Halt =
      if g (before_at e.place) then Some (halt false 0) else (if g (within_at e.place) then Some (halt true 0) else further s) in h) rest
