-- Where power fails in a direct run: one bit for each stop in the unrolled text, of which the first that is set counts.
use Rattle.std.specs.Prelude.{◌≡◌, ◌≤◌, ℕ, zero, suc, ◌+◌, ◌*◌, Bool, true, false, ◌||◌, if◌then◌else◌, List, [], ◌∷◌, Option, Some, None}
use Rattle.ygg_sym_runs.specs.ygg_meaning.Progress.{Question}
use Rattle.ygg_sym_runs.specs.ygg_meaning.Obligations.{Halt}
use Rattle.ygg_sym_runs.specs.ygg_meaning_laws.Direct.{Handled, Event, Chained, Within}
use Rattle.ygg_sym_runs.specs.ygg_meaning_laws.RunPlaces.{base_at, asked_in}

-- the stop before the question at a place
abbrev pub before_at : ℕ → ℕ
before_at i = 2 * i

-- the stop within the question at a place
abbrev pub within_at : ℕ → ℕ
within_at i = 2 * i + 1

-- a stop as a schedule says it
abbrev pub halt : Bool → ℕ → Halt
halt within n = record { within = within; event = n }

-- one event more came before
abbrev pub further : Option Halt → Option Halt
further None = None
further (Some h) = Some (halt h.within (suc h.event))

-- a state, what was left when power failed, and whether it has
pub record Halted (S B : Type 0) : Type 0 where
  pub to : S
  pub fallen : B
  pub stopped : Bool

module _ {S : Type 0} (bits : ℕ → Bool) where
  -- the first stop of a run that is set, counted in events; `last` is the place after all questions
  abbrev pub first_stop : List (Event S) → ℕ → Option Halt
  first_stop [] last = if bits (before_at last) then Some (halt false 0) else None
  first_stop (e ∷ es) last =
      if bits (before_at e.place) then Some (halt false 0) else (if bits (within_at e.place) then Some (halt true 0) else further (first_stop es last))

  module _ {B : Type 0} (cut : Question → S → B) (lose : S → B) where
    -- what the first stop that is set leaves, from the last stop back; `other` where none is
    abbrev pub left_by : List (Event S) → S → ℕ → B → B
    left_by [] end last other = if bits (before_at last) then lose end else other
    left_by (e ∷ es) end last other =
        if bits (before_at e.place) then lose e.before else (if bits (within_at e.place) then cut e.question e.before else left_by es end last other)

-- the stop in the unrolled text that a schedule's stop is in a run
abbrev pub stop_at : {S : Type 0} → List (Event S) → ℕ → Bool → ℕ → ℕ
stop_at [] last within n = before_at last
stop_at (e ∷ es) last within zero = if within then within_at e.place else before_at e.place
stop_at (e ∷ es) last within (suc n) = stop_at es last within n

-- the machine that keeps what the first stop that is set leaves: a run that falls is a whole run on it
module _ {S B : Type 0} (handle : ℕ → Question → S → Handled S) (cut : Question → S → B) (lose : S → B) (bits : ℕ → Bool) where
  -- a question on the machine with stops
  abbrev pub halted : ℕ → Question → Halted S B → Handled (Halted S B)
  halted i q z = record {
    answer = (handle i q z.to).answer;
    to = record {
      to = (handle i q z.to).to;
      fallen = if z.stopped then z.fallen else (if bits (before_at i) then lose z.to else (if bits (within_at i) then cut q z.to else z.fallen));
      stopped = z.stopped || bits (before_at i) || bits (within_at i);
    };
  }

  -- the stop after the last question
  abbrev pub halted_end : ℕ → Halted S B → B
  halted_end last z = if z.stopped then z.fallen else (if bits (before_at last) then lose z.to else z.fallen)

-- the first stop that is set leaves what the schedule's stop leaves
abbrev pub StopsSound : Type 1
StopsSound =
    (S B : Type 0) (cut : Question → S → B) (lose : S → B) (bits : ℕ → Bool) (es : List (Event S)) (end : S) (last : ℕ) (other : B) (stop : Halt) →
    first_stop bits es last ≡ Some stop → base_at cut lose stop.within (asked_in es) stop.event end ≡ Some (left_by bits cut lose es end last other)

-- each stop of a schedule that leaves something is the first that is set of some bits, where each question has a place of its own
abbrev pub StopsWhole : Type 1
StopsWhole =
    (S B : Type 0) (cut : Question → S → B) (lose : S → B) (size : Question → ℕ) (es : List (Event S)) (end : S) (low last : ℕ) (within : Bool)
    (n : ℕ) (fallen : B) →
    ((q : Question) → 1 ≤ size q) → Within size low es last → base_at cut lose within (asked_in es) n end ≡ Some fallen →
    (bits : ℕ → Bool) × (first_stop bits es last ≡ Some (halt within n))

-- a whole run on the machine with stops ends with what the first stop that is set leaves
abbrev pub HaltedLeaves : Type 1
HaltedLeaves =
    (S B : Type 0) (handle : ℕ → Question → S → Handled S) (cut : Question → S → B) (lose : S → B) (bits : ℕ → Bool) (es : List (Event (Halted S B)))
    (from to : Halted S B) (last : ℕ) →
    Chained (halted handle cut lose bits) from es to →
    halted_end handle cut lose bits last to ≡ (if from.stopped then from.fallen else left_by bits (λ q (z : Halted S B). cut q z.to)
    (λ (z : Halted S B). lose z.to) es to last from.fallen)
