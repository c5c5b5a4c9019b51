-- Stops by place and stops by events.
use Rattle.std.proofs.Common.{
  ◌≡◌,
  ◌≤◌,
  ◌<◌,
  ℕ,
  zero,
  suc,
  ◌+◌,
  ◌*◌,
  ◌==◌,
  Bool,
  true,
  false,
  ◌||◌,
  if◌then◌else◌,
  List,
  [],
  ◌∷◌,
  Option,
  Some,
  None,
  refl,
  sym,
  ap,
  ◌∙◌,
  subst,
  arith,
}
use Rattle.std.proofs.lemmas.Bool.Decides.{Decides-eqb}
use Rattle.ygg_sym_runs.specs.ygg_meaning.Progress.{Question}
use Rattle.ygg_sym_runs.specs.ygg_meaning.Obligations.{Halt}
use Rattle.ygg_sym_runs.specs.ygg_meaning_laws.Direct.{Handled, Event, Chained, Within}
use Rattle.ygg_sym_runs.specs.ygg_meaning_laws.RunPlaces.{base_at, asked_in}
use Rattle.ygg_sym_runs.specs.Stops.{
  before_at,
  within_at,
  halt,
  further,
  Halted,
  first_stop,
  left_by,
  stop_at,
  halted,
  halted_end,
  StopsSound,
  StopsWhole,
  HaltedLeaves,
}

module _ {S B : Type 0} (cut : Question → S → B) (lose : S → B) where
  end_sound : (b : Bool) (end : S) (other : B) (stop : Halt) → (if b then Some (halt false 0) else None) ≡ Some stop →
      base_at cut lose stop.within [] stop.event end ≡ Some (if b then lose end else other)
  end_sound true end other stop e = let f : halt false 0 ≡ stop = cc in subst (λ (s : Halt). base_at cut lose s.within [] s.event end ≡ Some (lose end)) f refl
  end_sound false end other stop e = absurd (cc)

  step_sound : (a b : Bool) (m : Option Halt) (e : Event S) (es : List (Event S)) (end : S) (rest : B) (stop : Halt) →
      (if a then Some (halt false 0) else (if b then Some (halt true 0) else further m)) ≡ Some stop →
      ((s : Halt) → m ≡ Some s → base_at cut lose s.within (asked_in es) s.event end ≡ Some rest) →
      base_at cut lose stop.within (asked_in (e ∷ es)) stop.event end ≡ Some (if a then lose e.before else (if b then cut e.question e.before else rest))
  step_sound true b m e es end rest stop h k =
      let f : halt false 0 ≡ stop = cc in subst (λ (s : Halt). base_at cut lose s.within (asked_in (e ∷ es)) s.event end ≡ Some (lose e.before)) f refl
  step_sound false true m e es end rest stop h k =
      let f : halt true 0 ≡ stop = cc in subst (λ (s : Halt). base_at cut lose s.within (asked_in (e ∷ es)) s.event end ≡ Some (cut e.question e.before)) f refl
  step_sound false false None e es end rest stop h k = absurd (cc)
  step_sound false false (Some s) e es end rest stop h k =
      let f : halt s.within (suc s.event) ≡ stop = cc in
      subst (λ (z : Halt). base_at cut lose z.within (asked_in (e ∷ es)) z.event end ≡ Some rest) f (k s refl)

  sound : (bits : ℕ → Bool) (es : List (Event S)) (end : S) (last : ℕ) (other : B) (stop : Halt) →
      first_stop bits es last ≡ Some stop → base_at cut lose stop.within (asked_in es) stop.event end ≡ Some (left_by bits cut lose es end last other)
  sound bits [] end last other stop h = end_sound (bits (before_at last)) end other stop h
  sound bits (e ∷ es) end last other stop h =
      step_sound (bits (before_at e.place)) (bits (within_at e.place)) (first_stop bits es last) e es end (left_by bits cut lose es end last other) stop h
      (λ s g. sound bits es end last other s g)

pub stops_sound : StopsSound
stops_sound S B cut lose bits es end last other stop h = sound cut lose bits es end last other stop h

less_not : (a b : ℕ) → a < b → (a == b) ≡ false
less_not a b l = go (a == b) refl where
  go : (c : Bool) → (a == b) ≡ c → (a == b) ≡ false
  go false e = e
  go true e = let f : a ≡ b = (Decides-eqb a b).0 e in absurd (omega (arith, l, f))

same_is : (a : ℕ) → (a == a) ≡ true
same_is a = (Decides-eqb a a).1 refl

module _ {S B : Type 0} (cut : Question → S → B) (lose : S → B) (size : Question → ℕ) (one : (q : Question) → 1 ≤ size q) where
  stop_low : (es : List (Event S)) (low last : ℕ) (within : Bool) (n : ℕ) → Within size low es last → 2 * low ≤ stop_at es last within n
  stop_low [] low last within n w = omega (arith, w)
  stop_low (e ∷ es) low last true zero w = let a = w.0 in omega (arith, a)
  stop_low (e ∷ es) low last false zero w = let a = w.0 in omega (arith, a)
  stop_low (e ∷ es) low last within (suc n) w =
      let a = w.0 in let b = stop_low es (e.place + size e.question) last within n w.1 in omega (arith, a, b)

  found_end : (b : Bool) → b ≡ true → (if b then Some (halt false 0) else None) ≡ Some (halt false 0)
  found_end true e = refl
  found_end false e = absurd (cc)

  found_before : (a b : Bool) (m : Option Halt) → a ≡ true →
      (if a then Some (halt false 0) else (if b then Some (halt true 0) else further m)) ≡ Some (halt false 0)
  found_before true b m e = refl
  found_before false b m e = absurd (cc)

  found_within : (a b : Bool) (m : Option Halt) → a ≡ false → b ≡ true →
      (if a then Some (halt false 0) else (if b then Some (halt true 0) else further m)) ≡ Some (halt true 0)
  found_within false true m e f = refl
  found_within true b m e f = absurd (cc)
  found_within false false m e f = absurd (cc)

  found_later : (a b : Bool) (m : Option Halt) (h : Halt) → a ≡ false → b ≡ false → m ≡ Some h →
      (if a then Some (halt false 0) else (if b then Some (halt true 0) else further m)) ≡ Some (halt h.within (suc h.event))
  found_later false false m h e f g = ap further g
  found_later true b m h e f g = absurd (cc)
  found_later false true m h e f g = absurd (cc)

  -- the stop of a schedule that leaves something is the first where it alone is set
  pub found : (es : List (Event S)) (end : S) (low last : ℕ) (within : Bool) (n : ℕ) (fallen : B) → Within size low es last →
      base_at cut lose within (asked_in es) n end ≡ Some fallen →
      first_stop (λ k. k == stop_at es last within n) es last ≡ Some (halt within n)
  found [] end low last true zero fallen w h = absurd (cc)
  found [] end low last false zero fallen w h = found_end (before_at last == before_at last) (same_is (before_at last))
  found [] end low last within (suc n) fallen w h = absurd (cc)
  found (e ∷ es) end low last false zero fallen w h =
      found_before (before_at e.place == before_at e.place) (within_at e.place == before_at e.place)
      (first_stop (λ k. k == before_at e.place) es last) (same_is (before_at e.place))
  found (e ∷ es) end low last true zero fallen w h =
      let l : before_at e.place < within_at e.place = omega arith in
      found_within (before_at e.place == within_at e.place) (within_at e.place == within_at e.place) (first_stop (λ k. k == within_at e.place) es last)
      (less_not (before_at e.place) (within_at e.place) l) (same_is (within_at e.place))
  found (e ∷ es) end low last within (suc n) fallen w h =
      let t = stop_at es last within n in
      let o = one e.question in
      let b = stop_low es (e.place + size e.question) last within n w.1 in
      let l : before_at e.place < t = omega (arith, o, b) in
      let m : within_at e.place < t = omega (arith, o, b) in
      found_later (before_at e.place == t) (within_at e.place == t) (first_stop (λ k. k == t) es last) (halt within n)
      (less_not (before_at e.place) t l) (less_not (within_at e.place) t m) (found es end (e.place + size e.question) last within n fallen w.1 h)

pub stops_whole : StopsWhole
stops_whole S B cut lose size es end low last within n fallen one w h =
    (λ k. k == stop_at es last within n, found cut lose size one es end low last within n fallen w h)

split : {B : Type 0} (s a b : Bool) (f l c : B) (left : B → B) →
    (if (s || a || b) then (if s then f else (if a then l else (if b then c else f))) else left (if s then f else (if a then l else (if b then c else f))))
    ≡ (if s then f else (if a then l else (if b then c else left f)))
split true a b f l c left = refl
split false true b f l c left = refl
split false false true f l c left = refl
split false false false f l c left = refl

module _ {S B : Type 0} (handle : ℕ → Question → S → Handled S) (cut : Question → S → B) (lose : S → B) (bits : ℕ → Bool) where
  leaves : (es : List (Event (Halted S B))) (from to : Halted S B) (last : ℕ) → Chained (halted handle cut lose bits) from es to →
      halted_end handle cut lose bits last to ≡ (if from.stopped then from.fallen else left_by bits (λ q (z : Halted S B). cut q z.to)
      (λ (z : Halted S B). lose z.to) es to last from.fallen)
  leaves [] from to last c =
      subst (λ (z : Halted S B). halted_end handle cut lose bits last z ≡
      (if from.stopped then from.fallen else (if bits (before_at last) then lose z.to else from.fallen))) c refl
  leaves (e ∷ es) from to last c =
      let after : (halted handle cut lose bits e.place e.question from).to ≡ e.after = ap (λ (h : Handled (Halted S B)). h.to) c.1 in
      let left = λ (other : B). left_by bits (λ q (z : Halted S B). cut q z.to) (λ (z : Halted S B). lose z.to) es to last other in
      leaves es e.after to last c.2
      ∙ ap (λ (z : Halted S B). if z.stopped then z.fallen else left z.fallen) (sym after)
      ∙ split from.stopped (bits (before_at e.place)) (bits (within_at e.place)) from.fallen (lose from.to) (cut e.question from.to) left
      ∙ ap (λ (z : Halted S B). if from.stopped then from.fallen else
      (if bits (before_at e.place) then lose z.to else (if bits (within_at e.place) then cut e.question z.to else left from.fallen))) (sym c.0)

pub halted_leaves : HaltedLeaves
halted_leaves S B handle cut lose bits es from to last c = leaves handle cut lose bits es from to last c

-- what is left hangs on what power leaves alone
pub base_same : {S B : Type 0} (cut other : Question → S → B) (lose miss : S → B) → ((q : Question) (s : S) → cut q s ≡ other q s) →
    ((s : S) → lose s ≡ miss s) → (within : Bool) (es : List (Question × S)) (n : ℕ) (end : S) → base_at cut lose within
    es n end ≡ base_at other miss within es n end
base_same cut other lose miss h g within [] zero end = ap (λ b. if within then None else Some b) (g end)
base_same cut other lose miss h g within [] (suc n) end = refl
base_same cut other lose miss h g within (e ∷ es) zero end =
    ap (λ b. Some (if within then b else lose e.1)) (h e.0 e.1) ∙ ap (λ b. Some (if within then other e.0 e.1 else b)) (g e.1)
base_same cut other lose miss h g within (e ∷ es) (suc n) end = base_same cut other lose miss h g within es n end
