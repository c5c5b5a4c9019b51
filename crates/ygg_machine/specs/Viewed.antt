-- What stands on which ground, and how its commands look from above. These are proofs that stand among the specifications, since grounds and floors give
-- them as the values of their fields.
use Rattle.std.specs.Prelude.{◌≡◌, ℕ, suc, ◌<◌, IsTrue, List, [], ◌∷◌, map, length, slice_get, Option, Some, None, ◌⊎◌}
use Rattle.std.proofs.lemmas.List.{map-append}
use Rattle.std.proofs.Common.{inl, inr, refl, sym, ap, ◌∙◌, subst, arith}
use Rattle.ygg_value.specs.declared.row.Value.{Value}
use Rattle.ygg_syntax.specs.declared.tree.Layer.{Layer}
use Rattle.ygg_syntax.specs.declared.tree.File.{File}
use Rattle.ygg_eval.specs.ygg_disk.Ground as disk
use Rattle.ygg_eval.specs.ygg_meaning.Environments.{Env, bind}
use Rattle.ygg_eval.specs.ygg_meaning.Machine.{State, based, on, Machine}
use Rattle.ygg_eval.specs.ygg_meaning.Layer.{Layered}
use Rattle.ygg_eval.specs.ygg_meaning.Shapes.{values_fit, zeros_of}
use Rattle.ygg_eval.specs.ygg_meaning.Noted.{Note}
use Rattle.ygg_eval.specs.ygg_meaning.Mirror.{SameOn, Mirrors}
use Rattle.ygg_eval.specs.ygg_meaning_proofs_Mirrored.{layered_mirrors, formatted_mirrors}
use Rattle.ygg_eval.specs.Layers.{closed_at}
use Rattle.ygg_eval.specs.Lower.{Standing, Meaning, Cause}
use Rattle.ygg_machine.specs.GroundSteps.{ground_machine}
use Rattle.ygg_machine.specs.Leaves.{LeaveBy}
use Rattle.ygg_machine.specs.Grounded.{HasRows, ground_meaning}
use Rattle.ygg_machine.specs.Floors.{Raised, lower_of, memory_at, place_of, idle_on, layer_over, FitsFloor, floor_meaning}
use Rattle.ygg_machine.specs.FloorStacks.{Told, Renoted, renoted_joined, is_told, same_state, same_notes, layer_there}
use Rattle.ygg_machine.specs.Towers.{Rooted, ground_rooted, floor_rooted, StandsOn, FormatFallsHere}
use Rattle.ygg_machine.specs.Bottoms.{
  bottom_on,
  FormatFalls,
  View,
  memories_of,
  MemoriesFit,
  raised_view,
  state_seen,
  ViewStands,
  ViewRuns,
}
use Rattle.ygg_machine.specs.BlocksTold.{may_format, fall_told}

-- what is seen from above of what has these states: its ground, and how it looks
pub record Seen (T : Type 0) : Type 1 where
  pub Ground : Type 0
  pub means : disk.Meaning Ground
  pub look : T → View Ground

-- a ground is seen as it is
abbrev pub ground_seen : {S : Type 0} → disk.Meaning S → Seen S
ground_seen {S} G = record { Ground = S; means = G; look = λ s. record { height = 0; values = []; base = s } }

-- a layer is seen on what is below it
abbrev pub floor_seen : {T : Type 0} → Seen T → Seen (Raised T)
floor_seen X = record { Ground = X.Ground; means = X.means; look = λ t. raised_view t.memory (X.look t.below) }

-- What is formatted from some state means what is seen: its steps are those of the layers on the ground from that state on.
pub record SeesSteps {T : Type 0} (N : Meaning T) (Falls : Cause → File → List N.behavior.Note → N.behavior.Base → Type 0) (Stands : File → T → Type 0)
    (X : Seen T) (start : T) : Type 0 where
  pub base : N.behavior.Base → X.Ground
  pub note : N.behavior.Note → Note
  pub number : (t : T) → N.number t ≡ (X.look t).height
  pub faults : (t : T) → N.faults t ≡ X.means.faults (X.look t).base
  pub state : (file : File) (t : T) →
      record { memories = (N.behavior.state file t).memories; base = base (N.behavior.state file t).base } ≡ state_seen file (X.look t)
  pub leaves : (how : Option Cause) (file : File) (from to : Standing T) (notes : List N.behavior.Note) → N.behavior.Leaves how file from notes to →
      LeaveBy X.means how (map note notes) from.power to.power
  pub steps : (cause : Cause) (file : File) (t : T) → Stands file t →
      Mirrors (Told base) (Renoted note) (N.behavior.machine cause file (N.number t)) (bottom_on X.means cause file (X.look start).base (N.number t))
  pub falls : (cause : Cause) (file : File) (notes : List N.behavior.Note) (fallen : N.behavior.Base) → Stands file start → Falls cause file notes fallen →
      FormatFalls X.means cause file (X.look start).base (N.number start) (map note notes) (base fallen)

-- a tower is what is seen of it
pub record IsSeen {T : Type 0} (M : Meaning T) (R : T → Rooted T) (Stands : File → T → Type 0) (X : Seen T) : Type 0 where
  pub number : (t : T) → M.number t ≡ (X.look t).height
  pub can_lose : M.can_lose ≡ X.means.can_lose
  pub stands : (file : File) (t : T) → ViewStands X.means file (X.look t) → Stands file t
  pub stood : (file : File) (t : T) → Stands file t → ViewStands X.means file (X.look t)
  pub fits : (file : File) (t : T) → ViewRuns X.means file (X.look t) → M.Fits file t
  pub fitted : (file : File) (t : T) → M.Fits file t → ViewRuns X.means file (X.look t)
  pub steps : (start : T) →
      SeesSteps (R start).meaning (λ cause file notes fallen. (R start).FormatFalls cause file notes fallen) Stands X start

-- a machine mirrors itself
module _ {S : Type 0} (M : Machine S Note) where
  itself : (s : State S) → SameOn (Told (λ (s : S). s)) s s
  itself s = record { memories = refl; bases = refl }

  same_mirrors : Mirrors (Told (λ (s : S). s)) (Renoted (λ (n : Note). n)) M M
  same_mirrors = record {
    starts = λ s a h. (s, a, h, itself s, same_notes a);
    calls = λ t s s' name args a answer r h. (s', a, subst (λ x. M.Calls x name args a answer s') (sym (same_state t s r)) h, itself s', same_notes a);
    falls = λ t s name args a f r h. (f, a, subst (λ x. M.Falls x name args a f) (sym (same_state t s r)) h, refl, same_notes a);
    ticks = λ t s s' name a r h. (s', a, subst (λ x. M.Ticks x name a s') (sym (same_state t s r)) h, itself s', same_notes a);
    tick_falls = λ t s name a f r h. (f, a, subst (λ x. M.TickFalls x name a f) (sym (same_state t s r)) h, refl, same_notes a);
    loses = λ t s a f r h. (f, a, subst (λ x. M.Loses x a f) (sym (same_state t s r)) h, refl, same_notes a);
    wakes = λ g f a s r h. (s, a, subst (λ x. M.Wakes x a s) (sym r) h, itself s, same_notes a);
    wake_falls = λ g f f' a r h. (f', a, subst (λ x. M.WakeFalls x a f') (sym r) h, refl, same_notes a);
  }

module _ {S : Type 0} (G : disk.Meaning S) where
  no_memories : (file : File) (s : S) → based s ≡ state_seen file (record { height = 0; values = []; base = s })
  unfolding memories_of
  no_memories file s = refl

  lowest_steps : (cause : Cause) (file : File) (start : S) →
      Mirrors (Told (λ (s : S). s)) (Renoted (λ (n : Note). n)) (ground_machine G cause start) (bottom_on G cause file start 0)
  unfolding bottom_on
  lowest_steps cause file start = same_mirrors (ground_machine G cause start)

  none_fit : (file : File) (vs : List (List Value)) → MemoriesFit file 0 vs
  unfolding MemoriesFit
  none_fit file vs = tt

  -- a ground is what is seen of it
  pub ground_sees : IsSeen (ground_meaning G) (ground_rooted G) (HasRows G) (ground_seen G)
  ground_sees = record {
    number = λ t. refl;
    can_lose = refl;
    stands = λ file t v. v.rows;
    stood = λ file t h. record { within = omega arith; rows = h };
    fits = λ file t v. v.rows;
    fitted = λ file t h. record { memories = none_fit file []; rows = h };
    steps = λ start. record {
      base = λ s. s;
      note = λ n. n;
      number = λ t. refl;
      faults = λ t. refl;
      state = no_memories;
      leaves = λ how file from to notes h. subst (λ ns. LeaveBy G how ns from.power to.power) (same_notes notes) h;
      steps = λ cause file t h. lowest_steps cause file start;
      falls = λ cause file notes fallen h falls. absurd falls;
    };
  }

module _ {T : Type 0} (M : Meaning T) (R : T → Rooted T) (Stands : File → T → Type 0) (X : Seen T) (sees : IsSeen M R Stands X) where
  fit_more : (file : File) (n : ℕ) (v : List Value) (vs : List (List Value)) (l : Layer) → slice_get file.layers n ≡ Some l → IsTrue (values_fit l.memory v) →
      MemoriesFit file n vs → MemoriesFit file (suc n) (v ∷ vs)
  unfolding MemoriesFit
  fit_more file n v vs l there fit rest = ((l, there, fit), rest)

  fit_parts : (file : File) (n : ℕ) (v : List Value) (vs : List (List Value)) → MemoriesFit file (suc n) (v ∷ vs) →
      ((l : Layer) × (slice_get file.layers n ≡ Some l) × IsTrue (values_fit l.memory v)) × MemoriesFit file n vs
  unfolding MemoriesFit
  fit_parts file n v vs h = h

  stands_on : (file : File) (t : Raised T) → ViewStands X.means file ((floor_seen X).look t) → StandsOn M Stands file t
  stands_on file t v = record {
    there = subst (λ (n : ℕ). n < length file.layers) (sym (sees.number t.below)) (let h = v.within in omega arith);
    below = sees.stands file t.below (record { within = let h = v.within in omega arith; rows = v.rows });
  }

  stood_on : (file : File) (t : Raised T) → StandsOn M Stands file t → ViewStands X.means file ((floor_seen X).look t)
  stood_on file t h = record {
    within = let there = subst (λ (n : ℕ). n < length file.layers) (sees.number t.below) h.there in omega arith;
    rows = (sees.stood file t.below h.below).rows;
  }

  fits_on : (file : File) (t : Raised T) → ViewRuns X.means file ((floor_seen X).look t) → FitsFloor M file t
  fits_on file t v =
      let (here, rest) = fit_parts file (X.look t.below).height t.memory (X.look t.below).values v.memories in
      record {
        layer = here.0;
        there = ap (λ (n : ℕ). slice_get file.layers n) (sees.number t.below) ∙ here.1;
        memory = here.2;
        below = sees.fits file t.below (record { memories = rest; rows = v.rows });
      }

  fitted_on : (file : File) (t : Raised T) → FitsFloor M file t → ViewRuns X.means file ((floor_seen X).look t)
  fitted_on file t h =
      let v = sees.fitted file t.below h.below in
      record {
        memories = fit_more file (X.look t.below).height t.memory (X.look t.below).values h.layer
            (ap (λ (n : ℕ). slice_get file.layers n) (sym (sees.number t.below)) ∙ h.there) h.memory v.memories;
        rows = v.rows;
      }

  module _ (start : Raised T) where
    abbrev N : Meaning T
    N = (R start.below).meaning

    V : SeesSteps (R start.below).meaning (λ cause file notes fallen. (R start.below).FormatFalls cause file notes fallen) Stands X start.below
    V = sees.steps start.below

    one_more : (file : File) (n : ℕ) (v : List Value) (vs : List (List Value)) → memories_of file (suc n) (v ∷ vs) ≡ bind (memory_at file n) v ∷
        memories_of file n vs
    unfolding memories_of
    one_more file n v vs = refl

    state_on : (file : File) (t : Raised T) →
        record { memories = ((floor_meaning N).behavior.state file t).memories; base = V.base ((floor_meaning N).behavior.state file t).base }
        ≡ state_seen file ((floor_seen X).look t)
    state_on file t =
        ap (λ (n : ℕ). on (bind (memory_at file n) t.memory) (record {
          memories = (N.behavior.state file t.below).memories;
          base = V.base (N.behavior.state file t.below).base;
        })) (V.number t.below)
        ∙ ap (λ (s : State X.Ground). on (bind (memory_at file (X.look t.below).height) t.memory) s) (V.state file t.below)
        ∙ ap (λ (ms : List Env). record { memories = ms; base = (X.look t.below).base })
        (sym (one_more file (X.look t.below).height t.memory (X.look t.below).values))

    next_on : (cause : Cause) (file : File) (n : ℕ) (s : X.Ground) → bottom_on X.means cause file s (suc n) ≡ layer_over file n
        (bottom_on X.means cause file s n)
    unfolding bottom_on
    next_on cause file n s = refl

    steps_on : (cause : Cause) (file : File) (t : Raised T) → StandsOn M Stands file t →
        Mirrors (Told V.base) (Renoted V.note) (layer_over file (place_of N t) (N.behavior.machine cause file (place_of N t)))
        (bottom_on X.means cause file (X.look start.below).base (suc (place_of N t)))
    steps_on cause file t h =
        let n = place_of N t in
        let low = N.behavior.machine cause file (place_of N t) in
        let high = bottom_on X.means cause file (X.look start.below).base (place_of N t) in
        let within : place_of N t < length file.layers =
        subst (λ (n : ℕ). n < length file.layers) (sees.number t.below ∙ sym (V.number t.below)) h.there in
        let (l, there) = layer_there file (place_of N t) within in
        subst (λ (Y : Machine X.Ground Note). Mirrors (Told V.base) (Renoted V.note)
        (layer_over file (place_of N t) (N.behavior.machine cause file (place_of N t))) Y)
        (sym (next_on cause file (place_of N t) (X.look start.below).base))
        (subst (λ (o : Option Layer). Mirrors (Told V.base) (Renoted V.note)
        (elim o [
          | None ↦ idle_on (N.behavior.machine cause file (place_of N t))
          | Some l ↦ Layered (closed_at file (place_of N t) l)
              (N.behavior.machine cause file (place_of N t))
        ])
        (elim o [
          | None ↦ idle_on (bottom_on X.means cause file (X.look start.below).base (place_of N t))
          | Some l ↦ Layered (closed_at file (place_of N t) l) (bottom_on X.means cause file (X.look start.below).base (place_of N t))
        ])) (sym there)
        (formatted_mirrors (Told V.base) (Renoted V.note) (renoted_joined V.note) (Unit {0}) (Layered (closed_at file (place_of N t) l) low)
        (Layered (closed_at file (place_of N t) l) high) tt
        (layered_mirrors (Told V.base) (Renoted V.note) (renoted_joined V.note) (Unit {0}) low high
        (may_format (Told V.base) (Renoted V.note) low high (V.steps cause file t.below h.below)) (closed_at file (place_of N t) l))))

    falls_more : (cause : Cause) (file : File) (n : ℕ) (s fallen : X.Ground) (notes : List Note) →
        FormatFalls X.means cause file s n notes fallen ⊎ FormatFallsHere (bottom_on X.means cause file s n) file n notes fallen →
        FormatFalls X.means cause file s (suc n) notes fallen
    unfolding FormatFalls
    falls_more cause file n s fallen notes h = h

    falls_here : (cause : Cause) (file : File) (notes : List N.behavior.Note) (fallen : N.behavior.Base) → StandsOn M Stands file start →
        FormatFallsHere (N.behavior.machine cause file (place_of N start)) file (place_of N start) notes fallen →
        FormatFallsHere (bottom_on X.means cause file (X.look start.below).base (place_of N start)) file (place_of N start) (map V.note notes) (V.base fallen)
    falls_here cause file notes fallen stands h =
        let U = V.steps cause file start.below stands.below in
        let low = N.behavior.machine cause file (place_of N start) in
        let high = bottom_on X.means cause file (X.look start.below).base (place_of N start) in
        let (t, ns, starts, same, are) = U.starts h.lower h.first h.starts in
        let told = is_told V.base t h.lower same in
        record {
          layer = h.layer;
          there = h.there;
          lower = record { memories = h.lower.memories; base = V.base h.lower.base };
          first = map V.note h.first;
          second = map V.note h.second;
          starts = subst (λ (x : State X.Ground). (bottom_on X.means cause file (X.look start.below).base (place_of N start)).Starts x
              (map V.note h.first)) told
              (subst (λ (x : List Note). (bottom_on X.means cause file (X.look start.below).base (place_of N start)).Starts t x) are starts);
          falls = fall_told V.base (map V.note) (renoted_joined V.note) low high U (closed_at file (place_of N start) h.layer) h.layer.format [] [] refl
              (on (zeros_of h.layer.memory) h.lower) fallen h.second h.falls;
          takes = ap (λ (x : List N.behavior.Note). map V.note x) h.takes ∙ map-append V.note h.first h.second;
        }

    steps_of_floor : SeesSteps (floor_meaning (R start.below).meaning) (λ cause file notes fallen. (floor_rooted R start).FormatFalls cause file notes fallen)
        (StandsOn M Stands) (floor_seen X) start
    steps_of_floor = record {
      base = V.base;
      note = V.note;
      number = λ t. ap suc (V.number t.below);
      faults = λ t. V.faults t.below;
      state = state_on;
      leaves = λ how file from to notes h. V.leaves how file (lower_of from) (lower_of to) notes h;
      steps = steps_on;
      falls = λ cause file notes fallen stands h.
          falls_more cause file (place_of N start) (X.look start.below).base (V.base fallen) (map V.note notes) (either cause file notes fallen stands h);
    }
      where
        either : (cause : Cause) (file : File) (notes : List N.behavior.Note) (fallen : N.behavior.Base) → StandsOn M Stands file start →
            (R start.below).FormatFalls cause file notes fallen
            ⊎ FormatFallsHere (N.behavior.machine cause file (place_of N start)) file (place_of N start) notes fallen →
            FormatFalls X.means cause file (X.look start.below).base (place_of N start) (map V.note notes) (V.base fallen)
            ⊎ FormatFallsHere (bottom_on X.means cause file (X.look start.below).base (place_of N start)) file (place_of N start) (map V.note notes)
            (V.base fallen)
        either cause file notes fallen stands (inl h) = inl (V.falls cause file notes fallen stands.below h)
        either cause file notes fallen stands (inr h) = inr (falls_here cause file notes fallen stands h)

  -- a layer on what is seen is what is seen of it
  pub floor_sees : IsSeen (floor_meaning M) (floor_rooted R) (StandsOn M Stands) (floor_seen X)
  floor_sees = record {
    number = λ t. ap suc (sees.number t.below);
    can_lose = sees.can_lose;
    stands = stands_on;
    stood = stood_on;
    fits = fits_on;
    fitted = fitted_on;
    steps = steps_of_floor;
  }
