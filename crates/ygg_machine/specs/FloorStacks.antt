-- A ground keeps what a tower keeps, and so does a layer on one. These are proofs that stand among the specifications, since grounds and floors give
-- them as the values of their fields `stacks`.
use Rattle.std.specs.Prelude.{◌≡◌, ℕ, suc, ◌<◌, ◌≤◌, ◌⊎◌, get_or, List, [], ◌∷◌, ◌++◌, map, length, slice_get, Option, Some, None, Result, Ok, Err}
use Rattle.std.proofs.Common.{inl, inr, refl, sym, ap, ◌∙◌, subst, arith}
use Rattle.std.proofs.lemmas.List.{map-append}
use Rattle.std.proofs.lemmas.Option.{slice_get_within, slice_get_cases}
use Rattle.ygg_list.specs.declared.memory.NoMemory.{NoMemory}
use Rattle.ygg_value.specs.declared.row.Value.{Value}
use Rattle.ygg_syntax.specs.declared.grammar.BlockKind.{BlockKind}
use Rattle.ygg_syntax.specs.declared.tree.Declared.{Declared}
use Rattle.ygg_syntax.specs.declared.tree.Layer.{Layer}
use Rattle.ygg_syntax.specs.declared.tree.File.{File}
use Rattle.ygg_eval.specs.ygg_disk.Ground as ground
use Rattle.ygg_eval.specs.ygg_meaning.Environments.{Name, Env, bind}
use Rattle.ygg_eval.specs.ygg_meaning.Progress.{Question, Choice, Call, Answer}
use Rattle.ygg_eval.specs.ygg_meaning.Runs.{Dialogue}
use Rattle.ygg_eval.specs.ygg_meaning.Machine.{State, on, Machine}
use Rattle.ygg_eval.specs.ygg_meaning.Layer.{Layered}
use Rattle.ygg_eval.specs.ygg_disk.Disk as disk
use Rattle.ygg_eval.specs.ygg_meaning.Noted.{Note}
use Rattle.ygg_eval.specs.ygg_meaning.Mirror.{SameOn, IsJoined, Mirrors}
use Rattle.ygg_eval.specs.ygg_meaning_proofs_Mirrored.{layered_mirrors, formatted_mirrors}
use Rattle.ygg_eval.specs.Layers.{closed_at}
use Rattle.ygg_eval.specs.Lower.{Standing, Meaning, Cause, PowerLoss, GivenUp, Ending, IsLower}
use Rattle.ygg_eval.specs.Lower as ending
use Rattle.ygg_eval.specs.Conversations.{Asking, Exchange, Exchanged, Answers, Talks}
use Rattle.ygg_eval.specs.Runs.{Came, EndedIn, RunEnds}
use Rattle.ygg_eval.specs.declared.run.Ended.{Ended}
use Rattle.ygg_eval.specs.declared.run.Ended.TheVariants as ended
use Rattle.ygg_eval.specs.ygg_meaning.DiskMachine.{machine_on}
use Rattle.ygg_machine.specs.GroundSteps.{ground_steps, ground_machine, ground_calls}
use Rattle.ygg_machine.specs.Leaves.{LeaveBy}
use Rattle.ygg_machine.specs.Grounded.{HasRows, ground_meaning, ground_from}
use Rattle.ygg_machine.specs.Floors.{Raised, lower_of, memory_at, place_of, idle_on, layer_over, CallsFloor, floor_meaning}
use Rattle.ygg_machine.specs.GroundKeeps.{ground_keeps}
use Rattle.ygg_machine.specs.FloorKeeps.{block_kept}
use Rattle.ygg_machine.specs.Towers.{Rooted, ground_rooted, StandsOn, floor_rooted, Tells, IsTower}

-- a base and notes that are told
abbrev pub Told : {B C : Type 0} → (B → C) → C → B → Type 0
Told base c b = c ≡ base b

abbrev pub Renoted : {X Y : Type 0} → (X → Y) → List X → List Y → Type 0
Renoted note a b = b ≡ map note a

pub renoted_joined : {X Y : Type 0} (note : X → Y) → IsJoined (Renoted note)
renoted_joined note = record { none = refl; append = λ a c b d x y. ap (λ l. l ++ d) x ∙ ap (λ l. map note a ++ l) y ∙ sym (map-append note a c) }

-- notes that are told as others
abbrev pub Retold : {X Y : Type 0} → (List X → List Y) → List X → List Y → Type 0
Retold tell a b = b ≡ tell a

abbrev pub the_same : {X : Type 0} → X → X
the_same x = x

-- a state of which another is told
pub is_told : {B C : Type 0} (base : B → C) (t : State C) (s : State B) → SameOn (Told base) t s → t ≡ record { memories = s.memories; base = base s.base }
is_told {B} {C} base t s r =
    ap (λ (ms : List Env). record { memories = ms; base = t.base }) r.memories ∙ ap (λ (c : C). record { memories = s.memories; base = c }) r.bases

pub same_state : {B : Type 0} (t s : State B) → SameOn (Told (λ (b : B). b)) t s → t ≡ s
same_state {B} t s r = is_told (λ (b : B). b) t s r

pub same_notes : {X : Type 0} (a : List X) → a ≡ map the_same a
same_notes [] = refl
same_notes (n ∷ ns) = ap (λ l. n ∷ l) (same_notes ns)

module _ {S : Type 0} (G : ground.Meaning S) where
  -- calls from whatever state are those from one
  calls_from : (cause : Cause) (start s s' : S) (call : disk.Call) (notes : List Note) (reply : disk.Reply) →
      (ground_steps G cause s).Calls s call notes reply s' → (ground_steps G cause start).Calls s call notes reply s'
  calls_from PowerLoss start s s' call notes reply h = h
  calls_from GivenUp start s s' call notes reply h = h

  falls_from : (cause : Cause) (start s s' : S) (call : disk.Call) (notes : List Note) → (ground_steps G cause s).Falls s call notes s' →
      (ground_steps G cause start).Falls s call notes s'
  falls_from PowerLoss start s s' call notes h = h
  falls_from GivenUp start s s' call notes h = h

  loses_from : (cause : Cause) (start s s' : S) → (ground_steps G cause s).Loses s s' → (ground_steps G cause start).Loses s s'
  loses_from PowerLoss start s s' h = h
  loses_from GivenUp start s s' h = h

  itself : (s : State S) → SameOn (Told the_same) s s
  itself s = record { memories = refl; bases = refl }

  module _ (cause : Cause) (start : S) where
    abbrev from_any : Machine S Note
    from_any = machine_on (ground_calls G cause)

    abbrev from_one : Machine S Note
    from_one = ground_machine G cause start

    started : Mirrors (Told the_same) (Renoted the_same) from_any from_one
    started = record {
      starts = λ s a (b, none, is, h). absurd h;
      calls = λ t s s' name args a answer r (b, b', call, reply, named, is, h, y, to). (
        s',
        a,
        subst (λ x. from_one.Calls x name args a answer s') (sym (same_state t s r))
            (b, b', call, reply, named, is, calls_from cause start b b' call a reply h, y, to),
        itself s',
        same_notes a,
      );
      falls = λ t s name args a f r (b, call, named, is, h). (
        f,
        a,
        subst (λ x. from_one.Falls x name args a f) (sym (same_state t s r)) (b, call, named, is, falls_from cause start b f call a h),
        refl,
        same_notes a,
      );
      ticks = λ t s s' name a r h. absurd h;
      tick_falls = λ t s name a f r h. absurd h;
      loses = λ t s a f r (b, none, is, h).
          (f, a, subst (λ x. from_one.Loses x a f) (sym (same_state t s r)) (b, none, is, loses_from cause start b f h), refl, same_notes a);
      wakes = λ g f a s r h. (s, a, subst (λ x. from_one.Wakes x a s) (sym r) h, itself s, same_notes a);
      wake_falls = λ g f f' a r h. absurd h;
    }

  ground_tells : (start : S) → Tells (HasRows G) (ground_meaning G) (ground_from G start)
  ground_tells start = record {
    base = the_same;
    note = the_same;
    number = λ s. refl;
    faults = λ s. refl;
    state = λ file s. refl;
    leaves = λ how file from to notes h. subst (λ ns. LeaveBy G how ns from.power to.power) (same_notes notes) h;
    leaves_both = (ground_keeps G).leaves_both;
    steps = λ cause file s h. started cause start;
  }

  -- a ground is a tower without layers
  pub ground_stacks : IsTower (ground_meaning G) (ground_rooted G) (HasRows G)
  ground_stacks = record {
    tells = ground_tells;
    stands = λ file s h. h;
    lasts = λ file from to name args ending h stands. h.row ∙ stands;
  }

module _ {S : Type 0} (M : Meaning S) (R : S → Rooted S) (Whole : File → S → Type 0) (stacks : IsTower M R Whole) (file : File) where
  abbrev Stands : Standing S → Type 0
  Stands at = Whole file at.machine

  -- a question and its answer
  answer_lasts : (from to : Standing S) (q : Question) (a : Answer) → Answers M file from q a to → Stands from → Stands to
  answer_lasts from to Choice a (is, same) stands = subst Stands (sym same) stands
  answer_lasts from to (Call name args) a step stands = stacks.lasts file from to name args (ending.Whole a) step stands

  module _ (kind : BlockKind) (number : ℕ) (block : Dialogue) where
    talk_lasts : (asking : Asking) (told : List Answer) (from : Standing S) (xs : List (Exchange S)) (to : Standing S) →
        Talks (Exchanged M file kind number) asking told from xs to → Stands from → Stands to
    talk_lasts asking told from [] to same stands = subst Stands same stands
    talk_lasts asking told from (x ∷ xs) to (asks, ex, rest) stands =
        talk_lasts asking (told ++ x.answer ∷ []) x.after xs to rest (answer_lasts from x.after x.question x.answer ex.answered.step stands)

    came_lasts : (from at : Standing S) → Came M file kind number block from at → Stands from → Stands at
    came_lasts from at c stands = talk_lasts _ [] from c.exchanges at c.path stands

    ended_lasts : (from to : Standing S) (e : Ending) → EndedIn M file kind number block from None e to → Stands from → Stands to
    ended_lasts from to e x stands = stacks.lasts file x.at to x.name x.args e x.step (came_lasts from x.at x.came stands)

    -- whatever stands does so after a run of a block, however that ended
    pub run_lasts : (from to : Standing S) (variables : List Declared) (values values' : List Value) (result : Result Ended NoMemory) →
        RunEnds M file kind number block from variables values None result values' to → Stands from → Stands to
    run_lasts from to variables values values' (Ok (ended.Whole answer)) (none, f) stands = came_lasts from to f.came stands
    run_lasts from to variables values values' (Ok ended.Short) e stands = came_lasts from to e.done.came stands
    run_lasts from to variables values values' (Ok ended.Stopped) e stands = absurd e.is
    run_lasts from to variables values values' (Ok ended.Down) e stands = ended_lasts from to ending.Down e stands
    run_lasts from to variables values values' (Ok ended.Failed) e stands = ended_lasts from to ending.Failed e stands
    run_lasts from to variables values values' (Err none) (inl e) stands = ended_lasts from to ending.Starved e stands
    run_lasts from to variables values values' (Err none) (inr (inl c)) stands = came_lasts from to c stands
    run_lasts from to variables values values' (Err none) (inr (inr e)) stands = absurd e.is

-- a layer that the file has is there
pub layer_there : (file : File) (place : ℕ) → place < length file.layers → (l : Layer) × (slice_get file.layers place ≡ Some l)
layer_there file place h = at (slice_get_cases file.layers place)
  where
    at : (slice_get file.layers place ≡ slice_get file.layers place)
        × (((x : Layer) × (place < length file.layers) × (slice_get file.layers place ≡ Some x) × (get_or file.layers place x ≡ x))
        ⊎ ((length file.layers ≤ place) × (slice_get file.layers place ≡ None))) →
        (l : Layer) × (slice_get file.layers place ≡ Some l)
    at (_, inl (x, within, is, _)) = (x, is)
    at (_, inr (past, _)) = absurd (omega arith)

module _ {S : Type 0} (M N : Meaning S) (Stands : File → S → Type 0) (keeps : IsLower M) (T : Tells Stands M N) where
  -- the layer there on machines of which the one is told by the other
  steps_there : (cause : Cause) (file : File) (s : Raised S) → StandsOn M Stands file s →
      Mirrors (Told T.base) (Renoted T.note) (layer_over file (place_of M s) (M.behavior.machine cause file (place_of M s)))
      (layer_over file (place_of M s) (N.behavior.machine cause file (place_of M s)))
  steps_there cause file s h =
      let (l, there) = layer_there file (place_of M s) h.there in
      subst (λ (o : Option Layer). Mirrors (Told T.base) (Renoted T.note)
      (elim o [
        | None ↦ idle_on (M.behavior.machine cause file (place_of M s))
        | Some l ↦ Layered (closed_at file (place_of M s) l)
            (M.behavior.machine cause file (place_of M s))
      ])
      (elim o [
        | None ↦ idle_on (N.behavior.machine cause file (place_of M s))
        | Some l ↦ Layered (closed_at file (place_of M s) l)
            (N.behavior.machine cause file (place_of M s))
      ]))
      (sym there) (lifted l)
    where
      lifted : (l : Layer) → Mirrors (Told T.base) (Renoted T.note) (Layered (closed_at file (place_of M s) l) (M.behavior.machine cause file (place_of M s)))
          (Layered (closed_at file (place_of M s) l) (N.behavior.machine cause file (place_of M s)))
      lifted l =
          let U = T.steps cause file s.below h.below in
          formatted_mirrors (Told T.base) (Renoted T.note) (renoted_joined T.note) (Unit {0})
          (Layered (closed_at file (place_of M s) l) (M.behavior.machine cause file (place_of M s)))
          (Layered (closed_at file (place_of M s) l) (N.behavior.machine cause file (place_of M s))) tt
          (layered_mirrors (Told T.base) (Renoted T.note) (renoted_joined T.note) (Unit {0}) (M.behavior.machine cause file (place_of M s))
          (N.behavior.machine cause file (place_of M s)) (record {
            starts = λ s a (_, x). U.starts s a x;
            calls = U.calls;
            falls = U.falls;
            ticks = U.ticks;
            tick_falls = U.tick_falls;
            loses = U.loses;
            wakes = U.wakes;
            wake_falls = U.wake_falls;
          }) (closed_at file (place_of M s) l))

  -- the state with a layer's memory is told where the state below is
  state_there : (file : File) (s : Raised S) →
      (floor_meaning N).behavior.state file s ≡
      record { memories = ((floor_meaning M).behavior.state file s).memories; base = T.base ((floor_meaning M).behavior.state file s).base }
  state_there file s =
      ap (λ (n : ℕ). on (bind (memory_at file n) s.memory) (N.behavior.state file s.below)) (T.number s.below)
      ∙ ap (λ (x : State N.behavior.Base). on (bind (memory_at file (place_of M s)) s.memory) x) (T.state file s.below)

  pub floor_tells : Tells (StandsOn M Stands) (floor_meaning M) (floor_meaning N)
  floor_tells = record {
    base = T.base;
    note = T.note;
    number = λ s. ap suc (T.number s.below);
    faults = λ s. T.faults s.below;
    state = state_there;
    leaves = λ how file from to notes h. T.leaves how file (lower_of from) (lower_of to) notes h;
    leaves_both = λ how file from at to first second a b. T.leaves_both how file (lower_of from) (lower_of at) (lower_of to) first second a b;
    steps = steps_there;
  }

module _ {S : Type 0} (M : Meaning S) (R : S → Rooted S) (Stands : File → S → Type 0) (keeps : IsLower M) (stacks : IsTower M R Stands) where
  lasts_on : (file : File) (from to : Standing (Raised S)) (name : Name) (args : List Value) (e : Ending) → CallsFloor M file from name args e to →
      StandsOn M Stands file from.machine → StandsOn M Stands file to.machine
  lasts_on file from to name args e h stands =
      let k = block_kept M keeps file h.layer h.operation.implementation _ from to e h.run in
      record {
        there = subst (λ (n : ℕ). n < length file.layers) (sym k.goes_on.number) stands.there;
        below = run_lasts M R Stands stacks file _ (place_of M from.machine) _ (lower_of from) (lower_of to) h.layer.memory from.machine.memory
            to.machine.memory h.run.result h.run.run stands.below;
      }

  -- a layer on a tower is a tower
  pub floor_stacks : IsTower (floor_meaning M) (floor_rooted R) (StandsOn M Stands)
  floor_stacks = record {
    tells = λ start. floor_tells M (R start.below).meaning Stands keeps (stacks.tells start.below);
    stands = λ file s h. record { there = slice_get_within file.layers (place_of M s) h.layer h.there; below = stacks.stands file s.below h.below };
    lasts = lasts_on;
  }
