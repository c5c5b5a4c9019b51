-- Runs of a layer's blocks on what it is specified over, as runs of the layer on that machine.
use Rattle.std.proofs.Common.{◌≡◌, ℕ, ◌≤◌, ◌<◌, Bool, true, false, List, [], take, length, Some, MatchBool, refl, sym, ap, ◌∙◌, subst, arith, ◌⊎◌, inl, inr, Ok}
use Rattle.ygg_value.specs.declared.row.Value.{Value}
use Rattle.ygg_syntax.specs.declared.grammar.BlockKind.{BlockKind}
use Rattle.ygg_syntax.specs.declared.grammar.BlockKind.TheVariants as kind
use Rattle.ygg_syntax.specs.declared.tree.Block.{Block}
use Rattle.ygg_syntax.specs.declared.tree.Declared.{Declared}
use Rattle.ygg_syntax.specs.declared.tree.Layer.{Layer}
use Rattle.ygg_syntax.specs.declared.tree.File.{File}
use Rattle.ygg_sched.specs.ygg_disk.declared.power.Power.{Power}
use Rattle.ygg_sched.specs.ygg_meaning.Environments.{Env, bind}
use Rattle.ygg_sched.specs.ygg_meaning.Shapes.{values_fit}
use Rattle.ygg_sched.specs.ygg_meaning.Progress.{Answer}
use Rattle.ygg_sched.specs.ygg_meaning.Machine.{Picks, based, on}
use Rattle.ygg_sched.specs.ygg_meaning.Layer.{dialogue_of}
use Rattle.ygg_sched.specs.ygg_meaning.Obligations.{IsRead}
use Rattle.ygg_sched.specs.ygg_meaning.Refines.{Below, OnDisk, OnSpec, machine_below}
use Rattle.ygg_sched.specs.ygg_meaning.Runs.{Dialogue, Reaches, WholeRun, FallenRun, notes_of}
use Rattle.ygg_eval.specs.ygg_meaning_laws.Acts.{noted_picks, IsActed}
use Rattle.ygg_eval.proofs.of_ygg_meaning_laws.OneEnd.{disk_one, spec_one}
use Rattle.ygg_eval.specs.Files.{below_acts}
use Rattle.ygg_eval.specs.declared.body.Body.{Body}
use Rattle.ygg_eval.specs.declared.body.Part.{Part}
use Rattle.ygg_eval.specs.declared.body.Part.TheVariants as part
use Rattle.ygg_eval.specs.declared.body.Stop.{Stop}
use Rattle.ygg_eval.specs.Bodies.{kind_of, variables_in, arguments_in, dialogue_in}
use Rattle.ygg_eval.specs.Layers.{variables_at, below_at}
use Rattle.ygg_eval.specs.Lower.{Standing}
use Rattle.ygg_eval.specs.Conversations.{calls_in}
use Rattle.ygg_eval.specs.Runs.{Finished, FinishedEarly, StoppedAt, RunEnds}
use Rattle.ygg_eval.specs.declared.run.Ended.{Ended}
use Rattle.ygg_eval.specs.declared.run.Ended.TheVariants as ended
use Rattle.ygg_eval.specs.Kept.{Kept, spec_meaning}
use Rattle.ygg_eval.proofs.Values.{bind_count}
use Rattle.ygg_replay.specs.declared.site.ReplaySite.{ReplaySite}
use Rattle.ygg_replay.specs.Sites.{closed_in, machine_in, low_at, state_at}
use Rattle.ygg_replay.specs.Runs.{fresh, RanBy, CutBy}
use Rattle.ygg_replay.proofs.Picks.{reads}
use Rattle.ygg_replay.proofs.Stops.{beyond, never_cut}
use Rattle.ygg_replay.proofs.Turns.{came_turns, stopped}

-- the blocks of an implementation change the memory
pub impl_variables : (l : Layer) (p : Part) → kind_of p ≡ kind.Impl → variables_in l p ≡ l.memory
impl_variables l part.Start e = absurd (cc)
impl_variables l part.Spec e = absurd (cc)
impl_variables l part.OnCrash e = absurd (cc)
impl_variables l part.Crash e = absurd (cc)
impl_variables l part.Format e = refl
impl_variables l part.Impl e = refl
impl_variables l part.Tick e = refl
impl_variables l part.Recover e = refl

-- what a layer is specified over does what its function of picks says
pub below_acted : (below : Below) → IsActed false noted_picks (machine_below below) (below_acts false below)
below_acted (OnDisk d) = (disk_one d).acted
below_acted (OnSpec L) = (spec_one L).acted

short_beyond : (within : Bool) (calls event : ℕ) → MatchBool within (calls ≤ event) (calls < event) → beyond within calls ≤ event
short_beyond true calls event h = h
short_beyond false calls event h = omega (arith, h)

module _ (s : ReplaySite) (p : Part) (number : ℕ) (b : Block) (args values : List Value) (k : Kept) (power : Power) (picks : Picks)
    (implements : kind_of p ≡ kind.Impl) (numbered : k.number ≡ s.place)
    (fit : values_fit (variables_in s.layer.now p) values ≡ true) (fresh_is : power ≡ fresh picks) where
  abbrev file : File
  file = s.typed.now.file

  abbrev layer : Layer
  layer = s.layer.now

  abbrev body : Body
  body = record { layer = s.place; part = p; number = number }

  abbrev seen : Env
  seen = bind (arguments_in layer p number) args

  abbrev from : Standing Kept
  from = record { machine = k; power = power }

  abbrev memory : Env
  memory = bind layer.memory values

  variables : variables_in layer p ≡ layer.memory
  variables = impl_variables layer p implements

  fit_memory : values_fit layer.memory values ≡ true
  fit_memory = ap (λ ds. values_fit ds values) (sym variables) ∙ fit

  -- the base with the number that it has
  low_is : (x : Kept) → x.number ≡ s.place → bind (variables_at file x.number) x.values ≡ low_at s x.values
  low_is x h = ap (λ n. bind (variables_at file n) x.values) h

  -- what is said of a run, of the memory
  here : (P : BlockKind → Dialogue → List Declared → Type 0) →
      P (kind_of p) (dialogue_in file body layer b args values) (variables_in layer p) → P kind.Impl (dialogue_of (closed_in s) b memory seen) layer.memory
  here P h =
      subst (λ (ds : List Declared). P kind.Impl (dialogue_of (closed_in s) b (bind ds values) seen) ds) variables
      (subst (λ (x : BlockKind). P x (dialogue_in file body layer b args values) (variables_in layer p)) implements h)

  -- the calls that were made, as a run of the block on the machine below
  record Wholly (env : Env) (answer : Answer) (to : Standing Kept) (count : ℕ) : Type 0 where
    pub notes : Picks
    pub run : WholeRun (machine_in s) (dialogue_of (closed_in s) b memory seen) (based (low_at s k.values)) notes env answer
        (based (low_at s to.machine.values))
    pub read : IsRead picks notes
    pub counted : length run.calls ≡ count

  wholly : (values' : List Value) (answer : Answer) (to : Standing Kept) →
      (f : Finished spec_meaning file kind.Impl s.place (dialogue_of (closed_in s) b memory seen) from layer.memory values values' answer to) →
      Wholly f.env answer to (calls_in f.came.exchanges)
  wholly values' answer to f =
      let t = came_turns file s.place (dialogue_of (closed_in s) b memory seen) from to numbered f.came in
      record {
        notes = notes_of t.calls;
        run = record {
          calls = t.calls;
          path = subst (λ (e : Env). Reaches (machine_in s) (dialogue_of (closed_in s) b memory seen) [] (based (low_at s k.values)) t.calls (based e))
              (low_is to.machine t.number_is)
              (subst (λ (e : Env). Reaches (machine_in s) (dialogue_of (closed_in s) b memory seen) [] (based e) t.calls
              (based (bind (variables_at file to.machine.number) to.machine.values))) (low_is k numbered) t.path);
          ends = ap (dialogue_of (closed_in s) b memory seen) t.answers_are ∙ f.ends;
          takes = refl;
        };
        read = reads picks (notes_of t.calls) power to.power fresh_is t.takes;
        counted = t.counted;
      }

  -- a block that came to its end ran wholly
  pub ran : (values' : List Value) (answer : Answer) (to : Standing Kept) →
      Finished spec_meaning file (kind_of p) s.place (dialogue_in file body layer b args values) from (variables_in layer p) values values' answer to →
      RanBy s b seen picks (state_at s values k.values) answer (state_at s values' to.machine.values)
  ran values' answer to f =
      let g = here (λ x block ds. Finished spec_meaning file x s.place block from ds values values' answer to) f in
      let w = wholly values' answer to g in
      record {
        taken = w.notes;
        run = record {
          memory = memory;
          lower = based (low_at s k.values);
          from_is = refl;
          env' = g.env;
          lower' = based (low_at s to.machine.values);
          run = w.run;
          to_is = ap (λ m. on m (based (low_at s to.machine.values)))
              (g.leaves ∙ ap (λ n. take n g.env) (sym (bind_count layer.memory values fit_memory)));
        };
        read = w.read;
      }

  -- a run in which power failed, from this base to that
  record Fallen (stop : Stop) (before after : Env) : Type 0 where
    pub taken : Picks
    pub run : FallenRun (machine_in s) (dialogue_of (closed_in s) b memory seen) (based before) taken after
    pub within : stop.within ≡ run.within
    pub event : stop.event ≡ length run.calls
    pub read : IsRead picks taken

  -- a block that was stopped was cut there
  pub cut : (stop : Stop) (to : Standing Kept) → to.machine.number ≡ s.place →
      StoppedAt spec_meaning file (kind_of p) s.place (dialogue_in file body layer b args values) from (Some stop) to →
      CutBy s b seen (record { within = stop.within; event = stop.event }) picks (state_at s values k.values) (low_at s to.machine.values)
  cut stop to numbered' e =
      let h = stopped file s.place (dialogue_of (closed_in s) b memory seen) stop from to numbered
      (here (λ x block ds. StoppedAt spec_meaning file x s.place block from (Some stop) to) e) in
      let f : Fallen stop (bind (variables_at file k.number) k.values) (bind (variables_at file to.machine.number) to.machine.values) =
      record { taken = h.taken; run = h.run; within = h.within; event = h.event; read = reads picks h.taken power to.power fresh_is h.takes } in
      let g = subst (Fallen stop (low_at s k.values)) (low_is to.machine numbered')
      (subst (λ (e : Env). Fallen stop e (bind (variables_at file to.machine.number) to.machine.values)) (low_is k numbered) f) in
      record {
        taken = g.taken;
        run = record { memory = memory; lower = based (low_at s k.values); from_is = refl; run = g.run };
        within = g.within;
        event = g.event;
        read = g.read;
      }

  -- one that came to its end before the stop is not
  pub spared : (stop : Stop) (values' : List Value) (to : Standing Kept) →
      FinishedEarly spec_meaning file (kind_of p) s.place (dialogue_in file body layer b args values) from (variables_in layer p) values values'
      (Some stop) to →
      (fallen : Env) → CutBy s b seen (record { within = stop.within; event = stop.event }) picks (state_at s values k.values) fallen → ⊥
  spared stop values' to e fallen c =
      let g = here (λ x block ds. FinishedEarly spec_meaning file x s.place block from ds values values' (Some stop) to) e in
      let w = wholly values' g.answer to g.done in
      let later = short_beyond stop.within (calls_in g.done.came.exchanges) stop.event g.early in
      never_cut (below_acts false (below_at file s.place)) (machine_in s) (below_acted (below_at file s.place)) (closed_in s) b seen memory
      (based (low_at s k.values)) picks w.notes g.done.env g.answer (based (low_at s to.machine.values)) w.run w.read
      (record { within = stop.within; event = stop.event }) (subst (λ (n : ℕ). beyond stop.within n ≤ stop.event) (sym w.counted) later)
      c.taken fallen c.run c.within c.event c.read

-- a run with a stop has reached it, or come to its end before
abbrev pub IsStopOrShort : Ended → Type 0
IsStopOrShort (ended.Whole answer) = ⊥
IsStopOrShort ended.Stopped = Unit {0}
IsStopOrShort ended.Short = Unit {0}
IsStopOrShort ended.Down = ⊥
IsStopOrShort ended.Failed = ⊥

pub stop_or_short : (file : File) (x : BlockKind) (number : ℕ) (block : Dialogue) (from : Standing Kept) (ds : List Declared) (values values' : List Value)
    (stop : Stop) (e : Ended) (to : Standing Kept) → RunEnds spec_meaning file x number block from ds values (Some stop) (Ok e) values' to → IsStopOrShort e
stop_or_short file x number block from ds values values' stop (ended.Whole answer) to (none, h) = absurd (cc)
stop_or_short file x number block from ds values values' stop ended.Stopped to h = tt
stop_or_short file x number block from ds values values' stop ended.Short to h = tt
stop_or_short file x number block from ds values values' stop ended.Down to h = h.step
stop_or_short file x number block from ds values values' stop ended.Failed to h = h.step

pub nothing_else : (e : Ended) → IsStopOrShort e → ((answer : Answer) × (e ≡ ended.Whole answer)) ⊎ ((e ≡ ended.Down) ⊎ (e ≡ ended.Failed)) → ⊥
nothing_else e h (inl (answer, is)) = subst IsStopOrShort is h
nothing_else e h (inr (inl is)) = subst IsStopOrShort is h
nothing_else e h (inr (inr is)) = subst IsStopOrShort is h
