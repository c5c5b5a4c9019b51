-- A run on a machine is one on a machine that shows each of its bases by one of its own.
use Rattle.std.proofs.Common.{◌≡◌, ℕ, List, [], ◌∷◌, Option, Result, Ok, Err, inl, inr, refl, sym, ap, ◌∙◌, subst}
use Rattle.std.specs.Prelude.{◌⊎◌}
use Rattle.ygg_value.specs.declared.row.Value.{Value}
use Rattle.ygg_syntax.specs.declared.tree.File.{File}
use Rattle.ygg_run_commands.specs.ygg_meaning.Environments.{Name, Env}
use Rattle.ygg_run_commands.specs.ygg_meaning.Progress.{Answer}
use Rattle.ygg_run_commands.specs.ygg_meaning.Machine.{State, TickName, Machine}
use Rattle.ygg_run_commands.specs.ygg_meaning.Mirror.{SameOn, FormattedIf, Mirrors}
use Rattle.ygg_run_commands.specs.ygg_meaning.History.{Entry, Step, Steps}
use Rattle.ygg_run_commands.specs.ygg_meaning.Noted.{Note}
use Rattle.ygg_run_commands.specs.ygg_eval.Lower.{Cause, GivenUp}
use Rattle.ygg_run_commands.specs.ygg_machine.Told.{SameNotes}
use Rattle.ygg_run_commands.specs.ygg_script.declared.command.Command.{Command}
use Rattle.ygg_run_commands.specs.ygg_script.declared.command.Command.TheVariants.{Call, Tick, Lost, Fail, Keep}
use Rattle.ygg_run_commands.specs.ygg_run_play.Named.{operation_name, tick_name}
use Rattle.ygg_run_commands.specs.Ran.{AllRan}
use Rattle.ygg_run_commands.specs.Running.{Runs, LeftOf, StopsWaking, StopsBefore, IsRun}
use Rattle.ygg_run_commands.specs.declared.halting.RunHalted.{RunHalted}
use Rattle.ygg_run_commands.specs.declared.halting.RunHalted.TheVariants.{DeviceFailed, SinkFailed, Memory}

-- the one shows the other
abbrev pub Along : {S T : Type 0} → (S → T) → T → S → Type 0
Along look t s = t ≡ look s

module _ {S T : Type 0} (look : S → T) (M : Cause → Machine S Note) (N : Cause → Machine T Note)
    (U : (cause : Cause) → Mirrors (Along look) SameNotes (FormattedIf ⊥ (M cause)) (N cause)) (f : File) where
  -- the state that is shown
  abbrev pub at : State S → State T
  at s = record { memories = s.memories; base = look s.base }

  here : (s : State S) → SameOn (Along look) (at s) s
  here s = record { memories = refl; bases = refl }

  is_at : (t : State T) (s : State S) → SameOn (Along look) t s → t ≡ at s
  is_at t s r =
      ap (λ (ms : List Env). record { memories = ms; base = t.base }) r.memories
      ∙ ap (λ (b : T). record { memories = s.memories; base = b }) r.bases

  wakes : (cause : Cause) (g : S) (notes : List Note) (s : State S) → (M cause).Wakes g notes s → (N cause).Wakes (look g) notes (at s)
  wakes cause g notes s h =
      let (t, b, w, r, q) = (U cause).wakes (look g) g notes s refl h in
      subst (λ (x : List Note). (N cause).Wakes (look g) x (at s)) q (subst (λ (x : State T). (N cause).Wakes (look g) b x) (is_at t s r) w)

  wake_falls : (g g' : S) (notes : List Note) → (M GivenUp).WakeFalls g notes g' → (N GivenUp).WakeFalls (look g) notes (look g')
  wake_falls g g' notes h =
      let (t, b, w, r, q) = (U GivenUp).wake_falls (look g) g g' notes refl h in
      subst (λ (x : List Note). (N GivenUp).WakeFalls (look g) x (look g')) q (subst (λ (x : T). (N GivenUp).WakeFalls (look g) b x) r w)

  calls : (cause : Cause) (s s' : State S) (name : Name) (args : List Value) (notes : List Note) (answer : Answer) →
      (M cause).Calls s name args notes answer s' → (N cause).Calls (at s) name args notes answer (at s')
  calls cause s s' name args notes answer h =
      let (t, b, w, r, q) = (U cause).calls (at s) s s' name args notes answer (here s) h in
      subst (λ (x : List Note). (N cause).Calls (at s) name args x answer (at s')) q
      (subst (λ (x : State T). (N cause).Calls (at s) name args b answer x) (is_at t s' r) w)

  ticks : (cause : Cause) (s s' : State S) (name : TickName) (notes : List Note) → (M cause).Ticks s name notes s' → (N cause).Ticks (at s) name notes (at s')
  ticks cause s s' name notes h =
      let (t, b, w, r, q) = (U cause).ticks (at s) s s' name notes (here s) h in
      subst (λ (x : List Note). (N cause).Ticks (at s) name x (at s')) q (subst (λ (x : State T). (N cause).Ticks (at s) name b x) (is_at t s' r) w)

  falls : (s : State S) (name : Name) (args : List Value) (notes : List Note) (g : S) → (M GivenUp).Falls s name args notes g →
      (N GivenUp).Falls (at s) name args notes (look g)
  falls s name args notes g h =
      let (t, b, w, r, q) = (U GivenUp).falls (at s) s name args notes g (here s) h in
      subst (λ (x : List Note). (N GivenUp).Falls (at s) name args x (look g)) q (subst (λ (x : T). (N GivenUp).Falls (at s) name args b x) r w)

  tick_falls : (s : State S) (name : TickName) (notes : List Note) (g : S) → (M GivenUp).TickFalls s name notes g →
      (N GivenUp).TickFalls (at s) name notes (look g)
  tick_falls s name notes g h =
      let (t, b, w, r, q) = (U GivenUp).tick_falls (at s) s name notes g (here s) h in
      subst (λ (x : List Note). (N GivenUp).TickFalls (at s) name x (look g)) q (subst (λ (x : T). (N GivenUp).TickFalls (at s) name b x) r w)

  steps : (cause : Cause) (script : List Command) (es : List Entry) → AllRan f script es → (s s' : State S) → Steps (M cause) s es s' →
      Steps (N cause) (at s) es (at s')
  steps cause [] es none s s' h =
      subst (λ (l : List Entry). Steps (N cause) (at s) l (at s')) (sym none)
      (ap (λ (x : State S). at x) (subst (λ (l : List Entry). Steps (M cause) s l s') none h))
  steps cause (Call op args ∷ cs) es (e, rest, is, (answer, called), more) s s' h =
      let (next, step, later) = subst (λ (l : List Entry). Steps (M cause) s l s') is h in
      let (notes, one) = subst (λ (x : Entry). Step (M cause) x s next) called step in
      subst (λ (l : List Entry). Steps (N cause) (at s) l (at s')) (sym is) (
        at next,
        subst (λ (x : Entry). Step (N cause) x (at s) (at next)) (sym called) (notes, calls cause s next (operation_name f op) args notes answer one),
        steps cause cs rest more next s' later,
      )
  steps cause (Tick layer number ∷ cs) es (e, rest, is, ticked, more) s s' h =
      let (next, step, later) = subst (λ (l : List Entry). Steps (M cause) s l s') is h in
      let (notes, one) = subst (λ (x : Entry). Step (M cause) x s next) ticked step in
      subst (λ (l : List Entry). Steps (N cause) (at s) l (at s')) (sym is) (
        at next,
        subst (λ (x : Entry). Step (N cause) x (at s) (at next)) (sym ticked) (notes, ticks cause s next (tick_name f layer number) notes one),
        steps cause cs rest more next s' later,
      )
  steps cause (Lost ∷ cs) es (e, rest, is, ran, more) s s' h = absurd ran
  steps cause (Fail within call ∷ cs) es (e, rest, is, ran, more) s s' h = absurd ran
  steps cause (Keep picks ∷ cs) es (e, rest, is, ran, more) s s' h = absurd ran

  runs : (script : List Command) (from : S) (es : List Entry) (to : State S) → Runs M f script from es to → Runs N f script (look from) es (at to)
  runs script from es to r = record {
    woken = at r.woken;
    notes = r.notes;
    wakes = λ cause. wakes cause from r.notes r.woken (r.wakes cause);
    ran = r.ran;
    steps = λ cause. steps cause script es r.ran r.woken to (r.steps cause);
  }

  left_of : (c : Command) (s : State S) (left : S) → LeftOf M f c s left → LeftOf N f c (at s) (look left)
  left_of (Call op args) s left (notes, h) = (notes, falls s (operation_name f op) args notes left h)
  left_of (Tick layer number) s left (notes, h) = (notes, tick_falls s (tick_name f layer number) notes left h)
  left_of Lost s left h = absurd h
  left_of (Fail within call) s left h = absurd h
  left_of (Keep picks) s left h = absurd h

  stops_waking : (from left : S) → StopsWaking M f from left → StopsWaking N f (look from) (look left)
  stops_waking from left x = record { notes = x.notes; falls = wake_falls from left x.notes x.falls }

  stops_before : (script rest : List Command) (from : S) (es : List Entry) (left : S) → StopsBefore M f script rest from es left →
      StopsBefore N f script rest (look from) es (look left)
  stops_before script rest from es left x = record {
    done = x.done;
    is = x.is;
    at = at x.at;
    runs = runs x.done from es x.at x.runs;
    leaves = by_cases x.leaves;
  }
    where
      by_cases : (left ≡ x.at.base) ⊎ ((next : Command) × (later : List Command) × (rest ≡ next ∷ later) × LeftOf M f next x.at left) →
          (look left ≡ look x.at.base) ⊎ ((next : Command) × (later : List Command) × (rest ≡ next ∷ later) × LeftOf N f next (at x.at) (look left))
      by_cases (inl same) = inl (ap look same)
      by_cases (inr (next, later, is, h)) = inr (next, later, is, left_of next x.at left h)

  pub carried : (script : List Command) (from to : S) (before now : Option (List ℕ)) (DeviceRose SinkRose LaterDevice LaterSink : Type 0) →
      (DeviceRose → LaterDevice) → (SinkRose → LaterSink) → (result : Result (Unit {0}) RunHalted) →
      IsRun M f script from to before now DeviceRose SinkRose result → IsRun N f script (look from) (look to) before now LaterDevice LaterSink result
  carried script from to before now DeviceRose SinkRose LaterDevice LaterSink device sink (Ok done) (es, s, r, is, adds) =
      (es, at s, runs script from es s r, ap look is, adds)
  carried script from to before now DeviceRose SinkRose LaterDevice LaterSink device sink (Err DeviceFailed) (rose, inl (x, same)) =
      (device rose, inl (stops_waking from to x, same))
  carried script from to before now DeviceRose SinkRose LaterDevice LaterSink device sink (Err DeviceFailed) (rose, inr (rest, es, x, adds)) =
      (device rose, inr (rest, es, stops_before script rest from es to x, adds))
  carried script from to before now DeviceRose SinkRose LaterDevice LaterSink device sink (Err SinkFailed) (rose, rest, es, x, front, is, adds) =
      (sink rose, rest, es, stops_before script rest from es to x, front, is, adds)
  carried script from to before now DeviceRose SinkRose LaterDevice LaterSink device sink (Err Memory) (inl (x, same)) = inl (stops_waking from to x, same)
  carried script from to before now DeviceRose SinkRose LaterDevice LaterSink device sink (Err Memory) (inr (rest, es, x, front, is, adds)) =
      inr (rest, es, stops_before script rest from es to x, front, is, adds)
