-- What each call on a ground keeps, a run on it keeps.
use Rattle.std.proofs.Common.{◌≡◌, ℕ, List, [], ◌∷◌, Option, Result, Ok, Err, inl, inr, subst, sym}
use Rattle.std.specs.Prelude.{◌⊎◌}
use Rattle.ygg_syntax.specs.declared.tree.File.{File}
use Rattle.ygg_run_commands.specs.ygg_disk.Ground.{Meaning}
use Rattle.ygg_run_commands.specs.ygg_meaning.Machine.{State}
use Rattle.ygg_run_commands.specs.ygg_meaning.DiskMachine.{machine_on}
use Rattle.ygg_run_commands.specs.ygg_meaning.Stack.{layers_of}
use Rattle.ygg_run_commands.specs.ygg_meaning.History.{Entry, Step, Steps}
use Rattle.ygg_run_commands.specs.ygg_eval.Lower.{Cause, PowerLoss, GivenUp}
use Rattle.ygg_run_commands.specs.ygg_machine.GroundSteps.{ground_machine, ground_calls}
use Rattle.ygg_run_image.specs.Kept.{Keeps}
use Rattle.ygg_run_image.proofs.StackKeeping.{stacked_keeps}
use Rattle.ygg_run_commands.specs.ygg_script.declared.command.Command.{Command}
use Rattle.ygg_run_commands.specs.ygg_script.declared.command.Command.TheVariants.{Call, Tick, Lost, Fail, Keep}
use Rattle.ygg_run_commands.specs.ygg_run_play.Named.{operation_name, tick_name}
use Rattle.ygg_run_commands.specs.Ran.{AllRan}
use Rattle.ygg_run_commands.specs.OnGround.{layers_on}
use Rattle.ygg_run_commands.specs.Running.{Runs, LeftOf, StopsWaking, StopsBefore, IsRun}
use Rattle.ygg_run_commands.specs.declared.halting.RunHalted.{RunHalted}
use Rattle.ygg_run_commands.specs.declared.halting.RunHalted.TheVariants.{DeviceFailed, SinkFailed, Memory}

module _ {S : Type 0} (G : Meaning S) (I : S → Type 0) (start : S) (k : (cause : Cause) → Keeps I (ground_machine G cause start)) where
  -- from whatever state
  anywhere : (cause : Cause) → Keeps I (machine_on (ground_calls G cause))
  anywhere PowerLoss = record {
    starts = λ s notes (b, none, is, never). absurd never;
    calls = (k PowerLoss).calls;
    falls = (k PowerLoss).falls;
    ticks = (k PowerLoss).ticks;
    tick_falls = (k PowerLoss).tick_falls;
    loses = (k PowerLoss).loses;
    wakes = (k PowerLoss).wakes;
    wake_falls = (k PowerLoss).wake_falls;
  }
  anywhere GivenUp = record {
    starts = λ s notes (b, none, is, never). absurd never;
    calls = (k GivenUp).calls;
    falls = (k GivenUp).falls;
    ticks = (k GivenUp).ticks;
    tick_falls = (k GivenUp).tick_falls;
    loses = (k GivenUp).loses;
    wakes = (k GivenUp).wakes;
    wake_falls = (k GivenUp).wake_falls;
  }

  -- the layers keep it

  layers_keep : (f : File) (cause : Cause) → Keeps I (layers_on G f cause)
  layers_keep f cause = stacked_keeps I (machine_on (ground_calls G cause)) (anywhere cause) (layers_of f)

  module _ (f : File) where
    steps_keep : (script : List Command) (es : List Entry) → AllRan f script es → (s s' : State S) → I s.base → Steps (layers_on G f GivenUp) s es s' →
        I s'.base
    steps_keep [] es none s s' i h =
        subst (λ (x : State S). I x.base) (subst (λ (l : List Entry). Steps (layers_on G f GivenUp) s l s') none h) i
    steps_keep (Call op args ∷ cs) es (e, rest, is, (answer, called), more) s s' i h =
        let (next, step, later) = subst (λ (l : List Entry). Steps (layers_on G f GivenUp) s l s') is h in
        let (notes, one) = subst (λ (x : Entry). Step (layers_on G f GivenUp) x s next) called step in
        steps_keep cs rest more next s' ((layers_keep f GivenUp).calls s (operation_name f op) args notes answer next i one) later
    steps_keep (Tick layer number ∷ cs) es (e, rest, is, ticked, more) s s' i h =
        let (next, step, later) = subst (λ (l : List Entry). Steps (layers_on G f GivenUp) s l s') is h in
        let (notes, one) = subst (λ (x : Entry). Step (layers_on G f GivenUp) x s next) ticked step in
        steps_keep cs rest more next s' ((layers_keep f GivenUp).ticks s (tick_name f layer number) notes next i one) later
    steps_keep (Lost ∷ cs) es (e, rest, is, ran, more) s s' i h = absurd ran
    steps_keep (Fail within call ∷ cs) es (e, rest, is, ran, more) s s' i h = absurd ran
    steps_keep (Keep picks ∷ cs) es (e, rest, is, ran, more) s s' i h = absurd ran

    runs_keep : (script : List Command) (from : S) (es : List Entry) (to : State S) → I from → Runs (layers_on G f) f script from es to → I to.base
    runs_keep script from es to i r =
        steps_keep script es r.ran r.woken to ((layers_keep f GivenUp).wakes from r.notes r.woken i (r.wakes GivenUp)) (r.steps GivenUp)

    left_keeps : (c : Command) (s : State S) (left : S) → I s.base → LeftOf (layers_on G f) f c s left → I left
    left_keeps (Call op args) s left i (notes, h) = (layers_keep f GivenUp).falls s (operation_name f op) args notes left i h
    left_keeps (Tick layer number) s left i (notes, h) = (layers_keep f GivenUp).tick_falls s (tick_name f layer number) notes left i h
    left_keeps Lost s left i h = absurd h
    left_keeps (Fail within call) s left i h = absurd h
    left_keeps (Keep picks) s left i h = absurd h

    waking_keeps : (from left : S) → I from → StopsWaking (layers_on G f) f from left → I left
    waking_keeps from left i x = (layers_keep f GivenUp).wake_falls from x.notes left i x.falls

    stopped_keeps : (script rest : List Command) (from : S) (es : List Entry) (left : S) → I from →
        StopsBefore (layers_on G f) f script rest from es left → I left
    stopped_keeps script rest from es left i x = by_cases x.leaves
      where
        at : I x.at.base
        at = runs_keep x.done from es x.at i x.runs

        by_cases : (left ≡ x.at.base) ⊎ ((next : Command) × (later : List Command) × (rest ≡ next ∷ later) × LeftOf (layers_on G f) f next x.at left) →
            I left
        by_cases (inl same) = subst (λ (b : S). I b) (sym same) at
        by_cases (inr (next, later, is, h)) = left_keeps next x.at left at h

    pub run_keeps : (script : List Command) (from to : S) (before now : Option (List ℕ)) (DeviceRose SinkRose : Type 0) →
        (result : Result (Unit {0}) RunHalted) →
        I from → IsRun (layers_on G f) f script from to before now DeviceRose SinkRose result → I to
    run_keeps script from to before now DeviceRose SinkRose (Ok done) i (es, s, r, is, adds) =
        subst (λ (b : S). I b) (sym is) (runs_keep script from es s i r)
    run_keeps script from to before now DeviceRose SinkRose (Err DeviceFailed) i (rose, inl (x, same)) = waking_keeps from to i x
    run_keeps script from to before now DeviceRose SinkRose (Err DeviceFailed) i (rose, inr (rest, es, x, adds)) = stopped_keeps script rest from es to i x
    run_keeps script from to before now DeviceRose SinkRose (Err SinkFailed) i (rose, rest, es, x, front, is, adds) =
        stopped_keeps script rest from es to i x
    run_keeps script from to before now DeviceRose SinkRose (Err Memory) i (inl (x, same)) = waking_keeps from to i x
    run_keeps script from to before now DeviceRose SinkRose (Err Memory) i (inr (rest, es, x, front, is, adds)) = stopped_keeps script rest from es to i x
