-- How the layers of a file woke or did what a command says, by how the layers below ended.
use Rattle.std.proofs.Common.{◌≡◌, ◌≢◌, ℕ, List, length, Option, None, Result, Ok, Err, IsErrAnd, IsSomeAnd, refl, sym, ◌∙◌, subst}
use Rattle.ygg_value.specs.declared.row.Value.{Value}
use Rattle.ygg_syntax.specs.declared.tree.File.{File}
use Rattle.ygg_run.specs.ygg_disk.Ground.{Meaning}
use Rattle.ygg_run.specs.ygg_disk.declared.power.Fuse.{Fuse}
use Rattle.ygg_run.specs.ygg_disk.declared.power.Power.{Power}
use Rattle.ygg_run.specs.ygg_meaning.Environments.{Name}
use Rattle.ygg_run.specs.ygg_meaning.Progress.{Answer}
use Rattle.ygg_run.specs.ygg_meaning.Machine.{State, TickName}
use Rattle.ygg_run.specs.ygg_meaning.Mirror.{SameOn, FormattedIf, Mirrors}
use Rattle.ygg_run.specs.ygg_meaning.Noted.{Note}
use Rattle.ygg_run.specs.ygg_meaning.StepLaws.{Same}
use Rattle.ygg_run.specs.ygg_meaning.History.{Called, Ticked, Step}
use Rattle.ygg_run.specs.ygg_eval.Lower.{Cause, GivenUp, Ending, Whole, Down, Failed, Starved, AfterWhole}
use Rattle.ygg_run.specs.ygg_machine.Bottoms.{bottom_on, View, ViewRuns, ViewEnds, StillLooks, state_seen}
use Rattle.ygg_run.specs.ygg_machine.Commands.{Stopped}
use Rattle.ygg_run.specs.ygg_machine.Commands as command
use Rattle.ygg_run.specs.ygg_machine.Told.{SameNotes}
use Rattle.ygg_run.specs.ygg_script.declared.command.Command.TheVariants.{Call, Tick}
use Rattle.ygg_run.specs.ygg_run_play.Named.{operation_name, tick_name}
use Rattle.ygg_run_commands.specs.OnGround.{layers_on}
use Rattle.ygg_run_commands.specs.Running.{StopsWaking}
use Rattle.ygg_run_commands.specs.Doing.{given_of, AllRun, Woke, DidPart, DidSo, Did}
use Rattle.ygg_run_commands.specs.declared.halting.RunHalted.{RunHalted}
use Rattle.ygg_run_commands.specs.declared.halting.RunHalted.TheVariants.{DeviceFailed, Memory}
use Rattle.ygg_run_commands.proofs.Mirroring.{same_state, numbered_mirrors}

module _ {S : Type 0} (G : Meaning S) (f : File) (v v' : View S) (all : v.height ≡ length f.layers) (looks : StillLooks G f v v') (p p' : Power)
    (none : p.fuse ≡ None) where
  -- power doesn't fail
  pub never_down : (c : command.Command S Note) (e : Ending) → ViewEnds G f c e v p v' p' → e ≢ Down
  never_down c e h is =
      let fell = (subst (λ (x : Ending). ViewEnds G f c x v p v' p') is h).so in
      subst (λ (o : Option Fuse). IsSomeAnd o (λ g. g.call ≡ p'.passed)) (fell.passes.fuse ∙ none) fell.named

  mirrors : (cause : Cause) → Mirrors Same SameNotes (FormattedIf ⊥ (bottom_on G cause f v.base v.height)) (layers_on G f cause)
  mirrors cause =
      subst (λ (n : ℕ). Mirrors Same SameNotes (FormattedIf ⊥ (bottom_on G cause f v.base n)) (layers_on G f cause)) (sym all)
      (numbered_mirrors G f v.base cause)

  itself : (s : State S) → SameOn Same s s
  itself s = record { memories = refl; bases = refl }

  still : v'.height ≡ length f.layers
  still = looks.height ∙ all

  run_still : ViewRuns G f v' → AllRun G f v'
  run_still runs = record { runs = runs; all = still }

  -- the waking
  wake_steps : (notes : List Note) → (cause : Cause) → (bottom_on G cause f v.base v.height).Wakes v.base notes (state_seen f v') →
      (layers_on G f cause).Wakes v.base notes (state_seen f v')
  wake_steps notes cause h =
      let (t, b, wakes, same, are) = (mirrors cause).wakes v.base v.base notes (state_seen f v') refl h in
      subst (λ (x : State S). (layers_on G f cause).Wakes v.base notes x) (same_state t (state_seen f v') same)
      (subst (λ (x : List Note). (layers_on G f cause).Wakes v.base x t) are wakes)

  wake_stops : (notes : List Note) → (bottom_on G GivenUp f v.base v.height).WakeFalls v.base notes v'.base → StopsWaking (layers_on G f) f v.base v'.base
  wake_stops notes h =
      let (g, b, falls, same, are) = (mirrors GivenUp).wake_falls v.base v.base v'.base notes refl h in
      record { notes = b; falls = subst (λ (x : S). (layers_on G f GivenUp).WakeFalls v.base b x) same falls }

  woke_so : (e : Ending) (a : Answer) → given_of e ≡ Ok a → ViewEnds G f command.waking e v p v' p' → AfterWhole e (ViewRuns G f v') →
      Woke G f v v' (Ok tt)
  woke_so (Whole answer) a is h runs =
      record { so = (run_still runs, h.so.notes, λ cause. wake_steps h.so.notes cause (h.so.does cause).1); later = h.later }
  woke_so Down a is h runs = absurd (never_down command.waking Down h refl)
  woke_so Failed a is h runs = absurd (cc)
  woke_so Starved a is h runs = absurd (cc)

  pub woke : (e : Ending) (a : Answer) → Ok a ≡ given_of e → ViewEnds G f command.waking e v p v' p' → AfterWhole e (ViewRuns G f v') →
      Woke G f v v' (Ok tt)
  woke e a is h runs = woke_so e a (sym is) h runs

  unwoken_so : (e : Ending) (x : RunHalted) → given_of e ≡ Err x → ViewEnds G f command.waking e v p v' p' → Woke G f v v' (Err x)
  unwoken_so (Whole answer) x is h = absurd (cc)
  unwoken_so Down x is h = absurd (never_down command.waking Down h refl)
  unwoken_so Failed x is h =
      let same : DeviceFailed ≡ x = cc in
      subst (λ (y : RunHalted). Woke G f v v' (Err y)) same
      (record { so = (h.so.rose, wake_stops h.so.stopped.notes h.so.stopped.leaves); later = h.later })
  unwoken_so Starved x is h =
      let same : Memory ≡ x = cc in
      subst (λ (y : RunHalted). Woke G f v v' (Err y)) same (record { so = wake_stops h.so.notes h.so.leaves; later = h.later })

  pub unwoken : (e : Ending) (x : RunHalted) (result : Result (Unit {0}) RunHalted) → Err x ≡ given_of e → IsErrAnd result (λ y. y ≡ x) →
      ViewEnds G f command.waking e v p v' p' → Woke G f v v' result
  unwoken e x (Ok done) is same h = absurd same
  unwoken e x (Err y) is same h = subst (λ (z : RunHalted). Woke G f v v' (Err z)) (sym same) (unwoken_so e x (sym is) h)

  -- an operation
  module _ (op : ℕ) (args : List Value) where
    abbrev name : Name
    name = operation_name f op

    call_steps : (notes : List Note) (answer : Answer) (cause : Cause) →
        (bottom_on G cause f v.base v.height).Calls (state_seen f v) name args notes answer (state_seen f v') →
        Step (layers_on G f cause) (Called name args answer) (state_seen f v) (state_seen f v')
    call_steps notes answer cause h =
        let (t, b, step, same, are) =
        (mirrors cause).calls (state_seen f v) (state_seen f v) (state_seen f v') name args notes answer (itself (state_seen f v)) h in
        (b, subst (λ (x : State S). (layers_on G f cause).Calls (state_seen f v) name args b answer x) (same_state t (state_seen f v') same) step)

    call_stops : (notes : List Note) → (bottom_on G GivenUp f v.base v.height).Falls (state_seen f v) name args notes v'.base →
        DidPart G f v v' (Call op args)
    call_stops notes h =
        let (g, b, falls, same, are) = (mirrors GivenUp).falls (state_seen f v) (state_seen f v) name args notes v'.base (itself (state_seen f v)) h in
        (b, subst (λ (x : S). (layers_on G f GivenUp).Falls (state_seen f v) name args b x) same falls)

    called_so : (e : Ending) → ViewEnds G f (command.calling name args) e v p v' p' → AfterWhole e (ViewRuns G f v') →
        DidSo G f v v' (Call op args) (given_of e)
    called_so (Whole answer) h runs = (
      Called name args answer,
      record { runs = run_still runs; ran = (answer, refl); step = λ cause. call_steps h.so.notes answer cause (h.so.does cause) },
      refl,
    )
    called_so Down h runs = absurd (never_down (command.calling name args) Down h refl)
    called_so Failed h runs = (h.so.rose, call_stops h.so.stopped.notes h.so.stopped.leaves)
    called_so Starved h runs = call_stops h.so.notes h.so.leaves

    pub called : (e : Ending) (result : Result Answer RunHalted) → result ≡ given_of e → ViewEnds G f (command.calling name args) e v p v' p' →
        AfterWhole e (ViewRuns G f v') → Did G f v v' (Call op args) result
    called e result is h runs =
        record { so = subst (λ (r : Result Answer RunHalted). DidSo G f v v' (Call op args) r) (sym is) (called_so e h runs); later = h.later }

  -- a background step
  module _ (layer number : ℕ) where
    abbrev step_name : TickName
    step_name = tick_name f layer number

    tick_steps : (notes : List Note) (cause : Cause) → (bottom_on G cause f v.base v.height).Ticks (state_seen f v) step_name notes (state_seen f v') →
        Step (layers_on G f cause) (Ticked step_name) (state_seen f v) (state_seen f v')
    tick_steps notes cause h =
        let (t, b, step, same, are) =
        (mirrors cause).ticks (state_seen f v) (state_seen f v) (state_seen f v') step_name notes (itself (state_seen f v)) h in
        (b, subst (λ (x : State S). (layers_on G f cause).Ticks (state_seen f v) step_name b x) (same_state t (state_seen f v') same) step)

    tick_stops : (notes : List Note) → (bottom_on G GivenUp f v.base v.height).TickFalls (state_seen f v) step_name notes v'.base →
        DidPart G f v v' (Tick layer number)
    tick_stops notes h =
        let (g, b, falls, same, are) = (mirrors GivenUp).tick_falls (state_seen f v) (state_seen f v) step_name notes v'.base (itself (state_seen f v)) h in
        (b, subst (λ (x : S). (layers_on G f GivenUp).TickFalls (state_seen f v) step_name b x) same falls)

    ticked_so : (e : Ending) → ViewEnds G f (command.ticking step_name) e v p v' p' → AfterWhole e (ViewRuns G f v') →
        DidSo G f v v' (Tick layer number) (given_of e)
    ticked_so (Whole answer) h runs = (
      Ticked step_name,
      record { runs = run_still runs; ran = refl; step = λ cause. tick_steps h.so.notes cause (h.so.does cause).1 },
      sym (h.so.does GivenUp).0,
    )
    ticked_so Down h runs = absurd (never_down (command.ticking step_name) Down h refl)
    ticked_so Failed h runs = (h.so.rose, tick_stops h.so.stopped.notes h.so.stopped.leaves)
    ticked_so Starved h runs = tick_stops h.so.notes h.so.leaves

    pub ticked : (e : Ending) (result : Result Answer RunHalted) → result ≡ given_of e → ViewEnds G f (command.ticking step_name) e v p v' p' →
        AfterWhole e (ViewRuns G f v') → Did G f v v' (Tick layer number) result
    ticked e result is h runs =
        record { so = subst (λ (r : Result Answer RunHalted). DidSo G f v v' (Tick layer number) r) (sym is) (ticked_so e h runs); later = h.later }
