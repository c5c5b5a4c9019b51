-- A run extends whatever could have left the rows that it found.
use Rattle.std.proofs.Common.{List, [], ◌∷◌, ◌++◌, refl, sym, subst}
use Rattle.ygg_syntax.specs.declared.tree.File.{File}
use Rattle.ygg_run.specs.ygg_disk.Ground.{Meaning}
use Rattle.ygg_run.specs.ygg_disk.Kinds.{model_of}
use Rattle.ygg_run.specs.ygg_meaning.Machine.{State, Machine}
use Rattle.ygg_run.specs.ygg_meaning.DiskMachine.{tables_in}
use Rattle.ygg_run.specs.ygg_meaning.Stack.{BottomOf, layers_of}
use Rattle.ygg_run.specs.ygg_meaning.Mirror.{SameOn, FormattedIf, Mirrors}
use Rattle.ygg_run.specs.ygg_meaning.History.{Entry, Step, Steps}
use Rattle.ygg_run.specs.ygg_meaning.StepLaws.{Same, LeftGoesOn}
use Rattle.ygg_run.specs.ygg_meaning.Grounds.{OnGround, TellsBase, TellsZeros, Tells, ArePicks}
use Rattle.ygg_run.proofs.of_ygg_meaning.Stores.{told_steps}
use Rattle.ygg_run.specs.ygg_eval.Lower.{PowerLoss}
use Rattle.ygg_run.specs.ygg_machine.Told.{SameNotes}
use Rattle.ygg_run.specs.ygg_script.declared.command.Command.{Command}
use Rattle.ygg_run.specs.ygg_script.declared.command.Command.TheVariants.{Call, Tick, Lost, Fail, Keep}
use Rattle.ygg_run.specs.ygg_run_play.Named.{operation_name, tick_name}
use Rattle.ygg_run.specs.ygg_meaning_laws.ProgressLaws.{TypedHistories}
use Rattle.ygg_run_commands.specs.Ran.{AllRan}
use Rattle.ygg_run_commands.specs.OnGround.{layers_on}
use Rattle.ygg_run_commands.specs.Extending.{RunsExtend}
use Rattle.ygg_run_commands.proofs.Mirroring.{same_state, ground_mirrors}

-- the steps of commands are those of a machine that mirrors theirs
module _ {B X C Y : Type 0} (R : C → B → Type 0) (Q : List X → List Y → Type 0) (P : Type 0) (M : Machine B X) (N : Machine C Y)
    (U : Mirrors R Q (FormattedIf P M) N) (f : File) where
  abbrev Mirrored : List Entry → State C → State B → Type 0
  Mirrored es t s' = (t' : State C) × Steps N t es t' × SameOn R t' s'

  steps_mirrored : (script : List Command) (es : List Entry) → AllRan f script es → (t : State C) (s s' : State B) → SameOn R t s → Steps M s es s' →
      Mirrored es t s'
  steps_mirrored [] es none t s s' r h =
      subst (λ (l : List Entry). Mirrored l t s') (sym none)
      (t, refl, subst (λ (x : State B). SameOn R t x) (subst (λ (l : List Entry). Steps M s l s') none h) r)
  steps_mirrored (Call op args ∷ cs) es (e, rest, is, (answer, called), more) t s s' r h =
      let (next, step, steps) = subst (λ (l : List Entry). Steps M s l s') is h in
      let (notes, calls) = subst (λ (x : Entry). Step M x s next) called step in
      let (t1, b, calls', r1, q) = U.calls t s next (operation_name f op) args notes answer r calls in
      let (t2, steps', r2) = steps_mirrored cs rest more t1 next s' r1 steps in
      subst (λ (l : List Entry). Mirrored l t s') (sym is) (t2, (t1, subst (λ (x : Entry). Step N x t t1) (sym called) (b, calls'), steps'), r2)
  steps_mirrored (Tick layer number ∷ cs) es (e, rest, is, ticked, more) t s s' r h =
      let (next, step, steps) = subst (λ (l : List Entry). Steps M s l s') is h in
      let (notes, ticks) = subst (λ (x : Entry). Step M x s next) ticked step in
      let (t1, b, ticks', r1, q) = U.ticks t s next (tick_name f layer number) notes r ticks in
      let (t2, steps', r2) = steps_mirrored cs rest more t1 next s' r1 steps in
      subst (λ (l : List Entry). Mirrored l t s') (sym is) (t2, (t1, subst (λ (x : Entry). Step N x t t1) (sym ticked) (b, ticks'), steps'), r2)
  steps_mirrored (Lost ∷ cs) es (e, rest, is, ran, more) t s s' r h = absurd ran
  steps_mirrored (Fail within call ∷ cs) es (e, rest, is, ran, more) t s s' r h = absurd ran
  steps_mirrored (Keep picks ∷ cs) es (e, rest, is, ran, more) t s s' r h = absurd ran

pub runs_extend : {S : Type 0} (G : Meaning S) → LeftGoesOn → TypedHistories → RunsExtend G
runs_extend {S} G goes_on allowed f derived typed rows left x script from es to told runs =
    let first = (model_of f.disk.kind).start rows in
    let base = tables_in f.disk.kind first in
    let near = ground_mirrors G f from in
    let far = told_steps G f from in
    let (t1, b1, wakes1, same1, q1) = near.wakes from from runs.notes runs.woken refl (runs.wakes PowerLoss) in
    let (t2, picks, wakes2, tells2, q2) = far.wakes base from b1 t1 (first, told, refl) wakes1 in
    let (u1, steps1, same) =
    steps_mirrored Same SameNotes ⊥ (layers_on G f PowerLoss) (OnGround G (layers_of f) from) near f script es runs.ran t1 runs.woken to same1
    (runs.steps PowerLoss) in
    let (u2, steps2, tells) =
    steps_mirrored (TellsBase G f) ArePicks (TellsZeros G f from) (OnGround G (layers_of f) from) (BottomOf f) far f script es runs.ran t2 t1 u1
    tells2 steps1 in
    let history = goes_on f left rows x picks t2 u2 es wakes2 steps2 in
    record {
      state = u2;
      history = history;
      allows = λ refines. allowed f derived typed refines (left ++ es) u2 history;
      tells = subst (λ (s : State S). Tells G f u2 s) (same_state u1 to same) tells;
    }
