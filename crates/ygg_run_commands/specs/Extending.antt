-- A run goes on with whatever could have left the rows that it found.
use Rattle.std.specs.Prelude.{◌≡◌, List, ◌++◌, Some}
use Rattle.ygg_value.specs.Number.{Grid}
use Rattle.ygg_syntax.specs.declared.tree.File.{File}
use Rattle.ygg_syntax.specs.Files.{IsDerived}
use Rattle.ygg_run.specs.ygg_type_rules.Files.{IsTyped}
use Rattle.ygg_run.specs.ygg_disk.Ground.{Meaning}
use Rattle.ygg_run.specs.ygg_disk.Kinds.{model_of}
use Rattle.ygg_run.specs.ygg_meaning.Environments.{Env}
use Rattle.ygg_run.specs.ygg_meaning.Machine.{State}
use Rattle.ygg_run.specs.ygg_meaning.Stack.{BottomOf, FileRefines}
use Rattle.ygg_run.specs.ygg_meaning.History.{Entry, History, Allows}
use Rattle.ygg_run.specs.ygg_meaning.Left.{Left}
use Rattle.ygg_run.specs.ygg_meaning.Noted.{disk_in}
use Rattle.ygg_run.specs.ygg_meaning.Grounds.{Tells}
use Rattle.ygg_run.specs.ygg_script.declared.command.Command.{Command}
use Rattle.ygg_run_commands.specs.OnGround.{layers_on}
use Rattle.ygg_run_commands.specs.Running.{Runs}

-- the ground tells the disk of a file, all of whose tables are these rows, as after a flush
abbrev pub TellsFlushed : {S : Type 0} → Meaning S → File → Grid → S → Type 0
TellsFlushed G f rows s = G.told s ≡ Some (disk_in f.disk.kind ((model_of f.disk.kind).start rows))

-- The entries, and those of a run after them, are a history of the bottom implementation, to the state that the ground tells of. If each layer refines its
-- specification, the topmost specification allows it.
pub record Extends {S : Type 0} (G : Meaning S) (f : File) (es : List Entry) (to : State S) : Type 0 where
  pub state : State Env
  pub history : History (BottomOf f) es state
  pub allows : FileRefines f → Allows f es state
  pub tells : Tells G f state to

-- A run that finds rows on a ground, which all tables of its disk hold, extends all entries that could have left these rows.
abbrev pub RunsExtend : {S : Type 0} → Meaning S → Type 0
RunsExtend {S} G =
    (f : File) → ∥ IsDerived f ∥₁ → IsTyped f → (rows : Grid) (left : List Entry) → Left f left rows → (script : List Command) (from : S) (es : List Entry)
    (to : State S) → TellsFlushed G f rows from → Runs (layers_on G f) f script from es to → Extends G f (left ++ es) to
