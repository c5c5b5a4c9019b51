-- Laws of what happens to machines: by moments, by entries and by notes.
use Rattle.std.specs.Prelude.{◌≡◌, Bool, List, ◌++◌}
use Rattle.ygg_value.specs.Number.{Grid}
use Rattle.ygg_syntax.specs.declared.tree.DiskText.{DiskText}
use Rattle.ygg_syntax.specs.declared.tree.File.{File}
use Rattle.ygg_meaning.specs.ygg_disk.Ground.{Meaning}
use Rattle.ygg_meaning.specs.ygg_disk.Kinds.{model_of}
use Rattle.ygg_meaning.specs.Environments.{Env}
use Rattle.ygg_meaning.specs.Machine.{Picks, State, Machine}
use Rattle.ygg_meaning.specs.DiskMachine.{DiskMachine, tables_in}
use Rattle.ygg_meaning.specs.Stack.{Layers, Stacked, BottomOf}
use Rattle.ygg_meaning.specs.Mirror.{Mirrors}
use Rattle.ygg_meaning.specs.History.{Entry, Steps, History}
use Rattle.ygg_meaning.specs.Left.{Left}
use Rattle.ygg_meaning.specs.Trace.{Up, Moment, Traces, entries_of}
use Rattle.ygg_meaning.specs.Noted.{Note, NotedDisk}
use Rattle.ygg_meaning.specs.Grounds.{ArePicks, ToldSteps}

-- moments of these entries lead from one running state to another
pub record HasMoments {B X : Type 0} (M : Machine B X) (s : State B) (es : List Entry) (s' : State B) : Type 0 where
  pub moments : List (Moment X)
  pub are : entries_of moments ≡ es
  pub trace : Traces M (Up s) moments (Up s')

-- moments that lead from one running state of a machine to another are steps by their entries, and all its steps are those of some moments
pub record MomentsAreSteps {B X : Type 0} (M : Machine B X) : Type 0 where
  pub steps : (s s' : State B) (ms : List (Moment X)) → Traces M (Up s) ms (Up s') → Steps M s (entries_of ms) s'
  pub moments : (s s' : State B) (es : List Entry) → Steps M s es s' → HasMoments M s es s'

-- this holds of the bottom implementation of every file, and of layers on a disk whose calls are noted
pub record AllMomentsAreSteps : Type 0 where
  pub bottom : (f : File) → MomentsAreSteps (BottomOf f)
  pub noted : (d : DiskText) (layers : Layers) → MomentsAreSteps (Stacked (NotedDisk d) layers)

-- the base that entries have left is the rows that the disk holds, in all its tables
abbrev pub LeftIsRows : Type 0
LeftIsRows = (f : File) (es : List Entry) (rows : Grid) (x : Left f es rows) → x.left ≡ tables_in f.disk.kind ((model_of f.disk.kind).start rows)

-- a whole recovery from the rows that entries may have left, and what comes after it, go on with these entries
abbrev pub LeftGoesOn : Type 0
LeftGoesOn =
    (f : File) (es : List Entry) (rows : Grid) → Left f es rows → (picks : Picks) (s s' : State Env) (next : List Entry) →
    (BottomOf f).Wakes (tables_in f.disk.kind ((model_of f.disk.kind).start rows)) picks s → Steps (BottomOf f) s next s' → History (BottomOf f) (es ++ next) s'

-- the same values
abbrev pub Same : {B : Type 0} → B → B → Type 0
Same c b = c ≡ b

-- the notes are of those picks
abbrev pub AreNotes : List Bool → List Note → Type 0
AreNotes picks notes = ArePicks notes picks

-- each step of layers on a disk whose calls are noted is one on the disk, with the picks of its notes
abbrev pub NotesAreForgotten : Type 0
NotesAreForgotten = (d : DiskText) (layers : Layers) → Mirrors Same ArePicks (Stacked (NotedDisk d) layers) (Stacked (DiskMachine d) layers)

-- each step of layers on a disk is one where its calls are noted, with notes of its picks
abbrev pub NotesAreFound : Type 0
NotesAreFound = (d : DiskText) (layers : Layers) → Mirrors Same AreNotes (Stacked (DiskMachine d) layers) (Stacked (NotedDisk d) layers)

-- on a ground that tells the state of a file's disk, each step of the file's layers is one of the bottom implementation
abbrev pub TellsSteps : {S : Type 0} → Meaning S → Type 0
TellsSteps G = (f : File) → ToldSteps G f
