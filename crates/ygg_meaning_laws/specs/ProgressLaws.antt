-- Typed files never get stuck.
use Rattle.std.specs.Prelude.{◌≡◌, IsTrue, All, List, ◌++◌}
use Rattle.ygg_syntax.specs.declared.tree.DiskText.{DiskText}
use Rattle.ygg_syntax.specs.declared.tree.File.{File}
use Rattle.ygg_syntax.specs.Files.{IsDerived}
use Rattle.ygg_meaning_laws.specs.TypeErrors.{none}
use Rattle.ygg_meaning_laws.specs.Files.{IsTyped, disk_errors}
use Rattle.ygg_meaning.specs.Environments.{Env}
use Rattle.ygg_meaning.specs.Machine.{State}
use Rattle.ygg_meaning.specs.DiskMachine.{DiskMachine}
use Rattle.ygg_meaning.specs.Stack.{Layers, Bottom, Top, BottomOf, AllRefine, FileRefines, layers_of}
use Rattle.ygg_meaning.specs.Under.{Under}
use Rattle.ygg_meaning.specs.History.{Entry, History, Allows}
use Rattle.ygg_meaning.specs.HistoryLaws.{ByLinks, FileAnswered}
use Rattle.ygg_meaning_laws.specs.Kinds.{file_keeps}
use Rattle.ygg_meaning_laws.specs.Machines.{SpecAnswers, DiskAnswers}

-- in a file in the grammar each block makes no choice and no call but those of its kind
abbrev pub KindsAreKept : Type 0
KindsAreKept = (f : File) → ∥ IsDerived f ∥₁ → IsTrue (file_keeps f)

-- the specification of each layer of a file in the grammar without type errors answers whatever it is asked
abbrev pub SpecificationsAnswer : Type 0
SpecificationsAnswer = (f : File) → ∥ IsDerived f ∥₁ → IsTyped f → All SpecAnswers (layers_of f)

-- each call that a recovery of such a file makes is answered
abbrev pub TypedFilesAreAnswered : Type 0
TypedFilesAreAnswered = (f : File) → ∥ IsDerived f ∥₁ → IsTyped f → FileAnswered f

-- where the lower layers of such a file each refine their specifications, the bottom implementation of them is under the topmost specification of them
abbrev pub TypedCompose : Type 0
TypedCompose =
    (f : File) → ∥ IsDerived f ∥₁ → IsTyped f → (upper lower : Layers) → layers_of f ≡ upper ++ lower → AllRefine (DiskMachine f.disk) lower →
    Under (Bottom f.disk lower) (Top f.disk lower) (ByLinks lower)

-- where each layer of such a file refines its specification, the topmost specification allows every history of the bottom implementation
abbrev pub TypedHistories : Type 0
TypedHistories =
    (f : File) → ∥ IsDerived f ∥₁ → IsTyped f → FileRefines f → (es : List Entry) (s : State Env) → History (BottomOf f) es s → Allows f es s

-- a disk without type errors answers each of its operations
abbrev pub DisksAnswer : Type 0
DisksAnswer = (d : DiskText) → IsTrue (none (disk_errors d)) → DiskAnswers d
