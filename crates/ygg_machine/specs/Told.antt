-- What the layers of a stack do on its ground is what the layers of the file do, and where the ground tells the state of the file's disk, what they do
-- on that disk.
use Rattle.std.specs.Prelude.{◌≡◌, List, length}
use Rattle.ygg_syntax.specs.declared.tree.File.{File}
use Rattle.ygg_eval.specs.ygg_disk.Ground.{Meaning}
use Rattle.ygg_eval.specs.ygg_meaning.Stack.{Stacked, BottomOf, layers_of}
use Rattle.ygg_eval.specs.ygg_meaning.Mirror.{FormattedIf, Mirrors}
use Rattle.ygg_eval.specs.ygg_meaning.Noted.{Note, NotedDisk}
use Rattle.ygg_eval.specs.ygg_meaning.StepLaws.{Same}
use Rattle.ygg_eval.specs.ygg_meaning.Grounds.{TellsBase, TellsZeros, ArePicks}
use Rattle.ygg_eval.specs.Lower.{Cause, PowerLoss}
use Rattle.ygg_machine.specs.GroundSteps.{ground_machine}
use Rattle.ygg_machine.specs.Bottoms.{bottom_on}

-- the same notes
abbrev pub SameNotes : List Note → List Note → Type 0
SameNotes a b = b ≡ a

-- each step of a stack of the whole file is one of the layers of the file's list, on the calls that are made on the ground
abbrev pub StacksAreListed : {S : Type 0} → Meaning S → Type 0
StacksAreListed {S} G =
    (cause : Cause) (f : File) (start : S) →
    Mirrors Same SameNotes (bottom_on G cause f start (length f.layers)) (Stacked (ground_machine G cause start) (layers_of f))

-- where the ground tells the state of the file's disk, each step of the stack is one of the bottom implementation, with the picks of its notes
abbrev pub StacksTell : {S : Type 0} → Meaning S → Type 0
StacksTell {S} G =
    (f : File) (start : S) →
    Mirrors (TellsBase G f) ArePicks (FormattedIf (TellsZeros G f start) (bottom_on G PowerLoss f start (length f.layers))) (BottomOf f)

-- and one of the layers on that disk, whose calls are noted, with the same notes
abbrev pub StacksNote : {S : Type 0} → Meaning S → Type 0
StacksNote {S} G =
    (f : File) (start : S) →
    Mirrors (TellsBase G f) SameNotes (FormattedIf (TellsZeros G f start) (bottom_on G PowerLoss f start (length f.layers)))
    (Stacked (NotedDisk f.disk) (layers_of f))
