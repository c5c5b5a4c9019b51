-- What is printed of an obligation that fails, handed to `replay`.
use Rattle.std.specs.Prelude.{◌≡◌, ℕ, ◌≤◌, List, length, Some}
use Rattle.ygg_base.specs.declared.lists.Held.{Held}
use Rattle.ygg_base.specs.declared.status.Status.{Status}
use Rattle.ygg_base.specs.declared.status.Status.TheVariants.{Refuted}
use Rattle.ygg_base.specs.Outside.{bytes_of}
use Rattle.ygg_syntax.specs.declared.tree.File.{File}
use Rattle.ygg_top.specs.ygg_report.Lines.{shows_line}
use Rattle.ygg_top.specs.ygg_top_command.Refusing.{IsLayerFile, most_bytes}
use Rattle.ygg_top.specs.Replaying.{ReplaysNamed}

-- `replay` of a file's name and a schedule's name in this library ends as refuted, and shows the obligation of this name
abbrev pub OnlyShows : List Held → (file schedule name : List ℕ) → Type 0
OnlyShows files file schedule name =
    (status : Status) (line : List ℕ) → ReplaysNamed (Some files) file schedule status line → (status ≡ Refuted) × (line ≡ shows_line name)

-- Where the text of a schedule has at most as many bytes as are read, it is so in every library in which a text of the layer file stands under the one name,
-- and the schedule's under the other.
abbrev pub IsShownAgain : File → (name text : List ℕ) → Type 0
IsShownAgain f name text =
    length text ≤ most_bytes → (bytes : List ℕ) → IsLayerFile bytes f → (files : List Held) (file schedule : List ℕ) → bytes_of files file ≡ Some bytes →
    bytes_of files schedule ≡ Some text → OnlyShows files file schedule name
