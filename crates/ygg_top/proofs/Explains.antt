-- From what is fetched to how the explanation of a schedule ends.
use Rattle.std.proofs.Common.{◌≤◌, ℕ, List, Option, Some, length, inl, inr, refl, sym, subst, arith}
use Rattle.ygg_base.specs.declared.failure.Refusal.{Refusal}
use Rattle.ygg_base.specs.declared.lists.Held.{Held}
use Rattle.ygg_base.specs.Outside.{Rose}
use Rattle.ygg_base.specs.declared.status.Status.{Status}
use Rattle.ygg_base.specs.declared.status.Status.TheVariants.{Refused}
use Rattle.ygg_syntax.specs.declared.tree.File.{File}
use Rattle.ygg_replay.specs.ygg_meaning.Replayed.{Replayed, Shows, Hypothesis, Passes}
use Rattle.ygg_explain.specs.Ending.{Explaining}
use Rattle.ygg_replay.specs.Ending.{status_of}
use Rattle.ygg_top_command.specs.ygg_report.Lines.{refused_line}
use Rattle.ygg_top_command.specs.Fetched.{StandsFile}
use Rattle.ygg_top_command.specs.Refusing.{RefusesFile, RefusesUnread, most_bytes}
use Rattle.ygg_top_command.specs.Reports.{IsDoneWith}
use Rattle.ygg_top_command.specs.Standing.{Stands, DoesWith}
use Rattle.ygg_top.specs.Explaining.{ExplainsStored, Explains, ExplainsNamed}

shown_done : (answer : Replayed) → IsDoneWith (status_of answer)
shown_done Shows = tt
shown_done (Hypothesis number) = tt
shown_done (Passes picks) = tt

-- the explanation of a text ends with a status with which something is done
pub explaining_done : (f : File) (bytes : List ℕ) (status : Status) (text : List ℕ) → Explaining f bytes status text → IsDoneWith status
explaining_done f bytes status text (inl is) = subst IsDoneWith (sym is.status_is) tt
explaining_done f bytes status text (inr is) = subst IsDoneWith (sym is.explained.status_is) (shown_done is.explained.answer)

-- a schedule that is fetched
pub schedule_read : (f : File) (files : Option (List Held)) (name bytes : List ℕ) (status : Status) (text : List ℕ) → Stands files name (Some bytes) →
    length bytes ≤ most_bytes → Explaining f bytes status text → DoesWith (ExplainsStored f) files name status text
schedule_read f files name bytes status text stands small does = (Some bytes, stands, inr (bytes, refl, small, does))

-- one that isn't
pub schedule_unread : (f : File) (stored : Option (List ℕ)) (r : Refusal) → RefusesUnread most_bytes 2 stored r →
    ExplainsStored f stored Refused (refused_line r)
schedule_unread f stored r unread = inl (r, unread, (refl, refl))

-- a layer file that is refused
pub file_refused : (files : Option (List Held)) (schedule : List ℕ) (stored : Option (List ℕ)) (r : Refusal) → RefusesFile stored r →
    Explains files schedule stored Refused (refused_line r)
file_refused files schedule stored r refuses = inl (r, refuses, (refl, refl))

-- one for which a schedule is explained
pub file_read : (files : Option (List Held)) (name schedule : List ℕ) (f : File) → StandsFile files name f → (status : Status) (text : List ℕ) →
    DoesWith (ExplainsStored f) files schedule status text → ExplainsNamed files name schedule status text
file_read files name schedule f stands status text does = (Some stands.0, stands.1, inr (stands.0, f, refl, stands.2, does))

-- the library's count has risen since it was a smaller one
pub rose_since : (before middle now : ℕ) → before ≤ middle → Rose middle now → Rose before now
rose_since before middle now later rose = omega (arith, later, rose)
