-- From what is fetched to how the play of a script ends.
use Rattle.std.proofs.Common.{◌≡◌, ◌≤◌, ℕ, List, Option, Some, Err, length, inl, inr, refl, sym, subst, arith}
use Rattle.ygg_base.specs.declared.failure.Refusal.{Refusal}
use Rattle.ygg_base.specs.declared.failure.Refuse.{Refuse}
use Rattle.ygg_base.specs.declared.failure.Refuse.TheVariants as refuse
use Rattle.ygg_base.specs.declared.lists.Held.{Held}
use Rattle.ygg_base.specs.Outside.{Rose}
use Rattle.ygg_base.specs.declared.status.Status.{Status}
use Rattle.ygg_base.specs.declared.status.Status.TheVariants as status
use Rattle.ygg_syntax.specs.declared.tree.File.{File}
use Rattle.ygg_top_command.specs.ygg_report.Lines.{refused_line}
use Rattle.ygg_run.specs.ygg_sched.Lines.{Gives}
use Rattle.ygg_run.specs.ygg_script.declared.command.Command.{Command}
use Rattle.ygg_run.specs.ygg_script.Reading.{script_of}
use Rattle.ygg_run.specs.Playing.{RefusesPlay, PlaysTo, IsFrontOfPlay}
use Rattle.ygg_top_command.specs.declared.stopping.CommandStop.{CommandStop}
use Rattle.ygg_top_command.specs.declared.stopping.CommandStop.TheVariants.{Refused, LibraryFailed, NoMemory}
use Rattle.ygg_top_command.specs.Fetched.{IsUnread, StandsFile, stop_of}
use Rattle.ygg_top_command.specs.Refusing.{RefusesFile, most_bytes}
use Rattle.ygg_top_command.specs.Reports.{MayStop}
use Rattle.ygg_top_command.specs.Standing.{Stands, DoesWith}
use Rattle.ygg_top.specs.Playing.{
  IsScriptText,
  StandsScript,
  IsNoScript,
  PlaysScript,
  PlaysStored,
  Plays,
  PlaysNamed,
  IsCutPlaying,
}

module _ (f : File) (files : Option (List Held)) (name : List ℕ) (LibraryRose : Type 0) where
  -- nothing is fetched
  pub unread_script : (stop : CommandStop) → IsUnread most_bytes 2 files name LibraryRose stop → IsNoScript f files name LibraryRose stop
  unread_script (Refused r) unread = (unread.0, unread.1, inl unread.2)
  unread_script LibraryFailed unread = unread
  unread_script NoMemory unread = tt

  -- what is fetched is no script
  pub no_script : (bytes : List ℕ) → Stands files name (Some bytes) → length bytes ≤ most_bytes → (r : Refuse) →
      Gives {X = List Command} {Y = List Command} (λ x. x) (Err r) (script_of f bytes) → IsNoScript f files name LibraryRose (stop_of r)
  no_script bytes stands small (refuse.At at) reads = (Some bytes, stands, inr (small, reads))
  no_script bytes stands small refuse.Memory reads = tt

  -- a command that stops for it
  pub script_stop : (stop : CommandStop) → IsNoScript f files name LibraryRose stop → MayStop (DoesWith (PlaysStored f) files name) LibraryRose stop
  script_stop (Refused r) none = (none.0, none.1, inl (r, none.2, (refl, refl)))
  script_stop LibraryFailed none = none
  script_stop NoMemory none = tt

-- a script that is fetched
pub script_read : (f : File) (files : Option (List Held)) (name : List ℕ) (script : List Command) → StandsScript f files name script →
    (status : Status) (text : List ℕ) → PlaysScript f script status text → DoesWith (PlaysStored f) files name status text
script_read f files name script stands status text does = (Some stands.0, stands.1, inr (stands.0, script, refl, stands.2, does))

-- a layer file that is refused
pub file_refused : (files : Option (List Held)) (script : List ℕ) (stored : Option (List ℕ)) (r : Refusal) → RefusesFile stored r →
    Plays files script stored status.Refused (refused_line r)
file_refused files script stored r refuses = inl (r, refuses, (refl, refl))

-- one for which a script is played
pub file_read : (files : Option (List Held)) (name script : List ℕ) (f : File) → StandsFile files name f → (status : Status) (text : List ℕ) →
    DoesWith (PlaysStored f) files script status text → PlaysNamed files name script status text
file_read files name script f stands status text does = (Some stands.0, stands.1, inr (stands.0, f, refl, stands.2, does))

-- a front of the text of a script that is played
pub cut_script : (f : File) (script : List Command) (front : List ℕ) → IsFrontOfPlay f script front → IsCutPlaying (PlaysScript f script) front
cut_script f script front cut = (cut.0, inl (refl, cut.1), cut.2)

-- a front of what one command leaves is one of what another leaves that does as much
pub cut_more : (Does Other : Status → List ℕ → Type 0) → ((status : Status) (text : List ℕ) → Does status text → Other status text) → (front : List ℕ) →
    IsCutPlaying Does front → IsCutPlaying Other front
cut_more Does Other more front cut = (cut.0, more status.Done cut.0 cut.1, cut.2)

-- a count has risen since it was a smaller one
pub rose_since : (before middle now : ℕ) → before ≤ middle → Rose middle now → Rose before now
rose_since before middle now later rose = omega (arith, later, rose)
