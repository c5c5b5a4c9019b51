-- How the replay of a schedule's text ends.
use Rattle.std.specs.Prelude.{◌≡◌, ◌⊎◌, ℕ, List, Ok, Err}
use Rattle.ygg_base.specs.declared.failure.Refusal.{Refusal}
use Rattle.ygg_base.specs.declared.status.Status.{Status}
use Rattle.ygg_base.specs.declared.status.Status.TheVariants.{Refuted, Refused}
use Rattle.ygg_syntax.specs.declared.tree.File.{File}
use Rattle.ygg_replay.specs.ygg_meaning.Replayed.{Replayed, Shows, Hypothesis, Passes}
use Rattle.ygg_replay.specs.ygg_report.Lines.{shows_line, hypothesis_line, holds_with_line, refused_line}
use Rattle.ygg_replay.specs.ygg_sched.declared.schedule.Schedule.{Schedule}
use Rattle.ygg_replay.specs.ygg_sched.Reading.{schedule_of}
use Rattle.ygg_replay.specs.Shown.{ShowsOf}

-- the status of what is shown: refuted where the schedule violates its obligation
abbrev pub status_of : Replayed → Status
status_of Shows = Refuted
status_of (Hypothesis number) = Refused
status_of (Passes picks) = Refused

-- the line of what is shown of the obligation of this name
abbrev pub line_of : List ℕ → Replayed → List ℕ
line_of name Shows = shows_line name
line_of name (Hypothesis number) = hypothesis_line number
line_of name (Passes picks) = holds_with_line picks

-- the text is no schedule of the file, and this is its refusal
pub record IsUnreadable (f : File) (bytes : List ℕ) (status : Status) (text : List ℕ) : Type 0 where
  pub refusal : Refusal
  pub refused : schedule_of f bytes ≡ Err refusal
  pub status_is : status ≡ Refused
  pub text_is : text ≡ refused_line refusal

-- the text is a schedule of the file, and this is what it shows
pub record IsReplayed (f : File) (bytes : List ℕ) (status : Status) (text : List ℕ) : Type 0 where
  pub schedule : Schedule
  pub read : schedule_of f bytes ≡ Ok schedule
  pub answer : Replayed
  pub shown : ShowsOf f schedule answer
  pub status_is : status ≡ status_of answer
  pub text_is : text ≡ line_of schedule.name answer

-- the replay of this text for the file ends with the status and the line
abbrev pub Replaying : File → List ℕ → Status → List ℕ → Type 0
Replaying f bytes status text = IsUnreadable f bytes status text ⊎ IsReplayed f bytes status text
