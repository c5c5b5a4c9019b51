-- How the explanation of a schedule's text ends.
use Rattle.std.specs.Prelude.{◌≡◌, ◌⊎◌, ℕ, List, ◌++◌, Some, Ok, codes}
use Rattle.ygg_base.specs.declared.status.Status.{Status}
use Rattle.ygg_syntax.specs.declared.tree.File.{File}
use Rattle.ygg_replay.specs.ygg_meaning.Claims.{Claim}
use Rattle.ygg_replay.specs.ygg_meaning.Refines.{machine_below}
use Rattle.ygg_replay.specs.ygg_meaning.Replayed.{Replayed, Replays}
use Rattle.ygg_replay.specs.ygg_sched.declared.schedule.Schedule.{Schedule}
use Rattle.ygg_replay.specs.ygg_sched.Printing.{line_of as ended, value_lines}
use Rattle.ygg_replay.specs.ygg_sched.Reading.{schedule_of}
use Rattle.ygg_replay.specs.ygg_sched.Sites.{Site, site_named}
use Rattle.ygg_replay.specs.Shown.{claim_named, meant}
use Rattle.ygg_replay.specs.Ending.{IsUnreadable, line_of, status_of}
use Rattle.ygg_explain.specs.Told.{ToldOf}

-- the first lines: the obligation, and the schedule's values
abbrev pub first_lines : Site → Schedule → List ℕ
first_lines s x = ended (codes "ygg-explain 1") ++ (ended (codes "obligation " ++ x.name) ++ value_lines s x)

-- what a schedule of the file shows, and what is told of it
pub record IsExplainedOf (f : File) (schedule : Schedule) (status : Status) (text : List ℕ) : Type 0 where
  pub site : Site
  pub stands : site_named f schedule.name ≡ Some site
  pub claim : Claim
  pub named : claim_named f schedule.name ≡ Some claim
  pub answer : Replayed
  pub replays : Replays claim.layer (machine_below claim.below) claim.obligation (meant claim schedule) answer
  pub told : List ℕ
  pub is_told : ToldOf claim.layer (machine_below claim.below) claim.obligation (meant claim schedule) answer told
  pub status_is : status ≡ status_of answer
  pub text_is : text ≡ first_lines site schedule ++ (told ++ line_of schedule.name answer)

-- the text is a schedule of the file, and it is explained
pub record IsExplained (f : File) (bytes : List ℕ) (status : Status) (text : List ℕ) : Type 0 where
  pub schedule : Schedule
  pub read : schedule_of f bytes ≡ Ok schedule
  pub explained : IsExplainedOf f schedule status text

-- the explanation of this text for the file ends with the status and the text
abbrev pub Explaining : File → List ℕ → Status → List ℕ → Type 0
Explaining f bytes status text = IsUnreadable f bytes status text ⊎ IsExplained f bytes status text
