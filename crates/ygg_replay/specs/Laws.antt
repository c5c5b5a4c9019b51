-- What holds of how the replay of a text ends.
use Rattle.std.specs.Prelude.{◌≡◌, ◌↔◌, ℕ, List, Some, Ok}
use Rattle.ygg_base.specs.declared.status.Status.{Status}
use Rattle.ygg_base.specs.declared.status.Status.TheVariants.{Refuted}
use Rattle.ygg_syntax.specs.declared.tree.File.{File}
use Rattle.ygg_replay.specs.ygg_meaning.Claims.{Claim, ClaimViolated}
use Rattle.ygg_replay.specs.ygg_sched.declared.schedule.Schedule.{Schedule}
use Rattle.ygg_replay.specs.ygg_sched.Reading.{schedule_of}
use Rattle.ygg_replay.specs.Shown.{claim_named, meant}
use Rattle.ygg_replay.specs.Ending.{Replaying}

-- a text is replayed in one way
abbrev pub OneEnding : Type 0
OneEnding =
    (f : File) (bytes : List ℕ) (status other : Status) (text line : List ℕ) → Replaying f bytes status text → Replaying f bytes other line →
    (status ≡ other) × (text ≡ line)

-- the text is a schedule of the file that violates the obligation that it names
pub record Violated (f : File) (bytes : List ℕ) : Type 0 where
  pub schedule : Schedule
  pub read : schedule_of f bytes ≡ Ok schedule
  pub claim : Claim
  pub named : claim_named f schedule.name ≡ Some claim
  pub violated : ClaimViolated claim (meant claim schedule)

-- the status is that of a refutation exactly where the text is a schedule of the file that violates the obligation that it names
abbrev pub RefutedExactly : Type 0
RefutedExactly = (f : File) (bytes : List ℕ) (status : Status) (text : List ℕ) → Replaying f bytes status text → (status ≡ Refuted) ↔ Violated f bytes
