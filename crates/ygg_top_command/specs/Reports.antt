-- What is told of how a command ends: its status, and what the sink has taken.
use Rattle.std.specs.Prelude.{◌≡◌, ◌⊎◌, ℕ, List, codes, Option}
use Rattle.ygg_base.specs.declared.status.Status.{Status}
use Rattle.ygg_base.specs.declared.status.Status.TheVariants as status
use Rattle.ygg_report.specs.Lines.{ended, refused_line}
use Rattle.ygg_report.specs.Putting.{Adds, IsFront, IsPutSo}
use Rattle.ygg_top_command.specs.declared.stopping.CommandStop.{CommandStop}
use Rattle.ygg_top_command.specs.declared.stopping.CommandStop.TheVariants.{Refused, LibraryFailed, NoMemory}

-- the line of a library that failed
abbrev pub library_fault : List ℕ
library_fault = ended (codes "fault library")

-- a front of what a command that does this would have printed: of the line of a library that failed, where its count of faults has risen, or of the command's
-- text
pub record IsCutShort (Does : Status → List ℕ → Type 0) (LibraryRose : Type 0) (front : List ℕ) : Type 0 where
  pub whole : List ℕ
  pub is : IsFront front whole
  pub of : (LibraryRose × (whole ≡ library_fault)) ⊎ ((status : Status) × Does status whole)

-- What the sink has taken by the end of a command that does this, from `before` to `now`, and why a fault came: the library's count of faults has risen, or the
-- sink's. Where the sink failed, it is a front of what the command would have printed, or one that a command may leave that puts its text piece by piece.
-- Where no memory was left, nothing was printed, or such a front.
abbrev pub Reports : (Does : Status → List ℕ → Type 0) (Left : List ℕ → Type 0) → Option (List ℕ) → Option (List ℕ) → (LibraryRose SinkRose : Type 0) →
    Status → Type 0
Reports Does Left before now LibraryRose SinkRose status.Fault =
    (LibraryRose × Adds before library_fault now)
    ⊎ (SinkRose × (front : List ℕ) × (IsCutShort Does LibraryRose front ⊎ Left front) × Adds before front now)
Reports Does Left before now LibraryRose SinkRose status.NoMemory = (now ≡ before) ⊎ ((front : List ℕ) × Left front × Adds before front now)
Reports Does Left before now LibraryRose SinkRose ended = (text : List ℕ) × Does ended text × Adds before text now

-- the same, as one fact
pub record Told (Does : Status → List ℕ → Type 0) (Left : List ℕ → Type 0) (before now : Option (List ℕ)) (LibraryRose SinkRose : Type 0) (ended : Status)
    : Type 0 where
  pub reports : Reports Does Left before now LibraryRose SinkRose ended

-- how a command that stops ends: the line of a refusal, or that of a library that failed, is put whole or cut short with a fault; or nothing is put, since no
-- memory was left
abbrev pub EndsBy : CommandStop → Option (List ℕ) → Option (List ℕ) → (SinkRose : Type 0) → Status → Type 0
EndsBy (Refused r) before now SinkRose ended =
    IsPutSo before now (refused_line r) status.Refused SinkRose ended ⊎ ((ended ≡ status.NoMemory) × (now ≡ before))
EndsBy LibraryFailed before now SinkRose ended = IsPutSo before now library_fault status.Fault SinkRose ended
EndsBy NoMemory before now SinkRose ended = (ended ≡ status.NoMemory) × (now ≡ before)

-- a command that does this may stop so
abbrev pub MayStop : (Does : Status → List ℕ → Type 0) → (LibraryRose : Type 0) → CommandStop → Type 0
MayStop Does LibraryRose (Refused r) = Does status.Refused (refused_line r)
MayStop Does LibraryRose LibraryFailed = LibraryRose
MayStop Does LibraryRose NoMemory = Unit {0}

-- a status with which something is done
abbrev pub IsDoneWith : Status → Type 0
IsDoneWith status.Fault = ⊥
IsDoneWith status.NoMemory = ⊥
IsDoneWith ended = Unit {0}
