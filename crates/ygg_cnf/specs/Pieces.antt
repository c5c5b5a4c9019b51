-- Long texts that are put piece by piece: what the sink has taken of them, and what is kept to be put.
use Rattle.std.specs.Prelude.{◌≡◌, ◌⊎◌, ℕ, List, [], ◌++◌, Option, Result, Ok, Err}
use Rattle.std.specs.List.{flat_map}
use Rattle.ygg_base.specs.declared.status.Status.{Status}
use Rattle.ygg_base.specs.declared.status.Status.TheVariants.{Fault, NoMemory}
use Rattle.ygg_report.specs.Putting.{Adds, IsFront}
use Rattle.ygg_cnf.specs.declared.log.Step.{Step}
use Rattle.ygg_cnf.specs.Lines.{step_line}

-- what was kept, and then these bytes, are what the sink has taken and what is kept now
pub record Flows (before : Option (List ℕ)) (kept : List ℕ) (now : Option (List ℕ)) (left bytes : List ℕ) : Type 0 where
  pub put : List ℕ
  pub adds : Adds before put now
  pub is : kept ++ bytes ≡ put ++ left

-- the sink has taken a front of what was kept and then these bytes
pub record Cuts (before : Option (List ℕ)) (kept : List ℕ) (now : Option (List ℕ)) (bytes : List ℕ) : Type 0 where
  pub front : List ℕ
  pub is : IsFront front (kept ++ bytes)
  pub adds : Adds before front now

-- These bytes went on to be put, after what was kept; or a front of them was, where the sink failed or no memory was left.
abbrev pub Passes : Option (List ℕ) → List ℕ → Option (List ℕ) → List ℕ → List ℕ → (SinkRose : Type 0) → Result (Unit {0}) Status → Type 0
Passes before kept now left bytes SinkRose (Ok done) = Flows before kept now left bytes
Passes before kept now left bytes SinkRose (Err Fault) = SinkRose × Cuts before kept now bytes
Passes before kept now left bytes SinkRose (Err NoMemory) = Cuts before kept now bytes
Passes before kept now left bytes SinkRose (Err other) = ⊥

-- What was kept, and then these bytes, were put whole; or a front of them was, where the sink failed or no memory was left.
abbrev pub Finishes : Option (List ℕ) → List ℕ → Option (List ℕ) → List ℕ → (SinkRose : Type 0) → Result (Unit {0}) Status → Type 0
Finishes before kept now bytes SinkRose (Ok done) = Adds before (kept ++ bytes) now
Finishes before kept now bytes SinkRose (Err Fault) = SinkRose × Cuts before kept now bytes
Finishes before kept now bytes SinkRose (Err NoMemory) = Cuts before kept now bytes
Finishes before kept now bytes SinkRose (Err other) = ⊥

-- the same of a text alone, after which a command ends with this status
abbrev pub FinishesWith : Status → Option (List ℕ) → Option (List ℕ) → List ℕ → (SinkRose : Type 0) → Status → Type 0
FinishesWith whole before now text SinkRose ended =
    ((ended ≡ whole) × Adds before text now)
    ⊎ ((ended ≡ Fault) × SinkRose × Cuts before [] now text)
    ⊎ ((ended ≡ NoMemory) × Cuts before [] now text)

-- the lines of a log
abbrev pub log_lines : List Step → List ℕ
log_lines log = flat_map step_line log
