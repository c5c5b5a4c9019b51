-- How it ended that power was to be made to fail.
use Rattle.std.proofs.Common.{ℕ, List, Result, Ok, Err, IsErr, OnOk, refl}
use Rattle.ygg_list.specs.declared.memory.NoMemory.{NoMemory}
use Rattle.ygg_value.specs.declared.row.Value.{Value}
use Rattle.ygg_syntax.specs.declared.tree.File.{File}
use Rattle.ygg_eval.specs.ygg_disk.declared.power.Power.{Power}
use Rattle.ygg_eval.specs.Layers.{signatures_at}
use Rattle.ygg_eval.specs.ygg_disk.declared.turn.Turn.{Turn}
use Rattle.ygg_eval.specs.Lower.{IsCallable, Called, Fell, Happened, AfterWhole, ending_of, outage_of}
use Rattle.ygg_eval.specs.Kept.{standing, spec_meaning, Loses}

module _ (file : File) (number : ℕ) (values values' : List Value) (p p' : Power) where
  -- within an operation
  pub fell_as : (place : ℕ) (args : List Value) (result : Result (Unit {0}) NoMemory) → IsCallable (signatures_at file number) place args →
      OnOk result (Fell spec_meaning file (signatures_at file number) place args Happened (standing number values p) (standing number values' p'))
      → Fell spec_meaning file (signatures_at file number) place args (outage_of result) (standing number values p) (standing number values' p')
  fell_as place args (Ok u) can h = h
  fell_as place args (Err e) can h = record { name = can.name; operation = can.operation; is = can.is; step = refl }

  -- within an operation, where no memory was left
  pub fell_without : (place : ℕ) (args : List Value) (result : Result (Unit {0}) NoMemory) → IsCallable (signatures_at file number) place args →
      IsErr result → Fell spec_meaning file (signatures_at file number) place args (outage_of result) (standing number values p) (standing number values' p')
  fell_without place args (Ok u) can h = absurd (cc)
  fell_without place args (Err e) can h = record { name = can.name; operation = can.operation; is = can.is; step = refl }

  -- between operations
  pub lost_as : (result : Result (Unit {0}) NoMemory) → OnOk result (Loses file (standing number values p) Happened (standing number values' p')) →
      Loses file (standing number values p) (outage_of result) (standing number values' p')
  lost_as (Ok u) h = h
  lost_as (Err e) h = refl

  -- a call, where no memory was left
  pub called_without : (place : ℕ) (args : List Value) (result : Result Turn NoMemory) → IsCallable (signatures_at file number) place args →
      IsErr result → Called spec_meaning file (signatures_at file number) place args (ending_of result) (standing number values p) (standing number values' p')
  called_without place args (Ok turn) can h = absurd (cc)
  called_without place args (Err e) can h = record { name = can.name; operation = can.operation; is = can.is; gives = tt; step = refl }

-- then nothing is said of what a whole call leaves
pub after_without : (P : Type 0) (result : Result Turn NoMemory) → IsErr result → AfterWhole (ending_of result) P
after_without P (Ok turn) h = absurd (cc)
after_without P (Err e) h = tt
