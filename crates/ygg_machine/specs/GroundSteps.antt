-- Disk calls on a ground, whole, cut by power, or given up.
use Rattle.std.specs.Prelude.{◌≡◌, true, List, [], ◌∷◌, ◌⊎◌}
use Rattle.ygg_eval.specs.ygg_disk.Disk.{Call}
use Rattle.ygg_eval.specs.ygg_disk.Ground.{Meaning}
use Rattle.ygg_eval.specs.ygg_meaning.Machine.{Machine}
use Rattle.ygg_eval.specs.ygg_meaning.DiskMachine.{Store, machine_on}
use Rattle.ygg_eval.specs.ygg_meaning.Noted.{Note}
use Rattle.ygg_eval.specs.ygg_meaning.Grounds.{ground_store}
use Rattle.ygg_eval.specs.Lower.{Cause, PowerLoss, GivenUp}

-- a call that failed or found no memory: it is noted as cut short, or wasn't begun
abbrev pub IsBroken : Call → List Note → Type 0
IsBroken call notes = (notes ≡ []) ⊎ (notes ≡ record { call = call; cut = true; picks = [] } ∷ [])

-- The calls that are made on a ground from this state on. By the cause a fall is what power loss leaves, or what a call leaves that failed or found
-- no memory; between calls nothing is lost where a step is given up.
abbrev pub ground_steps : {S : Type 0} → Meaning S → Cause → S → Store S Note
ground_steps G PowerLoss start = ground_store G start
ground_steps G GivenUp start = record (ground_store G start) {
  Falls = λ s call notes s'. IsBroken call notes × G.Breaks s call s';
  Loses = λ s s'. s' ≡ s;
}

-- the machine of a ground that is formatted from this state
abbrev pub ground_machine : {S : Type 0} → Meaning S → Cause → S → Machine S Note
ground_machine G cause start = machine_on (ground_steps G cause start)

-- the same calls from whatever state, where of formatting nothing is said
abbrev pub ground_calls : {S : Type 0} → Meaning S → Cause → Store S Note
ground_calls G cause = record {
  Starts = λ s. ⊥;
  Calls = λ s call notes reply s'. (ground_steps G cause s).Calls s call notes reply s';
  Falls = λ s call notes s'. (ground_steps G cause s).Falls s call notes s';
  Loses = λ s s'. (ground_steps G cause s).Loses s s';
}
