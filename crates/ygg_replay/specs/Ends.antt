-- The ends of the runs that an obligation speaks of.
use Rattle.std.specs.Prelude.{◌≡◌, ℕ, Bool, true, false, ◌&&◌, IsTrue, List, [], ◌∷◌, Option, Some, None}
use Rattle.ygg_value.specs.Values.{same_value}
use Rattle.ygg_value.specs.declared.row.Value.{Value}
use Rattle.ygg_syntax.specs.declared.tree.Block.{Block}
use Rattle.ygg_sched.specs.ygg_meaning.Environments.{Env, bind}
use Rattle.ygg_sched.specs.ygg_meaning.Related.{settled}
use Rattle.ygg_sched.specs.ygg_meaning.Obligations.{Obligation}
use Rattle.ygg_sched.specs.ygg_meaning.Violates.{Reached, FallsSo, Recovers, CutShort}
use Rattle.ygg_sched.specs.ygg_meaning.Violates as violates
use Rattle.ygg_sched.specs.ygg_meaning.Replayed.{has_stop}
use Rattle.ygg_eval.specs.declared.body.Part.{Part}
use Rattle.ygg_eval.specs.Bodies.{arguments_in}
use Rattle.ygg_eval.specs.Kept.{Kept}
use Rattle.ygg_replay.specs.declared.site.ReplaySite.{ReplaySite}
use Rattle.ygg_sched.specs.declared.schedule.Schedule.{Schedule}
use Rattle.ygg_replay.specs.declared.ends.End.{End}
use Rattle.ygg_replay.specs.Steps.{meant_at}
use Rattle.ygg_replay.specs.Sites.{closed_in, machine_in, low_at, state_at, MemoryFits, IsBelow}

-- whether these values are the same, one by one
abbrev pub same_list : List Value → List Value → Bool
same_list [] [] = true
same_list (x ∷ xs) (y ∷ ys) = same_value x y && same_list xs ys
same_list _ _ = false

-- the end that is meant
abbrev pub end_at : ReplaySite → End → violates.End
end_at s e = record { answer = e.answer; to = state_at s e.memory e.lower.values; side = e.side }

-- its values have the shapes that are declared
pub record EndFits (s : ReplaySite) (e : End) : Type 0 where
  pub memory : MemoryFits s e.memory
  pub lower : IsBelow s e.lower

-- the arguments that a block of the part sees
abbrev pub seen_at : ReplaySite → Part → ℕ → List Value → Env
seen_at s part number args = bind (arguments_in s.layer.now part number) args

-- power failed in the block where the schedule says, and left this base
abbrev pub FellIn : ReplaySite → Schedule → Block → Env → List Value → Env → Type 0
FellIn s x b args memory fallen = CutShort (closed_in s) (machine_in s) b args (state_at s memory x.low) (meant_at s x) fallen

-- power failed so, and left the machine below, or no run of the block comes so far
abbrev pub FellOrNot : (Env → Type 0) → ReplaySite → Option Kept → Type 0
FellOrNot Falls s None = (fallen : Env) → ¬ (Falls fallen)
FellOrNot Falls s (Some k) = Falls (low_at s k.values)

-- a recovery from what power left; on the side stands whether that is settled
pub record RecoveredFrom (s : ReplaySite) (x : Schedule) (fallen : Env) (e : End) : Type 0 where
  pub recovers : Recovers (closed_in s) (machine_in s) (meant_at s x) fallen (end_at s e).to
  pub side : e.side ≡ settled (closed_in s) fallen

-- power failed so, and a recovery followed
pub record FellAndRecovered (Falls : Env → Type 0) (s : ReplaySite) (x : Schedule) (e : End) : Type 0 where
  pub fallen : Env
  pub falls : Falls fallen
  pub recovered : RecoveredFrom s x fallen e

-- power failed so, and a recovery followed, or no run comes so far
abbrev pub RecoveredOrNot : (Env → Type 0) → ReplaySite → Schedule → Option End → Type 0
RecoveredOrNot Falls s x None = (fallen : Env) → ¬ (Falls fallen)
RecoveredOrNot Falls s x (Some e) = FellAndRecovered Falls s x e × EndFits s e

-- the runs that the obligation speaks of have ended so, or its stop is not reached
abbrev pub ReachedOrNot : ReplaySite → Obligation → Schedule → Option End → Type 0
ReachedOrNot s o x None = IsTrue (has_stop o) × ((fallen : Env) → ¬ (FallsSo (closed_in s) (machine_in s) o (meant_at s x) fallen))
ReachedOrNot s o x (Some e) = Reached (closed_in s) (machine_in s) o (meant_at s x) (end_at s e) × EndFits s e
