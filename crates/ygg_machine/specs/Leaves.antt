-- What the disk calls of a command leave of power: all of them are whole, or power fails where the fuse says, or the command is given up.
use Rattle.std.specs.Prelude.{◌≡◌, ◌≤◌, ◌<◌, ◌+◌, ◌^◌, true, false, MatchBool, List, [], ◌∷◌, ◌++◌, ◌⊎◌, length, Option, Some, None}
use Rattle.ygg_eval.specs.ygg_disk.Disk.{Call}
use Rattle.ygg_eval.specs.ygg_disk.Ground.{Meaning}
use Rattle.ygg_eval.specs.ygg_disk.Power.{IsNamed, Begun, BegunInVain}
use Rattle.ygg_eval.specs.ygg_disk.declared.power.Fuse.{Fuse}
use Rattle.ygg_eval.specs.ygg_disk.declared.power.Power.{Power}
use Rattle.ygg_eval.specs.ygg_meaning.Noted.{Note}
use Rattle.ygg_eval.specs.Lower.{Cause, PowerLoss, GivenUp}

-- the calls are whole, one after another, and the fuse names none of them
abbrev pub LeaveWhole : {S : Type 0} → Meaning S → List Note → Power → Power → Type 0
LeaveWhole G [] before after = after ≡ before
LeaveWhole G (n ∷ ns) before after =
    (n.cut ≡ false) × ¬ IsNamed before × (next : Power) × Begun G.follows false n.call n.picks before next × LeaveWhole G ns next after

-- The calls are whole until the fuse names the one that comes next. Within that power fails, or before it, and then it isn't begun.
pub record LeaveCut {S : Type 0} (G : Meaning S) (notes : List Note) (before after : Power) : Type 0 where
  pub whole : List Note
  pub at : Power
  pub leaves : LeaveWhole G whole before at
  pub fuse : Fuse
  pub set : at.fuse ≡ Some fuse
  pub named : fuse.call ≡ at.passed
  pub last : MatchBool fuse.within
      ((last : Note) × (last.cut ≡ true) × (notes ≡ whole ++ last ∷ []) × Begun G.follows true last.call last.picks at after)
      ((notes ≡ whole) × (after ≡ at))

-- The first calls are whole, and the fuse names none of them: they took their picks, are counted, and have their events. These are all, or one more began,
-- which failed: it has its event, took no pick and isn't counted.
pub record LeaveInPart {S : Type 0} (G : Meaning S) (notes : List Note) (before after : Power) : Type 0 where
  pub whole : List Note
  pub at : Power
  pub leaves : LeaveWhole G whole before at
  pub last : ((notes ≡ whole) × (after ≡ at))
      ⊎ ((call : Call) × (notes ≡ whole ++ record { call = call; cut = true; picks = [] } ∷ []) × ¬ IsNamed at × BegunInVain call at after)

-- what calls leave of power that are whole, or of which the last was cut for this cause
abbrev pub LeaveBy : {S : Type 0} → Meaning S → Option Cause → List Note → Power → Power → Type 0
LeaveBy G None notes before after = LeaveWhole G notes before after
LeaveBy G (Some PowerLoss) notes before after = LeaveCut G notes before after
LeaveBy G (Some GivenUp) notes before after = LeaveInPart G notes before after

-- whole calls are counted, where a fuse is set whose call was still to come
abbrev pub WholeAreCounted : {S : Type 0} → Meaning S → Type 0
WholeAreCounted G =
    (notes : List Note) (before after : Power) (fuse : Fuse) → LeaveWhole G notes before after → before.fuse ≡ Some fuse → fuse.call < 2 ^ 64 →
    before.passed ≤ fuse.call → (after.fuse ≡ Some fuse) × (after.passed ≡ before.passed + length notes) × (after.passed ≤ fuse.call)
