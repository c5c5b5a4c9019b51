-- What calls on a ground do: the steps of the disk whose state it tells, and what they leave of `power`.
use Rattle.std.specs.Prelude.{◌≡◌, ℕ, Bool, true, false, List, Option, Some, None, MatchBool, Result, Ok, Err, IfOk, ◌↔◌}
use Rattle.std.specs.Option.{option_map}
use Rattle.ygg_base.specs.Outside.{Rose}
use Rattle.ygg_list.specs.declared.memory.NoMemory.{NoMemory}
use Rattle.ygg_value.specs.Shapes.{shape_of}
use Rattle.ygg_value.specs.declared.row.Value.TheVariants as value
use Rattle.ygg_value.specs.declared.shape.Shape.{Shape}
use Rattle.ygg_disk.specs.Disk.{Call, Reply}
use Rattle.ygg_disk.specs.Kinds.{Disk, model_of}
use Rattle.ygg_disk.specs.Power.{Begun, BegunInVain, IsNamed}
use Rattle.ygg_disk.specs.declared.power.Fuse.{Fuse}
use Rattle.ygg_disk.specs.declared.power.Power.{Power}
use Rattle.ygg_disk.specs.declared.turn.Turn.{Turn}
use Rattle.ygg_disk.specs.declared.turn.Turn.TheVariants as turn

-- such a disk loses power between calls
abbrev pub disk_lost : Disk → Disk
disk_lost d = record { kind = d.kind; state = (model_of d.kind).lost d.state }

-- where a state is told, a whole call is a step of that disk and the state stays told; what isn't told stays untold
abbrev pub TellsCall : Option Disk → Call → List Bool → Reply → Option Disk → Type 0
TellsCall None call picks reply after = after ≡ None
TellsCall (Some d) call picks reply after =
    (state : (model_of d.kind).State) × (after ≡ Some (record { kind = d.kind; state = state })) × (model_of d.kind).Calls d.state call picks reply state

-- the same where power fails within a call
abbrev pub TellsFall : Option Disk → Call → List Bool → Option Disk → Type 0
TellsFall None call picks after = after ≡ None
TellsFall (Some d) call picks after =
    (state : (model_of d.kind).State) × (after ≡ Some (record { kind = d.kind; state = state })) × (model_of d.kind).Falls d.state call picks state

-- what a ground of the states S means
pub record Meaning (S : Type 0) : Type 1 where
  -- the state of a stated disk, where it tells one
  pub told : S → Option Disk
  -- the shape of its rows
  pub row : S → Shape
  -- how many faults there were
  pub faults : S → ℕ
  -- whether it can lose power
  pub can_lose : Bool
  -- whether its steps have the picks that `power` names, as those of a disk in memory have; else they have some picks
  pub follows : Bool
  -- what a whole call answers, with which picks, and what it leaves
  pub Calls : S → Call → List Bool → Reply → S → Type 0
  -- what power that fails within a call leaves, with which picks
  pub Falls : S → Call → List Bool → S → Type 0
  -- what power that fails between calls leaves
  pub Loses : S → S → Type 0
  -- what a call leaves that failed or found no memory
  pub Breaks : S → Call → S → Type 0

-- a whole call on a ground, which is a step of the disk whose state is told
pub record Whole {S : Type 0} (G : Meaning S) (call : Call) (reply : Reply) (before after : S) (power power' : Power) : Type 0 where
  pub picks : List Bool
  pub step : G.Calls before call picks reply after
  pub told : TellsCall (G.told before) call picks reply (G.told after)
  pub leaves : Begun G.follows false call picks power power'

-- power fails within a call on a ground
pub record Cut {S : Type 0} (G : Meaning S) (call : Call) (before after : S) (power power' : Power) : Type 0 where
  pub picks : List Bool
  pub step : G.Falls before call picks after
  pub told : TellsFall (G.told before) call picks (G.told after)
  pub leaves : Begun G.follows true call picks power power'

-- power fails between calls on a ground
pub record Lost {S : Type 0} (G : Meaning S) (before after : S) : Type 0 where
  pub step : G.Loses before after
  pub told : G.told after ≡ option_map disk_lost (G.told before)

-- power fails before a call, which then doesn't begin and leaves `power` as it was
pub record Stopped {S : Type 0} (G : Meaning S) (before after : S) (power power' : Power) : Type 0 where
  pub lost : Lost G before after
  pub leaves : power' ≡ power

-- power fails within a call or before it, as the fuse says
abbrev pub Down : {S : Type 0} → Meaning S → Call → S → S → Power → Power → Type 0
Down G call before after power power' = goes power.fuse where
  goes : Option Fuse → Type 0
  goes None = ⊥
  goes (Some f) = MatchBool f.within (Cut G call before after power power') (Stopped G before after power power')

-- what lies below a ground failed, and its count of faults has risen
pub record Failed {S : Type 0} (G : Meaning S) (call : Call) (before after : S) (power power' : Power) : Type 0 where
  pub cause : Rose (G.faults before) (G.faults after)
  pub breaks : G.Breaks before call after
  pub leaves : BegunInVain call power power'

-- no memory was left for a call, which leaves `power` as it was
pub record Starved {S : Type 0} (G : Meaning S) (call : Call) (before after : S) (power power' : Power) : Type 0 where
  pub breaks : G.Breaks before call after
  pub leaves : power' ≡ power

-- what a call on a ground did, by how it ended; only rows are answers
abbrev pub Turns : {S : Type 0} → Meaning S → Call → S → S → Power → Power → Result Turn NoMemory → Type 0
Turns G call before after power power' (Ok turn.Done) = Whole G call None before after power power'
Turns G call before after power power' (Ok (turn.Answer (value.Row row))) = Whole G call (Some row) before after power power'
Turns G call before after power power' (Ok (turn.Answer (value.Word word))) = ⊥
Turns G call before after power power' (Ok (turn.Answer (value.Table table))) = ⊥
Turns G call before after power power' (Ok turn.Down) = Down G call before after power power'
Turns G call before after power power' (Ok turn.Failed) = Failed G call before after power power'
Turns G call before after power power' (Err e) = Starved G call before after power power'

-- `Down` comes exactly where the fuse names this call, but for being out of memory
abbrev pub IsDownWhereNamed : Power → Result Turn NoMemory → Type 0
IsDownWhereNamed power result = IfOk result (λ t. (t ≡ turn.Down) ↔ IsNamed power)

-- what is answered to a read that is whole: a row of this shape
abbrev pub AnswersRow : Shape → Result Turn NoMemory → Type 0
AnswersRow shape (Ok turn.Done) = ⊥
AnswersRow shape (Ok (turn.Answer v)) = shape_of v ≡ shape
AnswersRow shape (Ok turn.Down) = Unit {0}
AnswersRow shape (Ok turn.Failed) = Unit {0}
AnswersRow shape (Err e) = Unit {0}

-- a call that is whole has no answer
abbrev pub AnswersNothing : Result Turn NoMemory → Type 0
AnswersNothing (Ok turn.Done) = Unit {0}
AnswersNothing (Ok (turn.Answer v)) = ⊥
AnswersNothing (Ok turn.Down) = Unit {0}
AnswersNothing (Ok turn.Failed) = Unit {0}
AnswersNothing (Err e) = Unit {0}
