-- What is done to a machine by one command or one waking, whole or cut by power, and what it leaves of `power`.
use Rattle.std.specs.Prelude.{◌≡◌, ◌≤◌, Bool, true, false, List, [], ◌∷◌, ◌++◌, All, Some, None, MatchBool}
use Rattle.ygg_value.specs.declared.row.Value.{Value}
use Rattle.ygg_run_play.specs.ygg_disk.Power.{Begun}
use Rattle.ygg_run_play.specs.ygg_disk.declared.power.Fuse.{Fuse}
use Rattle.ygg_run_play.specs.ygg_disk.declared.power.Power.{Power}
use Rattle.ygg_run_play.specs.ygg_meaning.Environments.{Name, Env}
use Rattle.ygg_run_play.specs.ygg_meaning.Progress.{Answer}
use Rattle.ygg_run_play.specs.ygg_meaning.Machine.{State, TickName, Machine}
use Rattle.ygg_run_play.specs.ygg_meaning.Noted.{Note}
use Rattle.ygg_run_play.specs.ygg_meaning.Trace.{Standing, Up, Down, Moment, Calls, Ticks, Fails, WakeFails, Wakes, Leads}
use Rattle.ygg_run_play.specs.ygg_meaning.Under.{InCall, InTick}
use Rattle.ygg_run_play.specs.declared.scene.CommandOutcome.{CommandOutcome}
use Rattle.ygg_run_play.specs.declared.scene.CommandOutcome.TheVariants as outcome

-- what is done: where it begins, whether it is silent and gives no answer, and the moment that it is, whole with an answer or cut by power
pub record Deed : Type 0 where
  pub from : State Env → Standing Env
  pub silent : Bool
  pub whole : Answer → List Note → Moment Note
  pub cut : List Note → Moment Note

-- an operation is called
abbrev pub calling : Name → List Value → Deed
calling name args = record { from = Up; silent = false; whole = Calls name args; cut = Fails (InCall name args) }

-- a background step is made, which gives no answer
abbrev pub ticking : TickName → Deed
ticking name = record { from = Up; silent = true; whole = λ answer notes. Ticks name notes; cut = Fails (InTick name) }

-- after power failed everything is woken, which gives no answer
abbrev pub waking : Deed
waking = record { from = λ s. Down s.base; silent = true; whole = λ answer notes. Wakes notes; cut = WakeFails }

-- it may give this answer
abbrev pub Gives : Deed → Answer → Type 0
Gives deed answer = MatchBool deed.silent (answer ≡ None) (Unit {0})

-- what the disk calls of these notes leave of `power`, one after another
abbrev pub Leave : List Note → Power → Power → Type 0
Leave [] before after = after ≡ before
Leave (n ∷ ns) before after = (next : Power) × Begun true n.cut n.call n.picks before next × Leave ns next after

-- the disk calls were whole
abbrev pub AreWhole : List Note → Type 0
AreWhole = All (λ (n : Note). n.cut ≡ false)

-- the disk calls were whole, but for the last one where power failed within a call
abbrev pub AreCut : (within : Bool) → List Note → Type 0
AreCut within notes =
    (whole : List Note) × AreWhole whole × MatchBool within ((last : Note) × (last.cut ≡ true) × (notes ≡ whole ++ last ∷ [])) (notes ≡ whole)

module _ (M : Machine Env Note) (deed : Deed) (from : State Env) (before : Power) where
  -- it was whole, and a fuse whose call was still to come isn't passed by
  pub record Whole (answer : Answer) (to : State Env) (after : Power) : Type 0 where
    pub notes : List Note
    pub gives : Gives deed answer
    pub leads : Leads M (deed.whole answer notes) (deed.from from) (Up to)
    pub are_whole : AreWhole notes
    pub left : Leave notes before after
    pub unreached : (fuse : Fuse) → before.fuse ≡ Some fuse → before.passed ≤ fuse.call → after.passed ≤ fuse.call

  -- power failed in it, at the call that the fuse names
  pub record Cut (to : State Env) (after : Power) : Type 0 where
    pub notes : List Note
    pub leads : Leads M (deed.cut notes) (deed.from from) (Down to.base)
    pub left : Leave notes before after
    pub fuse : Fuse
    pub is : before.fuse ≡ Some fuse
    pub at : AreCut fuse.within notes
    pub named : after.passed ≡ fuse.call

  -- how it ended
  abbrev pub Ends : CommandOutcome → State Env → Power → Type 0
  Ends (outcome.Whole answer) to after = Whole answer to after
  Ends outcome.Down to after = Cut to after

-- what holds after a whole deed, and what after power failed
abbrev pub After : CommandOutcome → (Runs Stands : Type 0) → Type 0
After (outcome.Whole answer) Runs Stands = Runs
After outcome.Down Runs Stands = Stands

-- Power that fails after the last disk call of something, before it returns, cuts it there: what is whole and then loses power is also a fall.
pub record FallsAfterAll (M : Machine Env Note) : Type 0 where
  pub calls : (s s' : State Env) (name : Name) (args : List Value) (notes : List Note) (answer : Answer) (fallen : Env) →
      M.Calls s name args notes answer s' → M.Loses s' [] fallen → M.Falls s name args notes fallen
  pub ticks : (s s' : State Env) (name : TickName) (notes : List Note) (fallen : Env) →
      M.Ticks s name notes s' → M.Loses s' [] fallen → M.TickFalls s name notes fallen
  pub wakes : (base : Env) (s' : State Env) (notes : List Note) (fallen : Env) →
      M.Wakes base notes s' → M.Loses s' [] fallen → M.WakeFalls base notes fallen
