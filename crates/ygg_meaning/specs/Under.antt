-- When a machine does nothing that another can't do.
use Rattle.std.specs.Prelude.{◌≡◌, List, [], ◌∷◌}
use Rattle.ygg_value.specs.declared.row.Value.{Value}
use Rattle.ygg_meaning.specs.Environments.{Name}
use Rattle.ygg_meaning.specs.Progress.{Answer}
use Rattle.ygg_meaning.specs.Machine.{State, TickName, Machine}

-- any number of recoveries in which power fails, after which the end holds of what is left; the list has what each of them left
abbrev pub AfterWakeFalls : {B X : Type 0} → Machine B X → B → List B → (B → Type 0) → Type 0
AfterWakeFalls M f [] End = End f
AfterWakeFalls {B} {X} M f (f' ∷ fs) End = (notes : List X) × M.WakeFalls f notes f' × AfterWakeFalls M f' fs End

-- any number of recoveries in which power fails, and then a whole one
abbrev pub WakesAfter : {B X : Type 0} → Machine B X → B → List B → State B → Type 0
WakesAfter {B} {X} M f fs s = AfterWakeFalls M f fs (λ f'. (notes : List X) × M.Wakes f' notes s)

-- from a fallen to a running state, by any number of failed recoveries and a whole one
abbrev pub Woken : {B X : Type 0} → Machine B X → B → State B → Type 0
Woken {B} {X} M f s = (fs : List B) × WakesAfter M f fs s

-- from one fallen state to another, by any number of failed recoveries
abbrev pub StaysFallen : {B X : Type 0} → Machine B X → B → B → Type 0
StaysFallen {B} {X} M f f' = (fs : List B) × AfterWakeFalls M f fs (λ left. left ≡ f')

-- how power fails while a machine runs: within an operation, within a background step, or between operations
pub data Failure : Type 0 where
  InCall : (name : Name) (args : List Value) → Failure
  InTick : (name : TickName) → Failure
  Between : Failure

-- power fails so
abbrev pub FailsBy : {B X : Type 0} → Machine B X → Failure → State B → List X → B → Type 0
FailsBy M (InCall name args) s notes f = M.Falls s name args notes f
FailsBy M (InTick name) s notes f = M.TickFalls s name notes f
FailsBy M Between s notes f = M.Loses s notes f

-- power fails so, and the machine is woken
pub record Survives {B X : Type 0} (M : Machine B X) (how : Failure) (s : State B) (s' : State B) : Type 0 where
  pub notes : List X
  pub fallen : B
  pub fails : FailsBy M how s notes fallen
  pub woken : Woken M fallen s'

-- M is under N by a relation of N's running states and M's: each step of M has a step of N of the same kind, with the same arguments and answer, to
-- related states
pub record Under {B X C Y : Type 0} (M : Machine B X) (N : Machine C Y) (R : State C → State B → Type 0) : Type 0 where
  pub starts : (s : State B) (notes : List X) → M.Starts s notes → (t : State C) × (notes' : List Y) × N.Starts t notes' × R t s
  pub calls : (t : State C) (s s' : State B) (name : Name) (args : List Value) (notes : List X) (answer : Answer) → R t s →
      M.Calls s name args notes answer s' →
      (t' : State C) × (notes' : List Y) × N.Calls t name args notes' answer t' × R t' s'
  pub ticks : (t : State C) (s s' : State B) (name : TickName) (notes : List X) → R t s → M.Ticks s name notes s' →
      (t' : State C) × (notes' : List Y) × N.Ticks t name notes' t' × R t' s'
  pub survives : (t : State C) (s s' : State B) (how : Failure) → R t s → Survives M how s s' → (t' : State C) × Survives N how t t' × R t' s'
