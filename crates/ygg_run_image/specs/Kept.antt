-- What each step of a machine keeps of its base.
use Rattle.std.specs.Prelude.{List}
use Rattle.ygg_value.specs.declared.row.Value.{Value}
use Rattle.ygg_machine.specs.ygg_meaning.Environments.{Name}
use Rattle.ygg_machine.specs.ygg_meaning.Progress.{Answer}
use Rattle.ygg_machine.specs.ygg_meaning.Machine.{State, TickName, Machine}

-- the machine starts so, and each of its steps keeps it, whole or cut
pub record Keeps {B X : Type 0} (I : B → Type 0) (M : Machine B X) : Type 0 where
  pub starts : (s : State B) (notes : List X) → M.Starts s notes → I s.base
  pub calls : (s : State B) (name : Name) (args : List Value) (notes : List X) (answer : Answer) (s' : State B) → I s.base →
      M.Calls s name args notes answer s' → I s'.base
  pub falls : (s : State B) (name : Name) (args : List Value) (notes : List X) (f : B) → I s.base → M.Falls s name args notes f → I f
  pub ticks : (s : State B) (name : TickName) (notes : List X) (s' : State B) → I s.base → M.Ticks s name notes s' → I s'.base
  pub tick_falls : (s : State B) (name : TickName) (notes : List X) (f : B) → I s.base → M.TickFalls s name notes f → I f
  pub loses : (s : State B) (notes : List X) (f : B) → I s.base → M.Loses s notes f → I f
  pub wakes : (f : B) (notes : List X) (s : State B) → I f → M.Wakes f notes s → I s.base
  pub wake_falls : (f : B) (notes : List X) (f' : B) → I f → M.WakeFalls f notes f' → I f'
