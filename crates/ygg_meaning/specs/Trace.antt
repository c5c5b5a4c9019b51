-- Everything that happens to a machine, one thing after another, with what is noted of each.
use Rattle.std.specs.Prelude.{◌≡◌, List, [], ◌∷◌, ◌++◌}
use Rattle.ygg_value.specs.declared.row.Value.{Value}
use Rattle.ygg_meaning.specs.Environments.{Name}
use Rattle.ygg_meaning.specs.Progress.{Answer}
use Rattle.ygg_meaning.specs.Machine.{State, TickName, Machine}
use Rattle.ygg_meaning.specs.Under.{Failure, FailsBy}
use Rattle.ygg_meaning.specs.History.{Entry, Called, Ticked}
use Rattle.ygg_meaning.specs.Left.{entry_of}

-- a machine that runs, or one that has fallen
pub data Standing (B : Type 0) : Type 0 where
  Up : (state : State B) → Standing B
  Down : (base : B) → Standing B

-- one thing that happens, with what is noted of it
pub data Moment (X : Type 0) : Type 0 where
  -- a whole operation, with its answer
  Calls : (name : Name) (args : List Value) (answer : Answer) (notes : List X) → Moment X
  -- a whole background step
  Ticks : (name : TickName) (notes : List X) → Moment X
  -- power fails
  Fails : (how : Failure) (notes : List X) → Moment X
  -- power fails within a recovery
  WakeFails : (notes : List X) → Moment X
  -- a whole recovery
  Wakes : (notes : List X) → Moment X

-- it leads from here to there
abbrev pub Leads : {B X : Type 0} → Machine B X → Moment X → Standing B → Standing B → Type 0
Leads M (Calls name args answer notes) (Up s) (Up s') = M.Calls s name args notes answer s'
Leads M (Ticks name notes) (Up s) (Up s') = M.Ticks s name notes s'
Leads M (Fails how notes) (Up s) (Down f) = FailsBy M how s notes f
Leads M (WakeFails notes) (Down f) (Down f') = M.WakeFalls f notes f'
Leads M (Wakes notes) (Down f) (Up s) = M.Wakes f notes s
Leads M _ _ _ = ⊥

-- the moments in turn lead from here to there
abbrev pub Traces : {B X : Type 0} → Machine B X → Standing B → List (Moment X) → Standing B → Type 0
Traces M from [] to = from ≡ to
Traces {B} {X} M from (m ∷ ms) to = (next : Standing B) × Leads M m from next × Traces M next ms to

-- the entry of a moment: a recovery has none
abbrev pub entry_in : {X : Type 0} → Moment X → List Entry
entry_in (Calls name args answer notes) = Called name args answer ∷ []
entry_in (Ticks name notes) = Ticked name ∷ []
entry_in (Fails how notes) = entry_of how ∷ []
entry_in (WakeFails notes) = []
entry_in (Wakes notes) = []

-- what a history tells of the moments
abbrev pub entries_of : {X : Type 0} → List (Moment X) → List Entry
entries_of [] = []
entries_of (m ∷ ms) = entry_in m ++ entries_of ms
