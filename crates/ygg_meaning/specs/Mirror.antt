-- When a machine's every step is shown, one to one, by a step of another.
use Rattle.std.specs.Prelude.{◌≡◌, List, [], ◌++◌}
use Rattle.ygg_value.specs.declared.row.Value.{Value}
use Rattle.ygg_meaning.specs.Environments.{Name}
use Rattle.ygg_meaning.specs.Progress.{Answer}
use Rattle.ygg_meaning.specs.Machine.{State, TickName, Machine}

-- equal memories on bases of which the one shows the other
pub record SameOn {B C : Type 0} (R : C → B → Type 0) (t : State C) (s : State B) : Type 0 where
  pub memories : t.memories ≡ s.memories
  pub bases : R t.base s.base

-- what is noted of two steps is related so that nothing goes with nothing, and what comes after one another with what does
pub record IsJoined {X Y : Type 0} (Q : List X → List Y → Type 0) : Type 0 where
  pub none : Q [] []
  pub append : (a c : List X) (b d : List Y) → Q a b → Q c d → Q (a ++ c) (b ++ d)

-- the machine, which is formatted only where P holds
abbrev pub FormattedIf : {B X : Type 0} → Type 0 → Machine B X → Machine B X
FormattedIf P M = record M { Starts = λ s notes. P × M.Starts s notes }

-- Each step of M from a state that N shows has a step of N of the same kind, with the same arguments and answer, to one that shows
-- what M's step leads to, and what is noted of both is related.
pub record Mirrors {B X C Y : Type 0} (R : C → B → Type 0) (Q : List X → List Y → Type 0) (M : Machine B X) (N : Machine C Y) : Type 0 where
  pub starts : (s : State B) (a : List X) → M.Starts s a → (t : State C) × (b : List Y) × N.Starts t b × SameOn R t s × Q a b
  pub calls : (t : State C) (s s' : State B) (name : Name) (args : List Value) (a : List X) (answer : Answer) → SameOn R t s → M.Calls s name args a answer s' →
      (t' : State C) × (b : List Y) × N.Calls t name args b answer t' × SameOn R t' s' × Q a b
  pub falls : (t : State C) (s : State B) (name : Name) (args : List Value) (a : List X) (f : B) → SameOn R t s → M.Falls s name args a f →
      (g : C) × (b : List Y) × N.Falls t name args b g × R g f × Q a b
  pub ticks : (t : State C) (s s' : State B) (name : TickName) (a : List X) → SameOn R t s → M.Ticks s name a s' →
      (t' : State C) × (b : List Y) × N.Ticks t name b t' × SameOn R t' s' × Q a b
  pub tick_falls : (t : State C) (s : State B) (name : TickName) (a : List X) (f : B) → SameOn R t s → M.TickFalls s name a f →
      (g : C) × (b : List Y) × N.TickFalls t name b g × R g f × Q a b
  pub loses : (t : State C) (s : State B) (a : List X) (f : B) → SameOn R t s → M.Loses s a f → (g : C) × (b : List Y) × N.Loses t b g × R g f × Q a b
  pub wakes : (g : C) (f : B) (a : List X) (s : State B) → R g f → M.Wakes f a s → (t : State C) × (b : List Y) × N.Wakes g b t × SameOn R t s × Q a b
  pub wake_falls : (g : C) (f f' : B) (a : List X) → R g f → M.WakeFalls f a f' → (g' : C) × (b : List Y) × N.WakeFalls g b g' × R g' f' × Q a b
