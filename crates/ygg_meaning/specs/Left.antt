-- What a disk may hold when it is found again.
use Rattle.std.specs.Prelude.{◌≡◌, List, [], ◌∷◌, ◌++◌, codes}
use Rattle.ygg_value.specs.Number.{Grid}
use Rattle.ygg_value.specs.declared.row.Value.TheVariants.{Table}
use Rattle.ygg_syntax.specs.declared.tree.File.{File}
use Rattle.ygg_meaning.specs.Environments.{Env, look_up}
use Rattle.ygg_meaning.specs.Machine.{Picks, State}
use Rattle.ygg_meaning.specs.Stack.{BottomOf}
use Rattle.ygg_meaning.specs.Under.{Failure, InCall, InTick, Between, FailsBy, StaysFallen}
use Rattle.ygg_meaning.specs.History.{Entry, Cut, CutTick, Lost, History}

-- the entry of a failure
abbrev pub entry_of : Failure → Entry
entry_of (InCall name args) = Cut name args
entry_of (InTick name) = CutTick name
entry_of Between = Lost

-- After these entries, of which the last is still open, the disk may hold these rows: the entries before the last are a history, power
-- then fails in the last, and any number of recoveries fail.
pub record Left (f : File) (es : List Entry) (rows : Grid) : Type 0 where
  pub before : List Entry
  pub how : Failure
  pub is : es ≡ before ++ entry_of how ∷ []
  pub state : State Env
  pub history : History (BottomOf f) before state
  pub picks : Picks
  pub fallen : Env
  pub fails : FailsBy (BottomOf f) how state picks fallen
  pub left : Env
  pub stays : StaysFallen (BottomOf f) fallen left
  pub shows : look_up (codes "view") left ≡ Table rows
