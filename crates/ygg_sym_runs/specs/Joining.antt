-- What lets the ends of two sides be merged.
use Rattle.std.specs.Prelude.{List}
use Rattle.ygg_sym_runs.specs.ygg_bank.declared.node.Id.{Id}
use Rattle.ygg_sym_runs.specs.ygg_bank.declared.node.Node.{Node}
use Rattle.ygg_sym_runs.specs.Names.{SymEnv}
use Rattle.ygg_sym_runs.specs.Lower.{SymMeaning, CanMerge}
use Rattle.ygg_sym_runs.specs.Ready.{CanJoin}

-- the names of both ends go together, and so do the states
pub record CanJoinEnds {S : Type 0} (M : SymMeaning S) (nodes : List Node) (t : Id) (one two : SymEnv) (s z : S) : Type 0 where
  pub names : CanJoin nodes t one two
  pub states : CanMerge M nodes t s z
