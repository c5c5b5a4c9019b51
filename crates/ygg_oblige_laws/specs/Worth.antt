-- What parts of obligations' terms are worth.
use Rattle.std.specs.Prelude.{◌≡◌, Bool, List}
use Rattle.ygg_syntax.specs.declared.tree.Declared.{Declared}
use Rattle.ygg_sym_laws.specs.ygg_meaning.Environments.{Env}
use Rattle.ygg_sym_laws.specs.ygg_meaning.Layer.{ClosedLayer}
use Rattle.ygg_sym_laws.specs.ygg_bank.Nodes.{HasWidth}
use Rattle.ygg_sym_laws.specs.ygg_bank.Values.{Values}
use Rattle.ygg_sym_laws.specs.ygg_bank.declared.node.Id.{Id}
use Rattle.ygg_sym_laws.specs.ygg_bank.declared.node.Node.{Node}
use Rattle.ygg_sym_laws.specs.ygg_shape_cells.declared.terms.SymValue.{SymValue}
use Rattle.ygg_sym_laws.specs.Meaning.{is_set}
use Rattle.ygg_sym_laws.specs.Lows.{LowShaped, low_worth}
use Rattle.ygg_oblige_laws.specs.TermStates.{Trio}

-- values of the declared shapes that are worth these names with these values
pub record LowIs (v : Values) (ds : List Declared) (want : Env) (nodes : List Node) (xs : List SymValue) : Type 0 where
  pub shaped : LowShaped nodes ds xs
  pub is : low_worth v ds xs ≡ want

-- a digit that is 1 just where this holds
pub record IsTruth (v : Values) (want : Bool) (nodes : List Node) (a : Id) : Type 0 where
  pub wide : HasWidth nodes a 1
  pub is : is_set v a ≡ want

-- a trio of values of the declared shapes
pub record TrioShaped (L : ClosedLayer) (nodes : List Node) (x : Trio) : Type 0 where
  pub vars : LowShaped nodes L.layer.state x.vars
  pub memory : LowShaped nodes L.layer.memory x.memory
  pub low : LowShaped nodes L.low x.low

-- what a trio is worth
pub record Stand : Type 0 where
  pub vars : Env
  pub memory : Env
  pub low : Env

-- the variables, the memory and the state below that a trio is worth
abbrev pub trio_worth : Values → ClosedLayer → Trio → Stand
trio_worth v L x =
    record { vars = low_worth v L.layer.state x.vars; memory = low_worth v L.layer.memory x.memory; low = low_worth v L.low x.low }
