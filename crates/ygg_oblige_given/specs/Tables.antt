-- What a table of inputs says.
use Rattle.std.specs.Prelude.{ℕ, List, map}
use Rattle.ygg_value.specs.declared.row.Value.{Value}
use Rattle.ygg_syntax.specs.declared.tree.Declared.{Declared}
use Rattle.ygg_oblige_laws.specs.ygg_meaning.Environments.{Name}
use Rattle.ygg_oblige_laws.specs.ygg_bank.Values.{Inputs}
use Rattle.ygg_oblige_laws.specs.Inputs.{given_env}
use Rattle.ygg_oblige_given.specs.Ones.{number_at}
use Rattle.ygg_oblige_given.specs.declared.table.InputTable.{InputTable}

-- the numbers that inputs have
abbrev pub inputs_in : InputTable → Inputs
inputs_in table = number_at table.numbers.items

-- the values that inputs give to declared names, numbered on from a number
abbrev pub given_values : Inputs → ℕ → List Declared → List Value
given_values inputs number ds = map (λ (b : Name × Value). b.1) (given_env inputs number ds)
