-- Values of terms for declared names: the state of a machine below.
use Rattle.std.specs.Prelude.{List, [], ◌∷◌, map}
use Rattle.ygg_syntax.specs.declared.tree.Declared.{Declared}
use Rattle.ygg_sym_runs.specs.ygg_meaning.Environments.{Env, bind}
use Rattle.ygg_sym_runs.specs.ygg_meaning.Shapes.{shape_in}
use Rattle.ygg_sym_runs.specs.ygg_rules.declared.rule.RuleKind.{RuleKind}
use Rattle.ygg_sym_runs.specs.ygg_bank.Makes.{Make}
use Rattle.ygg_sym_runs.specs.ygg_bank.Values.{Values}
use Rattle.ygg_sym_runs.specs.ygg_bank.declared.node.Id.{Id}
use Rattle.ygg_sym_runs.specs.ygg_bank.declared.node.Node.{Node}
use Rattle.ygg_sym_runs.specs.ygg_shape_cells.Lists.{each_two}
use Rattle.ygg_sym_runs.specs.ygg_shape_cells.Making.{merged}
use Rattle.ygg_sym_runs.specs.ygg_shape_cells.Terms.{worth}
use Rattle.ygg_sym_runs.specs.ygg_shape_cells.declared.terms.SymValue.{SymValue}
use Rattle.ygg_sym_runs.specs.ygg_shape_cells.Terms.{IsShaped}
use Rattle.ygg_sym_runs.specs.ygg_shape_joins.Joining.{joined}

-- there is a value for each declared name, of its shape, whose terms stand among the nodes
abbrev pub LowShaped : List Node → List Declared → List SymValue → Type 0
LowShaped nodes [] [] = Unit {0}
LowShaped nodes (d ∷ ds) (x ∷ xs) = IsShaped nodes (shape_in d.shape) x × LowShaped nodes ds xs
LowShaped nodes _ _ = ⊥

-- the names with what the values are worth
abbrev pub low_worth : Values → List Declared → List SymValue → Env
low_worth v ds xs = bind ds (map (worth v) xs)

-- one of two states by a test, value by value
abbrev pub merge_lows : List RuleKind → Id → List SymValue → List SymValue → Make (List SymValue)
merge_lows kinds t = each_two (merged kinds t)

-- the same, where picks of one word under two tests are one pick
abbrev pub join_lows : List RuleKind → Id → List SymValue → List SymValue → Make (List SymValue)
join_lows kinds t = each_two (joined kinds t)
