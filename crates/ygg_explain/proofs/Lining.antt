-- Lines of names with values, as a schedule's text has them.
use Rattle.std.proofs.Common.{◌≡◌, ℕ, List, [], ◌∷◌, ◌++◌, refl, ap}
use Rattle.ygg_value.specs.declared.row.Value.{Value}
use Rattle.ygg_syntax.specs.declared.tree.Declared.{Declared}
use Rattle.ygg_eval.specs.ygg_meaning.Environments.{bind}
use Rattle.ygg_sched.specs.Printing.{variable_line, variable_lines}
use Rattle.ygg_explain.specs.Lines.{env_lines}

pub lines_are : (word : List ℕ) (ds : List Declared) (vs : List Value) → env_lines word (bind ds vs) ≡ variable_lines word ds vs
lines_are word [] vs = refl
lines_are word (d ∷ ds) [] = refl
lines_are word (d ∷ ds) (v ∷ vs) = ap (λ t. variable_line word d.name.text v ++ t) (lines_are word ds vs)
