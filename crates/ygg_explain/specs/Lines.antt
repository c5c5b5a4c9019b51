-- Lines of names and values.
use Rattle.std.specs.Prelude.{ℕ, List, [], ◌∷◌, ◌++◌, codes}
use Rattle.std.specs.Fmt.{decimal}
use Rattle.ygg_value.specs.declared.row.Value.{Value}
use Rattle.ygg_syntax.specs.declared.tree.Place.{Place}
use Rattle.ygg_eval.specs.ygg_meaning.Environments.{Env}
use Rattle.ygg_sched.specs.Values.{value_text}
use Rattle.ygg_sched.specs.Printing.{variable_line}

-- the line of each name with its value, in order
abbrev pub env_lines : List ℕ → Env → List ℕ
env_lines word [] = []
env_lines word (b ∷ env) = variable_line word b.0 b.1 ++ env_lines word env

-- a place in a file
abbrev pub place_text : Place → List ℕ
place_text at = decimal at.line ++ codes ":" ++ decimal at.column

-- two values, each after a space
abbrev pub both_text : Value → Value → List ℕ
both_text v w = codes " " ++ value_text v ++ codes " " ++ value_text w
