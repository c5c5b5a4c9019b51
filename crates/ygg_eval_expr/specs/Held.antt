-- Values that are made or lent, and what names stand for.
use Rattle.std.specs.Prelude.{List, map}
use Rattle.ygg_value.specs.declared.row.Value.{Value}
use Rattle.ygg_meaning_laws.specs.Environments.{Env}
use Rattle.ygg_eval_expr.specs.declared.held.Binding.{Binding}
use Rattle.ygg_eval_expr.specs.declared.held.CowValue.{CowValue}
use Rattle.ygg_eval_expr.specs.declared.held.CowValue.TheVariants.{Made, Lent}

-- the value that is made or lent
abbrev pub held_value : CowValue → Value
held_value (Made v) = v
held_value (Lent v) = v.now

-- several of them
abbrev pub held_values : List CowValue → List Value
held_values = map held_value

-- names with values
abbrev pub env_of : List Binding → Env
env_of = map (λ (b : Binding). (b.name.now, held_value b.held))
