-- The first of a name.
use Rattle.std.specs.Prelude.{ℕ, ◌+◌, if◌then◌else◌, [], ◌∷◌, Option, Some, None}
use Rattle.std.specs.Str.{bytes_eq}
use Rattle.ygg_eval_expr.specs.ygg_meaning.Environments.{Name, Env}

-- the place of the first of a name, where the first of these has this place
abbrev pub first_place : ℕ → Env → Name → Option ℕ
first_place place [] name = None
first_place place (b ∷ env) name = if bytes_eq b.0 name then Some place else first_place (place + 1) env name
