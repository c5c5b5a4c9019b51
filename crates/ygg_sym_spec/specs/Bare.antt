-- Scopes without operations below: what a block of a specification, which calls none, is typed in as well.
use Rattle.std.specs.Prelude.{[]}
use Rattle.ygg_sym_runs.specs.ygg_type_rules.Scopes.{Scope}

-- the same scope, with no operation below
abbrev pub bare : Scope → Scope
bare scope = record scope { lower = [] }
