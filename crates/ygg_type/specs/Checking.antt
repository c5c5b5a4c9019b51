-- What a checker has in scope.
use Rattle.std.specs.Prelude.{◌≡◌, ◌++◌}
use Rattle.ygg_type_rules.specs.Names.{Named}
use Rattle.ygg_type_rules.specs.declared.scope.Local.{Local}
use Rattle.ygg_type_rules.specs.Scopes.{Scope}
use Rattle.ygg_type.specs.declared.checker.Typer.{Typer}

-- its scope
abbrev pub scope_of : Typer → Scope
scope_of c = record { defs = c.defs; lower = c.lower; low = c.low; variables = c.variables; view = c.view; locals = c.locals }

-- a scope with these local names
abbrev pub with_locals : Named Local → Scope → Scope
with_locals locals scope = record scope { locals = locals }

-- the second scope has the first one's local names, and then others
pub record Grows (before after : Scope) : Type 0 where
  pub more : Named Local
  pub same : after ≡ with_locals (before.locals ++ more) before
