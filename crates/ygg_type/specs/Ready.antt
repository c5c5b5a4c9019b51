-- A scope in which a layer may begin.
use Rattle.std.specs.Prelude.{◌≡◌, []}
use Rattle.ygg_type.specs.ygg_type_rules.declared.scope.Visibility.TheVariants.{Settled}
use Rattle.ygg_type.specs.ygg_type_rules.Scopes.{Scope}
use Rattle.ygg_type.specs.ygg_type_rules.Layers.{Below}

-- no variables and no local names are there yet
pub record IsReady (scope : Scope) : Type 0 where
  pub variables : scope.variables ≡ []
  pub view : scope.view ≡ Settled
  pub locals : scope.locals ≡ []

-- the machine below
abbrev pub below_in : Scope → Below
below_in scope = record { operations = scope.lower; variables = scope.low }
