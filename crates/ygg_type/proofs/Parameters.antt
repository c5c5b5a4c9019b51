-- What is left of a scope where the local names are forgotten.
use Rattle.std.proofs.Common.{◌≡◌, List, [], ◌∷◌, refl, ap, ◌∙◌}
use Rattle.ygg_syntax.specs.declared.tree.Declared.{Declared}
use Rattle.ygg_syntax.specs.declared.tree.Def.{Def}
use Rattle.ygg_type.specs.ygg_type_rules.Names.{Named}
use Rattle.ygg_type.specs.ygg_type_rules.declared.scope.Signature.{Signature}
use Rattle.ygg_type.specs.ygg_type_rules.Scopes.{Scope}
use Rattle.ygg_type.specs.ygg_type_rules.Definitions.{with_parameter, with_parameters, definition_scope, with_definition}
use Rattle.ygg_type.specs.Checking.{Grows}
use Rattle.ygg_type.proofs.Restored.{grows_same, grows_on, grows_local}

-- parameters are names at the end
pub grows_parameters : (ps : List Declared) (scope : Scope) → Grows scope (with_parameters ps scope)
grows_parameters [] scope = grows_same scope scope refl
grows_parameters (p ∷ ps) scope =
    grows_on scope (with_parameter p scope) (with_parameters ps (with_parameter p scope)) (grows_local scope (with_parameter p scope) _ _ _ refl)
    (grows_parameters ps (with_parameter p scope))

pub grows_with : (ps : List Declared) (before after : Scope) → after ≡ with_parameters ps before → Grows before after
grows_with ps before after e = let g = grows_parameters ps before in record { more = g.more; same = e ∙ g.same }

-- the scope after a definition, which has forgotten its parameters
abbrev defined : Def → Scope → Scope
defined d scope = record scope { defs = with_definition d scope.defs; locals = [] }

pub after_definition : (d : Def) (before within after : Scope) (defs : Named Signature) → before ≡ definition_scope defs →
    within ≡ with_parameters d.parameters before → after ≡ defined d within
    → after ≡ definition_scope (with_definition d defs)
after_definition d before within after defs is parameters forgotten = forgotten
    ∙ ap (defined d) (parameters ∙ (grows_parameters d.parameters before).same) ∙ ap (defined d) is
