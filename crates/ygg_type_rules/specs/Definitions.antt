-- The type errors of types, of declared names, and of definitions.
use Rattle.std.specs.Prelude.{ℕ, true, false, not, List, [], ◌∷◌, ◌++◌, map, Option, Some, None}
use Rattle.ygg_base.specs.declared.reason.Reason.TheVariants as reason
use Rattle.ygg_value.specs.declared.shape.Shape.{Shape}
use Rattle.ygg_syntax.specs.declared.tree.TypeText.{TypeText}
use Rattle.ygg_syntax.specs.declared.tree.TypeText.TheVariants as text
use Rattle.ygg_syntax.specs.declared.tree.Declared.{Declared}
use Rattle.ygg_syntax.specs.declared.tree.Def.{Def}
use Rattle.ygg_syntax.specs.declared.tree.Expr.{Expr}
use Rattle.ygg_syntax.specs.Weights.{weights_of, expr_weight}
use Rattle.ygg_type_rules.specs.Names.{Named, has, added}
use Rattle.ygg_type_rules.specs.declared.scope.Signature.{Signature}
use Rattle.ygg_type_rules.specs.declared.scope.Visibility.TheVariants.{Definition}
use Rattle.ygg_type_rules.specs.TypeErrors.{TypeErrors, nothing, both, unless}
use Rattle.ygg_type_rules.specs.Limits.{width_fits, words_fit, rows_fit, words_fit_in, weight_fits}
use Rattle.ygg_type_rules.specs.Shapes.{shape_of}
use Rattle.ygg_type_rules.specs.Scopes.{Scope, is_taken, with_local}
use Rattle.ygg_type_rules.specs.Expressions.{typing, expected_errors}

-- a type: `Width` at a width unless 1 to 64; `Limit` at the words of a row unless 1 to 64; `Limit` at the rows of a table unless 1 to 256, and
-- at its words unless 1 to 64 and at most 4,096 in all
abbrev pub type_text_errors : TypeText → TypeErrors
type_text_errors (text.Word w) = unless (width_fits w.value) reason.Width w.place
type_text_errors (text.Row m w) = both (unless (words_fit m.value) reason.Limit m.place) (unless (width_fits w.value) reason.Width w.place)
type_text_errors (text.Table n m w) =
    both (unless (rows_fit n.value) reason.Limit n.place)
    (both (unless (words_fit_in n.value m.value) reason.Limit m.place) (unless (width_fits w.value) reason.Width w.place))

-- an answer's type, if there is one
abbrev pub answer_type_errors : Option TypeText → TypeErrors
answer_type_errors None = nothing
answer_type_errors (Some t) = type_text_errors t

-- with a parameter or an argument
abbrev pub with_parameter : Declared → Scope → Scope
with_parameter p = with_local p.name.text (shape_of p.shape) false

-- with all of them, in order
abbrev pub with_parameters : List Declared → Scope → Scope
with_parameters [] scope = scope
with_parameters (p ∷ ps) scope = with_parameters ps (with_parameter p scope)

-- parameters or arguments: `Twice` at a name that is taken
abbrev pub parameters_errors : List Declared → Scope → TypeErrors
parameters_errors [] scope = nothing
parameters_errors (p ∷ ps) scope =
    both (both (unless (not (is_taken p.name.text scope)) reason.Twice p.name.place) (type_text_errors p.shape)) (parameters_errors ps (with_parameter p scope))

-- the shapes of parameters or arguments
abbrev pub parameter_shapes : List Declared → List (Option Shape)
parameter_shapes = map (λ (p : Declared). shape_of p.shape)

-- an expression of a declaration that wants this shape, with this weight: `TooLong` at its first token where the weight is too great
abbrev pub claim_errors : Expr → Option Shape → ℕ → Scope → TypeErrors
claim_errors e shape weight scope = both (expected_errors e shape scope) (unless (weight_fits weight) reason.TooLong (typing e scope).part.place)

-- what a definition takes and gives
abbrev pub definition_signature : Def → Signature
definition_signature d = record { arguments = parameter_shapes d.parameters; answers = true; answer = shape_of d.shape }

-- what a definition sees: those before it
abbrev pub definition_scope : Named Signature → Scope
definition_scope defs = record { defs = defs; lower = []; low = []; variables = []; view = Definition; locals = [] }

-- a definition whose expression has this weight: `Twice` at its name where an earlier one has it
abbrev pub definition_errors : Def → ℕ → Named Signature → TypeErrors
definition_errors d weight defs =
    both (unless (not (has d.name.text defs)) reason.Twice d.name.place)
    (both (parameters_errors d.parameters (definition_scope defs))
    (both (type_text_errors d.shape)
    (claim_errors d.body (shape_of d.shape) weight (with_parameters d.parameters (definition_scope defs)))))

-- definitions with one more
abbrev pub with_definition : Def → Named Signature → Named Signature
with_definition d = added d.name.text (definition_signature d)

-- definitions with others
abbrev pub with_definitions : List Def → Named Signature → Named Signature
with_definitions [] defs = defs
with_definitions (d ∷ ds) defs = with_definitions ds (with_definition d defs)

-- definitions in order, after those of this list, which have these signatures
abbrev pub definitions_errors : List Def → List Def → Named Signature → TypeErrors
definitions_errors [] before defs = nothing
definitions_errors (d ∷ ds) before defs =
    both (definition_errors d (expr_weight (weights_of before) d.body) defs) (definitions_errors ds (before ++ d ∷ []) (with_definition d defs))
