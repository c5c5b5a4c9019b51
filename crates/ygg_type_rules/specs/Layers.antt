-- The type errors of layers.
use Rattle.std.specs.Prelude.{ℕ, ◌+◌, not, List, [], ◌∷◌, Option, Some, None, is_some}
use Rattle.ygg_base.specs.declared.reason.Reason.TheVariants as reason
use Rattle.ygg_value.specs.declared.shape.Shape.{Shape}
use Rattle.ygg_value.specs.declared.shape.Shape.TheVariants.{Word}
use Rattle.ygg_syntax.specs.declared.tree.Declared.{Declared}
use Rattle.ygg_syntax.specs.declared.tree.Expr.{Expr}
use Rattle.ygg_syntax.specs.declared.tree.Block.{Block}
use Rattle.ygg_syntax.specs.declared.tree.Operation.{Operation}
use Rattle.ygg_syntax.specs.declared.tree.Tick.{Tick}
use Rattle.ygg_syntax.specs.declared.tree.Layer.{Layer}
use Rattle.ygg_syntax.specs.Choices.{choices_of}
use Rattle.ygg_syntax.specs.Weights.{Weights, expr_weight, block_weight}
use Rattle.ygg_type_rules.specs.Names.{Named, has, added}
use Rattle.ygg_type_rules.specs.declared.scope.Owner.{Owner}
use Rattle.ygg_type_rules.specs.declared.scope.Owner.TheVariants.{State, Memory}
use Rattle.ygg_type_rules.specs.declared.scope.Variable.{Variable}
use Rattle.ygg_type_rules.specs.declared.scope.Signature.{Signature}
use Rattle.ygg_type_rules.specs.declared.scope.Visibility.{Visibility}
use Rattle.ygg_type_rules.specs.declared.scope.Visibility.TheVariants.{Specification, Implementation, Relation, Settled}
use Rattle.ygg_type_rules.specs.TypeErrors.{TypeErrors, nothing, both, unless}
use Rattle.ygg_type_rules.specs.Limits.{picks_fit}
use Rattle.ygg_type_rules.specs.Shapes.{shape_of, answer_shape}
use Rattle.ygg_type_rules.specs.Scopes.{Scope, seen_as}
use Rattle.ygg_type_rules.specs.Statements.{body_errors}
use Rattle.ygg_type_rules.specs.Definitions.{type_text_errors, answer_type_errors, parameters_errors, with_parameters, parameter_shapes, claim_errors}

-- variables with one more
abbrev pub with_variable : Owner → Declared → Named Variable → Named Variable
with_variable kind p = added p.name.text (record { kind = kind; shape = shape_of p.shape })

-- variables with others of a kind
abbrev pub with_variables : Owner → List Declared → Named Variable → Named Variable
with_variables kind [] variables = variables
with_variables kind (p ∷ ps) variables = with_variables kind ps (with_variable kind p variables)

-- variables of a kind, after these: `Twice` at a name that is taken, among state and memory variables together
abbrev pub variables_errors : Owner → List Declared → Named Variable → TypeErrors
variables_errors kind [] variables = nothing
variables_errors kind (p ∷ ps) variables =
    both (both (unless (not (has p.name.text variables)) reason.Twice p.name.place) (type_text_errors p.shape))
    (variables_errors kind ps (with_variable kind p variables))

-- the state and memory variables of a layer
abbrev pub variables_of : Layer → Named Variable
variables_of l = with_variables Memory l.memory (with_variables State l.state [])

-- a block that stands in no other, with this view of its layer, and with an answer of this shape
abbrev pub view_errors : Visibility → Block → Option Shape → Weights → Scope → TypeErrors
view_errors view b shape weights scope = body_errors b shape (block_weight weights b) (seen_as view scope)

-- the `on crash` block of an operation, if there is one
abbrev pub on_crash_errors : Option Block → Weights → Scope → TypeErrors
on_crash_errors None weights scope = nothing
on_crash_errors (Some b) weights scope = view_errors Specification b None weights scope

-- how many picks the specification takes where power fails within an operation: those of `on crash`, or one pick and those of
-- `spec`, and then those of `crash`
abbrev pub fall_picks : Operation → Block → ℕ
fall_picks o crash = elim o.on_crash [ None ↦ 1 + choices_of o.spec + choices_of crash | Some b ↦ choices_of b + choices_of crash ]

-- picks: `TooManyChoices` at the operation's name where a whole operation or one within which power fails takes too many
abbrev pub picks_errors : Operation → Block → TypeErrors
picks_errors o crash = both (unless (picks_fit (choices_of o.spec)) reason.TooManyChoices o.name.place)
    (unless (picks_fit (fall_picks o crash)) reason.TooManyChoices o.name.place)

-- what an operation takes and gives
abbrev pub operation_signature : Operation → Signature
operation_signature o = record { arguments = parameter_shapes o.arguments; answers = is_some o.answer; answer = answer_shape o.answer }

-- operations with one more
abbrev pub with_operation : Operation → Named Signature → Named Signature
with_operation o = added o.name.text (operation_signature o)

-- operations with others
abbrev pub with_operations : List Operation → Named Signature → Named Signature
with_operations [] known = known
with_operations (o ∷ os) known = with_operations os (with_operation o known)

-- the blocks of an operation, which see its arguments
abbrev pub operation_blocks_errors : Operation → Weights → Scope → TypeErrors
operation_blocks_errors o weights scope =
    both (view_errors Specification o.spec (answer_shape o.answer) weights scope)
    (both (on_crash_errors o.on_crash weights scope)
    (view_errors Implementation o.implementation (answer_shape o.answer) weights scope))

-- an operation of a layer with this `crash` block, after these operations: `Twice` at a name that is taken
abbrev pub operation_errors : Operation → Block → Named Signature → Weights → Scope → TypeErrors
operation_errors o crash known weights scope =
    both (unless (not (has o.name.text known)) reason.Twice o.name.place)
    (both (picks_errors o crash)
    (both (parameters_errors o.arguments scope)
    (both (answer_type_errors o.answer)
    (operation_blocks_errors o weights (with_parameters o.arguments scope)))))

-- operations in order, after these
abbrev pub operations_errors : List Operation → Block → Named Signature → Weights → Scope → TypeErrors
operations_errors [] crash known weights scope = nothing
operations_errors (o ∷ os) crash known weights scope =
    both (operation_errors o crash known weights scope) (operations_errors os crash (with_operation o known) weights scope)

-- names without values
abbrev pub Known : Type 0
Known = Named (Unit {0})

-- a background step after those of these names: `Twice` at a name that is taken
abbrev pub tick_errors : Tick → Known → Weights → Scope → TypeErrors
tick_errors t known weights scope =
    both (unless (not (has t.name.text known)) reason.Twice t.name.place) (view_errors Implementation t.body None weights scope)

-- background steps in order, after those of these names
abbrev pub ticks_errors : List Tick → Known → Weights → Scope → TypeErrors
ticks_errors [] known weights scope = nothing
ticks_errors (t ∷ ts) known weights scope = both (tick_errors t known weights scope) (ticks_errors ts (added t.name.text tt known) weights scope)

-- `relate`, `always`, `settled` or `maybe`: wanted as a word of width 1
abbrev pub formula_errors : Visibility → Expr → Weights → Scope → TypeErrors
formula_errors view e weights scope = claim_errors e (Some (Word 1)) (expr_weight weights e) (seen_as view scope)

-- several of them
abbrev pub formulas_errors : Visibility → List Expr → Weights → Scope → TypeErrors
formulas_errors view [] weights scope = nothing
formulas_errors view (e ∷ es) weights scope = both (formula_errors view e weights scope) (formulas_errors view es weights scope)

-- the machine below a layer: its operations and its variables
pub record Below : Type 0 where
  pub operations : Named Signature
  pub variables : Named Variable

-- the specification of a layer, as the layer above sees it
abbrev pub below_of : Layer → Below
below_of l = record { operations = with_operations l.operations []; variables = variables_of l }

-- what all parts of a layer have in scope, where the definitions and the machine below are these; each part has its own view
abbrev pub layer_scope : Named Signature → Below → Layer → Scope
layer_scope defs below l = record {
  defs = defs;
  lower = below.operations;
  low = below.variables;
  variables = variables_of l;
  view = Settled;
  locals = [];
}

-- the variables of a layer
abbrev pub declared_errors : Layer → TypeErrors
declared_errors l = both (variables_errors State l.state []) (variables_errors Memory l.memory (with_variables State l.state []))

-- its blocks outside operations; more than 8 choices of `crash` are `TooManyChoices` at `crash`
abbrev pub blocks_errors : Layer → Weights → Scope → TypeErrors
blocks_errors l weights scope =
    both (view_errors Specification l.start None weights scope)
    (both (view_errors Implementation l.format None weights scope)
    (both (view_errors Specification l.crash None weights scope)
    (both (unless (picks_fit (choices_of l.crash)) reason.TooManyChoices l.crash_place)
    (view_errors Implementation l.recover None weights scope))))

-- its expressions
abbrev pub relations_errors : Layer → Weights → Scope → TypeErrors
relations_errors l weights scope =
    both (formula_errors Relation l.relate weights scope)
    (both (formulas_errors Relation l.always weights scope)
    (both (formulas_errors Settled l.settled weights scope)
    (formulas_errors Relation l.maybe weights scope)))

-- all parts of a layer
abbrev pub parts_errors : Layer → Weights → Scope → TypeErrors
parts_errors l weights scope =
    both (declared_errors l)
    (both (blocks_errors l weights scope)
    (both (operations_errors l.operations l.crash [] weights scope)
    (both (ticks_errors l.ticks [] weights scope)
    (relations_errors l weights scope))))
