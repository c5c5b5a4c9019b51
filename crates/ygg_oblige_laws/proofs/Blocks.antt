-- The blocks of a typed layer.
use Rattle.std.proofs.Common.{
  ◌≡◌,
  Bool,
  true,
  false,
  ◌&&◌,
  not,
  if◌then◌else◌,
  option_map,
  List,
  [],
  ◌∷◌,
  All,
  Option,
  Some,
  None,
  is_some,
  is_none,
  refl,
  sym,
  ap,
  ◌∙◌,
  subst,
}
use Rattle.std.proofs.lemmas.Bool.{and_from as both_of}
use Rattle.std.proofs.lemmas.List.Elements.{All-nil, All-cons}
use Rattle.std.specs.List.{list_all}
use Rattle.ygg_base.specs.declared.reason.Reason.TheVariants as reason
use Rattle.ygg_value.specs.Shapes.{IsShape}
use Rattle.ygg_value.specs.declared.row.Value.{Value}
use Rattle.ygg_value.specs.declared.shape.Shape.{Shape}
use Rattle.ygg_syntax.specs.declared.grammar.BlockKind.{BlockKind}
use Rattle.ygg_syntax.specs.declared.grammar.BlockKind.TheVariants.{Plain, Spec, Impl}
use Rattle.ygg_syntax.specs.declared.tree.TypeText.{TypeText}
use Rattle.ygg_syntax.specs.declared.tree.Declared.{Declared}
use Rattle.ygg_syntax.specs.declared.tree.Def.{Def}
use Rattle.ygg_syntax.specs.declared.tree.Expr.{Expr}
use Rattle.ygg_syntax.specs.declared.tree.Block.{Block}
use Rattle.ygg_syntax.specs.declared.tree.Operation.{Operation}
use Rattle.ygg_syntax.specs.declared.tree.Tick.{Tick}
use Rattle.ygg_syntax.specs.declared.tree.Layer.{Layer}
use Rattle.ygg_oblige_laws.specs.ygg_syntax.Weights.{Weights}
use Rattle.ygg_oblige_laws.specs.ygg_type_rules.Names.{Named, look_up, has, added}
use Rattle.ygg_oblige_laws.specs.ygg_type_rules.declared.scope.Visibility.{Visibility}
use Rattle.ygg_oblige_laws.specs.ygg_type_rules.declared.scope.Visibility.TheVariants.{Specification, Implementation}
use Rattle.ygg_oblige_laws.specs.ygg_type_rules.declared.scope.Signature.{Signature}
use Rattle.ygg_oblige_laws.specs.ygg_type_rules.TypeErrors.{none, unless}
use Rattle.ygg_oblige_laws.specs.ygg_type_rules.Shapes.{shape_of, answer_shape}
use Rattle.ygg_oblige_laws.specs.ygg_type_rules.Scopes.{Scope, is_taken, seen_as}
use Rattle.ygg_oblige_laws.specs.ygg_type_rules.Statements.{block_errors}
use Rattle.ygg_oblige_laws.specs.ygg_type_rules.Definitions.{
  type_text_errors,
  answer_type_errors,
  definitions_errors,
  with_definitions,
  with_parameter,
  with_parameters,
  parameters_errors,
}
use Rattle.ygg_oblige_laws.specs.ygg_type_rules.Layers.{
  Known,
  Below,
  layer_scope,
  declared_errors,
  blocks_errors,
  view_errors,
  on_crash_errors,
  operation_errors,
  operation_blocks_errors,
  operations_errors,
  picks_errors,
  with_operation,
  tick_errors,
  ticks_errors,
  relations_errors,
}
use Rattle.ygg_oblige_laws.specs.ygg_meaning.Environments.{Name, bind}
use Rattle.ygg_oblige_laws.specs.ygg_meaning.Meaning.{Functions, functions_of}
use Rattle.ygg_oblige_laws.specs.ygg_meaning.Shapes.{shape_in, fits, values_fit, env_fits}
use Rattle.ygg_oblige_laws.specs.ygg_meaning.Progress.{Answer}
use Rattle.ygg_oblige_laws.specs.ygg_meaning.Layer.{ClosedLayer, operation_of}
use Rattle.ygg_oblige_laws.specs.ygg_meaning.Refines as stands
use Rattle.ygg_oblige_laws.specs.ygg_meaning_laws.Agrees.{Agrees}
use Rattle.ygg_oblige_laws.specs.ygg_meaning_laws_proofs_Parameters.{type_is, same_fit}
use Rattle.ygg_oblige_laws.specs.ygg_meaning_laws_proofs_Tests.{left as first_of, right as second_of, bytes_equal}
use Rattle.ygg_oblige_laws.specs.ygg_meaning_laws.Blocks.{is_returned}
use Rattle.ygg_oblige_laws.specs.ygg_meaning_laws.Kinds.{keeps, on_crash_keeps, returns_declared, operation_keeps, tick_keeps}
use Rattle.ygg_oblige_laws.specs.ygg_meaning_laws.Questions.{plain, answer_has}
use Rattle.ygg_oblige_laws.proofs.of_ygg_meaning_laws.Views.{AllTyped, state_agrees, memory_agrees, agrees_with_arguments}
use Rattle.ygg_oblige_laws.specs.ygg_meaning_laws_proofs_Operations.{OnCrashTyped, IsOperation, find_operation, added_all, seen_operations}
use Rattle.ygg_oblige_laws.specs.ygg_meaning_laws_proofs_Typed.{IsTypedLayer, Parts, parts}
use Rattle.ygg_oblige_laws.specs.ygg_meaning_laws_proofs_Specs.{spec_answers}
use Rattle.ygg_oblige_laws.specs.ygg_meaning_laws_proofs_Files.{have}
use Rattle.ygg_oblige_laws.specs.ygg_meaning_laws.DirectLaws.{Sees}
use Rattle.ygg_oblige_laws.specs.Specs.{SpecBlock}
use Rattle.ygg_oblige_laws.specs.Below.{lows_on, signatures_of, signatures_on}
use Rattle.ygg_oblige_laws.specs.Typed.{BlockTyped, SpecBlockTyped, OperationTyped, SpecTyped, BelowTyped}
use Rattle.ygg_oblige_laws.specs.LayerTerms.{OperationFits, LayerTyped}
use Rattle.ygg_oblige_laws.proofs.Widening.{plain_keeps}
use Rattle.ygg_oblige_laws.proofs.Formulas.{IsBelow, layer_formulas}

abbrev IsKept : Declared → Type 0
IsKept d = IsShape (shape_in d.shape)

-- the answer's type of an operation without a type error has a shape
answer_is : (t : Option TypeText) → none (answer_type_errors t) ≡ true → answer_shape t ≡ option_map shape_in t
answer_is None h = refl
answer_is (Some t) h = (type_is t h).is

-- declared shapes without type errors keep the limits
shapes_kept : (ds : List Declared) → AllTyped ds → All IsKept ds
shapes_kept [] t = All-nil IsKept
shapes_kept (d ∷ ds) (here, t) = All-cons IsKept d ds (type_is d.shape here).limits (shapes_kept ds t)

arguments_kept : (ds : List Declared) (scope : Scope) → none (parameters_errors ds scope) ≡ true → All IsKept ds
arguments_kept [] scope e = All-nil IsKept
arguments_kept (d ∷ ds) scope e =
    let name = none (unless (not (is_taken d.name.text scope)) reason.Twice d.name.place) in
    let type = none (type_text_errors d.shape) in
    let others = none (parameters_errors ds (with_parameter d scope)) in
    All-cons IsKept d ds (type_is d.shape (second_of name type (first_of (name && type) others e))).limits
    (arguments_kept ds (with_parameter d scope) (second_of (name && type) others e))

-- declared names with values that fit them
bound_fit : (ds : List Declared) (vs : List Value) → values_fit ds vs ≡ true → env_fits ds (bind ds vs) ≡ true
bound_fit [] [] h = refl
bound_fit [] (v ∷ vs) h = absurd (cc)
bound_fit (d ∷ ds) [] h = absurd (cc)
bound_fit (d ∷ ds) (v ∷ vs) h =
    let here = fits (shape_in d.shape) v in
    let others = values_fit ds vs in
    both_of (_ && here) _ (both_of _ here (bytes_equal d.name.text) (first_of here others h)) (bound_fit ds vs (second_of here others h))

-- parameters change neither definitions nor operations
unchanged : (ds : List Declared) (scope : Scope) → ((with_parameters ds scope).defs ≡ scope.defs) × ((with_parameters ds scope).lower ≡ scope.lower)
unchanged [] scope = (refl, refl)
unchanged (d ∷ ds) scope =
    let later = unchanged ds (with_parameter d scope) in
    let here = one (has d.name.text scope.variables) in
    (later.0 ∙ here.0, later.1 ∙ here.1)
  where
    grown : Scope
    grown = record scope { locals = added d.name.text (record { shape = shape_of d.shape; assignable = false }) scope.locals }

    one : (c : Bool) → ((if c then scope else grown).defs ≡ scope.defs) × ((if c then scope else grown).lower ≡ scope.lower)
    one true = (refl, refl)
    one false = (refl, refl)

-- a block that returns something exactly where a type is declared gives what the operation gives
answer_given : (t : Option TypeText) (r : Option Expr) (a : Answer) → returns_declared t r ≡ true → is_returned r (answer_shape t) a ≡ true →
    (if is_some t then answer_has (answer_shape t) a else is_none a) ≡ true
answer_given None None a d h = h
answer_given (Some t) (Some e) a d h = h
answer_given None (Some e) a d h = absurd (cc)
answer_given (Some t) None a d h = absurd (cc)

-- what is kept by the blocks of an operation
record OperationKept (o : Operation) : Type 0 where
  pub spec : keeps Spec o.spec ≡ true
  pub spec_answers : returns_declared o.answer o.spec.answer ≡ true
  pub on_crash : on_crash_keeps o.on_crash ≡ true
  pub implementation : keeps Impl o.implementation ≡ true
  pub implementation_answers : returns_declared o.answer o.implementation.answer ≡ true

operation_kept : (o : Operation) → operation_keeps o ≡ true → OperationKept o
operation_kept o k =
    let spec = keeps Spec o.spec in
    let spec_answers = returns_declared o.answer o.spec.answer in
    let crash = on_crash_keeps o.on_crash in
    let implementation = keeps Impl o.implementation in
    let a = first_of (spec && spec_answers && crash && implementation) (returns_declared o.answer o.implementation.answer) k in
    let b = first_of (spec && spec_answers && crash) implementation a in
    let c = first_of (spec && spec_answers) crash b in
    record {
      spec = first_of spec spec_answers c;
      spec_answers = second_of spec spec_answers c;
      on_crash = second_of (spec && spec_answers) crash b;
      implementation = second_of (spec && spec_answers && crash) implementation a;
      implementation_answers = second_of (spec && spec_answers && crash && implementation) (returns_declared o.answer o.implementation.answer) k;
    }

crash_kept : (q : Option Block) (b : Block) → q ≡ Some b → on_crash_keeps q ≡ true → keeps Spec b ≡ true
crash_kept q b i k = subst (λ q. on_crash_keeps q ≡ true) i k

module _ (defs : List Def) (below : Below) (weights : Weights) (l : Layer) (low : List Declared)
    (is : IsTypedLayer (functions_of defs) (with_definitions defs []) below weights l) where
  abbrev functions : Functions
  functions = functions_of defs

  abbrev named : Named Signature
  named = with_definitions defs []

  abbrev whole : Scope
  whole = layer_scope named below l

  abbrev L : ClosedLayer
  L = record { functions = functions; layer = l; low = low }

  p : Parts named below weights l
  p = parts functions named below weights l is

  -- what a view of the layer sees of its variables goes together with values that fit them
  abbrev Seen : Visibility → List Declared → Type 0
  Seen view vars = (xs : List Value) → values_fit vars xs ≡ true → Agrees functions (seen_as view whole) (plain (bind vars xs))

  state_seen : Seen Specification l.state
  state_seen xs h = state_agrees functions named below l is.meets is.shaped p.variables (bind l.state xs) (bound_fit l.state xs h)

  memory_seen : Seen Implementation l.memory
  memory_seen xs h = memory_agrees functions named below l is.meets is.shaped p.variables (bind l.memory xs) (bound_fit l.memory xs h)

  abbrev block_typed : (view : Visibility) (kind : BlockKind) (lower : Named Signature) → below.operations ≡ lower → (vars : List Declared) → Seen view vars →
      (args : List Declared) → none (parameters_errors args whole) ≡ true →
      (b : Block) (shape : Option Shape) → none (block_errors b shape (seen_as view (with_parameters args whole))) ≡ true → keeps kind b ≡ true →
      BlockTyped defs L kind lower b vars args
  block_typed view kind lower same vars seen args fine b shape e k = record {
    scope = seen_as view (with_parameters args whole);
    shape = shape;
    lower_is = (unchanged args whole).1 ∙ same;
    defs_is = (unchanged args whole).0;
    without_errors = e;
    kept = k;
    agrees = λ xs ys f g. agrees_with_arguments functions view whole args (bind vars xs) ys (seen xs f) fine g;
  }

  abbrev spec_typed : (args : List Declared) → none (parameters_errors args whole) ≡ true →
      (b : Block) (shape : Option Shape) → none (block_errors b shape (seen_as Specification (with_parameters args whole))) ≡ true → keeps Spec b ≡ true →
      SpecBlockTyped defs L b args
  spec_typed args fine b shape e k = record {
    lower = below.operations;
    block = block_typed Specification Spec below.operations refl l.state state_seen args fine b shape e k;
  }

  operation_typed : (o : Operation) → IsOperation o whole → OperationTyped defs L o
  operation_typed o f =
      let k = operation_kept o f.kept in
      record {
        spec = spec_typed o.arguments f.arguments o.spec (answer_shape o.answer) f.spec k.spec;
        answers = λ a h. answer_given o.answer o.spec.answer a k.spec_answers h;
        on_crash = λ b i. spec_typed o.arguments f.arguments b None (subst (λ q. OnCrashTyped q (with_parameters o.arguments whole)) i f.on_crash)
            (crash_kept o.on_crash b i k.on_crash);
      }

  operation_block : (o : Operation) → IsOperation o whole → SpecBlock named L o
  operation_block o f =
      let k = operation_kept o f.kept in
      record {
        scope = seen_as Specification (with_parameters o.arguments whole);
        shape = answer_shape o.answer;
        defs_is = (unchanged o.arguments whole).0;
        without_errors = f.spec;
        kept = k.spec;
        agrees = λ vars args e a. agrees_with_arguments functions Specification whole o.arguments vars args
            (state_agrees functions named below l is.meets is.shaped p.variables vars e) f.arguments a;
        answered = λ a h. answer_given o.answer o.spec.answer a k.spec_answers h;
      }

  found : (name : Name) (o : Operation) → operation_of L name ≡ Some o → IsOperation o whole
  found name o h = find_operation l.operations l.crash [] weights whole p.operations p.operations_kept name o h

  seen : Sees L (signatures_of l.operations)
  seen = record {
    seen = λ name. ap (look_up name) (sym (added_all l.operations l.crash [] weights whole p.operations))
        ∙ seen_operations l.operations l.crash weights whole p.operations name;
    fit = λ name o args h fit. sym (same_fit o.arguments args whole (found name o h).arguments) ∙ fit;
  }

  -- the layer's own specification
  pub own_typed : SpecTyped defs L
  own_typed = record {
    functions = refl;
    limits = shapes_kept l.state p.variables.state;
    answers = spec_answers functions named below weights l low (have functions) is;
    sees = seen;
    start = spec_typed [] refl l.start None p.start (plain_keeps l.start p.start_kept);
    crash = spec_typed [] refl l.crash None p.crash p.crash_kept;
    operations = λ name o h. operation_typed o (found name o h);
    blocks = λ name o h. operation_block o (found name o h);
  }

  module _ (G : stands.Below) (same : below.operations ≡ signatures_on G) where
    abbrev implementation_typed : (args : List Declared) → none (parameters_errors args whole) ≡ true →
        (b : Block) (shape : Option Shape) → none (block_errors b shape (seen_as Implementation (with_parameters args whole))) ≡ true → keeps Impl b ≡ true →
        BlockTyped defs L Impl (signatures_on G) b l.memory args
    implementation_typed args fine b shape e k = block_typed Implementation Impl (signatures_on G) same l.memory memory_seen args fine b shape e k

    operation_fits : (o : Operation) (known : Named Signature) → none (operation_errors o l.crash known weights whole) ≡ true → operation_keeps o ≡ true →
        OperationFits defs G L o
    operation_fits o known e k =
        let alone = ap (λ c. if c then Some o else None) (bytes_equal o.name.text) in
        let f : IsOperation o whole = find_operation (o ∷ []) l.crash known weights whole (both_of _ true e refl) (both_of (operation_keeps o) true k refl)
        o.name.text o alone in
        let inner = with_parameters o.arguments whole in
        let a = second_of (none (unless (not (has o.name.text known)) reason.Twice o.name.place)) _ e in
        let b = second_of (none (picks_errors o l.crash)) _ a in
        let c = second_of (none (parameters_errors o.arguments whole)) _ b in
        let d = second_of (none (answer_type_errors o.answer)) (none (operation_blocks_errors o weights inner)) c in
        let spec = none (view_errors Specification o.spec (answer_shape o.answer) weights inner) in
        let crashed = none (on_crash_errors o.on_crash weights inner) in
        let implementation = none (view_errors Implementation o.implementation (answer_shape o.answer) weights inner) in
        let fine = first_of (none (block_errors o.implementation (answer_shape o.answer) (seen_as Implementation inner))) _
        (second_of crashed implementation (second_of spec (crashed && implementation) d)) in
        let kept = operation_kept o k in
        record {
          shapes = arguments_kept o.arguments whole f.arguments;
          answer_shaped = answer_is o.answer (first_of (none (answer_type_errors o.answer)) (none (operation_blocks_errors o weights inner)) c);
          implementation = implementation_typed o.arguments f.arguments o.implementation (answer_shape o.answer) fine kept.implementation;
          answers = λ a h. answer_given o.answer o.implementation.answer a kept.implementation_answers h;
          spec = operation_typed o f;
        }

    operations_fit : (os : List Operation) (known : Named Signature) → none (operations_errors os l.crash known weights whole) ≡ true →
        list_all operation_keeps os ≡ true → All (OperationFits defs G L) os
    operations_fit [] known e k = All-nil (OperationFits defs G L)
    operations_fit (o ∷ os) known e k =
        let here = none (operation_errors o l.crash known weights whole) in
        let others = none (operations_errors os l.crash (with_operation o known) weights whole) in
        All-cons (OperationFits defs G L) o os
        (operation_fits o known (first_of here others e) (first_of (operation_keeps o) (list_all operation_keeps os) k))
        (operations_fit os (with_operation o known) (second_of here others e) (second_of (operation_keeps o) (list_all operation_keeps os) k))

    abbrev TickTyped : Tick → Type 0
    TickTyped t = BlockTyped defs L Impl (signatures_on G) t.body l.memory []

    ticks_typed : (ts : List Tick) (known : Known) → none (ticks_errors ts known weights whole) ≡ true → list_all tick_keeps ts ≡ true → All TickTyped ts
    ticks_typed [] known e k = All-nil TickTyped
    ticks_typed (t ∷ ts) known e k =
        let here = none (tick_errors t known weights whole) in
        let others = none (ticks_errors ts (added t.name.text tt known) weights whole) in
        let fine = second_of (none (unless (not (has t.name.text known)) reason.Twice t.name.place)) _ (first_of here others e) in
        All-cons TickTyped t ts
        (implementation_typed [] refl t.body None (first_of (none (block_errors t.body None (seen_as Implementation whole))) _ fine)
        (first_of (tick_keeps t) (list_all tick_keeps ts) k))
        (ticks_typed ts (added t.name.text tt known) (second_of here others e) (second_of (tick_keeps t) (list_all tick_keeps ts) k))

    abbrev declared : Bool
    declared = none (declared_errors l)

    abbrev blocks : Bool
    blocks = none (blocks_errors l weights whole)

    abbrev operations : Bool
    operations = none (operations_errors l.operations l.crash [] weights whole)

    abbrev ticks : Bool
    ticks = none (ticks_errors l.ticks [] weights whole)

    abbrev formulas : Bool
    formulas = none (relations_errors l weights whole)

    inside : (blocks && (operations && (ticks && formulas))) ≡ true
    inside = second_of declared (blocks && (operations && (ticks && formulas))) is.typed

    later : (ticks && formulas) ≡ true
    later = second_of operations (ticks && formulas) (second_of blocks (operations && (ticks && formulas)) inside)

    format_fine : none (block_errors l.format None (seen_as Implementation whole)) ≡ true
    format_fine =
        first_of (none (block_errors l.format None (seen_as Implementation whole))) _
        (first_of (none (view_errors Implementation l.format None weights whole)) _
        (second_of (none (view_errors Specification l.start None weights whole)) _ (first_of blocks (operations && (ticks && formulas)) inside)))

    abbrev kept_format : Bool
    kept_format = keeps Plain l.start && keeps Impl l.format

    abbrev kept_operations : Bool
    kept_operations = kept_format && list_all operation_keeps l.operations

    kept_ticks : (kept_operations && keeps Spec l.crash && list_all tick_keeps l.ticks) ≡ true
    kept_ticks = first_of (kept_operations && keeps Spec l.crash && list_all tick_keeps l.ticks) (keeps Impl l.recover) is.kept

    ticks_kept : list_all tick_keeps l.ticks ≡ true
    ticks_kept = second_of (kept_operations && keeps Spec l.crash) (list_all tick_keeps l.ticks) kept_ticks

    format_kept : keeps Impl l.format ≡ true
    format_kept =
        second_of (keeps Plain l.start) (keeps Impl l.format)
        (first_of kept_format (list_all operation_keeps l.operations)
        (first_of kept_operations (keeps Spec l.crash) (first_of (kept_operations && keeps Spec l.crash) (list_all tick_keeps l.ticks) kept_ticks)))

    -- the layer on what it is specified over
    pub layer_typed : none (definitions_errors defs [] []) ≡ true → BelowTyped defs G → low ≡ lows_on G → IsBelow below low → LayerTyped defs G L
    layer_typed e typed low_is under =
        let said = layer_formulas defs below l low is.meets under p.variables weights (second_of ticks formulas later) in
        record {
          definitions = e;
          functions = refl;
          below = typed;
          low_is = low_is;
          own = own_typed;
          state_shapes = shapes_kept l.state p.variables.state;
          memory_shapes = shapes_kept l.memory p.variables.memory;
          low_shapes = shapes_kept low under.typed;
          relations_typed = said.relations_typed;
          settled_typed = said.settled_typed;
          format_typed = implementation_typed [] refl l.format None format_fine format_kept;
          recover_typed = implementation_typed [] refl l.recover None p.recover p.recover_kept;
          operations_typed = operations_fit l.operations [] p.operations p.operations_kept;
          ticks_typed = ticks_typed l.ticks [] (first_of ticks formulas later) ticks_kept;
        }
