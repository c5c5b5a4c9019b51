-- What typing says of each block of a file.
use Rattle.std.proofs.Common.{
  ◌≡◌,
  ℕ,
  zero,
  suc,
  ◌+◌,
  Bool,
  true,
  false,
  ◌&&◌,
  not,
  List,
  [],
  ◌∷◌,
  ◌++◌,
  Option,
  Some,
  None,
  option_map,
  option_and_then,
  refl,
  sym,
  ap,
  ◌∙◌,
  subst,
  slice_get,
  if◌then◌else◌,
}
use Rattle.std.specs.List.{list_all}
use Rattle.std.proofs.Math.Bool.{Bool-set}
use Rattle.std.proofs.Math.Logic.{∥∥₁_elim}
use Rattle.ygg_base.specs.declared.reason.Reason.TheVariants as reason
use Rattle.ygg_value.specs.declared.row.Value.{Value}
use Rattle.ygg_value.specs.declared.shape.Shape.{Shape}
use Rattle.ygg_syntax.specs.declared.grammar.BlockKind.TheVariants as kind
use Rattle.ygg_syntax.specs.declared.tree.Declared.{Declared}
use Rattle.ygg_syntax.specs.declared.tree.Block.{Block}
use Rattle.ygg_syntax.specs.declared.tree.Operation.{Operation}
use Rattle.ygg_syntax.specs.declared.tree.Tick.{Tick}
use Rattle.ygg_syntax.specs.declared.tree.Layer.{Layer}
use Rattle.ygg_syntax.specs.declared.tree.File.{File}
use Rattle.ygg_meaning_laws.specs.ygg_syntax.Weights.{Weights, weights_of}
use Rattle.ygg_meaning_laws.specs.ygg_type_rules.Names.{Named, has, added}
use Rattle.ygg_meaning_laws.specs.ygg_type_rules.declared.scope.Visibility.{Visibility}
use Rattle.ygg_meaning_laws.specs.ygg_type_rules.declared.scope.Visibility.TheVariants.{Specification, Implementation}
use Rattle.ygg_meaning_laws.specs.ygg_type_rules.declared.scope.Signature.{Signature}
use Rattle.ygg_meaning_laws.specs.ygg_type_rules.TypeErrors.{none, unless}
use Rattle.ygg_meaning_laws.specs.ygg_type_rules.Shapes.{shape_of, answer_shape}
use Rattle.ygg_meaning_laws.specs.ygg_type_rules.Scopes.{Scope, seen_as}
use Rattle.ygg_meaning_laws.specs.ygg_type_rules.Statements.{block_errors}
use Rattle.ygg_meaning_laws.specs.ygg_type_rules.Definitions.{definitions_errors, with_definitions, with_parameter}
use Rattle.ygg_meaning_laws.specs.ygg_type_rules.Definitions.{with_parameters, parameters_errors, answer_type_errors}
use Rattle.ygg_meaning_laws.specs.ygg_type_rules.Layers.{
  Known,
  Below,
  below_of,
  layer_scope,
  parts_errors,
  declared_errors,
  blocks_errors,
  view_errors,
  on_crash_errors,
  operation_errors,
  operation_blocks_errors,
  operations_errors,
  picks_errors,
  with_operation,
  tick_errors,
  ticks_errors,
  relations_errors,
}
use Rattle.ygg_meaning_laws.specs.ygg_type_rules.Files.{IsTyped, type_errors_of, disk_errors, disk_operations, disk_below}
use Rattle.ygg_meaning_laws.specs.ygg_type_rules.Files.{count_error, layer_errors, layers_errors}
use Rattle.ygg_meaning_laws.specs.ygg_meaning.Environments.{bind}
use Rattle.ygg_meaning_laws.specs.ygg_meaning.Meaning.{Functions, functions_of}
use Rattle.ygg_meaning_laws.specs.ygg_meaning.Shapes.{shape_in, fits, values_fit, env_fits}
use Rattle.ygg_meaning_laws.specs.Agrees.{Agrees}
use Rattle.ygg_meaning_laws.proofs.Definitions.{MeetsAll, definitions_meet}
use Rattle.ygg_meaning_laws.proofs.Tests.{left as first_of, right as second_of, bytes_equal}
use Rattle.ygg_meaning_laws.specs.Kinds.{keeps, on_crash_keeps, returns_declared, operation_keeps, tick_keeps, layer_keeps}
use Rattle.ygg_meaning_laws.specs.Questions.{plain}
use Rattle.ygg_meaning_laws.proofs.TypeErrors.{none_listed}
use Rattle.ygg_meaning_laws.proofs.Views.{LowerShaped, state_agrees, memory_agrees, agrees_with_arguments}
use Rattle.ygg_meaning_laws.proofs.Operations.{added_all, operations_shaped}
use Rattle.ygg_meaning_laws.proofs.Typed.{IsTypedLayer, Parts, parts}
use Rattle.ygg_meaning_laws.proofs.Files.{on_disk}
use Rattle.ygg_meaning_laws.proofs.Grammar.{file_kept}
use Rattle.ygg_syntax.specs.Files.{IsDerived}
use Rattle.ygg_eval.specs.declared.body.Body.{Body}
use Rattle.ygg_eval.specs.declared.body.Part.{Part}
use Rattle.ygg_eval.specs.declared.body.Part.TheVariants.{Start, Spec, OnCrash, Crash, Format, Impl, Tick as TickPart, Recover}
use Rattle.ygg_eval.specs.Layers.{signatures_of, signatures_at}
use Rattle.ygg_eval.specs.Bodies.{kind_of, block_in, arguments_at, arguments_in, variables_in, IsBlock}

-- declared names with values that fit them
pub bind_fits : (ds : List Declared) (vs : List Value) → values_fit ds vs ≡ true → env_fits ds (bind ds vs) ≡ true
bind_fits [] [] h = refl
bind_fits [] (v ∷ vs) h = absurd (cc)
bind_fits (d ∷ ds) [] h = absurd (cc)
bind_fits (d ∷ ds) (v ∷ vs) h =
    let here = first_of (fits (shape_in d.shape) v) (values_fit ds vs) h in
    let others = bind_fits ds vs (second_of (fits (shape_in d.shape) v) (values_fit ds vs) h) in
    ap (λ b. b && fits (shape_in d.shape) v && env_fits ds (bind ds vs)) (bytes_equal d.name.text)
    ∙ ap (λ b. true && b && env_fits ds (bind ds vs)) here ∙ ap (λ b. true && true && b) others

-- what a block of the part sees of its layer
abbrev pub view_of : Part → Visibility
view_of Start = Specification
view_of Spec = Specification
view_of OnCrash = Specification
view_of Crash = Specification
view_of Format = Implementation
view_of Impl = Implementation
view_of TickPart = Implementation
view_of Recover = Implementation

-- the operation at a place of those of a layer without type errors
record OperationAt (o : Operation) (weights : Weights) (scope : Scope) : Type 0 where
  pub arguments : none (parameters_errors o.arguments scope) ≡ true
  pub spec : none (block_errors o.spec (answer_shape o.answer) (seen_as Specification (with_parameters o.arguments scope))) ≡ true
  pub on_crash : (b : Block) → o.on_crash ≡ Some b → none (block_errors b None (seen_as Specification (with_parameters o.arguments scope))) ≡ true
  pub implementation : none (block_errors o.implementation (answer_shape o.answer) (seen_as Implementation (with_parameters o.arguments scope))) ≡ true

operation_at : (os : List Operation) (crash : Block) (known : Named Signature) (weights : Weights) (scope : Scope) →
    none (operations_errors os crash known weights scope) ≡ true
    → (n : ℕ) (o : Operation) → slice_get os n ≡ Some o → OperationAt o weights scope
operation_at [] crash known weights scope e n o h = absurd (cc)
operation_at (p ∷ os) crash known weights scope e (suc n) o h =
    operation_at os crash (with_operation p known) weights scope (second_of (none (operation_errors p crash known weights scope)) _ e) n o h
operation_at (p ∷ os) crash known weights scope e zero o h = subst (λ x. OperationAt x weights scope) same here
  where
    same : p ≡ o
    same = cc

    inner : Scope
    inner = with_parameters p.arguments scope

    here : OperationAt p weights scope
    here =
        let a = second_of (none (unless (not (has p.name.text known)) reason.Twice p.name.place)) _
        (first_of (none (operation_errors p crash known weights scope)) _ e) in
        let b = second_of (none (picks_errors p crash)) _ a in
        let c = second_of (none (parameters_errors p.arguments scope)) _ b in
        let d = second_of (none (answer_type_errors p.answer)) (none (operation_blocks_errors p weights (with_parameters p.arguments scope))) c in
        let spec = none (view_errors Specification p.spec (answer_shape p.answer) weights (with_parameters p.arguments scope)) in
        let crashed = none (on_crash_errors p.on_crash weights (with_parameters p.arguments scope)) in
        let impl = none (view_errors Implementation p.implementation (answer_shape p.answer) weights (with_parameters p.arguments scope)) in
        let f = second_of spec (crashed && impl) d in
        record {
          arguments = first_of (none (parameters_errors p.arguments scope)) _ b;
          spec = first_of (none (block_errors p.spec (answer_shape p.answer) (seen_as Specification (with_parameters p.arguments scope)))) _
              (first_of spec (crashed && impl) d);
          on_crash = λ x i. first_of (none (block_errors x None (seen_as Specification (with_parameters p.arguments scope)))) _
              (subst (λ q. none (on_crash_errors q weights (with_parameters p.arguments scope)) ≡ true) i (first_of crashed impl f));
          implementation = first_of (none (block_errors p.implementation (answer_shape p.answer)
              (seen_as Implementation (with_parameters p.arguments scope)))) _ (second_of crashed impl f);
        }

-- each of several passes the test
kept_at : {A : Type 0} (test : A → Bool) (xs : List A) → list_all test xs ≡ true → (n : ℕ) (x : A) → slice_get xs n ≡ Some x → test x ≡ true
kept_at test [] e n x h = absurd (cc)
kept_at test (y ∷ xs) e zero x h = let same : y ≡ x = cc in subst (λ z. test z ≡ true) same (first_of (test y) (list_all test xs) e)
kept_at test (y ∷ xs) e (suc n) x h = kept_at test xs (second_of (test y) (list_all test xs) e) n x h

-- the background step at a place of those of a layer without type errors
tick_at : (ts : List Tick) (known : Known) (weights : Weights) (scope : Scope) → none (ticks_errors ts known weights scope) ≡ true →
    (n : ℕ) (t : Tick) → slice_get ts n ≡ Some t
    → none (block_errors t.body None (seen_as Implementation scope)) ≡ true
tick_at [] known weights scope e n t h = absurd (cc)
tick_at (s ∷ ts) known weights scope e (suc n) t h =
    tick_at ts (added s.name.text tt known) weights scope (second_of (none (tick_errors s known weights scope)) _ e) n t h
tick_at (s ∷ ts) known weights scope e zero t h =
    let same : s ≡ t = cc in
    let here = second_of (none (unless (not (has s.name.text known)) reason.Twice s.name.place)) _ (first_of (none (tick_errors s known weights scope)) _ e) in
    subst (λ (x : Tick). none (block_errors x.body None (seen_as Implementation scope)) ≡ true) same
    (first_of (none (block_errors s.body None (seen_as Implementation scope))) _ here)

-- a block of a layer has no type error in its scope, and keeps its kind
pub record IsTypedBlock (l : Layer) (part : Part) (number : ℕ) (scope : Scope) (b : Block) : Type 0 where
  pub shape : Option Shape
  pub without_errors : none (block_errors b shape (seen_as (view_of part) (with_parameters (arguments_in l part number) scope))) ≡ true
  pub keeps : keeps (kind_of part) b ≡ true
  pub arguments : none (parameters_errors (arguments_in l part number) scope) ≡ true

block_same : (a b : Block) → Some a ≡ Some b → a ≡ b
block_same a b h = cc

module _ (functions : Functions) (defs : Named Signature) (below : Below) (weights : Weights) (l : Layer)
    (is : IsTypedLayer functions defs below weights l) where
  abbrev declared : Bool
  declared = none (declared_errors l)

  abbrev blocks : Bool
  blocks = none (blocks_errors l weights (layer_scope defs below l))

  abbrev operations : Bool
  operations = none (operations_errors l.operations l.crash [] weights (layer_scope defs below l))

  abbrev ticks : Bool
  ticks = none (ticks_errors l.ticks [] weights (layer_scope defs below l))

  abbrev relations : Bool
  relations = none (relations_errors l weights (layer_scope defs below l))

  p : Parts defs below weights l
  p = parts functions defs below weights l is

  inside : (blocks && (operations && (ticks && relations))) ≡ true
  inside = second_of declared (blocks && (operations && (ticks && relations))) is.typed

  ticks_typed : none (ticks_errors l.ticks [] weights (layer_scope defs below l)) ≡ true
  ticks_typed = first_of ticks relations (second_of operations (ticks && relations) (second_of blocks (operations && (ticks && relations)) inside))

  format_typed : none (block_errors l.format None (seen_as Implementation (layer_scope defs below l))) ≡ true
  format_typed =
      first_of (none (block_errors l.format None (seen_as Implementation (layer_scope defs below l)))) _
      (first_of (none (view_errors Implementation l.format None weights (layer_scope defs below l))) _
      (second_of (none (view_errors Specification l.start None weights (layer_scope defs below l))) _
      (first_of blocks (operations && (ticks && relations)) inside)))

  abbrev kept_format : Bool
  kept_format = keeps kind.Plain l.start && keeps kind.Impl l.format

  abbrev kept_operations : Bool
  kept_operations = kept_format && list_all operation_keeps l.operations

  kept_ticks : (kept_operations && keeps kind.Spec l.crash && list_all tick_keeps l.ticks) ≡ true
  kept_ticks = first_of (kept_operations && keeps kind.Spec l.crash && list_all tick_keeps l.ticks) (keeps kind.Impl l.recover) is.kept

  ticks_kept : list_all tick_keeps l.ticks ≡ true
  ticks_kept = second_of (kept_operations && keeps kind.Spec l.crash) (list_all tick_keeps l.ticks) kept_ticks

  format_kept : keeps kind.Impl l.format ≡ true
  format_kept =
      second_of (keeps kind.Plain l.start) (keeps kind.Impl l.format)
      (first_of kept_format (list_all operation_keeps l.operations)
      (first_of kept_operations (keeps kind.Spec l.crash) (first_of (kept_operations && keeps kind.Spec l.crash) (list_all tick_keeps l.ticks) kept_ticks)))

  -- a block that sees these arguments
  seeing : (part : Part) (number : ℕ) (ds : List Declared) (b : Block) (shape : Option Shape) → arguments_in l part number ≡ ds
      → none (block_errors b shape (seen_as (view_of part) (with_parameters ds (layer_scope defs below l)))) ≡ true → keeps (kind_of part) b ≡ true →
      none (parameters_errors ds (layer_scope defs below l)) ≡ true
      → IsTypedBlock l part number (layer_scope defs below l) b
  seeing part number ds b shape i e k a = record {
    shape = shape;
    without_errors = subst (λ ps. none (block_errors b shape (seen_as (view_of part) (with_parameters ps (layer_scope defs below l)))) ≡ true) (sym i) e;
    keeps = k;
    arguments = subst (λ ps. none (parameters_errors ps (layer_scope defs below l)) ≡ true) (sym i) a;
  }

  -- a block without arguments, which is this one
  alone : (part : Part) (number : ℕ) (x b : Block) → arguments_in l part number ≡ [] → Some x ≡ Some b →
      none (block_errors x None (seen_as (view_of part) (layer_scope defs below l))) ≡ true
      → keeps (kind_of part) x ≡ true → IsTypedBlock l part number (layer_scope defs below l) b
  alone part number x b i h e k = subst (λ y. IsTypedBlock l part number (layer_scope defs below l) y) (block_same x b h)
      (seeing part number [] x None i e k refl)

  arguments_are : (number : ℕ) (o : Operation) → slice_get l.operations number ≡ Some o → arguments_at l number ≡ o.arguments
  arguments_are number o h = ap (λ (q : Option Operation). elim q as (λ q. List Declared) [ None ↦ [] | Some o ↦ o.arguments ]) h

  abbrev spec_kept : Operation → Bool
  spec_kept o = keeps kind.Spec o.spec && returns_declared o.answer o.spec.answer

  abbrev crash_kept : Operation → Bool
  crash_kept o = spec_kept o && on_crash_keeps o.on_crash

  on_crash_kept : (q : Option Block) (b : Block) → q ≡ Some b → on_crash_keeps q ≡ true → keeps kind.Spec b ≡ true
  on_crash_kept None b i k = absurd (cc)
  on_crash_kept (Some x) b i k = subst (λ y. keeps kind.Spec y ≡ true) (block_same x b i) k

  spec_typed : (number : ℕ) (b : Block) (q : Option Operation) → slice_get l.operations number ≡ q → option_map (λ (o : Operation). o.spec) q ≡ Some b
      → IsTypedBlock l Spec number (layer_scope defs below l) b
  spec_typed number b None i h = absurd (cc)
  spec_typed number b (Some o) i h =
      let at = operation_at l.operations l.crash [] weights (layer_scope defs below l) p.operations number o i in
      let k = kept_at operation_keeps l.operations p.operations_kept number o i in
      let kept = first_of (keeps kind.Spec o.spec) (returns_declared o.answer o.spec.answer)
      (first_of (spec_kept o) (on_crash_keeps o.on_crash)
      (first_of (crash_kept o) (keeps kind.Impl o.implementation)
      (first_of (crash_kept o && keeps kind.Impl o.implementation) (returns_declared o.answer o.implementation.answer) k))) in
      subst (λ y. IsTypedBlock l Spec number (layer_scope defs below l) y) (block_same o.spec b h)
      (seeing Spec number o.arguments o.spec (answer_shape o.answer) (arguments_are number o i) at.spec kept at.arguments)

  implementation_typed : (number : ℕ) (b : Block) (q : Option Operation) → slice_get l.operations number ≡ q →
      option_map (λ (o : Operation). o.implementation) q ≡ Some b
      → IsTypedBlock l Impl number (layer_scope defs below l) b
  implementation_typed number b None i h = absurd (cc)
  implementation_typed number b (Some o) i h =
      let at = operation_at l.operations l.crash [] weights (layer_scope defs below l) p.operations number o i in
      let k = kept_at operation_keeps l.operations p.operations_kept number o i in
      let kept = second_of (crash_kept o) (keeps kind.Impl o.implementation)
      (first_of (crash_kept o && keeps kind.Impl o.implementation) (returns_declared o.answer o.implementation.answer) k) in
      subst (λ y. IsTypedBlock l Impl number (layer_scope defs below l) y) (block_same o.implementation b h)
      (seeing Impl number o.arguments o.implementation (answer_shape o.answer) (arguments_are number o i) at.implementation kept at.arguments)

  on_crash_typed : (number : ℕ) (b : Block) (q : Option Operation) → slice_get l.operations number ≡ q →
      option_and_then (λ (o : Operation). o.on_crash) q ≡ Some b
      → IsTypedBlock l OnCrash number (layer_scope defs below l) b
  on_crash_typed number b None i h = absurd (cc)
  on_crash_typed number b (Some o) i h =
      let at = operation_at l.operations l.crash [] weights (layer_scope defs below l) p.operations number o i in
      let k = kept_at operation_keeps l.operations p.operations_kept number o i in
      let kept = second_of (spec_kept o) (on_crash_keeps o.on_crash)
      (first_of (crash_kept o) (keeps kind.Impl o.implementation)
      (first_of (crash_kept o && keeps kind.Impl o.implementation) (returns_declared o.answer o.implementation.answer) k)) in
      seeing OnCrash number o.arguments b None (arguments_are number o i) (at.on_crash b h) (on_crash_kept o.on_crash b h kept) at.arguments

  tick_typed : (number : ℕ) (b : Block) (q : Option Tick) → slice_get l.ticks number ≡ q → option_map (λ (t : Tick). t.body) q ≡ Some b →
      IsTypedBlock l TickPart number (layer_scope defs below l) b
  tick_typed number b None i h = absurd (cc)
  tick_typed number b (Some t) i h =
      alone TickPart number t.body b refl h (tick_at l.ticks [] weights (layer_scope defs below l) ticks_typed number t i)
      (kept_at tick_keeps l.ticks ticks_kept number t i)

  -- each block of a typed layer has no type error, and keeps its kind
  typed_in : (part : Part) (number : ℕ) (b : Block) → block_in l part number ≡ Some b → IsTypedBlock l part number (layer_scope defs below l) b
  typed_in Start number b h = alone Start number l.start b refl h p.start p.start_kept
  typed_in Spec number b h = spec_typed number b (slice_get l.operations number) refl h
  typed_in OnCrash number b h = on_crash_typed number b (slice_get l.operations number) refl h
  typed_in Crash number b h = alone Crash number l.crash b refl h p.crash p.crash_kept
  typed_in Format number b h = alone Format number l.format b refl h format_typed format_kept
  typed_in Impl number b h = implementation_typed number b (slice_get l.operations number) refl h
  typed_in TickPart number b h = tick_typed number b (slice_get l.ticks number) refl h
  typed_in Recover number b h = alone Recover number l.recover b refl h p.recover p.recover_kept

  -- what the block sees of its layer goes together with values that fit
  vars_agree : (part : Part) (values : List Value) → values_fit (variables_in l part) values ≡ true →
      Agrees functions (seen_as (view_of part) (layer_scope defs below l)) (plain (bind (variables_in l part) values))
  vars_agree part values h = at part h
    where
      state : (vs : List Value) → values_fit l.state vs ≡ true → Agrees functions (seen_as Specification (layer_scope defs below l)) (plain (bind l.state vs))
      state vs h = state_agrees functions defs below l is.meets is.shaped p.variables (bind l.state vs) (bind_fits l.state vs h)

      memory : (vs : List Value) → values_fit l.memory vs ≡ true →
          Agrees functions (seen_as Implementation (layer_scope defs below l)) (plain (bind l.memory vs))
      memory vs h = memory_agrees functions defs below l is.meets is.shaped p.variables (bind l.memory vs) (bind_fits l.memory vs h)

      at : (part : Part) → values_fit (variables_in l part) values ≡ true →
          Agrees functions (seen_as (view_of part) (layer_scope defs below l)) (plain (bind (variables_in l part) values))
      at Start h = state values h
      at Spec h = state values h
      at OnCrash h = state values h
      at Crash h = state values h
      at Format h = memory values h
      at Impl h = memory values h
      at TickPart h = memory values h
      at Recover h = memory values h

-- what the operations of the machine with this number take and give, where those of the first are these
abbrev signatures_from : Named Signature → List Layer → ℕ → Named Signature
signatures_from below [] number = below
signatures_from below (l ∷ ls) zero = below
signatures_from below (l ∷ ls) (suc number) = signatures_from (signatures_of l.operations) ls number

-- a layer over what stands below it
pub record LayerAt (functions : Functions) (defs : Named Signature) (weights : Weights) (lower : Named Signature) (l : Layer) : Type 0 where
  pub below : Below
  pub typed : IsTypedLayer functions defs below weights l
  pub operations : below.operations ≡ lower

module _ (functions : Functions) (defs : Named Signature) (weights : Weights) (meets : MeetsAll functions defs) where
  -- the first of some layers, and what those after it stand on
  record FirstLayer (x : Layer) (ls : List Layer) (before : ℕ) (names : Known) (below : Below) : Type 0 where
    pub typed : IsTypedLayer functions defs below weights x
    pub later : none (layers_errors ls (before + 1) (added x.name.text tt names) defs (below_of x) weights) ≡ true
    pub shaped : LowerShaped (below_of x).operations
    pub operations : (below_of x).operations ≡ signatures_of x.operations

  first_layer : (x : Layer) (ls : List Layer) (before : ℕ) (names : Known) (below : Below) →
      none (layers_errors (x ∷ ls) before names defs below weights) ≡ true → list_all layer_keeps (x ∷ ls) ≡ true
      → LowerShaped below.operations → FirstLayer x ls before names below
  first_layer x ls before names below e k shaped =
      let here = none (layer_errors x names defs below weights) in
      let others = none (layers_errors ls (before + 1) (added x.name.text tt names) defs (below_of x) weights) in
      let rest = second_of (none (count_error before x)) (here && others) e in
      let is : IsTypedLayer functions defs below weights x = record {
        typed = second_of (none (unless (not (has x.name.text names)) reason.Twice x.name.place)) (none (parts_errors x weights (layer_scope defs below x)))
            (first_of here others rest);
        kept = first_of (layer_keeps x) (list_all layer_keeps ls) k;
        meets = meets;
        shaped = shaped;
      } in
      let p = parts functions defs below weights x is in
      record {
        typed = is;
        later = second_of here others rest;
        shaped = operations_shaped x.operations x.crash weights (layer_scope defs below x) p.operations p.operations_kept;
        operations = added_all x.operations x.crash [] weights (layer_scope defs below x) p.operations;
      }

  layer_at : (ls : List Layer) (before : ℕ) (names : Known) (below : Below) (lower : Named Signature) →
      none (layers_errors ls before names defs below weights) ≡ true → list_all layer_keeps ls ≡ true
      → LowerShaped below.operations → below.operations ≡ lower → (n : ℕ) (l : Layer) → slice_get ls n ≡ Some l →
      LayerAt functions defs weights (signatures_from lower ls n) l
  layer_at [] before names below lower e k shaped same n l h = absurd (cc)
  layer_at (x ∷ ls) before names below lower e k shaped same zero l h =
      let this : x ≡ l = cc in
      let found = first_layer x ls before names below e k shaped in
      subst (λ (y : Layer). LayerAt functions defs weights lower y) this (record { below = below; typed = found.typed; operations = same })
  layer_at (x ∷ ls) before names below lower e k shaped same (suc n) l h =
      let found = first_layer x ls before names below e k shaped in
      layer_at ls (before + 1) (added x.name.text tt names) (below_of x) (signatures_of x.operations) found.later
      (second_of (layer_keeps x) (list_all layer_keeps ls) k) found.shaped found.operations n l h

-- the operations below a layer that is there are those of the layer before it, or of the disk
signatures_are : (file : File) (place : ℕ) (l : Layer) → slice_get file.layers place ≡ Some l →
    signatures_from (disk_operations file.disk) file.layers place ≡ signatures_at file place
signatures_are file zero l h = first file.layers
  where
    first : (ls : List Layer) → signatures_from (disk_operations file.disk) ls zero ≡ disk_operations file.disk
    first [] = refl
    first (x ∷ ls) = refl
signatures_are file (suc place) l h = later file.layers (disk_operations file.disk) place l h
  where
    later : (ls : List Layer) (lower : Named Signature) (n : ℕ) (l : Layer) → slice_get ls (suc n) ≡ Some l
        → signatures_from lower ls (suc n) ≡ elim (slice_get ls n) as (λ q. Named Signature) [ None ↦ [] | Some l ↦ signatures_of l.operations ]
    later [] lower n l h = absurd (cc)
    later (x ∷ []) lower zero l h = refl
    later (x ∷ y ∷ ls) lower zero l h = refl
    later (x ∷ []) lower (suc n) l h = absurd (cc)
    later (x ∷ y ∷ ls) lower (suc n) l h = later (y ∷ ls) (signatures_of x.operations) n l h

-- What typing says of a block of a file: it has no type error in a scope that goes together with all values of the declared shapes, and keeps its kind.
pub record BlockTyping (file : File) (body : Body) (l : Layer) (b : Block) : Type 0 where
  pub scope : Scope
  pub shape : Option Shape
  pub sound : none (definitions_errors file.defs [] []) ≡ true
  pub defs : scope.defs ≡ with_definitions file.defs []
  pub lower : scope.lower ≡ signatures_at file body.layer
  pub without_errors : none (block_errors b shape scope) ≡ true
  pub keeps : keeps (kind_of body.part) b ≡ true
  pub agrees : (variables args : List Value) → values_fit (variables_in l body.part) variables ≡ true →
      values_fit (arguments_in l body.part body.number) args ≡ true
      → Agrees (functions_of file.defs) scope (plain (bind (variables_in l body.part) variables ++ bind (arguments_in l body.part body.number) args))

-- parameters change neither definitions nor operations
unchanged : (ps : List Declared) (scope : Scope) → ((with_parameters ps scope).defs ≡ scope.defs) × ((with_parameters ps scope).lower ≡ scope.lower)
unchanged [] scope = (refl, refl)
unchanged (d ∷ ps) scope =
    let later = unchanged ps (with_parameter d scope) in
    let here = one (has d.name.text scope.variables) in (later.0 ∙ here.0, later.1 ∙ here.1)
  where
    grown : Scope
    grown = record scope { locals = added d.name.text (record { shape = shape_of d.shape; assignable = false }) scope.locals }

    one : (c : Bool) → ((if c then scope else grown).defs ≡ scope.defs) × ((if c then scope else grown).lower ≡ scope.lower)
    one true = (refl, refl)
    one false = (refl, refl)

-- the blocks of a file that some tokens derive keep their kinds
pub blocks_kept : (file : File) → ∥ IsDerived file ∥₁ → list_all layer_keeps file.layers ≡ true
blocks_kept file d = let once : IsProp (list_all layer_keeps file.layers ≡ true) = Bool-set (list_all layer_keeps file.layers) true in
    ∥∥₁_elim d once (λ (tokens, derives). file_kept tokens file derives)

pub block_typing : (file : File) → list_all layer_keeps file.layers ≡ true → IsTyped file → (body : Body) (l : Layer) (b : Block) →
    IsBlock file body l b → BlockTyping file body l b
block_typing file kept t body l b is = record {
  scope = seen_as (view_of body.part) (with_parameters (arguments_in l body.part body.number) whole);
  shape = typed.shape;
  sound = defs_typed;
  defs = (unchanged (arguments_in l body.part body.number) whole).0;
  lower = (unchanged (arguments_in l body.part body.number) whole).1 ∙ at.operations ∙ signatures_are file body.layer l is.layer;
  without_errors = typed.without_errors;
  keeps = typed.keeps;
  agrees = λ variables args v a.
      agrees_with_arguments functions (view_of body.part) whole (arguments_in l body.part body.number) (bind (variables_in l body.part) variables) args
      (vars_agree functions defs at.below weights l at.typed body.part variables v) typed.arguments a;
}
  where
    functions : Functions
    functions = functions_of file.defs

    defs : Named Signature
    defs = with_definitions file.defs []

    weights : Weights
    weights = weights_of file.defs

    disk : Bool
    disk = none (disk_errors file.disk)

    definitions : Bool
    definitions = none (definitions_errors file.defs [] [])

    layers : Bool
    layers = none (layers_errors file.layers 0 [] (with_definitions file.defs []) (disk_below file.disk) (weights_of file.defs))

    without_errors : none (type_errors_of file) ≡ true
    without_errors = none_listed (type_errors_of file) t

    rest : (definitions && layers) ≡ true
    rest = second_of disk (definitions && layers) without_errors

    defs_typed : none (definitions_errors file.defs [] []) ≡ true
    defs_typed = first_of definitions layers rest

    meets : MeetsAll (functions_of file.defs) (with_definitions file.defs [])
    meets = definitions_meet file.defs defs_typed

    at : LayerAt (functions_of file.defs) (with_definitions file.defs []) (weights_of file.defs)
        (signatures_from (disk_operations file.disk) file.layers body.layer) l
    at =
        layer_at (functions_of file.defs) (with_definitions file.defs []) (weights_of file.defs) meets file.layers 0 [] (disk_below file.disk)
        (disk_operations file.disk) (second_of definitions layers rest) kept
        (on_disk (functions_of file.defs) (with_definitions file.defs []) (weights_of file.defs) file.disk meets
        (first_of disk (definitions && layers) without_errors)).shaped refl body.layer l is.layer

    whole : Scope
    whole = layer_scope (with_definitions file.defs []) at.below l

    typed : IsTypedBlock l body.part body.number (layer_scope (with_definitions file.defs []) at.below l) b
    typed = typed_in (functions_of file.defs) (with_definitions file.defs []) at.below (weights_of file.defs) l at.typed body.part body.number b is.block

-- a layer of a typed file is typed over what stands below it
pub layer_typing : (file : File) → list_all layer_keeps file.layers ≡ true → IsTyped file → (place : ℕ) (l : Layer) → slice_get file.layers place ≡ Some l
    → LayerAt (functions_of file.defs) (with_definitions file.defs []) (weights_of file.defs) (signatures_at file place) l
layer_typing file kept t place l here =
    let disk = none (disk_errors file.disk) in
    let definitions = none (definitions_errors file.defs [] []) in
    let layers = none (layers_errors file.layers 0 [] (with_definitions file.defs []) (disk_below file.disk) (weights_of file.defs)) in
    let without_errors : none (type_errors_of file) ≡ true = none_listed (type_errors_of file) t in
    let rest = second_of disk (definitions && layers) without_errors in
    let meets = definitions_meet file.defs (first_of definitions layers rest) in
    subst (λ lower. LayerAt (functions_of file.defs) (with_definitions file.defs []) (weights_of file.defs) lower l) (signatures_are file place l here)
    (layer_at (functions_of file.defs) (with_definitions file.defs []) (weights_of file.defs) meets file.layers 0 [] (disk_below file.disk)
    (disk_operations file.disk) (second_of definitions layers rest) kept
    (on_disk (functions_of file.defs) (with_definitions file.defs []) (weights_of file.defs) file.disk meets
    (first_of disk (definitions && layers) without_errors)).shaped refl place l here)
