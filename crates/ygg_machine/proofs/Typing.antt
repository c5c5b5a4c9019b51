-- What typing says of the memory of a layer, and of what its operations give.
use Rattle.std.proofs.Common.{
  ◌≡◌,
  ℕ,
  zero,
  suc,
  Bool,
  true,
  false,
  ◌&&◌,
  not,
  if◌then◌else◌,
  List,
  [],
  ◌∷◌,
  ◌++◌,
  length,
  slice_get,
  Option,
  Some,
  None,
  is_some,
  is_none,
  refl,
  sym,
  ap,
  ◌∙◌,
  subst,
  append_assoc,
}
use Rattle.std.specs.List.{list_all}
use Rattle.std.specs.Str.{bytes_eq}
use Rattle.std.proofs.lemmas.List.{append-nil}
use Rattle.std.proofs.lemmas.List.Elements.{All-nil, All-cons}
use Rattle.ygg_base.specs.declared.reason.Reason.TheVariants as reason
use Rattle.ygg_value.specs.Shapes.{IsShape, zero_of}
use Rattle.ygg_value.specs.declared.row.Value.{Value}
use Rattle.ygg_syntax.specs.declared.grammar.BlockKind.TheVariants as kind
use Rattle.ygg_syntax.specs.declared.tree.Block.{Block}
use Rattle.ygg_syntax.specs.declared.tree.Declared.{Declared}
use Rattle.ygg_syntax.specs.declared.tree.Expr.{Expr}
use Rattle.ygg_syntax.specs.declared.tree.Layer.{Layer}
use Rattle.ygg_syntax.specs.declared.tree.Operation.{Operation}
use Rattle.ygg_syntax.specs.declared.tree.Tick.{Tick}
use Rattle.ygg_syntax.specs.declared.tree.TypeText.{TypeText}
use Rattle.ygg_syntax.specs.declared.tree.File.{File}
use Rattle.ygg_syntax.specs.Files.{IsDerivable}
use Rattle.ygg_eval.specs.ygg_syntax.Weights.{Weights, weights_of}
use Rattle.ygg_eval.specs.ygg_type_rules.Names.{Named, look_up, has, added}
use Rattle.ygg_eval.specs.ygg_type_rules.declared.scope.Visibility.TheVariants.{Implementation}
use Rattle.ygg_eval.specs.ygg_type_rules.declared.scope.Signature.{Signature}
use Rattle.ygg_eval.specs.ygg_type_rules.TypeErrors.{none, unless}
use Rattle.ygg_eval.specs.ygg_type_rules.Shapes.{shape_of, answer_shape}
use Rattle.ygg_eval.specs.ygg_type_rules.Scopes.{Scope, seen_as}
use Rattle.ygg_eval.specs.ygg_type_rules.Statements.{block_errors}
use Rattle.ygg_eval.specs.ygg_type_rules.Definitions.{with_definitions, with_parameter, with_parameters, parameters_errors, answer_type_errors}
use Rattle.ygg_eval.specs.ygg_type_rules.Layers.{
  layer_scope,
  blocks_errors,
  declared_errors,
  relations_errors,
  tick_errors,
  ticks_errors,
  operation_signature,
  with_operation,
  on_crash_errors,
  operation_errors,
  operation_blocks_errors,
  operations_errors,
  picks_errors,
  view_errors,
}
use Rattle.ygg_eval.specs.ygg_type_rules.declared.scope.Visibility.TheVariants as view
use Rattle.ygg_eval.specs.ygg_type_rules.Files.{type_errors_of}
use Rattle.ygg_eval.specs.ygg_type_proofs_Least.{is_empty}
use Rattle.ygg_eval.specs.ygg_meaning.Environments.{Name, bind}
use Rattle.ygg_eval.specs.ygg_meaning.Meaning.{functions_of}
use Rattle.ygg_eval.specs.ygg_meaning.Progress.{Question, Answer, Asks}
use Rattle.ygg_eval.specs.ygg_meaning.Runs.{Dialogue}
use Rattle.ygg_eval.specs.ygg_meaning.Layer.{dialogue_of, tick_in}
use Rattle.ygg_eval.specs.ygg_meaning.Shapes.{env_fits, shape_in, values_fit, zeros_of}
use Rattle.ygg_eval.specs.ygg_meaning_laws_proofs_Names.{or_else, look_up_append}
use Rattle.ygg_eval.specs.ygg_meaning_laws_proofs_Parameters.{type_is}
use Rattle.ygg_eval.specs.ygg_meaning_laws_proofs_Tests.{left, right, passed, turned, bytes_equal}
use Rattle.ygg_eval.specs.ygg_meaning_laws.Blocks.{is_returned}
use Rattle.ygg_eval.specs.ygg_meaning_laws.Kinds.{keeps, layer_keeps, operation_keeps, on_crash_keeps, returns_declared}
use Rattle.ygg_eval.specs.ygg_meaning_laws.Questions.{gives, answer_has, answer_fits, AnswersFit}
use Rattle.ygg_eval.proofs.of_ygg_meaning_laws.Derived.{derivable_derived}
use Rattle.ygg_eval.specs.ygg_meaning_laws_proofs_Files.{have}
use Rattle.ygg_eval.specs.ygg_meaning_laws_proofs_ProgressSounds.{block_sound}
use Rattle.ygg_eval.specs.ygg_meaning_laws_proofs_Typed.{Parts, parts}
use Rattle.ygg_eval.proofs.of_ygg_meaning_laws.Views.{AllTyped, zeros_fit, memory_agrees, agrees_with_arguments}
use Rattle.ygg_eval.specs.Conversations.{Exchange, Exchanged, Talks, asked, answers_of}
use Rattle.ygg_eval.specs.Layers.{closed_at, signatures_at}
use Rattle.ygg_eval.specs.Lower.{Standing, Meaning}
use Rattle.ygg_eval.proofs.Blocks.{LayerAt, bind_fits, blocks_kept, layer_typing}
use Rattle.ygg_eval.specs.Runs.{Finished}
use Rattle.ygg_eval.proofs.Values.{bound_fits}
use Rattle.ygg_machine.specs.Floors.{memory_at}
use Rattle.ygg_eval.specs.Zeros.{AreShapes, zero_values}

shapes_kept : (ds : List Declared) → AllTyped ds → AreShapes ds
shapes_kept [] t = All-nil (λ (d : Declared). IsShape (shape_in d.shape))
shapes_kept (d ∷ ds) (type, t) = All-cons (λ (d : Declared). IsShape (shape_in d.shape)) d ds (type_is d.shape type).limits (shapes_kept ds t)

-- zeros in order are the zeros of the names
pub bind_zeros : (ds : List Declared) → bind ds (zero_values ds) ≡ zeros_of ds
bind_zeros [] = refl
bind_zeros (d ∷ ds) = ap (λ rest. (d.name.text, zero_of (shape_in d.shape)) ∷ rest) (bind_zeros ds)

zeros_many : (ds : List Declared) → length (zero_values ds) ≡ length ds
zeros_many [] = refl
zeros_many (d ∷ ds) = ap suc (zeros_many ds)

zeros_shaped : (ds : List Declared) → AllTyped ds → values_fit ds (zero_values ds) ≡ true
zeros_shaped ds t = bound_fits ds (zero_values ds) (zeros_many ds) (ap (λ env. env_fits ds env) (bind_zeros ds) ∙ zeros_fit ds t)

-- an implementation has no type error, where its operation's arguments are seen too
pub record IsImplementation (o : Operation) (scope : Scope) : Type 0 where
  pub arguments : none (parameters_errors o.arguments scope) ≡ true
  pub without_errors : none (block_errors o.implementation (answer_shape o.answer) (seen_as Implementation (with_parameters o.arguments scope))) ≡ true

implementation_at : (os : List Operation) (crash : Block) (known : Named Signature) (weights : Weights) (scope : Scope) →
    none (operations_errors os crash known weights scope) ≡ true → (n : ℕ) (o : Operation) → slice_get os n ≡ Some o → IsImplementation o scope
implementation_at [] crash known weights scope e n o h = absurd (cc)
implementation_at (p ∷ os) crash known weights scope e (suc n) o h =
    implementation_at os crash (with_operation p known) weights scope (right (none (operation_errors p crash known weights scope)) _ e) n o h
implementation_at (p ∷ os) crash known weights scope e zero o h = subst (λ x. IsImplementation x scope) same here
  where
    same : p ≡ o
    same = cc

    inner : Scope
    inner = with_parameters p.arguments scope

    here : IsImplementation p scope
    here =
        let a = right (none (unless (not (has p.name.text known)) reason.Twice p.name.place)) _
        (left (none (operation_errors p crash known weights scope)) _ e) in
        let b = right (none (picks_errors p crash)) _ a in
        let c = right (none (parameters_errors p.arguments scope)) _ b in
        let d = right (none (answer_type_errors p.answer)) (none (operation_blocks_errors p weights (with_parameters p.arguments scope))) c in
        let spec = none (view_errors view.Specification p.spec (answer_shape p.answer) weights (with_parameters p.arguments scope)) in
        let crashed = none (on_crash_errors p.on_crash weights (with_parameters p.arguments scope)) in
        let impl = none (view_errors Implementation p.implementation (answer_shape p.answer) weights (with_parameters p.arguments scope)) in
        record {
          arguments = left (none (parameters_errors p.arguments scope)) _ b;
          without_errors = left (none (block_errors p.implementation (answer_shape p.answer)
              (seen_as Implementation (with_parameters p.arguments scope)))) _ (right crashed impl (right spec (crashed && impl) d));
        }

-- it keeps its kind, and returns something exactly where its operation gives an answer
pub record IsKept (o : Operation) : Type 0 where
  pub keeps : keeps kind.Impl o.implementation ≡ true
  pub returns : returns_declared o.answer o.implementation.answer ≡ true

abbrev specified : Operation → Bool
specified o = keeps kind.Spec o.spec && returns_declared o.answer o.spec.answer && on_crash_keeps o.on_crash

kept_at : (os : List Operation) → list_all operation_keeps os ≡ true → (n : ℕ) (o : Operation) → slice_get os n ≡ Some o → IsKept o
kept_at [] e n o h = absurd (cc)
kept_at (p ∷ os) e (suc n) o h = kept_at os (right (operation_keeps p) (list_all operation_keeps os) e) n o h
kept_at (p ∷ os) e zero o h = subst IsKept same here
  where
    same : p ≡ o
    same = cc

    here : IsKept p
    here =
        let k = left (operation_keeps p) (list_all operation_keeps os) e in
        let first = left (specified p && keeps kind.Impl p.implementation) (returns_declared p.answer p.implementation.answer) k in
        record {
          keeps = right (specified p) (keeps kind.Impl p.implementation) first;
          returns = right (specified p && keeps kind.Impl p.implementation) (returns_declared p.answer p.implementation.answer) k;
        }

-- what is returned where something is declared is an answer
given : (declared : Option TypeText) (returned : Option Expr) (a : Answer) → returns_declared declared returned ≡ true →
    is_returned returned (answer_shape declared) a ≡ true → (if is_some declared then answer_has (answer_shape declared) a else is_none a) ≡ true
given None None a k r = r
given (Some t) (Some e) a k r = r
given None (Some e) a k r = absurd (cc)
given (Some t) None a k r = absurd (cc)

-- parameters don't change the operations of the machine below
same_lower : (ps : List Declared) (scope : Scope) → (with_parameters ps scope).lower ≡ scope.lower
same_lower [] scope = refl
same_lower (d ∷ ps) scope = same_lower ps (with_parameter d scope) ∙ one (has d.name.text scope.variables)
  where
    grown : Scope
    grown = record scope { locals = added d.name.text (record { shape = shape_of d.shape; assignable = false }) scope.locals }

    one : (c : Bool) → (if c then scope else grown).lower ≡ scope.lower
    one true = refl
    one false = refl

-- a name that isn't among names and one more isn't among them, and isn't that one
spared : (name other : Name) (known : Named (Unit {0})) → has name (added other tt known) ≡ false → has other known ≡ false →
    (has name known ≡ false) × (bytes_eq other name ≡ false)
spared name other known h free = at (look_up name known) (bytes_eq other name) refl refl shown
  where
    shown : is_some (or_else (look_up name known) (if bytes_eq other name then Some tt else None)) ≡ false
    shown =
        ap is_some (sym (look_up_append name known ((other, tt) ∷ []))) ∙ ap (λ b. has name (if b then known else known ++ (other, tt) ∷ [])) (sym free) ∙ h

    at : (o : Option (Unit {0})) (b : Bool) → look_up name known ≡ o → bytes_eq other name ≡ b →
        is_some (or_else o (if b then Some tt else None)) ≡ false → (has name known ≡ false) × (bytes_eq other name ≡ false)
    at (Some x) b e f h = absurd (cc)
    at None true e f h = absurd (cc)
    at None false e f h = (ap is_some e, f)

-- a background step of a layer without type errors is the first of its name, and its name is new
pub record IsFirstTick (ts : List Tick) (known : Named (Unit {0})) (t : Tick) : Type 0 where
  pub new : has t.name.text known ≡ false
  pub found : tick_in ts t.name.text ≡ Some t

find_tick : (ts : List Tick) (known : Named (Unit {0})) (weights : Weights) (scope : Scope) → none (ticks_errors ts known weights scope) ≡ true →
    (place : ℕ) (t : Tick) → slice_get ts place ≡ Some t → IsFirstTick ts known t
find_tick [] known weights scope e place t h = absurd (cc)
find_tick (p ∷ ts) known weights scope e place t h =
    at place h (λ n i. find_tick ts (added p.name.text tt known) weights scope (right (none (tick_errors p known weights scope)) _ e) n t i)
  where
    here : none (tick_errors p known weights scope) ≡ true
    here = left (none (tick_errors p known weights scope)) (none (ticks_errors ts (added p.name.text tt known) weights scope)) e

    free : has p.name.text known ≡ false
    free = turned (has p.name.text known) (passed (not (has p.name.text known)) reason.Twice p.name.place
        (left (none (unless (not (has p.name.text known)) reason.Twice p.name.place)) _ here))

    same : (a b : Tick) → Some a ≡ Some b → a ≡ b
    same a b h = cc

    at : (place : ℕ) → slice_get (p ∷ ts) place ≡ Some t → ((n : ℕ) → slice_get ts n ≡ Some t → IsFirstTick ts (added p.name.text tt known) t) →
        IsFirstTick (p ∷ ts) known t
    at zero h again =
        subst (IsFirstTick (p ∷ ts) known) (same p t h)
        (record { new = free; found = ap (λ b. if b then Some p else tick_in ts p.name.text) (bytes_equal p.name.text) })
    at (suc n) h again =
        let f = again n h in
        let (new, other) = spared t.name.text p.name.text known f.new free in
        record { new = new; found = ap (λ b. if b then Some p else tick_in ts t.name.text) other ∙ f.found }

module _ {S : Type 0} (M : Meaning S) (file : File) (number : ℕ) (block : Dialogue) where
  abbrev lower : Named Signature
  lower = signatures_at file number

  -- each answer of a conversation fits what was asked for
  fit_from : (told : List Answer) (from : Standing S) (xs : List (Exchange S)) (to : Standing S) →
      Talks (Exchanged M file kind.Impl number) (λ t. asked (block t)) told from xs to →
      (t more : List Answer) (a : Answer) (q : Question) → answers_of xs ≡ t ++ a ∷ more → block (told ++ t) ≡ Asks q →
      answer_fits (signatures_at file number) q a ≡ true
  fit_from told from [] to p [] more a q i w = absurd (cc)
  fit_from told from [] to p (y ∷ t) more a q i w = absurd (cc)
  fit_from told from (x ∷ xs) to (asks, ex, rest) [] more a q i w =
      let answer : x.answer ≡ a = cc in
      let question : x.question ≡ q = question_is x.question q (sym asks ∙ ap (λ (t : List Answer). asked (block t)) (sym (append-nil told)) ∙ ap asked w) in
      subst (λ (y : Answer). answer_fits (signatures_at file number) q y ≡ true) answer
      (subst (λ (y : Question). answer_fits (signatures_at file number) y x.answer ≡ true) question ex.answered.fit)
    where
      question_is : (p q : Question) → Some p ≡ Some q → p ≡ q
      question_is p q h = cc
  fit_from told from (x ∷ xs) to (asks, ex, rest) (y ∷ t) more a q i w =
      let answer : x.answer ≡ y = cc in
      let others : answers_of xs ≡ t ++ a ∷ more = cc in
      fit_from (told ++ x.answer ∷ []) x.after xs to rest t more a q others
      (ap block (append_assoc told (x.answer ∷ []) t ∙ ap (λ (z : Answer). told ++ z ∷ t) answer) ∙ w)

  answers_fit : (from : Standing S) (xs : List (Exchange S)) (to : Standing S) →
      Talks (Exchanged M file kind.Impl number) (λ t. asked (block t)) [] from xs to → AnswersFit (signatures_at file number) block (answers_of xs)
  answers_fit from xs to path told more a q i w = fit_from [] from xs to path told more a q i w

module _ (file : File) (fine : none (type_errors_of file) ≡ true) (derivable : ∥ IsDerivable file ∥₁) where
  kept : list_all layer_keeps file.layers ≡ true
  kept = blocks_kept file (derivable_derived file derivable)

  abbrev Placed : ℕ → Layer → Type 0
  Placed place l = LayerAt (functions_of file.defs) (with_definitions file.defs []) (weights_of file.defs) (signatures_at file place) l

  placed : (place : ℕ) (l : Layer) → slice_get file.layers place ≡ Some l → Placed place l
  placed place l here = layer_typing file kept (is_empty (type_errors_of file) fine) place l here

  parts_at : (place : ℕ) (l : Layer) (at : Placed place l) → Parts (with_definitions file.defs []) at.below (weights_of file.defs) l
  parts_at place l at = parts (functions_of file.defs) (with_definitions file.defs []) at.below (weights_of file.defs) l at.typed

  -- the shapes of a layer's memory keep the limits
  pub memory_shapes : (place : ℕ) (l : Layer) → slice_get file.layers place ≡ Some l → AreShapes l.memory
  memory_shapes place l here = shapes_kept l.memory (parts_at place l (placed place l here)).variables.memory

  pub shapes_at : (place : ℕ) → AreShapes (memory_at file place)
  shapes_at place = at (slice_get file.layers place) refl
    where
      at : (o : Option Layer) → slice_get file.layers place ≡ o → AreShapes (elim o as (λ o. List Declared) [ None ↦ [] | Some l ↦ l.memory ])
      at None h = All-nil (λ (d : Declared). IsShape (shape_in d.shape))
      at (Some l) h = memory_shapes place l h

  -- and zeros of them fit
  pub memory_zeros : (place : ℕ) (l : Layer) → slice_get file.layers place ≡ Some l → values_fit l.memory (zero_values l.memory) ≡ true
  memory_zeros place l here = zeros_shaped l.memory (parts_at place l (placed place l here)).variables.memory

  -- a background step is the first of its name
  pub tick_found : (place number : ℕ) (l : Layer) (t : Tick) → slice_get file.layers place ≡ Some l → slice_get l.ticks number ≡ Some t →
      tick_in l.ticks t.name.text ≡ Some t
  tick_found place number l t here is =
      let at = placed place l here in
      let scope = layer_scope (with_definitions file.defs []) at.below l in
      let weights = weights_of file.defs in
      let ticks = none (ticks_errors l.ticks [] weights scope) in
      let relations = none (relations_errors l weights scope) in
      let operations = none (operations_errors l.operations l.crash [] weights scope) in
      let blocks = none (blocks_errors l weights scope) in
      let declared = none (declared_errors l) in
      let without_errors = left ticks relations (right operations (ticks && relations)
      (right blocks (operations && (ticks && relations)) (right declared (blocks && (operations && (ticks && relations))) at.typed.typed))) in
      (find_tick l.ticks [] weights scope without_errors number t is).found

  -- what an implementation gives has the shape that its operation declares
  pub implementation_gives : {S : Type 0} (M : Meaning S) (place number : ℕ) (l : Layer) (o : Operation) → slice_get file.layers place ≡ Some l →
      slice_get l.operations number ≡ Some o → (memory args : List Value) → values_fit l.memory memory ≡ true → values_fit o.arguments args ≡ true →
      (variables : List Declared) (values values' : List Value) (answer : Answer) (from to : Standing S) →
      Finished M file kind.Impl place (dialogue_of (closed_at file place l) o.implementation (bind l.memory memory) (bind o.arguments args)) from
      variables values values' answer to → gives (operation_signature o) answer ≡ true
  implementation_gives {S} M place number l o here is memory args memory_fit args_fit variables values values' answer from to f =
      let at = placed place l here in
      let p = parts_at place l at in
      let whole = layer_scope (with_definitions file.defs []) at.below l in
      let i = implementation_at l.operations l.crash [] (weights_of file.defs) whole p.operations number o is in
      let k = kept_at l.operations p.operations_kept number o is in
      let scope = seen_as Implementation (with_parameters o.arguments whole) in
      let env = bind l.memory memory ++ bind o.arguments args in
      let block = dialogue_of (closed_at file place l) o.implementation (bind l.memory memory) (bind o.arguments args) in
      let seen : (seen_as Implementation (with_parameters o.arguments (layer_scope (with_definitions file.defs []) at.below l))).lower ≡ signatures_at
      file place =
      same_lower o.arguments (layer_scope (with_definitions file.defs []) at.below l) ∙ at.operations in
      let agrees = agrees_with_arguments (functions_of file.defs) Implementation whole o.arguments (bind l.memory memory) args
      (memory_agrees (functions_of file.defs) (with_definitions file.defs []) at.below l at.typed.meets at.typed.shaped p.variables
      (bind l.memory memory) (bind_fits l.memory memory memory_fit)) i.arguments args_fit in
      let sound = block_sound (functions_of file.defs) (signatures_at file place) (have (functions_of file.defs)) kind.Impl scope o.implementation
      (answer_shape o.answer) env (answers_of f.came.exchanges) (record { lower_is = seen; agrees = agrees }) i.without_errors k.keeps
      (answers_fit M file place block from f.came.exchanges to f.came.path) in
      given o.answer o.implementation.answer answer k.returns (sound.returns f.env answer f.ends)
