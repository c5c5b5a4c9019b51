-- The operations of a typed layer, by place and by name.
use Rattle.std.proofs.Common.{
  ◌≡◌,
  ℕ,
  zero,
  suc,
  ◌+◌,
  Bool,
  true,
  false,
  ◌&&◌,
  not,
  if◌then◌else◌,
  List,
  [],
  ◌∷◌,
  ◌++◌,
  All,
  Option,
  Some,
  None,
  is_some,
  refl,
  sym,
  ap,
  ◌∙◌,
  subst,
}
use Rattle.std.specs.Prelude.{slice_get}
use Rattle.std.specs.Str.{bytes_eq}
use Rattle.std.proofs.lemmas.List.Elements.{All-head, All-tail}
use Rattle.ygg_base.specs.declared.reason.Reason.TheVariants as reason
use Rattle.ygg_syntax.specs.declared.tree.Declared.{Declared}
use Rattle.ygg_syntax.specs.declared.tree.Block.{Block}
use Rattle.ygg_syntax.specs.declared.tree.Operation.{Operation}
use Rattle.ygg_syntax.specs.declared.tree.Layer.{Layer}
use Rattle.ygg_syntax.specs.declared.tree.File.{File}
use Rattle.ygg_eval.specs.ygg_syntax.Weights.{Weights, weights_of}
use Rattle.ygg_eval.specs.ygg_type_rules.Names.{Named, look_up, has, added}
use Rattle.ygg_eval.specs.ygg_type_rules.declared.scope.Signature.{Signature}
use Rattle.ygg_eval.specs.ygg_type_rules.TypeErrors.{none, unless}
use Rattle.ygg_eval.specs.ygg_type_rules.Scopes.{Scope}
use Rattle.ygg_eval.specs.ygg_type_rules.Definitions.{definitions_errors, with_definitions, parameters_errors}
use Rattle.ygg_eval.specs.ygg_type_rules.Layers.{
  Below,
  below_of,
  layer_scope,
  declared_errors,
  blocks_errors,
  picks_errors,
  operation_signature,
  with_operation,
  operation_errors,
  operations_errors,
}
use Rattle.ygg_eval.specs.ygg_type_rules.Layers as typing
use Rattle.ygg_eval.specs.ygg_type_rules.Files.{type_errors_of, disk_errors, disk_below, count_error, layer_errors, layers_errors}
use Rattle.ygg_eval.specs.ygg_meaning.Environments.{Name}
use Rattle.ygg_eval.specs.ygg_meaning.Meaning.{Functions}
use Rattle.ygg_eval.specs.ygg_meaning.Layer.{ClosedLayer, operation_in}
use Rattle.ygg_eval.specs.ygg_meaning.Stack.{Layers, layers_on}
use Rattle.ygg_eval.specs.ygg_meaning_laws_proofs_Tests.{left, right, passed, turned, bytes_equal}
use Rattle.ygg_eval.specs.ygg_meaning_laws_proofs_Names.{or_else, look_up_append}
use Rattle.ygg_eval.specs.Layers.{variables_from}

-- an operation of a layer without type errors is the first of its name, and its name is new
pub record IsFirst (os : List Operation) (known : Named Signature) (scope : Scope) (o : Operation) : Type 0 where
  pub new : has o.name.text known ≡ false
  pub found : operation_in os o.name.text ≡ Some o
  pub arguments : none (parameters_errors o.arguments scope) ≡ true

-- a name that isn't among names and one more isn't among them, and isn't that one
spared : (name other : Name) (s : Signature) (known : Named Signature) → has name (added other s known) ≡ false → has other known ≡ false →
    (has name known ≡ false) × (bytes_eq other name ≡ false)
spared name other s known h free = at (look_up name known) (bytes_eq other name) refl refl shown
  where
    shown : is_some (or_else (look_up name known) (if bytes_eq other name then Some s else None)) ≡ false
    shown =
        ap is_some (sym (look_up_append name known ((other, s) ∷ []))) ∙ ap (λ b. has name (if b then known else known ++ (other, s) ∷ [])) (sym free) ∙ h

    at : (o : Option Signature) (b : Bool) → look_up name known ≡ o → bytes_eq other name ≡ b →
        is_some (or_else o (if b then Some s else None)) ≡ false → (has name known ≡ false) × (bytes_eq other name ≡ false)
    at (Some x) b e f h = absurd (cc)
    at None true e f h = absurd (cc)
    at None false e f h = (ap is_some e, f)

pub find_first : (os : List Operation) (crash : Block) (known : Named Signature) (weights : Weights) (scope : Scope) →
    none (operations_errors os crash known weights scope) ≡ true
    → (place : ℕ) (o : Operation) → slice_get os place ≡ Some o → IsFirst os known scope o
find_first [] crash known weights scope e place o h = absurd (cc)
find_first (p ∷ os) crash known weights scope e place o h = at place h (λ n i. find_first os crash (with_operation p known) weights scope later n o i)
  where
    here : none (operation_errors p crash known weights scope) ≡ true
    here = left (none (operation_errors p crash known weights scope)) (none (operations_errors os crash (with_operation p known) weights scope)) e

    later : none (operations_errors os crash (with_operation p known) weights scope) ≡ true
    later = right (none (operation_errors p crash known weights scope)) (none (operations_errors os crash (with_operation p known) weights scope)) e

    free : has p.name.text known ≡ false
    free = turned (has p.name.text known) (passed (not (has p.name.text known)) reason.Twice p.name.place
        (left (none (unless (not (has p.name.text known)) reason.Twice p.name.place)) _ here))

    arguments : none (parameters_errors p.arguments scope) ≡ true
    arguments = left (none (parameters_errors p.arguments scope)) _
        (right (none (picks_errors p crash)) _ (right (none (unless (not (has p.name.text known)) reason.Twice p.name.place)) _ here))

    same : (a b : Operation) → Some a ≡ Some b → a ≡ b
    same a b h = cc

    at : (place : ℕ) → slice_get (p ∷ os) place ≡ Some o → ((n : ℕ) → slice_get os n ≡ Some o → IsFirst os (with_operation p known) scope o) →
        IsFirst (p ∷ os) known scope o
    at zero h again =
        subst (IsFirst (p ∷ os) known scope) (same p o h)
        (record { new = free; found = ap (λ b. if b then Some p else operation_in os p.name.text) (bytes_equal p.name.text); arguments = arguments })
    at (suc n) h again =
        let f = again n h in
        let (new, other) = spared o.name.text p.name.text (operation_signature p) known f.new free in
        record { new = new; found = ap (λ b. if b then Some p else operation_in os o.name.text) other ∙ f.found; arguments = f.arguments }

-- the operations of a layer have no type error
pub record HasOperations (l : Layer) : Type 0 where
  pub weights : Weights
  pub scope : Scope
  pub without_errors : none (operations_errors l.operations l.crash [] weights scope) ≡ true

has_operations : (ls : List Layer) (before : ℕ) (names : typing.Known) (defs : Named Signature) (below : Below) (weights : Weights) →
    none (layers_errors ls before names defs below weights) ≡ true
    → (place : ℕ) (l : Layer) → slice_get ls place ≡ Some l → HasOperations l
has_operations [] before names defs below weights e place l h = absurd (cc)
has_operations (k ∷ ls) before names defs below weights e place l h =
    at place h (λ n i. has_operations ls (before + 1) (added k.name.text tt names) defs (below_of k) weights
    (right (none (layer_errors k names defs below weights)) _ both) n l i)
  where
    both : (none (layer_errors k names defs below weights)
        && none (layers_errors ls (before + 1) (added k.name.text tt names) defs (below_of k) weights)) ≡ true
    both = right (none (count_error before k)) _ e

    parts : none (typing.parts_errors k weights (layer_scope defs below k)) ≡ true
    parts = right (none (unless (not (has k.name.text names)) reason.Twice k.name.place)) _ (left (none (layer_errors k names defs below weights)) _ both)

    without_errors : none (operations_errors k.operations k.crash [] weights (layer_scope defs below k)) ≡ true
    without_errors =
        left (none (operations_errors k.operations k.crash [] weights (layer_scope defs below k))) _
        (right (none (blocks_errors k weights (layer_scope defs below k))) _ (right (none (declared_errors k)) _ parts))

    same : (a b : Layer) → Some a ≡ Some b → a ≡ b
    same a b h = cc

    at : (place : ℕ) → slice_get (k ∷ ls) place ≡ Some l → ((n : ℕ) → slice_get ls n ≡ Some l → HasOperations l) → HasOperations l
    at zero h again = subst HasOperations (same k l h) (record { weights = weights; scope = layer_scope defs below k; without_errors = without_errors })
    at (suc n) h again = again n h

-- so is it in a typed file
pub typed_operations : (file : File) → none (type_errors_of file) ≡ true → (place : ℕ) (l : Layer) → slice_get file.layers place ≡ Some l → HasOperations l
typed_operations file e place l h =
    has_operations file.layers 0 [] (with_definitions file.defs []) (disk_below file.disk) (weights_of file.defs)
    (right (none (definitions_errors file.defs [] [])) _ (right (none (disk_errors file.disk)) _ e)) place l h

-- what holds of all layers of a file holds of the one at a place, with the variables of the machine below
pub record AllOf (P : ClosedLayer → Type 0) (functions : Functions) (low : List Declared) (ls : List Layer) (lower : Layers) : Type 0 where
  pub lower_hold : All P lower
  pub hold : (place : ℕ) (l : Layer) → slice_get ls place ≡ Some l → P (record { functions = functions; layer = l; low = variables_from low ls place })

pub all_of : (P : ClosedLayer → Type 0) (functions : Functions) (low : List Declared) (ls : List Layer) (lower : Layers) →
    All P (layers_on functions low ls lower) → AllOf P functions low ls lower
all_of P functions low [] lower a = record { lower_hold = a; hold = λ place l h. absurd (nowhere place l h) }
  where
    nowhere : (place : ℕ) (l : Layer) → None ≡ Some l → ⊥
    nowhere place l h = cc
all_of P functions low (k ∷ ls) lower a =
    let L : ClosedLayer = record { functions = functions; layer = k; low = low } in
    let again = all_of P functions k.state ls (L ∷ lower) a in
    record { lower_hold = All-tail P L lower again.lower_hold; hold = at (All-head P L lower again.lower_hold) again.hold }
  where
    same : (a b : Layer) → Some a ≡ Some b → a ≡ b
    same a b h = cc

    at : P (record { functions = functions; layer = k; low = low }) →
        ((place : ℕ) (l : Layer) → slice_get ls place ≡ Some l → P (record { functions = functions; layer = l; low = variables_from k.state ls place }))
        → (place : ℕ) (l : Layer) → slice_get (k ∷ ls) place ≡ Some l → P (record { functions = functions; layer = l; low = variables_from low (k ∷ ls) place })
    at first others zero l h = subst (λ x. P (record { functions = functions; layer = x; low = low })) (same k l h) first
    at first others (suc n) l h = others n l h
