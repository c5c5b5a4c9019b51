-- The operations of a typed layer.
use Rattle.std.proofs.Common.{
  ◌≡◌,
  Bool,
  true,
  false,
  ◌&&◌,
  not,
  if◌then◌else◌,
  List,
  [],
  ◌∷◌,
  ◌++◌,
  map,
  Option,
  Some,
  None,
  is_some,
  option_map,
  refl,
  sym,
  ap,
  ◌∙◌,
  subst,
  append_assoc,
}
use Rattle.std.proofs.lemmas.List.{append-nil}
use Rattle.std.specs.Str.{bytes_eq}
use Rattle.std.specs.List.{list_all}
use Rattle.ygg_base.specs.declared.reason.Reason.TheVariants as reason
use Rattle.ygg_syntax.specs.declared.tree.TypeText.{TypeText}
use Rattle.ygg_syntax.specs.declared.tree.Operation.{Operation}
use Rattle.ygg_syntax.specs.declared.tree.Block.{Block}
use Rattle.ygg_meaning_laws.specs.Weights.{Weights}
use Rattle.ygg_meaning_laws.specs.ygg_type_rules.Names.{Named, look_up, has}
use Rattle.ygg_meaning_laws.specs.Visibility.TheVariants.{Specification, Implementation}
use Rattle.ygg_meaning_laws.specs.Signature.{Signature}
use Rattle.ygg_meaning_laws.specs.TypeErrors.{none, unless}
use Rattle.ygg_meaning_laws.specs.Shapes.{answer_shape}
use Rattle.ygg_meaning_laws.specs.Scopes.{Scope, seen_as}
use Rattle.ygg_meaning_laws.specs.Statements.{block_errors}
use Rattle.ygg_meaning_laws.specs.Definitions.{answer_type_errors, with_parameters, parameters_errors}
use Rattle.ygg_meaning_laws.specs.Layers.{
  operation_signature,
  with_operation,
  with_operations,
  operation_errors,
  operations_errors,
  picks_errors,
  on_crash_errors,
  view_errors,
  operation_blocks_errors,
}
use Rattle.ygg_meaning.specs.Environments.{Name}
use Rattle.ygg_meaning.specs.Layer.{operation_in}
use Rattle.ygg_meaning_laws.specs.Fitting.{IsShaped}
use Rattle.ygg_meaning_laws.proofs.Tests.{left as first_of, right as second_of, passed, turned}
use Rattle.ygg_meaning_laws.proofs.Names.{added_new}
use Rattle.ygg_meaning_laws.proofs.Parameters.{type_is}
use Rattle.ygg_meaning_laws.specs.Kinds.{operation_keeps}
use Rattle.ygg_meaning_laws.proofs.Views.{LowerShaped}

-- a block for a crash without type errors, if there is one
abbrev pub OnCrashTyped : Option Block → Scope → Type 0
OnCrashTyped None scope = Unit {0}
OnCrashTyped (Some b) scope = none (block_errors b None (seen_as Specification scope)) ≡ true

-- an operation without type errors, whose blocks keep their kinds
pub record IsOperation (o : Operation) (scope : Scope) : Type 0 where
  pub arguments : none (parameters_errors o.arguments scope) ≡ true
  pub answer : none (answer_type_errors o.answer) ≡ true
  pub spec : none (block_errors o.spec (answer_shape o.answer) (seen_as Specification (with_parameters o.arguments scope))) ≡ true
  pub on_crash : OnCrashTyped o.on_crash (with_parameters o.arguments scope)
  pub kept : operation_keeps o ≡ true

operation_is : (o : Operation) (crash : Block) (known : Named Signature) (weights : Weights) (scope : Scope) →
    none (operation_errors o crash known weights scope) ≡ true → operation_keeps o ≡ true → IsOperation o scope
operation_is o crash known weights scope e k =
    let inner = with_parameters o.arguments scope in
    let a = second_of (none (unless (not (has o.name.text known)) reason.Twice o.name.place)) _ e in
    let b = second_of (none (picks_errors o crash)) _ a in
    let c = second_of (none (parameters_errors o.arguments scope)) _ b in
    let d = second_of (none (answer_type_errors o.answer)) (none (operation_blocks_errors o weights inner)) c in
    let f = second_of (none (view_errors Specification o.spec (answer_shape o.answer) weights inner))
    (none (on_crash_errors o.on_crash weights inner) && none (view_errors Implementation o.implementation (answer_shape o.answer) weights inner)) d in
    record {
      arguments = first_of (none (parameters_errors o.arguments scope)) _ b;
      answer = first_of (none (answer_type_errors o.answer)) (none (operation_blocks_errors o weights inner)) c;
      spec = first_of (none (block_errors o.spec (answer_shape o.answer) (seen_as Specification inner))) _
          (first_of (none (view_errors Specification o.spec (answer_shape o.answer) weights inner)) _ d);
      on_crash = crashed o.on_crash (first_of (none (on_crash_errors o.on_crash weights inner))
          (none (view_errors Implementation o.implementation (answer_shape o.answer) weights inner)) f);
      kept = k;
    }
  where
    crashed : (b : Option Block) → none (on_crash_errors b weights (with_parameters o.arguments scope)) ≡ true →
        OnCrashTyped b (with_parameters o.arguments scope)
    crashed None e = tt
    crashed (Some b) e = first_of (none (block_errors b None (seen_as Specification (with_parameters o.arguments scope)))) _ e

-- the first operation of a name
pub find_operation : (os : List Operation) (crash : Block) (known : Named Signature) (weights : Weights) (scope : Scope) →
    none (operations_errors os crash known weights scope) ≡ true → list_all operation_keeps os ≡ true
    → (name : Name) (o : Operation) → operation_in os name ≡ Some o → IsOperation o scope
find_operation [] crash known weights scope e k name o h = absurd (cc)
find_operation (p ∷ os) crash known weights scope e k name o h =
    let here = none (operation_errors p crash known weights scope) in
    let rest = none (operations_errors os crash (with_operation p known) weights scope) in
    cases (bytes_eq p.name.text name) (operation_is p crash known weights scope (first_of here rest e)
    (first_of (operation_keeps p) (list_all operation_keeps os) k)) h
    (λ h. find_operation os crash (with_operation p known) weights scope (second_of here rest e)
    (second_of (operation_keeps p) (list_all operation_keeps os) k) name o h)
  where
    operation_same : (a b : Operation) → Some a ≡ Some b → a ≡ b
    operation_same a b h = cc

    cases : (c : Bool) → IsOperation p scope → (if c then Some p else operation_in os name) ≡ Some o →
        (operation_in os name ≡ Some o → IsOperation o scope) → IsOperation o scope
    cases true is h again = subst (λ x. IsOperation x scope) (operation_same p o h) is
    cases false is h again = again h

-- operations as the layer above sees them
abbrev pub signatures : List Operation → Named Signature
signatures = map (λ (o : Operation). (o.name.text, operation_signature o))

pub added_all : (os : List Operation) (crash : Block) (known : Named Signature) (weights : Weights) (scope : Scope) →
    none (operations_errors os crash known weights scope) ≡ true → with_operations os known ≡ known ++ signatures os
added_all [] crash known weights scope e = sym (append-nil known)
added_all (o ∷ os) crash known weights scope e =
    let here = none (operation_errors o crash known weights scope) in
    let rest = none (operations_errors os crash (with_operation o known) weights scope) in
    let free = turned (has o.name.text known) (passed (not (has o.name.text known)) reason.Twice o.name.place
    (first_of (none (unless (not (has o.name.text known)) reason.Twice o.name.place)) _ (first_of here rest e))) in
    added_all os crash (with_operation o known) weights scope (second_of here rest e)
    ∙ ap (λ k. k ++ signatures os) (added_new o.name.text (operation_signature o) known free)
    ∙ append_assoc known (signatures (o ∷ [])) (signatures os)

looked : (os : List Operation) (name : Name) → look_up name (signatures os) ≡ option_map operation_signature (operation_in os name)
looked [] name = refl
looked (o ∷ os) name = cases (bytes_eq o.name.text name) (looked os name)
  where
    cases : (c : Bool) → look_up name (signatures os) ≡ option_map operation_signature (operation_in os name)
        → (if c then Some (operation_signature o) else look_up name (signatures os)) ≡ option_map operation_signature
        (if c then Some o else operation_in os name)
    cases true e = refl
    cases false e = e

-- the operations that the layer above sees are those of the layer
pub seen_operations : (os : List Operation) (crash : Block) (weights : Weights) (scope : Scope) →
    none (operations_errors os crash [] weights scope) ≡ true → (name : Name)
    → look_up name (with_operations os []) ≡ option_map operation_signature (operation_in os name)
seen_operations os crash weights scope e name = ap (look_up name) (added_all os crash [] weights scope e) ∙ looked os name

-- an operation that the layer above sees
pub record IsSeen (os : List Operation) (name : Name) (s : Signature) : Type 0 where
  pub operation : Operation
  pub found : operation_in os name ≡ Some operation
  pub is : operation_signature operation ≡ s

pub seen_operation : (os : List Operation) (name : Name) (s : Signature) → option_map operation_signature (operation_in os name) ≡ Some s → IsSeen os name s
seen_operation os name s h = cases (operation_in os name) refl h
  where
    signature_is : (a b : Signature) → Some a ≡ Some b → a ≡ b
    signature_is a b h = cc

    cases : (o : Option Operation) → operation_in os name ≡ o → option_map operation_signature o ≡ Some s → IsSeen os name s
    cases None e h = absurd (cc)
    cases (Some o) e h = record { operation = o; found = e; is = signature_is (operation_signature o) s h }

-- an answer has a shape where it has a type
pub answer_shaped : (t : Option TypeText) → none (answer_type_errors t) ≡ true → is_some t ≡ true → IsShaped (answer_shape t)
answer_shaped None e h = absurd (cc)
answer_shaped (Some t) e h = let is = type_is t e in record { shape = _; is = is.is; limits = is.limits }

-- the operations of a typed layer give answers of their shapes
pub operations_shaped : (os : List Operation) (crash : Block) (weights : Weights) (scope : Scope) →
    none (operations_errors os crash [] weights scope) ≡ true → list_all operation_keeps os ≡ true → LowerShaped (with_operations os [])
operations_shaped os crash weights scope e k name s h a =
    let seen = seen_operation os name s (sym (seen_operations os crash weights scope e name) ∙ h) in
    let is = find_operation os crash [] weights scope e k name seen.operation seen.found in
    subst (λ (x : Signature). x.answers ≡ true → IsShaped x.answer) seen.is (answer_shaped seen.operation.answer is.answer) a
