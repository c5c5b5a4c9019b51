-- Definitions without type errors give answers of the shapes that they say.
use Rattle.std.proofs.Common.{◌≡◌, ℕ, Bool, true, false, cond, List, [], ◌∷◌, ◌++◌, reverse, Option, Some, None, refl, sym, ap, ◌∙◌, subst, append_assoc}
use Rattle.std.specs.Prelude.{◌&&◌, not}
use Rattle.std.specs.Str.{bytes_eq}
use Rattle.std.proofs.lemmas.List.{append-nil, reverse-append}
use Rattle.ygg_base.specs.declared.reason.Reason.TheVariants as reason
use Rattle.ygg_meaning.specs.Declared.{Declared}
use Rattle.ygg_meaning.specs.Def.{Def}
use Rattle.ygg_meaning.specs.Expr.{Expr}
use Rattle.ygg_value.specs.declared.shape.Shape.{Shape}
use Rattle.ygg_value.specs.declared.row.Value.{Value}
use Rattle.ygg_type_rules.specs.Weights.{weights_of, expr_weight}
use Rattle.ygg_type_rules.specs.Names.{Named, look_up, has}
use Rattle.ygg_type_rules.specs.declared.scope.Signature.{Signature}
use Rattle.ygg_type_rules.specs.TypeErrors.{none, unless}
use Rattle.ygg_type_rules.specs.Limits.{weight_fits}
use Rattle.ygg_type_rules.specs.Shapes.{shape_of}
use Rattle.ygg_type_rules.specs.Scopes.{Scope}
use Rattle.ygg_type_rules.specs.Expressions.{typing, wanted, expected_errors}
use Rattle.ygg_type_rules.specs.Definitions.{
  type_text_errors,
  parameters_errors,
  with_parameters,
  parameter_shapes,
  definition_signature,
  definition_scope,
  definition_errors,
  with_definition,
  with_definitions,
  definitions_errors,
}
use Rattle.ygg_meaning.specs.Environments.{bind}
use Rattle.ygg_meaning.specs.Meaning.{Functions, value_with, functions_from, functions_of}
use Rattle.ygg_meaning.specs.Meaning as meaning
use Rattle.ygg_meaning.specs.Shapes.{shape_in}
use Rattle.ygg_meaning_laws.specs.Fitting.{HasShape, all_fit, Meets}
use Rattle.ygg_meaning_laws.specs.Agrees.{Agrees}
use Rattle.ygg_meaning_laws.proofs.Tests.{left, right, passed, turned, bytes_same}
use Rattle.ygg_meaning_laws.proofs.Names.{or_else, look_up_append, absent, added_new}
use Rattle.ygg_meaning_laws.proofs.Rules.{wanted_has}
use Rattle.ygg_meaning_laws.proofs.Parameters.{type_is, agrees_with_parameters}
use Rattle.ygg_meaning_laws.proofs.Sounds.{sound}

-- the functions meet each of these signatures
abbrev pub MeetsAll : Functions → Named Signature → Type 0
MeetsAll functions defs = (name : List ℕ) (d : Signature) → look_up name defs ≡ Some d → Meets functions name d

-- an expression where a shape is wanted, without a type error, has a value of that shape
pub expected_has : (functions : Functions) (e : Expr) (wants : Shape) (scope : Scope) (env : meaning.Scope) → Agrees functions scope env →
    none (expected_errors e (Some wants) scope) ≡ true → HasShape (Some wants) (value_with functions e env)
expected_has functions e wants scope env agrees h =
    let t = typing e scope in
    let has = (sound functions e).gives scope env agrees (left (none t.type_errors) (none (wanted t.part (Some wants))) h) in
    let same = wanted_has t.part (value_with functions e env) wants has (right (none t.type_errors) (none (wanted t.part (Some wants))) h) in
    record { is = ap (λ s. Some s) (sym same); limits = has.limits }

-- what a definition sees goes together with no names at all
pub definition_agrees : (functions : Functions) (defs : Named Signature) → MeetsAll functions defs →
    Agrees functions (definition_scope defs) (record { own = []; low = [] })
definition_agrees functions defs meets = record {
  names = λ name l h. absurd (cc);
  taken = λ name h. absurd (cc);
  low = λ name known h. absurd (cc);
  defs = meets;
  lower = λ name o h a. absurd (cc);
}

-- the parts of a definition without a type error
pub record DefinitionParts (d : Def) (defs : Named Signature) : Type 0 where
  pub new : has d.name.text defs ≡ false
  pub parameters : none (parameters_errors d.parameters (definition_scope defs)) ≡ true
  pub type : none (type_text_errors d.shape) ≡ true
  pub body : none (expected_errors d.body (shape_of d.shape) (with_parameters d.parameters (definition_scope defs))) ≡ true

pub definition_parts : (d : Def) (weight : ℕ) (defs : Named Signature) → none (definition_errors d weight defs) ≡ true → DefinitionParts d defs
definition_parts d weight defs h =
    let scope = with_parameters d.parameters (definition_scope defs) in
    let name = none (unless (not (has d.name.text defs)) reason.Twice d.name.place) in
    let parameters = none (parameters_errors d.parameters (definition_scope defs)) in
    let type = none (type_text_errors d.shape) in
    let body = none (expected_errors d.body (shape_of d.shape) scope) in
    let heavy = none (unless (weight_fits weight) reason.TooLong (typing d.body scope).part.place) in
    let after_name = right name (parameters && (type && (body && heavy))) h in
    let after_parameters = right parameters (type && (body && heavy)) after_name in
    record {
      new = turned (has d.name.text defs) (passed (not (has d.name.text defs)) reason.Twice d.name.place
          (left name (parameters && (type && (body && heavy))) h));
      parameters = left parameters (type && (body && heavy)) after_name;
      type = left type (body && heavy) after_parameters;
      body = left body heavy (right type (body && heavy) after_parameters);
    }

-- what the body of a definition sees: its parameters
abbrev pub called : List Declared → List Value → meaning.Scope
called ps args = record { own = bind ps args; low = [] }

-- a definition's body over arguments that fit
pub body_agrees : (functions : Functions) (d : Def) (defs : Named Signature) (args : List Value) → MeetsAll functions defs → DefinitionParts d defs →
    all_fit (parameter_shapes d.parameters) args ≡ true
    → Agrees functions (with_parameters d.parameters (definition_scope defs)) (called d.parameters args)
body_agrees functions d defs args meets parts fit =
    agrees_with_parameters functions d.parameters args (definition_scope defs) (record { own = []; low = [] })
    (definition_agrees functions defs meets) parts.parameters fit

body_has : (functions : Functions) (d : Def) (defs : Named Signature) (args : List Value) → MeetsAll functions defs → DefinitionParts d defs →
    all_fit (parameter_shapes d.parameters) args ≡ true
    → HasShape (shape_of d.shape) (value_with functions d.body (called d.parameters args))
body_has functions d defs args meets parts fit =
    let scope = with_parameters d.parameters (definition_scope defs) in
    let is = (type_is d.shape parts.type).is in
    let body : none (expected_errors d.body (Some (shape_in d.shape)) scope) ≡ true = subst (λ o. none (expected_errors d.body o scope) ≡ true) is parts.body in
    subst (λ o. HasShape o (value_with functions d.body (called d.parameters args))) (sym is)
    (expected_has functions d.body (shape_in d.shape) scope (called d.parameters args) (body_agrees functions d defs args meets parts fit) body)

-- one more definition, which stands before others in the list of those that count
one_more : (before : List Def) (d : Def) (defs : Named Signature) → MeetsAll (functions_from before) defs → DefinitionParts d defs →
    MeetsAll (functions_from (d ∷ before)) (with_definition d defs)
one_more before d defs meets parts name s h args fit =
    cases (bytes_eq d.name.text name) refl
    (sym (look_up_append name defs ((d.name.text, definition_signature d) ∷ []))
    ∙ ap (look_up name) (sym (added_new d.name.text (definition_signature d) defs parts.new)) ∙ h)
  where
    cases : (b : Bool) → bytes_eq d.name.text name ≡ b → or_else (look_up name defs) (cond b (Some (definition_signature d)) None) ≡ Some s
        → HasShape s.answer (cond b (value_with (functions_from before) d.body (called d.parameters args)) (functions_from before name args))
    cases true e g =
        let missing : look_up name defs ≡ None = subst (λ n. look_up n defs ≡ None) (bytes_same d.name.text name e)
        (absent (look_up d.name.text defs) parts.new) in
        let same : Some (definition_signature d) ≡ Some s = sym (ap (λ o. or_else o (Some (definition_signature d))) missing) ∙ g in
        let is : definition_signature d ≡ s = cc in
        subst (λ (k : Signature). all_fit k.arguments args ≡ true → HasShape k.answer (value_with (functions_from before) d.body (called d.parameters args))) is
        (body_has (functions_from before) d defs args meets parts) fit
    cases false e g = meets name s (other (look_up name defs) g) args fit
      where
        other : (o : Option Signature) → or_else o None ≡ Some s → o ≡ Some s
        other None h = h
        other (Some t) h = h

-- definitions after others
all_more : (ds done : List Def) (defs : Named Signature) → none (definitions_errors ds done defs) ≡ true →
    MeetsAll (functions_from (reverse done)) defs → MeetsAll (functions_from (reverse (done ++ ds))) (with_definitions ds defs)
all_more [] done defs f meets = subst (λ xs. MeetsAll (functions_from (reverse xs)) defs) (sym (append-nil done)) meets
all_more (d ∷ ds) done defs f meets =
    let weight = expr_weight (weights_of done) d.body in
    let here = none (definition_errors d weight defs) in
    let others = none (definitions_errors ds (done ++ d ∷ []) (with_definition d defs)) in
    let parts = definition_parts d weight defs (left here others f) in
    let one = subst (λ xs. MeetsAll (functions_from xs) (with_definition d defs)) (sym (reverse-append done (d ∷ [])))
    (one_more (reverse done) d defs meets parts) in
    subst (λ xs. MeetsAll (functions_from (reverse xs)) (with_definitions ds (with_definition d defs))) (append_assoc done (d ∷ []) ds)
    (all_more ds (done ++ d ∷ []) (with_definition d defs) (right here others f) one)

-- definitions without type errors meet their signatures
pub definitions_meet : (defs : List Def) → none (definitions_errors defs [] []) ≡ true → MeetsAll (functions_of defs) (with_definitions defs [])
definitions_meet defs h = all_more defs [] [] h (λ name d e. absurd (cc))
