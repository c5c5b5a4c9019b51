-- The definition of a name, among definitions without type errors.
use Rattle.std.proofs.Common.{
  ◌≡◌,
  ℕ,
  zero,
  suc,
  ◌+◌,
  ◌<◌,
  Bool,
  true,
  false,
  cond,
  List,
  [],
  ◌∷◌,
  ◌++◌,
  length,
  take,
  get_or,
  Option,
  Some,
  None,
  is_some,
  refl,
  sym,
  ap,
  ◌∙◌,
  subst,
  arith,
  append_assoc,
  add-one,
}
use Rattle.std.specs.Str.{bytes_eq}
use Rattle.std.proofs.Math.Seq.{take-suc}
use Rattle.std.proofs.lemmas.Bool.{and_from}
use Rattle.std.proofs.lemmas.List.{append-nil, reverse-append}
use Rattle.std.proofs.lemmas.Option.{slice_get-get_or, get_or_from_slice_get}
use Rattle.ygg_syntax.specs.declared.tree.Declared.{Declared}
use Rattle.ygg_syntax.specs.declared.tree.Def.{Def}
use Rattle.ygg_value.specs.declared.row.Value.{Value}
use Rattle.ygg_value.specs.declared.shape.Shape.{Shape}
use Rattle.ygg_meaning_laws.specs.ygg_syntax.Weights.{weights_of, weight_at, expr_weight}
use Rattle.ygg_meaning_laws.proofs.of_ygg_syntax.Searched.{Searched, begun, other as searched_other, found as searched_found}
use Rattle.ygg_meaning_laws.specs.ygg_type_rules.Names.{Named, look_up, has, added}
use Rattle.ygg_meaning_laws.specs.Signature.{Signature}
use Rattle.ygg_meaning_laws.specs.TypeErrors.{none}
use Rattle.ygg_meaning_laws.specs.Shapes.{shape_of}
use Rattle.ygg_meaning_laws.specs.Scopes.{Scope, with_local}
use Rattle.ygg_meaning_laws.specs.Expressions.{typing, wanted}
use Rattle.ygg_meaning_laws.specs.Definitions.{
  with_parameter,
  with_parameters,
  definition_signature,
  definition_scope,
  definition_errors,
  with_definition,
  with_definitions,
  definitions_errors,
}
use Rattle.ygg_meaning_laws.specs.Environments.{nothing, bind}
use Rattle.ygg_meaning_laws.specs.Meaning.{value_with, functions_from, functions_of}
use Rattle.ygg_meaning_laws.proofs.Tests.{left, right, bytes_same, bytes_equal}
use Rattle.ygg_meaning_laws.proofs.Names.{still_found, look_up_append, added_new, or_else, absent}
use Rattle.ygg_meaning_laws.proofs.Definitions.{DefinitionParts, definition_parts, called, body_agrees, definitions_meet}
use Rattle.ygg_eval_expr.specs.Known.{CanCall, CanEvaluate, IsDefinition}

-- one more definition, the last of all
pub functions_after : (ds : List Def) (d : Def) (name : List ℕ) (args : List Value)
    → functions_of (ds ++ d ∷ []) name args ≡ cond (bytes_eq d.name.text name) (value_with (functions_of ds) d.body (called d.parameters args))
    (functions_of ds name args)
functions_after ds d name args = ap (λ xs. functions_from xs name args) (reverse-append ds (d ∷ []))

one_longer : (ds : List Def) (d : Def) (place : ℕ) → place < length ds → d ≡ get_or ds place d → take (place + 1) ds ≡ take place ds ++ d ∷ []
one_longer ds d place h e = rw (add-one, take-suc ds place d h) (ap (λ x. take place ds ++ x ∷ []) (sym e))

-- none of the first so many definitions has the name
pub record Missing (defs : List Def) (name : List ℕ) (place : ℕ) : Type 0 where
  pub searched : Searched defs name place
  pub gives : (args : List Value) → functions_of (take place defs) name args ≡ nothing

pub missing_begun : (defs : List Def) (name : List ℕ) → Missing defs name 0
missing_begun defs name = record { searched = begun defs name; gives = λ args. refl }

pub missing_more : (defs : List Def) (name : List ℕ) (place : ℕ) (d : Def) → place < length defs → d ≡ get_or defs place d →
    bytes_eq d.name.text name ≡ false → Missing defs name place → Missing defs name (place + 1)
missing_more defs name place d h e differs m = record {
  searched = searched_other defs name place d h e differs m.searched;
  gives = λ args.
      ap (λ ds. functions_of ds name args) (one_longer defs d place h e)
      ∙ functions_after (take place defs) d name args
      ∙ ap (λ b. cond b (value_with (functions_of (take place defs)) d.body (called d.parameters args)) (functions_of (take place defs) name args)) differs
      ∙ m.gives args;
}

pub is_definition : (defs : List Def) (name : List ℕ) (place : ℕ) (d : Def) → place < length defs → d ≡ get_or defs place d →
    bytes_eq d.name.text name ≡ true → Missing defs name place → IsDefinition defs name place
is_definition defs name place d h e here m = record {
  within = h;
  named = λ x got. ap (λ (y : Def). y.name.text) (sym (get_or_from_slice_get defs place x d got)) ∙ ap (λ (y : Def). y.name.text) (sym e)
      ∙ bytes_same d.name.text name here;
  weighs = searched_found defs name place d h e here m.searched;
}

-- further definitions keep a signature
kept_by_one : (d : Def) (defs : Named Signature) (name : List ℕ) (s : Signature) → look_up name defs ≡ Some s → look_up name (with_definition d defs) ≡ Some s
kept_by_one d defs name s h = cases (has d.name.text defs)
  where
    cases : (b : Bool) → look_up name (cond b defs (defs ++ (d.name.text, definition_signature d) ∷ [])) ≡ Some s
    cases true = h
    cases false = still_found name defs ((d.name.text, definition_signature d) ∷ []) s h

kept : (ds : List Def) (defs : Named Signature) (name : List ℕ) (s : Signature) → look_up name defs ≡ Some s → look_up name (with_definitions ds defs) ≡ Some s
kept [] defs name s h = h
kept (d ∷ ds) defs name s h = kept ds (with_definition d defs) name s (kept_by_one d defs name s h)

-- a new name differs from one that is there
differ : {V : Type 0} (a b : List ℕ) (names : Named V) → has a names ≡ false → has b names ≡ true → bytes_eq a b ≡ false
differ a b names p q = cases (bytes_eq a b) refl
  where
    cases : (c : Bool) → bytes_eq a b ≡ c → c ≡ false
    cases true e = let same : has a names ≡ true = subst (λ n. has n names ≡ true) (sym (bytes_same a b e)) q in absurd (cc)
    cases false e = refl

-- the signature that a definition adds
added_found : (d : Def) (defs : Named Signature) → has d.name.text defs ≡ false → look_up d.name.text (with_definition d defs) ≡ Some (definition_signature d)
added_found d defs new =
    let sig = definition_signature d in
    ap (look_up d.name.text) (added_new d.name.text sig defs new)
    ∙ look_up_append d.name.text defs ((d.name.text, sig) ∷ [])
    ∙ ap (λ o. or_else o (cond (bytes_eq d.name.text d.name.text) (Some sig) None)) (absent (look_up d.name.text defs) new)
    ∙ ap (λ b. cond b (Some sig) None) (bytes_equal d.name.text)

-- later definitions have other names
later : (ds done : List Def) (defs : Named Signature) (name : List ℕ) (s : Signature) (args : List Value) →
    none (definitions_errors ds done defs) ≡ true → look_up name defs ≡ Some s
    → functions_of (done ++ ds) name args ≡ functions_of done name args
later [] done defs name s args f h = ap (λ xs. functions_of xs name args) (append-nil done)
later (d ∷ ds) done defs name s args f h =
    let here = none (definition_errors d (expr_weight (weights_of done) d.body) defs) in
    let others = none (definitions_errors ds (done ++ d ∷ []) (with_definition d defs)) in
    let parts = definition_parts d (expr_weight (weights_of done) d.body) defs (left here others f) in
    let again = later ds (done ++ d ∷ []) (with_definition d defs) name s args (right here others f) (kept_by_one d defs name s h) in
    ap (λ xs. functions_of xs name args) (sym (append_assoc done (d ∷ []) ds)) ∙ again ∙ functions_after done d name args
    ∙ ap (λ b. cond b (value_with (functions_of done) d.body (called d.parameters args)) (functions_of done name args))
    (differ d.name.text name defs parts.new (ap is_some h))

-- a definition at its place
record AtPlace (ds done : List Def) (defs : Named Signature) (place : ℕ) (d : Def) : Type 0 where
  pub parts : DefinitionParts d (with_definitions (take place ds) defs)
  pub found : look_up d.name.text (with_definitions ds defs) ≡ Some (definition_signature d)
  pub calls : (args : List Value) → functions_of (done ++ ds) d.name.text args ≡ value_with (functions_of (done ++ take place ds)) d.body
      (called d.parameters args)
  pub before : none (definitions_errors (take place ds) done defs) ≡ true

at_place : (ds done : List Def) (defs : Named Signature) → none (definitions_errors ds done defs) ≡ true → (place : ℕ) (d : Def) → place < length ds →
    d ≡ get_or ds place d → AtPlace ds done defs place d
at_place [] done defs f place d h e = absurd (omega arith)
at_place (c ∷ ds) done defs f zero d h e =
    let weight = expr_weight (weights_of done) d.body in
    let g : none (definitions_errors (d ∷ ds) done defs) ≡ true = subst (λ x. none (definitions_errors (x ∷ ds) done defs) ≡ true) (sym e) f in
    let here = none (definition_errors d weight defs) in
    let others = none (definitions_errors ds (done ++ d ∷ []) (with_definition d defs)) in
    let parts = definition_parts d weight defs (left here others g) in
    let one = added_found d defs parts.new in
    record {
      parts = parts;
      found = ap (λ x. look_up d.name.text (with_definitions (x ∷ ds) defs)) (sym e)
          ∙ kept ds (with_definition d defs) d.name.text (definition_signature d) one;
      calls = λ args.
          ap (λ x. functions_of (done ++ x ∷ ds) d.name.text args) (sym e)
          ∙ ap (λ xs. functions_of xs d.name.text args) (sym (append_assoc done (d ∷ []) ds))
          ∙ later ds (done ++ d ∷ []) (with_definition d defs) d.name.text (definition_signature d) args (right here others g) one
          ∙ functions_after done d d.name.text args
          ∙ ap (λ b. cond b (value_with (functions_of done) d.body (called d.parameters args)) (functions_of done d.name.text args)) (bytes_equal d.name.text)
          ∙ ap (λ xs. value_with (functions_of xs) d.body (called d.parameters args)) (sym (append-nil done));
      before = refl;
    }
at_place (c ∷ ds) done defs f (suc k) d h e =
    let here = none (definition_errors c (expr_weight (weights_of done) c.body) defs) in
    let others = none (definitions_errors ds (done ++ c ∷ []) (with_definition c defs)) in
    let again = at_place ds (done ++ c ∷ []) (with_definition c defs) (right here others f) k d (omega arith) e in
    record {
      parts = again.parts;
      found = again.found;
      calls = λ args.
          ap (λ xs. functions_of xs d.name.text args) (sym (append_assoc done (c ∷ []) ds))
          ∙ again.calls args
          ∙ ap (λ xs. value_with (functions_of xs) d.body (called d.parameters args)) (append_assoc done (c ∷ []) (take k ds));
      before = and_from here (none (definitions_errors (take k ds) (done ++ c ∷ []) (with_definition c defs))) (left here others f) again.before;
    }

-- a local name leaves the definitions that are seen
pub local_keeps : (name : List ℕ) (known : Option Shape) (assignable : Bool) (scope : Scope) → (with_local name known assignable scope).defs ≡ scope.defs
local_keeps name known assignable scope = cases (has name scope.variables)
  where
    cases : (b : Bool) → (cond b scope (record scope { locals = added name (record { shape = known; assignable = assignable }) scope.locals })).defs
        ≡ scope.defs
    cases true = refl
    cases false = refl

parameters_keep : (ps : List Declared) (scope : Scope) → (with_parameters ps scope).defs ≡ scope.defs
parameters_keep [] scope = refl
parameters_keep (p ∷ ps) scope = parameters_keep ps (with_parameter p scope) ∙ local_keeps p.name.text (shape_of p.shape) false scope

-- what is known of a definition and arguments that fit it
pub record BodyParts (defs : List Def) (name : List ℕ) (args : List Value) (place : ℕ) (d : Def) : Type 0 where
  pub can : CanEvaluate (record { defs = take place defs; own = bind d.parameters args; low = [] }) d.body
  pub calls : functions_of defs name args ≡ value_with (functions_of (take place defs)) d.body (called d.parameters args)

pub body_parts : (defs : List Def) (name : List ℕ) (args : List Value) (place : ℕ) (d : Def) → CanCall defs name args → IsDefinition defs name place →
    d ≡ get_or defs place d → BodyParts defs name args place d
body_parts defs name args place d can is e =
    let at = at_place defs [] [] can.sound place d is.within e in
    let named : d.name.text ≡ name = is.named d (slice_get-get_or defs place d is.within ∙ ap (λ x. Some x) (sym e)) in
    let fit = can.fit (definition_signature d) (ap (λ n. look_up n (with_definitions defs [])) (sym named) ∙ at.found) in
    let seen = with_definitions (take place defs) [] in
    let scope = with_parameters d.parameters (definition_scope seen) in
    record {
      can = record {
        scope = scope;
        defs = parameters_keep d.parameters (definition_scope seen);
        sound = at.before;
        agrees = body_agrees (functions_of (take place defs)) d seen args (definitions_meet (take place defs) at.before) at.parts fit;
        without_errors = left (none (typing d.body scope).type_errors) (none (wanted (typing d.body scope).part (shape_of d.shape))) at.parts.body;
      };
      calls = ap (λ n. functions_of defs n args) (sym named) ∙ at.calls args;
    }

-- a definition's name weighs what its expression does
pub definition_weighs : (defs : List Def) (name : List ℕ) (place : ℕ) (d : Def) → IsDefinition defs name place → d ≡ get_or defs place d →
    weight_at (weights_of defs) name ≡ expr_weight (weights_of (take place defs)) d.body
definition_weighs defs name place d is e = is.weighs.means d (slice_get-get_or defs place d is.within ∙ ap (λ x. Some x) (sym e))
