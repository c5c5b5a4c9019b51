-- Definitions over terms give what they give over values.
use Rattle.std.proofs.Common.{
  ◌≡◌,
  ℕ,
  Bool,
  true,
  false,
  cond,
  if◌then◌else◌,
  List,
  [],
  ◌∷◌,
  ◌++◌,
  map,
  All,
  reverse,
  Option,
  Some,
  None,
  refl,
  sym,
  ap,
  ◌∙◌,
  subst,
  append_assoc,
}
use Rattle.std.specs.Str.{bytes_eq}
use Rattle.std.proofs.lemmas.List.{append-nil, reverse-append}
use Rattle.std.proofs.lemmas.List.Elements.{All-head, All-tail, All-cons, All-nil}
use Rattle.ygg_syntax.specs.declared.tree.Declared.{Declared}
use Rattle.ygg_syntax.specs.declared.tree.Def.{Def}
use Rattle.ygg_value.specs.declared.row.Value.{Value}
use Rattle.ygg_eval_expr.specs.ygg_syntax.Weights.{weights_of, expr_weight}
use Rattle.ygg_eval_expr.specs.ygg_type_rules.Names.{Named, look_up}
use Rattle.ygg_eval_expr.specs.ygg_meaning_laws.Signature.{Signature}
use Rattle.ygg_eval_expr.specs.ygg_meaning_laws.TypeErrors.{none}
use Rattle.ygg_eval_expr.specs.ygg_meaning_laws.Shapes.{shape_of}
use Rattle.ygg_eval_expr.specs.ygg_meaning_laws.Scopes.{Scope}
use Rattle.ygg_eval_expr.specs.ygg_meaning_laws.Expressions.{typing, wanted, expected_errors}
use Rattle.ygg_eval_expr.specs.ygg_meaning_laws.Definitions.{
  with_parameter,
  with_parameters,
  definition_signature,
  definition_scope,
  definition_errors,
  with_definition,
  with_definitions,
  definitions_errors,
}
use Rattle.ygg_eval_expr.specs.ygg_meaning_laws.Environments.{Name, bind}
use Rattle.ygg_eval_expr.specs.ygg_meaning_laws.Meaning.{functions_from, functions_of, value_with}
use Rattle.ygg_eval_expr.specs.ygg_meaning_laws.Fitting.{HasShape, all_fit}
use Rattle.ygg_eval_expr.specs.ygg_meaning_laws.Agrees.{Agrees}
use Rattle.ygg_eval_expr.specs.ygg_meaning_laws_proofs_Tests.{left, right, bytes_same}
use Rattle.ygg_eval_expr.specs.ygg_meaning_laws_proofs_Names.{or_else, look_up_append, absent, added_new}
use Rattle.ygg_eval_expr.specs.ygg_meaning_laws_proofs_Parameters.{type_is}
use Rattle.ygg_eval_expr.specs.ygg_meaning_laws_proofs_Definitions.{MeetsAll, DefinitionParts, definition_parts, called, body_agrees, expected_has}
use Rattle.ygg_shape.specs.ygg_rules.declared.rule.RuleKind.{RuleKind}
use Rattle.ygg_shape.specs.ygg_bank.Values.{Inputs, Values}
use Rattle.ygg_shape.specs.ygg_bank.declared.node.Node.{Node}
use Rattle.ygg_shape.specs.ygg_shape_cells.Terms.{worth}
use Rattle.ygg_shape.specs.ygg_shape_cells.declared.terms.SymValue.{SymValue}
use Rattle.ygg_eval_expr.specs.ygg_meaning_laws.MeaningShapes.{shape_in}
use Rattle.ygg_sym_runs.specs.Names.{SymScope, sym_bind}
use Rattle.ygg_sym_runs.specs.Exprs.{sym_value, sym_functions}
use Rattle.ygg_sym_runs.specs.ExpressionMeaning.{SomeShape, EnvShaped, ScopeShaped, Gives, worths, scope_worth, IsWorth}
use Rattle.ygg_sym_runs.proofs.Grows.{functions_grow}
use Rattle.ygg_sym_runs.proofs.ExpressionParts.{AllWorth}
use Rattle.ygg_sym_runs.proofs.Values.{same_defs, FunctionsMean, value_means}

-- parameters change no definitions
pub parameters_defs : (ps : List Declared) (scope : Scope) → (with_parameters ps scope).defs ≡ scope.defs
parameters_defs [] scope = refl
parameters_defs (p ∷ ps) scope = parameters_defs ps (with_parameter p scope) ∙ same_defs p.name.text (shape_of p.shape) false scope

other_found : {V : Type 0} (o : Option V) (s : V) → or_else o None ≡ Some s → o ≡ Some s
other_found None s h = h
other_found (Some t) s h = h

-- what a name means with one more definition: that one, or what it meant before
found_more : (d : Def) (defs : Named Signature) (name : List ℕ) (s : Signature) → DefinitionParts d defs → look_up name (with_definition d defs) ≡ Some s →
    or_else (look_up name defs) (cond (bytes_eq d.name.text name) (Some (definition_signature d)) None) ≡ Some s
found_more d defs name s parts h =
    sym (look_up_append name defs ((d.name.text, definition_signature d) ∷ []))
    ∙ ap (look_up name) (sym (added_new d.name.text (definition_signature d) defs parts.new)) ∙ h

found_new : (d : Def) (defs : Named Signature) (name : List ℕ) (s : Signature) → DefinitionParts d defs → bytes_eq d.name.text name ≡ true →
    or_else (look_up name defs) (Some (definition_signature d)) ≡ Some s → definition_signature d ≡ s
found_new d defs name s parts e g =
    let missing : look_up name defs ≡ None = subst (λ n. look_up n defs ≡ None) (bytes_same d.name.text name e)
    (absent (look_up d.name.text defs) parts.new) in
    let same : Some (definition_signature d) ≡ Some s = sym (ap (λ o. or_else o (Some (definition_signature d))) missing) ∙ g in
    cc

-- one more definition meets its signature
meets_more : (before : List Def) (d : Def) (defs : Named Signature) → MeetsAll (functions_from before) defs → DefinitionParts d defs →
    MeetsAll (functions_from (d ∷ before)) (with_definition d defs)
meets_more before d defs meets parts name s h args fit = cases (bytes_eq d.name.text name) refl (found_more d defs name s parts h)
  where
    has : all_fit (definition_signature d).arguments args ≡ true →
        HasShape (shape_of d.shape) (value_with (functions_from before) d.body (called d.parameters args))
    has fit =
        let scope = with_parameters d.parameters (definition_scope defs) in
        let is = (type_is d.shape parts.type).is in
        subst (λ o. HasShape o (value_with (functions_from before) d.body (called d.parameters args))) (sym is)
        (expected_has (functions_from before) d.body (shape_in d.shape) scope (called d.parameters args)
        (body_agrees (functions_from before) d defs args meets parts fit)
        (subst (λ o. none (expected_errors d.body o scope) ≡ true) is parts.body))

    cases : (b : Bool) → bytes_eq d.name.text name ≡ b → or_else (look_up name defs) (cond b (Some (definition_signature d)) None) ≡ Some s
        → HasShape s.answer (cond b (value_with (functions_from before) d.body (called d.parameters args)) (functions_from before name args))
    cases true e g =
        let is = found_new d defs name s parts e g in
        subst (λ (k : Signature). all_fit k.arguments args ≡ true → HasShape k.answer (value_with (functions_from before) d.body (called d.parameters args))) is
        has fit
    cases false e g = meets name s (other_found (look_up name defs) s g) args fit

-- parameters with values of some shapes
pub bound_shaped : (ps : List Declared) (xs : List SymValue) (nodes : List Node) → All (SomeShape nodes) xs → EnvShaped nodes (sym_bind ps xs)
bound_shaped [] xs nodes h = All-nil (λ (b : Name × SymValue). SomeShape nodes b.1)
bound_shaped (p ∷ ps) [] nodes h = All-nil (λ (b : Name × SymValue). SomeShape nodes b.1)
bound_shaped (p ∷ ps) (x ∷ xs) nodes h =
    All-cons (λ (b : Name × SymValue). SomeShape nodes b.1) (p.name.text, x) (sym_bind ps xs) (All-head (SomeShape nodes) x xs h)
    (bound_shaped ps xs nodes (All-tail (SomeShape nodes) x xs h))

-- and what they are worth
pub bound_worth : (v : Values) (ps : List Declared) (xs : List SymValue) → worths v (sym_bind ps xs) ≡ bind ps (map (worth v) xs)
bound_worth v [] xs = refl
bound_worth v (p ∷ ps) [] = refl
bound_worth v (p ∷ ps) (x ∷ xs) = ap (λ env. (p.name.text, worth v x) ∷ env) (bound_worth v ps xs)

module _ (inputs : Inputs) (v : Values) (kinds : List RuleKind) where
  abbrev Mean : Named Signature → List Def → Type 0
  Mean defs before = FunctionsMean inputs v kinds defs (functions_from before) (sym_functions kinds before) (functions_grow kinds before)

  body_means : (before : List Def) (d : Def) (defs : Named Signature) → MeetsAll (functions_from before) defs → Mean defs before → DefinitionParts d defs →
      (xs : List SymValue) (wants : List Value) (nodes : List Node) → all_fit (definition_signature d).arguments wants ≡ true →
      AllWorth inputs v kinds wants nodes xs →
      Gives inputs v (sym_value kinds (sym_functions kinds before) d.body (record { own = sym_bind d.parameters xs; low = [] })) nodes
      (IsWorth v (value_with (functions_from before) d.body (called d.parameters wants)))
  body_means before d defs meets mean parts xs wants nodes fit w h =
      let scope = with_parameters d.parameters (definition_scope defs) in
      let from : SymScope = record { own = sym_bind d.parameters xs; low = [] } in
      let same : scope_worth v from ≡ called d.parameters wants =
      ap (λ own. record { own = own; low = [] }) (bound_worth v d.parameters xs ∙ ap (bind d.parameters) w.is) in
      let agrees = subst (Agrees (functions_from before) scope) (sym same) (body_agrees (functions_from before) d defs wants meets parts fit) in
      let t = typing d.body scope in
      let none_there = left (none t.type_errors) (none (wanted t.part (shape_of d.shape))) parts.body in
      let shaped : ScopeShaped nodes from = record {
        own = bound_shaped d.parameters xs nodes w.shaped;
        low =
            All-nil (λ (b : Name × SymValue). SomeShape nodes b.1);
      } in
      let m = value_means inputs v kinds defs (functions_from before) (sym_functions kinds before) (functions_grow kinds before) mean d.body in
      let o = sym_value kinds (sym_functions kinds before) d.body from nodes in
      subst (λ s. IsWorth v (value_with (functions_from before) d.body s) o.nodes o.value) same
      (m.gives scope from nodes (parameters_defs d.parameters (definition_scope defs)) agrees none_there shaped h)

  mean_more : (before : List Def) (d : Def) (defs : Named Signature) → MeetsAll (functions_from before) defs → Mean defs before → DefinitionParts d defs →
      Mean (with_definition d defs) (d ∷ before)
  mean_more before d defs meets mean parts = record {
    gives = λ name s xs wants nodes found fit w. cases name s xs wants nodes (bytes_eq d.name.text name) refl (found_more d defs name s parts found) fit w;
  }
    where
      cases : (name : Name) (s : Signature) (xs : List SymValue) (wants : List Value) (nodes : List Node) (b : Bool) → bytes_eq d.name.text name ≡ b →
          or_else (look_up name defs) (cond b (Some (definition_signature d)) None) ≡ Some s → all_fit s.arguments wants ≡ true →
          AllWorth inputs v kinds wants nodes xs →
          Gives inputs v (if b then sym_value kinds (sym_functions kinds before) d.body (record { own = sym_bind d.parameters xs; low = [] })
          else sym_functions kinds before name xs) nodes
          (IsWorth v (if b then value_with (functions_from before) d.body (called d.parameters wants) else functions_from before name wants))
      cases name s xs wants nodes true e g fit w =
          let is = found_new d defs name s parts e g in
          body_means before d defs meets mean parts xs wants nodes (subst (λ (k : Signature). all_fit k.arguments wants ≡ true) (sym is) fit) w
      cases name s xs wants nodes false e g fit w = mean.gives name s xs wants nodes (other_found (look_up name defs) s g) fit w

  all_more : (ds done : List Def) (defs : Named Signature) → none (definitions_errors ds done defs) ≡ true → MeetsAll (functions_from (reverse done)) defs →
      Mean defs (reverse done) → Mean (with_definitions ds defs) (reverse (done ++ ds))
  all_more [] done defs f meets mean = subst (λ xs. Mean defs (reverse xs)) (sym (append-nil done)) mean
  all_more (d ∷ ds) done defs f meets mean =
      let weight = expr_weight (weights_of done) d.body in
      let here = none (definition_errors d weight defs) in
      let others = none (definitions_errors ds (done ++ d ∷ []) (with_definition d defs)) in
      let parts = definition_parts d weight defs (left here others f) in
      let turned = sym (reverse-append done (d ∷ [])) in
      let one = subst (λ xs. MeetsAll (functions_from xs) (with_definition d defs)) turned (meets_more (reverse done) d defs meets parts) in
      let two = subst (λ xs. Mean (with_definition d defs) xs) turned (mean_more (reverse done) d defs meets mean parts) in
      subst (λ xs. Mean (with_definitions ds (with_definition d defs)) (reverse xs)) (append_assoc done (d ∷ []) ds)
      (all_more ds (done ++ d ∷ []) (with_definition d defs) (right here others f) one two)

  -- definitions without type errors mean over terms what they mean over values
  pub functions_mean : (defs : List Def) → none (definitions_errors defs [] []) ≡ true →
      FunctionsMean inputs v kinds (with_definitions defs []) (functions_of defs) (sym_functions kinds (reverse defs)) (functions_grow kinds (reverse defs))
  functions_mean defs h = all_more defs [] [] h (λ name d e. absurd (cc)) (record { gives = λ name d xs wants nodes e. absurd (cc) })
