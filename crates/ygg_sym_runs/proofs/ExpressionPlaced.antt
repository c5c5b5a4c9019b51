-- The definition of a name, among definitions without type errors, and what it makes.
use Rattle.std.proofs.Common.{
  ◌≡◌,
  ℕ,
  zero,
  suc,
  ◌+◌,
  ◌<◌,
  Bool,
  true,
  false,
  cond,
  if◌then◌else◌,
  List,
  [],
  ◌∷◌,
  ◌++◌,
  length,
  take,
  map,
  get_or,
  Some,
  None,
  is_some,
  refl,
  sym,
  ap,
  ◌∙◌,
  subst,
  arith,
  append_assoc,
  add-one,
}
use Rattle.std.specs.Str.{bytes_eq}
use Rattle.std.proofs.Math.Seq.{take-suc}
use Rattle.std.proofs.lemmas.Bool.{and_from}
use Rattle.std.proofs.lemmas.List.{append-nil, reverse-append}
use Rattle.std.proofs.lemmas.List.Elements.{All-nil}
use Rattle.std.proofs.lemmas.Option.{slice_get-get_or}
use Rattle.ygg_syntax.specs.declared.tree.Def.{Def}
use Rattle.ygg_eval_expr.specs.ygg_syntax.Weights.{weights_of, expr_weight}
use Rattle.ygg_eval_expr.specs.ygg_type_rules.Names.{Named, look_up, has}
use Rattle.ygg_eval_expr.specs.ygg_meaning_laws.Signature.{Signature}
use Rattle.ygg_eval_expr.specs.ygg_meaning_laws.TypeErrors.{none}
use Rattle.ygg_eval_expr.specs.ygg_meaning_laws.Shapes.{shape_of}
use Rattle.ygg_eval_expr.specs.ygg_meaning_laws.Expressions.{typing, wanted}
use Rattle.ygg_eval_expr.specs.ygg_meaning_laws.Definitions.{
  with_parameters,
  definition_signature,
  definition_scope,
  definition_errors,
  with_definition,
  with_definitions,
  definitions_errors,
}
use Rattle.ygg_eval_expr.specs.ygg_meaning_laws.Environments.{Name}
use Rattle.ygg_eval_expr.specs.ygg_meaning_laws.Meaning.{functions_of}
use Rattle.ygg_eval_expr.specs.ygg_meaning_laws.Agrees.{Agrees}
use Rattle.ygg_eval_expr.specs.ygg_meaning_laws_proofs_Tests.{left, right, bytes_same, bytes_equal}
use Rattle.ygg_eval_expr.specs.ygg_meaning_laws_proofs_Names.{still_found, look_up_append, added_new, or_else, absent}
use Rattle.ygg_eval_expr.specs.ygg_meaning_laws_proofs_Definitions.{DefinitionParts, definition_parts, called, body_agrees, definitions_meet}
use Rattle.ygg_eval_expr.specs.Known.{IsDefinition}
use Rattle.ygg_eval_expr.proofs.Called.{Missing, missing_begun, missing_more}
use Rattle.ygg_shape.specs.ygg_rules.declared.rule.RuleKind.{RuleKind}
use Rattle.ygg_shape.specs.ygg_bank.Makes.{pure}
use Rattle.ygg_shape.specs.ygg_bank.declared.node.Node.{Node}
use Rattle.ygg_shape.specs.ygg_shape_cells.Terms.{worth}
use Rattle.ygg_shape.specs.ygg_shape_cells.declared.terms.SymValue.{SymValue}
use Rattle.ygg_sym_runs.specs.Names.{SymScope, no_term, sym_bind}
use Rattle.ygg_sym_runs.specs.Exprs.{sym_value, sym_functions}
use Rattle.ygg_sym_runs.specs.ExpressionMeaning.{SomeShape, ScopeShaped, scope_worth}
use Rattle.ygg_sym_runs.specs.Seen.{SymKnown, terms_called, terms_in, CanTerm, CanCall}
use Rattle.ygg_sym_runs.proofs.Definitions.{parameters_defs, bound_shaped, bound_worth}

-- the names that the expression of a definition sees
abbrev pub inside : Def → List SymValue → SymScope
inside d args = record { own = sym_bind d.parameters args; low = [] }

-- the same, with the definitions before it
abbrev pub placed : List Def → ℕ → Def → List SymValue → SymKnown
placed defs place d args = record { defs = take place defs; scope = inside d args }

-- one more definition, the last of all
terms_after : (kinds : List RuleKind) (ds : List Def) (d : Def) (name : Name) (args : List SymValue) (nodes : List Node) →
    terms_called kinds (ds ++ d ∷ []) name args nodes
    ≡ (if bytes_eq d.name.text name then sym_value kinds (terms_called kinds ds) d.body (inside d args) else terms_called kinds ds name args) nodes
terms_after kinds ds d name args nodes = ap (λ xs. sym_functions kinds xs name args nodes) (reverse-append ds (d ∷ []))

one_longer : (ds : List Def) (d : Def) (place : ℕ) → place < length ds → d ≡ get_or ds place d → take (place + 1) ds ≡ take place ds ++ d ∷ []
one_longer ds d place h e = rw (add-one, take-suc ds place d h) (ap (λ x. take place ds ++ x ∷ []) (sym e))

-- none of the first so many definitions has the name
pub record TermsMissing (defs : List Def) (name : Name) (place : ℕ) : Type 0 where
  pub before : Missing defs name place
  pub gives : (kinds : List RuleKind) (args : List SymValue) (nodes : List Node) → terms_called kinds (take place defs) name args nodes ≡ pure no_term nodes

pub terms_begun : (defs : List Def) (name : Name) → TermsMissing defs name 0
terms_begun defs name = record { before = missing_begun defs name; gives = λ kinds args nodes. refl }

pub terms_more : (defs : List Def) (name : Name) (place : ℕ) (d : Def) → place < length defs → d ≡ get_or defs place d →
    bytes_eq d.name.text name ≡ false → TermsMissing defs name place → TermsMissing defs name (place + 1)
terms_more defs name place d h e differs m = record {
  before = missing_more defs name place d h e differs m.before;
  gives = λ kinds args nodes.
      ap (λ ds. terms_called kinds ds name args nodes) (one_longer defs d place h e)
      ∙ terms_after kinds (take place defs) d name args nodes
      ∙ ap (λ b. (if b then sym_value kinds (terms_called kinds (take place defs)) d.body (inside d args)
      else terms_called kinds (take place defs) name args) nodes) differs
      ∙ m.gives kinds args nodes;
}

-- further definitions keep a signature
kept_by_one : (d : Def) (defs : Named Signature) (name : Name) (s : Signature) → look_up name defs ≡ Some s → look_up name (with_definition d defs) ≡ Some s
kept_by_one d defs name s h = cases (has d.name.text defs)
  where
    cases : (b : Bool) → look_up name (cond b defs (defs ++ (d.name.text, definition_signature d) ∷ [])) ≡ Some s
    cases true = h
    cases false = still_found name defs ((d.name.text, definition_signature d) ∷ []) s h

kept : (ds : List Def) (defs : Named Signature) (name : Name) (s : Signature) → look_up name defs ≡ Some s → look_up name (with_definitions ds defs) ≡ Some s
kept [] defs name s h = h
kept (d ∷ ds) defs name s h = kept ds (with_definition d defs) name s (kept_by_one d defs name s h)

-- a new name differs from one that is there
differ : {V : Type 0} (a b : Name) (names : Named V) → has a names ≡ false → has b names ≡ true → bytes_eq a b ≡ false
differ a b names p q = cases (bytes_eq a b) refl
  where
    cases : (c : Bool) → bytes_eq a b ≡ c → c ≡ false
    cases true e = let same : has a names ≡ true = subst (λ n. has n names ≡ true) (sym (bytes_same a b e)) q in absurd (cc)
    cases false e = refl

-- the signature that a definition adds
added_found : (d : Def) (defs : Named Signature) → has d.name.text defs ≡ false → look_up d.name.text (with_definition d defs) ≡ Some (definition_signature d)
added_found d defs new =
    let sig = definition_signature d in
    ap (look_up d.name.text) (added_new d.name.text sig defs new)
    ∙ look_up_append d.name.text defs ((d.name.text, sig) ∷ [])
    ∙ ap (λ o. or_else o (cond (bytes_eq d.name.text d.name.text) (Some sig) None)) (absent (look_up d.name.text defs) new)
    ∙ ap (λ b. cond b (Some sig) None) (bytes_equal d.name.text)

-- later definitions have other names
later : (kinds : List RuleKind) (ds done : List Def) (defs : Named Signature) (name : Name) (s : Signature) (args : List SymValue) (nodes : List Node) →
    none (definitions_errors ds done defs) ≡ true → look_up name defs ≡ Some s →
    terms_called kinds (done ++ ds) name args nodes ≡ terms_called kinds done name args nodes
later kinds [] done defs name s args nodes f h = ap (λ xs. terms_called kinds xs name args nodes) (append-nil done)
later kinds (d ∷ ds) done defs name s args nodes f h =
    let here = none (definition_errors d (expr_weight (weights_of done) d.body) defs) in
    let others = none (definitions_errors ds (done ++ d ∷ []) (with_definition d defs)) in
    let parts = definition_parts d (expr_weight (weights_of done) d.body) defs (left here others f) in
    let again = later kinds ds (done ++ d ∷ []) (with_definition d defs) name s args nodes (right here others f) (kept_by_one d defs name s h) in
    ap (λ xs. terms_called kinds xs name args nodes) (sym (append_assoc done (d ∷ []) ds)) ∙ again ∙ terms_after kinds done d name args nodes
    ∙ ap (λ b. (if b then sym_value kinds (terms_called kinds done) d.body (inside d args) else terms_called kinds done name args) nodes)
    (differ d.name.text name defs parts.new (ap is_some h))

-- a definition at its place
record AtPlace (ds done : List Def) (defs : Named Signature) (place : ℕ) (d : Def) : Type 0 where
  parts : DefinitionParts d (with_definitions (take place ds) defs)
  found : look_up d.name.text (with_definitions ds defs) ≡ Some (definition_signature d)
  calls : (kinds : List RuleKind) (args : List SymValue) (nodes : List Node) → terms_called kinds (done ++ ds) d.name.text args nodes
      ≡ sym_value kinds (terms_called kinds (done ++ take place ds)) d.body (inside d args) nodes
  before : none (definitions_errors (take place ds) done defs) ≡ true

at_place : (ds done : List Def) (defs : Named Signature) → none (definitions_errors ds done defs) ≡ true → (place : ℕ) (d : Def) → place < length ds →
    d ≡ get_or ds place d → AtPlace ds done defs place d
at_place [] done defs f place d h e = absurd (omega arith)
at_place (c ∷ ds) done defs f zero d h e =
    let weight = expr_weight (weights_of done) d.body in
    let g : none (definitions_errors (d ∷ ds) done defs) ≡ true = subst (λ x. none (definitions_errors (x ∷ ds) done defs) ≡ true) (sym e) f in
    let here = none (definition_errors d weight defs) in
    let others = none (definitions_errors ds (done ++ d ∷ []) (with_definition d defs)) in
    let parts = definition_parts d weight defs (left here others g) in
    let one = added_found d defs parts.new in
    record {
      parts = parts;
      found = ap (λ x. look_up d.name.text (with_definitions (x ∷ ds) defs)) (sym e)
          ∙ kept ds (with_definition d defs) d.name.text (definition_signature d) one;
      calls = λ kinds args nodes.
          ap (λ x. terms_called kinds (done ++ x ∷ ds) d.name.text args nodes) (sym e)
          ∙ ap (λ xs. terms_called kinds xs d.name.text args nodes) (sym (append_assoc done (d ∷ []) ds))
          ∙ later kinds ds (done ++ d ∷ []) (with_definition d defs) d.name.text (definition_signature d) args nodes (right here others g) one
          ∙ terms_after kinds done d d.name.text args nodes
          ∙ ap (λ b. (if b then sym_value kinds (terms_called kinds done) d.body (inside d args) else terms_called kinds done d.name.text args) nodes)
          (bytes_equal d.name.text)
          ∙ ap (λ xs. sym_value kinds (terms_called kinds xs) d.body (inside d args) nodes) (sym (append-nil done));
      before = refl;
    }
at_place (c ∷ ds) done defs f (suc k) d h e =
    let here = none (definition_errors c (expr_weight (weights_of done) c.body) defs) in
    let others = none (definitions_errors ds (done ++ c ∷ []) (with_definition c defs)) in
    let again = at_place ds (done ++ c ∷ []) (with_definition c defs) (right here others f) k d (omega arith) e in
    record {
      parts = again.parts;
      found = again.found;
      calls = λ kinds args nodes.
          ap (λ xs. terms_called kinds xs d.name.text args nodes) (sym (append_assoc done (c ∷ []) ds))
          ∙ again.calls kinds args nodes
          ∙ ap (λ xs. sym_value kinds (terms_called kinds xs) d.body (inside d args) nodes) (append_assoc done (c ∷ []) (take k ds));
      before = and_from here (none (definitions_errors (take k ds) (done ++ c ∷ []) (with_definition c defs))) (left here others f) again.before;
    }

-- what is known of a definition and arguments that fit it
pub record BodyParts (defs : List Def) (nodes : List Node) (name : Name) (args : List SymValue) (place : ℕ) (d : Def) : Type 0 where
  pub can : CanTerm (placed defs place d args) nodes d.body
  pub calls : (kinds : List RuleKind) (old : List Node) → terms_in kinds (placed defs place d args) d.body old ≡ terms_called kinds defs name args old

pub body_parts : (defs : List Def) (nodes : List Node) (name : Name) (args : List SymValue) (place : ℕ) (d : Def) → CanCall defs nodes name args →
    IsDefinition defs name place → d ≡ get_or defs place d → BodyParts defs nodes name args place d
body_parts defs nodes name args place d can is e =
    let at = at_place defs [] [] can.sound place d is.within e in
    let named : d.name.text ≡ name = is.named d (slice_get-get_or defs place d is.within ∙ ap (λ x. Some x) (sym e)) in
    let found = ap (λ n. look_up n (with_definitions defs [])) (sym named) ∙ at.found in
    let seen = with_definitions (take place defs) [] in
    let functions = functions_of (take place defs) in
    let scope = with_parameters d.parameters (definition_scope seen) in
    let shaped : ScopeShaped nodes (inside d args) = record {
      own = bound_shaped d.parameters args nodes can.shaped;
      low = All-nil (λ (b : Name × SymValue). SomeShape nodes b.1);
    } in
    record {
      can = record {
        scope = scope;
        defs = parameters_defs d.parameters (definition_scope seen);
        sound = at.before;
        without_errors = left (none (typing d.body scope).type_errors) (none (wanted (typing d.body scope).part (shape_of d.shape))) at.parts.body;
        shaped = shaped;
        agrees = λ inputs v h.
            let same : scope_worth v (inside d args) ≡ called d.parameters (map (worth v) args) =
            ap (λ own. record { own = own; low = [] }) (bound_worth v d.parameters args) in
            subst (Agrees functions scope) (sym same)
            (body_agrees functions d seen (map (worth v) args) (definitions_meet (take place defs) at.before) at.parts
            (can.fit inputs v (definition_signature d) h found));
      };
      calls = λ kinds old. sym (ap (λ n. terms_called kinds defs n args old) (sym named) ∙ at.calls kinds args old);
    }
