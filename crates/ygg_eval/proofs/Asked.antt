-- The formulas of a typed file may be evaluated.
use Rattle.ygg_base.specs.declared.reason.Reason.TheVariants as reason
use Rattle.std.proofs.Common.{
  ◌≡◌,
  ℕ,
  zero,
  suc,
  ◌+◌,
  ◌-◌,
  ◌<◌,
  arith,
  Bool,
  true,
  false,
  IsTrue,
  if◌then◌else◌,
  ◌&&◌,
  not,
  List,
  [],
  ◌∷◌,
  ◌++◌,
  length,
  Some,
  None,
  slice_get,
  get_or,
  refl,
  sym,
  ap,
  ◌∙◌,
  subst,
  append_assoc,
}
use Rattle.std.proofs.lemmas.List.{append-nil}
use Rattle.std.proofs.lemmas.Option.{slice_get-get_or, slice_get_within}
use Rattle.ygg_syntax.specs.declared.tree.Declared.{Declared}
use Rattle.ygg_syntax.specs.declared.tree.Def.{Def}
use Rattle.ygg_syntax.specs.declared.tree.Expr.{Expr}
use Rattle.ygg_syntax.specs.declared.tree.Layer.{Layer}
use Rattle.ygg_syntax.specs.declared.tree.File.{File}
use Rattle.ygg_value.specs.declared.row.Value.{Value}
use Rattle.ygg_value.specs.declared.shape.Shape.TheVariants.{Word}
use Rattle.ygg_eval_expr.specs.ygg_syntax.Weights.{Weights, weights_of, expr_weight}
use Rattle.ygg_eval_expr.specs.ygg_type_rules.Names.{Named, has, added}
use Rattle.ygg_eval_expr.specs.ygg_type_rules.declared.scope.Signature.{Signature}
use Rattle.ygg_eval_expr.specs.ygg_type_rules.declared.scope.Visibility.{Visibility}
use Rattle.ygg_eval_expr.specs.ygg_type_rules.declared.scope.Visibility.TheVariants as view
use Rattle.ygg_eval_expr.specs.ygg_type_rules.TypeErrors.{none, unless}
use Rattle.ygg_eval_expr.specs.ygg_type_rules.Limits.{weight_fits}
use Rattle.ygg_eval_expr.specs.ygg_type_rules.Scopes.{Scope, seen_as}
use Rattle.ygg_eval_expr.specs.ygg_type_rules.Expressions.{typing, wanted, expected_errors}
use Rattle.ygg_eval_expr.specs.ygg_type_rules.Definitions.{definitions_errors, with_definitions}
use Rattle.ygg_eval_expr.specs.ygg_type_rules.Layers.{
  Known as NamesKnown,
  Below,
  below_of,
  layer_scope,
  declared_errors,
  blocks_errors,
  operations_errors,
  ticks_errors,
  formula_errors,
  formulas_errors,
  relations_errors,
  parts_errors,
}
use Rattle.ygg_eval_expr.specs.ygg_type_rules.Files.{disk_errors, disk_below, layer_errors, count_error, layers_errors, type_errors_of, IsTyped}
use Rattle.ygg_eval_expr.specs.ygg_meaning.Environments.{Env, bind}
use Rattle.ygg_eval_expr.specs.ygg_meaning.Meaning.{functions_of, is_one}
use Rattle.ygg_eval_expr.specs.ygg_meaning.Shapes.{values_fit}
use Rattle.ygg_eval.specs.ygg_meaning.Stack.{tables_of}
use Rattle.ygg_eval_expr.specs.ygg_meaning_laws.Agrees.{Agrees}
use Rattle.ygg_eval_expr.specs.ygg_meaning_laws_proofs_Tests.{left, right}
use Rattle.ygg_eval_expr.specs.ygg_meaning_laws_proofs_Definitions.{MeetsAll, definitions_meet}
use Rattle.ygg_eval.specs.ygg_meaning_laws_proofs_TypeErrors.{none_listed}
use Rattle.ygg_eval.proofs.of_ygg_meaning_laws.Views.{LayerVariables, layer_variables}
use Rattle.ygg_eval_expr.specs.Known.{Known, value_in, CanEvaluate}
use Rattle.ygg_eval.specs.declared.formula.Formula.{Formula}
use Rattle.ygg_eval.specs.declared.formula.Which.{Which}
use Rattle.ygg_eval.specs.declared.formula.Which.TheVariants.{Relate, Always, Settled, Maybe}
use Rattle.ygg_eval.specs.Layers.{variables_from, variables_at}
use Rattle.ygg_eval.proofs.Blocks.{bind_fits}
use Rattle.ygg_eval.specs.Formulas.{chosen_in, formula_in, own_in, sees_all, IsAsked, Answers}
use Rattle.ygg_eval.proofs.SeenBelow.{IsBelow, disk_is_below, layer_is_below, relation_agrees, settled_agrees}

-- the parts of a layer without type errors that formulas ask for
record LayerParts (l : Layer) (weights : Weights) (scope : Scope) : Type 0 where
  pub variables : LayerVariables l
  pub operations : none (operations_errors l.operations l.crash [] weights scope) ≡ true
  pub relations : none (relations_errors l weights scope) ≡ true

layer_parts : (l : Layer) (weights : Weights) (scope : Scope) → none (parts_errors l weights scope) ≡ true → LayerParts l weights scope
layer_parts l weights scope h =
    let declared = none (declared_errors l) in
    let blocks = none (blocks_errors l weights scope) in
    let operations = none (operations_errors l.operations l.crash [] weights scope) in
    let ticks = none (ticks_errors l.ticks [] weights scope) in
    let relations = none (relations_errors l weights scope) in
    let a = right declared (blocks && (operations && (ticks && relations))) h in
    let b = right blocks (operations && (ticks && relations)) a in
    record {
      variables = layer_variables l (left declared (blocks && (operations && (ticks && relations))) h);
      operations = left operations (ticks && relations) b;
      relations = right ticks relations (right operations (ticks && relations) b);
    }

-- a layer of a file, over what stands below it
record LayerAt (defs : Named Signature) (weights : Weights) (l : Layer) (low : List Declared) : Type 0 where
  pub below : Below
  pub is : IsBelow below low
  pub parts : LayerParts l weights (layer_scope defs below l)

-- the first of some layers, and those after it
record FirstLayer (x : Layer) (ls : List Layer) (before : ℕ) (names : NamesKnown) (defs : Named Signature) (below : Below) (weights : Weights) : Type 0 where
  pub parts : LayerParts x weights (layer_scope defs below x)
  pub later : none (layers_errors ls (before + 1) (added x.name.text tt names) defs (below_of x) weights) ≡ true

first_layer : (x : Layer) (ls : List Layer) (before : ℕ) (names : NamesKnown) (defs : Named Signature) (below : Below) (weights : Weights) →
    none (layers_errors (x ∷ ls) before names defs below weights) ≡ true
    → FirstLayer x ls before names defs below weights
first_layer x ls before names defs below weights f =
    let name = none (unless (not (has x.name.text names)) reason.Twice x.name.place) in
    let here = none (layer_errors x names defs below weights) in
    let others = none (layers_errors ls (before + 1) (added x.name.text tt names) defs (below_of x) weights) in
    let rest = right (none (count_error before x)) (here && others) f in
    record {
      parts = layer_parts x weights (layer_scope defs below x) (right name (none (parts_errors x weights (layer_scope defs below x))) (left here others rest));
      later = right here others rest;
    }

find_layer : (ls : List Layer) (before : ℕ) (names : NamesKnown) (defs : Named Signature) (below : Below) (weights : Weights) (low : List Declared) →
    none (layers_errors ls before names defs below weights) ≡ true → IsBelow below low
    → (place : ℕ) (l : Layer) → slice_get ls place ≡ Some l → LayerAt defs weights l (variables_from low ls place)
find_layer [] before names defs below weights low f is place l h = absurd (cc)
find_layer (x ∷ ls) before names defs below weights low f is zero l h =
    let same : x ≡ l = cc in
    subst (λ (y : Layer). LayerAt defs weights y low) same
    (record { below = below; is = is; parts = (first_layer x ls before names defs below weights f).parts })
find_layer (x ∷ ls) before names defs below weights low f is (suc place) l h =
    let first = first_layer x ls before names defs below weights f in
    find_layer ls (before + 1) (added x.name.text tt names) defs (below_of x) weights x.state first.later
    (layer_is_below x weights (layer_scope defs below x) first.parts.variables first.parts.operations) place l h

-- the view of a formula
abbrev view_of : Which → Visibility
view_of Relate = view.Relation
view_of Always = view.Relation
view_of Settled = view.Settled
view_of Maybe = view.Relation

one_of : (v : Visibility) (es : List Expr) (weights : Weights) (scope : Scope) (n : ℕ) (e : Expr) → none (formulas_errors v es weights scope) ≡ true →
    slice_get es n ≡ Some e → none (formula_errors v e weights scope) ≡ true
one_of v [] weights scope n e f h = absurd (cc)
one_of v (x ∷ es) weights scope zero e f h =
    let same : x ≡ e = cc in
    subst (λ y. none (formula_errors v y weights scope) ≡ true) same
    (left (none (formula_errors v x weights scope)) (none (formulas_errors v es weights scope)) f)
one_of v (x ∷ es) weights scope (suc n) e f h = one_of v es weights scope n e
    (right (none (formula_errors v x weights scope)) (none (formulas_errors v es weights scope)) f) h

formula_typed : (l : Layer) (weights : Weights) (scope : Scope) (which : Which) (n : ℕ) (e : Expr) → none (relations_errors l weights scope) ≡ true →
    chosen_in l which n ≡ Some e → none (formula_errors (view_of which) e weights scope) ≡ true
formula_typed l weights scope which n e f = go which
  where
    relate : Bool
    relate = none (formula_errors view.Relation l.relate weights scope)

    always : Bool
    always = none (formulas_errors view.Relation l.always weights scope)

    settled : Bool
    settled = none (formulas_errors view.Settled l.settled weights scope)

    maybe : Bool
    maybe = none (formulas_errors view.Relation l.maybe weights scope)

    a : (always && (settled && maybe)) ≡ true
    a = right relate (always && (settled && maybe)) f

    b : (settled && maybe) ≡ true
    b = right always (settled && maybe) a

    go : (which : Which) → chosen_in l which n ≡ Some e → none (formula_errors (view_of which) e weights scope) ≡ true
    go Relate h = let same : l.relate ≡ e = cc in subst (λ x. none (formula_errors view.Relation x weights scope) ≡ true) same
        (left relate (always && (settled && maybe)) f)
    go Always h = one_of view.Relation l.always weights scope n e (left always (settled && maybe) a) h
    go Settled h = one_of view.Settled l.settled weights scope n e (left settled maybe b) h
    go Maybe h = one_of view.Relation l.maybe weights scope n e (right settled maybe b) h

-- what a formula of a file is evaluated with
abbrev pub asked_with : File → Formula → Layer → List Value → List Value → List Value → Known
asked_with file f l state memory low = record { defs = file.defs; own = own_in l f.which state memory; low = bind (variables_at file f.layer) low }

pub can_ask : (file : File) (f : Formula) (state memory low : List Value) → IsTyped file → (asked : IsAsked file f state memory low) →
    CanEvaluate (asked_with file f asked.layer state memory low) asked.expression
can_ask file f state memory low typed asked =
    let l = asked.layer in
    let e = asked.expression in
    let disk = none (disk_errors file.disk) in
    let definitions = none (definitions_errors file.defs [] []) in
    let defs = with_definitions file.defs [] in
    let weights = weights_of file.defs in
    let layers = none (layers_errors file.layers 0 [] defs (disk_below file.disk) weights) in
    let all : none (type_errors_of file) ≡ true = none_listed (type_errors_of file) typed in
    let rest = right disk (definitions && layers) all in
    let sound = left definitions layers rest in
    let meets = definitions_meet file.defs sound in
    let ground = disk_is_below (functions_of file.defs) defs weights file.disk meets (left disk (definitions && layers) all) in
    let at = find_layer file.layers 0 [] defs (disk_below file.disk) weights (tables_of file.disk) (right definitions layers rest) ground f.layer l asked.is in
    let scope = seen_as (view_of f.which) (layer_scope defs at.below l) in
    let claim = formula_typed l weights (layer_scope defs at.below l) f.which f.number e at.parts.relations asked.of_layer in
    let expected = left (none (expected_errors e (Some (Word 1)) scope))
    (none (unless (weight_fits (expr_weight weights e)) reason.TooLong (typing e scope).part.place)) claim in
    record {
      scope = scope;
      defs = refl;
      sound = sound;
      agrees = agrees f.which asked.state_fits asked.memory_fits at meets;
      without_errors = left (none (typing e scope).type_errors) (none (wanted (typing e scope).part (Some (Word 1)))) expected;
    }
  where
    agrees : (which : Which) → (IsTrue (sees_all which) → values_fit asked.layer.state state ≡ true) →
        (IsTrue (sees_all which) → values_fit asked.layer.memory memory ≡ true)
        → (at : LayerAt (with_definitions file.defs []) (weights_of file.defs) asked.layer (variables_at file f.layer))
        → MeetsAll (functions_of file.defs) (with_definitions file.defs []) →
        Agrees (functions_of file.defs) (seen_as (view_of which) (layer_scope (with_definitions file.defs []) at.below asked.layer))
        (record { own = own_in asked.layer which state memory; low = bind (variables_at file f.layer) low })
    agrees which state_fits memory_fits at meets = go which state_fits memory_fits
      where
        related : values_fit asked.layer.state state ≡ true → values_fit asked.layer.memory memory ≡ true →
            Agrees (functions_of file.defs) (seen_as view.Relation (layer_scope (with_definitions file.defs []) at.below asked.layer))
            (record { own = bind asked.layer.state state ++ bind asked.layer.memory memory; low = bind (variables_at file f.layer) low })
        related s m = relation_agrees (functions_of file.defs) (with_definitions file.defs []) at.below asked.layer
            (variables_at file f.layer) meets at.is at.parts.variables (bind asked.layer.state state) (bind asked.layer.memory memory)
            (bind (variables_at file f.layer) low)
            (bind_fits asked.layer.state state s) (bind_fits asked.layer.memory memory m)
            (bind_fits (variables_at file f.layer) low asked.low_fits)

        go : (which : Which) → (IsTrue (sees_all which) → values_fit asked.layer.state state ≡ true) →
            (IsTrue (sees_all which) → values_fit asked.layer.memory memory ≡ true) → Agrees (functions_of file.defs)
            (seen_as (view_of which) (layer_scope (with_definitions file.defs []) at.below asked.layer))
            (record { own = own_in asked.layer which state memory; low = bind (variables_at file f.layer) low })
        go Relate s m = related (s refl) (m refl)
        go Always s m = related (s refl) (m refl)
        go Maybe s m = related (s refl) (m refl)
        go Settled s m = settled_agrees (functions_of file.defs) (with_definitions file.defs []) at.below asked.layer
            (variables_at file f.layer) meets at.is (bind (variables_at file f.layer) low)
            (bind_fits (variables_at file f.layer) low asked.low_fits)

-- the same under other names
pub asked_can : (file : File) (f : Formula) (state memory low : List Value) → IsTyped file → IsAsked file f state memory low →
    (l : Layer) (e : Expr) (k : Known) → slice_get file.layers f.layer ≡ Some l → formula_in l f ≡ Some e
    → k ≡ asked_with file f l state memory low → CanEvaluate k e
asked_can file f state memory low typed asked l e k is of_layer same =
    let layers : asked.layer ≡ l = let a = asked.is in cc in
    let expressions : asked.expression ≡ e = let a = asked.of_layer in let b = ap (λ x. formula_in x f) layers in cc in
    subst (λ (known : Known). CanEvaluate known e) (sym same)
    (subst (λ (x : Layer). CanEvaluate (asked_with file f x state memory low) e) layers
    (subst (λ x. CanEvaluate (asked_with file f asked.layer state memory low) x) expressions (can_ask file f state memory low typed asked)))

pub asked_gives : (file : File) (f : Formula) (state memory low : List Value) (l : Layer) (e : Expr) (k : Known) (answer : Bool) →
    slice_get file.layers f.layer ≡ Some l → formula_in l f ≡ Some e → k ≡ asked_with file f l state memory low
    → answer ≡ is_one (value_in k e) → Answers file f state memory low answer
asked_gives file f state memory low l e k answer is of_layer same gives l' e' is' of_layer' =
    let layers : l ≡ l' = cc in
    let expressions : e ≡ e' = let b = ap (λ x. formula_in x f) layers in cc in
    gives ∙ ap (λ (known : Known). is_one (value_in known e)) same ∙ ap (λ (x : Layer). is_one (value_in (asked_with file f x state memory low) e)) layers
    ∙ ap (λ x. is_one (value_in (asked_with file f l' state memory low) x)) expressions

-- the plain names that were gathered, where the expressions see them
pub own_seen : (l : Layer) (which : Which) (sees : Bool) (state memory : List Value) (env between after : Env) (ds es : List Declared) →
    sees ≡ sees_all which → sees ≡ true → between ≡ env ++ bind ds state → ds ≡ l.state → after ≡ between ++ bind es memory → es ≡ l.memory →
    after ≡ env ++ own_in l which state memory
own_seen l which sees state memory env between after ds es is all first ds_are second es_are =
    let both : after ≡ env ++ (bind l.state state ++ bind l.memory memory) = second ∙ ap (λ x. x ++ bind es memory) first
    ∙ append_assoc env (bind ds state) (bind es memory)
    ∙ ap (λ x. env ++ (bind x state ++ bind es memory)) ds_are ∙ ap (λ x. env ++ (bind l.state state ++ bind x memory)) es_are in
    both ∙ ap (λ (b : Bool). env ++ ((if b then bind l.state state else []) ++ (if b then bind l.memory memory else []))) (sym all ∙ is)

-- and where they don't
pub own_unseen : (l : Layer) (which : Which) (sees : Bool) (state memory : List Value) (env : Env) → sees ≡ sees_all which → sees ≡ false →
    env ≡ env ++ own_in l which state memory
own_unseen l which sees state memory env is none_seen =
    sym (append-nil env)
    ∙ ap (λ (b : Bool). env ++ ((if b then bind l.state state else []) ++ (if b then bind l.memory memory else []))) (sym none_seen ∙ is)

-- the names with values that were gathered one list after another
pub known_is : (file : File) (f : Formula) (l : Layer) (state memory low : List Value) (defs : List Def) (none own nothing lower : Env)
    (vs ws us : List Value) → defs ≡ file.defs → none ≡ [] → own ≡ none ++ own_in l f.which vs ws → vs ≡ state → ws ≡ memory → nothing ≡ [] →
    lower ≡ nothing ++ bind (variables_at file f.layer) us → us ≡ low
    → record { defs = defs; own = own; low = lower } ≡ asked_with file f l state memory low
known_is file f l state memory low defs none own nothing lower vs ws us d n b q s m o u =
    let owns : own ≡ own_in l f.which state memory =
    b ∙ ap (λ x. x ++ own_in l f.which vs ws) n ∙ ap (λ x. own_in l f.which x ws) q ∙ ap (λ x. own_in l f.which state x) s in
    let lows : lower ≡ bind (variables_at file f.layer) low = o ∙ ap (λ x. x ++ bind (variables_at file f.layer) us) m
    ∙ ap (bind (variables_at file f.layer)) u in
    let known : List Def → Env → Env → Known = λ x y z. record { defs = x; own = y; low = z } in
    ap (λ x. known x own lower) d ∙ ap (λ x. known file.defs x lower) owns ∙ ap (known file.defs (own_in l f.which state memory)) lows

-- what stands below the first layer, and below another one
pub low_first : (below : List Declared) (ls : List Layer) (place : ℕ) → place ≡ 0 → variables_from below ls place ≡ below
low_first below ls place h = ap (variables_from below ls) h ∙ go ls
  where
    go : (ls : List Layer) → variables_from below ls 0 ≡ below
    go [] = refl
    go (l ∷ ls) = refl

low_next : (below : List Declared) (ls : List Layer) (place : ℕ) (l : Layer) → place < length ls → l ≡ get_or ls place l →
    variables_from below ls (suc place) ≡ l.state
low_next below [] place l h e = absurd (omega arith)
low_next below (x ∷ ls) zero l h e = low_first x.state ls 0 refl ∙ ap (λ (y : Layer). y.state) (sym e)
low_next below (x ∷ ls) (suc p) l h e = low_next x.state ls p l (omega arith) e

pub low_later : (below : List Declared) (ls : List Layer) (place : ℕ) (l : Layer) → place < length ls → (place ≡ 0 → ⊥) → l ≡ get_or ls (place - 1) l
    → variables_from below ls place ≡ l.state
low_later below ls zero l h n e = absurd (n refl)
low_later below ls (suc p) l h n e = let one : suc p - 1 ≡ p = omega arith in low_next below ls p l (omega arith) (e ∙ ap (λ k. get_or ls k l) one)

-- the place of a formula that is asked is within the file's layers
pub asked_within : (file : File) (f : Formula) (state memory low : List Value) (layers : List Layer) → IsAsked file f state memory low →
    layers ≡ file.layers → f.layer < length layers
asked_within file f state memory low layers asked same =
    subst (λ ls. f.layer < length ls) (sym same) (slice_get_within file.layers f.layer asked.layer asked.is)

-- so the item there is the formula's layer
pub asked_layer : (file : File) (f : Formula) (state memory low : List Value) (layers : List Layer) (l : Layer) → IsAsked file f state memory low →
    layers ≡ file.layers → l ≡ get_or layers f.layer l → slice_get file.layers f.layer ≡ Some l
asked_layer file f state memory low layers l asked same is =
    ap (λ ls. slice_get ls f.layer) (sym same)
    ∙ slice_get-get_or layers f.layer l (asked_within file f state memory low layers asked same)
    ∙ ap (λ x. Some x) (sym is)

-- and it has the expression that is meant
pub asked_expression : (file : File) (f : Formula) (state memory low : List Value) (l : Layer) → IsAsked file f state memory low →
    slice_get file.layers f.layer ≡ Some l → None ≡ formula_in l f → ⊥
asked_expression file f state memory low l asked is none =
    let layers : asked.layer ≡ l = let a = asked.is in cc in
    let there : Some asked.expression ≡ None = sym asked.of_layer ∙ ap (λ x. formula_in x f) layers ∙ sym none in
    cc
