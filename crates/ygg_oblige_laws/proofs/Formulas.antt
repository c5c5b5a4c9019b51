-- The formulas of a typed layer.
use Rattle.std.proofs.Common.{
  ◌≡◌,
  ℕ,
  Bool,
  true,
  false,
  ◌&&◌,
  ◌||◌,
  cond,
  List,
  [],
  ◌∷◌,
  ◌++◌,
  All,
  Option,
  Some,
  None,
  is_some,
  codes,
  refl,
  sym,
  ap,
  ◌∙◌,
  subst,
}
use Rattle.std.proofs.lemmas.List.Elements.{All-nil, All-cons}
use Rattle.std.specs.Str.{bytes_eq}
use Rattle.ygg_base.specs.declared.geometry.DiskKind.{DiskKind}
use Rattle.ygg_base.specs.declared.geometry.DiskKind.TheVariants.{Sync, Async}
use Rattle.ygg_base.specs.declared.reason.Reason.TheVariants as reason
use Rattle.ygg_value.specs.declared.row.Value.{Value}
use Rattle.ygg_value.specs.declared.shape.Shape.{Shape}
use Rattle.ygg_value.specs.declared.shape.Shape.TheVariants.{Word}
use Rattle.ygg_syntax.specs.declared.tree.Declared.{Declared}
use Rattle.ygg_syntax.specs.declared.tree.Def.{Def}
use Rattle.ygg_syntax.specs.declared.tree.DiskText.{DiskText}
use Rattle.ygg_syntax.specs.declared.tree.Expr.{Expr}
use Rattle.ygg_syntax.specs.declared.tree.Layer.{Layer}
use Rattle.ygg_oblige_laws.specs.ygg_syntax.Weights.{Weights, expr_weight}
use Rattle.ygg_oblige_laws.specs.ygg_type_rules.Names.{look_up, has}
use Rattle.ygg_oblige_laws.specs.ygg_type_rules.declared.scope.Owner.{Owner}
use Rattle.ygg_oblige_laws.specs.ygg_type_rules.declared.scope.Owner.TheVariants.{State, Memory}
use Rattle.ygg_oblige_laws.specs.ygg_type_rules.declared.scope.Variable.{Variable}
use Rattle.ygg_oblige_laws.specs.ygg_type_rules.declared.scope.Local.{Local}
use Rattle.ygg_oblige_laws.specs.ygg_type_rules.declared.scope.Visibility.{Visibility}
use Rattle.ygg_oblige_laws.specs.ygg_type_rules.declared.scope.Visibility.TheVariants.{Relation, Settled}
use Rattle.ygg_oblige_laws.specs.ygg_type_rules.TypeErrors.{none, unless}
use Rattle.ygg_oblige_laws.specs.ygg_type_rules.Limits.{weight_fits}
use Rattle.ygg_oblige_laws.specs.ygg_type_rules.Shapes.{shape_of}
use Rattle.ygg_oblige_laws.specs.ygg_type_rules.Scopes.{Scope, seen_variable, state_shape, seen_as}
use Rattle.ygg_oblige_laws.specs.ygg_type_rules.Expressions.{typing, wanted, expected_errors}
use Rattle.ygg_oblige_laws.specs.ygg_type_rules.Definitions.{with_definitions}
use Rattle.ygg_oblige_laws.specs.ygg_type_rules.Layers.{Below, below_of, variables_of, layer_scope, formula_errors, formulas_errors, relations_errors}
use Rattle.ygg_oblige_laws.specs.ygg_type_rules.Files.{disk_errors, disk_table, disk_below}
use Rattle.ygg_oblige_laws.specs.ygg_meaning.Environments.{Env}
use Rattle.ygg_oblige_laws.specs.ygg_meaning.Meaning.{Functions, functions_of, value_with}
use Rattle.ygg_oblige_laws.specs.ygg_meaning.Meaning as meaning
use Rattle.ygg_oblige_laws.specs.ygg_meaning.Shapes.{env_fits, zeros_of}
use Rattle.ygg_oblige_laws.specs.ygg_meaning.Layer.{ClosedLayer}
use Rattle.ygg_oblige_laws.specs.ygg_meaning.Related.{relations}
use Rattle.ygg_oblige_laws.specs.ygg_meaning.Stack.{tables_of_kind, tables_of}
use Rattle.ygg_oblige_laws.specs.ygg_meaning_laws.Fitting.{IsHeld}
use Rattle.ygg_oblige_laws.specs.ygg_meaning_laws.Agrees.{Agrees}
use Rattle.ygg_oblige_laws.specs.ygg_meaning_laws_proofs_Tests.{left as first_of, right as second_of}
use Rattle.ygg_oblige_laws.specs.ygg_meaning_laws_proofs_Rules.{wanted_has}
use Rattle.ygg_oblige_laws.specs.ygg_meaning_laws_proofs_Sounds.{sound}
use Rattle.ygg_oblige_laws.specs.ygg_meaning_laws_proofs_Definitions.{MeetsAll}
use Rattle.ygg_oblige_laws.proofs.of_ygg_meaning_laws.Views.{entries, AllTyped, held_in, has_in, zeros_fit, LayerVariables, LowerShaped}
use Rattle.ygg_oblige_laws.specs.LayerTerms.{FormulaTyped}

pub all_typed : (ds es : List Declared) → AllTyped ds → AllTyped es → AllTyped (ds ++ es)
all_typed [] es t u = u
all_typed (d ∷ ds) es (here, t) u = (here, all_typed ds es t u)

abbrev variable : Owner → Declared → Variable
variable kind d = record { kind = kind; shape = shape_of d.shape }

-- a formula that sees everything sees no difference between state and memory
seen_memory : (es : List Declared) (name : List ℕ) →
    seen_variable Relation (look_up name (entries Memory es)) ≡ seen_variable Relation (look_up name (entries State es))
seen_memory [] name = refl
seen_memory (e ∷ es) name = cases (bytes_eq e.name.text name) (seen_memory es name)
  where
    cases : (c : Bool) → seen_variable Relation (look_up name (entries Memory es)) ≡ seen_variable Relation (look_up name (entries State es)) →
        seen_variable Relation (cond c (Some (variable Memory e)) (look_up name (entries Memory es)))
        ≡ seen_variable Relation (cond c (Some (variable State e)) (look_up name (entries State es)))
    cases true again = refl
    cases false again = again

seen_alike : (ds es : List Declared) (name : List ℕ) →
    seen_variable Relation (look_up name (entries State ds ++ entries Memory es)) ≡ seen_variable Relation (look_up name (entries State (ds ++ es)))
seen_alike [] es name = seen_memory es name
seen_alike (d ∷ ds) es name = cases (bytes_eq d.name.text name) (seen_alike ds es name)
  where
    cases : (c : Bool) →
        seen_variable Relation (look_up name (entries State ds ++ entries Memory es)) ≡ seen_variable Relation (look_up name (entries State (ds ++ es))) →
        seen_variable Relation (cond c (Some (variable State d)) (look_up name (entries State ds ++ entries Memory es)))
        ≡ seen_variable Relation (cond c (Some (variable State d)) (look_up name (entries State (ds ++ es))))
    cases true again = refl
    cases false again = again

seen_some : (o : Option Variable) → is_some (seen_variable Relation o) ≡ is_some o
seen_some None = refl
seen_some (Some v) = refl

-- memory isn't seen behind `low`
memory_hidden : (es : List Declared) (name : List ℕ) → state_shape (look_up name (entries Memory es)) ≡ None
memory_hidden [] name = refl
memory_hidden (e ∷ es) name = cases (bytes_eq e.name.text name) (memory_hidden es name)
  where
    cases : (c : Bool) → state_shape (look_up name (entries Memory es)) ≡ None →
        state_shape (cond c (Some (variable Memory e)) (look_up name (entries Memory es))) ≡ None
    cases true again = refl
    cases false again = again

low_alike : (ds es : List Declared) (name : List ℕ) →
    state_shape (look_up name (entries State ds ++ entries Memory es)) ≡ state_shape (look_up name (entries State ds))
low_alike [] es name = memory_hidden es name
low_alike (d ∷ ds) es name = cases (bytes_eq d.name.text name) (low_alike ds es name)
  where
    cases : (c : Bool) → state_shape (look_up name (entries State ds ++ entries Memory es)) ≡ state_shape (look_up name (entries State ds)) →
        state_shape (cond c (Some (variable State d)) (look_up name (entries State ds ++ entries Memory es)))
        ≡ state_shape (cond c (Some (variable State d)) (look_up name (entries State ds)))
    cases true again = refl
    cases false again = again

-- what stands below has these state variables
pub record IsBelow (below : Below) (low : List Declared) : Type 0 where
  pub memory : List Declared
  pub variables : below.variables ≡ entries State low ++ entries Memory memory
  pub typed : AllTyped low
  pub shaped : LowerShaped below.operations

disk_shows : (d : DiskText) (kind : DiskKind) → elim kind
    [ Sync ↦ (codes "view", disk_table d) ∷ [] | Async ↦ (codes "view", disk_table d) ∷ (codes "stable", disk_table d) ∷ [] ] ≡ entries State
    (tables_of_kind kind d) ++ entries Memory []
disk_shows d Sync = refl
disk_shows d Async = refl

disk_typed : (d : DiskText) (kind : DiskKind) → none (disk_errors d) ≡ true → AllTyped (tables_of_kind kind d)
disk_typed d Sync h = (h, tt)
disk_typed d Async h = (h, (h, tt))

pub disk_is_below : (d : DiskText) → none (disk_errors d) ≡ true → LowerShaped (disk_below d).operations → IsBelow (disk_below d) (tables_of d)
disk_is_below d h shaped = record { memory = []; variables = disk_shows d d.kind; typed = disk_typed d d.kind h; shaped = shaped }

pub layer_is_below : (l : Layer) → LayerVariables l → LowerShaped (below_of l).operations → IsBelow (below_of l) l.state
layer_is_below l vs shaped = record { memory = l.memory; variables = vs.is; typed = vs.state; shaped = shaped }

low_held : (below : Below) (low : List Declared) (env : Env) → IsBelow below low → env_fits low env ≡ true → (name : List ℕ) (known : Option Shape) →
    state_shape (look_up name below.variables) ≡ Some known → IsHeld name known env
low_held below low env is fit name known h =
    cases (look_up name (entries State low)) refl (sym (low_alike low is.memory name) ∙ sym (ap (λ vs. state_shape (look_up name vs)) is.variables) ∙ h)
  where
    shape_is : (a b : Option Shape) → Some a ≡ Some b → a ≡ b
    shape_is a b h = cc

    cases : (o : Option Variable) → look_up name (entries State low) ≡ o → state_shape o ≡ Some known → IsHeld name known env
    cases None i g = absurd (cc)
    cases (Some v) i g =
        let held = held_in State low env is.typed fit name v i in
        subst (λ s. IsHeld name s env)
        (shape_is v.shape known (ap (λ (kind : Owner). elim kind [ State ↦ Some v.shape | Memory ↦ None ]) (sym held.kind_is) ∙ g)) held.held

module _ (defs : List Def) (below : Below) (l : Layer) (low : List Declared) (meets : MeetsAll (functions_of defs) (with_definitions defs []))
    (is : IsBelow below low) (vs : LayerVariables l) where
  abbrev functions : Functions
  functions = functions_of defs

  abbrev whole : Scope
  whole = layer_scope (with_definitions defs []) below l

  abbrev L : ClosedLayer
  L = record { functions = functions; layer = l; low = low }

  abbrev own : List Declared
  own = l.state ++ l.memory

  looked : (name : List ℕ) → seen_variable Relation (look_up name (variables_of l)) ≡ seen_variable Relation (look_up name (entries State own))
  looked name = ap (λ vs. seen_variable Relation (look_up name vs)) vs.is ∙ seen_alike l.state l.memory name

  known : (names : Env) → env_fits own names ≡ true → (name : List ℕ) → has name names ≡ has name (variables_of l)
  known names fit name =
      has_in State own names fit name ∙ sym (seen_some (look_up name (entries State own))) ∙ ap is_some (sym (looked name))
      ∙ seen_some (look_up name (variables_of l))

  held : (names : Env) → env_fits own names ≡ true → (name : List ℕ) (k : Local) (o : Option Variable) → look_up name (entries State own) ≡ o →
      seen_variable Relation o ≡ Some k → IsHeld name k.shape names
  held names fit name k None i h = absurd (cc)
  held names fit name k (Some v) i h =
      subst (λ s. IsHeld name s names) (ap (λ (x : Local). x.shape) (local_is (record { shape = v.shape; assignable = true }) k h))
      (held_in State own names (all_typed l.state l.memory vs.state vs.memory) fit name v i).held
    where
      local_is : (a b : Local) → Some a ≡ Some b → a ≡ b
      local_is a b h = cc

  relation_agrees : (names behind : Env) → env_fits own names ≡ true → env_fits low behind ≡ true →
      Agrees functions (seen_as Relation whole) (record { own = names; low = behind })
  relation_agrees names behind fit low_fit = record {
    names = λ name k h. held names fit name k (look_up name (entries State own)) refl (sym (looked name) ∙ h);
    taken = λ name h. ap (λ b. b || false) (sym (known names fit name) ∙ h);
    low = low_held below low behind is low_fit;
    defs = meets;
    lower = is.shaped;
  }

  unseen : (o : Option Variable) (k : Local) → seen_variable Settled o ≡ Some k → ⊥
  unseen None k h = cc
  unseen (Some v) k h = cc

  no_names : (names : Env) → env_fits [] names ≡ true → names ≡ []
  no_names [] h = refl
  no_names (b ∷ names) h = absurd (cc)

  nothing_has : (name : List ℕ) → has {V = Value} name [] ≡ true → (has name (variables_of l) || false) ≡ true
  nothing_has name h = absurd (cc)

  settled_agrees : (names behind : Env) → env_fits [] names ≡ true → env_fits low behind ≡ true →
      Agrees functions (seen_as Settled whole) (record { own = names; low = behind })
  settled_agrees names behind fit low_fit =
      subst (λ own. Agrees functions (seen_as Settled whole) (record { own = own; low = behind })) (sym (no_names names fit)) (record {
        names = λ name k h. absurd (unseen (look_up name (variables_of l)) k h);
        taken = nothing_has;
        low = low_held below low behind is low_fit;
        defs = meets;
        lower = is.shaped;
      })

  -- a formula of a view over names of these shapes
  formula_typed : (view : Visibility) (seen : List Declared) → AllTyped seen →
      ((names behind : Env) → env_fits seen names ≡ true → env_fits low behind ≡ true →
      Agrees functions (seen_as view whole) (record { own = names; low = behind })) →
      (weights : Weights) (e : Expr) → none (formula_errors view e weights whole) ≡ true → FormulaTyped defs L seen low e
  formula_typed view seen typed agrees weights e h =
      let scope = seen_as view whole in
      let expected = first_of (none (expected_errors e (Some (Word 1)) scope))
      (none (unless (weight_fits (expr_weight weights e)) reason.TooLong (typing e scope).part.place)) h in
      let own_errors = none (typing e scope).type_errors in
      let wanted_errors = none (wanted (typing e scope).part (Some (Word 1))) in
      let fine = first_of own_errors wanted_errors expected in
      let zeros : meaning.Scope = record { own = zeros_of seen; low = zeros_of low } in
      let has = (sound functions e).gives scope zeros (agrees (zeros_of seen) (zeros_of low) (zeros_fit seen typed) (zeros_fit low is.typed)) fine in
      record {
        scope = scope;
        defs_is = refl;
        without_errors = fine;
        digit = has.is ∙ ap (λ s. Some s) (wanted_has (typing e scope).part (value_with functions e zeros) (Word 1) has
            (second_of own_errors wanted_errors expected));
        agrees = agrees;
      }

  formulas_typed : (view : Visibility) (seen : List Declared) → AllTyped seen →
      ((names behind : Env) → env_fits seen names ≡ true → env_fits low behind ≡ true →
      Agrees functions (seen_as view whole) (record { own = names; low = behind })) →
      (weights : Weights) (es : List Expr) → none (formulas_errors view es weights whole) ≡ true → All (FormulaTyped defs L seen low) es
  formulas_typed view seen typed agrees weights [] h = All-nil (FormulaTyped defs L seen low)
  formulas_typed view seen typed agrees weights (e ∷ es) h =
      let here = none (formula_errors view e weights whole) in
      let others = none (formulas_errors view es weights whole) in
      All-cons (FormulaTyped defs L seen low) e es (formula_typed view seen typed agrees weights e (first_of here others h))
      (formulas_typed view seen typed agrees weights es (second_of here others h))

  -- the formulas of a layer
  pub record LayerFormulas : Type 0 where
    pub relations_typed : All (FormulaTyped defs L own low) (relations L)
    pub settled_typed : All (FormulaTyped defs L [] low) l.settled

  pub layer_formulas : (weights : Weights) → none (relations_errors l weights whole) ≡ true → LayerFormulas
  layer_formulas weights h =
      let relate = none (formula_errors Relation l.relate weights whole) in
      let always = none (formulas_errors Relation l.always weights whole) in
      let settled = none (formulas_errors Settled l.settled weights whole) in
      let maybe = none (formulas_errors Relation l.maybe weights whole) in
      let a = second_of relate (always && (settled && maybe)) h in
      let typed = all_typed l.state l.memory vs.state vs.memory in
      record {
        relations_typed = All-cons (FormulaTyped defs L own low) l.relate l.always
            (formula_typed Relation own typed relation_agrees weights l.relate (first_of relate (always && (settled && maybe)) h))
            (formulas_typed Relation own typed relation_agrees weights l.always (first_of always (settled && maybe) a));
        settled_typed = formulas_typed Settled [] tt settled_agrees weights l.settled (first_of settled maybe (second_of always (settled && maybe) a));
      }
