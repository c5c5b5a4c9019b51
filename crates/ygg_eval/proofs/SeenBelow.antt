-- What formulas see of the machine below a layer, and of the layer's variables.
use Rattle.std.proofs.Common.{
  ◌≡◌,
  ℕ,
  Bool,
  true,
  false,
  ◌&&◌,
  ◌||◌,
  not,
  cond,
  List,
  [],
  ◌∷◌,
  ◌++◌,
  Option,
  Some,
  None,
  is_some,
  codes,
  refl,
  sym,
  ap,
  ◌∙◌,
  subst,
}
use Rattle.std.specs.Str.{bytes_eq}
use Rattle.ygg_base.specs.declared.reason.Reason.TheVariants as reason
use Rattle.ygg_base.specs.declared.geometry.DiskKind.{DiskKind}
use Rattle.ygg_base.specs.declared.geometry.DiskKind.TheVariants.{Sync, Async}
use Rattle.ygg_value.specs.declared.row.Value.{Value}
use Rattle.ygg_syntax.specs.declared.tree.DiskText.{DiskText}
use Rattle.ygg_syntax.specs.declared.tree.Declared.{Declared}
use Rattle.ygg_syntax.specs.declared.tree.Block.{Block}
use Rattle.ygg_syntax.specs.declared.tree.Operation.{Operation}
use Rattle.ygg_syntax.specs.declared.tree.Layer.{Layer}
use Rattle.ygg_value.specs.declared.shape.Shape.{Shape}
use Rattle.ygg_eval_expr.specs.ygg_syntax.Weights.{Weights}
use Rattle.ygg_eval_expr.specs.ygg_type_rules.Names.{Named, look_up, has}
use Rattle.ygg_eval_expr.specs.ygg_type_rules.declared.scope.Owner.{Owner}
use Rattle.ygg_eval_expr.specs.ygg_type_rules.declared.scope.Owner.TheVariants.{State, Memory}
use Rattle.ygg_eval_expr.specs.ygg_type_rules.declared.scope.Visibility.TheVariants.{Relation, Settled}
use Rattle.ygg_eval_expr.specs.ygg_type_rules.declared.scope.Variable.{Variable}
use Rattle.ygg_eval_expr.specs.ygg_type_rules.declared.scope.Local.{Local}
use Rattle.ygg_eval_expr.specs.ygg_type_rules.declared.scope.Signature.{Signature}
use Rattle.ygg_eval_expr.specs.ygg_type_rules.TypeErrors.{none, unless}
use Rattle.ygg_eval_expr.specs.ygg_type_rules.Shapes.{shape_of}
use Rattle.ygg_eval_expr.specs.ygg_type_rules.Scopes.{Scope, seen_variable, state_shape, seen_as}
use Rattle.ygg_eval_expr.specs.ygg_type_rules.Definitions.{answer_type_errors, parameters_errors, with_parameters}
use Rattle.ygg_eval_expr.specs.ygg_type_rules.Layers.{
  Below,
  variables_of,
  below_of,
  layer_scope,
  operation_signature,
  with_operation,
  with_operations,
  picks_errors,
  operation_blocks_errors,
  operation_errors,
  operations_errors,
}
use Rattle.ygg_eval_expr.specs.ygg_type_rules.Files.{disk_errors, disk_table, disk_below}
use Rattle.ygg_eval_expr.specs.ygg_meaning.Environments.{Env}
use Rattle.ygg_eval_expr.specs.ygg_meaning.Meaning.{Functions}
use Rattle.ygg_eval_expr.specs.ygg_meaning.Shapes.{env_fits}
use Rattle.ygg_eval.specs.ygg_meaning.Stack.{tables_of_kind, tables_of}
use Rattle.ygg_eval_expr.specs.ygg_meaning_laws.Fitting.{IsShaped, IsHeld}
use Rattle.ygg_eval_expr.specs.ygg_meaning_laws.Agrees.{Agrees}
use Rattle.ygg_eval_expr.specs.ygg_meaning_laws_proofs_Tests.{left, right}
use Rattle.ygg_eval_expr.specs.ygg_meaning_laws_proofs_Names.{or_else, look_up_append, new_found, absent}
use Rattle.ygg_eval_expr.specs.ygg_meaning_laws_proofs_Steps.{held_more}
use Rattle.ygg_eval_expr.specs.ygg_meaning_laws_proofs_Definitions.{MeetsAll}
use Rattle.ygg_eval.proofs.of_ygg_meaning_laws.Views.{entries, AllTyped, held_in, has_in, LayerVariables, LowerShaped}
use Rattle.ygg_eval.specs.ygg_meaning_laws_proofs_Operations.{answer_shaped}
use Rattle.ygg_eval.specs.ygg_meaning_laws_proofs_Files.{on_disk}

-- each operation of a layer that gives an answer gives one of some shape
shaped_more : (o : Operation) (known : Named Signature) → LowerShaped known → none (answer_type_errors o.answer) ≡ true → LowerShaped (with_operation o known)
shaped_more o known shaped without_errors name s h answers = cases (has o.name.text known) h
  where
    sig : Signature
    sig = operation_signature o

    found : (b : Bool) → cond b (Some sig) None ≡ Some s → IsShaped s.answer
    found true e = let is : sig ≡ s = cc in subst (λ (x : Signature). x.answers ≡ true → IsShaped x.answer) is (answer_shaped o.answer without_errors) answers
    found false e = absurd (cc)

    behind : (p : Option Signature) → look_up name known ≡ p → or_else p (cond (bytes_eq o.name.text name) (Some sig) None) ≡ Some s → IsShaped s.answer
    behind (Some q) e g = shaped name s (e ∙ g) answers
    behind None e g = found (bytes_eq o.name.text name) g

    cases : (b : Bool) → look_up name (cond b known (known ++ (o.name.text, sig) ∷ [])) ≡ Some s → IsShaped s.answer
    cases true e = shaped name s e answers
    cases false e = behind (look_up name known) refl (sym (look_up_append name known ((o.name.text, sig) ∷ [])) ∙ e)

shaped_all : (os : List Operation) (crash : Block) (known : Named Signature) (weights : Weights) (scope : Scope) →
    none (operations_errors os crash known weights scope) ≡ true → LowerShaped known → LowerShaped (with_operations os known)
shaped_all [] crash known weights scope f shaped = shaped
shaped_all (o ∷ os) crash known weights scope f shaped =
    let here = none (operation_errors o crash known weights scope) in
    let others = none (operations_errors os crash (with_operation o known) weights scope) in
    let name = none (unless (not (has o.name.text known)) reason.Twice o.name.place) in
    let picks = none (picks_errors o crash) in
    let arguments = none (parameters_errors o.arguments scope) in
    let answer = none (answer_type_errors o.answer) in
    let blocks = none (operation_blocks_errors o weights (with_parameters o.arguments scope)) in
    let a = right name (picks && (arguments && (answer && blocks))) (left here others f) in
    let b = right picks (arguments && (answer && blocks)) a in
    let without_errors = left answer blocks (right arguments (answer && blocks) b) in
    shaped_all os crash (with_operation o known) weights scope (right here others f) (shaped_more o known shaped without_errors)

-- a machine below that has these state variables
pub record IsBelow (below : Below) (low : List Declared) : Type 0 where
  pub memory : List Declared
  pub variables : below.variables ≡ entries State low ++ entries Memory memory
  pub typed : AllTyped low
  pub shaped : LowerShaped below.operations

disk_shows : (d : DiskText) (kind : DiskKind) → elim kind
    [ Sync ↦ (codes "view", disk_table d) ∷ [] | Async ↦ (codes "view", disk_table d) ∷ (codes "stable", disk_table d) ∷ [] ] ≡ entries State
    (tables_of_kind kind d) ++ entries Memory []
disk_shows d Sync = refl
disk_shows d Async = refl

disk_typed : (d : DiskText) (kind : DiskKind) → none (disk_errors d) ≡ true → AllTyped (tables_of_kind kind d)
disk_typed d Sync h = (h, tt)
disk_typed d Async h = (h, (h, tt))

pub disk_is_below : (functions : Functions) (defs : Named Signature) (weights : Weights) (d : DiskText) → MeetsAll functions defs →
    none (disk_errors d) ≡ true → IsBelow (disk_below d) (tables_of d)
disk_is_below functions defs weights d meets h = record {
  memory = [];
  variables = disk_shows d d.kind;
  typed = disk_typed d d.kind h;
  shaped = (on_disk functions defs weights d meets h).shaped;
}

pub layer_is_below : (l : Layer) (weights : Weights) (scope : Scope) → LayerVariables l →
    none (operations_errors l.operations l.crash [] weights scope) ≡ true → IsBelow (below_of l) l.state
layer_is_below l weights scope vs h = record {
  memory = l.memory;
  variables = vs.is;
  typed = vs.state;
  shaped = shaped_all l.operations l.crash [] weights scope h (λ name o e a. absurd (cc));
}

-- each entry has the kind
kind_in : (kind : Owner) (ps : List Declared) (name : List ℕ) (v : Variable) → look_up name (entries kind ps) ≡ Some v → v.kind ≡ kind
kind_in kind [] name v h = absurd (cc)
kind_in kind (p ∷ ps) name v h = cases (bytes_eq p.name.text name) (kind_in kind ps name v) h
  where
    here : Variable
    here = record { kind = kind; shape = shape_of p.shape }

    cases : (c : Bool) → (look_up name (entries kind ps) ≡ Some v → v.kind ≡ kind) → cond c (Some here) (look_up name (entries kind ps)) ≡ Some v →
        v.kind ≡ kind
    cases true again h = let is : here ≡ v = cc in ap (λ (x : Variable). x.kind) (sym is)
    cases false again h = again h

-- a state variable below has its shape
state_is : (v : Variable) (known : Option Shape) → v.kind ≡ State → state_shape (Some v) ≡ Some known → v.shape ≡ known
state_is v known k h = some_is (ap (λ kind. elim kind [ State ↦ Some v.shape | Memory ↦ None ]) (sym k) ∙ h)
  where
    some_is : Some v.shape ≡ Some known → v.shape ≡ known
    some_is h = cc

memory_hidden : (v : Variable) (known : Option Shape) → v.kind ≡ Memory → state_shape (Some v) ≡ Some known → ⊥
memory_hidden v known k h = hidden (ap (λ kind. elim kind [ State ↦ Some v.shape | Memory ↦ None ]) (sym k) ∙ h)
  where
    hidden : None ≡ Some known → ⊥
    hidden h = cc

low_held : (below : Below) (low : List Declared) (env : Env) → IsBelow below low → env_fits low env ≡ true → (name : List ℕ) (known : Option Shape) →
    state_shape (look_up name below.variables) ≡ Some known → IsHeld name known env
low_held below low env is fit name known h =
    cases (look_up name (entries State low)) (look_up name (entries Memory is.memory)) refl refl
    (sym (ap state_shape (ap (look_up name) is.variables ∙ look_up_append name (entries State low) (entries Memory is.memory))) ∙ h)
  where
    cases : (o p : Option Variable) → look_up name (entries State low) ≡ o → look_up name (entries Memory is.memory) ≡ p →
        state_shape (or_else o p) ≡ Some known → IsHeld name known env
    cases (Some v) p i j g = let held = held_in State low env is.typed fit name v i in
        subst (λ s. IsHeld name s env) (state_is v known held.kind_is g) held.held
    cases None (Some v) i j g = absurd (memory_hidden v known (kind_in Memory is.memory name v j) g)
    cases None None i j g = absurd (cc)

-- names of either list
some_either : {V : Type 0} (o p : Option V) → is_some (or_else o p) ≡ (is_some o || is_some p)
some_either (Some v) p = refl
some_either None p = refl

local_is : (v : Variable) (k : Local) → Some (record { shape = v.shape; assignable = true }) ≡ Some k → v.shape ≡ k.shape
local_is v k h = ap (λ (x : Local). x.shape) (same (record { shape = v.shape; assignable = true }) h)
  where
    same : (a : Local) → Some a ≡ Some k → a ≡ k
    same a h = cc

-- the shapes of a layer's variables, and what stands below it
module _ (functions : Functions) (defs : Named Signature) (below : Below) (l : Layer) (low : List Declared) (meets : MeetsAll functions defs)
    (is : IsBelow below low) (vs : LayerVariables l)
    (state memory lower : Env) (state_fits : env_fits l.state state ≡ true) (memory_fits : env_fits l.memory memory ≡ true)
    (low_fits : env_fits low lower ≡ true) where
  looked : (name : List ℕ) → look_up name (variables_of l) ≡ or_else (look_up name (entries State l.state)) (look_up name (entries Memory l.memory))
  looked name = ap (look_up name) vs.is ∙ look_up_append name (entries State l.state) (entries Memory l.memory)

  known : (name : List ℕ) → has name (state ++ memory) ≡ has name (variables_of l)
  known name =
      ap is_some (look_up_append name state memory) ∙ some_either (look_up name state) (look_up name memory)
      ∙ ap (λ b. b || has name memory) (has_in State l.state state state_fits name)
      ∙ ap (λ b. has name (entries State l.state) || b) (has_in Memory l.memory memory memory_fits name)
      ∙ sym (some_either (look_up name (entries State l.state)) (look_up name (entries Memory l.memory))) ∙ ap is_some (sym (looked name))

  taken : (name : List ℕ) → has name (state ++ memory) ≡ true → (has name (variables_of l) || false) ≡ true
  taken name h = ap (λ b. b || false) (sym (known name) ∙ h)

  seen : (name : List ℕ) (k : Local) (o p : Option Variable) → look_up name (entries State l.state) ≡ o → look_up name (entries Memory l.memory) ≡ p →
      seen_variable Relation (or_else o p) ≡ Some k → IsHeld name k.shape (state ++ memory)
  seen name k (Some v) p i j h =
      let held = held_in State l.state state vs.state state_fits name v i in
      subst (λ s. IsHeld name s (state ++ memory)) (local_is v k h) (held_more name v.shape state memory held.held)
  seen name k None (Some v) i j h =
      let held = held_in Memory l.memory memory vs.memory memory_fits name v j in
      let before : look_up name state ≡ None = absent (look_up name state) (has_in State l.state state state_fits name ∙ ap is_some i) in
      subst (λ s. IsHeld name s (state ++ memory)) (local_is v k h)
      (record { value = held.held.value; found = new_found name state memory before ∙ held.held.found; has = held.held.has })
  seen name k None None i j h = absurd (cc)

  -- the expressions of `relate`, `always` and `maybe`
  pub relation_agrees : Agrees functions (seen_as Relation (layer_scope defs below l)) (record { own = state ++ memory; low = lower })
  relation_agrees = record {
    names = λ name k h. seen name k (look_up name (entries State l.state)) (look_up name (entries Memory l.memory)) refl refl
        (sym (ap (seen_variable Relation) (looked name)) ∙ h);
    taken = taken;
    low = low_held below low lower is low_fits;
    defs = meets;
    lower = is.shaped;
  }

-- the expressions of `settled`, which see what stands below alone
module _ (functions : Functions) (defs : Named Signature) (below : Below) (l : Layer) (low : List Declared) (meets : MeetsAll functions defs)
    (is : IsBelow below low) (lower : Env) (low_fits : env_fits low lower ≡ true) where
  unseen : (o : Option Variable) (k : Local) → seen_variable Settled o ≡ Some k → ⊥
  unseen None k h = cc
  unseen (Some v) k h = cc

  untaken : (name : List ℕ) → has {V = Value} name [] ≡ true → (has name (variables_of l) || false) ≡ true
  untaken name h = absurd (cc)

  pub settled_agrees : Agrees functions (seen_as Settled (layer_scope defs below l)) (record { own = []; low = lower })
  settled_agrees = record {
    names = λ name k h. absurd (unseen (look_up name (variables_of l)) k h);
    taken = untaken;
    low = low_held below low lower is low_fits;
    defs = meets;
    lower = is.shaped;
  }
