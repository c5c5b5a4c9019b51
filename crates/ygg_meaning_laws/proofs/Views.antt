-- What the blocks of a typed layer see.
use Rattle.std.proofs.Common.{
  ◌≡◌,
  Bool,
  true,
  false,
  ◌&&◌,
  ◌||◌,
  not,
  if◌then◌else◌,
  List,
  [],
  ◌∷◌,
  ◌++◌,
  map,
  Option,
  Some,
  None,
  is_some,
  refl,
  sym,
  ap,
  ◌∙◌,
  subst,
  append_assoc,
}
use Rattle.std.proofs.lemmas.Bool.{and_from as both_of}
use Rattle.std.proofs.lemmas.List.{append-nil}
use Rattle.std.specs.Str.{bytes_eq}
use Rattle.ygg_base.specs.declared.reason.Reason.TheVariants as reason
use Rattle.ygg_value.specs.Shapes.{zero_of}
use Rattle.ygg_value.proofs.Limits.{shape_of-zero_of, zero_of-IsValue}
use Rattle.ygg_value.specs.declared.row.Value.{Value}
use Rattle.ygg_syntax.specs.declared.tree.Declared.{Declared}
use Rattle.ygg_syntax.specs.declared.tree.Layer.{Layer}
use Rattle.ygg_meaning_laws.specs.ygg_type_rules.Names.{Named, look_up, has, added}
use Rattle.ygg_meaning_laws.specs.Owner.{Owner}
use Rattle.ygg_meaning_laws.specs.Owner.TheVariants.{State, Memory}
use Rattle.ygg_meaning_laws.specs.Visibility.{Visibility}
use Rattle.ygg_meaning_laws.specs.Visibility.TheVariants.{Specification, Implementation}
use Rattle.ygg_meaning_laws.specs.Variable.{Variable}
use Rattle.ygg_meaning_laws.specs.Local.{Local}
use Rattle.ygg_meaning_laws.specs.Signature.{Signature}
use Rattle.ygg_meaning_laws.specs.TypeErrors.{none, both, unless}
use Rattle.ygg_meaning_laws.specs.Shapes.{shape_of}
use Rattle.ygg_meaning_laws.specs.Scopes.{Scope, sees, seen_variable, is_taken, seen_as}
use Rattle.ygg_meaning_laws.specs.Definitions.{type_text_errors, with_parameter, with_parameters, parameters_errors}
use Rattle.ygg_meaning_laws.specs.Layers.{Below, with_variable, with_variables, variables_errors, variables_of, layer_scope, declared_errors}
use Rattle.ygg_meaning.specs.Environments.{Name, Env, bind}
use Rattle.ygg_meaning.specs.Meaning.{Functions}
use Rattle.ygg_meaning.specs.Shapes.{shape_in, fits, values_fit, env_fits, zeros_of}
use Rattle.ygg_meaning_laws.specs.Fitting.{IsShaped, HasShape, IsHeld}
use Rattle.ygg_meaning_laws.specs.Agrees.{Agrees}
use Rattle.ygg_meaning_laws.proofs.Tests.{left as first_of, right as second_of, passed, turned, bytes_same, bytes_equal}
use Rattle.ygg_meaning_laws.proofs.Fits.{fits_has, value_fits}
use Rattle.ygg_meaning_laws.proofs.Names.{or_else, look_up_append, added_new}
use Rattle.ygg_meaning_laws.proofs.Parameters.{type_is, agrees_with_parameters, same_fit}
use Rattle.ygg_meaning_laws.proofs.Definitions.{MeetsAll}
use Rattle.ygg_meaning_laws.specs.Questions.{plain}

-- declared variables as typing lists them
abbrev pub entries : Owner → List Declared → Named Variable
entries kind = map (λ (p : Declared). (p.name.text, record { kind = kind; shape = shape_of p.shape }))

-- each has a type without a type error
abbrev pub AllTyped : List Declared → Type 0
AllTyped [] = Unit {0}
AllTyped (p ∷ ps) = (none (type_text_errors p.shape) ≡ true) × AllTyped ps

-- variables without type errors are added at the end
pub record AreNew (kind : Owner) (ps : List Declared) (variables : Named Variable) : Type 0 where
  pub is : with_variables kind ps variables ≡ variables ++ entries kind ps
  pub typed : AllTyped ps

pub are_new : (kind : Owner) (ps : List Declared) (variables : Named Variable) → none (variables_errors kind ps variables) ≡ true → AreNew kind ps variables
are_new kind [] variables e = record { is = sym (append-nil variables); typed = tt }
are_new kind (p ∷ ps) variables e =
    let name = none (unless (not (has p.name.text variables)) reason.Twice p.name.place) in
    let type = none (type_text_errors p.shape) in
    let rest = none (variables_errors kind ps (with_variable kind p variables)) in
    let here = first_of (name && type) rest e in
    let free = turned (has p.name.text variables) (passed (not (has p.name.text variables)) reason.Twice p.name.place (first_of name type here)) in
    let one : with_variable kind p variables ≡ variables ++ entries kind (p ∷ []) =
    added_new p.name.text (record { kind = kind; shape = shape_of p.shape }) variables free in
    let again = are_new kind ps (with_variable kind p variables) (second_of (name && type) rest e) in
    record {
      is = again.is ∙ ap (λ vs. vs ++ entries kind ps) one ∙ append_assoc variables (entries kind (p ∷ [])) (entries kind ps);
      typed = (second_of name type here, again.typed);
    }

-- a variable of the kind, which has a value of its shape
pub record IsHeldAs (kind : Owner) (name : Name) (v : Variable) (env : Env) : Type 0 where
  pub kind_is : v.kind ≡ kind
  pub held : IsHeld name v.shape env

pub held_in : (kind : Owner) (ps : List Declared) (env : Env) → AllTyped ps → env_fits ps env ≡ true → (name : Name) (v : Variable) →
    look_up name (entries kind ps) ≡ Some v → IsHeldAs kind name v env
held_in kind [] env t e name v h = absurd (cc)
held_in kind (p ∷ ps) [] t e name v h = absurd (cc)
held_in kind (p ∷ ps) (b ∷ env) (type, t) e name v h =
    cases (bytes_eq p.name.text name) refl h (λ h. held_in kind ps env t
    (second_of (bytes_eq p.name.text b.0 && fits (shape_in p.shape) b.1) (env_fits ps env) e) name v h)
  where
    here : (bytes_eq p.name.text b.0 && fits (shape_in p.shape) b.1) ≡ true
    here = first_of (bytes_eq p.name.text b.0 && fits (shape_in p.shape) b.1) (env_fits ps env) e

    same : p.name.text ≡ b.0
    same = bytes_same p.name.text b.0 (first_of (bytes_eq p.name.text b.0) (fits (shape_in p.shape) b.1) here)

    has_shape : HasShape (shape_of p.shape) b.1
    has_shape =
        let is = type_is p.shape type in
        subst (λ o. HasShape o b.1) (sym is.is) (fits_has (shape_in p.shape) b.1 is.limits
        (second_of (bytes_eq p.name.text b.0) (fits (shape_in p.shape) b.1) here))

    cases : (c : Bool) → bytes_eq p.name.text name ≡ c →
        (if c then Some (record { kind = kind; shape = shape_of p.shape }) else look_up name (entries kind ps)) ≡ Some v →
        (look_up name (entries kind ps) ≡ Some v → IsHeldAs kind name v env)
        → IsHeldAs kind name v (b ∷ env)
    cases true i h again =
        let is : record { kind = kind; shape = shape_of p.shape } ≡ v = variable_is _ v h in
        subst (λ w. IsHeldAs kind name w (b ∷ env)) is (record {
          kind_is = refl;
          held = record { value = b.1; found = ap (λ c. if c then Some b.1 else look_up name env) (ap (λ n. bytes_eq n name) (sym same) ∙ i); has = has_shape };
        })
      where
        variable_is : (a b : Variable) → Some a ≡ Some b → a ≡ b
        variable_is a b h = cc
    cases false i h again =
        let g = again h in
        record {
          kind_is = g.kind_is;
          held = record {
            value = g.held.value;
            found = ap (λ c. if c then Some b.1 else look_up name env) (ap (λ n. bytes_eq n name) (sym same) ∙ i)
                ∙ g.held.found;
            has = g.held.has;
          };
        }

-- names with values are those that are declared
pub has_in : (kind : Owner) (ps : List Declared) (env : Env) → env_fits ps env ≡ true → (name : Name) → has name env ≡ has name (entries kind ps)
has_in kind [] [] e name = refl
has_in kind [] (b ∷ env) e name = absurd (cc)
has_in kind (p ∷ ps) [] e name = absurd (cc)
has_in kind (p ∷ ps) (b ∷ env) e name =
    let here = first_of (bytes_eq p.name.text b.0 && fits (shape_in p.shape) b.1) (env_fits ps env) e in
    let same = bytes_same p.name.text b.0 (first_of (bytes_eq p.name.text b.0) (fits (shape_in p.shape) b.1) here) in
    cases (bytes_eq b.0 name) (bytes_eq p.name.text name) (ap (λ n. bytes_eq n name) (sym same))
    (has_in kind ps env (second_of (bytes_eq p.name.text b.0 && fits (shape_in p.shape) b.1) (env_fits ps env) e) name)
  where
    cases : (c d : Bool) → c ≡ d → has name env ≡ has name (entries kind ps)
        → is_some (if c then Some b.1 else look_up name env) ≡ is_some
        (if d then Some (record { kind = kind; shape = shape_of p.shape }) else look_up name (entries kind ps))
    cases true true i h = refl
    cases false false i h = h
    cases true false i h = absurd (cc)
    cases false true i h = absurd (cc)

-- zeros have the declared shapes
pub zeros_fit : (ps : List Declared) → AllTyped ps → env_fits ps (zeros_of ps) ≡ true
zeros_fit [] t = refl
zeros_fit (p ∷ ps) (type, t) =
    let is = type_is p.shape type in
    let zero = zero_of (shape_in p.shape) in
    let fit = subst (λ s. fits s zero ≡ true) (shape_of-zero_of (shape_in p.shape)) (value_fits zero (zero_of-IsValue (shape_in p.shape) is.limits)) in
    both_of (bytes_eq p.name.text p.name.text && fits (shape_in p.shape) zero) _
    (both_of (bytes_eq p.name.text p.name.text) _ (bytes_equal p.name.text) fit) (zeros_fit ps t)

-- the variables of a layer without type errors
pub record LayerVariables (l : Layer) : Type 0 where
  pub is : variables_of l ≡ entries State l.state ++ entries Memory l.memory
  pub state : AllTyped l.state
  pub memory : AllTyped l.memory

pub layer_variables : (l : Layer) → none (declared_errors l) ≡ true → LayerVariables l
layer_variables l e =
    let first = none (variables_errors State l.state []) in
    let second = none (variables_errors Memory l.memory (with_variables State l.state [])) in
    let s = are_new State l.state [] (first_of first second e) in
    let m = are_new Memory l.memory (with_variables State l.state []) (second_of first second e) in
    record { is = m.is ∙ ap (λ vs. vs ++ entries Memory l.memory) s.is; state = s.typed; memory = m.typed }

-- where the operations of the machine below give answers of their shapes
abbrev pub LowerShaped : Named Signature → Type 0
LowerShaped lower = (name : Name) (o : Signature) → look_up name lower ≡ Some o → o.answers ≡ true → IsShaped o.answer

abbrev local_of : Variable → Local
local_of v = record { shape = v.shape; assignable = true }

local_is : (a b : Local) → Some a ≡ Some b → a ≡ b
local_is a b h = cc

-- a variable of a kind that is seen has its shape
seen_shape : (view : Visibility) (kind : Owner) (v : Variable) (k : Local) → v.kind ≡ kind → sees view kind ≡ true → seen_variable view (Some v) ≡ Some k →
    v.shape ≡ k.shape
seen_shape view kind v k i s h = ap (λ (x : Local). x.shape)
    (local_is (local_of v) k (subst (λ b. (if b then Some (local_of v) else None) ≡ Some k) (ap (sees view) i ∙ s) h))

-- a variable of a kind that isn't seen has no meaning
unseen : (view : Visibility) (kind : Owner) (v : Variable) (k : Local) → v.kind ≡ kind → sees view kind ≡ false → seen_variable view (Some v) ≡ Some k → ⊥
unseen view kind v k i s h = hidden (subst (λ b. (if b then Some (local_of v) else None) ≡ Some k) (ap (sees view) i ∙ s) h)
  where
    hidden : None ≡ Some k → ⊥
    hidden h = cc

-- each entry has the kind
kind_in : (kind : Owner) (ps : List Declared) (name : Name) (v : Variable) → look_up name (entries kind ps) ≡ Some v → v.kind ≡ kind
kind_in kind [] name v h = absurd (cc)
kind_in kind (p ∷ ps) name v h = cases (bytes_eq p.name.text name) h (λ h. kind_in kind ps name v h)
  where
    variable_is : (a b : Variable) → Some a ≡ Some b → a ≡ b
    variable_is a b h = cc

    cases : (c : Bool) → (if c then Some (record { kind = kind; shape = shape_of p.shape }) else look_up name (entries kind ps)) ≡ Some v →
        (look_up name (entries kind ps) ≡ Some v → v.kind ≡ kind) → v.kind ≡ kind
    cases true h again = ap (λ (x : Variable). x.kind) (sym (variable_is (record { kind = kind; shape = shape_of p.shape }) v h))
    cases false h again = again h

-- a name of either list is one of both
one_of_both : {V : Type 0} (o p : Option V) → (is_some o || is_some p) ≡ true → is_some (or_else o p) ≡ true
one_of_both (Some v) p h = refl
one_of_both None p h = h

module _ (functions : Functions) (defs : Named Signature) (below : Below) (l : Layer) (meets : MeetsAll functions defs)
    (shaped : LowerShaped below.operations) (vs : LayerVariables l) where
  abbrev whole : Scope
  whole = layer_scope defs below l

  abbrev state : Named Variable
  state = entries State l.state

  abbrev memory : Named Variable
  memory = entries Memory l.memory

  looked : (name : Name) → look_up name (variables_of l) ≡ or_else (look_up name state) (look_up name memory)
  looked name = ap (look_up name) vs.is ∙ look_up_append name state memory

  taken : (name : Name) → (has name state || has name memory) ≡ true → (has name (variables_of l) || false) ≡ true
  taken name h = ap (λ b. b || false) (ap is_some (looked name) ∙ one_of_both (look_up name state) (look_up name memory) h)

  -- a specification's blocks see the state variables
  pub state_agrees : (vars : Env) → env_fits l.state vars ≡ true → Agrees functions (seen_as Specification whole) (plain vars)
  state_agrees vars e = record {
    names = λ name k h. named name k (look_up name state) (look_up name memory) refl refl (sym (ap (seen_variable Specification) (looked name)) ∙ h);
    taken = λ name h. taken name (ap (λ b. b || has name memory) (sym (has_in State l.state vars e name) ∙ h));
    low = λ name known h. absurd (cc);
    defs = meets;
    lower = shaped;
  }
    where
      named : (name : Name) (k : Local) (o p : Option Variable) → look_up name state ≡ o → look_up name memory ≡ p →
          seen_variable Specification (or_else o p) ≡ Some k → IsHeld name k.shape vars
      named name k (Some v) p i j h =
          let g = held_in State l.state vars vs.state e name v i in subst (λ s. IsHeld name s vars) (seen_shape Specification State v k g.kind_is refl h) g.held
      named name k None (Some v) i j h = absurd (unseen Specification Memory v k (kind_in Memory l.memory name v j) refl h)
      named name k None None i j h = absurd (cc)

  -- an implementation's blocks see the memory variables
  pub memory_agrees : (vars : Env) → env_fits l.memory vars ≡ true → Agrees functions (seen_as Implementation whole) (plain vars)
  memory_agrees vars e = record {
    names = λ name k h. named name k (look_up name state) (look_up name memory) refl refl (sym (ap (seen_variable Implementation) (looked name)) ∙ h);
    taken = λ name h. taken name (behind (has name state) (has name memory) (sym (has_in Memory l.memory vars e name) ∙ h));
    low = λ name known h. absurd (cc);
    defs = meets;
    lower = shaped;
  }
    where
      behind : (a b : Bool) → b ≡ true → (a || b) ≡ true
      behind true b h = refl
      behind false b h = h

      named : (name : Name) (k : Local) (o p : Option Variable) → look_up name state ≡ o → look_up name memory ≡ p →
          seen_variable Implementation (or_else o p) ≡ Some k → IsHeld name k.shape vars
      named name k (Some v) p i j h = absurd (unseen Implementation State v k (kind_in State l.state name v i) refl h)
      named name k None (Some v) i j h =
          let g = held_in Memory l.memory vars vs.memory e name v j in
          subst (λ s. IsHeld name s vars) (seen_shape Implementation Memory v k g.kind_is refl h) g.held
      named name k None None i j h = absurd (cc)

-- another view changes nothing of what is declared
seen_local : (view : Visibility) (p : Declared) (scope : Scope) → with_parameter p (seen_as view scope) ≡ seen_as view (with_parameter p scope)
seen_local view p scope = cases (has p.name.text scope.variables)
  where
    l : Local
    l = record { shape = shape_of p.shape; assignable = false }

    cases : (b : Bool) → (if b then seen_as view scope else
        record (seen_as view scope) { locals = added p.name.text (record { shape = shape_of p.shape; assignable = false }) scope.locals })
        ≡ seen_as view (if b then scope else record scope { locals = added p.name.text (record { shape = shape_of p.shape; assignable = false }) scope.locals })
    cases true = refl
    cases false = refl

pub seen_parameters : (view : Visibility) (ps : List Declared) (scope : Scope) →
    with_parameters ps (seen_as view scope) ≡ seen_as view (with_parameters ps scope)
seen_parameters view [] scope = refl
seen_parameters view (p ∷ ps) scope = ap (with_parameters ps) (seen_local view p scope) ∙ seen_parameters view ps (with_parameter p scope)

pub seen_errors : (view : Visibility) (ps : List Declared) (scope : Scope) → parameters_errors ps (seen_as view scope) ≡ parameters_errors ps scope
seen_errors view [] scope = refl
seen_errors view (p ∷ ps) scope =
    ap (both (both (unless (not (is_taken p.name.text scope)) reason.Twice p.name.place) (type_text_errors p.shape)))
    (ap (parameters_errors ps) (seen_local view p scope) ∙ seen_errors view ps (with_parameter p scope))

-- with the arguments of an operation
pub agrees_with_arguments : (functions : Functions) (view : Visibility) (scope : Scope) (ps : List Declared) (vars : Env) (args : List Value) →
    Agrees functions (seen_as view scope) (plain vars)
    → none (parameters_errors ps scope) ≡ true → values_fit ps args ≡ true →
    Agrees functions (seen_as view (with_parameters ps scope)) (plain (vars ++ bind ps args))
agrees_with_arguments functions view scope ps vars args g e f =
    subst (λ s. Agrees functions s (plain (vars ++ bind ps args))) (seen_parameters view ps scope)
    (agrees_with_parameters functions ps args (seen_as view scope) (plain vars) g (ap none (seen_errors view ps scope) ∙ e) (same_fit ps args scope e ∙ f))
