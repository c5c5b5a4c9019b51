-- A scope and values that go together still do with one more name.
use Rattle.std.proofs.Common.{◌≡◌, ℕ, ◌<◌, ◌^◌, Bool, true, false, cond, List, [], ◌∷◌, ◌++◌, Option, Some, None, is_some, refl, sym, ap, ◌∙◌, subst}
use Rattle.std.specs.Prelude.{◌||◌}
use Rattle.std.specs.Str.{bytes_eq}
use Rattle.std.proofs.lemmas.Bool.{or_parts}
use Rattle.ygg_meaning.specs.Name.{Name}
use Rattle.ygg_meaning.specs.Numeral.{Numeral}
use Rattle.ygg_value.specs.Words.{word}
use Rattle.ygg_value.specs.declared.row.Value.{Value}
use Rattle.ygg_value.specs.declared.row.Value.TheVariants as value
use Rattle.ygg_value.specs.declared.shape.Shape.{Shape}
use Rattle.ygg_value.specs.declared.shape.Shape.TheVariants as shape
use Rattle.ygg_type_rules.specs.Names.{Named, look_up, has, added}
use Rattle.ygg_type_rules.specs.declared.scope.Local.{Local}
use Rattle.ygg_type_rules.specs.Limits.{width_fits}
use Rattle.ygg_type_rules.specs.Shapes.{word_shape}
use Rattle.ygg_type_rules.specs.Scopes.{Scope, name_in, is_taken, with_local, seen_variable}
use Rattle.ygg_type_rules.specs.Expressions.{with_number}
use Rattle.ygg_meaning.specs.Environments.{Env}
use Rattle.ygg_meaning.specs.Meaning.{Functions}
use Rattle.ygg_meaning.specs.Meaning as meaning
use Rattle.ygg_meaning_laws.specs.Fitting.{IsHeld, HasShape}
use Rattle.ygg_meaning_laws.specs.Agrees.{Agrees}
use Rattle.ygg_meaning_laws.proofs.Tests.{bytes_same, bytes_equal, width_within}
use Rattle.ygg_meaning_laws.proofs.Names.{or_else, look_up_append, still_found, absent, added_new}

-- with one more local name at the end
abbrev pub grown : List ℕ → Local → Scope → Scope
grown x l scope = record scope { locals = scope.locals ++ (x, l) ∷ [] }

-- values with one more
abbrev pub holding : List ℕ → Value → meaning.Scope → meaning.Scope
holding x v env = record env { own = env.own ++ (x, v) ∷ [] }

-- a name that isn't taken is added at the end
pub local_new : (x : List ℕ) (known : Option Shape) (assignable : Bool) (scope : Scope) → is_taken x scope ≡ false
    → with_local x known assignable scope ≡ grown x (record { shape = known; assignable = assignable }) scope
local_new x known assignable scope free =
    let l : Local = record { shape = known; assignable = assignable } in
    let parts = or_parts (has x scope.variables) (has x scope.locals) free in
    ap (λ b. cond b scope (record scope { locals = added x l scope.locals })) parts.0
    ∙ ap (λ (ls : Named Local). record scope { locals = ls }) (added_new x l scope.locals parts.1)

-- a name that is held is still held with others behind it
pub held_more : (name : List ℕ) (known : Option Shape) (env more : Env) → IsHeld name known env → IsHeld name known (env ++ more)
held_more name known env more h = record { value = h.value; found = still_found name env more h.value h.found; has = h.has }

-- a name that isn't taken has no value
pub free_absent : (functions : Functions) (scope : Scope) (env : meaning.Scope) (x : List ℕ) → Agrees functions scope env → is_taken x scope ≡ false →
    look_up x env.own ≡ None
free_absent functions scope env x agrees free = absent (look_up x env.own) (cases (has x env.own) refl)
  where
    cases : (b : Bool) → has x env.own ≡ b → b ≡ false
    cases true h = let t = agrees.taken x h in absurd (cc)
    cases false h = refl

-- a plain name means a local name, or else a variable that is seen
name_is : (name : List ℕ) (scope : Scope) → name_in name scope ≡ or_else (look_up name scope.locals) (seen_variable scope.view (look_up name scope.variables))
name_is name scope = cases (look_up name scope.locals)
  where
    cases : (o : Option Local) → elim o [ Some l ↦ Some l | None ↦ seen_variable scope.view (look_up name scope.variables) ] ≡ or_else o
        (seen_variable scope.view (look_up name scope.variables))
    cases (Some l) = refl
    cases None = refl

-- what a plain name means with one more local name
pub name_more : (name x : List ℕ) (l : Local) (scope : Scope) → is_taken x scope ≡ false →
    name_in name (grown x l scope) ≡ cond (bytes_eq x name) (Some l) (name_in name scope)
name_more name x l scope free = name_is name (grown x l scope) ∙ cases (bytes_eq x name) refl ∙ ap (cond (bytes_eq x name) (Some l)) (sym (name_is name scope))
  where
    seen : Option Local
    seen = seen_variable scope.view (look_up name scope.variables)

    looked : look_up name (scope.locals ++ (x, l) ∷ []) ≡ or_else (look_up name scope.locals) (cond (bytes_eq x name) (Some l) None)
    looked = look_up_append name scope.locals ((x, l) ∷ [])

    other : (o : Option Local) → or_else (or_else o None) seen ≡ or_else o seen
    other None = refl
    other (Some m) = refl

    cases : (b : Bool) → bytes_eq x name ≡ b → or_else (look_up name (scope.locals ++ (x, l) ∷ [])) seen ≡ cond b (Some l)
        (or_else (look_up name scope.locals) seen)
    cases true e =
        let missing : look_up x scope.locals ≡ None = absent (look_up x scope.locals) (or_parts (has x scope.variables) (has x scope.locals) free).1 in
        let here : look_up name scope.locals ≡ None = subst (λ n. look_up n scope.locals ≡ None) (bytes_same x name e) missing in
        ap (λ o. or_else o seen) (looked ∙ ap (λ o. or_else o (cond (bytes_eq x name) (Some l) None)) here ∙ ap (λ b. cond b (Some l) None) e)
    cases false e = ap (λ o. or_else o seen) (looked ∙ ap (λ b. or_else (look_up name scope.locals) (cond b (Some l) None)) e)
        ∙ other (look_up name scope.locals)

-- what is taken with one more local name
pub taken_more : (name x : List ℕ) (l : Local) (scope : Scope) → is_taken name scope ≡ true → is_taken name (grown x l scope) ≡ true
taken_more name x l scope h = cases (has name scope.variables) (look_up name scope.locals) (look_up_append name scope.locals ((x, l) ∷ [])) h
  where
    cases : (b : Bool) (o : Option Local) → look_up name (scope.locals ++ (x, l) ∷ []) ≡ or_else o (cond (bytes_eq x name) (Some l) None) →
        (b || is_some o) ≡ true
        → (b || is_some (look_up name (scope.locals ++ (x, l) ∷ []))) ≡ true
    cases true o e h = refl
    cases false None e h = absurd (cc)
    cases false (Some m) e h = ap is_some e

-- the new local name is taken
pub taken_new : (x : List ℕ) (l : Local) (scope : Scope) → is_taken x (grown x l scope) ≡ true
taken_new x l scope = cases (has x scope.variables) (look_up x scope.locals)
    (look_up_append x scope.locals ((x, l) ∷ []) ∙ ap (λ b. or_else (look_up x scope.locals) (cond b (Some l) None)) (bytes_equal x))
  where
    cases : (b : Bool) (o : Option Local) → look_up x (scope.locals ++ (x, l) ∷ []) ≡ or_else o (Some l) →
        (b || is_some (look_up x (scope.locals ++ (x, l) ∷ []))) ≡ true
    cases true o e = refl
    cases false None e = ap is_some e
    cases false (Some m) e = ap is_some e

-- one more local name whose name isn't taken, with a value of its shape
pub agrees_grown : (functions : Functions) (scope : Scope) (env : meaning.Scope) (x : List ℕ) (l : Local) (v : Value) → Agrees functions scope env →
    is_taken x scope ≡ false → HasShape l.shape v
    → Agrees functions (grown x l scope) (holding x v env)
agrees_grown functions scope env x l v agrees free has = record {
  names = λ name m h. named name m (bytes_eq x name) refl (sym (name_more name x l scope free) ∙ h);
  taken = λ name h. taken name (bytes_eq x name) refl h;
  low = agrees.low;
  defs = agrees.defs;
  lower = agrees.lower;
}
  where
    looked : (name : List ℕ) → look_up name (env.own ++ (x, v) ∷ []) ≡ or_else (look_up name env.own) (cond (bytes_eq x name) (Some v) None)
    looked name = look_up_append name env.own ((x, v) ∷ [])

    named : (name : List ℕ) (m : Local) (b : Bool) → bytes_eq x name ≡ b → cond b (Some l) (name_in name scope) ≡ Some m →
        IsHeld name m.shape (env.own ++ (x, v) ∷ [])
    named name m true e h =
        let missing : look_up name env.own ≡ None = subst (λ n. look_up n env.own ≡ None) (bytes_same x name e)
        (free_absent functions scope env x agrees free) in
        let same : l ≡ m = cc in
        record {
          value = v;
          found = looked name ∙ ap (λ o. or_else o (cond (bytes_eq x name) (Some v) None)) missing ∙ ap (λ b. cond b (Some v) None) e;
          has = subst (λ (k : Local). HasShape k.shape v) same has;
        }
    named name m false e h = held_more name m.shape env.own ((x, v) ∷ []) (agrees.names name m h)

    taken : (name : List ℕ) (b : Bool) → bytes_eq x name ≡ b → is_some (look_up name (env.own ++ (x, v) ∷ [])) ≡ true → is_taken name (grown x l scope) ≡ true
    taken name true e h = subst (λ n. is_taken n (grown x l scope) ≡ true) (bytes_same x name e) (taken_new x l scope)
    taken name false e h =
        let kept : look_up name (env.own ++ (x, v) ∷ []) ≡ or_else (look_up name env.own) None = looked name
        ∙ ap (λ b. or_else (look_up name env.own) (cond b (Some v) None)) e in
        taken_more name x l scope (agrees.taken name (other (look_up name env.own) (sym (ap is_some kept) ∙ h)))
      where
        other : (o : Option Value) → is_some (or_else o None) ≡ true → is_some o ≡ true
        other None h = h
        other (Some w) h = refl

-- the same, as typing writes it: `let`, a parameter or an argument
pub agrees_with_local : (functions : Functions) (scope : Scope) (env : meaning.Scope) (x : List ℕ) (known : Option Shape) (assignable : Bool)
    (v : Value) → Agrees functions scope env → is_taken x scope ≡ false
    → HasShape known v → Agrees functions (with_local x known assignable scope) (holding x v env)
agrees_with_local functions scope env x known assignable v agrees free has =
    subst (λ s. Agrees functions s (holding x v env)) (sym (local_new x known assignable scope free))
    (agrees_grown functions scope env x (record { shape = known; assignable = assignable }) v agrees free has)

-- a number below 2 ^ width has the shape of a word of that width
pub number_has : (w i : ℕ) → width_fits w ≡ true → i < 2 ^ w → HasShape (word_shape w) (value.Word (word w i))
number_has w i h k =
    let within = width_within w h in
    record { is = ap (λ b. cond b (Some (shape.Word w)) None) h; limits = record { least = within.0; most = within.1; fits = k } }

-- the number of a loop or a quantifier
pub agrees_with_number : (functions : Functions) (scope : Scope) (env : meaning.Scope) (x : Name) (w : Numeral) (i : ℕ) → Agrees functions scope env →
    is_taken x.text scope ≡ false → width_fits w.value ≡ true → i < 2 ^ w.value
    → Agrees functions (with_number x w scope) (meaning.with_number env x.text w.value i)
agrees_with_number functions scope env x w i agrees free fits below =
    agrees_with_local functions scope env x.text (word_shape w.value) false (value.Word (word w.value i)) agrees free (number_has w.value i fits below)
