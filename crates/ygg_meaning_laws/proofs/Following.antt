-- Names with values that keep their shapes.
use Rattle.std.proofs.Common.{
  ◌≡◌,
  suc,
  Bool,
  true,
  false,
  ◌&&◌,
  if◌then◌else◌,
  List,
  [],
  ◌∷◌,
  ◌++◌,
  length,
  take,
  Option,
  Some,
  is_some,
  refl,
  sym,
  ap,
  ◌∙◌,
  subst,
}
use Rattle.std.proofs.lemmas.Bool.{and_from as both_of}
use Rattle.std.specs.Str.{bytes_eq}
use Rattle.ygg_value.specs.declared.shape.Shape.{Shape}
use Rattle.ygg_value.specs.Shapes.{shape_of}
use Rattle.ygg_value.proofs.Limits.{shape_of-IsShape}
use Rattle.ygg_value.specs.declared.row.Value.{Value}
use Rattle.ygg_syntax.specs.declared.tree.Declared.{Declared}
use Rattle.ygg_meaning_laws.specs.ygg_type_rules.Names.{look_up, has}
use Rattle.ygg_meaning_laws.specs.Scopes.{Scope}
use Rattle.ygg_meaning.specs.Environments.{Name, Env, assign}
use Rattle.ygg_meaning.specs.Meaning.{Functions}
use Rattle.ygg_meaning.specs.Shapes.{shape_in, fits, env_fits}
use Rattle.ygg_meaning_laws.specs.Fitting.{HasShape}
use Rattle.ygg_meaning_laws.specs.Agrees.{Agrees}
use Rattle.ygg_meaning_laws.proofs.Fits.{fits_has, value_fits}
use Rattle.ygg_meaning_laws.proofs.Tests.{left as first_of, right as second_of}
use Rattle.ygg_meaning_laws.specs.Questions.{plain, Follows}

-- a value of whichever shape the other has
abbrev pub Keeps : Value → Value → Type 0
Keeps v w = (s : Shape) → fits s v ≡ true → fits s w ≡ true

-- a shape that is kept
pub has_after : (known : Option Shape) (v w : Value) → Keeps v w → HasShape known v → HasShape known w
has_after known v w k h =
    subst (λ o. HasShape o w) (sym h.is) (fits_has (shape_of v) w (shape_of-IsShape v h.limits) (k (shape_of v) (value_fits v h.limits)))

pub follows_same : (env : Env) → Follows env env
follows_same [] = tt
follows_same (b ∷ env) = (refl, λ s e. e, follows_same env)

pub follows_more : (env more : Env) → Follows env (env ++ more)
follows_more [] more = tt
follows_more (b ∷ env) more = (refl, λ s e. e, follows_more env more)

pub follows_on : (a b c : Env) → Follows a b → Follows b c → Follows a c
follows_on [] b c f g = tt
follows_on (x ∷ a) [] c f g = elim f [ ]
follows_on (x ∷ a) (y ∷ b) [] f g = elim g [ ]
follows_on (x ∷ a) (y ∷ b) (z ∷ c) (n, k, f) (m, l, g) = (m ∙ n, λ s e. l s (k s e), follows_on a b c f g)

-- the front alone
pub follows_front : (a more c : Env) → Follows (a ++ more) c → Follows a c
follows_front a more c f = follows_on a (a ++ more) c (follows_more a more) f

-- what comes after may be cut off
pub follows_cut : (a b : Env) → Follows a b → Follows a (take (length a) b)
follows_cut [] b f = tt
follows_cut (x ∷ a) [] f = elim f [ ]
follows_cut (x ∷ a) (y ∷ b) (n, k, f) = (n, k, follows_cut a b f)

-- a name's new value, found in its place
pub record Found (name : Name) (v : Value) (env : Env) : Type 0 where
  pub value : Value
  pub found : look_up name env ≡ Some value
  pub keeps : Keeps v value

pub found_after : (name : Name) (v : Value) (a b : Env) → Follows a b → look_up name a ≡ Some v → Found name v (take (length a) b)
found_after name v [] b f e = absurd (cc)
found_after name v (x ∷ a) [] f e = elim f [ ]
found_after name v (x ∷ a) (y ∷ b) (n, k, f) e =
    let g = cases (bytes_eq x.0 name) (bytes_eq y.0 name) (ap (λ z. bytes_eq z name) (sym n)) e (λ h. found_after name v a b f h) in
    record { value = g.0; found = g.1; keeps = g.2 }
  where
    value_is : (u w : Value) → Some u ≡ Some w → u ≡ w
    value_is u w e = cc

    cases : (c d : Bool) → c ≡ d → (if c then Some x.1 else look_up name a) ≡ Some v → (look_up name a ≡ Some v → Found name v (take (length a) b))
        → (value : Value) × ((if d then Some y.1 else look_up name (take (length a) b)) ≡ Some value) × Keeps v value
    cases true true s e again = (y.1, refl, subst (λ u. Keeps u y.1) (value_is x.1 v e) k)
    cases false false s e again = let g = again e in (g.value, g.found, g.keeps)
    cases true false s e again = absurd (cc)
    cases false true s e again = absurd (cc)

-- there are no other names
pub has_before : (name : Name) (a b : Env) → Follows a b → has name (take (length a) b) ≡ has name a
has_before name [] b f = refl
has_before name (x ∷ a) [] f = elim f [ ]
has_before name (x ∷ a) (y ∷ b) (n, k, f) = cases (bytes_eq y.0 name) (bytes_eq x.0 name) (ap (λ z. bytes_eq z name) n) (has_before name a b f)
  where
    cases : (c d : Bool) → c ≡ d → has name (take (length a) b) ≡ has name a
        → is_some (if c then Some y.1 else look_up name (take (length a) b)) ≡ is_some (if d then Some x.1 else look_up name a)
    cases true true s e = refl
    cases false false s e = e
    cases true false s e = absurd (cc)
    cases false true s e = absurd (cc)

-- a scope agrees still
pub agrees_after : (functions : Functions) (scope : Scope) (a b : Env) → Follows a b → Agrees functions scope (plain a) →
    Agrees functions scope (plain (take (length a) b))
agrees_after functions scope a b f g = record {
  names = λ name l e.
      let h = g.names name l e in
      let k = found_after name h.value a b f h.found in
      record { value = k.value; found = k.found; has = has_after l.shape h.value k.value k.keeps h.has };
  taken = λ name e. g.taken name (sym (has_before name a b f) ∙ e);
  low = g.low;
  defs = g.defs;
  lower = g.lower;
}

-- declared variables keep their shapes
pub fits_after : (ds : List Declared) (a b : Env) → Follows a b → env_fits ds a ≡ true → env_fits ds (take (length a) b) ≡ true
fits_after [] [] b f e = refl
fits_after [] (x ∷ a) b f e = absurd (cc)
fits_after (d ∷ ds) [] b f e = absurd (cc)
fits_after (d ∷ ds) (x ∷ a) [] f e = elim f [ ]
fits_after (d ∷ ds) (x ∷ a) (y ∷ b) (n, k, f) e =
    let front = first_of (bytes_eq d.name.text x.0 && fits (shape_in d.shape) x.1) _ e in
    both_of (bytes_eq d.name.text y.0 && fits (shape_in d.shape) y.1) _
    (both_of (bytes_eq d.name.text y.0) _ (subst (λ z. bytes_eq d.name.text z ≡ true) (sym n) (first_of (bytes_eq d.name.text x.0) _ front))
    (k (shape_in d.shape) (second_of (bytes_eq d.name.text x.0) _ front)))
    (fits_after ds a b f (second_of (bytes_eq d.name.text x.0 && fits (shape_in d.shape) x.1) _ e))

-- a name's value is put in another's place
pub follows_assigned : (name : Name) (v w : Value) (env : Env) → look_up name env ≡ Some v → Keeps v w → Follows env (assign env name w)
follows_assigned name v w [] e k = tt
follows_assigned name v w (x ∷ env) e k = cases (bytes_eq x.0 name) e (λ h. follows_assigned name v w env h k)
  where
    value_is : (u w : Value) → Some u ≡ Some w → u ≡ w
    value_is u w e = cc

    cases : (c : Bool) → (if c then Some x.1 else look_up name env) ≡ Some v → (look_up name env ≡ Some v → Follows env (assign env name w)) →
        Follows (x ∷ env) (if c then (x.0, w) ∷ env else x ∷ assign env name w)
    cases true e again = (refl, subst (λ u. Keeps u w) (sym (value_is x.1 v e)) k, follows_same env)
    cases false e again = (refl, λ s h. h, again e)

pub take_assigned : (name : Name) (w : Value) (env : Env) → take (length env) (assign env name w) ≡ assign env name w
take_assigned name w [] = refl
take_assigned name w (x ∷ env) = cases (bytes_eq x.0 name) (take_assigned name w env)
  where
    all : (env : Env) → take (length env) env ≡ env
    all [] = refl
    all (x ∷ env) = ap (λ e. x ∷ e) (all env)

    cases : (c : Bool) → take (length env) (assign env name w) ≡ assign env name w
        → take (suc (length env)) (if c then (x.0, w) ∷ env else x ∷ assign env name w) ≡ (if c then (x.0, w) ∷ env else x ∷ assign env name w)
    cases true e = ap (λ e. (x.0, w) ∷ e) (all env)
    cases false e = ap (λ e. x ∷ e) e
