-- The first of a name, found from the front on.
use Rattle.std.proofs.Common.{
  ◌≡◌,
  ℕ,
  suc,
  ◌+◌,
  ◌<◌,
  Bool,
  true,
  false,
  if◌then◌else◌,
  List,
  [],
  ◌∷◌,
  length,
  set,
  get_or,
  Option,
  Some,
  None,
  Result,
  Ok,
  Err,
  OnOk,
  option_map,
  refl,
  sym,
  ap,
  ◌∙◌,
  subst,
  arith,
}
use Rattle.std.specs.Prelude.{slice_get, slice_set}
use Rattle.std.specs.Str.{bytes_eq}
use Rattle.std.proofs.lemmas.Option.{slice_get_read, slice_get-map}
use Rattle.std.proofs.lemmas.List.{map-set}
use Rattle.ygg_value.specs.declared.row.Value.{Value}
use Rattle.ygg_value.specs.Values.{with_part}
use Rattle.ygg_eval_expr.specs.ygg_meaning_laws_proofs_Tests.{bytes_same}
use Rattle.ygg_eval_expr.specs.ygg_meaning.Environments.{Name, Env, look_up, assign}
use Rattle.ygg_eval_expr.specs.declared.held.Binding.{Binding}
use Rattle.ygg_eval_expr.specs.Held.{env_of, held_value}
use Rattle.ygg_eval.specs.Naming.{first_place}

-- the place of the first of a name: its value is there, and a new one is put there
pub record IsFirst (env : Env) (name : Name) (place : ℕ) : Type 0 where
  pub within : place < length env
  pub is : slice_get env place ≡ Some (name, look_up name env)
  pub assigned : (v : Value) → assign env name v ≡ slice_set env place (name, v)

-- the place of the first of a name, if there is one
abbrev pub IsPlaceOf : Env → Name → Option ℕ → Type 0
IsPlaceOf env name (Some place) = IsFirst env name place
IsPlaceOf env name None = (v : Value) → assign env name v ≡ env

-- the place, counted from the first of these
record FoundAt (place : ℕ) (env : Env) (name : Name) (found : ℕ) : Type 0 where
  pub at : ℕ
  pub is : found ≡ place + at
  pub first : IsFirst env name at

pair_is : (b : Name × Value) (name : Name) → b.0 ≡ name → b ≡ (name, b.1)
pair_is b name e = let pair : Name → Name × Value = λ n. (n, b.1) in ap pair e

found_at : (place : ℕ) (env : Env) (name : Name) (found : ℕ) → first_place place env name ≡ Some found → FoundAt place env name found
found_at place [] name found h = absurd (cc)
found_at place (b ∷ env) name found h = cases (bytes_eq b.0 name) refl h (λ h. found_at (place + 1) env name found h)
  where
    place_is : Some place ≡ Some found → place ≡ found
    place_is h = cc

    cases : (c : Bool) → bytes_eq b.0 name ≡ c → (if c then Some place else first_place (place + 1) env name) ≡ Some found
        → (first_place (place + 1) env name ≡ Some found → FoundAt (place + 1) env name found) → FoundAt place (b ∷ env) name found
    cases true e h later = record {
      at = 0;
      is = let same = place_is h in omega arith;
      first = record {
        within = omega arith;
        is = ap (λ (x : Name × Value). Some x) (pair_is b name (bytes_same b.0 name e))
            ∙ ap (λ (v : Value). Some (name, v)) (sym (ap (λ (c : Bool). if c then b.1 else look_up name env) e));
        assigned = λ v. ap (λ (c : Bool). if c then (b.0, v) ∷ env else b ∷ assign env name v) e ∙ ap (λ (n : Name). (n, v) ∷ env) (bytes_same b.0 name e);
      };
    }
    cases false e h later =
        let again = later h in
        let f = again.first in
        let i = again.is in
        record {
          at = suc again.at;
          is = omega arith;
          first = record {
            within = let w = f.within in omega arith;
            is = f.is ∙ ap (λ (v : Value). Some (name, v)) (sym (ap (λ (c : Bool). if c then b.1 else look_up name env) e));
            assigned = λ v. ap (λ (c : Bool). if c then (b.0, v) ∷ env else b ∷ assign env name v) e ∙ ap (λ (l : Env). b ∷ l) (f.assigned v);
          };
        }

none_at : (place : ℕ) (env : Env) (name : Name) → first_place place env name ≡ None → (v : Value) → assign env name v ≡ env
none_at place [] name h v = refl
none_at place (b ∷ env) name h v = cases (bytes_eq b.0 name) h (λ h. none_at (place + 1) env name h v)
  where
    cases : (c : Bool) → (if c then Some place else first_place (place + 1) env name) ≡ None →
        (first_place (place + 1) env name ≡ None → assign env name v ≡ env)
        → (if c then (b.0, v) ∷ env else b ∷ assign env name v) ≡ b ∷ env
    cases true h later = absurd (cc)
    cases false h later = ap (λ (l : Env). b ∷ l) (later h)

-- what is found from the first place on is the place of the first
pub place_found : (env : Env) (name : Name) (found : Option ℕ) → first_place 0 env name ≡ found → IsPlaceOf env name found
place_found env name None h = none_at 0 env name h
place_found env name (Some place) h =
    let f = found_at 0 env name place h in
    let same : f.at ≡ place = let i = f.is in omega arith in
    subst (λ p. IsFirst env name p) same f.first

-- the first of a name with a part of its value written anew
pub written : (names : List Binding) (i : ℕ) (b b' : Binding) (name : Name) (indices : List ℕ) (v : Value) → IsFirst (env_of names) name i →
    b ≡ get_or names i b → i < length names → b'.name.now ≡ b.name.now
    → held_value b'.held ≡ with_part (held_value b.held) indices v →
    env_of (slice_set names i b') ≡ assign (env_of names) name (with_part (look_up name (env_of names)) indices v)
written names i b b' name indices v first at within same value =
    let entry : Binding → Name × Value = λ b. (b.name.now, held_value b.held) in
    let there : Some (entry b) ≡ Some (name, look_up name (env_of names)) =
    ap (option_map entry) (sym (slice_get_read names (length names) i b refl within at)) ∙ sym (slice_get-map entry names i) ∙ first.is in
    let named : b.name.now ≡ name = ap (λ (x : Name × Value). x.0) (some_is (entry b) (name, look_up name (env_of names)) there) in
    let held : held_value b.held ≡ look_up name (env_of names) = ap (λ (x : Name × Value). x.1) (some_is (entry b) (name, look_up name (env_of names)) there) in
    let pair : Name → Value → Name × Value = λ n w. (n, w) in
    map-set entry names i b' ∙ ap (λ (x : Name × Value). set (env_of names) i x)
    (ap (λ n. pair n (held_value b'.held)) (same ∙ named) ∙ ap (pair name) (value ∙ ap (λ w. with_part w indices v) held))
    ∙ sym (first.assigned (with_part (look_up name (env_of names)) indices v))
  where
    some_is : (x y : Name × Value) → Some x ≡ Some y → x ≡ y
    some_is x y h = cc

-- the value of the first of a name
pub held_first : (names : List Binding) (i : ℕ) (b : Binding) (name : Name) → IsFirst (env_of names) name i → i < length names → b ≡ get_or names i b
    → held_value b.held ≡ look_up name (env_of names)
held_first names i b name first within at =
    let entry : Binding → Name × Value = λ b. (b.name.now, held_value b.held) in
    let there : Some (entry b) ≡ Some (name, look_up name (env_of names)) =
    ap (option_map entry) (sym (slice_get_read names (length names) i b refl within at)) ∙ sym (slice_get-map entry names i) ∙ first.is in
    ap (λ (x : Name × Value). x.1) (some_is (entry b) (name, look_up name (env_of names)) there)
  where
    some_is : (x y : Name × Value) → Some x ≡ Some y → x ≡ y
    some_is x y h = cc

-- two facts of a call that went well
pub on_ok : {T E : Type 0} {A B C : Type 0} (r : Result T E) → OnOk r A → OnOk r B → (A → B → C) → OnOk r C
on_ok (Ok t) a b f = f a b
on_ok (Err e) a b f = tt
