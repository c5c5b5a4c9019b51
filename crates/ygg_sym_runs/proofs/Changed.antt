-- The first of a name is changed where it is found.
use Rattle.std.proofs.Common.{
  ◌≡◌,
  ℕ,
  suc,
  ◌+◌,
  ◌<◌,
  Bool,
  true,
  false,
  if◌then◌else◌,
  List,
  [],
  ◌∷◌,
  length,
  take,
  drop,
  ◌++◌,
  set,
  get_or,
  Option,
  Some,
  None,
  option_map,
  refl,
  sym,
  ap,
  ◌∙◌,
  subst,
  arith,
}
use Rattle.std.specs.Prelude.{slice_get, slice_set}
use Rattle.std.specs.Str.{bytes_eq}
use Rattle.std.proofs.lemmas.Option.{slice_get_read, slice_get-map}
use Rattle.std.proofs.lemmas.List.{map-set}
use Rattle.std.proofs.Math.Seq.{take-append_seam}
use Rattle.ygg_meaning_laws.specs.ygg_meaning.Environments.{Name}
use Rattle.ygg_meaning_laws.proofs.Tests.{bytes_same}
use Rattle.ygg_sym_runs.specs.ygg_bank.Makes.{Make, Out, pure, and_make}
use Rattle.ygg_sym_runs.specs.ygg_bank.declared.node.Node.{Node}
use Rattle.ygg_sym_runs.specs.ygg_shape_cells.declared.terms.SymValue.{SymValue}
use Rattle.ygg_sym_runs.specs.Names.{SymEnv, sym_look_up}
use Rattle.ygg_sym_runs.specs.Seen.{env_of}
use Rattle.ygg_sym_runs.specs.declared.held.SymBinding.{SymBinding}
use Rattle.ygg_sym_runs.specs.Ready.{first_place}
use Rattle.ygg_sym_runs.specs.Runs.{sym_change}

-- names that a step gave, with the nodes after it
abbrev given : SymEnv → Out SymValue → (SymValue → SymEnv) → Out SymEnv
given env o names = record { value = names o.value; nodes = o.nodes }

-- the place of the first of a name: its value is there, and a new one is put there
pub record IsFirst (env : SymEnv) (name : Name) (place : ℕ) : Type 0 where
  pub within : place < length env
  pub is : slice_get env place ≡ Some (name, sym_look_up name env)
  pub changed : (f : SymValue → Make SymValue) (nodes : List Node) →
      sym_change name f env nodes ≡ given env (f (sym_look_up name env) nodes) (λ x. slice_set env place (name, x))

-- the place of the first of a name, if there is one
abbrev pub IsPlaceOf : SymEnv → Name → Option ℕ → Type 0
IsPlaceOf env name (Some place) = IsFirst env name place
IsPlaceOf env name None = (f : SymValue → Make SymValue) (nodes : List Node) → sym_change name f env nodes ≡ record { value = env; nodes = nodes }

-- the place, counted from the first of these
record FoundAt (place : ℕ) (env : SymEnv) (name : Name) (found : ℕ) : Type 0 where
  pub at : ℕ
  pub is : found ≡ place + at
  pub first : IsFirst env name at

pair_is : (b : Name × SymValue) (name : Name) → b.0 ≡ name → b ≡ (name, b.1)
pair_is b name e = let pair : Name → Name × SymValue = λ n. (n, b.1) in ap pair e

-- the steps where the first name is the one, and where it isn't
abbrev here : Name × SymValue → SymEnv → (SymValue → Make SymValue) → Make SymEnv
here b env f = and_make (f b.1) (λ x. pure ((b.0, x) ∷ env))

abbrev later_on : Name → Name × SymValue → SymEnv → (SymValue → Make SymValue) → Make SymEnv
later_on name b env f = and_make (sym_change name f env) (λ rest. pure (b ∷ rest))

found_at : (place : ℕ) (env : SymEnv) (name : Name) (found : ℕ) → first_place place env name ≡ Some found → FoundAt place env name found
found_at place [] name found h = absurd (cc)
found_at place (b ∷ env) name found h = cases (bytes_eq b.0 name) refl h (λ h. found_at (place + 1) env name found h)
  where
    place_is : Some place ≡ Some found → place ≡ found
    place_is h = cc

    cases : (c : Bool) → bytes_eq b.0 name ≡ c → (if c then Some place else first_place (place + 1) env name) ≡ Some found
        → (first_place (place + 1) env name ≡ Some found → FoundAt (place + 1) env name found) → FoundAt place (b ∷ env) name found
    cases true e h later =
        let look : sym_look_up name (b ∷ env) ≡ b.1 = ap (λ (c : Bool). if c then b.1 else sym_look_up name env) e in
        record {
          at = 0;
          is = let same = place_is h in omega arith;
          first = record {
            within = omega arith;
            is = ap (λ (x : Name × SymValue). Some x) (pair_is b name (bytes_same b.0 name e)) ∙ ap (λ (v : SymValue). Some (name, v)) (sym look);
            changed = λ f nodes.
                ap (λ (c : Bool). (if c then here b env f else later_on name b env f) nodes) e
                ∙ ap (λ (n : Name). given (b ∷ env) (f b.1 nodes) (λ x. (n, x) ∷ env)) (bytes_same b.0 name e)
                ∙ ap (λ (v : SymValue). given (b ∷ env) (f v nodes) (λ x. (name, x) ∷ env)) (sym look);
          };
        }
    cases false e h later =
        let again = later h in
        let p = again.first in
        let i = again.is in
        let look : sym_look_up name (b ∷ env) ≡ sym_look_up name env = ap (λ (c : Bool). if c then b.1 else sym_look_up name env) e in
        record {
          at = suc again.at;
          is = omega arith;
          first = record {
            within = let w = p.within in omega arith;
            is = p.is ∙ ap (λ (v : SymValue). Some (name, v)) (sym look);
            changed = λ f nodes.
                ap (λ (c : Bool). (if c then here b env f else later_on name b env f) nodes) e
                ∙ ap (λ (o : Out SymEnv). record { value = b ∷ o.value; nodes = o.nodes }) (p.changed f nodes)
                ∙ ap (λ (v : SymValue). given (b ∷ env) (f v nodes) (λ x. b ∷ slice_set env again.at (name, x))) (sym look);
          };
        }

none_at : (place : ℕ) (env : SymEnv) (name : Name) → first_place place env name ≡ None → (f : SymValue → Make SymValue) (nodes : List Node) →
    sym_change name f env nodes ≡ record { value = env; nodes = nodes }
none_at place [] name h f nodes = refl
none_at place (b ∷ env) name h f nodes = cases (bytes_eq b.0 name) h (λ h. none_at (place + 1) env name h f nodes)
  where
    cases : (c : Bool) → (if c then Some place else first_place (place + 1) env name) ≡ None →
        (first_place (place + 1) env name ≡ None → sym_change name f env nodes ≡ record { value = env; nodes = nodes })
        → (if c then here b env f else later_on name b env f) nodes ≡ record { value = b ∷ env; nodes = nodes }
    cases true h later = absurd (cc)
    cases false h later = ap (λ (o : Out SymEnv). record { value = b ∷ o.value; nodes = o.nodes }) (later h)

-- what is found from the first place on is the place of the first
pub place_found : (env : SymEnv) (name : Name) (found : Option ℕ) → first_place 0 env name ≡ found → IsPlaceOf env name found
place_found env name None h = none_at 0 env name h
place_found env name (Some place) h =
    let f = found_at 0 env name place h in
    let same : f.at ≡ place = let i = f.is in omega arith in
    subst (λ p. IsFirst env name p) same f.first

some_pair : (x y : Name × SymValue) → Some x ≡ Some y → x ≡ y
some_pair x y h = cc

abbrev entry : SymBinding → Name × SymValue
entry b = (b.name.now, b.value)

there : (names : List SymBinding) (i : ℕ) (b : SymBinding) (name : Name) → IsFirst (env_of names) name i → i < length names → b ≡ get_or names i b →
    entry b ≡ (name, sym_look_up name (env_of names))
there names i b name first within at =
    some_pair (entry b) (name, sym_look_up name (env_of names))
    (ap (option_map entry) (sym (slice_get_read names (length names) i b refl within at)) ∙ sym (slice_get-map entry names i) ∙ first.is)

-- the value of the first of a name
pub value_first : (names : List SymBinding) (i : ℕ) (b : SymBinding) (name : Name) → IsFirst (env_of names) name i → i < length names → b ≡ get_or names i b
    → b.value ≡ sym_look_up name (env_of names)
value_first names i b name first within at = ap (λ (x : Name × SymValue). x.1) (there names i b name first within at)

-- the names with a new value there
pub names_first : (names : List SymBinding) (i : ℕ) (b b' : SymBinding) (name : Name) (x : SymValue) → IsFirst (env_of names) name i → i < length names →
    b ≡ get_or names i b → b'.name.now ≡ b.name.now → b'.value ≡ x → env_of (slice_set names i b') ≡ slice_set (env_of names) i (name, x)
names_first names i b b' name x first within at same value =
    let pair : Name → SymValue → Name × SymValue = λ n w. (n, w) in
    let named : b.name.now ≡ name = ap (λ (x : Name × SymValue). x.0) (there names i b name first within at) in
    map-set entry names i b' ∙ ap (λ (y : Name × SymValue). set (env_of names) i y) (ap (λ n. pair n b'.value) (same ∙ named) ∙ ap (pair name) value)

-- names that were lent as a slice are put back
pub names_back : (items given new : List SymBinding) (k : ℕ) → given ≡ items → k ≡ length items → length new ≡ length given →
    take k (new ++ drop (length new) items) ≡ new
names_back items given new k same counted kept =
    ap (λ (m : ℕ). take m (new ++ drop (length new) items)) (counted ∙ ap length (sym same) ∙ sym kept) ∙ take-append_seam new (drop (length new) items)
