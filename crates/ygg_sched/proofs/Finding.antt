-- What is found first, by its name.
use Rattle.std.proofs.Common.{
  ◌≡◌,
  ℕ,
  suc,
  ◌+◌,
  ◌<◌,
  Bool,
  true,
  false,
  cond,
  List,
  [],
  ◌∷◌,
  ◌++◌,
  map,
  length,
  get_or,
  drop,
  slice_get,
  Option,
  Some,
  None,
  refl,
  sym,
  ap,
  ◌∙◌,
  add-one,
}
use Rattle.std.specs.Prelude.{◌==◌}
use Rattle.std.specs.List.{find}
use Rattle.std.specs.Option.{option_map, option_or}
use Rattle.std.specs.Str.{bytes_eq}
use Rattle.std.proofs.lemmas.List.{drop_more}
use Rattle.std.proofs.lemmas.Option.{slice_get_read}
use Rattle.std.proofs.lemmas.List.Folds.{find-append}
use Rattle.ygg_syntax.specs.declared.tree.Declared.{Declared}
use Rattle.ygg_syntax.specs.declared.tree.Operation.{Operation}
use Rattle.ygg_syntax.specs.declared.tree.Tick.{Tick}
use Rattle.ygg_syntax.specs.declared.tree.Layer.{Layer}
use Rattle.ygg_meaning.specs.Obligations.{Obligation, Init, CallOf, CutOf, TickOf, CutTickOf, Idle, Again, obligations_of, name_of}
use Rattle.ygg_sched.specs.Words.{after_front}
use Rattle.ygg_sched.specs.Naming.{suffix_of, is_suffix, calls_of, ticks_of, all_of}
use Rattle.ygg_sched.specs.Sites.{Site, sites_at, sites_on, is_named}

-- what is found by one test is found by another that says the same
pub find_same : {X : Type 0} (p q : X → Bool) → ((x : X) → p x ≡ q x) → (xs : List X) → find p xs ≡ find q xs
find_same p q same [] = refl
find_same p q same (x ∷ xs) = rw (same x, find_same p q same xs) refl

-- nothing passes a test that fails
pub find_nothing : {X : Type 0} (p : X → Bool) → ((x : X) → p x ≡ false) → (xs : List X) → find p xs ≡ None
find_nothing p fails [] = refl
find_nothing p fails (x ∷ xs) = rw (fails x) (find_nothing p fails xs)

-- what is found of what others stand for
pub find-map : {X Y : Type 0} (p : Y → Bool) (f : X → Y) (xs : List X) → find p (map f xs) ≡ option_map f (find (λ x. p (f x)) xs)
find-map p f [] = refl
find-map p f (x ∷ xs) =
    elim (p (f x)) as (λ test. cond test (Some (f x)) (find p (map f xs)) ≡ option_map f (cond test (Some x) (find (λ x. p (f x)) xs))) [
      | true ↦ refl
      | false ↦ find-map p f xs
    ]

-- whether what follows a front is this
abbrev pub rest_is : List ℕ → Option (List ℕ) → Bool
rest_is other None = false
rest_is other (Some rest) = bytes_eq other rest

-- a text in two parts is another where what follows the first is the second
pub eq_in_parts : (front other bytes : List ℕ) → bytes_eq (front ++ other) bytes ≡ rest_is other (after_front front bytes)
eq_in_parts [] other bytes = refl
eq_in_parts (f ∷ front) other [] = refl
eq_in_parts (f ∷ front) other (b ∷ bytes) = by_test (f == b) refl (eq_in_parts front other bytes)
  where
    by_test : (test : Bool) → (f == b) ≡ test → bytes_eq (front ++ other) bytes ≡ rest_is other (after_front front bytes) →
        bytes_eq ((f ∷ front) ++ other) (b ∷ bytes) ≡ rest_is other (after_front (f ∷ front) (b ∷ bytes))
    by_test true e others = rw e others
    by_test false e others = rw e refl

-- an obligation's name is its layer's and what follows
pub name_is : (layer : List ℕ) (o : Obligation) → name_of layer o ≡ layer ++ suffix_of o
name_is layer Init = refl
name_is layer (CallOf o) = refl
name_is layer (CutOf o) = refl
name_is layer (TickOf t) = refl
name_is layer (CutTickOf t) = refl
name_is layer Idle = refl
name_is layer Again = refl

-- an obligation by what follows its layer's name
pub named_by_suffix : (layer name : List ℕ) (o : Obligation) → bytes_eq (name_of layer o) name ≡ rest_is (suffix_of o) (after_front layer name)
named_by_suffix layer name o = ap (λ (whole : List ℕ). bytes_eq whole name) (name_is layer o) ∙ eq_in_parts layer (suffix_of o) name

-- where the name begins with the layer's
pub found_by_suffix : (layer name own : List ℕ) (os : List Obligation) → after_front layer name ≡ Some own →
    find (λ o. bytes_eq (name_of layer o) name) os ≡ find (is_suffix own) os
found_by_suffix layer name own os is =
    find_same (λ o. bytes_eq (name_of layer o) name) (is_suffix own) (λ o. named_by_suffix layer name o ∙ ap (rest_is (suffix_of o)) is) os

-- where it doesn't
pub found_nowhere : (layer name : List ℕ) (os : List Obligation) → after_front layer name ≡ None →
    find (λ o. bytes_eq (name_of layer o) name) os ≡ None
found_nowhere layer name os is =
    find_nothing (λ o. bytes_eq (name_of layer o) name) (λ o. named_by_suffix layer name o ∙ ap (rest_is (suffix_of o)) is) os

-- the first of all obligations of a layer
module _ (name : List ℕ) (operations : List Operation) (ticks : List Tick) where
  own_is : find (is_suffix name) (all_of operations ticks)
      ≡ option_or (option_or (find (is_suffix name) (Init ∷ calls_of operations)) (find (is_suffix name) (ticks_of ticks)))
      (find (is_suffix name) (Idle ∷ Again ∷ []))
  own_is =
      find-append (is_suffix name) ((Init ∷ calls_of operations) ++ ticks_of ticks) (Idle ∷ Again ∷ [])
      ∙ ap (λ (o : Option Obligation). option_or o (find (is_suffix name) (Idle ∷ Again ∷ [])))
      (find-append (is_suffix name) (Init ∷ calls_of operations) (ticks_of ticks))

  pub own_init : is_suffix name Init ≡ true → find (is_suffix name) (all_of operations ticks) ≡ Some Init
  own_init passes = own_is ∙ rw passes refl

  pub own_call : (o : Obligation) → is_suffix name Init ≡ false → find (is_suffix name) (calls_of operations) ≡ Some o →
      find (is_suffix name) (all_of operations ticks) ≡ Some o
  own_call o fails is = own_is ∙ rw (fails, is) refl

  pub own_tick : (o : Obligation) → is_suffix name Init ≡ false → find (is_suffix name) (calls_of operations) ≡ None →
      find (is_suffix name) (ticks_of ticks) ≡ Some o → find (is_suffix name) (all_of operations ticks) ≡ Some o
  own_tick o fails none is = own_is ∙ rw (fails, none, is) refl

  pub own_last : is_suffix name Init ≡ false → find (is_suffix name) (calls_of operations) ≡ None → find (is_suffix name) (ticks_of ticks) ≡ None →
      find (is_suffix name) (all_of operations ticks) ≡ find (is_suffix name) (Idle ∷ Again ∷ [])
  own_last fails none nothing = own_is ∙ rw (fails, none, nothing) refl

-- what stands at a place of a list
pub stands_in : {X : Type 0} (xs : List X) (i : ℕ) (x : X) → i < length xs → x ≡ get_or xs i x → slice_get xs i ≡ Some x
stands_in xs i x within is = slice_get_read xs (length xs) i x refl within is

-- the operation at a place, and those after it
module _ (name : List ℕ) (operations : List Operation) (i : ℕ) (o : Operation) (within : i < length operations) (is : o ≡ get_or operations i o) where
  split_calls : drop i operations ≡ o ∷ drop (i + 1) operations
  split_calls = drop_more operations i o within ∙ ap (λ (x : Operation). x ∷ drop (i + 1) operations) (sym is)

  pub call_found : is_suffix name (CallOf o) ≡ true → find (is_suffix name) (calls_of (drop i operations)) ≡ Some (CallOf o)
  call_found passes = rw (split_calls, passes) refl

  pub cut_found : is_suffix name (CallOf o) ≡ false → is_suffix name (CutOf o) ≡ true →
      find (is_suffix name) (calls_of (drop i operations)) ≡ Some (CutOf o)
  cut_found fails passes = rw (split_calls, fails, passes) refl

  pub calls_passed : is_suffix name (CallOf o) ≡ false → is_suffix name (CutOf o) ≡ false →
      find (is_suffix name) (calls_of (drop i operations)) ≡ find (is_suffix name) (calls_of (drop (i + 1) operations))
  calls_passed fails neither = rw (split_calls, fails, neither) refl

-- the background step at a place, and those after it
module _ (name : List ℕ) (ticks : List Tick) (i : ℕ) (t : Tick) (within : i < length ticks) (is : t ≡ get_or ticks i t) where
  split_ticks : drop i ticks ≡ t ∷ drop (i + 1) ticks
  split_ticks = drop_more ticks i t within ∙ ap (λ (x : Tick). x ∷ drop (i + 1) ticks) (sym is)

  pub tick_found : is_suffix name (TickOf t) ≡ true → find (is_suffix name) (ticks_of (drop i ticks)) ≡ Some (TickOf t)
  tick_found passes = rw (split_ticks, passes) refl

  pub cut_tick_found : is_suffix name (TickOf t) ≡ false → is_suffix name (CutTickOf t) ≡ true →
      find (is_suffix name) (ticks_of (drop i ticks)) ≡ Some (CutTickOf t)
  cut_tick_found fails passes = rw (split_ticks, fails, passes) refl

  pub ticks_passed : is_suffix name (TickOf t) ≡ false → is_suffix name (CutTickOf t) ≡ false →
      find (is_suffix name) (ticks_of (drop i ticks)) ≡ find (is_suffix name) (ticks_of (drop (i + 1) ticks))
  ticks_passed fails neither = rw (split_ticks, fails, neither) refl

-- an obligation with its layer, the place of that, and the variables below
abbrev pub placed : ℕ → Layer → List Declared → Obligation → Site
placed place l below o = record { place = place; layer = l; low = below; obligation = o }

-- the first of a layer and of those above it
pub found_on : (name : List ℕ) (place : ℕ) (below : List Declared) (l : Layer) (ls : List Layer) →
    find (is_named name) (sites_on place below (l ∷ ls))
    ≡ option_or (option_map (placed place l below) (find (λ o. bytes_eq (name_of l.name.text o) name) (obligations_of l)))
    (find (is_named name) (sites_on (suc place) l.state ls))
found_on name place below l ls =
    find-append (is_named name) (sites_at place l below) (sites_on (suc place) l.state ls)
    ∙ ap (λ (o : Option Site). option_or o (find (is_named name) (sites_on (suc place) l.state ls)))
    (find-map (is_named name) (placed place l below) (obligations_of l))

-- the layer at a place, and those above it
module _ (name : List ℕ) (below : List Declared) (layers : List Layer) (i : ℕ) (l : Layer) (within : i < length layers) (is : l ≡ get_or layers i l) where
  split_layers : drop i layers ≡ l ∷ drop (i + 1) layers
  split_layers = drop_more layers i l within ∙ ap (λ (x : Layer). x ∷ drop (i + 1) layers) (sym is)

  pub site_found : (o : Obligation) → find (λ x. bytes_eq (name_of l.name.text x) name) (obligations_of l) ≡ Some o →
      find (is_named name) (sites_on i below (drop i layers)) ≡ Some (placed i l below o)
  site_found o found =
      ap (λ (ls : List Layer). find (is_named name) (sites_on i below ls)) split_layers ∙ found_on name i below l (drop (i + 1) layers) ∙ rw found refl

  pub sites_passed : find (λ x. bytes_eq (name_of l.name.text x) name) (obligations_of l) ≡ None →
      find (is_named name) (sites_on i below (drop i layers)) ≡ find (is_named name) (sites_on (i + 1) l.state (drop (i + 1) layers))
  sites_passed none =
      ap (λ (ls : List Layer). find (is_named name) (sites_on i below ls)) split_layers
      ∙ found_on name i below l (drop (i + 1) layers)
      ∙ rw none (ap (λ (place : ℕ). find (is_named name) (sites_on place l.state (drop (i + 1) layers))) (sym (add-one i)))
