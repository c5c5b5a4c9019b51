-- Values of declared names: how many there are, which of them fit, and that those which fit are of the declared types.
use Rattle.std.proofs.Common.{◌≡◌, ◌∙◌, ◌*◌, ◌≤◌, ℕ, suc, Bool, true, if◌then◌else◌, List, [], ◌∷◌, length, Some, None, refl, sym, ap, arith}
use Rattle.std.specs.Prelude.{◌&&◌, nat_le}
use Rattle.std.specs.Str.{bytes_eq}
use Rattle.std.proofs.lemmas.Bool.{and_from, and_parts, le-leb}
use Rattle.std.proofs.lemmas.List.Elements.{All-head, All-tail}
use Rattle.ygg_value.specs.Shapes.{IsShape}
use Rattle.ygg_value.specs.declared.row.Value.{Value}
use Rattle.ygg_value.specs.declared.shape.Shape.TheVariants as shape
use Rattle.ygg_syntax.specs.declared.tree.Declared.{Declared}
use Rattle.ygg_syntax.specs.declared.tree.TypeText.{TypeText}
use Rattle.ygg_syntax.specs.declared.tree.TypeText.TheVariants as text
use Rattle.ygg_oblige_schedule.specs.ygg_type_rules.Limits.{rows_fit, width_fits, words_fit, words_fit_in}
use Rattle.ygg_oblige_schedule.specs.ygg_type_rules.Shapes.{shape_of}
use Rattle.ygg_replay.specs.ygg_meaning.Environments.{Env, bind}
use Rattle.ygg_replay.specs.ygg_meaning.Shapes.{env_fits, fits, shape_in, values_fit}
use Rattle.ygg_oblige_schedule.specs.ygg_meaning_laws_proofs_Fits.{fits_has}
use Rattle.ygg_oblige_given.specs.ygg_oblige_laws.LayerTerms.{ShapesKept}
use Rattle.ygg_replay.specs.ygg_sched.Fitting.{AreOfTypes, IsOfType}

-- names with values that fit them are as many as the values
pub bound_count : (ds : List Declared) (vs : List Value) → values_fit ds vs ≡ true → length (bind ds vs) ≡ length vs
bound_count [] [] h = refl
bound_count [] (v ∷ vs) h = absurd (cc)
bound_count (d ∷ ds) [] h = absurd (cc)
bound_count (d ∷ ds) (v ∷ vs) h = ap suc (bound_count ds vs (and_parts (fits (shape_in d.shape) v) (values_fit ds vs) h).1)

-- values fit where the names with them do, and there are as many
pub values_back : (ds : List Declared) (vs : List Value) → length vs ≡ length (bind ds vs) → env_fits ds (bind ds vs) ≡ true → values_fit ds vs ≡ true
values_back [] [] n h = refl
values_back [] (v ∷ vs) n h = absurd (omega arith)
values_back (d ∷ ds) [] n h = absurd (cc)
values_back (d ∷ ds) (v ∷ vs) n h =
    let parts = and_parts (bytes_eq d.name.text d.name.text && fits (shape_in d.shape) v) (env_fits ds (bind ds vs)) h in
    let own = and_parts (bytes_eq d.name.text d.name.text) (fits (shape_in d.shape) v) parts.0 in
    let fewer : length vs ≡ length (bind ds vs) = omega arith in
    and_from (fits (shape_in d.shape) v) (values_fit ds vs) own.1 (values_back ds vs fewer parts.1)

few_kept : (most n : ℕ) → (1 ≤ n) × (n ≤ most) → (nat_le 1 n && nat_le n most) ≡ true
few_kept most n h = and_from (nat_le 1 n) (nat_le n most) (le-leb 1 n h.0) (le-leb n most h.1)

-- a type whose shape keeps the limits names that shape
shape_kept : (t : TypeText) → IsShape (shape_in t) → shape_of t ≡ Some (shape_in t)
shape_kept (text.Word w) h = ap (λ (b : Bool). if b then Some (shape.Word w.value) else None) (few_kept 64 w.value h)
shape_kept (text.Row m w) h =
    ap (λ (b : Bool). if b then Some (shape.Row m.value w.value) else None)
    (and_from (words_fit m.value) (width_fits w.value) (few_kept 64 m.value h.0) (few_kept 64 w.value h.1))
shape_kept (text.Table n m w) h =
    let words = and_from (words_fit m.value) (nat_le (n.value * m.value) 4096) (few_kept 64 m.value h.1) (le-leb (n.value * m.value) 4096 h.3) in
    let rows = and_from (rows_fit n.value) (words_fit_in n.value m.value) (few_kept 256 n.value h.0) words in
    ap (λ (b : Bool). if b then Some (shape.Table n.value m.value w.value) else None)
    (and_from (rows_fit n.value && words_fit_in n.value m.value) (width_fits w.value) rows (few_kept 64 w.value h.2))

-- a value that fits the shape of a type is of the type
of_type : (t : TypeText) (v : Value) → IsShape (shape_in t) → fits (shape_in t) v ≡ true → IsOfType t v
of_type t v kept h = let has = fits_has (shape_in t) v kept h in record { shape = shape_kept t kept ∙ has.is; value = has.limits }

-- values that have the declared shapes are of the declared types
pub of_types : (ds : List Declared) (vs : List Value) → ShapesKept ds → values_fit ds vs ≡ true → AreOfTypes ds vs
of_types [] [] kept h = tt
of_types [] (v ∷ vs) kept h = absurd (cc)
of_types (d ∷ ds) [] kept h = absurd (cc)
of_types (d ∷ ds) (v ∷ vs) kept h =
    let parts = and_parts (fits (shape_in d.shape) v) (values_fit ds vs) h in (
      of_type d.shape v (All-head (λ (x : Declared). IsShape (shape_in x.shape)) d ds kept) parts.0,
      of_types ds vs (All-tail (λ (x : Declared). IsShape (shape_in x.shape)) d ds kept) parts.1,
    )

-- values that are, by their names, some that have the declared shapes, and as many
pub same_types : (ds : List Declared) (vs : List Value) (env : Env) → ShapesKept ds → bind ds vs ≡ env → length vs ≡ length env → env_fits ds env ≡ true →
    AreOfTypes ds vs
same_types ds vs env kept e n h = of_types ds vs kept (values_back ds vs (n ∙ sym (ap length e)) (ap (env_fits ds) e ∙ h))

-- no values are of no types
pub no_types : (vs : List Value) → length vs ≡ 0 → AreOfTypes [] vs
no_types [] n = tt
no_types (v ∷ vs) n = absurd (omega arith)
