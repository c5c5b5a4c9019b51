-- Types without type errors, and parameters with values.
use Rattle.std.proofs.Common.{◌≡◌, ℕ, ◌*◌, true, false, cond, List, [], ◌∷◌, ◌++◌, Some, None, refl, sym, ap, ◌∙◌, subst, append_assoc}
use Rattle.std.specs.Prelude.{◌&&◌, not, nat_le}
use Rattle.std.proofs.lemmas.Bool.{leb-true, and_from}
use Rattle.std.proofs.lemmas.List.{append-nil}
use Rattle.ygg_base.specs.declared.reason.Reason.TheVariants as reason
use Rattle.ygg_meaning.specs.TypeText.{TypeText}
use Rattle.ygg_meaning.specs.TypeText.TheVariants as text
use Rattle.ygg_meaning.specs.Declared.{Declared}
use Rattle.ygg_value.specs.Shapes.{IsShape, Within}
use Rattle.ygg_value.specs.declared.row.Value.{Value}
use Rattle.ygg_value.specs.declared.shape.Shape.TheVariants as shape
use Rattle.ygg_type_rules.specs.TypeErrors.{none, unless}
use Rattle.ygg_type_rules.specs.Limits.{width_fits, words_fit, rows_fit, words_fit_in}
use Rattle.ygg_type_rules.specs.Shapes.{shape_of}
use Rattle.ygg_type_rules.specs.Scopes.{Scope, is_taken}
use Rattle.ygg_type_rules.specs.Definitions.{type_text_errors, with_parameter, with_parameters, parameters_errors, parameter_shapes}
use Rattle.ygg_meaning.specs.Environments.{bind}
use Rattle.ygg_meaning.specs.Meaning.{Functions}
use Rattle.ygg_meaning.specs.Meaning as meaning
use Rattle.ygg_meaning.specs.Shapes.{shape_in, fits, values_fit}
use Rattle.ygg_meaning_laws.specs.Fitting.{HasShape, fits_wanted, all_fit}
use Rattle.ygg_meaning_laws.specs.Agrees.{Agrees}
use Rattle.ygg_meaning_laws.proofs.Tests.{left, right, passed, turned, width_within, words_within}
use Rattle.ygg_meaning_laws.proofs.Fits.{fits_has}
use Rattle.ygg_meaning_laws.proofs.Steps.{holding, agrees_with_local}

-- a type that names the shape that it stands for, within its limits
pub record IsType (t : TypeText) : Type 0 where
  pub is : shape_of t ≡ Some (shape_in t)
  pub limits : IsShape (shape_in t)

rows_within : (n : ℕ) → rows_fit n ≡ true → Within 256 n
rows_within n h = (leb-true 1 n (left (nat_le 1 n) (nat_le n 256) h), leb-true n 256 (right (nat_le 1 n) (nat_le n 256) h))

-- a type without a type error
pub type_is : (t : TypeText) → none (type_text_errors t) ≡ true → IsType t
type_is (text.Word w) h =
    let width = passed (width_fits w.value) reason.Width w.place h in
    record { is = ap (λ b. cond b (Some (shape.Word w.value)) None) width; limits = width_within w.value width }
type_is (text.Row m w) h =
    let first = none (unless (words_fit m.value) reason.Limit m.place) in
    let second = none (unless (width_fits w.value) reason.Width w.place) in
    let words = passed (words_fit m.value) reason.Limit m.place (left first second h) in
    let width = passed (width_fits w.value) reason.Width w.place (right first second h) in
    record {
      is = ap (λ b. cond b (Some (shape.Row m.value w.value)) None) (and_from (words_fit m.value) (width_fits w.value) words width);
      limits = (words_within m.value words, width_within w.value width);
    }
type_is (text.Table n m w) h =
    let first = none (unless (rows_fit n.value) reason.Limit n.place) in
    let second = none (unless (words_fit_in n.value m.value) reason.Limit m.place) in
    let third = none (unless (width_fits w.value) reason.Width w.place) in
    let others = right first (second && third) h in
    let rows = passed (rows_fit n.value) reason.Limit n.place (left first (second && third) h) in
    let words = passed (words_fit_in n.value m.value) reason.Limit m.place (left second third others) in
    let width = passed (width_fits w.value) reason.Width w.place (right second third others) in
    let all = leb-true (n.value * m.value) 4096 (right (words_fit m.value) (nat_le (n.value * m.value) 4096) words) in
    record {
      is = ap (λ b. cond b (Some (shape.Table n.value m.value w.value)) None)
          (and_from (rows_fit n.value && words_fit_in n.value m.value) (width_fits w.value)
          (and_from (rows_fit n.value) (words_fit_in n.value m.value) rows words) width);
      limits = (
        rows_within n.value rows,
        words_within m.value (left (words_fit m.value) (nat_le (n.value * m.value) 4096) words),
        width_within w.value width,
        all,
      );
    }

-- a value that fits where a type without a type error is wanted has its shape
pub type_has : (t : TypeText) (v : Value) → none (type_text_errors t) ≡ true → fits_wanted (shape_of t) v ≡ true → HasShape (shape_of t) v
type_has t v f h =
    let is = type_is t f in
    subst (λ o. HasShape o v) (sym is.is) (fits_has (shape_in t) v is.limits (subst (λ o. fits_wanted o v ≡ true) is.is h))

-- parameters with arguments that fit them
pub agrees_with_parameters : (functions : Functions) (ps : List Declared) (vs : List Value) (scope : Scope) (env : meaning.Scope) →
    Agrees functions scope env → none (parameters_errors ps scope) ≡ true
    → all_fit (parameter_shapes ps) vs ≡ true → Agrees functions (with_parameters ps scope) (record env { own = env.own ++ bind ps vs })
agrees_with_parameters functions [] [] scope env agrees f h = subst (λ own. Agrees functions scope (record env { own = own })) (sym (append-nil env.own)) agrees
agrees_with_parameters functions [] (v ∷ vs) scope env agrees f h = absurd (cc)
agrees_with_parameters functions (p ∷ ps) [] scope env agrees f h = absurd (cc)
agrees_with_parameters functions (p ∷ ps) (v ∷ vs) scope env agrees f h =
    let name = none (unless (not (is_taken p.name.text scope)) reason.Twice p.name.place) in
    let type = none (type_text_errors p.shape) in
    let others = none (parameters_errors ps (with_parameter p scope)) in
    let here = left (name && type) others f in
    let free = turned (is_taken p.name.text scope) (passed (not (is_taken p.name.text scope)) reason.Twice p.name.place (left name type here)) in
    let has = type_has p.shape v (right name type here) (left (fits_wanted (shape_of p.shape) v) (all_fit (parameter_shapes ps) vs) h) in
    let one = agrees_with_local functions scope env p.name.text (shape_of p.shape) false v agrees free has in
    let all = agrees_with_parameters functions ps vs (with_parameter p scope) (holding p.name.text v env) one (right (name && type) others f)
    (right (fits_wanted (shape_of p.shape) v) (all_fit (parameter_shapes ps) vs) h) in
    subst (λ own. Agrees functions (with_parameters ps (with_parameter p scope)) (record env { own = own }))
    (append_assoc env.own ((p.name.text, v) ∷ []) (bind ps vs)) all

-- values fit parameters without type errors just where they fit their declared shapes
pub same_fit : (ps : List Declared) (vs : List Value) (scope : Scope) → none (parameters_errors ps scope) ≡ true →
    all_fit (parameter_shapes ps) vs ≡ values_fit ps vs
same_fit [] [] scope f = refl
same_fit [] (v ∷ vs) scope f = refl
same_fit (p ∷ ps) [] scope f = refl
same_fit (p ∷ ps) (v ∷ vs) scope f =
    let name = none (unless (not (is_taken p.name.text scope)) reason.Twice p.name.place) in
    let type = none (type_text_errors p.shape) in
    let others = none (parameters_errors ps (with_parameter p scope)) in
    let is = type_is p.shape (right name type (left (name && type) others f)) in
    ap (λ o. fits_wanted o v && all_fit (parameter_shapes ps) vs) is.is
    ∙ ap (λ b. fits (shape_in p.shape) v && b) (same_fit ps vs (with_parameter p scope) (right (name && type) others f))
