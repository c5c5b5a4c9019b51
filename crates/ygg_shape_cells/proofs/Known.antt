-- What is made at a place that is known, whether a row is there or none.
use Rattle.std.proofs.Common.{◌≡◌, ℕ, List, Option, Some, None, Result, Ok, Err, OnOk, IfOk, slice_get, slice_set, sym, ap, ◌∙◌, subst}
use Rattle.std.proofs.lemmas.Option.{slice_get_within, get_or_from_slice_get}
use Rattle.ygg_shape_words.specs.ygg_rules.declared.rule.RuleKind.{RuleKind}
use Rattle.ygg_shape_words.specs.ygg_bank_proofs_Widths.{extends_self}
use Rattle.ygg_shape_words.specs.ygg_bank.declared.node.Id.{Id}
use Rattle.ygg_shape_words.specs.ygg_bank.declared.node.Node.{Node}
use Rattle.ygg_shape_cells.specs.Making.{merged_row, row_or_zeros, zeros}
use Rattle.ygg_shape_cells.specs.Guarding.{guarded_known}
use Rattle.ygg_shape_cells.specs.Terms.{CanStore, RowsAlike}
use Rattle.ygg_shape_cells.proofs.Wider.{row_at}

-- the row that is written and the row that is there have one shape
pub alike_there : (nodes : List Node) (table : List (List Id)) (row old x y : List Id) (place : ℕ) → CanStore nodes table row →
    slice_get table place ≡ Some old → x ≡ row → y ≡ old → RowsAlike nodes x y
alike_there nodes table row old x y place h there e f =
    let i = h.is in
    let is = sym (get_or_from_slice_get table place old old there) in
    let within = slice_get_within table place old there in
    subst (λ z. RowsAlike nodes z y) (sym e) (subst (RowsAlike nodes row) (sym f) (record {
      words = h.words;
      width = h.width;
      one_is = h.row_is;
      two_is = row_at nodes nodes h.words h.width table place old old (extends_self nodes) i.rows within is;
    }))

module _ {E : Type 0} (kinds : List RuleKind) (bank : List Node) (o : Option (List Id)) where
  -- the row that is there is read, and nothing is made
  pub read_nodes : (words width : ℕ) (row : List Id) (r : Result (List Id) E) → o ≡ Some row → OnOk r (bank ≡ (row_or_zeros kinds words width o bank).nodes)
  read_nodes words width row (Ok a) is = ap (λ z. (row_or_zeros kinds words width z bank).nodes) (sym is)
  read_nodes words width row (Err e) is = tt

  pub read_form : (words width : ℕ) (row : List Id) (r : Result (List Id) E) → o ≡ Some row → IfOk r (λ a. a ≡ row) →
      IfOk r (λ a. a ≡ (row_or_zeros kinds words width o bank).value)
  read_form words width row (Ok a) is h = h ∙ ap (λ z. (row_or_zeros kinds words width z bank).value) (sym is)
  read_form words width row (Err e) is h = tt

  -- of no row zeros are made
  pub past_nodes : (words width : ℕ) (now : List Node) (r : Result (List Id) E) → o ≡ None → OnOk r (now ≡ (zeros kinds words width bank).nodes) →
      OnOk r (now ≡ (row_or_zeros kinds words width o bank).nodes)
  past_nodes words width now r is h = subst (λ z. OnOk r (now ≡ (row_or_zeros kinds words width z bank).nodes)) (sym is) h

  pub past_form : (words width : ℕ) (r : Result (List Id) E) → o ≡ None → IfOk r (λ a. a ≡ (zeros kinds words width bank).value) →
      IfOk r (λ a. a ≡ (row_or_zeros kinds words width o bank).value)
  past_form words width r is h = subst (λ z. IfOk r (λ a. a ≡ (row_or_zeros kinds words width z bank).value)) (sym is) h

  -- where a row is there it is merged
  pub written_nodes : (t : Id) (table : List (List Id)) (row old x y : List Id) (place : ℕ) (now : List Node) (r : Result (List (List Id)) E) →
      o ≡ Some old → x ≡ row → y ≡ old → now ≡ (merged_row kinds t x y bank).nodes → OnOk r (now ≡ (guarded_known kinds t table row place o bank).nodes)
  written_nodes t table row old x y place now (Ok a) is e f h =
      h ∙ ap (λ z. (merged_row kinds t z y bank).nodes) e ∙ ap (λ z. (merged_row kinds t row z bank).nodes) f
      ∙ ap (λ z. (guarded_known kinds t table row place z bank).nodes) (sym is)
  written_nodes t table row old x y place now (Err n) is e f h = tt

  pub written_form : (t : Id) (table : List (List Id)) (row old x y new : List Id) (place : ℕ) (r : Result (List (List Id)) E) →
      o ≡ Some old → x ≡ row → y ≡ old → new ≡ (merged_row kinds t x y bank).value → IfOk r (λ a. a ≡ slice_set table place new) →
      IfOk r (λ a. a ≡ (guarded_known kinds t table row place o bank).value)
  written_form t table row old x y new place (Ok a) is e f h g =
      g ∙ ap (slice_set table place) (h ∙ ap (λ z. (merged_row kinds t z y bank).value) e ∙ ap (λ z. (merged_row kinds t row z bank).value) f)
      ∙ ap (λ z. (guarded_known kinds t table row place z bank).value) (sym is)
  written_form t table row old x y new place (Err n) is e f h g = tt

  -- where none is there nothing is written
  pub kept_nodes : (t : Id) (table : List (List Id)) (row : List Id) (place : ℕ) (r : Result (List (List Id)) E) → o ≡ None →
      OnOk r (bank ≡ (guarded_known kinds t table row place o bank).nodes)
  kept_nodes t table row place (Ok a) is = ap (λ z. (guarded_known kinds t table row place z bank).nodes) (sym is)
  kept_nodes t table row place (Err n) is = tt

  pub kept_form : (t : Id) (table : List (List Id)) (row : List Id) (place : ℕ) (r : Result (List (List Id)) E) → o ≡ None → IfOk r (λ a. a ≡ table) →
      IfOk r (λ a. a ≡ (guarded_known kinds t table row place o bank).value)
  kept_form t table row place (Ok a) is h = h ∙ ap (λ z. (guarded_known kinds t table row place z bank).value) (sym is)
  kept_form t table row place (Err n) is h = tt
