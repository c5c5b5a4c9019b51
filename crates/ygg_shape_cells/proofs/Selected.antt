-- What a reading at a place that may be picks of places is worth, and what it makes.
use Rattle.std.proofs.Common.{◌≡◌, ◌<◌, ◌-◌, ℕ, zero, suc, if◌then◌else◌, Option, Some, List, [], map, replicate, slice_get, unwrap_or}
use Rattle.std.proofs.Common.{refl, sym, ap, ◌∙◌, subst, arith}
use Rattle.ygg_value.specs.Number.{Number}
use Rattle.ygg_shape_words.specs.ygg_rules.declared.rule.RuleKind.{RuleKind}
use Rattle.ygg_shape_words.specs.ygg_bank_proofs_Meaning.{fits_fewer}
use Rattle.ygg_shape_words.specs.ygg_bank_proofs_Widths.{extends_both, has_width, stands, wider, width_fits}
use Rattle.ygg_shape_words.specs.ygg_bank.Makes.{Make}
use Rattle.ygg_shape_words.specs.ygg_bank.Making.{known_in}
use Rattle.ygg_shape_words.specs.ygg_bank.Nodes.{width_at, widths_of, Extends, InOrder, Stands}
use Rattle.ygg_shape_words.specs.ygg_bank.Values.{Inputs, Values, Fits}
use Rattle.ygg_shape_words.specs.ygg_bank.declared.node.Id.{Id}
use Rattle.ygg_shape_words.specs.ygg_bank.declared.node.Node.{Node}
use Rattle.ygg_shape_words.specs.ygg_bank.declared.node.Node.TheVariants.{Input, Const, Bin, Not, Resize, Pick}
use Rattle.ygg_shape_words.proofs.Children.{pick_children}
use Rattle.ygg_shape_words.proofs.Terms.{holds, number_if}
use Rattle.ygg_shape_cells.proofs.Grows.{merged_row_grows, within_grows}
use Rattle.ygg_shape_cells.proofs.Rows.{RowIs, merged_row_is}
use Rattle.ygg_shape_cells.proofs.Tables.{selected_is}
use Rattle.ygg_shape_cells.proofs.Wider.{row_wider, table_wider, words_in_table, width_in_table}
use Rattle.ygg_shape_cells.proofs.Worth.{if_of}
use Rattle.ygg_shape_cells.specs.Making.{merged_row, selected_at, selected_by_number, selected_of, selected_within}
use Rattle.ygg_shape_cells.specs.Terms.{IsTable, numbers_of}

module _ (inputs : Inputs) (v : Values) (kinds : List RuleKind) (n w : ℕ) (table : List (List Id)) where
  -- the numbers of the row at a place with this number
  abbrev row_at : ℕ → List ℕ
  row_at k = unwrap_or (slice_get (map (numbers_of v) table) k) (replicate n 0)

  -- what a step answers, which reads the table at a place
  abbrev ReadsAt : (Id → Make (List Id)) → Type 0
  ReadsAt next = (at : Id) (old : List Node) → InOrder [] old → Stands old at → IsTable old n w table → Fits inputs v (next at old).nodes →
      RowIs inputs v (next at old).nodes n w (row_at (v at.0).bits) (next at old).value

  by_number_is : ReadsAt (selected_by_number kinds table)
  by_number_is at old b s h =
      let d = width_at (widths_of old) at in
      let a = has_width old at s in
      let l = h.limits in
      subst (λ z. Fits inputs v (selected_at kinds table z at d (known_in (slice_get old at.0)) old).nodes →
      RowIs inputs v (selected_at kinds table z at d (known_in (slice_get old at.0)) old).nodes n w (row_at (v at.0).bits)
      (selected_at kinds table z at d (known_in (slice_get old at.0)) old).value) (sym (width_in_table old table n w h))
      (selected_is inputs v kinds n w d at table (known_in (slice_get old at.0)) old refl a (width_fits old at d b a)
      (record { least = omega arith; most = omega arith })
      (words_in_table old table n w h) h.rows)

  of_is : (next : Id → Make (List Id)) → ((at : Id) (nodes : List Node) → Extends nodes (next at nodes).nodes) → ReadsAt next →
      (at : Id) (m : Option Node) (old : List Node) → slice_get old at.0 ≡ m → InOrder [] old → Stands old at → IsTable old n w table →
      Fits inputs v (selected_of kinds table next at m old).nodes →
      RowIs inputs v (selected_of kinds table next at m old).nodes n w (row_at (v at.0).bits) (selected_of kinds table next at m old).value
  of_is next grows reads at (Some (Pick t x y)) old e b s q h =
      let one = next x old in
      let two = next y one.nodes in
      let last = merged_row kinds t one.value two.value two.nodes in
      let g = grows x old in
      let k = grows y one.nodes in
      let second = fits_fewer inputs v two.nodes last.nodes (merged_row_grows kinds t one.value two.value two.nodes) h in
      let first = fits_fewer inputs v one.nodes two.nodes k second in
      let begun = fits_fewer inputs v old one.nodes g first in
      let d = width_at (widths_of old) at in
      let p = pick_children old at t x y d b e (has_width old at s) in
      let c = holds inputs v t in
      let yes = reads x old b (stands old x d p.first) q first in
      let no = reads y one.nodes first.ordered (stands one.nodes y d (wider old one.nodes y d g p.second)) (table_wider old one.nodes n w table g q) second in
      let r = merged_row_is inputs v kinds n w t one.value two.value two.nodes (wider old two.nodes t 1 (extends_both old one.nodes two.nodes g k) p.test)
      (row_wider one.nodes two.nodes n w one.value k yes.shaped) no.shaped h in
      let place : (v at.0).bits ≡ (if c then (v x.0).bits else (v y.0).bits) =
      ap (λ (z : Number). z.bits) (begun.values at.0 (Pick t x y) e) ∙ number_if c (v x.0) (v y.0) in
      record {
        shaped = r.shaped;
        is = r.is ∙ ap (λ z. if c then z else numbers_of v two.value) yes.is ∙ ap (λ z. if c then row_at (v x.0).bits else z) no.is
            ∙ sym (if_of row_at c (v x.0).bits (v y.0).bits) ∙ ap row_at (sym place);
      }
  of_is next grows reads at m old e b s q h = by_number_is at old b s q h

  -- the row is the one at the place
  pub within_is : (depth : ℕ) → ReadsAt (selected_within kinds table depth)
  unfolding selected_within
  within_is zero at old b s q h = by_number_is at old b s q h
  within_is (suc depth) at old b s q h =
      of_is (selected_within kinds table depth) (within_grows kinds table depth) (within_is depth) at (slice_get old at.0) old refl b s q h

module _ (kinds : List RuleKind) (table : List (List Id)) where
  -- what the code makes
  pub within_zero : (depth : ℕ) (at : Id) (old : List Node) → depth ≡ 0 → selected_by_number kinds table at old ≡ selected_within kinds table depth at old
  unfolding selected_within
  within_zero zero at old e = refl
  within_zero (suc depth) at old e = absurd (omega arith)

  pub within_node : (depth : ℕ) (at : Id) (m : Node) (old : List Node) → 0 < depth → slice_get old at.0 ≡ Some m →
      selected_of kinds table (selected_within kinds table (depth - 1)) at (Some m) old ≡ selected_within kinds table depth at old
  unfolding selected_within
  within_node zero at m old l e = absurd (omega arith)
  within_node (suc depth) at m old l e =
      let same : suc depth - 1 ≡ depth = omega arith in
      ap (λ z. selected_of kinds table (selected_within kinds table z) at (Some m) old) same
      ∙ ap (λ z. selected_of kinds table (selected_within kinds table depth) at z old) (sym e)

  -- a place that is no pick
  plain_place : (next : Id → Make (List Id)) (at : Id) (m : Node) (old : List Node) → ((t x y : Id) → m ≡ Pick t x y → ⊥) →
      selected_by_number kinds table at old ≡ selected_of kinds table next at (Some m) old
  plain_place next at (Input k u) old h = refl
  plain_place next at (Const k) old h = refl
  plain_place next at (Bin op x y) old h = refl
  plain_place next at (Not x) old h = refl
  plain_place next at (Resize x u) old h = refl
  plain_place next at (Pick t x y) old h = absurd (h t x y refl)

  pub within_plain : (depth : ℕ) (at : Id) (m : Node) (old : List Node) → 0 < depth → slice_get old at.0 ≡ Some m → ((t x y : Id) → m ≡ Pick t x y → ⊥) →
      selected_by_number kinds table at old ≡ selected_within kinds table depth at old
  within_plain depth at m old l e h = plain_place (selected_within kinds table (depth - 1)) at m old h ∙ within_node depth at m old l e

  -- a place that is a constant
  pub constant_place : (depth : ℕ) (at : Id) (k : Number) (old : List Node) → slice_get old at.0 ≡ Some (Const k) →
      selected_within kinds table depth at old ≡ selected_by_number kinds table at old
  unfolding selected_within
  constant_place zero at k old e = refl
  constant_place (suc depth) at k old e = ap (λ z. selected_of kinds table (selected_within kinds table depth) at z old) e
