-- What holds of nodes, and stays as nodes other than inputs are made, holds after merging, selecting and storing.
use Rattle.std.proofs.Common.{◌+◌, ◌^◌, ℕ, zero, suc, Bool, true, false, if◌then◌else◌, Option, Some, None, List, [], ◌∷◌, slice_get}
use Rattle.std.specs.Prelude.{nat_lt}
use Rattle.ygg_value.specs.Number.{Number}
use Rattle.ygg_value.specs.Words.{word}
use Rattle.ygg_value.specs.declared.operation.Op.TheVariants.{And}
use Rattle.ygg_shape_words.specs.ygg_rules.declared.rule.RuleKind.{RuleKind}
use Rattle.ygg_shape_words.specs.ygg_bank.Makes.{Make, pure}
use Rattle.ygg_shape_words.specs.ygg_bank.Making.{known_in, made}
use Rattle.ygg_shape_words.specs.ygg_bank.Nodes.{width_at, widths_of}
use Rattle.ygg_shape_words.specs.ygg_bank.declared.node.Id.{Id}
use Rattle.ygg_shape_words.specs.ygg_bank.declared.node.Node.{Node}
use Rattle.ygg_shape_words.specs.ygg_bank.declared.node.Node.TheVariants.{Const, Bin, Pick}
use Rattle.ygg_shape_words.proofs.Keeps.{Stays, picked_keeps, same_words_keeps}
use Rattle.ygg_shape_words.specs.Same.{same_words}
use Rattle.ygg_shape_words.specs.Picking.{picked}
use Rattle.ygg_shape_words.proofs.Givens.{given_keeps}
use Rattle.ygg_shape_words.specs.Giving.{given}
use Rattle.ygg_shape_cells.specs.Pruning.{given_row}
use Rattle.ygg_shape_cells.specs.Lists.{each_two, each_from, fold_two, fold_from}
use Rattle.ygg_shape_cells.specs.Making.{
  merged_row,
  written_row,
  merged_rows,
  merged,
  split_at,
  where_at,
  zeros,
  chosen,
  row_or_zeros,
  selected,
  selected_at,
  selected_by_number,
  selected_of,
  selected_within,
  width_in,
  stored_from,
  stored,
  stored_at,
}
use Rattle.ygg_shape_cells.specs.Terms.{words_in}
use Rattle.ygg_shape_cells.specs.declared.selecting.TheConstants.{PLACE_DEPTH}
use Rattle.ygg_shape_cells.specs.declared.terms.SymValue.{SymValue}
use Rattle.ygg_shape_cells.specs.declared.terms.SymValue.TheVariants as value
use Rattle.ygg_shape_cells.specs.Guarding.{guarded_split, guarded_at, guarded_from, guarded_known, stored_where, stored_where_at}

module _ (P : List Node → Type 0) where
  -- one of two steps
  pub either_keeps : {A : Type 0} (b : Bool) (f g : Make A) (nodes : List Node) → P (f nodes).nodes → P (g nodes).nodes → P ((if b then f else g) nodes).nodes
  either_keeps true f g nodes p q = p
  either_keeps false f g nodes p q = q

  -- steps for the items of lists
  pub each_two_keeps : {A B C : Type 0} (step : A → B → Make C) → ((a : A) (b : B) (nodes : List Node) → P nodes → P (step a b nodes).nodes) →
      (xs : List A) (ys : List B) (nodes : List Node) → P nodes → P (each_two step xs ys nodes).nodes
  each_two_keeps step s [] ys nodes p = p
  each_two_keeps step s (x ∷ xs) [] nodes p = p
  each_two_keeps step s (x ∷ xs) (y ∷ ys) nodes p = each_two_keeps step s xs ys (step x y nodes).nodes (s x y nodes p)

  pub each_from_keeps : {A C : Type 0} (step : ℕ → A → Make C) → ((i : ℕ) (a : A) (nodes : List Node) → P nodes → P (step i a nodes).nodes) →
      (i : ℕ) (xs : List A) (nodes : List Node) → P nodes → P (each_from step i xs nodes).nodes
  each_from_keeps step s i [] nodes p = p
  each_from_keeps step s i (x ∷ xs) nodes p = each_from_keeps step s (i + 1) xs (step i x nodes).nodes (s i x nodes p)

  pub fold_two_keeps : {S A B : Type 0} (step : S → A → B → Make S) →
      ((so_far : S) (a : A) (b : B) (nodes : List Node) → P nodes → P (step so_far a b nodes).nodes) →
      (so_far : S) (xs : List A) (ys : List B) (nodes : List Node) → P nodes → P (fold_two step so_far xs ys nodes).nodes
  fold_two_keeps step s so_far [] ys nodes p = p
  fold_two_keeps step s so_far (x ∷ xs) [] nodes p = p
  fold_two_keeps step s so_far (x ∷ xs) (y ∷ ys) nodes p =
      let o = step so_far x y nodes in fold_two_keeps step s o.value xs ys o.nodes (s so_far x y nodes p)

  pub fold_from_keeps : {S A : Type 0} (step : S → ℕ → A → Make S) →
      ((so_far : S) (i : ℕ) (a : A) (nodes : List Node) → P nodes → P (step so_far i a nodes).nodes) →
      (so_far : S) (i : ℕ) (xs : List A) (nodes : List Node) → P nodes → P (fold_from step so_far i xs nodes).nodes
  fold_from_keeps step s so_far i [] nodes p = p
  fold_from_keeps step s so_far i (x ∷ xs) nodes p =
      let o = step so_far i x nodes in fold_from_keeps step s o.value (i + 1) xs o.nodes (s so_far i x nodes p)

module _ (kinds : List RuleKind) (P : List Node → Type 0) (stays : Stays kinds P) where
  pub merged_row_keeps : (t : Id) (xs ys : List Id) (nodes : List Node) → P nodes → P (merged_row kinds t xs ys nodes).nodes
  merged_row_keeps t xs ys nodes p = each_two_keeps P (picked kinds t) (picked_keeps kinds P stays t) xs ys nodes p

  pub given_from_keeps : (t : Id) (on : Bool) (i : ℕ) (row : List Id) (nodes : List Node) → P nodes →
      P (each_from (λ number a. given kinds t on a) i row nodes).nodes
  given_from_keeps t on i row nodes p = each_from_keeps P (λ number a. given kinds t on a) (λ i a. given_keeps kinds P stays t on a) i row nodes p

  pub given_row_keeps : (t : Id) (on : Bool) (row : List Id) (nodes : List Node) → P nodes → P (given_row kinds t on row nodes).nodes
  given_row_keeps t on row nodes p = given_from_keeps t on 0 row nodes p

  pub written_row_keeps : (t m : Id) (xs ys : List Id) (nodes : List Node) → P nodes → P (written_row kinds t m xs ys nodes).nodes
  written_row_keeps t m xs ys nodes p =
      let o = given_row kinds m true xs nodes in merged_row_keeps t o.value ys o.nodes (given_row_keeps m true xs nodes p)

  pub merged_rows_keeps : (t : Id) (xs ys : List (List Id)) (nodes : List Node) → P nodes → P (merged_rows kinds t xs ys nodes).nodes
  merged_rows_keeps t xs ys nodes p = each_two_keeps P (merged_row kinds t) (merged_row_keeps t) xs ys nodes p

  pub merged_keeps : (t : Id) (one two : SymValue) (nodes : List Node) → P nodes → P (merged kinds t one two nodes).nodes
  merged_keeps t (value.Word a) (value.Word b) nodes p = picked_keeps kinds P stays t a b nodes p
  merged_keeps t (value.Row x) (value.Row y) nodes p = merged_row_keeps t x y nodes p
  merged_keeps t (value.Table x) (value.Table y) nodes p = merged_rows_keeps t x y nodes p
  merged_keeps t one two nodes p = p

  pub split_at_keeps : (at : Id) (width number : ℕ) (one two : List Id) (nodes : List Node) → P nodes → P (split_at kinds at width number one two nodes).nodes
  split_at_keeps at width number one two nodes p =
      let k = made kinds (Const (word width number)) nodes in
      let t = same_words kinds at k.value k.nodes in
      written_row_keeps t.value t.value one two t.nodes (same_words_keeps kinds P stays at k.value k.nodes (stays (Const (word width number)) nodes tt p))

  pub where_at_keeps : (at : Id) (width number : ℕ) (one two : List Id) (nodes : List Node) → P nodes → P (where_at kinds at width number one two nodes).nodes
  where_at_keeps at width number one two nodes p =
      either_keeps P (nat_lt number (2 ^ width)) (split_at kinds at width number one two) (pure two) nodes (split_at_keeps at width number one two nodes p) p

  pub zeros_keeps : (words width : ℕ) (nodes : List Node) → P nodes → P (zeros kinds words width nodes).nodes
  zeros_keeps words width nodes p = stays (Const (word width 0)) nodes tt p

  pub chosen_keeps : (at : Id) (width : ℕ) (past : List Id) (number : ℕ) (rows : List (List Id)) (nodes : List Node) → P nodes →
      P (chosen kinds at width past number rows nodes).nodes
  chosen_keeps at width past number rows nodes p =
      fold_from_keeps P (λ so_far number row. where_at kinds at width number row so_far) (λ so_far number row. where_at_keeps at width number row so_far)
      past number rows nodes p

  row_or_zeros_keeps : (words width : ℕ) (row : Option (List Id)) (nodes : List Node) → P nodes → P (row_or_zeros kinds words width row nodes).nodes
  row_or_zeros_keeps words width (Some row) nodes p = p
  row_or_zeros_keeps words width None nodes p = zeros_keeps words width nodes p

  selected_at_keeps : (table : List (List Id)) (width : ℕ) (at : Id) (digits : ℕ) (k : Option Number) (nodes : List Node) → P nodes →
      P (selected_at kinds table width at digits k nodes).nodes
  selected_at_keeps table width at digits (Some k) nodes p = row_or_zeros_keeps (words_in table) width (slice_get table k.bits) nodes p
  selected_at_keeps table width at digits None nodes p =
      let o = zeros kinds (words_in table) width nodes in chosen_keeps at digits o.value 0 table o.nodes (zeros_keeps (words_in table) width nodes p)

  by_number_keeps : (table : List (List Id)) (at : Id) (nodes : List Node) → P nodes → P (selected_by_number kinds table at nodes).nodes
  by_number_keeps table at nodes p =
      selected_at_keeps table (width_in nodes table) at (width_at (widths_of nodes) at) (known_in (slice_get nodes at.0)) nodes p

  selected_of_keeps : (table : List (List Id)) (next : Id → Make (List Id)) → ((at : Id) (nodes : List Node) → P nodes → P (next at nodes).nodes) →
      (at : Id) (n : Option Node) (nodes : List Node) → P nodes → P (selected_of kinds table next at n nodes).nodes
  selected_of_keeps table next s at (Some (Pick t x y)) nodes p =
      let one = next x nodes in
      let two = next y one.nodes in merged_row_keeps t one.value two.value two.nodes (s y one.nodes (s x nodes p))
  selected_of_keeps table next s at n nodes p = by_number_keeps table at nodes p

  pub within_keeps : (table : List (List Id)) (depth : ℕ) (at : Id) (nodes : List Node) → P nodes → P (selected_within kinds table depth at nodes).nodes
  unfolding selected_within
  within_keeps table zero at nodes p = by_number_keeps table at nodes p
  within_keeps table (suc depth) at nodes p =
      selected_of_keeps table (selected_within kinds table depth) (within_keeps table depth) at (slice_get nodes at.0) nodes p

  pub selected_keeps : (table : List (List Id)) (at : Id) (nodes : List Node) → P nodes → P (selected kinds table at nodes).nodes
  selected_keeps table at nodes p = within_keeps table PLACE_DEPTH at nodes p

  pub stored_from_keeps : (at : Id) (width : ℕ) (new : List Id) (number : ℕ) (rows : List (List Id)) (nodes : List Node) → P nodes →
      P (stored_from kinds at width new number rows nodes).nodes
  stored_from_keeps at width new number rows nodes p =
      each_from_keeps P (λ number old. where_at kinds at width number new old) (λ number old. where_at_keeps at width number new old) number rows nodes p

  stored_at_keeps : (table : List (List Id)) (new : List Id) (at : Id) (digits : ℕ) (k : Option Number) (nodes : List Node) → P nodes →
      P (stored_at kinds table new at digits k nodes).nodes
  stored_at_keeps table new at digits (Some k) nodes p = p
  stored_at_keeps table new at digits None nodes p = stored_from_keeps at digits new 0 table nodes p

  pub stored_keeps : (table : List (List Id)) (at : Id) (new : List Id) (nodes : List Node) → P nodes → P (stored kinds table at new nodes).nodes
  stored_keeps table at new nodes p = stored_at_keeps table new at (width_at (widths_of nodes) at) (known_in (slice_get nodes at.0)) nodes p

  pub guarded_split_keeps : (t at : Id) (width number : ℕ) (one two : List Id) (nodes : List Node) → P nodes →
      P (guarded_split kinds t at width number one two nodes).nodes
  guarded_split_keeps t at width number one two nodes p =
      let k = made kinds (Const (word width number)) nodes in
      let e = same_words kinds at k.value k.nodes in
      let b = made kinds (Bin And t e.value) e.nodes in
      written_row_keeps b.value e.value one two b.nodes
      (stays (Bin And t e.value) e.nodes tt (same_words_keeps kinds P stays at k.value k.nodes (stays (Const (word width number)) nodes tt p)))

  pub guarded_at_keeps : (t at : Id) (width number : ℕ) (one two : List Id) (nodes : List Node) → P nodes →
      P (guarded_at kinds t at width number one two nodes).nodes
  guarded_at_keeps t at width number one two nodes p =
      either_keeps P (nat_lt number (2 ^ width)) (guarded_split kinds t at width number one two) (pure two) nodes
      (guarded_split_keeps t at width number one two nodes p) p

  pub guarded_from_keeps : (t at : Id) (width : ℕ) (new : List Id) (number : ℕ) (rows : List (List Id)) (nodes : List Node) → P nodes →
      P (guarded_from kinds t at width new number rows nodes).nodes
  guarded_from_keeps t at width new number rows nodes p =
      each_from_keeps P (λ number old. guarded_at kinds t at width number new old)
      (λ number old. guarded_at_keeps t at width number new old) number rows nodes p

  guarded_known_keeps : (t : Id) (table : List (List Id)) (new : List Id) (k : ℕ) (o : Option (List Id)) (nodes : List Node) → P nodes →
      P (guarded_known kinds t table new k o nodes).nodes
  guarded_known_keeps t table new k (Some old) nodes p = merged_row_keeps t new old nodes p
  guarded_known_keeps t table new k None nodes p = p

  stored_where_at_keeps : (t : Id) (table : List (List Id)) (new : List Id) (at : Id) (digits : ℕ) (k : Option Number) (nodes : List Node) → P nodes →
      P (stored_where_at kinds t table new at digits k nodes).nodes
  stored_where_at_keeps t table new at digits (Some k) nodes p = guarded_known_keeps t table new k.bits (slice_get table k.bits) nodes p
  stored_where_at_keeps t table new at digits None nodes p = guarded_from_keeps t at digits new 0 table nodes p

  pub stored_where_keeps : (t : Id) (table : List (List Id)) (at : Id) (new : List Id) (nodes : List Node) → P nodes →
      P (stored_where kinds t table at new nodes).nodes
  stored_where_keeps t table at new nodes p =
      stored_where_at_keeps t table new at (width_at (widths_of nodes) at) (known_in (slice_get nodes at.0)) nodes p
