-- Steps only add nodes after those that are there.
use Rattle.std.proofs.Common.{ℕ, Bool, List}
use Rattle.ygg_shape_words.specs.ygg_rules.declared.rule.RuleKind.{RuleKind}
use Rattle.ygg_shape_words.specs.ygg_bank_proofs_Widths.{extends_self}
use Rattle.ygg_shape_words.specs.ygg_bank.Nodes.{Extends}
use Rattle.ygg_shape_words.specs.ygg_bank.declared.node.Id.{Id}
use Rattle.ygg_shape_words.specs.ygg_bank.declared.node.Node.{Node}
use Rattle.ygg_shape_words.proofs.Keeps.{grows_stays}
use Rattle.ygg_shape_cells.specs.Making.{merged_row, written_row, merged_rows, merged, split_at, where_at, zeros, chosen}
use Rattle.ygg_shape_cells.specs.Making.{selected, selected_within, stored_from, stored}
use Rattle.ygg_shape_cells.specs.Lists.{each_from}
use Rattle.ygg_shape_cells.specs.Pruning.{given_row}
use Rattle.ygg_shape_words.specs.Giving.{given}
use Rattle.ygg_shape_cells.specs.declared.terms.SymValue.{SymValue}
use Rattle.ygg_shape_cells.specs.Guarding.{guarded_split, guarded_at, guarded_from, stored_where}
use Rattle.ygg_shape_cells.proofs.Keeps.{
  merged_row_keeps,
  given_from_keeps,
  given_row_keeps,
  written_row_keeps,
  merged_rows_keeps,
  merged_keeps,
  split_at_keeps,
  where_at_keeps,
  zeros_keeps,
  chosen_keeps,
  within_keeps,
  selected_keeps,
  stored_from_keeps,
  stored_keeps,
  guarded_split_keeps,
  guarded_at_keeps,
  guarded_from_keeps,
  stored_where_keeps,
}

module _ (kinds : List RuleKind) where
  pub merged_row_grows : (t : Id) (xs ys : List Id) (nodes : List Node) → Extends nodes (merged_row kinds t xs ys nodes).nodes
  merged_row_grows t xs ys nodes = merged_row_keeps kinds (Extends nodes) (grows_stays kinds nodes) t xs ys nodes (extends_self nodes)

  pub given_from_grows : (t : Id) (on : Bool) (i : ℕ) (row : List Id) (nodes : List Node) →
      Extends nodes (each_from (λ number a. given kinds t on a) i row nodes).nodes
  given_from_grows t on i row nodes = given_from_keeps kinds (Extends nodes) (grows_stays kinds nodes) t on i row nodes (extends_self nodes)

  pub given_row_grows : (t : Id) (on : Bool) (row : List Id) (nodes : List Node) → Extends nodes (given_row kinds t on row nodes).nodes
  given_row_grows t on row nodes = given_row_keeps kinds (Extends nodes) (grows_stays kinds nodes) t on row nodes (extends_self nodes)

  pub written_row_grows : (t m : Id) (xs ys : List Id) (nodes : List Node) → Extends nodes (written_row kinds t m xs ys nodes).nodes
  written_row_grows t m xs ys nodes = written_row_keeps kinds (Extends nodes) (grows_stays kinds nodes) t m xs ys nodes (extends_self nodes)

  pub merged_rows_grows : (t : Id) (xs ys : List (List Id)) (nodes : List Node) → Extends nodes (merged_rows kinds t xs ys nodes).nodes
  merged_rows_grows t xs ys nodes = merged_rows_keeps kinds (Extends nodes) (grows_stays kinds nodes) t xs ys nodes (extends_self nodes)

  pub merged_grows : (t : Id) (one two : SymValue) (nodes : List Node) → Extends nodes (merged kinds t one two nodes).nodes
  merged_grows t one two nodes = merged_keeps kinds (Extends nodes) (grows_stays kinds nodes) t one two nodes (extends_self nodes)

  pub split_at_grows : (at : Id) (width number : ℕ) (one two : List Id) (nodes : List Node) → Extends nodes (split_at kinds at width number one two nodes).nodes
  split_at_grows at width number one two nodes = split_at_keeps kinds (Extends nodes) (grows_stays kinds nodes) at width number one two nodes
      (extends_self nodes)

  pub where_at_grows : (at : Id) (width number : ℕ) (one two : List Id) (nodes : List Node) → Extends nodes (where_at kinds at width number one two nodes).nodes
  where_at_grows at width number one two nodes = where_at_keeps kinds (Extends nodes) (grows_stays kinds nodes) at width number one two nodes
      (extends_self nodes)

  pub zeros_grows : (words width : ℕ) (nodes : List Node) → Extends nodes (zeros kinds words width nodes).nodes
  zeros_grows words width nodes = zeros_keeps kinds (Extends nodes) (grows_stays kinds nodes) words width nodes (extends_self nodes)

  pub chosen_grows : (at : Id) (width : ℕ) (past : List Id) (number : ℕ) (rows : List (List Id)) (nodes : List Node) →
      Extends nodes (chosen kinds at width past number rows nodes).nodes
  chosen_grows at width past number rows nodes = chosen_keeps kinds (Extends nodes) (grows_stays kinds nodes) at width past number rows nodes
      (extends_self nodes)

  pub within_grows : (table : List (List Id)) (depth : ℕ) (at : Id) (nodes : List Node) → Extends nodes (selected_within kinds table depth at nodes).nodes
  within_grows table depth at nodes = within_keeps kinds (Extends nodes) (grows_stays kinds nodes) table depth at nodes (extends_self nodes)

  pub selected_grows : (table : List (List Id)) (at : Id) (nodes : List Node) → Extends nodes (selected kinds table at nodes).nodes
  selected_grows table at nodes = selected_keeps kinds (Extends nodes) (grows_stays kinds nodes) table at nodes (extends_self nodes)

  pub stored_from_grows : (at : Id) (width : ℕ) (new : List Id) (number : ℕ) (rows : List (List Id)) (nodes : List Node) →
      Extends nodes (stored_from kinds at width new number rows nodes).nodes
  stored_from_grows at width new number rows nodes =
      stored_from_keeps kinds (Extends nodes) (grows_stays kinds nodes) at width new number rows nodes (extends_self nodes)

  pub stored_grows : (table : List (List Id)) (at : Id) (new : List Id) (nodes : List Node) → Extends nodes (stored kinds table at new nodes).nodes
  stored_grows table at new nodes = stored_keeps kinds (Extends nodes) (grows_stays kinds nodes) table at new nodes (extends_self nodes)

  pub guarded_split_grows : (t at : Id) (width number : ℕ) (one two : List Id) (nodes : List Node) →
      Extends nodes (guarded_split kinds t at width number one two nodes).nodes
  guarded_split_grows t at width number one two nodes =
      guarded_split_keeps kinds (Extends nodes) (grows_stays kinds nodes) t at width number one two nodes (extends_self nodes)

  pub guarded_at_grows : (t at : Id) (width number : ℕ) (one two : List Id) (nodes : List Node) →
      Extends nodes (guarded_at kinds t at width number one two nodes).nodes
  guarded_at_grows t at width number one two nodes =
      guarded_at_keeps kinds (Extends nodes) (grows_stays kinds nodes) t at width number one two nodes (extends_self nodes)

  pub guarded_from_grows : (t at : Id) (width : ℕ) (new : List Id) (number : ℕ) (rows : List (List Id)) (nodes : List Node) →
      Extends nodes (guarded_from kinds t at width new number rows nodes).nodes
  guarded_from_grows t at width new number rows nodes =
      guarded_from_keeps kinds (Extends nodes) (grows_stays kinds nodes) t at width new number rows nodes (extends_self nodes)

  pub stored_where_grows : (t : Id) (table : List (List Id)) (at : Id) (new : List Id) (nodes : List Node) →
      Extends nodes (stored_where kinds t table at new nodes).nodes
  stored_where_grows t table at new nodes = stored_where_keeps kinds (Extends nodes) (grows_stays kinds nodes) t table at new nodes (extends_self nodes)
