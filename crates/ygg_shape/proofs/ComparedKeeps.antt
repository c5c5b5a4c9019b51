-- What holds of nodes, and stays as nodes other than inputs are made, holds after comparing; comparing only adds nodes.
use Rattle.std.proofs.Common.{List}
use Rattle.ygg_value.specs.Words.{word}
use Rattle.ygg_value.specs.declared.operation.Op.TheVariants.{And}
use Rattle.ygg_shape_cells.specs.ygg_rules.declared.rule.RuleKind.{RuleKind}
use Rattle.ygg_shape_cells.specs.ygg_bank_proofs_Widths.{extends_self}
use Rattle.ygg_shape_cells.specs.ygg_bank.Making.{made}
use Rattle.ygg_shape_cells.specs.ygg_bank.Nodes.{Extends}
use Rattle.ygg_shape_cells.specs.ygg_bank.declared.node.Id.{Id}
use Rattle.ygg_shape_cells.specs.ygg_bank.declared.node.Node.{Node}
use Rattle.ygg_shape_cells.specs.ygg_bank.declared.node.Node.TheVariants.{Const, Bin}
use Rattle.ygg_shape_cells.specs.ygg_shape_words_proofs_Keeps.{Stays, grows_stays}
use Rattle.ygg_shape_sums.proofs.Keeps.{equated_words_keeps}
use Rattle.ygg_shape_cells.proofs.Keeps.{fold_two_keeps}
use Rattle.ygg_shape_cells.specs.declared.terms.SymValue.{SymValue}
use Rattle.ygg_shape_cells.specs.declared.terms.SymValue.TheVariants as value
use Rattle.ygg_shape.proofs.EquateKeeps.{equated_rows_keeps}
use Rattle.ygg_shape.specs.Comparing.{compared_row, compared_rows, compared}
use Rattle.ygg_shape.specs.Equates.{equated_rows}

module _ (kinds : List RuleKind) (P : List Node → Type 0) (stays : Stays kinds P) where
  pub compared_row_keeps : (s : Id) (xs ys : List Id) (nodes : List Node) → P nodes → P (compared_row kinds s xs ys nodes).nodes
  compared_row_keeps s xs ys nodes p =
      let o = equated_rows kinds xs ys nodes in stays (Bin And s o.value) o.nodes tt (equated_rows_keeps kinds P stays xs ys nodes p)

  pub compared_rows_keeps : (s : Id) (xs ys : List (List Id)) (nodes : List Node) → P nodes → P (compared_rows kinds s xs ys nodes).nodes
  compared_rows_keeps s xs ys nodes p = fold_two_keeps P (compared_row kinds) compared_row_keeps s xs ys nodes p

  pub compared_keeps : (one two : SymValue) (nodes : List Node) → P nodes → P (compared kinds one two nodes).nodes
  compared_keeps (value.Word a) (value.Word b) nodes p = equated_words_keeps kinds P stays a b nodes p
  compared_keeps (value.Row x) (value.Row y) nodes p =
      let o = made kinds (Const (word 1 1)) nodes in compared_row_keeps o.value x y o.nodes (stays (Const (word 1 1)) nodes tt p)
  compared_keeps (value.Table x) (value.Table y) nodes p =
      let o = made kinds (Const (word 1 1)) nodes in compared_rows_keeps o.value x y o.nodes (stays (Const (word 1 1)) nodes tt p)
  compared_keeps one two nodes p = stays (Const (word 1 0)) nodes tt p

module _ (kinds : List RuleKind) where
  pub compared_row_grows : (s : Id) (xs ys : List Id) (nodes : List Node) → Extends nodes (compared_row kinds s xs ys nodes).nodes
  compared_row_grows s xs ys nodes = compared_row_keeps kinds (Extends nodes) (grows_stays kinds nodes) s xs ys nodes (extends_self nodes)

  pub compared_rows_grows : (s : Id) (xs ys : List (List Id)) (nodes : List Node) → Extends nodes (compared_rows kinds s xs ys nodes).nodes
  compared_rows_grows s xs ys nodes = compared_rows_keeps kinds (Extends nodes) (grows_stays kinds nodes) s xs ys nodes (extends_self nodes)

  pub compared_grows : (one two : SymValue) (nodes : List Node) → Extends nodes (compared kinds one two nodes).nodes
  compared_grows one two nodes = compared_keeps kinds (Extends nodes) (grows_stays kinds nodes) one two nodes (extends_self nodes)
