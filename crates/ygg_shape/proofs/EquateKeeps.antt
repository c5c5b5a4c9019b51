-- What holds of nodes, and stays as nodes other than inputs are made, holds after rows are equated.
use Rattle.std.proofs.Common.{ℕ, zero, suc, true, false, Option, Some, None, List, [], ◌∷◌}
use Rattle.ygg_value.specs.Words.{word}
use Rattle.ygg_value.specs.declared.operation.Op.TheVariants.{And}
use Rattle.ygg_shape_sums.specs.ygg_rules.declared.rule.RuleKind.{RuleKind}
use Rattle.ygg_shape_sums.specs.ygg_bank_proofs_Widths.{extends_self}
use Rattle.ygg_shape_sums.specs.ygg_bank.Makes.{Make}
use Rattle.ygg_shape_sums.specs.ygg_bank.Making.{made}
use Rattle.ygg_shape_sums.specs.ygg_bank.Nodes.{Extends}
use Rattle.ygg_shape_sums.specs.ygg_bank.declared.node.Id.{Id}
use Rattle.ygg_shape_sums.specs.ygg_bank.declared.node.Node.{Node}
use Rattle.ygg_shape_sums.specs.ygg_bank.declared.node.Node.TheVariants.{Const, Bin}
use Rattle.ygg_shape_sums.specs.ygg_shape_words.Picking.{picked}
use Rattle.ygg_shape_sums.specs.ygg_shape_words_proofs_Keeps.{Stays, grows_stays, picked_keeps}
use Rattle.ygg_shape_sums.proofs.Keeps.{equated_words_keeps}
use Rattle.ygg_shape_sums.specs.Equates.{equated_words}
use Rattle.ygg_shape_cells.specs.Pairs.{differing, sides, without}
use Rattle.ygg_shape_cells.specs.Sharing.{shared}
use Rattle.ygg_shape_cells.specs.declared.pairs.Pair.{Pair}
use Rattle.ygg_shape.specs.Equates.{joined, all_joined, one_by_one, split_on, equal_within, equated_rows}
use Rattle.ygg_shape.specs.declared.equating.TheConstants.{ROW_DEPTH}

-- a step that says whether the words of each pair are equal
abbrev pub Step : Type 0
Step = List Pair → Make Id

module _ (kinds : List RuleKind) (P : List Node → Type 0) (stays : Stays kinds P) where
  joined_keeps : (so_far : Id) (q : Pair) (nodes : List Node) → P nodes → P (joined kinds so_far q nodes).nodes
  joined_keeps so_far q nodes p =
      let o = equated_words kinds q.one q.two nodes in stays (Bin And so_far o.value) o.nodes tt (equated_words_keeps kinds P stays q.one q.two nodes p)

  all_joined_keeps : (so_far : Id) (qs : List Pair) (nodes : List Node) → P nodes → P (all_joined kinds so_far qs nodes).nodes
  all_joined_keeps so_far [] nodes p = p
  all_joined_keeps so_far (q ∷ qs) nodes p =
      let o = joined kinds so_far q nodes in all_joined_keeps o.value qs o.nodes (joined_keeps so_far q nodes p)

  abbrev StepKeeps : Step → Type 0
  StepKeeps next = (qs : List Pair) (nodes : List Node) → P nodes → P (next qs nodes).nodes

  one_by_one_keeps : StepKeeps (one_by_one kinds)
  one_by_one_keeps qs nodes p =
      let o = made kinds (Const (word 1 1)) nodes in all_joined_keeps o.value qs o.nodes (stays (Const (word 1 1)) nodes tt p)

  split_on_keeps : (next : Step) (first : List Node) (qs : List Pair) (n : Option Id) (nodes : List Node) → StepKeeps next → P nodes →
      P (split_on kinds next first qs n nodes).nodes
  split_on_keeps next first qs None nodes g p = one_by_one_keeps qs nodes p
  split_on_keeps next first qs (Some t) nodes g p =
      let o = next (sides first t true qs) nodes in
      let m = next (sides first t false qs) o.nodes in
      let s = picked kinds t o.value m.value m.nodes in
      let r = next (without first t qs) s.nodes in
      stays (Bin And s.value r.value) r.nodes tt (g (without first t qs) s.nodes (picked_keeps kinds P stays t o.value m.value m.nodes
      (g (sides first t false qs) o.nodes (g (sides first t true qs) nodes p))))

  equal_within_keeps : (depth : ℕ) → StepKeeps (equal_within kinds depth)
  unfolding equal_within
  equal_within_keeps zero qs nodes p = one_by_one_keeps qs nodes p
  equal_within_keeps (suc depth) qs nodes p =
      split_on_keeps (equal_within kinds depth) nodes qs (shared nodes qs) nodes (equal_within_keeps depth) p

  pub equated_rows_keeps : (one two : List Id) (nodes : List Node) → P nodes → P (equated_rows kinds one two nodes).nodes
  equated_rows_keeps one two nodes p = equal_within_keeps ROW_DEPTH (differing one two) nodes p

module _ (kinds : List RuleKind) where
  abbrev only : (first : List Node) → Stays kinds (Extends first)
  only first = grows_stays kinds first

  pub joined_grows : (so_far : Id) (q : Pair) (nodes : List Node) → Extends nodes (joined kinds so_far q nodes).nodes
  joined_grows so_far q nodes = joined_keeps kinds (Extends nodes) (only nodes) so_far q nodes (extends_self nodes)

  pub all_joined_grows : (so_far : Id) (qs : List Pair) (nodes : List Node) → Extends nodes (all_joined kinds so_far qs nodes).nodes
  all_joined_grows so_far qs nodes = all_joined_keeps kinds (Extends nodes) (only nodes) so_far qs nodes (extends_self nodes)

  pub equal_within_grows : (depth : ℕ) (qs : List Pair) (nodes : List Node) → Extends nodes (equal_within kinds depth qs nodes).nodes
  equal_within_grows depth qs nodes = equal_within_keeps kinds (Extends nodes) (only nodes) depth qs nodes (extends_self nodes)

  pub equated_rows_grows : (one two : List Id) (nodes : List Node) → Extends nodes (equated_rows kinds one two nodes).nodes
  equated_rows_grows one two nodes = equated_rows_keeps kinds (Extends nodes) (only nodes) one two nodes (extends_self nodes)
