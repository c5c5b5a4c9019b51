-- Picks and comparisons only add nodes after those that are there.
use Rattle.std.proofs.Common.{ℕ, List}
use Rattle.ygg_rules.specs.declared.rule.RuleKind.{RuleKind}
use Rattle.ygg_bank.proofs.Widths.{extends_self}
use Rattle.ygg_bank.specs.Nodes.{Extends}
use Rattle.ygg_bank.specs.declared.node.Id.{Id}
use Rattle.ygg_bank.specs.declared.node.Node.{Node}
use Rattle.ygg_shape_words.proofs.Keeps.{Step, grows_stays, picked_keeps, same_within_keeps, same_words_keeps}
use Rattle.ygg_shape_words.specs.Picking.{picked}
use Rattle.ygg_shape_words.specs.Same.{SoFar, same_within, same_words}

abbrev pub OnlyGrows : Step → Type 0
OnlyGrows next = (s : SoFar) (a b : Id) (nodes : List Node) → Extends nodes (next s a b nodes).nodes

module _ (kinds : List RuleKind) where
  pub picked_grows : (t a b : Id) (nodes : List Node) → Extends nodes (picked kinds t a b nodes).nodes
  picked_grows t a b nodes = picked_keeps kinds (Extends nodes) (grows_stays kinds nodes) t a b nodes (extends_self nodes)

  pub same_within_grows : (depth : ℕ) → OnlyGrows (same_within kinds depth)
  same_within_grows depth s a b nodes = same_within_keeps kinds (Extends nodes) (grows_stays kinds nodes) depth s a b nodes (extends_self nodes)

  pub same_words_grows : (a b : Id) (nodes : List Node) → Extends nodes (same_words kinds a b nodes).nodes
  same_words_grows a b nodes = same_words_keeps kinds (Extends nodes) (grows_stays kinds nodes) a b nodes (extends_self nodes)
