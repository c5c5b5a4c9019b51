-- What a node makes in a bank, under a book of these kinds, where the rules say what is made in its stead.
use Rattle.std.specs.Prelude.{ℕ, zero, suc, ◌≡◌, List}
use Rattle.ygg_shape_words.specs.ygg_rules.declared.rule.RuleKind.{RuleKind}
use Rattle.ygg_shape_words.specs.ygg_bank.Makes.{Make, pure, and_make}
use Rattle.ygg_shape_words.specs.ygg_bank.Making.{made}
use Rattle.ygg_shape_words.specs.ygg_bank.declared.node.Id.{Id}
use Rattle.ygg_shape_words.specs.ygg_bank.declared.node.Node.{Node}
use Rattle.ygg_shape_words.specs.ygg_bank.declared.node.Node.TheVariants.{Const}
use Rattle.ygg_shape_words.specs.Picking.{picked}
use Rattle.ygg_shape_nodes.specs.Rules.{instead_of}
use Rattle.ygg_shape_nodes.specs.declared.making.TheConstants.{RULE_DEPTH}
use Rattle.ygg_shape_nodes.specs.declared.rules.Instead.{Instead}
use Rattle.ygg_shape_nodes.specs.declared.rules.Instead.TheVariants as instead

-- the node, or what is made in its stead; nodes in its stead are made by the step
abbrev pub made_as : List RuleKind → (Node → Make Id) → Node → Instead → Make Id
made_as kinds next n instead.Itself = made kinds n
made_as kinds next n (instead.Term a) = pure a
made_as kinds next n (instead.Constant k) = made kinds (Const k)
made_as kinds next n (instead.Other m) = next m
made_as kinds next n (instead.Split t m k) = and_make (next m) (λ one. and_make (next k) (λ two. picked kinds t one two))

-- the node, with so many rules one after another
unfoldable pub made_within : List RuleKind → ℕ → Node → Make Id
made_within kinds zero n = made kinds n
made_within kinds (suc depth) n = λ nodes. made_as kinds (made_within kinds depth) n (instead_of nodes n) nodes

-- the node, by the rules
abbrev pub made_small : List RuleKind → Node → Make Id
made_small kinds n = made_within kinds RULE_DEPTH n

-- the step answers this
pub record IsMade (step : Make Id) (old new : List Node) (answer : Id) : Type 0 where
  pub nodes : new ≡ (step old).nodes
  pub value : answer ≡ (step old).value
