-- Sums in place of picks between a term and that term with more added to it.
use Rattle.std.specs.Prelude.{ℕ, zero, suc, Bool, true, false, ◌==◌, if◌then◌else◌, Option, Some, None, List, slice_get}
use Rattle.ygg_value.specs.Words.{word}
use Rattle.ygg_value.specs.declared.operation.Op.TheVariants.{Add}
use Rattle.ygg_shape_words.specs.ygg_rules.declared.rule.RuleKind.{RuleKind}
use Rattle.ygg_shape_words.specs.ygg_bank.Makes.{Make, pure, and_make}
use Rattle.ygg_shape_words.specs.ygg_bank.Making.{made}
use Rattle.ygg_shape_words.specs.ygg_bank.declared.node.Id.{Id}
use Rattle.ygg_shape_words.specs.ygg_bank.declared.node.Node.{Node}
use Rattle.ygg_shape_words.specs.ygg_bank.declared.node.Node.TheVariants.{Const, Bin, Pick}
use Rattle.ygg_shape_words.specs.Picking.{picked}
use Rattle.ygg_shape_sums.specs.declared.sharing.Sharing.{Sharing}
use Rattle.ygg_shape_sums.specs.declared.sharing.Sharing.TheVariants as sharing
use Rattle.ygg_shape_sums.specs.declared.sharing.TheConstants.{SHARE_LIMIT}

-- what a sum adds to this term, where that is one of its operands
abbrev pub added_to : Id → Option Node → Option Id
added_to s (Some (Bin Add x y)) = if x.0 == s.0 then Some y else if y.0 == s.0 then Some x else None
added_to s n = None

-- a pick of two words, to one of which more is added in the other where the test is 1, or where it is 0, or of any two
abbrev pub shared_pick : Id → Id → Id → Option Id → Option Id → Sharing
shared_pick t x y (Some m) other = sharing.More t true y m
shared_pick t x y None (Some m) = sharing.More t false x m
shared_pick t x y None None = sharing.Either t x y

-- whether a term is a pick
abbrev pub is_pick : Option Node → Bool
is_pick (Some (Pick t x y)) = true
is_pick n = false

-- a sum, one of whose operands is a pick
abbrev pub shared_sum : Id → Id → Bool → Bool → Sharing
shared_sum x y one true = sharing.Beside x y
shared_sum x y true false = sharing.Beside y x
shared_sum x y false false = sharing.Apart

-- how a term is a sum
abbrev pub sharing_of : List Node → Option Node → Sharing
sharing_of nodes (Some (Bin Add x y)) = shared_sum x y (is_pick (slice_get nodes x.0)) (is_pick (slice_get nodes y.0))
sharing_of nodes (Some (Pick t x y)) = shared_pick t x y (added_to y (slice_get nodes x.0)) (added_to x (slice_get nodes y.0))
sharing_of nodes n = sharing.Apart

-- one of two, as a digit says
abbrev pub either : Bool → Id → Id → Id
either d a b = if d then a else b

-- a word, and another one where the test is the digit
abbrev pub more_where : List RuleKind → ℕ → Id → Bool → Id → Id → Make Id
more_where kinds w t d m s =
    and_make (made kinds (Const (word w 0))) (λ z. and_make (picked kinds t (either d m z) (either d z m)) (λ p. made kinds (Bin Add s p)))

-- the sum that a term is, where the step goes on with what it is added to
abbrev pub shared_as : List RuleKind → ℕ → (Id → Make Id) → Id → Sharing → Make Id
shared_as kinds w next a sharing.Apart = pure a
shared_as kinds w next a (sharing.Either t x y) = pure a
shared_as kinds w next a (sharing.Beside s p) = and_make (next p) (λ q. made kinds (Bin Add s q))
shared_as kinds w next a (sharing.More t d s m) = and_make (next s) (more_where kinds w t d m)

-- the term, where picks are sums, as many one within another as the number says
unfoldable pub shared_within : List RuleKind → ℕ → ℕ → Id → Make Id
shared_within kinds w zero a = pure a
shared_within kinds w (suc depth) a = λ nodes. shared_as kinds w (shared_within kinds w depth) a (sharing_of nodes (slice_get nodes a.0)) nodes

-- a pick of any two words is one of the words that the step makes of them
abbrev pub inside_as : List RuleKind → ℕ → (Id → Make Id) → Id → Sharing → Make Id
inside_as kinds w next a (sharing.Either t x y) = and_make (next x) (λ p. and_make (next y) (λ q. picked kinds t p q))
inside_as kinds w next a r = shared_within kinds w SHARE_LIMIT a

-- the term, where picks are sums, also below other picks, as many one within another as the number says
unfoldable pub shared_inside : List RuleKind → ℕ → ℕ → Id → Make Id
shared_inside kinds w zero a = shared_within kinds w SHARE_LIMIT a
shared_inside kinds w (suc depth) a = λ nodes. inside_as kinds w (shared_inside kinds w depth) a (sharing_of nodes (slice_get nodes a.0)) nodes
