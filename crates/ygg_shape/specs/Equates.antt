-- What the equality of two rows makes in a bank, under a book of these kinds.
use Rattle.std.specs.Prelude.{ℕ, zero, suc, ◌≡◌, true, false, Option, Some, None, List, [], ◌∷◌, map}
use Rattle.std.specs.Str.{bytes_eq}
use Rattle.ygg_value.specs.Words.{word, bit_of}
use Rattle.ygg_value.specs.declared.operation.Op.TheVariants.{And}
use Rattle.ygg_shape_sums.specs.ygg_rules.declared.rule.RuleKind.{RuleKind}
use Rattle.ygg_shape_sums.specs.ygg_bank.Makes.{Make, pure, and_make}
use Rattle.ygg_shape_sums.specs.ygg_bank.Making.{made}
use Rattle.ygg_shape_sums.specs.ygg_bank.Values.{Inputs, InputsFit, value_of}
use Rattle.ygg_shape_sums.specs.ygg_bank.declared.node.Id.{Id}
use Rattle.ygg_shape_sums.specs.ygg_bank.declared.node.Node.{Node}
use Rattle.ygg_shape_sums.specs.ygg_bank.declared.node.Node.TheVariants.{Const, Bin}
use Rattle.ygg_shape_sums.specs.ygg_shape_words.Picking.{picked}
use Rattle.ygg_shape_sums.specs.Equates.{equated_words}
use Rattle.ygg_shape_cells.specs.Pairs.{differing, sides, without}
use Rattle.ygg_shape_cells.specs.Sharing.{shared}
use Rattle.ygg_shape_cells.specs.declared.pairs.Pair.{Pair}
use Rattle.ygg_shape.specs.declared.equating.TheConstants.{ROW_DEPTH}

-- whether the words of a pair are equal, joined to what is known so far
abbrev pub joined : List RuleKind → Id → Pair → Make Id
joined kinds so_far p = and_make (equated_words kinds p.one p.two) (λ same. made kinds (Bin And so_far same))

-- whether the words of each pair are equal, joined to what is known so far, pair by pair
abbrev pub all_joined : List RuleKind → Id → List Pair → Make Id
all_joined kinds so_far [] = pure so_far
all_joined kinds so_far (p ∷ ps) = and_make (joined kinds so_far p) (λ next. all_joined kinds next ps)

-- the same from the constant 1 on
abbrev pub one_by_one : List RuleKind → List Pair → Make Id
one_by_one kinds ps = and_make (made kinds (Const (word 1 1))) (λ so_far. all_joined kinds so_far ps)

-- whether the words of each pair are equal: of pairs that have the test those sides where it is 1, or else the others, and the pairs that don't have it;
-- fewer pairs are compared by the step. The pairs stand among the first nodes.
abbrev pub split_on : List RuleKind → (List Pair → Make Id) → List Node → List Pair → Option Id → Make Id
split_on kinds next first ps None = one_by_one kinds ps
split_on kinds next first ps (Some t) =
    and_make (next (sides first t true ps)) (λ yes. and_make (next (sides first t false ps)) (λ no. and_make (picked kinds t yes no)
    (λ split. and_make (next (without first t ps)) (λ rest. made kinds (Bin And split rest)))))

-- whether the words of each pair are equal, with so many splits one within another
unfoldable pub equal_within : List RuleKind → ℕ → List Pair → Make Id
equal_within kinds zero ps = one_by_one kinds ps
equal_within kinds (suc depth) ps = λ nodes. split_on kinds (equal_within kinds depth) nodes ps (shared nodes ps) nodes

-- whether two rows are equal, word by word
abbrev pub equated_rows : List RuleKind → List Id → List Id → Make Id
equated_rows kinds one two = equal_within kinds ROW_DEPTH (differing one two)

-- in every environment the answer is 1 where the two rows have the same numbers, and else 0
abbrev pub AreSame : List Node → List Id → List Id → Id → Type 0
AreSame nodes one two answer =
    (inputs : Inputs) → InputsFit inputs nodes
    → value_of inputs nodes answer.0
    ≡ word 1 (bit_of (bytes_eq (map (λ a. (value_of inputs nodes a.0).bits) one) (map (λ a. (value_of inputs nodes a.0).bits) two)))

-- the step answers this
pub record IsMade (step : Make Id) (old new : List Node) (answer : Id) : Type 0 where
  pub nodes : new ≡ (step old).nodes
  pub value : answer ≡ (step old).value
