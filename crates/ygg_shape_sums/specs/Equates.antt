-- What the equality of two words makes in a bank, under a book of these kinds.
use Rattle.std.specs.Prelude.{ℕ, zero, suc, Bool, true, false, ◌-◌, ◌≡◌, ◌==◌, if◌then◌else◌, Option, Some, None, List, [], ◌∷◌, ◌++◌}
use Rattle.ygg_value.specs.Words.{word}
use Rattle.ygg_shape_words.specs.ygg_rules.declared.rule.RuleKind.{RuleKind}
use Rattle.ygg_shape_words.specs.ygg_bank.Makes.{Make, pure, and_make}
use Rattle.ygg_shape_words.specs.ygg_bank.Making.{made}
use Rattle.ygg_shape_words.specs.ygg_bank.Nodes.{width_at, widths_of}
use Rattle.ygg_shape_words.specs.ygg_bank.declared.node.Id.{Id}
use Rattle.ygg_shape_words.specs.ygg_bank.declared.node.Node.{Node}
use Rattle.ygg_shape_words.specs.ygg_bank.declared.node.Node.TheVariants.{Const}
use Rattle.ygg_shape_words.specs.Picking.{picked}
use Rattle.ygg_shape_words.specs.Same.{same_words}
use Rattle.ygg_shape_sums.specs.Parts.{Sum, part}
use Rattle.ygg_shape_sums.specs.Readings.{fact}
use Rattle.ygg_shape_sums.specs.Gathers.{gathered_sum, has_sum}
use Rattle.ygg_shape_sums.specs.Remains.{vanishes_left}
use Rattle.ygg_shape_sums.specs.Cancels.{cancels}
use Rattle.ygg_shape_sums.specs.Reduces.{any_product, reduced_sum, loses_products}
use Rattle.ygg_shape_sums.specs.Sharing.{shared_inside}
use Rattle.ygg_shape_sums.specs.Splits.{split_of}
use Rattle.ygg_shape_sums.specs.declared.equating.TheConstants.{EQUATE_LIMIT, PRODUCT_LIMIT}
use Rattle.ygg_shape_sums.specs.declared.gathering.TheConstants.{READ_LIMIT}
use Rattle.ygg_shape_sums.specs.declared.reading.Fact.{Fact}
use Rattle.ygg_shape_sums.specs.declared.sharing.TheConstants.{INSIDE_LIMIT}
use Rattle.ygg_shape_sums.specs.declared.reading.TheConstants.{LESS_ONE}

-- the term that says whether a sum is 0, and how many splits are left then
pub record Found : Type 0 where
  pub term : Id
  pub left : ℕ

abbrev pub found : ℕ → Id → Found
found left term = record { term = term; left = left }

-- a step that says whether a sum is 0, with so many splits, where the facts hold
abbrev pub Step : Type 0
Step = ℕ → List Fact → Sum → Make Found

-- whether a sum is 0, split on a test or not, where the halves are compared by the step
abbrev pub split_as : List RuleKind → ℕ → Step → ℕ → List Fact → Sum → Option Id → Make Found
split_as kinds w next left facts s None = and_make (vanishes_left kinds w facts s) (λ r. pure (found left r))
split_as kinds w next left facts s (Some t) =
    and_make (next (left - 1) (facts ++ fact t true ∷ []) s) (λ one. and_make (next one.left (facts ++ fact t false ∷ []) s)
    (λ two. and_make (picked kinds t one.term two.term) (λ r. pure (found two.left r))))

-- whether a sum is 0 where the facts hold, with so many splits one within another
unfoldable pub vanishes_within : List RuleKind → ℕ → ℕ → Step
vanishes_within kinds w zero left facts s = split_as kinds w (λ left facts s. pure (found left (record { 0 = 0 }))) left facts s None
vanishes_within kinds w (suc depth) left facts s = λ nodes.
    let g = reduced_sum nodes w facts s in split_as kinds w (vanishes_within kinds w depth) left facts g (split_of nodes w left facts g.parts) nodes

-- one word less another
abbrev pub difference : Id → Id → Sum
difference a b = record { number = 0; parts = part 1 a ∷ part LESS_ONE b ∷ [] }

-- whether two words are to be compared as sums: where there are any, and where products go when they are multiplied out
abbrev pub are_sums : List Node → Id → Id → Bool
are_sums nodes a b =
    if a.0 == b.0 then false
    else if has_sum READ_LIMIT nodes (difference a b).parts then true
    else loses_products nodes (width_at (widths_of nodes) a) (gathered_sum nodes [] (difference a b))

-- whether a sum has products of two terms when it is read
abbrev pub reads_product : List Node → Sum → Bool
reads_product nodes s = any_product nodes (gathered_sum nodes [] s).parts

-- whether a sum is 0, with so many splits
abbrev pub vanishes_by : List RuleKind → ℕ → ℕ → Sum → Make Id
vanishes_by kinds w n s = and_make (vanishes_within kinds w n n [] s) (λ r. pure r.term)

-- whether the difference of two words is 0, in which picks are sums
abbrev pub shared_difference : List RuleKind → ℕ → Id → Id → Make Id
shared_difference kinds w a b =
    and_make (shared_inside kinds w INSIDE_LIMIT a) (λ x. and_make (shared_inside kinds w INSIDE_LIMIT b)
    (λ y. vanishes_by kinds w PRODUCT_LIMIT (difference x y)))

-- whether the difference of two words is 0: in which picks are sums, where there are products of two terms
abbrev pub subtracted_at : List RuleKind → ℕ → Id → Id → Make Id
subtracted_at kinds w a b nodes =
    if reads_product nodes (difference a b) then shared_difference kinds w a b nodes else vanishes_by kinds w EQUATE_LIMIT (difference a b) nodes

abbrev pub subtracted : List RuleKind → Id → Id → Make Id
subtracted kinds a b nodes = subtracted_at kinds (width_at (widths_of nodes) a) a b nodes

-- whether two words are equal, where nothing more is known of them: whether their difference is 0, where there are sums, and else as `same` says
abbrev pub compared_words : List RuleKind → Id → Id → Make Id
compared_words kinds a b nodes = if are_sums nodes a b then subtracted kinds a b nodes else same_words kinds a b nodes

-- whether two words are equal: 1, where products are multiplied out and nothing is left of one word less the other, and else as they compare
abbrev pub equated_words : List RuleKind → Id → Id → Make Id
equated_words kinds a b nodes = if cancels nodes a b then made kinds (Const (word 1 1)) nodes else compared_words kinds a b nodes

-- the step answers this, and leaves so many splits
pub record IsFound (step : Make Found) (old new : List Node) (term : Id) (left : ℕ) : Type 0 where
  pub nodes : new ≡ (step old).nodes
  pub value : found left term ≡ (step old).value
