-- Whether all goes where one word is subtracted from another, and products are multiplied out.
use Rattle.std.specs.Prelude.{ℕ, zero, suc, Bool, true, false, ◌==◌, ◌&&◌, if◌then◌else◌, Option, Some, None, List, [], ◌∷◌, ◌++◌, slice_get}
use Rattle.ygg_value.specs.declared.operation.Op.TheVariants.{Mul}
use Rattle.ygg_shape_words.specs.ygg_bank.Nodes.{width_at, widths_of}
use Rattle.ygg_shape_words.specs.ygg_bank.declared.node.Id.{Id}
use Rattle.ygg_shape_words.specs.ygg_bank.declared.node.Node.{Node}
use Rattle.ygg_shape_words.specs.ygg_bank.declared.node.Node.TheVariants.{Bin}
use Rattle.ygg_shape_sums.specs.Gathers.{parts_of, below, found_within}
use Rattle.ygg_shape_sums.specs.Multiplies.{expanded}
use Rattle.ygg_shape_sums.specs.Parts.{part}
use Rattle.ygg_shape_sums.specs.Products.{Product, single, all_gone, products_test}
use Rattle.ygg_shape_sums.specs.Readings.{read, fact}
use Rattle.ygg_shape_sums.specs.declared.cancelling.Outcome.{Outcome}
use Rattle.ygg_shape_sums.specs.declared.cancelling.Outcome.TheVariants as outcome
use Rattle.ygg_shape_sums.specs.declared.cancelling.TheConstants.{CANCEL_LIMIT}
use Rattle.ygg_shape_sums.specs.declared.gathering.TheConstants.{READ_LIMIT}
use Rattle.ygg_shape_sums.specs.declared.multiplying.TheConstants.{MULTIPLY_LIMIT}
use Rattle.ygg_shape_sums.specs.declared.parts.Summand.{Summand}
use Rattle.ygg_shape_sums.specs.declared.reading.Decomposition.{Decomposition}
use Rattle.ygg_shape_sums.specs.declared.reading.Decomposition.TheVariants as reading
use Rattle.ygg_shape_sums.specs.declared.reading.Fact.{Fact}
use Rattle.ygg_shape_sums.specs.declared.reading.TheConstants.{LESS_ONE}

-- whether a term that is read as this, and made by this node, is a product of two terms
abbrev pub is_product : Decomposition → Option Node → Bool
is_product reading.Whole (Some (Bin Mul x y)) = true
is_product r c = false

-- the terms that a part is made of: those of a sum, and the words of a pick
abbrev pub inside : List Node → Summand → List Summand
inside nodes p = parts_of p (read nodes [] (slice_get nodes p.term.0)) ++ below p (slice_get nodes p.term.0)

-- whether a part is a product of two terms
abbrev pub is_product_at : List Node → Summand → Bool
is_product_at nodes p = is_product (read nodes [] (slice_get nodes p.term.0)) (slice_get nodes p.term.0)

-- whether a product of two terms is among the parts, or below sums and picks; as many are looked at as the first number says
abbrev pub has_product : ℕ → List Node → List Summand → Bool
has_product fuel nodes = found_within (is_product_at nodes) (inside nodes) fuel

-- what is known of products that were multiplied out
abbrev pub by_test : Option Id → Outcome
by_test None = outcome.Open
by_test (Some t) = outcome.Split t

abbrev pub outcome_of : List Node → ℕ → Option (List Product) → Outcome
outcome_of nodes w None = outcome.Open
outcome_of nodes w (Some ps) = if all_gone w ps then outcome.Nothing else by_test (products_test nodes w ps)

-- one word less another, multiplied out where the facts hold
abbrev pub remainder : List Node → ℕ → List Fact → Id → Id → Outcome
remainder nodes w facts a b = outcome_of nodes w (expanded MULTIPLY_LIMIT nodes facts (single 1 a ∷ single LESS_ONE b ∷ []) [])

-- whether nothing is left, on both sides of a test where there is one
abbrev pub is_nothing : (List Fact → Bool) → List Fact → Outcome → Bool
is_nothing next facts outcome.Nothing = true
is_nothing next facts outcome.Open = false
is_nothing next facts (outcome.Split t) = next (facts ++ fact t true ∷ []) && next (facts ++ fact t false ∷ [])

-- whether nothing is left of one word less another where the facts hold, with so many splits one within another
unfoldable pub cancels_within : ℕ → List Node → ℕ → Id → Id → List Fact → Bool
cancels_within zero nodes w a b facts = false
cancels_within (suc depth) nodes w a b facts = is_nothing (cancels_within depth nodes w a b) facts (remainder nodes w facts a b)

-- whether products of two terms are in one word or another, and nothing is left of the one less the other
abbrev pub cancels : List Node → Id → Id → Bool
cancels nodes a b =
    if a.0 == b.0 then false
    else if has_product READ_LIMIT nodes (part 1 a ∷ part LESS_ONE b ∷ [])
    then cancels_within CANCEL_LIMIT nodes (width_at (widths_of nodes) a) a b [] else false
