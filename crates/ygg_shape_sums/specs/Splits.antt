-- The test on which the equality of a sum with 0 is split.
use Rattle.std.specs.Prelude.{ℕ, Bool, false, ◌==◌, nat_lt, not, if◌then◌else◌, length, Option, Some, None, List, [], ◌∷◌, slice_get}
use Rattle.ygg_value.specs.Number.{Number}
use Rattle.ygg_shape_words.specs.ygg_bank.Making.{known_in}
use Rattle.ygg_shape_words.specs.ygg_bank.declared.node.Id.{Id}
use Rattle.ygg_shape_words.specs.ygg_bank.declared.node.Node.{Node}
use Rattle.ygg_shape_words.specs.ygg_bank.declared.node.Node.TheVariants.{Pick}
use Rattle.ygg_shape_sums.specs.Cancels.{is_product_at}
use Rattle.ygg_shape_sums.specs.Gathers.{first_id, first_test, is_rich}
use Rattle.ygg_shape_sums.specs.Multiplies.{expanded}
use Rattle.ygg_shape_sums.specs.Parts.{part}
use Rattle.ygg_shape_sums.specs.Products.{Product, product_test}
use Rattle.ygg_shape_sums.specs.Reduces.{any_product, products_of}
use Rattle.ygg_shape_sums.specs.declared.multiplying.TheConstants.{MULTIPLY_LIMIT}
use Rattle.ygg_shape_sums.specs.declared.parts.Summand.{Summand}
use Rattle.ygg_shape_sums.specs.declared.reading.Fact.{Fact}

-- the test of the first pick among the factors of a product of two terms or more, where it is there at all
abbrev pub several_test : List Node → ℕ → Product → Option Id
several_test nodes w p = if nat_lt 1 (length p.factors) then product_test nodes w p else None

-- the test of the first pick among the factors of products of two terms or more
abbrev pub all_several_test : List Node → ℕ → List Product → Option Id
all_several_test nodes w [] = None
all_several_test nodes w (p ∷ ps) = first_id (several_test nodes w p) (all_several_test nodes w ps)

abbrev pub found_test : List Node → ℕ → Option (List Product) → Option Id
found_test nodes w None = None
found_test nodes w (Some ps) = all_several_test nodes w ps

-- the test of the first pick among the factors of the products that a sum is where the facts hold
abbrev pub factors_test : List Node → ℕ → List Fact → List Summand → Option Id
factors_test nodes w facts ps =
    if any_product nodes ps then found_test nodes w (expanded MULTIPLY_LIMIT nodes facts (products_of ps) []) else None

-- whether a constant is 0
abbrev pub is_zero : Option Number → Bool
is_zero None = false
is_zero (Some k) = k.bits == 0

-- whether a pick of two words is a term that is there or not: one of them is 0, and the other no product of two terms
abbrev pub is_optional : List Node → Id → Id → Bool
is_optional nodes x y =
    if is_zero (known_in (slice_get nodes x.0)) then not (is_product_at nodes (part 1 y))
    else if is_zero (known_in (slice_get nodes y.0)) then not (is_product_at nodes (part 1 x)) else false

-- the test of a pick that isn't a term that is there or not
abbrev pub firm_in : List Node → Option Node → Option Id
firm_in nodes (Some (Pick t x y)) = if is_optional nodes x y then None else Some t
firm_in nodes n = None

-- and of a part that is one, where it is there at all
abbrev pub firm_at : List Node → Summand → Option Id
firm_at nodes p = if p.times == 0 then None else firm_in nodes (slice_get nodes p.term.0)

-- the test of the first of these among the parts
abbrev pub firm_test : List Node → List Summand → Option Id
firm_test nodes [] = None
firm_test nodes (p ∷ ps) = first_id (firm_at nodes p) (firm_test nodes ps)

-- the test of the first pick among the parts; beside products of two terms, terms that are there or not stay
abbrev pub parts_test : List Node → List Summand → Option Id
parts_test nodes ps = if any_product nodes ps then firm_test nodes ps else first_test nodes ps

-- the test that the equality of a sum with 0 is split on, where it is: one in a product first
abbrev pub split_of : List Node → ℕ → ℕ → List Fact → List Summand → Option Id
split_of nodes w left facts ps =
    if left == 0 then None else if is_rich nodes ps then first_id (factors_test nodes w facts ps) (parts_test nodes ps) else None
