-- A sum in which products were multiplied out, where none of them is left.
use Rattle.std.specs.Prelude.{ℕ, Bool, true, false, ◌%◌, ◌^◌, ◌==◌, if◌then◌else◌, Option, Some, None, List, [], ◌∷◌}
use Rattle.ygg_shape_words.specs.ygg_bank.declared.node.Id.{Id}
use Rattle.ygg_shape_words.specs.ygg_bank.declared.node.Node.{Node}
use Rattle.ygg_shape_sums.specs.Cancels.{is_product_at}
use Rattle.ygg_shape_sums.specs.Gathers.{gathered_sum}
use Rattle.ygg_shape_sums.specs.Multiplies.{expanded}
use Rattle.ygg_shape_sums.specs.Parts.{Sum, part, empty, with_part, with_number}
use Rattle.ygg_shape_sums.specs.Products.{Product, single}
use Rattle.ygg_shape_sums.specs.declared.multiplying.TheConstants.{MULTIPLY_LIMIT}
use Rattle.ygg_shape_sums.specs.declared.parts.Summand.{Summand}
use Rattle.ygg_shape_sums.specs.declared.reading.Fact.{Fact}

-- whether a product of two terms is among the parts
abbrev pub any_product : List Node → List Summand → Bool
any_product nodes [] = false
any_product nodes (p ∷ ps) = if is_product_at nodes p then true else any_product nodes ps

-- the parts as products that are still to be read
abbrev pub products_of : List Summand → List Product
products_of [] = []
products_of (p ∷ ps) = single p.times p.term ∷ products_of ps

-- a product of these factors, so many times, added to a sum, where it is a term or a number
abbrev pub with_few : ℕ → List Id → Sum → Option Sum
with_few n [] s = Some (with_number n s)
with_few n (a ∷ []) s = Some (with_part (part n a) s)
with_few n fs s = None

-- a product, added to a sum, where it is a term or a number, or there 0 times
abbrev pub with_one : ℕ → Product → Sum → Option Sum
with_one w p s = if p.times % 2 ^ w == 0 then Some s else with_few p.times p.factors s

abbrev pub and_then : Option Sum → (Sum → Option Sum) → Option Sum
and_then None next = None
and_then (Some s) next = next s

-- products, added to a sum, where each is a term or a number, or there 0 times
abbrev pub summed : ℕ → List Product → Sum → Option Sum
summed w [] s = Some s
summed w (p ∷ ps) s = and_then (with_one w p s) (summed w ps)

abbrev pub summed_from : ℕ → ℕ → Option (List Product) → Option Sum
summed_from w n None = None
summed_from w n (Some ps) = summed w ps (empty n)

-- the sum, multiplied out where the facts hold, where no product is left
abbrev pub multiplied : List Node → ℕ → List Fact → Sum → Option Sum
multiplied nodes w facts s = summed_from w s.number (expanded MULTIPLY_LIMIT nodes facts (products_of s.parts) [])

abbrev pub is_there : Option Sum → Bool
is_there None = false
is_there (Some s) = true

abbrev pub or_else : Option Sum → Sum → Sum
or_else None s = s
or_else (Some t) s = t

-- a sum that was read, multiplied out where it has products and none is left then, and else as it is
abbrev pub reduced : List Node → ℕ → List Fact → Sum → Sum
reduced nodes w facts s = if any_product nodes s.parts then or_else (multiplied nodes w facts s) s else s

-- the sum, read, and multiplied out where no product is left then
abbrev pub reduced_sum : List Node → ℕ → List Fact → Sum → Sum
reduced_sum nodes w facts s = reduced nodes w facts (gathered_sum nodes facts s)

-- whether a sum has products of two terms, and none is left where it is multiplied out
abbrev pub loses_products : List Node → ℕ → Sum → Bool
loses_products nodes w s = if any_product nodes s.parts then is_there (multiplied nodes w [] s) else false
