-- A sum in which products were multiplied out, where those that are left are terms.
use Rattle.std.specs.Prelude.{ℕ, ◌%◌, ◌^◌, ◌==◌, if◌then◌else◌, Option, Some, None, List, [], ◌∷◌}
use Rattle.ygg_value.specs.declared.operation.Op.TheVariants.{Mul}
use Rattle.ygg_shape_words.specs.ygg_rules.declared.rule.RuleKind.{RuleKind}
use Rattle.ygg_shape_words.specs.ygg_bank.Makes.{Make, pure, and_make}
use Rattle.ygg_shape_words.specs.ygg_bank.Making.{made}
use Rattle.ygg_shape_words.specs.ygg_bank.declared.node.Id.{Id}
use Rattle.ygg_shape_words.specs.ygg_bank.declared.node.Node.TheVariants.{Bin}
use Rattle.ygg_shape_sums.specs.Multiplies.{expanded}
use Rattle.ygg_shape_sums.specs.Parts.{Sum, part, empty, with_part, with_number}
use Rattle.ygg_shape_sums.specs.Products.{Product}
use Rattle.ygg_shape_sums.specs.Reduces.{any_product, products_of}
use Rattle.ygg_shape_sums.specs.Sides.{vanishes}
use Rattle.ygg_shape_sums.specs.declared.multiplying.TheConstants.{MULTIPLY_LIMIT}
use Rattle.ygg_shape_sums.specs.declared.reading.Fact.{Fact}

-- a word times these, one after another
abbrev pub times_all : List RuleKind → Id → List Id → Make Id
times_all kinds a [] = pure a
times_all kinds a (b ∷ bs) = and_make (made kinds (Bin Mul a b)) (λ m. times_all kinds m bs)

-- a product of these factors, so many times, added to a sum as a term
abbrev pub with_factors : List RuleKind → ℕ → List Id → Sum → Make Sum
with_factors kinds n [] s = pure (with_number n s)
with_factors kinds n (a ∷ fs) s = and_make (times_all kinds a fs) (λ m. pure (with_part (part n m) s))

-- a product, added to a sum as a term, where it is there at all
abbrev pub with_term : List RuleKind → ℕ → Product → Sum → Make Sum
with_term kinds w p s = if p.times % 2 ^ w == 0 then pure s else with_factors kinds p.times p.factors s

-- products, added to a sum as terms
abbrev pub with_terms : List RuleKind → ℕ → List Product → Sum → Make Sum
with_terms kinds w [] s = pure s
with_terms kinds w (p ∷ ps) s = and_make (with_term kinds w p s) (with_terms kinds w ps)

abbrev pub remains_of : List RuleKind → ℕ → Sum → Option (List Product) → Make Sum
remains_of kinds w s None = pure s
remains_of kinds w s (Some ps) = with_terms kinds w ps (empty s.number)

-- a sum, multiplied out where the facts hold and it has products
abbrev pub remains : List RuleKind → ℕ → List Fact → Sum → Make Sum
remains kinds w facts s nodes =
    remains_of kinds w s (if any_product nodes s.parts then expanded MULTIPLY_LIMIT nodes facts (products_of s.parts) [] else None) nodes

-- whether a sum is 0 where the facts hold, multiplied out
abbrev pub vanishes_left : List RuleKind → ℕ → List Fact → Sum → Make Id
vanishes_left kinds w facts s = and_make (remains kinds w facts s) (vanishes kinds w)
