-- The test on which a sum is split is a single digit.
use Rattle.std.proofs.Common.{◌≡◌, ◌==◌, ℕ, Bool, true, false, if◌then◌else◌, Option, Some, None, List, [], ◌∷◌, All, length, slice_get, refl, subst}
use Rattle.std.specs.Prelude.{nat_lt}
use Rattle.std.proofs.lemmas.List.Elements.{All-head, All-tail, All-nil}
use Rattle.ygg_shape_words.specs.ygg_bank.Nodes.{HasWidth, InOrder}
use Rattle.ygg_shape_words.specs.ygg_bank.declared.node.Id.{Id}
use Rattle.ygg_shape_words.specs.ygg_bank.declared.node.Node.{Node}
use Rattle.ygg_shape_words.specs.ygg_bank.declared.node.Node.TheVariants.{Pick}
use Rattle.ygg_shape_words.proofs.Children.{pick_children}
use Rattle.ygg_shape_sums.proofs.Factors.{either_digit, product_digit, expanded_fit}
use Rattle.ygg_shape_sums.proofs.Fit.{DigitIn, first_digit}
use Rattle.ygg_shape_sums.proofs.Reduces.{products_fit}
use Rattle.ygg_shape_sums.specs.Gathers.{first_id, first_test, is_rich}
use Rattle.ygg_shape_sums.specs.Multiplies.{expanded}
use Rattle.ygg_shape_sums.specs.Parts.{PartsFit, PartsAlike}
use Rattle.ygg_shape_sums.specs.Products.{Product, ProductFits, ProductsAlike, product_test}
use Rattle.ygg_shape_sums.specs.Reduces.{any_product, products_of}
use Rattle.ygg_shape_sums.specs.Splits.{several_test, all_several_test, found_test, factors_test, is_optional, firm_in, firm_at, firm_test, parts_test, split_of}
use Rattle.ygg_shape_sums.specs.declared.multiplying.TheConstants.{MULTIPLY_LIMIT}
use Rattle.ygg_shape_sums.specs.declared.parts.Summand.{Summand}
use Rattle.ygg_shape_sums.specs.declared.reading.Fact.{Fact}

module _ (nodes : List Node) (w : ℕ) where
  kept_digit : (n : Option Id) (c : Bool) → DigitIn nodes w n → DigitIn nodes w (if c then n else None)
  kept_digit n true h = h
  kept_digit n false h = tt

  all_several_digit : (ps : List Product) → InOrder [] nodes → All (ProductFits nodes w) ps → DigitIn nodes w (all_several_test nodes w ps)
  all_several_digit [] o h = tt
  all_several_digit (p ∷ ps) o h =
      either_digit nodes w (several_test nodes w p) (all_several_test nodes w ps)
      (kept_digit (product_test nodes w p) (nat_lt 1 (length p.factors)) (product_digit nodes w p o (All-head (ProductFits nodes w) p ps h)))
      (all_several_digit ps o (All-tail (ProductFits nodes w) p ps h))

  -- what was multiplied out has the width
  pub parts_expanded_fit : (facts : List Fact) (ps : List Summand) (qs : List Product) → InOrder [] nodes → PartsFit nodes w ps →
      expanded MULTIPLY_LIMIT nodes facts (products_of ps) [] ≡ Some qs → All (ProductFits nodes w) qs
  parts_expanded_fit facts ps qs o h e =
      expanded_fit nodes w MULTIPLY_LIMIT facts (products_of ps) [] qs o (products_fit nodes w ps h) (All-nil (ProductFits nodes w)) e

  pub parts_expanded_alike : (facts : List Fact) (ps : List Summand) (qs : List Product) → InOrder [] nodes → PartsFit nodes w ps →
      expanded MULTIPLY_LIMIT nodes facts (products_of ps) [] ≡ Some qs → ProductsAlike nodes qs
  parts_expanded_alike facts ps qs o h e = record { width = w; fit = parts_expanded_fit facts ps qs o h e }

  factors_digit : (facts : List Fact) (ps : List Summand) → InOrder [] nodes → PartsFit nodes w ps → DigitIn nodes w (factors_test nodes w facts ps)
  factors_digit facts ps o h =
      let m = expanded MULTIPLY_LIMIT nodes facts (products_of ps) [] in
      kept_digit (found_test nodes w m) (any_product nodes ps) (found m (λ qs e. parts_expanded_fit facts ps qs o h e)) where
        found : (m : Option (List Product)) → ((qs : List Product) → m ≡ Some qs → All (ProductFits nodes w) qs) → DigitIn nodes w (found_test nodes w m)
        found None k = tt
        found (Some qs) k = all_several_digit qs o (k qs refl)

  split_case : (n : Option Id) (c d : Bool) → DigitIn nodes w n → DigitIn nodes w (if c then None else if d then n else None)
  split_case n true d h = tt
  split_case n false true h = h
  split_case n false false h = tt

  firm_case : (t : Id) (c : Bool) → HasWidth nodes t 1 → DigitIn nodes w (if c then None else Some t)
  firm_case t true h = tt
  firm_case t false h = h

  firm_in_digit : (a : Id) (n : Option Node) → InOrder [] nodes → slice_get nodes a.0 ≡ n → HasWidth nodes a w → DigitIn nodes w (firm_in nodes n)
  firm_in_digit a (Some (Pick t x y)) o e h = let c = pick_children nodes a t x y w o e h in firm_case t (is_optional nodes x y) c.test
  firm_in_digit a n o e h = tt

  there_case : (n : Option Id) (c : Bool) → DigitIn nodes w n → DigitIn nodes w (if c then None else n)
  there_case n true h = tt
  there_case n false h = h

  firm_digit : (ps : List Summand) → InOrder [] nodes → PartsFit nodes w ps → DigitIn nodes w (firm_test nodes ps)
  firm_digit [] o h = tt
  firm_digit (p ∷ ps) o h =
      let P = λ (p : Summand). HasWidth nodes p.term w in
      let n = slice_get nodes p.term.0 in
      either_digit nodes w (firm_at nodes p) (firm_test nodes ps)
      (there_case (firm_in nodes n) (p.times == 0) (firm_in_digit p.term n o refl (All-head P p ps h))) (firm_digit ps o (All-tail P p ps h))

  parts_case : (m n : Option Id) (c : Bool) → DigitIn nodes w m → DigitIn nodes w n → DigitIn nodes w (if c then m else n)
  parts_case m n true h i = h
  parts_case m n false h i = i

  parts_digit : (ps : List Summand) → InOrder [] nodes → PartsFit nodes w ps → DigitIn nodes w (parts_test nodes ps)
  parts_digit ps o h = parts_case (firm_test nodes ps) (first_test nodes ps) (any_product nodes ps) (firm_digit ps o h) (first_digit nodes w ps o h)

  pub split_digit : (left : ℕ) (facts : List Fact) (ps : List Summand) (t : Id) → InOrder [] nodes → PartsFit nodes w ps →
      split_of nodes w left facts ps ≡ Some t → HasWidth nodes t 1
  split_digit left facts ps t o h e =
      let one = factors_test nodes w facts ps in
      let two = parts_test nodes ps in
      digit_at (split_of nodes w left facts ps) e (split_case (first_id one two) (left == 0) (is_rich nodes ps)
      (either_digit nodes w one two (factors_digit facts ps o h) (parts_digit ps o h))) where
        digit_at : (n : Option Id) → n ≡ Some t → DigitIn nodes w n → HasWidth nodes t 1
        digit_at (Some u) e d = let f : u ≡ t = cc in subst (λ (z : Id). HasWidth nodes z 1) f d
        digit_at None e d = absurd (cc)

  pub parts_alike : (ps : List Summand) → PartsFit nodes w ps → PartsAlike nodes ps
  parts_alike ps h = record { width = w; fit = h }
