-- Factors of products stand among the nodes, and have the width.
use Rattle.std.proofs.Common.{◌≡◌, ◌<◌, ◌≤◌, ◌==◌, ◌+◌, ◌%◌, ◌^◌, ℕ, zero, suc, Bool, true, false, if◌then◌else◌, Option}
use Rattle.std.proofs.Common.{Some, None, List, [], ◌∷◌, ◌++◌, All, slice_get, get_or, length, length-append, refl, sym, ap, ◌∙◌, subst, arith}
use Rattle.std.specs.Prelude.{nat_lt}
use Rattle.std.proofs.lemmas.List.Elements.{All-head, All-tail, All-append, All-push, All-nil, All-weaker, All-get_or}
use Rattle.ygg_value.specs.declared.operation.Op.TheVariants.{Mul}
use Rattle.ygg_shape_words.specs.ygg_bank_proofs_Widths.{stands}
use Rattle.ygg_shape_words.specs.ygg_bank.Nodes.{HasWidth, Stands, InOrder}
use Rattle.ygg_shape_words.specs.ygg_bank.declared.node.Id.{Id}
use Rattle.ygg_shape_words.specs.ygg_bank.declared.node.Node.{Node}
use Rattle.ygg_shape_words.specs.ygg_bank.declared.node.Node.TheVariants.{Bin, Pick}
use Rattle.ygg_shape_words.proofs.Children.{pick_children}
use Rattle.ygg_shape_sums.proofs.Fit.{operands, reading_fits, DigitIn}
use Rattle.ygg_shape_sums.specs.Gathers.{test_in, first_id}
use Rattle.ygg_shape_sums.specs.Multiplies.{spread, opened, taken, expanded}
use Rattle.ygg_shape_sums.specs.Products.{Product, ProductFits, ProductsAlike, AllStand, single, placed, many, with_factor, alike, more_times, with_product}
use Rattle.ygg_shape_sums.specs.Products.{factor_test, product_test, products_test}
use Rattle.ygg_shape_sums.specs.Readings.{ReadingFits, read}
use Rattle.ygg_shape_sums.specs.declared.reading.Decomposition.{Decomposition}
use Rattle.ygg_shape_sums.specs.declared.reading.Decomposition.TheVariants as reading
use Rattle.ygg_shape_sums.specs.declared.reading.Fact.{Fact}

module _ (nodes : List Node) (w : ℕ) where
  abbrev Wide : Id → Type 0
  Wide a = HasWidth nodes a w

  abbrev pub AllWide : List Id → Type 0
  AllWide = All Wide

  one_wide : (a : Id) → Wide a → AllWide (a ∷ [])
  one_wide a h = All-push Wide [] a (All-nil Wide) h

  two_wide : (a b : Id) → Wide a → Wide b → AllWide (a ∷ b ∷ [])
  two_wide a b h i = All-push Wide (a ∷ []) b (one_wide a h) i

  front : (a : Id) (xs : List Id) → Wide a → AllWide xs → AllWide (a ∷ xs)
  front a xs h i = All-append Wide (a ∷ []) xs (one_wide a h) i

  placed_wide : (a : Id) (bs : List Id) → Wide a → AllWide bs → AllWide (placed a bs)
  placed_wide a [] h i = one_wide a h
  placed_wide a (b ∷ bs) h i =
      let t = All-tail Wide b bs i in placed_case (nat_lt a.0 b.0) (placed_wide a bs h t) where
        placed_case : (c : Bool) → AllWide (placed a bs) → AllWide (if c then a ∷ b ∷ bs else b ∷ placed a bs)
        placed_case true j = front a (b ∷ bs) h i
        placed_case false j = front b (placed a bs) (All-head Wide b bs i) j

  one_fits : (p : Product) → ProductFits nodes w p → All (ProductFits nodes w) (p ∷ [])
  one_fits p h = All-push (ProductFits nodes w) [] p (All-nil (ProductFits nodes w)) h

  two_fit : (p q : Product) → ProductFits nodes w p → ProductFits nodes w q → All (ProductFits nodes w) (p ∷ q ∷ [])
  two_fit p q h i = All-push (ProductFits nodes w) (p ∷ []) q (one_fits p h) i

  many_fits : (m : Product) (k : ℕ) (rest more : List Id) → AllWide m.factors → AllWide rest → AllWide more → ProductFits nodes w (many m k rest more)
  many_fits m k rest more h i j = record { factors = h; rest = All-append Wide rest more i j }

  spread_fit : (m : Product) (a : Id) (rest : List Id) (r : Decomposition) (c : Option Node) → InOrder [] nodes → slice_get nodes a.0 ≡ c → Wide a →
      ReadingFits nodes w r → AllWide m.factors → AllWide rest → All (ProductFits nodes w) (spread m a rest r c)
  spread_fit m a rest (reading.Number n) c o e h r i j = one_fits (many m n rest []) (many_fits m n rest [] i j (All-nil Wide))
  spread_fit m a rest (reading.Times k x n) c o e h r i j =
      two_fit (many m k rest (x ∷ [])) (many m n rest []) (many_fits m k rest (x ∷ []) i j (one_wide x r)) (many_fits m n rest [] i j (All-nil Wide))
  spread_fit m a rest (reading.Both x k y) c o e h r i j =
      two_fit (many m 1 rest (x ∷ [])) (many m k rest (y ∷ [])) (many_fits m 1 rest (x ∷ []) i j (one_wide x r.0))
      (many_fits m k rest (y ∷ []) i j (one_wide y r.1))
  spread_fit m a rest reading.Whole (Some (Bin Mul x y)) o e h r i j =
      let p = operands nodes a x y Mul w o e h (λ x y d. d) (λ w. refl) in
      one_fits (many m 1 rest (x ∷ y ∷ [])) (many_fits m 1 rest (x ∷ y ∷ []) i j (two_wide x y p.0 p.1))
  spread_fit m a rest reading.Whole c o e h r i j =
      one_fits (with_factor m a rest) (record { factors = placed_wide a m.factors h i; rest = j })

  pub opened_fit : (facts : List Fact) (m : Product) (rest : List Id) → InOrder [] nodes → AllWide m.factors → AllWide rest →
      All (ProductFits nodes w) (opened nodes facts m rest)
  opened_fit facts m [] o i j = All-nil (ProductFits nodes w)
  opened_fit facts m (a ∷ rest) o i j = opened_case (m.times == 0) where
    opened_case : (c : Bool) → All (ProductFits nodes w) (if c then [] else spread m a rest (read nodes facts (slice_get nodes a.0)) (slice_get nodes a.0))
    opened_case true = All-nil (ProductFits nodes w)
    opened_case false =
        let h = All-head Wide a rest j in
        spread_fit m a rest (read nodes facts (slice_get nodes a.0)) (slice_get nodes a.0) o refl h
        (reading_fits nodes facts a w (slice_get nodes a.0) o refl h) i (All-tail Wide a rest j)

  with_product_fits : (m : Product) (ns : List Product) → ProductFits nodes w m → All (ProductFits nodes w) ns → All (ProductFits nodes w) (with_product m ns)
  with_product_fits m [] h i = one_fits m h
  with_product_fits m (n ∷ ns) h i = product_case (alike n.factors m.factors) (with_product_fits m ns h (All-tail (ProductFits nodes w) n ns i)) where
    own : ProductFits nodes w n
    own = All-head (ProductFits nodes w) n ns i

    product_case : (c : Bool) → All (ProductFits nodes w) (with_product m ns) →
        All (ProductFits nodes w) (if c then more_times n m.times ∷ ns else n ∷ with_product m ns)
    product_case true j =
        All-append (ProductFits nodes w) (more_times n m.times ∷ []) ns
        (one_fits (more_times n m.times) (record { factors = own.factors; rest = own.rest })) (All-tail (ProductFits nodes w) n ns i)
    product_case false j = All-append (ProductFits nodes w) (n ∷ []) (with_product m ns) (one_fits n own) j

  taken_fits : (m : Product) (rest : List Id) (ps : List Product) → ProductFits nodes w m → All (ProductFits nodes w) ps →
      All (ProductFits nodes w) (taken m rest ps)
  taken_fits m [] ps h i = with_product_fits m ps h i
  taken_fits m (a ∷ rest) ps h i = i

  pub expanded_fit : (fuel : ℕ) (facts : List Fact) (ms ps qs : List Product) → InOrder [] nodes → All (ProductFits nodes w) ms →
      All (ProductFits nodes w) ps → expanded fuel nodes facts ms ps ≡ Some qs → All (ProductFits nodes w) qs
  unfolding expanded
  expanded_fit zero facts ms ps qs o h i e = absurd (cc)
  expanded_fit (suc fuel) facts [] ps qs o h i e = let z : ps ≡ qs = cc in subst (All (ProductFits nodes w)) z i
  expanded_fit (suc fuel) facts (m ∷ ms) ps qs o h i e =
      let own = All-head (ProductFits nodes w) m ms h in
      expanded_fit fuel facts (ms ++ opened nodes facts m m.rest) (taken m m.rest ps) qs o
      (All-append (ProductFits nodes w) ms (opened nodes facts m m.rest) (All-tail (ProductFits nodes w) m ms h)
      (opened_fit facts m m.rest o own.factors own.rest)) (taken_fits m m.rest ps own i) e

  pub singles_fit : (k l : ℕ) (a b : Id) → Wide a → Wide b → All (ProductFits nodes w) (single k a ∷ single l b ∷ [])
  singles_fit k l a b h i =
      two_fit (single k a) (single l b) (record { factors = All-nil Wide; rest = one_wide a h }) (record { factors = All-nil Wide; rest = one_wide b i })

  -- a test that is found is a single digit
  pub either_digit : (m n : Option Id) → DigitIn nodes w m → DigitIn nodes w n → DigitIn nodes w (first_id m n)
  either_digit (Some t) n h i = h
  either_digit None n h i = i

  test_digit : (a : Id) (n : Option Node) → InOrder [] nodes → slice_get nodes a.0 ≡ n → Wide a → DigitIn nodes w (test_in n)
  test_digit a (Some (Pick t x y)) o e h = let c = pick_children nodes a t x y w o e h in c.test
  test_digit a n o e h = tt

  factor_digit : (xs : List Id) → InOrder [] nodes → AllWide xs → DigitIn nodes w (factor_test nodes xs)
  factor_digit [] o h = tt
  factor_digit (a ∷ xs) o h =
      either_digit (test_in (slice_get nodes a.0)) (factor_test nodes xs) (test_digit a (slice_get nodes a.0) o refl (All-head Wide a xs h))
      (factor_digit xs o (All-tail Wide a xs h))

  gone_digit : (n : Option Id) (c : Bool) → DigitIn nodes w n → DigitIn nodes w (if c then None else n)
  gone_digit n true h = tt
  gone_digit n false h = h

  pub product_digit : (p : Product) → InOrder [] nodes → ProductFits nodes w p → DigitIn nodes w (product_test nodes w p)
  product_digit p o h = gone_digit (factor_test nodes p.factors) (p.times % 2 ^ w == 0) (factor_digit p.factors o h.factors)

  pub products_digit : (ps : List Product) → InOrder [] nodes → All (ProductFits nodes w) ps → DigitIn nodes w (products_test nodes w ps)
  products_digit [] o h = tt
  products_digit (p ∷ ps) o h =
      either_digit (product_test nodes w p) (products_test nodes w ps) (product_digit p o (All-head (ProductFits nodes w) p ps h))
      (products_digit ps o (All-tail (ProductFits nodes w) p ps h))

pub all_stand : (nodes : List Node) (w : ℕ) (xs : List Id) → All (λ (a : Id). HasWidth nodes a w) xs → AllStand nodes xs
all_stand nodes w xs h = All-weaker (λ (a : Id). HasWidth nodes a w) (Stands nodes) (λ a. stands nodes a w) xs h

-- the product at a place
pub product_at : (nodes : List Node) (ps : List Product) (i : ℕ) (p : Product) (h : ProductsAlike nodes ps) → p ≡ get_or ps i p → i < length ps →
    ProductFits nodes h.width p
product_at nodes ps i p h e l = subst (ProductFits nodes h.width) (sym e) (All-get_or (ProductFits nodes h.width) ps i p l h.fit)

-- the list that is multiplied out further
pub opened_alike : (nodes : List Node) (facts : List Fact) (ps longer : List Product) (i : ℕ) (p : Product) → InOrder [] nodes → ProductsAlike nodes ps →
    i < length ps → p ≡ get_or ps i p → longer ≡ ps ++ opened nodes facts p p.rest → ProductsAlike nodes longer
opened_alike nodes facts ps longer i p o h l e g =
    let w = h.width in
    let own = product_at nodes ps i p h e l in
    record {
      width = w;
      fit = subst (All (ProductFits nodes w)) (sym g) (All-append (ProductFits nodes w) ps (opened nodes facts p p.rest) h.fit
          (opened_fit nodes w facts p p.rest o own.factors own.rest));
    }

pub longer_by_products : (ps qs longer : List Product) (i : ℕ) → i < length ps → longer ≡ ps ++ qs → i + 1 ≤ length longer
longer_by_products ps qs longer i l e = let f : length longer ≡ length ps + length qs = ap (λ z. length z) e ∙ length-append ps qs in omega arith
