-- What a sum is worth in which products were multiplied out, and its words.
use Rattle.std.proofs.Common.{◌≡◌, ◌≤◌, ◌==◌, ◌+◌, ◌*◌, ◌%◌, ◌^◌, ℕ, Bool, true, false, if◌then◌else◌, Option}
use Rattle.std.proofs.Common.{Some, None, List, [], ◌∷◌, All, refl, sym, ap, ◌∙◌, arith}
use Rattle.std.proofs.Math.Nat.{zero-mod}
use Rattle.std.proofs.lemmas.Bool.Decides.{Decides-eqb}
use Rattle.std.proofs.lemmas.List.Elements.{All-head, All-tail, All-append, All-push, All-nil}
use Rattle.ygg_shape_words.specs.ygg_bank.Nodes.{HasWidth, InOrder}
use Rattle.ygg_shape_words.specs.ygg_bank.Values.{Inputs, Values, Fits}
use Rattle.ygg_shape_words.specs.ygg_bank.declared.node.Id.{Id}
use Rattle.ygg_shape_words.specs.ygg_bank.declared.node.Node.{Node}
use Rattle.ygg_shape_sums.proofs.Factors.{AllWide, expanded_fit}
use Rattle.ygg_shape_sums.proofs.Fit.{merged_fit, gathered_fit}
use Rattle.ygg_shape_sums.proofs.Modulo.{Like, like, like_both, like_add, like_many, like_cut}
use Rattle.ygg_shape_sums.proofs.Polynomials.{made_of, read_worth, all_worth, all_read, expanded_is}
use Rattle.ygg_shape_sums.proofs.Worth.{bits, amount, worth, FactsHold, with_part_is, gathered_sum_is}
use Rattle.ygg_shape_sums.specs.Gathers.{gathered_sum}
use Rattle.ygg_shape_sums.specs.Multiplies.{expanded}
use Rattle.ygg_shape_sums.specs.Parts.{Sum, PartsFit, part, empty, with_part}
use Rattle.ygg_shape_sums.specs.Products.{Product, ProductFits, ProductsAlike, single}
use Rattle.ygg_shape_sums.specs.Reduces.{any_product, products_of, with_few, with_one, and_then, summed, summed_from, multiplied, or_else, reduced_sum}
use Rattle.ygg_shape_sums.specs.declared.gathering.TheConstants.{READ_LIMIT}
use Rattle.ygg_shape_sums.specs.declared.multiplying.TheConstants.{MULTIPLY_LIMIT}
use Rattle.ygg_shape_sums.specs.declared.parts.Summand.{Summand}
use Rattle.ygg_shape_sums.specs.declared.reading.Fact.{Fact}

module _ (nodes : List Node) (w : ℕ) where
  single_fits : (n : ℕ) (a : Id) → HasWidth nodes a w → ProductFits nodes w (single n a)
  single_fits n a h = record {
    factors = All-nil (λ (a : Id). HasWidth nodes a w);
    rest = All-push (λ (a : Id). HasWidth nodes a w) [] a (All-nil (λ (a : Id). HasWidth nodes a w)) h;
  }

  pub products_fit : (ps : List Summand) → PartsFit nodes w ps → All (ProductFits nodes w) (products_of ps)
  products_fit [] h = All-nil (ProductFits nodes w)
  products_fit (p ∷ ps) h =
      let P = λ (p : Summand). HasWidth nodes p.term w in
      All-append (ProductFits nodes w) (single p.times p.term ∷ []) (products_of ps)
      (All-push (ProductFits nodes w) [] (single p.times p.term) (All-nil (ProductFits nodes w)) (single_fits p.times p.term (All-head P p ps h)))
      (products_fit ps (All-tail P p ps h))

  pub products_alike : (ps : List Summand) → PartsFit nodes w ps → ProductsAlike nodes (products_of ps)
  products_alike ps h = record { width = w; fit = products_fit ps h }

  -- a sum that is found has words of the width
  abbrev SumFits : Option Sum → Type 0
  SumFits None = Unit {0}
  SumFits (Some s) = PartsFit nodes w s.parts

  few_fit : (n : ℕ) (fs : List Id) (s : Sum) → AllWide nodes w fs → PartsFit nodes w s.parts → SumFits (with_few n fs s)
  few_fit n [] s h i = i
  few_fit n (a ∷ []) s h i = merged_fit nodes w (part n a) s.parts (All-head (λ (a : Id). HasWidth nodes a w) a [] h) i
  few_fit n (a ∷ b ∷ fs) s h i = tt

  one_fits : (p : Product) (s : Sum) (c : Bool) → ProductFits nodes w p → PartsFit nodes w s.parts →
      SumFits (if c then Some s else with_few p.times p.factors s)
  one_fits p s true h i = i
  one_fits p s false h i = few_fit p.times p.factors s h.factors i

  summed_fits : (ps : List Product) (s : Sum) → All (ProductFits nodes w) ps → PartsFit nodes w s.parts → SumFits (summed w ps s)
  summed_fits [] s h i = i
  summed_fits (p ∷ ps) s h i =
      next (with_one w p s) (one_fits p s (p.times % 2 ^ w == 0) (All-head (ProductFits nodes w) p ps h) i)
      (λ t. summed_fits ps t (All-tail (ProductFits nodes w) p ps h)) where
        next : (m : Option Sum) → SumFits m → ((t : Sum) → PartsFit nodes w t.parts → SumFits (summed w ps t)) → SumFits (and_then m (summed w ps))
        next None j k = tt
        next (Some t) j k = k t j

  multiplied_fits : (facts : List Fact) (s : Sum) → InOrder [] nodes → PartsFit nodes w s.parts → SumFits (multiplied nodes w facts s)
  multiplied_fits facts s o h =
      from (expanded MULTIPLY_LIMIT nodes facts (products_of s.parts) [])
      (λ qs e. expanded_fit nodes w MULTIPLY_LIMIT facts (products_of s.parts) [] qs o (products_fit s.parts h) (All-nil (ProductFits nodes w)) e) where
        from : (m : Option (List Product)) → ((qs : List Product) → m ≡ Some qs → All (ProductFits nodes w) qs) → SumFits (summed_from w s.number m)
        from None k = tt
        from (Some qs) k = summed_fits qs (empty s.number) (k qs refl) (All-nil (λ (p : Summand). HasWidth nodes p.term w))

  either_fits : (m : Option Sum) (s : Sum) (c : Bool) → SumFits m → PartsFit nodes w s.parts → PartsFit nodes w (if c then or_else m s else s).parts
  either_fits (Some t) s true h i = h
  either_fits None s true h i = i
  either_fits m s false h i = i

  pub read_fits : (facts : List Fact) (s : Sum) → InOrder [] nodes → PartsFit nodes w s.parts → PartsFit nodes w (gathered_sum nodes facts s).parts
  read_fits facts s o h =
      gathered_fit nodes w READ_LIMIT facts s.parts (empty s.number) o h (All-nil (λ (p : Summand). HasWidth nodes p.term w))

  -- a sum that was read and multiplied out has words of the width
  pub sum_fits : (facts : List Fact) (s : Sum) → InOrder [] nodes → PartsFit nodes w s.parts → PartsFit nodes w (reduced_sum nodes w facts s).parts
  sum_fits facts s o h =
      let g = gathered_sum nodes facts s in
      let i = read_fits facts s o h in
      either_fits (multiplied nodes w facts g) g (any_product nodes g.parts) (multiplied_fits facts g o i) i

module _ (inputs : Inputs) (v : Values) (w : ℕ) (most : w ≤ 64) where
  products_worth : (ps : List Summand) → all_worth inputs v (products_of ps) + 0 ≡ amount inputs v ps
  products_worth [] = refl
  products_worth (p ∷ ps) =
      regroup p.times (bits inputs v p.term) (all_worth inputs v (products_of ps)) ∙ ap (λ z. p.times * bits inputs v p.term + z) (products_worth ps) where
        regroup : (n x y : ℕ) → n * (1 * (x * 1)) + y + 0 ≡ n * x + (y + 0)
        regroup n x y = ap (λ z. n * z + y + 0) (once x) ∙ joined (n * x) y where
          once : (x : ℕ) → 1 * (x * 1) ≡ x
          once x = omega arith

          joined : (a b : ℕ) → a + b + 0 ≡ a + (b + 0)
          joined a b = omega arith

  -- a sum that is found is worth this
  abbrev pub WorthIs : Option Sum → ℕ → Type 0
  WorthIs None x = Unit {0}
  WorthIs (Some s) x = Like (2 ^ w) (worth inputs v s) x

  pub few_is : (n : ℕ) (fs : List Id) (s : Sum) → WorthIs (with_few n fs s) (n * made_of inputs v fs + worth inputs v s)
  few_is n [] s =
      let m = 2 ^ w in
      let a = amount inputs v s.parts in
      like_both m ((s.number + n) % 2 ^ 64 + a) (s.number + n + a) (n * 1 + (s.number + a))
      (like_add m ((s.number + n) % 2 ^ 64) (s.number + n) a a (like_cut w (s.number + n) most) (like m a a refl))
      (like m (s.number + n + a) (n * 1 + (s.number + a)) (regroup s.number n a)) where
        regroup : (b n a : ℕ) → b + n + a ≡ n * 1 + (b + a)
        regroup b n a = omega arith
  few_is n (a ∷ []) s =
      let m = 2 ^ w in
      let x = bits inputs v a in
      like_both m (worth inputs v (with_part (part n a) s)) (n * x + worth inputs v s) (n * (x * 1) + worth inputs v s)
      (with_part_is inputs v w most (part n a) s)
      (like m (n * x + worth inputs v s) (n * (x * 1) + worth inputs v s) (ap (λ z. n * z + worth inputs v s) (once x))) where
        once : (x : ℕ) → x ≡ x * 1
        once x = omega arith
  few_is n (a ∷ b ∷ fs) s = tt

  pub one_is : (p : Product) (s : Sum) (c : Bool) → (p.times % 2 ^ w == 0) ≡ c →
      WorthIs (if c then Some s else with_few p.times p.factors s) (read_worth inputs v p + worth inputs v s)
  one_is p s true e =
      let m = 2 ^ w in
      let x = made_of inputs v p.factors in
      let y = worth inputs v s in
      let z : Like m 0 p.times = record { is = zero-mod m ∙ sym ((Decides-eqb (p.times % m) 0).0 e) } in
      like_both m y (0 * x + y) (p.times * x + y) (like m y (0 * x + y) (none x y))
      (like_add m (0 * x) (p.times * x) y y (like_many m x 0 p.times z) (like m y y refl))
    where
      none : (x y : ℕ) → y ≡ 0 * x + y
      none x y = omega arith
  one_is p s false e = few_is p.times p.factors s

  same_worth : (m : Option Sum) (x y : ℕ) → Like (2 ^ w) x y → WorthIs m x → WorthIs m y
  same_worth None x y l h = tt
  same_worth (Some s) x y l h = like_both (2 ^ w) (worth inputs v s) x y h l

  next_is : (ps : List Product) (m : Option Sum) (x : ℕ) → WorthIs m x →
      ((t : Sum) → WorthIs (summed w ps t) (all_read inputs v ps + worth inputs v t)) → WorthIs (and_then m (summed w ps)) (all_read inputs v ps + x)
  next_is ps None x h k = tt
  next_is ps (Some t) x h k =
      let m = 2 ^ w in
      let y = all_read inputs v ps in
      same_worth (summed w ps t) (y + worth inputs v t) (y + x) (like_add m y y (worth inputs v t) x (like m y y refl) h) (k t)

  summed_is : (ps : List Product) (s : Sum) → WorthIs (summed w ps s) (all_read inputs v ps + worth inputs v s)
  summed_is [] s = like (2 ^ w) (worth inputs v s) (0 + worth inputs v s) (none (worth inputs v s)) where
    none : (x : ℕ) → x ≡ 0 + x
    none x = omega arith
  summed_is (p ∷ ps) s =
      let m = 2 ^ w in
      let x = read_worth inputs v p in
      let y = all_read inputs v ps in
      same_worth (summed w (p ∷ ps) s) (y + (x + worth inputs v s)) (x + y + worth inputs v s)
      (like m (y + (x + worth inputs v s)) (x + y + worth inputs v s) (turned y x (worth inputs v s)))
      (next_is ps (with_one w p s) (x + worth inputs v s) (one_is p s (p.times % 2 ^ w == 0) refl) (summed_is ps)) where
        turned : (p q r : ℕ) → p + (q + r) ≡ q + p + r
        turned p q r = omega arith

  module _ (nodes : List Node) (f : Fits inputs v nodes) where
    -- products that were multiplied out are worth the sum that they come of
    pub products_are : (facts : List Fact) (s : Sum) (qs : List Product) → FactsHold inputs v facts → PartsFit nodes w s.parts →
        expanded MULTIPLY_LIMIT nodes facts (products_of s.parts) [] ≡ Some qs →
        Like (2 ^ w) (all_read inputs v qs + worth inputs v (empty s.number)) (worth inputs v s)
    products_are facts s qs k h e =
        let n = 2 ^ w in
        let x = all_worth inputs v (products_of s.parts) + 0 in
        let y = all_read inputs v qs in
        let l = expanded_is inputs v w most nodes f MULTIPLY_LIMIT facts (products_of s.parts) [] qs k (products_fit nodes w s.parts h) e in
        like_both n (y + (s.number + 0)) (x + (s.number + 0)) (worth inputs v s)
        (like_add n y x (s.number + 0) (s.number + 0) l (like n (s.number + 0) (s.number + 0) refl))
        (like n (x + (s.number + 0)) (worth inputs v s) (ap (λ z. z + (s.number + 0)) (products_worth s.parts) ∙ last (amount inputs v s.parts) s.number))
      where
        last : (a b : ℕ) → a + (b + 0) ≡ b + a
        last a b = omega arith

    from_is : (facts : List Fact) (s : Sum) (m : Option (List Product)) → FactsHold inputs v facts → PartsFit nodes w s.parts →
        expanded MULTIPLY_LIMIT nodes facts (products_of s.parts) [] ≡ m → WorthIs (summed_from w s.number m) (worth inputs v s)
    from_is facts s None k h e = tt
    from_is facts s (Some qs) k h e =
        same_worth (summed w qs (empty s.number)) (all_read inputs v qs + (s.number + 0)) (worth inputs v s) (products_are facts s qs k h e)
        (summed_is qs (empty s.number))

    either_is : (m : Option Sum) (s : Sum) (c : Bool) → WorthIs m (worth inputs v s) →
        Like (2 ^ w) (worth inputs v (if c then or_else m s else s)) (worth inputs v s)
    either_is (Some t) s true h = h
    either_is None s true h = like (2 ^ w) (worth inputs v s) (worth inputs v s) refl
    either_is m s false h = like (2 ^ w) (worth inputs v s) (worth inputs v s) refl

    -- a sum that was read and multiplied out is worth what it was
    pub reduced_sum_is : (facts : List Fact) (s : Sum) → FactsHold inputs v facts → PartsFit nodes w s.parts →
        Like (2 ^ w) (worth inputs v (reduced_sum nodes w facts s)) (worth inputs v s)
    reduced_sum_is facts s k h =
        let g = gathered_sum nodes facts s in
        like_both (2 ^ w) (worth inputs v (reduced_sum nodes w facts s)) (worth inputs v g) (worth inputs v s)
        (either_is (multiplied nodes w facts g) g (any_product nodes g.parts)
        (from_is facts g (expanded MULTIPLY_LIMIT nodes facts (products_of g.parts) []) k (read_fits nodes w facts s f.ordered h) refl))
        (gathered_sum_is inputs v w most nodes f facts s k h)
