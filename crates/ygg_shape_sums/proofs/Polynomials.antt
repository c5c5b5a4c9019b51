-- What sums of products are worth, modulo 2 to their width.
use Rattle.std.proofs.Common.{◌≡◌, ◌≤◌, ◌==◌, ◌+◌, ◌*◌, ◌%◌, ◌^◌, ℕ, zero, suc, Bool, true, false, if◌then◌else◌, Option}
use Rattle.std.proofs.Common.{Some, List, [], ◌∷◌, ◌++◌, All, slice_get, refl, sym, ap, ◌∙◌, arith}
use Rattle.std.specs.Prelude.{◌&&◌, nat_lt}
use Rattle.std.proofs.Math.Nat.{add-mul, mul-add, mul_comm, mul_assoc, zero-mod}
use Rattle.std.proofs.lemmas.Bool.Decides.{Decides-eqb}
use Rattle.std.proofs.lemmas.List.Elements.{All-head, All-tail, All-append}
use Rattle.ygg_value.specs.declared.operation.Op.TheVariants.{Mul}
use Rattle.ygg_shape_words.specs.ygg_bank.Nodes.{HasWidth}
use Rattle.ygg_shape_words.specs.ygg_bank.Values.{Inputs, Values, Fits}
use Rattle.ygg_shape_words.specs.ygg_bank.declared.node.Id.{Id}
use Rattle.ygg_shape_words.specs.ygg_bank.declared.node.Node.{Node}
use Rattle.ygg_shape_words.specs.ygg_bank.declared.node.Node.TheVariants.{Bin}
use Rattle.ygg_shape_sums.proofs.Fit.{operands}
use Rattle.ygg_shape_sums.proofs.Factors.{opened_fit}
use Rattle.ygg_shape_sums.proofs.Modulo.{Like, like, like_back, like_both, like_add, like_times, like_many, like_own, like_cut}
use Rattle.ygg_shape_sums.proofs.Worth.{bits, FactsHold, reading_worth, reading_is, bin_bits}
use Rattle.ygg_shape_sums.specs.Multiplies.{spread, opened, taken, expanded}
use Rattle.ygg_shape_sums.specs.Products.{Product, ProductFits, placed, many, with_factor, alike, more_times, with_product, all_gone}
use Rattle.ygg_shape_sums.specs.Readings.{read}
use Rattle.ygg_shape_sums.specs.declared.reading.Decomposition.{Decomposition}
use Rattle.ygg_shape_sums.specs.declared.reading.Decomposition.TheVariants as reading
use Rattle.ygg_shape_sums.specs.declared.reading.Fact.{Fact}

mul_swap : (a b c : ℕ) → a * (b * c) ≡ b * (a * c)
mul_swap a b c = sym (mul_assoc a b c) ∙ ap (λ z. z * c) (mul_comm a b) ∙ mul_assoc b a c

nothing_more : (x : ℕ) → x + 0 ≡ x
nothing_more x = omega arith

one_time : (x : ℕ) → x * 1 ≡ x
one_time x = omega arith

-- a number of times and more factors, brought to the end
gathered_factors : (t k f r m : ℕ) → t * k * (f * (r * m)) ≡ t * (f * r) * (k * m)
gathered_factors t k f r m =
    mul_assoc t k (f * (r * m)) ∙ ap (λ z. t * (k * z)) (sym (mul_assoc f r m)) ∙ ap (λ z. t * z) (mul_swap k (f * r) m) ∙ sym (mul_assoc t (f * r) (k * m))

last_factor : (t b f r : ℕ) → t * (b * f * r) ≡ t * (f * r) * b
last_factor t b f r = ap (λ z. t * z) (mul_assoc b f r ∙ mul_comm b (f * r)) ∙ sym (mul_assoc t (f * r) b)

swapped : (a b c : ℕ) → a + (b + c) ≡ b + (a + c)
swapped a b c = omega arith

joined : (a b c : ℕ) → a + (b + c) ≡ a + b + c
joined a b c = omega arith

module _ (inputs : Inputs) (v : Values) where
  -- what factors make
  abbrev pub made_of : List Id → ℕ
  made_of [] = 1
  made_of (a ∷ xs) = bits inputs v a * made_of xs

  -- what a product is worth, of all its factors and of those that were read
  abbrev pub product_worth : Product → ℕ
  product_worth m = m.times * (made_of m.factors * made_of m.rest)

  abbrev pub read_worth : Product → ℕ
  read_worth m = m.times * made_of m.factors

  -- what products are worth together
  abbrev pub all_worth : List Product → ℕ
  all_worth [] = 0
  all_worth (m ∷ ms) = product_worth m + all_worth ms

  abbrev pub all_read : List Product → ℕ
  all_read [] = 0
  all_read (m ∷ ms) = read_worth m + all_read ms

  made_of-append : (xs bs : List Id) → made_of (xs ++ bs) ≡ made_of xs * made_of bs
  made_of-append [] bs = once (made_of bs) where
    once : (x : ℕ) → x ≡ 1 * x
    once x = omega arith
  made_of-append (a ∷ xs) bs = ap (λ z. bits inputs v a * z) (made_of-append xs bs) ∙ sym (mul_assoc (bits inputs v a) (made_of xs) (made_of bs))

  all_worth-append : (ms ns : List Product) → all_worth (ms ++ ns) ≡ all_worth ms + all_worth ns
  all_worth-append [] ns = none_before (all_worth ns) where
    none_before : (x : ℕ) → x ≡ 0 + x
    none_before x = omega arith
  all_worth-append (m ∷ ms) ns = ap (λ z. product_worth m + z) (all_worth-append ms ns) ∙ joined (product_worth m) (all_worth ms) (all_worth ns)

  placed_case : (a b : Id) (bs rest : List Id) (c : Bool) → made_of rest ≡ bits inputs v a * made_of bs →
      made_of (if c then a ∷ b ∷ bs else b ∷ rest) ≡ bits inputs v a * made_of (b ∷ bs)
  placed_case a b bs rest true e = refl
  placed_case a b bs rest false e = ap (λ z. bits inputs v b * z) e ∙ mul_swap (bits inputs v b) (bits inputs v a) (made_of bs)

  placed_is : (a : Id) (bs : List Id) → made_of (placed a bs) ≡ bits inputs v a * made_of bs
  placed_is a [] = refl
  placed_is a (b ∷ bs) = placed_case a b bs (placed a bs) (nat_lt a.0 b.0) (placed_is a bs)

  both_true : (b c : Bool) → b && c ≡ true → (b ≡ true) × (c ≡ true)
  both_true true true e = (refl, refl)
  both_true true false e = absurd (cc)
  both_true false c e = absurd (cc)

  alike_is : (xs bs : List Id) → alike xs bs ≡ true → made_of xs ≡ made_of bs
  alike_is [] [] e = refl
  alike_is [] (b ∷ bs) e = absurd (cc)
  alike_is (a ∷ xs) [] e = absurd (cc)
  alike_is (a ∷ xs) (b ∷ bs) e =
      let p = both_true (a.0 == b.0) (alike xs bs) e in
      ap (λ z. (v z).bits * made_of xs) ((Decides-eqb a.0 b.0).0 p.0) ∙ ap (λ z. bits inputs v b * z) (alike_is xs bs p.1)

  module _ (w : ℕ) (most : w ≤ 64) where
    with_product_case : (m n : Product) (ns rest : List Product) (c : Bool) → alike n.factors m.factors ≡ c →
        Like (2 ^ w) (all_read rest) (read_worth m + all_read ns) →
        Like (2 ^ w) (all_read (if c then more_times n m.times ∷ ns else n ∷ rest)) (read_worth m + all_read (n ∷ ns))
    with_product_case m n ns rest true e h =
        let k = 2 ^ w in
        let x = made_of n.factors in
        let y = all_read ns in
        like_both k ((n.times + m.times) % 2 ^ 64 * x + y) ((n.times + m.times) * x + y) (read_worth m + all_read (n ∷ ns))
        (like_add k ((n.times + m.times) % 2 ^ 64 * x) ((n.times + m.times) * x) y y
        (like_many k x ((n.times + m.times) % 2 ^ 64) (n.times + m.times) (like_cut w (n.times + m.times) most)) (like k y y refl))
        (like k ((n.times + m.times) * x + y) (read_worth m + all_read (n ∷ ns)) (ap (λ z. z + y) (add-mul n.times m.times x)
        ∙ regroup (n.times * x) (m.times * x) y ∙ ap (λ z. m.times * z + (n.times * x + y)) (alike_is n.factors m.factors e))) where
          regroup : (p q r : ℕ) → p + q + r ≡ q + (p + r)
          regroup p q r = omega arith
    with_product_case m n ns rest false e h =
        let k = 2 ^ w in
        let x = read_worth n in
        like_both k (x + all_read rest) (x + (read_worth m + all_read ns)) (read_worth m + all_read (n ∷ ns))
        (like_add k x x (all_read rest) (read_worth m + all_read ns) (like k x x refl) h)
        (like k (x + (read_worth m + all_read ns)) (read_worth m + (x + all_read ns)) (swapped x (read_worth m) (all_read ns)))

    with_product_is : (m : Product) (ns : List Product) → Like (2 ^ w) (all_read (with_product m ns)) (read_worth m + all_read ns)
    with_product_is m [] = like (2 ^ w) (read_worth m + 0) (read_worth m + 0) refl
    with_product_is m (n ∷ ns) =
        with_product_case m n ns (with_product m ns) (alike n.factors m.factors) refl (with_product_is m ns)

    gone_case : (p : Product) (ps : List Product) (c : Bool) → (p.times % 2 ^ w == 0) ≡ c → (if c then all_gone w ps else false) ≡ true →
        (all_gone w ps ≡ true → Like (2 ^ w) (all_read ps) 0) → Like (2 ^ w) (all_read (p ∷ ps)) 0
    gone_case p ps true g h i =
        let m = 2 ^ w in
        let x = made_of p.factors in
        let z : Like m p.times 0 = record { is = (Decides-eqb (p.times % m) 0).0 g ∙ sym (zero-mod m) } in
        like_both m (p.times * x + all_read ps) (0 * x + 0) 0 (like_add m (p.times * x) (0 * x) (all_read ps) 0 (like_many m x p.times 0 z) (i h))
        (like m (0 * x + 0) 0 (none x)) where
          none : (x : ℕ) → 0 * x + 0 ≡ 0
          none x = omega arith
    gone_case p ps false g h i = absurd (cc)

    -- what products are worth that are all there 0 times
    pub all_gone_is : (ps : List Product) → all_gone w ps ≡ true → Like (2 ^ w) (all_read ps) 0
    all_gone_is [] e = like (2 ^ w) 0 0 refl
    all_gone_is (p ∷ ps) e = gone_case p ps (p.times % 2 ^ w == 0) refl e (all_gone_is ps)

    -- a product that is so many times, of the factors of another and more
    many_is : (m : Product) (k : ℕ) (rest more : List Id) →
        Like (2 ^ w) (product_worth (many m k rest more)) (m.times * (made_of m.factors * made_of rest) * (k * made_of more))
    many_is m k rest more =
        let n = 2 ^ w in
        let f = made_of m.factors in
        let r = made_of rest in
        let x = f * made_of (rest ++ more) in
        like_both n (m.times * k % 2 ^ 64 * x) (m.times * k * x) (m.times * (f * r) * (k * made_of more))
        (like_many n x (m.times * k % 2 ^ 64) (m.times * k) (like_cut w (m.times * k) most))
        (like n (m.times * k * x) (m.times * (f * r) * (k * made_of more))
        (ap (λ z. m.times * k * (f * z)) (made_of-append rest more) ∙ gathered_factors m.times k f r (made_of more)))

    -- one product, and two
    one_is : (m : Product) (k x : ℕ) (rest more : List Id) → k * made_of more ≡ x →
        Like (2 ^ w) (all_worth (many m k rest more ∷ [])) (m.times * (made_of m.factors * made_of rest) * x)
    one_is m k x rest more e =
        let n = 2 ^ w in
        let y = product_worth (many m k rest more) in
        let c = m.times * (made_of m.factors * made_of rest) in
        like_both n (y + 0) y (c * x) (like n (y + 0) y (nothing_more y))
        (like_both n y (c * (k * made_of more)) (c * x) (many_is m k rest more) (like n (c * (k * made_of more)) (c * x) (ap (λ z. c * z) e)))

    two_are : (m : Product) (k l x y : ℕ) (rest more other : List Id) → k * made_of more ≡ x → l * made_of other ≡ y →
        Like (2 ^ w) (all_worth (many m k rest more ∷ many m l rest other ∷ [])) (m.times * (made_of m.factors * made_of rest) * (x + y))
    two_are m k l x y rest more other e g =
        let n = 2 ^ w in
        let c = m.times * (made_of m.factors * made_of rest) in
        let p = product_worth (many m k rest more) in
        let q = all_worth (many m l rest other ∷ []) in
        like_both n (p + q) (c * x + c * y) (c * (x + y))
        (like_add n p (c * x) q (c * y) (like_both n p (c * (k * made_of more)) (c * x) (many_is m k rest more)
        (like n (c * (k * made_of more)) (c * x) (ap (λ z. c * z) e))) (one_is m l y rest other g))
        (like n (c * x + c * y) (c * (x + y)) (sym (mul-add c x y)))

    factor_is : (m : Product) (a : Id) (rest : List Id) →
        Like (2 ^ w) (all_worth (with_factor m a rest ∷ [])) (m.times * (made_of m.factors * made_of rest) * bits inputs v a)
    factor_is m a rest =
        let n = 2 ^ w in
        let x = product_worth (with_factor m a rest) in
        like n (x + 0) (m.times * (made_of m.factors * made_of rest) * bits inputs v a)
        (nothing_more x ∙ ap (λ z. m.times * (z * made_of rest)) (placed_is a m.factors)
        ∙ last_factor m.times (bits inputs v a) (made_of m.factors) (made_of rest))

    module _ (nodes : List Node) (f : Fits inputs v nodes) where
      product_bits : (a x y : Id) → slice_get nodes a.0 ≡ Some (Bin Mul x y) → HasWidth nodes a w →
          Like (2 ^ w) (bits inputs v x * bits inputs v y) (bits inputs v a)
      product_bits a x y e h =
          let p = operands nodes a x y Mul w f.ordered e h (λ x y d. d) (λ w. refl) in
          let r = bits inputs v x * bits inputs v y in
          like_back (2 ^ w) (bits inputs v a) r (like_both (2 ^ w) (bits inputs v a) (r % 2 ^ w) r
          (like (2 ^ w) (bits inputs v a) (r % 2 ^ w) (bin_bits inputs v w most nodes f a x y Mul e p.0)) (like_own (2 ^ w) r))

      -- what a product is, whose next factor is read, is worth as much
      spread_is : (m : Product) (a : Id) (rest : List Id) (r : Decomposition) (c : Option Node) → slice_get nodes a.0 ≡ c → HasWidth nodes a w →
          Like (2 ^ w) (bits inputs v a) (reading_worth inputs v r (bits inputs v a)) →
          Like (2 ^ w) (all_worth (spread m a rest r c)) (m.times * (made_of m.factors * made_of rest) * bits inputs v a)
      spread_is m a rest (reading.Number n) c e h i =
          let d = m.times * (made_of m.factors * made_of rest) in
          like_both (2 ^ w) (all_worth (many m n rest [] ∷ [])) (d * n) (d * bits inputs v a) (one_is m n n rest [] (one_time n))
          (like_back (2 ^ w) (d * bits inputs v a) (d * n) (like_times (2 ^ w) d (bits inputs v a) n i))
      spread_is m a rest (reading.Times k x n) c e h i =
          let d = m.times * (made_of m.factors * made_of rest) in
          let u = k * bits inputs v x + n in
          like_both (2 ^ w) (all_worth (many m k rest (x ∷ []) ∷ many m n rest [] ∷ [])) (d * u) (d * bits inputs v a)
          (two_are m k n (k * bits inputs v x) n rest (x ∷ []) [] (ap (λ z. k * z) (one_time (bits inputs v x))) (one_time n))
          (like_back (2 ^ w) (d * bits inputs v a) (d * u) (like_times (2 ^ w) d (bits inputs v a) u i))
      spread_is m a rest (reading.Both x k y) c e h i =
          let d = m.times * (made_of m.factors * made_of rest) in
          let u = bits inputs v x + k * bits inputs v y in
          like_both (2 ^ w) (all_worth (many m 1 rest (x ∷ []) ∷ many m k rest (y ∷ []) ∷ [])) (d * u) (d * bits inputs v a)
          (two_are m 1 k (bits inputs v x) (k * bits inputs v y) rest (x ∷ []) (y ∷ []) (alone (bits inputs v x))
          (ap (λ z. k * z) (one_time (bits inputs v y))))
          (like_back (2 ^ w) (d * bits inputs v a) (d * u) (like_times (2 ^ w) d (bits inputs v a) u i)) where
            alone : (x : ℕ) → 1 * (x * 1) ≡ x
            alone x = omega arith
      spread_is m a rest reading.Whole (Some (Bin Mul x y)) e h i =
          let d = m.times * (made_of m.factors * made_of rest) in
          let u = bits inputs v x * bits inputs v y in
          like_both (2 ^ w) (all_worth (many m 1 rest (x ∷ y ∷ []) ∷ [])) (d * u) (d * bits inputs v a)
          (one_is m 1 u rest (x ∷ y ∷ []) (alone (bits inputs v x * (bits inputs v y * 1)) ∙ ap (λ z. bits inputs v x * z) (one_time (bits inputs v y))))
          (like_times (2 ^ w) d u (bits inputs v a) (product_bits a x y e h)) where
            alone : (x : ℕ) → 1 * x ≡ x
            alone x = omega arith
      spread_is m a rest reading.Whole c e h i = factor_is m a rest

      -- the same, of all products that are left and of those that were read
      opened_case : (m : Product) (a : Id) (rest : List Id) (facts : List Fact) (c : Bool) → (m.times == 0) ≡ c → FactsHold inputs v facts →
          HasWidth nodes a w →
          Like (2 ^ w) (all_worth (if c then [] else spread m a rest (read nodes facts (slice_get nodes a.0)) (slice_get nodes a.0)))
          (m.times * (made_of m.factors * made_of (a ∷ rest)))
      opened_case m a rest facts true e k h =
          let x = made_of m.factors * made_of (a ∷ rest) in
          like (2 ^ w) 0 (m.times * x) (none x ∙ ap (λ z. z * x) (sym ((Decides-eqb m.times 0).0 e))) where
            none : (x : ℕ) → 0 ≡ 0 * x
            none x = omega arith
      opened_case m a rest facts false e k h =
          let r = read nodes facts (slice_get nodes a.0) in
          let b = bits inputs v a in
          let g = made_of m.factors in
          let t = made_of rest in
          like_both (2 ^ w) (all_worth (spread m a rest r (slice_get nodes a.0))) (m.times * (g * t) * b) (m.times * (g * (b * t)))
          (spread_is m a rest r (slice_get nodes a.0) refl h (reading_is inputs v w most nodes f facts a (slice_get nodes a.0) k refl h))
          (like (2 ^ w) (m.times * (g * t) * b) (m.times * (g * (b * t)))
          (mul_assoc m.times (g * t) b ∙ ap (λ z. m.times * z) (mul_assoc g t b ∙ ap (λ z. g * z) (mul_comm t b))))

      step_is : (m : Product) (rest : List Id) (facts : List Fact) (ps : List Product) → FactsHold inputs v facts → All (λ (a : Id). HasWidth nodes a w) rest →
          Like (2 ^ w) (all_worth (opened nodes facts m rest) + all_read (taken m rest ps)) (m.times * (made_of m.factors * made_of rest) + all_read ps)
      step_is m [] facts ps k h =
          let n = 2 ^ w in
          let x = all_read (with_product m ps) in
          let g = made_of m.factors in
          like_both n (0 + x) (m.times * g + all_read ps) (m.times * (g * 1) + all_read ps)
          (like_both n (0 + x) x (m.times * g + all_read ps) (like n (0 + x) x (omega arith)) (with_product_is m ps))
          (like n (m.times * g + all_read ps) (m.times * (g * 1) + all_read ps) (ap (λ z. m.times * z + all_read ps) (sym (one_time g))))
      step_is m (a ∷ rest) facts ps k h =
          let n = 2 ^ w in
          let x = all_worth (opened nodes facts m (a ∷ rest)) in
          let y = m.times * (made_of m.factors * made_of (a ∷ rest)) in
          like_add n x y (all_read ps) (all_read ps)
          (opened_case m a rest facts (m.times == 0) refl k (All-head (λ (a : Id). HasWidth nodes a w) a rest h)) (like n (all_read ps) (all_read ps) refl)

      -- products that were multiplied out are worth what they were
      pub expanded_is : (fuel : ℕ) (facts : List Fact) (ms ps qs : List Product) → FactsHold inputs v facts → All (ProductFits nodes w) ms →
          expanded fuel nodes facts ms ps ≡ Some qs → Like (2 ^ w) (all_read qs) (all_worth ms + all_read ps)
      unfolding expanded
      expanded_is zero facts ms ps qs k h e = absurd (cc)
      expanded_is (suc fuel) facts [] ps qs k h e =
          let z : ps ≡ qs = cc in
          like (2 ^ w) (all_read qs) (0 + all_read ps) (ap all_read (sym z) ∙ none_before (all_read ps)) where
            none_before : (x : ℕ) → x ≡ 0 + x
            none_before x = omega arith
      expanded_is (suc fuel) facts (m ∷ ms) ps qs k h e =
          let n = 2 ^ w in
          let os = opened nodes facts m m.rest in
          let ts = taken m m.rest ps in
          let own = All-head (ProductFits nodes w) m ms h in
          let later = All-tail (ProductFits nodes w) m ms h in
          let x = product_worth m in
          like_both n (all_read qs) (all_worth (ms ++ os) + all_read ts) (x + all_worth ms + all_read ps)
          (expanded_is fuel facts (ms ++ os) ts qs k
          (All-append (ProductFits nodes w) ms os later (opened_fit nodes w facts m m.rest f.ordered own.factors own.rest)) e)
          (like_both n (all_worth (ms ++ os) + all_read ts) (all_worth ms + (x + all_read ps)) (x + all_worth ms + all_read ps)
          (like_both n (all_worth (ms ++ os) + all_read ts) (all_worth ms + (all_worth os + all_read ts)) (all_worth ms + (x + all_read ps))
          (like n (all_worth (ms ++ os) + all_read ts) (all_worth ms + (all_worth os + all_read ts))
          (ap (λ z. z + all_read ts) (all_worth-append ms os) ∙ sym (joined (all_worth ms) (all_worth os) (all_read ts))))
          (like_add n (all_worth ms) (all_worth ms) (all_worth os + all_read ts) (x + all_read ps) (like n (all_worth ms) (all_worth ms) refl)
          (step_is m m.rest facts ps k own.rest)))
          (like n (all_worth ms + (x + all_read ps)) (x + all_worth ms + all_read ps) (turned (all_worth ms) x (all_read ps)))) where
            turned : (p q r : ℕ) → p + (q + r) ≡ q + p + r
            turned p q r = omega arith
