-- What walks through factors and products answer is what the definitions say.
use Rattle.std.proofs.Common.{◌≡◌, ◌<◌, ◌≤◌, ℕ, zero, suc, ◌+◌, ◌-◌, Bool, true, false, if◌then◌else◌, Some, None}
use Rattle.std.proofs.Common.{List, [], ◌∷◌, ◌++◌, length, take, drop, get_or, slice_set, append_assoc, refl, sym, ap, ◌∙◌, arith}
use Rattle.std.specs.List.{insert}
use Rattle.std.specs.Prelude.{nat_lt}
use Rattle.std.proofs.lemmas.List.{drop_all, drop-append-le, take_all}
use Rattle.ygg_shape_words.specs.ygg_bank.declared.node.Id.{Id}
use Rattle.ygg_shape_words.specs.ygg_bank.declared.node.Node.{Node}
use Rattle.ygg_shape_sums.proofs.Steps.{rest_is, set_is, taken}
use Rattle.ygg_shape_sums.specs.Multiplies.{expanded, opened}
use Rattle.ygg_shape_sums.specs.Multiplies as multiplies
use Rattle.ygg_shape_sums.specs.Products.{Product, placed, alike, more_times, with_product}
use Rattle.ygg_shape_sums.specs.declared.reading.Fact.{Fact}

-- the item at a place is one
pub one_item : {X : Type 0} (xs : List X) (i : ℕ) (x y : X) → i < length xs → x ≡ get_or xs i x → y ≡ get_or xs i y → x ≡ y
one_item xs i x y l e g = let h : x ∷ drop (i + 1) xs ≡ y ∷ drop (i + 1) xs = sym (rest_is xs i x x l e) ∙ rest_is xs i y y l g in cc

-- the item at a place, whatever would stand for one past the end
pub item_is : {X : Type 0} (xs : List X) (i : ℕ) (x y : X) → i < length xs → get_or xs i x ≡ get_or xs i y
item_is xs i x y l =
    let h : get_or xs i x ∷ drop (i + 1) xs ≡ get_or xs i y ∷ drop (i + 1) xs =
    sym (rest_is xs i (get_or xs i x) x l refl) ∙ rest_is xs i (get_or xs i y) y l refl in cc

-- a factor that comes behind those before a place
module _ (a b d : Id) (xs : List Id) (i : ℕ) (l : i < length xs) (e : b ≡ get_or xs i d) (h : placed a xs ≡ take i xs ++ placed a (drop i xs)) where
  placed_here : (c : Bool) → nat_lt a.0 b.0 ≡ c →
      placed a xs ≡ take i xs ++ (if c then a ∷ b ∷ drop (i + 1) xs else b ∷ placed a (drop (i + 1) xs))
  placed_here c f =
      h ∙ ap (λ z. take i xs ++ placed a z) (rest_is xs i b d l e)
      ∙ ap (λ (z : Bool). take i xs ++ (if z then a ∷ b ∷ drop (i + 1) xs else b ∷ placed a (drop (i + 1) xs))) f

  pub placed_before : nat_lt a.0 b.0 ≡ true → placed a xs ≡ insert xs i a
  placed_before f = placed_here true f ∙ ap (λ z. take i xs ++ a ∷ z) (sym (rest_is xs i b d l e))

  pub placed_after : nat_lt a.0 b.0 ≡ false → placed a xs ≡ take (i + 1) xs ++ placed a (drop (i + 1) xs)
  placed_after f =
      placed_here false f ∙ sym (append_assoc (take i xs) (b ∷ []) (placed a (drop (i + 1) xs)))
      ∙ ap (λ z. z ++ placed a (drop (i + 1) xs)) (sym (taken xs i b d l e))

pub placed_end : (a : Id) (xs : List Id) (i : ℕ) → length xs ≤ i → placed a xs ≡ take i xs ++ placed a (drop i xs) → placed a xs ≡ xs ++ a ∷ []
placed_end a xs i l h = h ∙ ap (λ z. take i xs ++ placed a z) (drop_all i xs l) ∙ ap (λ z. z ++ a ∷ []) (take_all i xs l)

-- a product whose factors are none of those before a place
module _ (m n d : Product) (ps : List Product) (i : ℕ) (l : i < length ps) (e : n ≡ get_or ps i d)
    (h : with_product m ps ≡ take i ps ++ with_product m (drop i ps)) where
  product_here : (c : Bool) → alike n.factors m.factors ≡ c →
      with_product m ps ≡ take i ps ++ (if c then more_times n m.times ∷ drop (i + 1) ps else n ∷ with_product m (drop (i + 1) ps))
  product_here c f =
      h ∙ ap (λ z. take i ps ++ with_product m z) (rest_is ps i n d l e)
      ∙ ap (λ (z : Bool). take i ps ++ (if z then more_times n m.times ∷ drop (i + 1) ps else n ∷ with_product m (drop (i + 1) ps))) f

  pub product_there : alike n.factors m.factors ≡ true → with_product m ps ≡ slice_set ps i (more_times n m.times)
  product_there f = product_here true f ∙ sym (set_is ps i (more_times n m.times) l)

  pub product_after : alike n.factors m.factors ≡ false → with_product m ps ≡ take (i + 1) ps ++ with_product m (drop (i + 1) ps)
  product_after f =
      product_here false f ∙ sym (append_assoc (take i ps) (n ∷ []) (with_product m (drop (i + 1) ps)))
      ∙ ap (λ z. z ++ with_product m (drop (i + 1) ps)) (sym (taken ps i n d l e))

pub product_end : (m : Product) (ps : List Product) (i : ℕ) → length ps ≤ i → with_product m ps ≡ take i ps ++ with_product m (drop i ps) →
    with_product m ps ≡ ps ++ m ∷ []
product_end m ps i l h = h ∙ ap (λ z. take i ps ++ with_product m z) (drop_all i ps l) ∙ ap (λ z. z ++ m ∷ []) (take_all i ps l)

module _ (nodes : List Node) (facts : List Fact) where
  -- what is left to be multiplied out, and what it makes
  pub expanded_goes : (fuel left : ℕ) (todo longer : List Product) (i : ℕ) (m d : Product) (ps qs : List Product) → 0 < fuel → left ≡ fuel - 1 →
      i < length todo → m ≡ get_or todo i d → longer ≡ todo ++ opened nodes facts m m.rest → qs ≡ multiplies.taken m m.rest ps →
      expanded left nodes facts (drop (i + 1) longer) qs ≡ expanded fuel nodes facts (drop i todo) ps
  unfolding expanded
  expanded_goes zero left todo longer i m d ps qs k e l g h j = absurd (omega arith)
  expanded_goes (suc fuel) left todo longer i m d ps qs k e l g h j =
      let os = opened nodes facts m m.rest in
      let ts = multiplies.taken m m.rest ps in
      let f : left ≡ fuel = omega arith in
      ap (λ z. expanded z nodes facts (drop (i + 1) longer) qs) f
      ∙ ap (λ z. expanded fuel nodes facts (drop (i + 1) longer) z) j
      ∙ ap (λ z. expanded fuel nodes facts (drop (i + 1) z) ts) h
      ∙ ap (λ z. expanded fuel nodes facts z ts) (drop-append-le (i + 1) todo os (omega arith))
      ∙ ap (λ z. expanded (suc fuel) nodes facts z ps) (sym (rest_is todo i m d l g))

  pub expanded_done : (fuel : ℕ) (todo : List Product) (i : ℕ) (ps : List Product) → 0 < fuel → length todo ≤ i →
      expanded fuel nodes facts (drop i todo) ps ≡ Some ps
  unfolding expanded
  expanded_done zero todo i ps k l = absurd (omega arith)
  expanded_done (suc fuel) todo i ps k l = ap (λ z. expanded (suc fuel) nodes facts z ps) (drop_all i todo l)

  pub expanded_spent : (fuel : ℕ) (todo ps : List Product) → fuel ≡ 0 → expanded fuel nodes facts todo ps ≡ None
  unfolding expanded
  expanded_spent zero todo ps e = refl
  expanded_spent (suc fuel) todo ps e = absurd (omega arith)
