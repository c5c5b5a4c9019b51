-- What the equality of pairs is worth, and that a split on a test keeps it.
use Rattle.std.proofs.Common.{◌≡◌, ◌==◌, ℕ, Bool, true, false, ◌&&◌, if◌then◌else◌, Option, Some, List, [], ◌∷◌, ◌++◌}
use Rattle.std.proofs.Common.{slice_get, length, map, refl, sym, ap, ◌∙◌, arith}
use Rattle.std.specs.Str.{bytes_eq}
use Rattle.std.proofs.lemmas.Bool.Decides.{Decides-eqb}
use Rattle.ygg_value.specs.Number.{Number}
use Rattle.ygg_shape_words.specs.ygg_bank.Values.{Inputs, Values, Fits}
use Rattle.ygg_shape_words.specs.ygg_bank.declared.node.Id.{Id}
use Rattle.ygg_shape_words.specs.ygg_bank.declared.node.Node.{Node}
use Rattle.ygg_shape_words.specs.ygg_bank.declared.node.Node.TheVariants.{Pick}
use Rattle.ygg_shape_words.proofs.Terms.{holds, equal}
use Rattle.ygg_shape_cells.specs.Pairs.{pair, unequal, differing, side, side_at, has_test, sides, without}
use Rattle.ygg_shape_cells.specs.declared.pairs.Pair.{Pair}

self_equal : (x : ℕ) → (x == x) ≡ true
self_equal x = (Decides-eqb x x).1 refl

pub and_true : (a : Bool) → (a && true) ≡ a
and_true true = refl
and_true false = refl

pub and_both : (a b c : Bool) → (a && (b && c)) ≡ ((a && b) && c)
and_both true b c = refl
and_both false b c = refl

and_between : (a b c : Bool) → (a && (b && c)) ≡ (b && (a && c))
and_between true true c = refl
and_between true false c = refl
and_between false true c = refl
and_between false false c = refl

module _ (inputs : Inputs) (v : Values) where
  -- whether the words of each pair have one number
  abbrev pub all_equal : List Pair → Bool
  all_equal [] = true
  all_equal (p ∷ ps) = equal inputs v p.one p.two && all_equal ps

  append_equal : (ps qs : List Pair) → all_equal (ps ++ qs) ≡ (all_equal ps && all_equal qs)
  append_equal [] qs = refl
  append_equal (p ∷ ps) qs =
      ap (λ z. equal inputs v p.one p.two && z) (append_equal ps qs) ∙ and_both (equal inputs v p.one p.two) (all_equal ps) (all_equal qs)

  unequal_is : (a b : Id) → all_equal (unequal a b) ≡ equal inputs v a b
  unequal_is a b = case (a.0 == b.0) refl where
    case : (c : Bool) → (a.0 == b.0) ≡ c → all_equal (if c then [] else pair a b ∷ []) ≡ equal inputs v a b
    case true e = sym (ap (λ z. (v a.0).bits == (v z).bits) (sym ((Decides-eqb a.0 b.0).0 e)) ∙ self_equal (v a.0).bits)
    case false e = and_true (equal inputs v a b)

  -- the pairs of two rows are equal where the rows are
  pub differing_is : (one two : List Id) → length one ≡ length two →
      all_equal (differing one two) ≡ bytes_eq (map (λ a. (v a.0).bits) one) (map (λ a. (v a.0).bits) two)
  differing_is [] [] l = refl
  differing_is [] (b ∷ two) l = absurd (omega arith)
  differing_is (a ∷ one) [] l = absurd (omega arith)
  differing_is (a ∷ one) (b ∷ two) l =
      append_equal (unequal a b) (differing one two) ∙ ap (λ z. z && all_equal (differing one two)) (unequal_is a b)
      ∙ ap (λ z. equal inputs v a b && z) (differing_is one two (omega arith))

  -- where the test has the value, a word is that side
  side_is : (nodes : List Node) (t a : Id) (value : Bool) (n : Option Node) → Fits inputs v nodes → slice_get nodes a.0 ≡ n → holds inputs v t ≡ value →
      v (side t value a n).0 ≡ v a.0
  side_is nodes t a value (Some (Pick u x y)) f e h = case (u.0 == t.0) value refl h where
    case : (c d : Bool) → (u.0 == t.0) ≡ c → holds inputs v t ≡ d → v (if c then if d then x else y else a).0 ≡ v a.0
    case true true g h =
        sym (f.values a.0 (Pick u x y) e ∙ ap (λ z. if (v z).bits == 1 then v x.0 else v y.0) ((Decides-eqb u.0 t.0).0 g)
        ∙ ap (λ (c : Bool). if c then v x.0 else v y.0) h)
    case true false g h =
        sym (f.values a.0 (Pick u x y) e ∙ ap (λ z. if (v z).bits == 1 then v x.0 else v y.0) ((Decides-eqb u.0 t.0).0 g)
        ∙ ap (λ (c : Bool). if c then v x.0 else v y.0) h)
    case false d g h = refl
  side_is nodes t a value n f e h = refl

  sides_equal : (nodes : List Node) (t : Id) (value : Bool) (p : Pair) → Fits inputs v nodes → holds inputs v t ≡ value →
      all_equal (unequal (side_at nodes t value p.one) (side_at nodes t value p.two)) ≡ equal inputs v p.one p.two
  sides_equal nodes t value p f h =
      let a = side_at nodes t value p.one in let b = side_at nodes t value p.two in
      unequal_is a b ∙ ap (λ (z : Number). z.bits == (v b.0).bits) (side_is nodes t p.one value (slice_get nodes p.one.0) f refl h)
      ∙ ap (λ (z : Number). (v p.one.0).bits == z.bits) (side_is nodes t p.two value (slice_get nodes p.two.0) f refl h)

  -- a pair that goes to the sides, or beside the split
  one_split : (p : Pair) (own some rest : List Pair) (whole c : Bool) → all_equal own ≡ equal inputs v p.one p.two →
      whole ≡ (all_equal some && all_equal rest) →
      (equal inputs v p.one p.two && whole) ≡ (all_equal ((if c then own else []) ++ some) && all_equal ((if c then [] else p ∷ []) ++ rest))
  one_split p own some rest whole true e h =
      ap (λ z. equal inputs v p.one p.two && z) h ∙ and_both (equal inputs v p.one p.two) (all_equal some) (all_equal rest)
      ∙ ap (λ z. (z && all_equal some) && all_equal rest) (sym e) ∙ ap (λ z. z && all_equal rest) (sym (append_equal own some))
  one_split p own some rest whole false e h =
      ap (λ z. equal inputs v p.one p.two && z) h ∙ and_between (equal inputs v p.one p.two) (all_equal some) (all_equal rest)

  -- where the test has the value, pairs are equal where those sides are, and the pairs that don't have the test
  pub split_is : (nodes : List Node) (t : Id) (value : Bool) (ps : List Pair) → Fits inputs v nodes → holds inputs v t ≡ value →
      all_equal ps ≡ (all_equal (sides nodes t value ps) && all_equal (without nodes t ps))
  split_is nodes t value [] f h = refl
  split_is nodes t value (p ∷ ps) f h =
      one_split p (unequal (side_at nodes t value p.one) (side_at nodes t value p.two)) (sides nodes t value ps) (without nodes t ps) (all_equal ps)
      (has_test nodes t p) (sides_equal nodes t value p f h) (split_is nodes t value ps f h)
