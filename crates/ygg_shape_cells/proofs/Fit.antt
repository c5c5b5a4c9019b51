-- The words of pairs stand among the nodes, and a shared test is a single digit.
use Rattle.std.proofs.Common.{◌≡◌, ◌==◌, ◌-◌, ◌&&◌, ℕ, Bool, true, false, if◌then◌else◌, Option, Some, None, List, [], ◌∷◌}
use Rattle.std.proofs.Common.{◌<◌, All, slice_get, get_or, length, refl, sym, ap, ◌∙◌}
use Rattle.std.specs.Prelude.{nat_le, nat_lt}
use Rattle.std.proofs.lemmas.List.Elements.{All-head, All-tail, All-append, All-push, All-nil, All-weaker, All-get_or}
use Rattle.ygg_shape_words.specs.ygg_bank_proofs_Widths.{stands}
use Rattle.ygg_shape_words.specs.ygg_bank.Making.{id}
use Rattle.ygg_shape_words.specs.ygg_bank.Nodes.{widths_of, HasWidth, InOrder, Extends, Stands}
use Rattle.ygg_shape_words.specs.ygg_bank.declared.node.Id.{Id}
use Rattle.ygg_shape_words.specs.ygg_bank.declared.node.Node.{Node}
use Rattle.ygg_shape_words.specs.ygg_bank.declared.node.Node.TheVariants.{Pick}
use Rattle.ygg_shape_words.proofs.Children.{pick_children}
use Rattle.ygg_shape_words.proofs.Fit.{alike, alike_wider}
use Rattle.ygg_shape_words.specs.Forms.{WordsAlike}
use Rattle.ygg_shape_cells.specs.Pairs.{RowsFit, PairsFit, pair, unequal, differing, side, side_at, has_test, sides_of, sides, without_of, without}
use Rattle.ygg_shape_cells.specs.Sharing.{candidate, test_of, count, is_best, better_with, better, better_of, best_of, most_shared, shared}
use Rattle.ygg_shape_cells.specs.declared.pairs.Pair.{Pair}
use Rattle.ygg_shape_cells.specs.declared.sharing.Candidate.{Candidate}

pub pairs_wider : (old new : List Node) (ps : List Pair) → Extends old new → PairsFit old ps → PairsFit new ps
pairs_wider old new ps g h = All-weaker (λ (p : Pair). WordsAlike old p.one p.two) (λ (p : Pair). WordsAlike new p.one p.two)
    (λ p. alike_wider old new p.one p.two g) ps h

-- a word of a pair
pub one_stands : (nodes : List Node) (a b : Id) → WordsAlike nodes a b → Stands nodes a
one_stands nodes a b h = stands nodes a h.width h.one_has

pub two_stands : (nodes : List Node) (a b : Id) → WordsAlike nodes a b → Stands nodes b
two_stands nodes a b h = stands nodes b h.width h.two_has

-- the words of a pair at a place, among more nodes
pub pair_at : (old new : List Node) (ps : List Pair) (i : ℕ) (d : Pair) → Extends old new → PairsFit old ps → i < length ps →
    WordsAlike new (get_or ps i d).one (get_or ps i d).two
pair_at old new ps i d g h l =
    let p = get_or ps i d in alike_wider old new p.one p.two g (All-get_or (λ (p : Pair). WordsAlike old p.one p.two) ps i d l h)

module _ (nodes : List Node) where
  abbrev Fit : Pair → Type 0
  Fit p = WordsAlike nodes p.one p.two

  one_fits : (p : Pair) → WordsAlike nodes p.one p.two → PairsFit nodes (p ∷ [])
  one_fits p h = All-push Fit [] p (All-nil Fit) h

  unequal_fit : (a b : Id) → WordsAlike nodes a b → PairsFit nodes (unequal a b)
  unequal_fit a b h = case (a.0 == b.0) where
    case : (c : Bool) → PairsFit nodes (if c then [] else pair a b ∷ [])
    case true = All-nil Fit
    case false = one_fits (pair a b) h

  differing_fit : (w : ℕ) (one two : List Id) → All (λ a. HasWidth nodes a w) one → All (λ a. HasWidth nodes a w) two → PairsFit nodes (differing one two)
  differing_fit w [] two p q = All-nil Fit
  differing_fit w (a ∷ one) [] p q = All-nil Fit
  differing_fit w (a ∷ one) (b ∷ two) p q =
      let P = λ (a : Id). HasWidth nodes a w in
      All-append Fit (unequal a b) (differing one two) (unequal_fit a b (alike nodes a b w (All-head P a one p) (All-head P b two q)))
      (differing_fit w one two (All-tail P a one p) (All-tail P b two q))

  -- the pairs of two rows
  pub rows_fit : (one two : List Id) → RowsFit nodes one two → PairsFit nodes (differing one two)
  rows_fit one two h = differing_fit h.width one two h.one_has h.two_has

  side_fits : (t a : Id) (value : Bool) (w : ℕ) (n : Option Node) → InOrder [] nodes → slice_get nodes a.0 ≡ n → HasWidth nodes a w →
      HasWidth nodes (side t value a n) w
  side_fits t a value w (Some (Pick u x y)) o e h = case (u.0 == t.0) value where
    case : (c d : Bool) → HasWidth nodes (if c then if d then x else y else a) w
    case true true = let c = pick_children nodes a u x y w o e h in c.first
    case true false = let c = pick_children nodes a u x y w o e h in c.second
    case false d = h
  side_fits t a value w n o e h = h

  sides_of_fit : (t : Id) (value : Bool) (p : Pair) → InOrder [] nodes → WordsAlike nodes p.one p.two → PairsFit nodes (sides_of nodes t value p)
  sides_of_fit t value p o h = case (has_test nodes t p) where
    case : (c : Bool) → PairsFit nodes (if c then unequal (side_at nodes t value p.one) (side_at nodes t value p.two) else [])
    case true =
        unequal_fit (side_at nodes t value p.one) (side_at nodes t value p.two) (alike nodes (side_at nodes t value p.one) (side_at nodes t value p.two)
        h.width (side_fits t p.one value h.width (slice_get nodes p.one.0) o refl h.one_has)
        (side_fits t p.two value h.width (slice_get nodes p.two.0) o refl h.two_has))
    case false = All-nil Fit

  pub sides_fit : (t : Id) (value : Bool) (ps : List Pair) → InOrder [] nodes → PairsFit nodes ps → PairsFit nodes (sides nodes t value ps)
  sides_fit t value [] o h = All-nil Fit
  sides_fit t value (p ∷ ps) o h =
      All-append Fit (sides_of nodes t value p) (sides nodes t value ps) (sides_of_fit t value p o (All-head Fit p ps h))
      (sides_fit t value ps o (All-tail Fit p ps h))

  without_of_fit : (t : Id) (p : Pair) → WordsAlike nodes p.one p.two → PairsFit nodes (without_of nodes t p)
  without_of_fit t p h = case (has_test nodes t p) where
    case : (c : Bool) → PairsFit nodes (if c then [] else p ∷ [])
    case true = All-nil Fit
    case false = one_fits p h

  pub without_fit : (t : Id) (ps : List Pair) → PairsFit nodes ps → PairsFit nodes (without nodes t ps)
  without_fit t [] h = All-nil Fit
  without_fit t (p ∷ ps) h =
      All-append Fit (without_of nodes t p) (without nodes t ps) (without_of_fit t p (All-head Fit p ps h)) (without_fit t ps (All-tail Fit p ps h))

  -- a test that is found is a single digit
  abbrev DigitIn : Option Id → Type 0
  DigitIn None = Unit {0}
  DigitIn (Some t) = HasWidth nodes t 1

  -- a candidate that two pairs have is a single digit
  abbrev IsTest : Candidate → Type 0
  IsTest best = nat_lt 1 best.count ≡ true → HasWidth nodes best.test 1

  test_digit : (a : Id) (w : ℕ) (n : Option Node) → InOrder [] nodes → slice_get nodes a.0 ≡ n → HasWidth nodes a w → DigitIn (test_of n)
  test_digit a w (Some (Pick t x y)) o e h = let c = pick_children nodes a t x y w o e h in c.test
  test_digit a w n o e h = tt

  better_case : (ps : List Pair) (best : Candidate) (n : Option Id) → IsTest best → DigitIn n → IsTest (better_with nodes ps best n)
  better_case ps best (Some t) h d = case (is_best best t) (nat_lt best.count (count nodes t ps)) where
    case : (b c : Bool) → IsTest (if b then best else if c then candidate t (count nodes t ps) else best)
    case true c = h
    case false true = λ e. d
    case false false = h
  better_case ps best None h d = h

  better_test : (ps : List Pair) (best : Candidate) (a : Id) (w : ℕ) → InOrder [] nodes → HasWidth nodes a w → IsTest best → IsTest (better nodes ps best a)
  better_test ps best a w o h k = better_case ps best (test_of (slice_get nodes a.0)) k (test_digit a w (slice_get nodes a.0) o refl h)

  best_test : (all : List Pair) (best : Candidate) (ps : List Pair) → InOrder [] nodes → PairsFit nodes ps → IsTest best → IsTest (best_of nodes all best ps)
  best_test all best [] o h k = k
  best_test all best (p ∷ ps) o h k =
      let w = All-head Fit p ps h in
      let one = better nodes all best p.one in
      best_test all (better_of nodes all best p) ps o (All-tail Fit p ps h)
      (better_test all one p.two w.width o w.two_has (better_test all best p.one w.width o w.one_has k))

  pub shared_digit : (ps : List Pair) (t : Id) → InOrder [] nodes → PairsFit nodes ps → shared nodes ps ≡ Some t → HasWidth nodes t 1
  shared_digit ps t o h e =
      let best = most_shared nodes ps in
      case best (nat_lt 1 best.count) (nat_le (length ps - best.count) best.count) refl (best_test ps (candidate (id 0) 1) ps o h (λ e. absurd (cc))) e where
        case : (best : Candidate) (c d : Bool) → nat_lt 1 best.count ≡ c → IsTest best → (if c && d then Some best.test else None) ≡ Some t → HasWidth nodes t 1
        case best true true f k e = let g : best.test ≡ t = cc in ap (λ (z : Id). slice_get (widths_of nodes) z.0) (sym g) ∙ k f
        case best true false f k e = absurd (cc)
        case best false d f k e = absurd (cc)
