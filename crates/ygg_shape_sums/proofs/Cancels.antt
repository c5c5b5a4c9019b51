-- What is known of two words where nothing is left of the one less the other.
use Rattle.std.proofs.Common.{◌≡◌, ◌<◌, ◌≤◌, ◌+◌, ◌-◌, ◌*◌, ◌^◌, ℕ, zero, suc, Bool, true, false, if◌then◌else◌, Option}
use Rattle.std.proofs.Common.{Some, None, List, [], ◌∷◌, ◌++◌, All, length, get_or, slice_get, refl, sym, ap, ◌∙◌, subst, arith}
use Rattle.std.proofs.Common.{Result, Ok, Err, IfOk}
use Rattle.std.specs.Prelude.{◌&&◌}
use Rattle.std.proofs.lemmas.List.Elements.{All-append, All-get_or, All-nil, All-push}
use Rattle.ygg_shape_words.specs.ygg_bank.Nodes.{HasWidth, InOrder}
use Rattle.ygg_shape_words.specs.ygg_bank.Values.{Inputs, Values, Fits}
use Rattle.ygg_shape_words.specs.ygg_bank.declared.node.Id.{Id}
use Rattle.ygg_shape_words.specs.ygg_bank.declared.node.Node.{Node}
use Rattle.ygg_shape_words.proofs.Terms.{holds}
use Rattle.ygg_shape_sums.proofs.Factors.{singles_fit, expanded_fit, products_digit}
use Rattle.ygg_shape_sums.proofs.Fit.{DigitIn, parts_of_fit, below_fit, reading_fits}
use Rattle.ygg_shape_sums.proofs.Modulo.{Like, like, like_back, like_both}
use Rattle.ygg_shape_sums.proofs.Polynomials.{all_worth, all_read, expanded_is, all_gone_is}
use Rattle.ygg_shape_sums.proofs.Worth.{bits, worth, FactsHold}
use Rattle.ygg_shape_sums.specs.Cancels.{inside, by_test, outcome_of, remainder, is_nothing, cancels_within}
use Rattle.ygg_shape_sums.specs.Equates.{difference}
use Rattle.ygg_shape_sums.specs.Gathers.{parts_of, below}
use Rattle.ygg_shape_sums.specs.Multiplies.{expanded}
use Rattle.ygg_shape_sums.specs.Parts.{PartsFit, PartsAlike}
use Rattle.ygg_shape_sums.specs.Products.{Product, ProductFits, ProductsAlike, single, all_gone, products_test}
use Rattle.ygg_shape_sums.specs.Readings.{read, fact}
use Rattle.ygg_shape_sums.specs.declared.cancelling.Outcome.{Outcome}
use Rattle.ygg_shape_sums.specs.declared.cancelling.Outcome.TheVariants as outcome
use Rattle.ygg_shape_sums.specs.declared.multiplying.TheConstants.{MULTIPLY_LIMIT}
use Rattle.ygg_shape_sums.specs.declared.parts.Summand.{Summand}
use Rattle.ygg_shape_sums.specs.declared.reading.Fact.{Fact}
use Rattle.ygg_shape_sums.specs.declared.reading.TheConstants.{LESS_ONE}

-- one word less another, as products
abbrev pub singles : Id → Id → List Product
singles a b = single 1 a ∷ single LESS_ONE b ∷ []

pub singles_alike : (nodes : List Node) (w : ℕ) (a b : Id) → HasWidth nodes a w → HasWidth nodes b w → ProductsAlike nodes (singles a b)
singles_alike nodes w a b p q = record { width = w; fit = singles_fit nodes w 1 LESS_ONE a b p q }

-- what was multiplied out has the width
pub sum_alike : (nodes : List Node) (w : ℕ) (facts : List Fact) (a b : Id) (qs : List Product) → InOrder [] nodes → HasWidth nodes a w →
    HasWidth nodes b w → expanded MULTIPLY_LIMIT nodes facts (singles a b) [] ≡ Some qs → ProductsAlike nodes qs
sum_alike nodes w facts a b qs o p q e = record {
  width = w;
  fit = expanded_fit nodes w MULTIPLY_LIMIT facts (singles a b) [] qs o (singles_fit nodes w 1 LESS_ONE a b p q) (All-nil (ProductFits nodes w)) e;
}

-- a test that is to be split on is a single digit
module _ (nodes : List Node) (w : ℕ) (t : Id) where
  test_digit : (n : Option Id) → by_test n ≡ outcome.Split t → DigitIn nodes w n → HasWidth nodes t 1
  test_digit None e d = absurd (cc)
  test_digit (Some u) e d = let f : u ≡ t = cc in subst (λ (z : Id). HasWidth nodes z 1) f d

  gone_digit : (c : Bool) (n : Option Id) → (if c then outcome.Nothing else by_test n) ≡ outcome.Split t → DigitIn nodes w n → HasWidth nodes t 1
  gone_digit true n e d = absurd (cc)
  gone_digit false n e d = test_digit n e d

  outcome_digit : (m : Option (List Product)) → InOrder [] nodes → ((qs : List Product) → m ≡ Some qs → All (ProductFits nodes w) qs) →
      outcome_of nodes w m ≡ outcome.Split t → HasWidth nodes t 1
  outcome_digit None o h e = absurd (cc)
  outcome_digit (Some qs) o h e = gone_digit (all_gone w qs) (products_test nodes w qs) e (products_digit nodes w qs o (h qs refl))

  pub remainder_digit : (facts : List Fact) (a b : Id) → InOrder [] nodes → HasWidth nodes a w → HasWidth nodes b w →
      remainder nodes w facts a b ≡ outcome.Split t → HasWidth nodes t 1
  remainder_digit facts a b o p q e =
      outcome_digit (expanded MULTIPLY_LIMIT nodes facts (singles a b) []) o
      (λ qs g. expanded_fit nodes w MULTIPLY_LIMIT facts (singles a b) [] qs o (singles_fit nodes w 1 LESS_ONE a b p q) (All-nil (ProductFits nodes w)) g) e

-- what is looked at after a part
pub entered_fit : (nodes : List Node) (w : ℕ) (p : Summand) → InOrder [] nodes → HasWidth nodes p.term w → PartsFit nodes w (inside nodes p)
entered_fit nodes w p o h =
    let r = read nodes [] (slice_get nodes p.term.0) in
    let c = slice_get nodes p.term.0 in
    All-append (λ (p : Summand). HasWidth nodes p.term w) (parts_of p r) (below p c) (parts_of_fit nodes w p r (reading_fits nodes [] p.term w c o refl h))
    (below_fit nodes w p c o refl h)

pub entered_alike : (nodes : List Node) (ps longer : List Summand) (i : ℕ) (p : Summand) → InOrder [] nodes → PartsAlike nodes ps → i < length ps →
    p ≡ get_or ps i p → longer ≡ ps ++ inside nodes p → PartsAlike nodes longer
entered_alike nodes ps longer i p o h l e g =
    let w = h.width in
    let P = λ (p : Summand). HasWidth nodes p.term w in
    let own : HasWidth nodes p.term w = subst P (sym e) (All-get_or P ps i p l h.fit) in
    record { width = w; fit = subst (PartsFit nodes w) (sym g) (All-append P ps (inside nodes p) h.fit (entered_fit nodes w p o own)) }

-- a comparison that was made, and what it goes on with
pub within_spent : (depth : ℕ) (nodes : List Node) (w : ℕ) (a b : Id) (facts : List Fact) → depth ≡ 0 → false ≡ cancels_within depth nodes w a b facts
unfolding cancels_within
within_spent zero nodes w a b facts e = refl
within_spent (suc depth) nodes w a b facts e = absurd (omega arith)

pub within_goes : (depth : ℕ) (nodes : List Node) (w : ℕ) (a b : Id) (facts : List Fact) (o : Outcome) (r : Bool) → 0 < depth →
    o ≡ remainder nodes w facts a b → r ≡ is_nothing (cancels_within (depth - 1) nodes w a b) facts o → r ≡ cancels_within depth nodes w a b facts
unfolding cancels_within
within_goes zero nodes w a b facts o r l e g = absurd (omega arith)
within_goes (suc depth) nodes w a b facts o r l e g =
    let same : suc depth - 1 ≡ depth = omega arith in
    g ∙ ap (λ z. is_nothing (cancels_within z nodes w a b) facts o) same ∙ ap (λ z. is_nothing (cancels_within depth nodes w a b) facts z) e

pub split_goes : (next : List Fact → Bool) (facts one two : List Fact) (t : Id) (r s : Bool) → one ≡ facts ++ fact t true ∷ [] →
    two ≡ facts ++ fact t false ∷ [] → r ≡ next one → r ≡ true → s ≡ next two → s ≡ is_nothing next facts (outcome.Split t)
split_goes next facts one two t r s e g h k j =
    ap (λ z. z && s) (sym k ∙ h ∙ ap next e) ∙ ap (λ z. next (facts ++ fact t true ∷ []) && z) (j ∙ ap next g)

pub split_stops : (next : List Fact → Bool) (facts one : List Fact) (t : Id) (r : Bool) → one ≡ facts ++ fact t true ∷ [] → r ≡ next one → r ≡ false →
    false ≡ is_nothing next facts (outcome.Split t)
split_stops next facts one t r e h k = ap (λ z. z && next (facts ++ fact t false ∷ [])) (sym k ∙ h ∙ ap next e)

-- what the second side of a split answers, where nothing is left on the first
pub split_rest : {E : Type 0} (depth : ℕ) (nodes : List Node) (w : ℕ) (a b : Id) (facts : List Fact) (t : Id) (r : Bool) (s : Result Bool E) → 0 < depth →
    outcome.Split t ≡ remainder nodes w facts a b → r ≡ cancels_within (depth - 1) nodes w a b (facts ++ fact t true ∷ []) → r ≡ true →
    IfOk s (λ gone. gone ≡ cancels_within (depth - 1) nodes w a b (facts ++ fact t false ∷ [])) →
    IfOk s (λ gone. gone ≡ cancels_within depth nodes w a b facts)
split_rest depth nodes w a b facts t r (Ok gone) l e h k j =
    within_goes depth nodes w a b facts (outcome.Split t) gone l e
    (split_goes (cancels_within (depth - 1) nodes w a b) facts (facts ++ fact t true ∷ []) (facts ++ fact t false ∷ []) t r gone refl refl h k j)
split_rest depth nodes w a b facts t r (Err x) l e h k j = tt

module _ (inputs : Inputs) (v : Values) (w : ℕ) (most : w ≤ 64) (nodes : List Node) (f : Fits inputs v nodes) (a b : Id) (p : HasWidth nodes a w)
    (q : HasWidth nodes b w) where
  -- the difference is 0
  abbrev IsZero : Type 0
  IsZero = Like (2 ^ w) (worth inputs v (difference a b)) 0

  same_worth : all_worth inputs v (singles a b) + 0 ≡ worth inputs v (difference a b)
  same_worth = regroup (bits inputs v a) (bits inputs v b) where
    regroup : (x y : ℕ) → 1 * (1 * (x * 1)) + (LESS_ONE * (1 * (y * 1)) + 0) + 0 ≡ 0 + (1 * x + (LESS_ONE * y + 0))
    regroup x y = omega arith

  never_nothing : (n : Option Id) → by_test n ≡ outcome.Nothing → IsZero
  never_nothing None e = absurd (cc)
  never_nothing (Some t) e = absurd (cc)

  gone_is : (facts : List Fact) (qs : List Product) (c : Bool) → FactsHold inputs v facts → expanded MULTIPLY_LIMIT nodes facts (singles a b) [] ≡ Some qs →
      all_gone w qs ≡ c → (if c then outcome.Nothing else by_test (products_test nodes w qs)) ≡ outcome.Nothing → IsZero
  gone_is facts qs true k e g h =
      let n = 2 ^ w in
      let x = all_worth inputs v (singles a b) + 0 in
      let d = worth inputs v (difference a b) in
      like_both n d x 0 (like n d x (sym same_worth))
      (like_both n x (all_read inputs v qs) 0 (like_back n (all_read inputs v qs) x
      (expanded_is inputs v w most nodes f MULTIPLY_LIMIT facts (singles a b) [] qs k (singles_fit nodes w 1 LESS_ONE a b p q) e))
      (all_gone_is inputs v w most qs g))
  gone_is facts qs false k e g h = never_nothing (products_test nodes w qs) h

  nothing_is : (facts : List Fact) (m : Option (List Product)) → FactsHold inputs v facts → expanded MULTIPLY_LIMIT nodes facts (singles a b) [] ≡ m →
      outcome_of nodes w m ≡ outcome.Nothing → IsZero
  nothing_is facts None k e g = absurd (cc)
  nothing_is facts (Some qs) k e g = gone_is facts qs (all_gone w qs) k e refl g

  both_true : (c d : Bool) → c && d ≡ true → (c ≡ true) × (d ≡ true)
  both_true true true e = (refl, refl)
  both_true true false e = absurd (cc)
  both_true false d e = absurd (cc)

  one_more : (facts : List Fact) (t : Id) (d : Bool) → FactsHold inputs v facts → holds inputs v t ≡ d → FactsHold inputs v (facts ++ fact t d ∷ [])
  one_more facts t d h e = All-push (λ (f : Fact). holds inputs v f.test ≡ f.yes) facts (fact t d) h e

  by_digit : (c : Bool) → (c ≡ true → IsZero) → (c ≡ false → IsZero) → IsZero
  by_digit true h i = h refl
  by_digit false h i = i refl

  split_is : (next : List Fact → Bool) (facts : List Fact) (o : Outcome) → FactsHold inputs v facts →
      ((more : List Fact) → FactsHold inputs v more → next more ≡ true → IsZero) → (o ≡ outcome.Nothing → IsZero) → is_nothing next facts o ≡ true → IsZero
  split_is next facts outcome.Nothing k h i e = i refl
  split_is next facts outcome.Open k h i e = absurd (cc)
  split_is next facts (outcome.Split t) k h i e =
      let c = both_true (next (facts ++ fact t true ∷ [])) (next (facts ++ fact t false ∷ [])) e in
      by_digit (holds inputs v t) (λ d. h (facts ++ fact t true ∷ []) (one_more facts t true k d) c.0)
      (λ d. h (facts ++ fact t false ∷ []) (one_more facts t false k d) c.1)

  -- where nothing is left, the difference is 0
  pub cancels_within_is : (depth : ℕ) (facts : List Fact) → FactsHold inputs v facts → cancels_within depth nodes w a b facts ≡ true →
      Like (2 ^ w) (worth inputs v (difference a b)) 0
  unfolding cancels_within
  cancels_within_is zero facts k e = absurd (cc)
  cancels_within_is (suc depth) facts k e =
      split_is (cancels_within depth nodes w a b) facts (remainder nodes w facts a b) k (cancels_within_is depth)
      (nothing_is facts (expanded MULTIPLY_LIMIT nodes facts (singles a b) []) k refl) e
