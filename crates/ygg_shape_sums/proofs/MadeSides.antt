-- What was made step by step is a side, and is whether a sum is 0, split on a test or not.
use Rattle.std.proofs.Common.{◌≡◌, ℕ, ◌-◌, Bool, true, false, if◌then◌else◌, Option, Some, None, List, [], ◌∷◌, ◌++◌, Result, Ok, Err, IfOk, OnOk, sym, ap, ◌∙◌, subst}
use Rattle.ygg_value.specs.Words.{word}
use Rattle.ygg_value.specs.declared.operation.Op.TheVariants.{Add}
use Rattle.ygg_shape_words.specs.ygg_rules.declared.rule.RuleKind.{RuleKind}
use Rattle.ygg_shape_words.specs.ygg_bank.Makes.{Make, Out, pure, and_make}
use Rattle.ygg_shape_words.specs.ygg_bank.Making.{made}
use Rattle.ygg_shape_words.specs.ygg_bank.declared.node.Id.{Id}
use Rattle.ygg_shape_words.specs.ygg_bank.declared.node.Node.{Node}
use Rattle.ygg_shape_words.specs.ygg_bank.declared.node.Node.TheVariants.{Const, Bin}
use Rattle.ygg_shape_words.specs.Picking.{picked}
use Rattle.ygg_shape_words.specs.Same.{same_words}
use Rattle.ygg_shape_sums.proofs.Steps.{goes}
use Rattle.ygg_shape_sums.specs.Equates.{Step, Found, IsFound, found, split_as}
use Rattle.ygg_shape_sums.specs.Multiplies.{expanded}
use Rattle.ygg_shape_sums.specs.Parts.{Sum, empty}
use Rattle.ygg_shape_sums.specs.Products.{Product}
use Rattle.ygg_shape_sums.specs.Reduces.{any_product, products_of}
use Rattle.ygg_shape_sums.specs.declared.multiplying.TheConstants.{MULTIPLY_LIMIT}
use Rattle.ygg_shape_sums.specs.Remains.{with_terms, remains_of, vanishes_left}
use Rattle.ygg_shape_sums.specs.Readings.{fact}
use Rattle.ygg_shape_sums.specs.declared.reading.Fact.{Fact}
use Rattle.ygg_shape_sums.specs.Sides.{share, all_more, side, vanishes}
use Rattle.ygg_shape_sums.specs.declared.parts.Summand.{Summand}

module _ (kinds : List RuleKind) (w : ℕ) (s : Sum) (old : List Node) where
  -- both sides, compared
  pub vanishes_goes : (first second : List Node) (one two : Id) → first ≡ (side kinds w false s old).nodes → one ≡ (side kinds w false s old).value →
      second ≡ (side kinds w true s first).nodes → two ≡ (side kinds w true s first).value → same_words kinds one two second ≡ vanishes kinds w s old
  vanishes_goes first second one two p q x y =
      goes (side kinds w true s) (λ z. same_words kinds one z) first second two x y
      ∙ goes (side kinds w false s) (λ a. and_make (side kinds w true s) (λ z. same_words kinds a z)) old first one p q

  module _ (second : Bool) where
    abbrev with_rest : ℕ → Id → Make Id
    with_rest number a = and_make (made kinds (Const (word w number))) (λ k. made kinds (Bin Add a k))

    abbrev with_all : List Summand → Id → Make Id
    with_all parts zero = and_make (all_more kinds w second parts zero) (with_rest (share w second s.number))

    -- the terms, and the number
    pub side_goes : (first next last : List Node) (zero all rest : Id) (parts : List Summand) (number n : ℕ) →
        first ≡ (made kinds (Const (word w 0)) old).nodes → zero ≡ (made kinds (Const (word w 0)) old).value →
        next ≡ (all_more kinds w second parts zero first).nodes → all ≡ (all_more kinds w second parts zero first).value → parts ≡ s.parts →
        number ≡ share w second n → n ≡ s.number →
        last ≡ (made kinds (Const (word w number)) next).nodes → rest ≡ (made kinds (Const (word w number)) next).value →
        made kinds (Bin Add all rest) last ≡ side kinds w second s old
    side_goes first next last zero all rest parts number n p q x y e f g u v =
        goes (made kinds (Const (word w number))) (λ k. made kinds (Bin Add all k)) next last rest u v
        ∙ ap (λ m. with_rest m all next) (f ∙ ap (share w second) g)
        ∙ goes (all_more kinds w second parts zero) (with_rest (share w second s.number)) first next all x y
        ∙ ap (λ ps. with_all ps zero first) e
        ∙ goes (made kinds (Const (word w 0))) (with_all s.parts) old first zero p q

module _ {E : Type 0} (kinds : List RuleKind) (w : ℕ) (next : Step) (facts : List Fact) (s : Sum) (o : Option Id) (old new : List Node) where
  -- no split
  pub split_none : (left : ℕ) (r : Result Id E) → o ≡ None → OnOk r (new ≡ (vanishes_left kinds w facts s old).nodes) →
      IfOk r (λ id. id ≡ (vanishes_left kinds w facts s old).value) →
      IfOk r (λ id. IsFound (split_as kinds w next left facts s o) old new id left)
  split_none left (Ok id) n e f =
      subst (λ (z : Option Id). IsFound (split_as kinds w next left facts s z) old new id left) (sym n) (record { nodes = e; value = ap (found left) f })
  split_none left (Err x) n e f = tt

  -- both halves, and the pick between them
  pub split_some : (left less l m : ℕ) (t one two : Id) (first second : List Node) (r : Result Id E) → o ≡ Some t → less ≡ left - 1 →
      IsFound (next less (facts ++ fact t true ∷ []) s) old first one l → IsFound (next l (facts ++ fact t false ∷ []) s) first second two m →
      OnOk r (new ≡ (picked kinds t one two second).nodes) → IfOk r (λ id. id ≡ (picked kinds t one two second).value) →
      IfOk r (λ id. IsFound (split_as kinds w next left facts s o) old new id m)
  split_some left less l m t one two first second (Err x) n d p q e f = tt
  split_some left less l m t one two first second (Ok id) n d p q e f =
      let pick : Found → Found → Make Found = λ a b. and_make (picked kinds t a.term b.term) (λ r. pure (found b.left r)) in
      let half : ℕ → Bool → Make Found = λ k digit. next k (facts ++ fact t digit ∷ []) s in
      let whole : pick (found l one) (found m two) second ≡ split_as kinds w next left facts s (Some t) old =
      goes (half l false) (pick (found l one)) first second (found m two) q.nodes q.value
      ∙ goes (half less true) (λ a. and_make (half a.left false) (pick a)) old first (found l one) p.nodes p.value
      ∙ ap (λ k. and_make (half k true) (λ a. and_make (half a.left false) (pick a)) old) d in
      subst (λ (z : Option Id). IsFound (split_as kinds w next left facts s z) old new id m) (sym n) (record {
        nodes = e ∙ ap (λ (x : Out Found). x.nodes) whole;
        value = ap (found m) f ∙ ap (λ (x : Out Found). x.value) whole;
      })

module _ (kinds : List RuleKind) (w : ℕ) (facts : List Fact) (s : Sum) (old : List Node) where
  abbrev pub found_products : Option (List Product)
  found_products = if any_product old s.parts then expanded MULTIPLY_LIMIT old facts (products_of s.parts) [] else None

  abbrev with_found : Option (List Product) → Out Id
  with_found m = and_make (remains_of kinds w s m) (vanishes kinds w) old

  -- a sum that isn't multiplied out
  pub left_none : found_products ≡ None → vanishes kinds w s old ≡ vanishes_left kinds w facts s old
  left_none e = ap with_found (sym e)

  -- and one that is
  pub left_some : (qs : List Product) (n : ℕ) (sum : Sum) (new : List Node) → n ≡ s.number → found_products ≡ Some qs →
      new ≡ (with_terms kinds w qs (empty n) old).nodes → sum ≡ (with_terms kinds w qs (empty n) old).value →
      vanishes kinds w sum new ≡ vanishes_left kinds w facts s old
  left_some qs n sum new i e p q =
      goes (with_terms kinds w qs (empty n)) (vanishes kinds w) old new sum p q
      ∙ ap (λ z. and_make (with_terms kinds w qs (empty z)) (vanishes kinds w) old) i ∙ ap with_found (sym e)
