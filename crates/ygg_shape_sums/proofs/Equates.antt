-- What an equality of sums is worth.
use Rattle.std.proofs.Common.{◌≡◌, ◌<◌, ◌==◌, ◌+◌, ◌-◌, ◌*◌, ◌%◌, ◌^◌, ℕ, zero, suc, Bool, true, false, if◌then◌else◌, Option}
use Rattle.std.proofs.Common.{Some, None, Result, Ok, Err, OnOk, IfOk, List, [], ◌∷◌, ◌++◌, refl, sym, ap, ◌∙◌, subst, arith}
use Rattle.std.proofs.Math.Nat.{mod-eq_of_lt, zero-mod}
use Rattle.std.proofs.lemmas.List.Elements.{All-push, All-nil}
use Rattle.ygg_value.specs.Number.{Number}
use Rattle.ygg_value.specs.Words.{word, bit_of}
use Rattle.ygg_shape_words.specs.ygg_rules.Views.{IsWidth}
use Rattle.ygg_shape_words.specs.ygg_rules.declared.rule.RuleKind.{RuleKind}
use Rattle.ygg_shape_words.specs.ygg_bank_proofs_Exist.{values_fit}
use Rattle.ygg_shape_words.specs.ygg_bank_proofs_Meaning.{fits_fewer}
use Rattle.ygg_shape_words.specs.ygg_bank_proofs_Widths.{wider, width_is, width_fits}
use Rattle.ygg_shape_words.specs.ygg_bank.Makes.{Out, pure, and_make}
use Rattle.ygg_shape_words.specs.ygg_bank.Making.{made}
use Rattle.ygg_shape_words.specs.ygg_bank.Nodes.{width_at, widths_of, HasWidth, Extends, IsBank}
use Rattle.ygg_shape_words.specs.ygg_bank.Values.{Inputs, Values, Fits, value_of}
use Rattle.ygg_shape_words.specs.ygg_bank.declared.node.Id.{Id}
use Rattle.ygg_shape_words.specs.ygg_bank.declared.node.Node.{Node}
use Rattle.ygg_shape_words.specs.ygg_bank.declared.node.Node.TheVariants.{Const}
use Rattle.ygg_shape_words.proofs.Compares.{same_words_is}
use Rattle.ygg_shape_words.proofs.Grows.{picked_grows}
use Rattle.ygg_shape_words.proofs.Picks.{picked_is}
use Rattle.ygg_shape_words.proofs.Terms.{TermIs, holds, equal, made_is}
use Rattle.ygg_shape_words.specs.Forms.{WordsAlike}
use Rattle.ygg_shape_words.specs.Picking.{picked}
use Rattle.ygg_shape_words.specs.Same.{same_words, IsSame}
use Rattle.ygg_shape_sums.proofs.Cancels.{cancels_within_is}
use Rattle.ygg_shape_sums.proofs.Splits.{split_digit}
use Rattle.ygg_shape_sums.proofs.Fit.{two_fit, parts_wider, facts_wider, facts_more}
use Rattle.ygg_shape_sums.proofs.Keeps.{shared_inside_grows, vanishes_within_grows, compared_words_grows, equated_words_grows}
use Rattle.ygg_shape_sums.proofs.Modulo.{Like, like, like_both, like_add, less_and, sides_equal}
use Rattle.ygg_shape_sums.proofs.Remains.{vanishes_left_is}
use Rattle.ygg_shape_sums.proofs.Reduces.{sum_fits, reduced_sum_is}
use Rattle.ygg_shape_sums.proofs.Shared.{shared_inside_is, shared_number}
use Rattle.ygg_shape_sums.proofs.Worth.{bits, worth, FactsHold}
use Rattle.ygg_shape_sums.specs.Cancels.{has_product, cancels_within, cancels}
use Rattle.ygg_shape_sums.specs.Parts.{Sum, PartsFit, part}
use Rattle.ygg_shape_sums.specs.Readings.{FactsFit, fact}
use Rattle.ygg_shape_sums.specs.Sharing.{shared_inside}
use Rattle.ygg_shape_sums.specs.Splits.{split_of}
use Rattle.ygg_shape_sums.specs.Reduces.{reduced_sum}
use Rattle.ygg_shape_sums.specs.Equates.{Found, Step, split_as, vanishes_within, vanishes_by, difference, are_sums, reads_product}
use Rattle.ygg_shape_sums.specs.Equates.{shared_difference, subtracted_at, subtracted, compared_words, equated_words}
use Rattle.ygg_shape_sums.specs.declared.cancelling.TheConstants.{CANCEL_LIMIT}
use Rattle.ygg_shape_sums.specs.declared.gathering.TheConstants.{READ_LIMIT}
use Rattle.ygg_shape_sums.specs.declared.reading.Fact.{Fact}
use Rattle.ygg_shape_sums.specs.declared.equating.TheConstants.{EQUATE_LIMIT, PRODUCT_LIMIT}
use Rattle.ygg_shape_sums.specs.declared.reading.TheConstants.{LESS_ONE}
use Rattle.ygg_shape_sums.specs.declared.sharing.TheConstants.{INSIDE_LIMIT}

pub difference_fits : (nodes : List Node) (w : ℕ) (a b : Id) → HasWidth nodes a w → HasWidth nodes b w → PartsFit nodes w (difference a b).parts
difference_fits nodes w a b p q = two_fit nodes w (part 1 a) (part LESS_ONE b) p q

module _ (inputs : Inputs) (v : Values) (w : ℕ) (wide : IsWidth w) (kinds : List RuleKind) where
  -- the digit that says whether the sum is 0
  abbrev zero_digit : Sum → Number
  zero_digit s = word 1 (bit_of (worth inputs v s % 2 ^ w == 0))

  -- a digit that says, where the facts hold, whether the sum is 0
  record FoundIs (facts : List Fact) (s : Sum) (o : Out Found) : Type 0 where
    has : HasWidth o.nodes o.value.term 1
    is : FactsHold inputs v facts → v o.value.term.0 ≡ zero_digit s

  abbrev IsGood : Step → Type 0
  IsGood next = (left : ℕ) (facts : List Fact) (s : Sum) (nodes : List Node) → FactsFit nodes facts → PartsFit nodes w s.parts →
      Fits inputs v (next left facts s nodes).nodes → FoundIs facts s (next left facts s nodes)

  abbrev OnlyGrows : Step → Type 0
  OnlyGrows next = (left : ℕ) (facts : List Fact) (s : Sum) (nodes : List Node) → Extends nodes (next left facts s nodes).nodes

  one_more : (facts : List Fact) (t : Id) (d : Bool) → FactsHold inputs v facts → holds inputs v t ≡ d → FactsHold inputs v (facts ++ fact t d ∷ [])
  one_more facts t d h e = All-push (λ (f : Fact). holds inputs v f.test ≡ f.yes) facts (fact t d) h e

  by_test : (c : Bool) (x y z : Number) → (c ≡ true → x ≡ z) → (c ≡ false → y ≡ z) → (if c then x else y) ≡ z
  by_test true x y z h i = h refl
  by_test false x y z h i = i refl

  split_as_is : (next : Step) (left : ℕ) (facts : List Fact) (s : Sum) (n : Option Id) (nodes : List Node) → IsGood next → OnlyGrows next →
      FactsFit nodes facts → PartsFit nodes w s.parts → ((t : Id) → n ≡ Some t → HasWidth nodes t 1) →
      Fits inputs v (split_as kinds w next left facts s n nodes).nodes → FoundIs facts s (split_as kinds w next left facts s n nodes)
  split_as_is next left facts s None nodes good grow f p d h =
      let m = vanishes_left_is inputs v w wide kinds facts s nodes p h in record { has = m.has; is = m.is }
  split_as_is next left facts s (Some t) nodes good grow f p d h =
      let yes_facts = facts ++ fact t true ∷ [] in
      let no_facts = facts ++ fact t false ∷ [] in
      let o = next (left - 1) yes_facts s nodes in
      let c = o.value in
      let m = next c.left no_facts s o.nodes in
      let l = m.value in
      let r = picked kinds t c.term l.term m.nodes in
      let og = grow (left - 1) yes_facts s nodes in
      let mg = grow c.left no_facts s o.nodes in
      let mh = fits_fewer inputs v m.nodes r.nodes (picked_grows kinds t c.term l.term m.nodes) h in
      let oh = fits_fewer inputs v o.nodes m.nodes mg mh in
      let digit = d t refl in
      let later = wider nodes o.nodes t 1 og digit in
      let one = good (left - 1) yes_facts s nodes (facts_more nodes facts t true f digit) p oh in
      let two = good c.left no_facts s o.nodes (facts_more o.nodes facts t false (facts_wider nodes o.nodes facts og f) later)
      (parts_wider nodes o.nodes w s.parts og p) mh in
      let z = picked_is inputs v kinds 1 t c.term l.term m.nodes (wider o.nodes m.nodes t 1 mg later) (wider o.nodes m.nodes c.term 1 mg one.has) two.has h in
      record {
        has = z.wide;
        is = λ k. z.is ∙ by_test (holds inputs v t) (v c.term.0) (v l.term.0) (zero_digit s) (λ e. one.is (one_more facts t true k e))
            (λ e. two.is (one_more facts t false k e));
      }

  read_is : (nodes : List Node) (facts : List Fact) (s : Sum) (o : Out Found) → Fits inputs v nodes → PartsFit nodes w s.parts →
      FoundIs facts (reduced_sum nodes w facts s) o → FoundIs facts s o
  read_is nodes facts s o f p g = record {
    has = g.has;
    is = λ k. let l = reduced_sum_is inputs v w wide.most nodes f facts s k p in g.is k ∙ ap (λ z. word 1 (bit_of (z == 0))) l.is;
  }

  vanishes_within_is : (depth : ℕ) → IsGood (vanishes_within kinds w depth)
  unfolding vanishes_within
  vanishes_within_is zero left facts s nodes f p h =
      let m = vanishes_left_is inputs v w wide kinds facts s nodes p h in record { has = m.has; is = m.is }
  vanishes_within_is (suc depth) left facts s nodes f p h =
      let g = reduced_sum nodes w facts s in
      let n = split_of nodes w left facts g.parts in
      let step = vanishes_within kinds w depth in
      let own = fits_fewer inputs v nodes (split_as kinds w step left facts g n nodes).nodes (vanishes_within_grows kinds w (suc depth) left facts s nodes) h in
      let q = sum_fits nodes w facts s own.ordered p in
      read_is nodes facts s (split_as kinds w step left facts g n nodes) own p
      (split_as_is step left facts g n nodes (vanishes_within_is depth) (vanishes_within_grows kinds w depth) f q
      (λ t. split_digit nodes w left facts g.parts t own.ordered q) h)

  -- a difference is 0 where the words are equal
  difference_is : (nodes : List Node) (a b : Id) → Fits inputs v nodes → HasWidth nodes a w → HasWidth nodes b w →
      (worth inputs v (difference a b) % 2 ^ w == 0) ≡ equal inputs v a b
  difference_is nodes a b f p q =
      let m = 2 ^ w in
      let x = bits inputs v a in
      let y = bits inputs v b in
      let t = worth inputs v (difference a b) in
      let l : Like m (t + y) x =
      like_both m (t + y) (x + (LESS_ONE * y + y)) x (like m (t + y) (x + (LESS_ONE * y + y)) (regroup x y))
      (like_both m (x + (LESS_ONE * y + y)) (x + 0) x (like_add m x x (LESS_ONE * y + y) 0 (like m x x refl) (less_and w y wide.most))
      (like m (x + 0) x (right x))) in
      sym (sides_equal w t x y wide.most l) ∙ ap (λ z. z == y % m) (own a p) ∙ ap (λ z. x == z) (own b q) where
        regroup : (x y : ℕ) → 0 + (1 * x + (LESS_ONE * y + 0)) + y ≡ x + (LESS_ONE * y + y)
        regroup x y = omega arith

        right : (x : ℕ) → x + 0 ≡ x
        right x = omega arith

        own : (a : Id) → HasWidth nodes a w → bits inputs v a % 2 ^ w ≡ bits inputs v a
        own a p =
            let r = f.words a.0 in
            let l : bits inputs v a < 2 ^ w = subst (λ u. bits inputs v a < 2 ^ u) (f.widths a.0 w p) r.fits in mod-eq_of_lt l

  sums_is : (n : ℕ) (a b : Id) (nodes : List Node) → HasWidth nodes a w → HasWidth nodes b w →
      Fits inputs v (vanishes_by kinds w n (difference a b) nodes).nodes →
      (let o = vanishes_by kinds w n (difference a b) nodes in TermIs inputs v o.nodes 1 (word 1 (bit_of (equal inputs v a b))) o.value)
  sums_is n a b nodes p q h =
      let s = difference a b in
      let o = vanishes_within kinds w n n [] s nodes in
      let f = fits_fewer inputs v nodes o.nodes (vanishes_within_grows kinds w n n [] s nodes) h in
      let m = vanishes_within_is n n [] s nodes (All-nil (λ (f : Fact). HasWidth nodes f.test 1)) (difference_fits nodes w a b p q) h in
      record {
        wide = m.has;
        is = m.is (All-nil (λ (f : Fact). holds inputs v f.test ≡ f.yes)) ∙ ap (λ z. word 1 (bit_of z)) (difference_is nodes a b f p q);
      }

  -- and with sums in place of picks
  shared_difference_is : (a b : Id) (nodes : List Node) → HasWidth nodes a w → HasWidth nodes b w → Fits inputs v (shared_difference kinds w a b nodes).nodes →
      (let o = shared_difference kinds w a b nodes in TermIs inputs v o.nodes 1 (word 1 (bit_of (equal inputs v a b))) o.value)
  shared_difference_is a b nodes p q h =
      let x = shared_inside kinds w INSIDE_LIMIT a nodes in
      let y = shared_inside kinds w INSIDE_LIMIT b x.nodes in
      let s = difference x.value y.value in
      let o = vanishes_by kinds w PRODUCT_LIMIT s y.nodes in
      let xg = shared_inside_grows kinds w INSIDE_LIMIT a nodes in
      let yg = shared_inside_grows kinds w INSIDE_LIMIT b x.nodes in
      let yh = fits_fewer inputs v y.nodes o.nodes (vanishes_within_grows kinds w PRODUCT_LIMIT PRODUCT_LIMIT [] s y.nodes) h in
      let xh = fits_fewer inputs v x.nodes y.nodes yg yh in
      let r = wider nodes x.nodes b w xg q in
      let one = shared_inside_is inputs v w wide kinds INSIDE_LIMIT a nodes p xh in
      let two = shared_inside_is inputs v w wide kinds INSIDE_LIMIT b x.nodes r yh in
      let m = sums_is PRODUCT_LIMIT x.value y.value y.nodes (wider x.nodes y.nodes x.value w yg one.has) two.has h in
      record {
        wide = m.wide;
        is = m.is ∙ ap (λ z. word 1 (bit_of (z == bits inputs v y.value))) (shared_number inputs v w wide kinds INSIDE_LIMIT a nodes p xh)
            ∙ ap (λ z. word 1 (bit_of (bits inputs v a == z))) (shared_number inputs v w wide kinds INSIDE_LIMIT b x.nodes r yh);
      }

either_is : (inputs : Inputs) (v : Values) (want : Number) (c : Bool) (one two : Out Id) →
    (Fits inputs v one.nodes → TermIs inputs v one.nodes 1 want one.value) →
    (Fits inputs v two.nodes → TermIs inputs v two.nodes 1 want two.value) → Fits inputs v (if c then one else two).nodes →
    TermIs inputs v (if c then one else two).nodes 1 want (if c then one else two).value
either_is inputs v want true one two h i f = h f
either_is inputs v want false one two h i f = i f

subtracted_is : (inputs : Inputs) (v : Values) (kinds : List RuleKind) (w : ℕ) → IsWidth w → (a b : Id) (nodes : List Node) → HasWidth nodes a w →
    HasWidth nodes b w → Fits inputs v (subtracted_at kinds w a b nodes).nodes →
    TermIs inputs v (subtracted_at kinds w a b nodes).nodes 1 (word 1 (bit_of (equal inputs v a b))) (subtracted_at kinds w a b nodes).value
subtracted_is inputs v kinds w wide a b nodes p q h =
    let s = difference a b in
    either_is inputs v (word 1 (bit_of (equal inputs v a b))) (reads_product nodes s) (shared_difference kinds w a b nodes)
    (vanishes_by kinds w EQUATE_LIMIT s nodes) (shared_difference_is inputs v w wide kinds a b nodes p q)
    (sums_is inputs v w wide kinds EQUATE_LIMIT a b nodes p q) h

-- the equality of two words is what it says, where nothing more is known of them
compared_words_is : (inputs : Inputs) (v : Values) (kinds : List RuleKind) (a b : Id) (nodes : List Node) → WordsAlike nodes a b →
    Fits inputs v (compared_words kinds a b nodes).nodes →
    TermIs inputs v (compared_words kinds a b nodes).nodes 1 (word 1 (bit_of (equal inputs v a b))) (compared_words kinds a b nodes).value
compared_words_is inputs v kinds a b nodes w h =
    let f = fits_fewer inputs v nodes (compared_words kinds a b nodes).nodes (compared_words_grows kinds a b nodes) h in
    let u = width_at (widths_of nodes) a in
    let e : w.width ≡ u = sym (width_is nodes a w.width w.one_has) in
    let p : HasWidth nodes a u = subst (HasWidth nodes a) e w.one_has in
    let q : HasWidth nodes b u = subst (HasWidth nodes b) e w.two_has in
    either_is inputs v (word 1 (bit_of (equal inputs v a b))) (are_sums nodes a b)
    (subtracted kinds a b nodes) (same_words kinds a b nodes) (subtracted_is inputs v kinds u (width_fits nodes a u f.ordered p) a b nodes p q)
    (same_words_is inputs v kinds a b nodes w) h

-- two words are equal where nothing is left of the one less the other
module _ (inputs : Inputs) (v : Values) (kinds : List RuleKind) (a b : Id) (nodes : List Node) (f : Fits inputs v nodes) (w : WordsAlike nodes a b) where
  within_is : (c : Bool) → (if c then cancels_within CANCEL_LIMIT nodes (width_at (widths_of nodes) a) a b [] else false) ≡ true → equal inputs v a b ≡ true
  within_is true e =
      let u = width_at (widths_of nodes) a in
      let g : w.width ≡ u = sym (width_is nodes a w.width w.one_has) in
      let p : HasWidth nodes a u = subst (HasWidth nodes a) g w.one_has in
      let q : HasWidth nodes b u = subst (HasWidth nodes b) g w.two_has in
      let wide = width_fits nodes a u f.ordered p in
      let z = cancels_within_is inputs v u wide.most nodes f a b p q CANCEL_LIMIT [] (All-nil (λ (f : Fact). holds inputs v f.test ≡ f.yes)) e in
      sym (difference_is inputs v u wide kinds nodes a b f p q) ∙ ap (λ n. n == 0) (z.is ∙ zero-mod (2 ^ u))
  within_is false e = absurd (cc)

  cancels_is : (c : Bool) →
      (if c then false else if has_product READ_LIMIT nodes (part 1 a ∷ part LESS_ONE b ∷ [])
      then cancels_within CANCEL_LIMIT nodes (width_at (widths_of nodes) a) a b [] else false) ≡ true →
      equal inputs v a b ≡ true
  cancels_is true e = absurd (cc)
  cancels_is false e = within_is (has_product READ_LIMIT nodes (part 1 a ∷ part LESS_ONE b ∷ [])) e

  known_is : (c : Bool) (o : Out Id) → (c ≡ true → equal inputs v a b ≡ true) →
      (Fits inputs v o.nodes → TermIs inputs v o.nodes 1 (word 1 (bit_of (equal inputs v a b))) o.value) →
      Fits inputs v (if c then made kinds (Const (word 1 1)) nodes else o).nodes →
      (let r : Out Id = if c then made kinds (Const (word 1 1)) nodes else o in
      TermIs inputs v r.nodes 1 (word 1 (bit_of (equal inputs v a b))) r.value)
  known_is true o e i h =
      let m = made_is inputs v kinds (Const (word 1 1)) nodes (record { least = omega arith; most = omega arith; fits = omega arith }) h in
      record { wide = m.wide; is = m.is ∙ ap (λ z. word 1 (bit_of z)) (sym (e refl)) }
  known_is false o e i h = i h

-- the equality of two words is what it says
pub equated_words_is : (inputs : Inputs) (v : Values) (kinds : List RuleKind) (a b : Id) (nodes : List Node) → WordsAlike nodes a b →
    Fits inputs v (equated_words kinds a b nodes).nodes →
    TermIs inputs v (equated_words kinds a b nodes).nodes 1 (word 1 (bit_of (equal inputs v a b))) (equated_words kinds a b nodes).value
equated_words_is inputs v kinds a b nodes w h =
    let f = fits_fewer inputs v nodes (equated_words kinds a b nodes).nodes (equated_words_grows kinds a b nodes) h in
    known_is inputs v kinds a b nodes f w (cancels nodes a b) (compared_words kinds a b nodes) (cancels_is inputs v kinds a b nodes f w (a.0 == b.0))
    (compared_words_is inputs v kinds a b nodes w) h

-- what the call says of its answer
pub equated_value : {E : Type 0} (kinds : List RuleKind) (a b : Id) (old new : List Node) (r : Result Id E) → IsBank new →
    OnOk r (new ≡ (equated_words kinds a b old).nodes) → IfOk r (λ answer. answer ≡ (equated_words kinds a b old).value) → WordsAlike old a b →
    IfOk r (IsSame new a b)
equated_value kinds a b old new (Ok answer) k e g w =
    let o = equated_words kinds a b old in
    let c = subst IsBank e k in
    subst (λ z. IsSame z a b answer) (sym e) (subst (IsSame o.nodes a b) (sym g) (λ inputs fit.
    let m = equated_words_is inputs (value_of inputs o.nodes) kinds a b old w (values_fit inputs o.nodes c.ordered fit) in m.is))
equated_value kinds a b old new (Err x) k e g w = tt
