-- What conjuncts say holds where a term is 1.
use Rattle.std.proofs.Common.{◌≡◌, ◌==◌, ◌&&◌, ◌+◌, ◌⊎◌, inl, inr, ℕ, zero, suc, Bool, true, false, if◌then◌else◌, Option, Some, None, List, [], ◌∷◌, All, replicate, slice_get, slice_set, refl, sym, ap, ◌∙◌, subst, arith}
use Rattle.std.specs.List.{cons_option, filter_map, flat_map}
use Rattle.std.specs.Prelude.{nat_lt}
use Rattle.std.proofs.lemmas.Bool.Decides.{Decides-eqb}
use Rattle.std.proofs.lemmas.List.Elements.{All-nil, All-cons, All-head, All-tail, All-append}
use Rattle.ygg_value.specs.Number.{Number}
use Rattle.ygg_value.specs.Words.{word, apply_to, not_of, bit_of}
use Rattle.ygg_value.specs.declared.operation.Op.TheVariants.{And, Eq}
use Rattle.ygg_shape_cells.proofs.of_ygg_bank.Widths.{width_is, own_width}
use Rattle.ygg_shape_cells.specs.ygg_bank.Making.{id}
use Rattle.ygg_shape_cells.specs.ygg_bank.Nodes.{width_at, widths_of, HasWidth, InOrder, Stands}
use Rattle.ygg_shape_cells.specs.ygg_bank.Values.{Inputs, Values, Fits}
use Rattle.ygg_shape_cells.specs.ygg_bank.declared.node.Id.{Id}
use Rattle.ygg_shape_cells.specs.ygg_bank.declared.node.Node.{Node}
use Rattle.ygg_shape_cells.specs.ygg_bank.declared.node.Node.TheVariants.{Input, Bin, Not}
use Rattle.ygg_shape_cells.specs.Pairs.{PairsFit, pair}
use Rattle.ygg_shape_cells.specs.declared.pairs.Pair.{Pair}
use Rattle.ygg_shape_cells.proofs.of_ygg_shape_words.Children.{bin_alike, bin_stands, not_wide}
use Rattle.ygg_shape_cells.proofs.of_ygg_shape_words.Terms.{digit_is, and_digits}
use Rattle.ygg_shape_cells.specs.ygg_shape_words.Forms.{WordsAlike}
use Rattle.ygg_shape.specs.Comparing.{IsDigit}
use Rattle.ygg_shape.specs.Conjuncts.{operands_of, marked, is_marked, marks_after, marked_at, conjuncts_below, first_marks, conjuncts_of}
use Rattle.ygg_shape.specs.Equations.{equation_of, equation_at, equations}
use Rattle.ygg_shape.specs.Finding.{by, equal_fact, fact_of, found}
use Rattle.ygg_shape.specs.declared.replacing.Replacement.{Replacement}

-- what holds of all items of lists
pub option_all : {A : Type 0} (Q : A → Type 0) (o : Option A) (rest : List A) → ((a : A) → o ≡ Some a → Q a) → All Q rest → All Q (cons_option o rest)
option_all Q (Some a) rest h q = All-cons Q a rest (h a refl) q
option_all Q None rest h q = q

pub filter_all : {X A : Type 0} (f : X → Option A) (P : X → Type 0) (Q : A → Type 0) → ((x : X) (a : A) → f x ≡ Some a → P x → Q a) → (xs : List X) →
    All P xs → All Q (filter_map f xs)
filter_all f P Q h [] p = All-nil Q
filter_all f P Q h (x ∷ xs) p =
    option_all Q (f x) (filter_map f xs) (λ a e. h x a e (All-head P x xs p)) (filter_all f P Q h xs (All-tail P x xs p))

pub flat_all : {X A : Type 0} (f : X → List A) (P : X → Type 0) (Q : A → Type 0) → ((x : X) → P x → All Q (f x)) → (xs : List X) → All P xs →
    All Q (flat_map f xs)
flat_all f P Q h [] p = All-nil Q
flat_all f P Q h (x ∷ xs) p = All-append Q (f x) (flat_map f xs) (h x (All-head P x xs p)) (flat_all f P Q h xs (All-tail P x xs p))

-- a mark that is there after one was set
set_marked : (marks : List Bool) (j k : ℕ) → is_marked (slice_set marks j true) k ≡ true → (k ≡ j) ⊎ (is_marked marks k ≡ true)
set_marked [] j k e = inr e
set_marked (m ∷ ms) zero zero e = inl refl
set_marked (m ∷ ms) zero (suc k) e = inr e
set_marked (m ∷ ms) (suc j) zero e = inr e
set_marked (m ∷ ms) (suc j) (suc k) e = elim (set_marked ms j k e) [ inl p ↦ inl (ap (λ z. suc z) p) | inr p ↦ inr p ]

none_marked : (n k : ℕ) → is_marked (replicate n false) k ≡ true → ⊥
none_marked zero k e = absurd (cc)
none_marked (suc n) zero e = absurd (cc)
none_marked (suc n) (suc k) e = none_marked n k e

-- what holds of marked places
abbrev Marks : (ℕ → Type 0) → List Bool → Type 0
Marks P marks = (k : ℕ) → is_marked marks k ≡ true → P k

set_marks : (P : ℕ → Type 0) (marks : List Bool) (j : ℕ) → Marks P marks → P j → Marks P (slice_set marks j true)
set_marks P marks j h p k e = elim (set_marked marks j k e) [ inl q ↦ subst P (sym q) p | inr q ↦ h k q ]

operands_is : (n : Option Node) (both : Pair) → operands_of n ≡ Some both → n ≡ Some (Bin And both.one both.two)
operands_is (Some (Bin And a b)) both e = let f : pair a b ≡ both = cc in ap (λ (z : Pair). Some (Bin And z.one z.two)) f
operands_is n both e = absurd (cc)

module _ (nodes : List Node) (P : ℕ → Type 0) (and : (k : ℕ) (a b : Id) → slice_get nodes k ≡ Some (Bin And a b) → P k → P a.0 × P b.0) where
  abbrev At : Id → Type 0
  At a = P a.0

  marked_marks : (k : ℕ) (marks : List Bool) (o : Option Pair) → operands_of (slice_get nodes k) ≡ o → Marks P marks → P k → Marks P (marked marks o)
  marked_marks k marks (Some both) e h p =
      let q = and k both.one both.two (operands_is (slice_get nodes k) both e) p in
      set_marks P (slice_set marks both.one.0 true) both.two.0 (set_marks P marks both.one.0 h q.0) q.1
  marked_marks k marks None e h p = h

  after_case : (k : ℕ) (marks : List Bool) (t : Bool) → is_marked marks k ≡ t → Marks P marks →
      Marks P (if t then marked marks (operands_of (slice_get nodes k)) else marks)
  after_case k marks true e h = marked_marks k marks (operands_of (slice_get nodes k)) refl h (h k e)
  after_case k marks false e h = h

  at_case : (k : ℕ) (marks : List Bool) (t : Bool) → is_marked marks k ≡ t → Marks P marks → All At (if t then id k ∷ [] else [])
  at_case k marks true e h = All-cons At (id k) [] (h k e) (All-nil At)
  at_case k marks false e h = All-nil At

  below_all : (place : ℕ) (marks : List Bool) → Marks P marks → All At (conjuncts_below nodes place marks)
  below_all zero marks h = All-nil At
  below_all (suc place) marks h =
      All-append At (marked_at marks place) (conjuncts_below nodes place (marks_after nodes place marks))
      (at_case place marks (is_marked marks place) refl h) (below_all place (marks_after nodes place marks) (after_case place marks (is_marked marks place) refl h))

  -- what holds of a term, and of the operands of each conjunction of which it holds, holds of all conjuncts
  pub conjuncts_all : (a : Id) → P a.0 → All At (conjuncts_of nodes a)
  conjuncts_all a p =
      below_all (a.0 + 1) (first_marks a.0) (set_marks P (replicate (a.0 + 1) false) a.0 (λ j e. absurd (none_marked (a.0 + 1) j e)) p)

-- two terms that are equal where a conjunct is 1
pair_is : (Q : Id → Id → Type 0) (a b : Id) (p : Pair) → Some (pair a b) ≡ Some p → Q a b → Q p.one p.two
pair_is Q a b p e q = let f : pair a b ≡ p = cc in subst (λ (z : Pair). Q z.one z.two) f q

equation_all : (Q : Id → Id → Type 0) (one none c : Id) (n : Option Node) (p : Pair) → equation_of one none c n ≡ Some p →
    ((m w : ℕ) → n ≡ Some (Input m w) → Q c one) → ((a : Id) → n ≡ Some (Not a) → Q a none) → ((a b : Id) → n ≡ Some (Bin Eq a b) → Q a b) →
    Q p.one p.two
equation_all Q one none c (Some (Input m w)) p e i j k = pair_is Q c one p e (i m w refl)
equation_all Q one none c (Some (Not a)) p e i j k = pair_is Q a none p e (j a refl)
equation_all Q one none c (Some (Bin Eq a b)) p e i j k = pair_is Q a b p e (k a b refl)
equation_all Q one none c n p e i j k = absurd (cc)

-- a replacement by one of two equal terms
abbrev swap : Id → Id → Replacement
swap a b = record { input = a; term = b }

by_is : (Q : Id → Id → Type 0) (a b : Id) (r : Replacement) → by a b ≡ Some r → Q a b → Q r.input r.term
by_is Q a b r e q = let f : swap a b ≡ r = cc in subst (λ (z : Replacement). Q z.input z.term) f q

module _ (Q : Id → Id → Type 0) (turn : (a b : Id) → Q a b → Q b a) where
  fact_all : (a b : Id) (m n : Option Node) (r : Replacement) → equal_fact a b m n ≡ Some r → Q a b → Q r.input r.term
  fact_all a b (Some (Input m w)) (Some (Input n u)) r e q = later (nat_lt a.0 b.0) e where
    later : (t : Bool) → (if t then by b a else by a b) ≡ Some r → Q r.input r.term
    later true f = by_is Q b a r f (turn a b q)
    later false f = by_is Q a b r f q
  fact_all a b (Some (Input m w)) n r e q = by_is Q a b r e q
  fact_all a b m (Some (Input n u)) r e q = by_is Q b a r e (turn a b q)
  fact_all a b m n r e q = absurd (cc)

  -- what holds of all pairs, either way round, holds of what is found
  pub found_all : (nodes : List Node) (ps : List Pair) → All (λ (p : Pair). Q p.one p.two) ps → All (λ (r : Replacement). Q r.input r.term) (found nodes ps)
  found_all nodes = filter_all (fact_of nodes) (λ (p : Pair). Q p.one p.two) (λ (r : Replacement). Q r.input r.term)
      (λ p r e q. fact_all p.one p.two (slice_get nodes p.one.0) (slice_get nodes p.two.0) r e q)

-- widths
one_digit : (nodes : List Node) (k : ℕ) (a b : Id) → InOrder [] nodes → slice_get nodes k ≡ Some (Bin And a b) → HasWidth nodes (id k) 1 →
    HasWidth nodes a 1 × HasWidth nodes b 1
one_digit nodes k a b o e h =
    let w = bin_alike nodes k And a b o e (λ x y c. c) in
    let one : w.width ≡ 1 =
    sym (width_is nodes a w.width w.one_has) ∙ sym (width_is nodes (id k) (width_at (widths_of nodes) a) (own_width nodes k (Bin And a b) o e))
    ∙ width_is nodes (id k) 1 h in
    (subst (HasWidth nodes a) one w.one_has, subst (HasWidth nodes b) one w.two_has)

pub alike_back : (nodes : List Node) (a b : Id) → WordsAlike nodes a b → WordsAlike nodes b a
alike_back nodes a b h = record { width = h.width; one_has = h.two_has; two_has = h.one_has }

pub conjuncts_stand : (nodes : List Node) (a : Id) → InOrder [] nodes → Stands nodes a → All (Stands nodes) (conjuncts_of nodes a)
conjuncts_stand nodes a o s = conjuncts_all nodes (λ k. Stands nodes (id k)) (λ k a b e h. bin_stands nodes k And a b o e) a s

pub conjuncts_digits : (nodes : List Node) (a : Id) → InOrder [] nodes → HasWidth nodes a 1 → All (IsDigit nodes) (conjuncts_of nodes a)
conjuncts_digits nodes a o d = conjuncts_all nodes (λ k. HasWidth nodes (id k) 1) (λ k a b e w. one_digit nodes k a b o e w) a d

pub equations_fit : (nodes : List Node) (one none : Id) → InOrder [] nodes → HasWidth nodes one 1 → HasWidth nodes none 1 → (cs : List Id) →
    All (IsDigit nodes) cs → PairsFit nodes (equations nodes one none cs)
equations_fit nodes one none o p q =
    filter_all (equation_at nodes one none) (IsDigit nodes) (λ (p : Pair). WordsAlike nodes p.one p.two)
    (λ c r e w. equation_all (WordsAlike nodes) one none c (slice_get nodes c.0) r e
    (λ m u i. record { width = 1; one_has = w; two_has = p })
    (λ a i. record { width = 1; one_has = not_wide nodes c.0 1 a o i w; two_has = q })
    (λ a b i. bin_alike nodes c.0 Eq a b o i (λ x y c. c)))

-- values
not_one : (d : Bool) (a : Number) → a ≡ word 1 (bit_of d) → (not_of a).bits ≡ 1 → a ≡ word 1 0
not_one true a e f =
    let g : (not_of (word 1 (bit_of true))).bits ≡ 1 = subst (λ (z : Number). (not_of z).bits ≡ 1) e f in absurd (omega (arith, g))
not_one false a e f = e

equal_one : (t : Bool) → bit_of t ≡ 1 → t ≡ true
equal_one true e = refl
equal_one false e = absurd (omega arith)

and_one : (c d : Bool) → (word 1 (bit_of (c && d))).bits ≡ 1 → (bit_of c ≡ 1) × (bit_of d ≡ 1)
and_one true true e = (refl, refl)
and_one true false e = absurd (omega arith)
and_one false d e = absurd (omega arith)

same_number : (a b : Number) → a.width ≡ b.width → a.bits ≡ b.bits → a ≡ b
same_number a b e f = ap (λ w. word w a.bits) e ∙ ap (word b.width) f

module _ (inputs : Inputs) (v : Values) (nodes : List Node) (f : Fits inputs v nodes) where
  digit_at : (a : Id) → HasWidth nodes a 1 → v a.0 ≡ word 1 (bit_of ((v a.0).bits == 1))
  digit_at a d = digit_is (v a.0) (f.words a.0) (f.widths a.0 1 d)

  module _ (C : Type 0) where
    -- a single digit that is 1 under a condition, and equal terms
    abbrev pub IsOne : ℕ → Type 0
    IsOne k = HasWidth nodes (id k) 1 × (C → (v k).bits ≡ 1)

    abbrev pub Equals : Id → Id → Type 0
    Equals a b = C → v a.0 ≡ v b.0

    and_true : (k : ℕ) (a b : Id) → slice_get nodes k ≡ Some (Bin And a b) → IsOne k → IsOne a.0 × IsOne b.0
    and_true k a b e p =
        let w = one_digit nodes k a b f.ordered e p.0 in
        let c = (v a.0).bits == 1 in let d = (v b.0).bits == 1 in
        let is : v k ≡ word 1 (bit_of (c && d)) =
        f.values k (Bin And a b) e ∙ ap (λ z. apply_to And z (v b.0)) (digit_at a w.0) ∙ ap (apply_to And (word 1 (bit_of c))) (digit_at b w.1)
        ∙ and_digits c d in
        let both : C → (bit_of c ≡ 1) × (bit_of d ≡ 1) = λ x. and_one c d (ap (λ (z : Number). z.bits) (sym is) ∙ p.1 x) in (
          (w.0, λ x. ap (λ (z : Number). z.bits) (digit_at a w.0) ∙ (both x).0),
          (w.1, λ x. ap (λ (z : Number). z.bits) (digit_at b w.1) ∙ (both x).1),
        )

    equal_true : (k : ℕ) (a b : Id) → slice_get nodes k ≡ Some (Bin Eq a b) → IsOne k → Equals a b
    equal_true k a b e p x =
        let w = bin_alike nodes k Eq a b f.ordered e (λ x y c. c) in
        let t = equal_one ((v a.0).bits == (v b.0).bits) (ap (λ (z : Number). z.bits) (sym (f.values k (Bin Eq a b) e)) ∙ p.1 x) in
        same_number (v a.0) (v b.0) (f.widths a.0 w.width w.one_has ∙ sym (f.widths b.0 w.width w.two_has)) ((Decides-eqb (v a.0).bits (v b.0).bits).0 t)

    pub conjuncts_true : (a : Id) → IsOne a.0 → All (λ (c : Id). IsOne c.0) (conjuncts_of nodes a)
    conjuncts_true a p = conjuncts_all nodes IsOne and_true a p

    pub equations_true : (one none : Id) → v one.0 ≡ word 1 1 → v none.0 ≡ word 1 0 → (cs : List Id) → All (λ (c : Id). IsOne c.0) cs →
        All (λ (p : Pair). Equals p.one p.two) (equations nodes one none cs)
    equations_true one none p q =
        filter_all (equation_at nodes one none) (λ (c : Id). IsOne c.0) (λ (p : Pair). Equals p.one p.two)
        (λ c r e w. equation_all Equals one none c (slice_get nodes c.0) r e
        (λ m u i x. digit_at c w.0 ∙ ap (λ z. word 1 (bit_of (z == 1))) (w.1 x) ∙ sym p)
        (λ a i x. not_one ((v a.0).bits == 1) (v a.0) (digit_at a (not_wide nodes c.0 1 a f.ordered i w.0))
        (ap (λ (z : Number). z.bits) (sym (f.values c.0 (Not a) i)) ∙ w.1 x) ∙ sym q)
        (λ a b i. equal_true c.0 a b i w))
