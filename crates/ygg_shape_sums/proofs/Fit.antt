-- Which terms stand among the nodes, and their widths.
use Rattle.std.proofs.Common.{◌≡◌, ◌==◌, ◌<◌, ◌≤◌, ◌+◌, ◌*◌, ◌%◌, ◌^◌, ℕ, Bool, true, false, if◌then◌else◌, Option}
use Rattle.std.proofs.Common.{Some, None, List, [], ◌∷◌, ◌++◌, slice_get, get_or, length, length-append, refl, sym, ap, ◌∙◌, subst, arith}
use Rattle.std.proofs.lemmas.List.Elements.{All-head, All-tail, All-append, All-push, All-nil, All-weaker, All-get_or}
use Rattle.ygg_value.specs.Number.{Number}
use Rattle.ygg_value.specs.Words.{CanApply, result_width}
use Rattle.ygg_value.specs.declared.operation.Op.{Op}
use Rattle.ygg_value.specs.declared.operation.Op.TheVariants.{Add, Sub, Mul}
use Rattle.ygg_shape_words.specs.ygg_bank_proofs_Widths.{wider, stands, has_width, width_is, own_width}
use Rattle.ygg_shape_words.specs.ygg_bank.Making.{known_in}
use Rattle.ygg_shape_words.specs.ygg_bank.Nodes.{width_at, widths_of, HasWidth, Stands, InOrder, Extends}
use Rattle.ygg_shape_words.specs.ygg_bank.declared.node.Id.{Id}
use Rattle.ygg_shape_words.specs.ygg_bank.declared.node.Node.{Node}
use Rattle.ygg_shape_words.specs.ygg_bank.declared.node.Node.TheVariants.{Const, Bin, Not, Pick}
use Rattle.ygg_shape_words.proofs.Children.{bin_alike, not_wide, pick_children}
use Rattle.ygg_shape_sums.proofs.Terms.{one, two, sides, merged_all, gathered_all}
use Rattle.ygg_shape_sums.specs.Parts.{Sum, PartsFit, PartsAlike, part, merged}
use Rattle.ygg_shape_sums.specs.Readings.{ReadingFits, FactsFit, read, read_bin, read_pick, decided, fact}
use Rattle.ygg_shape_sums.specs.Gathers.{parts_of, gathered, below, test_in, first_id, first_test}
use Rattle.ygg_shape_sums.specs.declared.parts.Summand.{Summand}
use Rattle.ygg_shape_sums.specs.declared.reading.Fact.{Fact}
use Rattle.ygg_shape_sums.specs.declared.reading.Decomposition.{Decomposition}
use Rattle.ygg_shape_sums.specs.declared.reading.Decomposition.TheVariants as reading

-- the operands of an operation whose result is as wide
pub operands : (nodes : List Node) (a x y : Id) (op : Op) (w : ℕ) → InOrder [] nodes → slice_get nodes a.0 ≡ Some (Bin op x y) → HasWidth nodes a w →
    ((x y : Number) → CanApply op x y → x.width ≡ y.width) → ((w : ℕ) → result_width op w ≡ w) → HasWidth nodes x w × HasWidth nodes y w
operands nodes a x y op w o e h alike wide =
    let m = bin_alike nodes a.0 op x y o e alike in
    let own : m.width ≡ w =
    sym (width_is nodes x m.width m.one_has) ∙ sym (wide (width_at (widths_of nodes) x))
    ∙ sym (width_is nodes a (result_width op (width_at (widths_of nodes) x)) (own_width nodes a.0 (Bin op x y) o e)) ∙ width_is nodes a w h in
    (m.one_has ∙ ap (λ z. Some z) own, m.two_has ∙ ap (λ z. Some z) own)

-- what a term is made of is as wide
bin_fits : (nodes : List Node) (a x y : Id) (op : Op) (w : ℕ) (k m : Option Number) → InOrder [] nodes → slice_get nodes a.0 ≡ Some (Bin op x y) →
    HasWidth nodes a w → ReadingFits nodes w (read_bin op x y k m)
bin_fits nodes a x y Add w k m o e h = operands nodes a x y Add w o e h (λ x y d. d) (λ w. refl)
bin_fits nodes a x y Sub w k m o e h = operands nodes a x y Sub w o e h (λ x y d. d) (λ w. refl)
bin_fits nodes a x y Mul w k (Some m) o e h = let p = operands nodes a x y Mul w o e h (λ x y d. d) (λ w. refl) in p.0
bin_fits nodes a x y Mul w (Some k) None o e h = let p = operands nodes a x y Mul w o e h (λ x y d. d) (λ w. refl) in p.1
bin_fits nodes a x y Mul w None None o e h = tt
bin_fits nodes a x y op w k m o e h = tt

pick_fits : (nodes : List Node) (x y : Id) (w : ℕ) (d : Option Bool) → HasWidth nodes x w → HasWidth nodes y w → ReadingFits nodes w (read_pick x y d)
pick_fits nodes x y w (Some true) p q = p
pick_fits nodes x y w (Some false) p q = q
pick_fits nodes x y w None p q = tt

pub reading_fits : (nodes : List Node) (facts : List Fact) (a : Id) (w : ℕ) (n : Option Node) → InOrder [] nodes → slice_get nodes a.0 ≡ n →
    HasWidth nodes a w → ReadingFits nodes w (read nodes facts n)
reading_fits nodes facts a w (Some (Const k)) o e h = tt
reading_fits nodes facts a w (Some (Bin op x y)) o e h = bin_fits nodes a x y op w (known_in (slice_get nodes x.0)) (known_in (slice_get nodes y.0)) o e h
reading_fits nodes facts a w (Some (Not x)) o e h = not_wide nodes a.0 w x o e h
reading_fits nodes facts a w (Some (Pick t x y)) o e h =
    let c = pick_children nodes a t x y w o e h in pick_fits nodes x y w (decided nodes facts t) c.first c.second
reading_fits nodes facts a w n o e h = tt

module _ (nodes : List Node) (w : ℕ) where
  abbrev Fit : Summand → Type 0
  Fit p = HasWidth nodes p.term w

  one_fits : (p : Summand) → HasWidth nodes p.term w → PartsFit nodes w (p ∷ [])
  one_fits = one (λ a. HasWidth nodes a w)

  pub two_fit : (p q : Summand) → HasWidth nodes p.term w → HasWidth nodes q.term w → PartsFit nodes w (p ∷ q ∷ [])
  two_fit = two (λ a. HasWidth nodes a w)

  pub parts_of_fit : (p : Summand) (r : Decomposition) → ReadingFits nodes w r → PartsFit nodes w (parts_of p r)
  parts_of_fit p (reading.Times m x n) h = one_fits (part ((p.times * m) % 2 ^ 64) x) h
  parts_of_fit p (reading.Both x m y) h = two_fit (part p.times x) (part ((p.times * m) % 2 ^ 64) y) h.0 h.1
  parts_of_fit p r h = All-nil Fit

  pub listed_fit : (facts : List Fact) (p : Summand) (ps : List Summand) → InOrder [] nodes → PartsFit nodes w (p ∷ ps) →
      PartsFit nodes w (ps ++ parts_of p (read nodes facts (slice_get nodes p.term.0)))
  listed_fit facts p ps o h =
      let r = read nodes facts (slice_get nodes p.term.0) in
      All-append Fit ps (parts_of p r) (All-tail Fit p ps h)
      (parts_of_fit p r (reading_fits nodes facts p.term w (slice_get nodes p.term.0) o refl (All-head Fit p ps h)))

  pub below_fit : (p : Summand) (n : Option Node) → InOrder [] nodes → slice_get nodes p.term.0 ≡ n → HasWidth nodes p.term w → PartsFit nodes w (below p n)
  below_fit p (Some (Pick t x y)) o e h = let c = pick_children nodes p.term t x y w o e h in sides (λ a. HasWidth nodes a w) p x y (p.times == 0)
      c.first c.second
  below_fit p n o e h = All-nil Fit

  pub merged_fit : (p : Summand) (ps : List Summand) → HasWidth nodes p.term w → PartsFit nodes w ps → PartsFit nodes w (merged p ps)
  merged_fit = merged_all (λ a. HasWidth nodes a w)

  pub gathered_fit : (fuel : ℕ) (facts : List Fact) (ps : List Summand) (s : Sum) → InOrder [] nodes → PartsFit nodes w ps → PartsFit nodes w s.parts →
      PartsFit nodes w (gathered fuel nodes facts ps s).parts
  gathered_fit fuel facts ps s o =
      gathered_all (λ a. HasWidth nodes a w) nodes facts
      (λ p h. let n = slice_get nodes p.term.0 in parts_of_fit p (read nodes facts n) (reading_fits nodes facts p.term w n o refl h)) fuel ps s

  -- what is said of a test that is found: it is a single digit
  abbrev pub DigitIn : Option Id → Type 0
  DigitIn None = Unit {0}
  DigitIn (Some t) = HasWidth nodes t 1

  test_digit : (p : Summand) (n : Option Node) → InOrder [] nodes → slice_get nodes p.term.0 ≡ n → HasWidth nodes p.term w → DigitIn (test_in n)
  test_digit p (Some (Pick t x y)) o e h = let c = pick_children nodes p.term t x y w o e h in c.test
  test_digit p n o e h = tt

  either_digit : (m n : Option Id) (c : Bool) → DigitIn m → DigitIn n → DigitIn (first_id (if c then None else m) n)
  either_digit m n true h i = i
  either_digit (Some t) n false h i = h
  either_digit None n false h i = i

  pub first_digit : (ps : List Summand) → InOrder [] nodes → PartsFit nodes w ps → DigitIn (first_test nodes ps)
  first_digit [] o h = tt
  first_digit (p ∷ ps) o h =
      either_digit (test_in (slice_get nodes p.term.0)) (first_test nodes ps) (p.times == 0)
      (test_digit p (slice_get nodes p.term.0) o refl (All-head Fit p ps h)) (first_digit ps o (All-tail Fit p ps h))

pub part_stands : (nodes : List Node) (ps : List Summand) (i : ℕ) (d : Summand) → PartsAlike nodes ps → i < length ps → Stands nodes (get_or ps i d).term
part_stands nodes ps i d h l = stands nodes (get_or ps i d).term h.width (All-get_or (λ (p : Summand). HasWidth nodes p.term h.width) ps i d l h.fit)

pub part_at : (nodes : List Node) (ps : List Summand) (i : ℕ) (p : Summand) → p ≡ get_or ps i p → PartsAlike nodes ps → i < length ps → Stands nodes p.term
part_at nodes ps i p e h l = subst (λ (q : Summand). Stands nodes q.term) (sym e) (part_stands nodes ps i p h l)

pub fact_stands : (nodes : List Node) (fs : List Fact) (i : ℕ) (d : Fact) → FactsFit nodes fs → i < length fs → Stands nodes (get_or fs i d).test
fact_stands nodes fs i d h l = stands nodes (get_or fs i d).test 1 (All-get_or (λ (f : Fact). HasWidth nodes f.test 1) fs i d l h)

pub test_stands : (nodes : List Node) (a t x y : Id) → InOrder [] nodes → Stands nodes a → slice_get nodes a.0 ≡ Some (Pick t x y) → Stands nodes t
test_stands nodes a t x y o h e =
    let c = pick_children nodes a t x y (width_at (widths_of nodes) a) o e (has_width nodes a h) in stands nodes t 1 c.test

-- the list that is read on
pub listed_alike : (nodes : List Node) (facts : List Fact) (ps longer : List Summand) (i : ℕ) (p : Summand) → InOrder [] nodes → PartsAlike nodes ps →
    i < length ps → p ≡ get_or ps i p → longer ≡ ps ++ parts_of p (read nodes facts (slice_get nodes p.term.0)) → PartsAlike nodes longer
listed_alike nodes facts ps longer i p o h l e g =
    let w = h.width in
    let P = λ (p : Summand). HasWidth nodes p.term w in
    let own : HasWidth nodes p.term w = subst P (sym e) (All-get_or P ps i p l h.fit) in
    let r = read nodes facts (slice_get nodes p.term.0) in
    record {
      width = w;
      fit = subst (PartsFit nodes w) (sym g) (All-append P ps (parts_of p r) h.fit
          (parts_of_fit nodes w p r (reading_fits nodes facts p.term w (slice_get nodes p.term.0) o refl own)));
    }

pub looked_alike : (nodes : List Node) (ps longer : List Summand) (i : ℕ) (p : Summand) → InOrder [] nodes → PartsAlike nodes ps →
    i < length ps → p ≡ get_or ps i p → longer ≡ ps ++ below p (slice_get nodes p.term.0) → PartsAlike nodes longer
looked_alike nodes ps longer i p o h l e g =
    let w = h.width in
    let P = λ (p : Summand). HasWidth nodes p.term w in
    let own : HasWidth nodes p.term w = subst P (sym e) (All-get_or P ps i p l h.fit) in
    record {
      width = w;
      fit = subst (PartsFit nodes w) (sym g) (All-append P ps (below p (slice_get nodes p.term.0)) h.fit
          (below_fit nodes w p (slice_get nodes p.term.0) o refl own));
    }

pub longer_by : (ps qs longer : List Summand) (i : ℕ) → i < length ps → longer ≡ ps ++ qs → i + 1 ≤ length longer
longer_by ps qs longer i l e = let f : length longer ≡ length ps + length qs = ap (λ z. length z) e ∙ length-append ps qs in omega arith

pub parts_wider : (old new : List Node) (w : ℕ) (ps : List Summand) → Extends old new → PartsFit old w ps → PartsFit new w ps
parts_wider old new w ps g h = All-weaker (λ (p : Summand). HasWidth old p.term w) (λ (p : Summand). HasWidth new p.term w) (λ p. wider old new p.term w g) ps h

pub facts_wider : (old new : List Node) (fs : List Fact) → Extends old new → FactsFit old fs → FactsFit new fs
facts_wider old new fs g h = All-weaker (λ (f : Fact). HasWidth old f.test 1) (λ (f : Fact). HasWidth new f.test 1) (λ f. wider old new f.test 1 g) fs h

pub facts_more : (nodes : List Node) (fs : List Fact) (t : Id) (d : Bool) → FactsFit nodes fs → HasWidth nodes t 1 → FactsFit nodes (fs ++ fact t d ∷ [])
facts_more nodes fs t d h i = All-push (λ (f : Fact). HasWidth nodes f.test 1) fs (fact t d) h i
