-- What an equality of rows is worth.
use Rattle.std.proofs.Common.{
  ◌≡◌,
  ◌&&◌,
  ℕ,
  zero,
  suc,
  Bool,
  true,
  false,
  if◌then◌else◌,
  Option,
  Some,
  None,
  Result,
  Ok,
  Err,
  OnOk,
  IfOk,
  List,
  [],
  ◌∷◌,
  map,
  refl,
  sym,
  ap,
  ◌∙◌,
  subst,
  arith,
}
use Rattle.std.specs.Str.{bytes_eq}
use Rattle.std.proofs.lemmas.List.Elements.{All-head, All-tail}
use Rattle.ygg_value.specs.Words.{word, apply_to, bit_of}
use Rattle.ygg_value.specs.Number.{Number}
use Rattle.ygg_value.specs.declared.operation.Op.TheVariants.{And}
use Rattle.ygg_shape_sums.specs.ygg_rules.declared.rule.RuleKind.{RuleKind}
use Rattle.ygg_shape_sums.specs.ygg_bank_proofs_Exist.{values_fit}
use Rattle.ygg_shape_sums.specs.ygg_bank_proofs_Made.{made_grows}
use Rattle.ygg_shape_sums.specs.ygg_bank_proofs_Meaning.{fits_fewer}
use Rattle.ygg_shape_sums.specs.ygg_bank_proofs_Widths.{wider, width_is, extends_both}
use Rattle.ygg_shape_sums.specs.ygg_bank.Makes.{Out}
use Rattle.ygg_shape_sums.specs.ygg_bank.Making.{made}
use Rattle.ygg_shape_sums.specs.ygg_bank.Nodes.{HasWidth, Extends, IsBank}
use Rattle.ygg_shape_sums.specs.ygg_bank.Values.{Inputs, Values, Fits, value_of}
use Rattle.ygg_shape_sums.specs.ygg_bank.declared.node.Id.{Id}
use Rattle.ygg_shape_sums.specs.ygg_bank.declared.node.Node.{Node}
use Rattle.ygg_shape_sums.specs.ygg_bank.declared.node.Node.TheVariants.{Const, Bin}
use Rattle.ygg_shape_sums.specs.ygg_shape_words.Forms.{WordsAlike}
use Rattle.ygg_shape_sums.specs.ygg_shape_words.Picking.{picked}
use Rattle.ygg_shape_sums.specs.ygg_shape_words_proofs_Fit.{can_and}
use Rattle.ygg_shape_sums.specs.ygg_shape_words_proofs_Grows.{picked_grows}
use Rattle.ygg_shape_sums.specs.ygg_shape_words_proofs_Picks.{picked_is}
use Rattle.ygg_shape_sums.specs.ygg_shape_words_proofs_Terms.{TermIs, holds, equal, made_is, and_digits}
use Rattle.ygg_shape_sums.proofs.Equates.{equated_words_is}
use Rattle.ygg_shape_sums.proofs.Keeps.{equated_words_grows}
use Rattle.ygg_shape_sums.specs.Equates.{equated_words}
use Rattle.ygg_shape_cells.proofs.Fit.{pairs_wider, rows_fit, sides_fit, without_fit, shared_digit}
use Rattle.ygg_shape_cells.proofs.PairWorth.{all_equal, and_both, and_true, differing_is, split_is}
use Rattle.ygg_shape_cells.specs.Pairs.{PairsFit, differing, sides, without, RowsFit}
use Rattle.ygg_shape_cells.specs.Sharing.{shared}
use Rattle.ygg_shape_cells.specs.declared.pairs.Pair.{Pair}
use Rattle.ygg_shape.proofs.EquateKeeps.{Step, joined_grows, all_joined_grows, equal_within_grows}
use Rattle.ygg_shape.specs.Equates.{joined, all_joined, one_by_one, split_on, equal_within, equated_rows, AreSame}
use Rattle.ygg_shape.specs.declared.equating.TheConstants.{ROW_DEPTH}

by_test : (c : Bool) (x y z : Number) → (c ≡ true → x ≡ z) → (c ≡ false → y ≡ z) → (if c then x else y) ≡ z
by_test true x y z h i = h refl
by_test false x y z h i = i refl

module _ (inputs : Inputs) (v : Values) (kinds : List RuleKind) where
  -- a digit that says whether the words of each pair are equal
  abbrev pub SaysEqual : List Pair → Out Id → Type 0
  SaysEqual ps o = TermIs inputs v o.nodes 1 (word 1 (bit_of (all_equal inputs v ps))) o.value

  -- two digits, both of which are wanted
  both_are : (c d : Bool) (a b : Id) (nodes : List Node) → TermIs inputs v nodes 1 (word 1 (bit_of c)) a → TermIs inputs v nodes 1 (word 1 (bit_of d)) b →
      Fits inputs v (made kinds (Bin And a b) nodes).nodes →
      TermIs inputs v (made kinds (Bin And a b) nodes).nodes 1 (word 1 (bit_of (c && d))) (made kinds (Bin And a b) nodes).value
  both_are c d a b nodes x y h =
      let z = made_is inputs v kinds (Bin And a b) nodes (can_and nodes a b 1 x.wide y.wide) h in
      record {
        wide = z.wide ∙ ap (λ w. Some w) (width_is nodes a 1 x.wide);
        is = z.is ∙ ap (λ n. apply_to And n (v b.0)) x.is ∙ ap (apply_to And (word 1 (bit_of c))) y.is ∙ and_digits c d;
      }

  later : (old new : List Node) (want : Number) (a : Id) → Extends old new → TermIs inputs v old 1 want a → TermIs inputs v new 1 want a
  later old new want a g x = record { wide = wider old new a 1 g x.wide; is = x.is }

  joined_is : (s : Bool) (so_far : Id) (p : Pair) (nodes : List Node) → TermIs inputs v nodes 1 (word 1 (bit_of s)) so_far → WordsAlike nodes p.one p.two →
      Fits inputs v (joined kinds so_far p nodes).nodes →
      TermIs inputs v (joined kinds so_far p nodes).nodes 1 (word 1 (bit_of (s && equal inputs v p.one p.two))) (joined kinds so_far p nodes).value
  joined_is s so_far p nodes d w h =
      let o = equated_words kinds p.one p.two nodes in
      let q = made kinds (Bin And so_far o.value) o.nodes in
      let x = equated_words_is inputs v kinds p.one p.two nodes w (fits_fewer inputs v o.nodes q.nodes (made_grows kinds (Bin And so_far o.value) o.nodes) h) in
      both_are s (equal inputs v p.one p.two) so_far o.value o.nodes
      (later nodes o.nodes (word 1 (bit_of s)) so_far (equated_words_grows kinds p.one p.two nodes) d) x h

  all_joined_is : (s : Bool) (so_far : Id) (ps : List Pair) (nodes : List Node) → TermIs inputs v nodes 1 (word 1 (bit_of s)) so_far → PairsFit nodes ps →
      Fits inputs v (all_joined kinds so_far ps nodes).nodes →
      TermIs inputs v (all_joined kinds so_far ps nodes).nodes 1 (word 1 (bit_of (s && all_equal inputs v ps))) (all_joined kinds so_far ps nodes).value
  all_joined_is s so_far [] nodes d f h = record { wide = d.wide; is = d.is ∙ ap (λ z. word 1 (bit_of z)) (sym (and_true s)) }
  all_joined_is s so_far (p ∷ ps) nodes d f h =
      let o = joined kinds so_far p nodes in
      let W = λ (p : Pair). WordsAlike nodes p.one p.two in
      let here = equal inputs v p.one p.two in
      let oh = fits_fewer inputs v o.nodes (all_joined kinds o.value ps o.nodes).nodes (all_joined_grows kinds o.value ps o.nodes) h in
      let x = joined_is s so_far p nodes d (All-head W p ps f) oh in
      let r = all_joined_is (s && here) o.value ps o.nodes x (pairs_wider nodes o.nodes ps (joined_grows kinds so_far p nodes) (All-tail W p ps f)) h in
      record { wide = r.wide; is = r.is ∙ ap (λ z. word 1 (bit_of z)) (sym (and_both s here (all_equal inputs v ps))) }

  one_by_one_is : (ps : List Pair) (nodes : List Node) → PairsFit nodes ps → Fits inputs v (one_by_one kinds ps nodes).nodes →
      SaysEqual ps (one_by_one kinds ps nodes)
  one_by_one_is ps nodes f h =
      let k = Const (word 1 1) in
      let o = made kinds k nodes in
      let oh = fits_fewer inputs v o.nodes (all_joined kinds o.value ps o.nodes).nodes (all_joined_grows kinds o.value ps o.nodes) h in
      let x = made_is inputs v kinds k nodes (record { least = omega arith; most = omega arith; fits = omega arith }) oh in
      all_joined_is true o.value ps o.nodes (record { wide = x.wide; is = x.is }) (pairs_wider nodes o.nodes ps (made_grows kinds k nodes) f) h

  abbrev IsGood : Step → Type 0
  IsGood next = (ps : List Pair) (nodes : List Node) → PairsFit nodes ps → Fits inputs v (next ps nodes).nodes → SaysEqual ps (next ps nodes)

  abbrev OnlyGrows : Step → Type 0
  OnlyGrows next = (ps : List Pair) (nodes : List Node) → Extends nodes (next ps nodes).nodes

  split_on_is : (next : Step) (ps : List Pair) (n : Option Id) (nodes : List Node) → IsGood next → OnlyGrows next → PairsFit nodes ps →
      ((t : Id) → n ≡ Some t → HasWidth nodes t 1) → Fits inputs v (split_on kinds next nodes ps n nodes).nodes →
      SaysEqual ps (split_on kinds next nodes ps n nodes)
  split_on_is next ps None nodes good grow f d h = one_by_one_is ps nodes f h
  split_on_is next ps (Some t) nodes good grow f d h =
      let yes_sides = sides nodes t true ps in
      let no_sides = sides nodes t false ps in
      let others = without nodes t ps in
      let o = next yes_sides nodes in
      let m = next no_sides o.nodes in
      let s = picked kinds t o.value m.value m.nodes in
      let r = next others s.nodes in
      let q = made kinds (Bin And s.value r.value) r.nodes in
      let og = grow yes_sides nodes in
      let mg = grow no_sides o.nodes in
      let om = extends_both nodes o.nodes m.nodes og mg in
      let sg = picked_grows kinds t o.value m.value m.nodes in
      let rg = grow others s.nodes in
      let rh = fits_fewer inputs v r.nodes q.nodes (made_grows kinds (Bin And s.value r.value) r.nodes) h in
      let sh = fits_fewer inputs v s.nodes r.nodes rg rh in
      let mh = fits_fewer inputs v m.nodes s.nodes sg sh in
      let oh = fits_fewer inputs v o.nodes m.nodes mg mh in
      let own = fits_fewer inputs v nodes o.nodes og oh in
      let one = good yes_sides nodes (sides_fit nodes t true ps own.ordered f) oh in
      let two = good no_sides o.nodes (pairs_wider nodes o.nodes no_sides og (sides_fit nodes t false ps own.ordered f)) mh in
      let z = picked_is inputs v kinds 1 t o.value m.value m.nodes (wider nodes m.nodes t 1 om (d t refl)) (wider o.nodes m.nodes o.value 1 mg one.wide)
      two.wide sh in
      let rest = good others s.nodes (pairs_wider nodes s.nodes others (extends_both nodes m.nodes s.nodes om sg) (without_fit nodes t ps f)) rh in
      let test = holds inputs v t in
      let here = all_equal inputs v (sides nodes t test ps) in
      let digit : Bool → Number = λ c. word 1 (bit_of (all_equal inputs v (sides nodes t c ps))) in
      let split = later s.nodes r.nodes (digit test) s.value rg (record {
        wide = z.wide;
        is = z.is ∙ by_test test (v o.value.0) (v m.value.0) (digit test) (λ e. one.is ∙ ap digit (sym e)) (λ e. two.is ∙ ap digit (sym e));
      }) in
      let x = both_are here (all_equal inputs v others) s.value r.value r.nodes split rest h in
      record { wide = x.wide; is = x.is ∙ ap (λ c. word 1 (bit_of c)) (sym (split_is inputs v nodes t test ps own refl)) }

  equal_within_is : (depth : ℕ) → IsGood (equal_within kinds depth)
  unfolding equal_within
  equal_within_is zero ps nodes f h = one_by_one_is ps nodes f h
  equal_within_is (suc depth) ps nodes f h =
      let n = shared nodes ps in
      let step = equal_within kinds depth in
      let own = fits_fewer inputs v nodes (split_on kinds step nodes ps n nodes).nodes (equal_within_grows kinds (suc depth) ps nodes) h in
      split_on_is step ps n nodes (equal_within_is depth) (equal_within_grows kinds depth) f (λ t. shared_digit nodes ps t own.ordered f) h

  -- the equality of two rows is what it says
  pub equated_rows_is : (one two : List Id) (nodes : List Node) → RowsFit nodes one two → Fits inputs v (equated_rows kinds one two nodes).nodes →
      TermIs inputs v (equated_rows kinds one two nodes).nodes 1
      (word 1 (bit_of (bytes_eq (map (λ a. (v a.0).bits) one) (map (λ a. (v a.0).bits) two)))) (equated_rows kinds one two nodes).value
  equated_rows_is one two nodes f h =
      let x = equal_within_is ROW_DEPTH (differing one two) nodes (rows_fit nodes one two f) h in
      record { wide = x.wide; is = x.is ∙ ap (λ c. word 1 (bit_of c)) (differing_is inputs v one two f.count) }

-- what the call says of its answer
pub equated_value : {E : Type 0} (kinds : List RuleKind) (one two : List Id) (old new : List Node) (r : Result Id E) → IsBank new →
    OnOk r (new ≡ (equated_rows kinds one two old).nodes) → IfOk r (λ answer. answer ≡ (equated_rows kinds one two old).value) → RowsFit old one two →
    IfOk r (AreSame new one two)
equated_value kinds one two old new (Ok answer) k e g w =
    let o = equated_rows kinds one two old in
    let c = subst IsBank e k in
    subst (λ z. AreSame z one two answer) (sym e) (subst (AreSame o.nodes one two) (sym g) (λ inputs fit.
    let m = equated_rows_is inputs (value_of inputs o.nodes) kinds one two old w (values_fit inputs o.nodes c.ordered fit) in m.is))
equated_value kinds one two old new (Err x) k e g w = tt
