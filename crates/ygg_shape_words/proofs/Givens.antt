-- What a word is where a test has a value: its width, its nodes, and what it is worth.
use Rattle.std.proofs.Common.{◌≡◌, ◌==◌, ◌-◌, ℕ, zero, suc, Bool, true, false, if◌then◌else◌, Option, Some, None, List, [], slice_get, refl, sym, ap, ◌∙◌}
use Rattle.ygg_value.specs.Number.{Number}
use Rattle.ygg_rules.specs.declared.rule.RuleKind.{RuleKind}
use Rattle.ygg_bank.proofs.Meaning.{fits_fewer}
use Rattle.ygg_bank.proofs.Widths.{wider, extends_self, has_width, stands}
use Rattle.ygg_bank.specs.Makes.{Make}
use Rattle.ygg_bank.specs.Nodes.{width_at, widths_of, HasWidth, InOrder, Extends, Stands}
use Rattle.ygg_bank.specs.Values.{Inputs, Values, Fits}
use Rattle.ygg_bank.specs.declared.node.Id.{Id}
use Rattle.ygg_bank.specs.declared.node.Node.{Node}
use Rattle.ygg_bank.specs.declared.node.Node.TheVariants.{Pick}
use Rattle.ygg_shape_words.specs.Picking.{picked}
use Rattle.ygg_shape_words.proofs.Children.{PickHas, pick_children}
use Rattle.ygg_shape_words.proofs.Grows.{picked_grows}
use Rattle.ygg_shape_words.proofs.Keeps.{Stays, grows_stays, picked_keeps}
use Rattle.ygg_shape_words.proofs.Picks.{picked_is}
use Rattle.ygg_shape_words.proofs.Terms.{holds}
use Rattle.ygg_shape_words.proofs.Decided.{DecidesIs, decided_is}
use Rattle.ygg_shape_words.specs.Deciding.{decided}
use Rattle.ygg_shape_words.specs.Giving.{Pruned, FurtherFits, SameWidth, side_of, way_of, way_on, given_as, given_within, given}
use Rattle.ygg_shape_words.specs.declared.giving.TheConstants.{GIVEN_LIMIT}
use Rattle.ygg_shape_words.specs.declared.giving.Further.{Further}
use Rattle.ygg_shape_words.specs.declared.giving.Further.TheVariants.{Whole, Side, Both}

-- a step that prunes a word
abbrev pub Prunes : Type 0
Prunes = ℕ → Id → Make Pruned

module _ (nodes : List Node) where
  side_fits : (a u x y : Id) (d : Option Bool) → ((w : ℕ) → HasWidth nodes a w → PickHas nodes u x y w) → HasWidth nodes u 1 →
      FurtherFits nodes a (side_of d u x y)
  side_fits a u x y (Some true) h t = λ w p. (h w p).first
  side_fits a u x y (Some false) h t = λ w p. (h w p).second
  side_fits a u x y None h t = (t, (λ w p. (h w p).first), (λ w p. (h w p).second))

  way_of_fits : (t a : Id) (on : Bool) (w : ℕ) (n : Option Node) → InOrder [] nodes → slice_get nodes a.0 ≡ n → HasWidth nodes a w →
      FurtherFits nodes a (way_of nodes t on n)
  way_of_fits t a on w (Some (Pick u x y)) o e h =
      side_fits a u x y (decided nodes t on u) (λ z p. pick_children nodes a u x y z o e p) (pick_children nodes a u x y w o e h).test
  way_of_fits t a on w n o e h = tt

  -- what a form names stands
  pub way_fits : (t a : Id) (on : Bool) (fuel w : ℕ) → InOrder [] nodes → HasWidth nodes a w → FurtherFits nodes a (way_on nodes t on fuel a)
  way_fits t a on fuel w o h = here (fuel == 0) where
    here : (c : Bool) → FurtherFits nodes a (if c then Whole else way_of nodes t on (slice_get nodes a.0))
    here true = tt
    here false = way_of_fits t a on w (slice_get nodes a.0) o refl h

-- what has the width of a word that stands, stands
pub same_stands : (old : List Node) (a : Id) (new : List Node) (b : Id) → Stands old a → SameWidth old a new b → Stands new b
same_stands old a new b s h = stands new b (width_at (widths_of old) a) (h (width_at (widths_of old) a) (has_width old a s))

module _ (kinds : List RuleKind) (P : List Node → Type 0) (stays : Stays kinds P) where
  abbrev PrunesKeeps : Prunes → Type 0
  PrunesKeeps next = (fuel : ℕ) (a : Id) (nodes : List Node) → P nodes → P (next fuel a nodes).nodes

  given_as_keeps : (next : Prunes) (fuel : ℕ) (a : Id) (f : Further) (nodes : List Node) → PrunesKeeps next → P nodes → P (given_as kinds next fuel a f nodes).nodes
  given_as_keeps next fuel a Whole nodes g p = p
  given_as_keeps next fuel a (Side b) nodes g p = g (fuel - 1) b nodes p
  given_as_keeps next fuel a (Both u x y) nodes g p =
      let o = next (fuel - 1) x nodes in
      let m = next (o.value).fuel y o.nodes in
      picked_keeps kinds P stays u (o.value).term (m.value).term m.nodes (g (o.value).fuel y o.nodes (g (fuel - 1) x nodes p))

  pub given_within_keeps : (t : Id) (on : Bool) (depth : ℕ) → PrunesKeeps (given_within kinds t on depth)
  unfolding given_within
  given_within_keeps t on zero fuel a nodes p = p
  given_within_keeps t on (suc depth) fuel a nodes p =
      given_as_keeps (given_within kinds t on depth) fuel a (way_on nodes t on fuel a) nodes (given_within_keeps t on depth) p

  -- what holds of nodes, and stays as nodes other than inputs are made, holds then
  pub given_keeps : (t : Id) (on : Bool) (a : Id) (nodes : List Node) → P nodes → P (given kinds t on a nodes).nodes
  given_keeps t on a nodes p = given_within_keeps t on GIVEN_LIMIT GIVEN_LIMIT a nodes p

module _ (kinds : List RuleKind) where
  pub given_within_grows : (t : Id) (on : Bool) (depth fuel : ℕ) (a : Id) (nodes : List Node) → Extends nodes (given_within kinds t on depth fuel a nodes).nodes
  given_within_grows t on depth fuel a nodes =
      given_within_keeps kinds (Extends nodes) (grows_stays kinds nodes) t on depth fuel a nodes (extends_self nodes)

  pub given_grows : (t : Id) (on : Bool) (a : Id) (nodes : List Node) → Extends nodes (given kinds t on a nodes).nodes
  given_grows t on a nodes = given_keeps kinds (Extends nodes) (grows_stays kinds nodes) t on a nodes (extends_self nodes)

module _ (inputs : Inputs) (v : Values) where
  -- a word of the width and, where the test has the value, of the value of another
  pub record PrunedIs (t : Id) (on : Bool) (a : Id) (w : ℕ) (nodes : List Node) (answer : Id) : Type 0 where
    pub wide : HasWidth nodes answer w
    pub is : holds inputs v t ≡ on → v answer.0 ≡ v a.0

  -- what a form says of the word
  abbrev FurtherIs : Id → Bool → Id → Further → Type 0
  FurtherIs t on a Whole = Unit {0}
  FurtherIs t on a (Side b) = holds inputs v t ≡ on → v b.0 ≡ v a.0
  FurtherIs t on a (Both u x y) = v a.0 ≡ (if holds inputs v u then v x.0 else v y.0)

  side_is : (t : Id) (on : Bool) (a u x y : Id) (d : Option Bool) → v a.0 ≡ (if holds inputs v u then v x.0 else v y.0) →
      (holds inputs v t ≡ on → DecidesIs (holds inputs v u) d) → FurtherIs t on a (side_of d u x y)
  side_is t on a u x y (Some true) e h = λ k. sym (e ∙ ap (λ c. if c then v x.0 else v y.0) (h k))
  side_is t on a u x y (Some false) e h = λ k. sym (e ∙ ap (λ c. if c then v x.0 else v y.0) (h k))
  side_is t on a u x y None e h = e

  way_of_is : (nodes : List Node) (t : Id) (on : Bool) (a : Id) (n : Option Node) → Fits inputs v nodes → slice_get nodes a.0 ≡ n →
      FurtherIs t on a (way_of nodes t on n)
  way_of_is nodes t on a (Some (Pick u x y)) f e =
      side_is t on a u x y (decided nodes t on u) (f.values a.0 (Pick u x y) e) (λ k. decided_is inputs v nodes f t u on k)
  way_of_is nodes t on a n f e = tt

  way_is : (nodes : List Node) (t : Id) (on : Bool) (fuel : ℕ) (a : Id) → Fits inputs v nodes → FurtherIs t on a (way_on nodes t on fuel a)
  way_is nodes t on fuel a f = here (fuel == 0) where
    here : (c : Bool) → FurtherIs t on a (if c then Whole else way_of nodes t on (slice_get nodes a.0))
    here true = tt
    here false = way_of_is nodes t on a (slice_get nodes a.0) f refl

  module _ (kinds : List RuleKind) (t : Id) (on : Bool) where
    abbrev IsGood : Prunes → Type 0
    IsGood next = (fuel : ℕ) (a : Id) (w : ℕ) (nodes : List Node) → HasWidth nodes a w → Fits inputs v (next fuel a nodes).nodes →
        PrunedIs t on a w (next fuel a nodes).nodes ((next fuel a nodes).value).term

    abbrev Grows : Prunes → Type 0
    Grows next = (fuel : ℕ) (a : Id) (nodes : List Node) → Extends nodes (next fuel a nodes).nodes

    both_are : (c o : Bool) (x y p q : Number) → (o ≡ on → p ≡ x) → (o ≡ on → q ≡ y) → o ≡ on → (if c then p else q) ≡ (if c then x else y)
    both_are true o x y p q g h k = g k
    both_are false o x y p q g h k = h k

    given_as_is : (next : Prunes) (fuel : ℕ) (a : Id) (w : ℕ) (d : Further) (nodes : List Node) → IsGood next → Grows next → HasWidth nodes a w →
        FurtherFits nodes a d → FurtherIs t on a d → Fits inputs v (given_as kinds next fuel a d nodes).nodes →
        PrunedIs t on a w (given_as kinds next fuel a d nodes).nodes ((given_as kinds next fuel a d nodes).value).term
    given_as_is next fuel a w Whole nodes good grow h s k f = record { wide = h; is = λ e. refl }
    given_as_is next fuel a w (Side b) nodes good grow h s k f =
        let r = good (fuel - 1) b w nodes (s w h) f in record { wide = r.wide; is = λ e. r.is e ∙ k e }
    given_as_is next fuel a w (Both u x y) nodes good grow h s k f =
        let o = next (fuel - 1) x nodes in
        let m = next (o.value).fuel y o.nodes in
        let p = (o.value).term in
        let q = (m.value).term in
        let r = picked kinds u p q m.nodes in
        let og = grow (fuel - 1) x nodes in
        let mg = grow (o.value).fuel y o.nodes in
        let mf = fits_fewer inputs v m.nodes r.nodes (picked_grows kinds u p q m.nodes) f in
        let one = good (fuel - 1) x w nodes (s.1 w h) (fits_fewer inputs v o.nodes m.nodes mg mf) in
        let two = good (o.value).fuel y w o.nodes (wider nodes o.nodes y w og (s.2 w h)) mf in
        let z = picked_is inputs v kinds w u p q m.nodes (wider o.nodes m.nodes u 1 mg (wider nodes o.nodes u 1 og s.0))
        (wider o.nodes m.nodes p w mg one.wide) two.wide f in
        record { wide = z.wide; is = λ e. z.is ∙ both_are (holds inputs v u) (holds inputs v t) (v x.0) (v y.0) (v p.0) (v q.0) one.is two.is e ∙ sym k }

    pub given_within_is : (depth : ℕ) → IsGood (given_within kinds t on depth)
    unfolding given_within
    given_within_is zero fuel a w nodes h f = record { wide = h; is = λ e. refl }
    given_within_is (suc depth) fuel a w nodes h f =
        let n = fits_fewer inputs v nodes (given_within kinds t on (suc depth) fuel a nodes).nodes (given_within_grows kinds t on (suc depth) fuel a nodes) f in
        given_as_is (given_within kinds t on depth) fuel a w (way_on nodes t on fuel a) nodes (given_within_is depth) (given_within_grows kinds t on depth) h
        (way_fits nodes t a on fuel w n.ordered h) (way_is nodes t on fuel a n) f

    -- the answer has the word's width and, where the test has the value, its value
    pub given_is : (a : Id) (w : ℕ) (nodes : List Node) → HasWidth nodes a w → Fits inputs v (given kinds t on a nodes).nodes →
        PrunedIs t on a w (given kinds t on a nodes).nodes (given kinds t on a nodes).value
    given_is a w nodes h f = given_within_is GIVEN_LIMIT GIVEN_LIMIT a w nodes h f
