-- What joined words are worth, and what stays as they are made.
use Rattle.std.proofs.Common.{◌≡◌, ◌==◌, ℕ, ◌||◌, Bool, true, false, if◌then◌else◌, Option, Some, List, slice_get, refl, sym, ap, ◌∙◌}
use Rattle.std.proofs.lemmas.Bool.Decides.{Decides-eqb}
use Rattle.ygg_value.specs.Number.{Number}
use Rattle.ygg_value.specs.Words.{word, bit_of, apply_to}
use Rattle.ygg_value.specs.declared.operation.Op.TheVariants.{Or}
use Rattle.ygg_shape_words.specs.ygg_rules.declared.rule.RuleKind.{RuleKind}
use Rattle.ygg_shape_words.specs.ygg_bank_proofs_Made.{made_grows}
use Rattle.ygg_shape_words.specs.ygg_bank_proofs_Meaning.{fits_fewer}
use Rattle.ygg_shape_words.specs.ygg_bank_proofs_Widths.{extends_self, wider, width_is}
use Rattle.ygg_shape_words.specs.ygg_bank.Making.{made}
use Rattle.ygg_shape_words.specs.ygg_bank.Nodes.{HasWidth, Extends}
use Rattle.ygg_shape_words.specs.ygg_bank.Values.{Inputs, Values, Fits}
use Rattle.ygg_shape_words.specs.ygg_bank.declared.node.Id.{Id}
use Rattle.ygg_shape_words.specs.ygg_bank.declared.node.Node.{Node}
use Rattle.ygg_shape_words.specs.ygg_bank.declared.node.Node.TheVariants.{Bin, Pick}
use Rattle.ygg_shape_words.proofs.Children.{pick_children}
use Rattle.ygg_shape_words.proofs.Fit.{can_or}
use Rattle.ygg_shape_words.proofs.Grows.{picked_grows}
use Rattle.ygg_shape_words.proofs.Keeps.{Stays, grows_stays, picked_keeps}
use Rattle.ygg_shape_words.proofs.Picks.{picked_is}
use Rattle.ygg_shape_words.proofs.Terms.{TermIs, holds, made_is, bit_is, term_digit, or_digits}
use Rattle.ygg_shape_words.specs.Picking.{picked}
use Rattle.ygg_shape_cells.proofs.Keeps.{either_keeps, each_two_keeps}
use Rattle.ygg_shape_cells.specs.declared.terms.SymValue.{SymValue}
use Rattle.ygg_shape_cells.specs.declared.terms.SymValue.TheVariants as value
use Rattle.ygg_shape_joins.specs.Joining.{picked_either, joined_as, joined_word, joined_row, joined_rows, joined, joined_all}

module _ (kinds : List RuleKind) (P : List Node → Type 0) (stays : Stays kinds P) where
  as_keeps : (t a b : Id) (n : Option Node) (nodes : List Node) → P nodes → P (joined_as kinds t a b n nodes).nodes
  as_keeps t a b (Some (Pick u x z)) nodes p =
      let o = made kinds (Bin Or t u) nodes in
      either_keeps P (x.0 == a.0) (picked_either kinds t u a z) (picked kinds t a b) nodes
      (picked_keeps kinds P stays o.value a z o.nodes (stays (Bin Or t u) nodes tt p)) (picked_keeps kinds P stays t a b nodes p)
  as_keeps t a b n nodes p = picked_keeps kinds P stays t a b nodes p

  pub joined_word_keeps : (t a b : Id) (nodes : List Node) → P nodes → P (joined_word kinds t a b nodes).nodes
  joined_word_keeps t a b nodes p = as_keeps t a b (slice_get nodes b.0) nodes p

  pub joined_row_keeps : (t : Id) (xs ys : List Id) (nodes : List Node) → P nodes → P (joined_row kinds t xs ys nodes).nodes
  joined_row_keeps t xs ys nodes p = each_two_keeps P (joined_word kinds t) (joined_word_keeps t) xs ys nodes p

  pub joined_rows_keeps : (t : Id) (xs ys : List (List Id)) (nodes : List Node) → P nodes → P (joined_rows kinds t xs ys nodes).nodes
  joined_rows_keeps t xs ys nodes p = each_two_keeps P (joined_row kinds t) (joined_row_keeps t) xs ys nodes p

  pub joined_keeps : (t : Id) (one two : SymValue) (nodes : List Node) → P nodes → P (joined kinds t one two nodes).nodes
  joined_keeps t (value.Word a) (value.Word b) nodes p = joined_word_keeps t a b nodes p
  joined_keeps t (value.Row x) (value.Row y) nodes p = joined_row_keeps t x y nodes p
  joined_keeps t (value.Table x) (value.Table y) nodes p = joined_rows_keeps t x y nodes p
  joined_keeps t one two nodes p = p

  pub joined_all_keeps : (t : Id) (xs ys : List SymValue) (nodes : List Node) → P nodes → P (joined_all kinds t xs ys nodes).nodes
  joined_all_keeps t xs ys nodes p = each_two_keeps P (joined kinds t) (joined_keeps t) xs ys nodes p

module _ (kinds : List RuleKind) where
  pub joined_word_grows : (t a b : Id) (nodes : List Node) → Extends nodes (joined_word kinds t a b nodes).nodes
  joined_word_grows t a b nodes = joined_word_keeps kinds (Extends nodes) (grows_stays kinds nodes) t a b nodes (extends_self nodes)

  pub joined_row_grows : (t : Id) (xs ys : List Id) (nodes : List Node) → Extends nodes (joined_row kinds t xs ys nodes).nodes
  joined_row_grows t xs ys nodes = joined_row_keeps kinds (Extends nodes) (grows_stays kinds nodes) t xs ys nodes (extends_self nodes)

  pub joined_rows_grows : (t : Id) (xs ys : List (List Id)) (nodes : List Node) → Extends nodes (joined_rows kinds t xs ys nodes).nodes
  joined_rows_grows t xs ys nodes = joined_rows_keeps kinds (Extends nodes) (grows_stays kinds nodes) t xs ys nodes (extends_self nodes)

  pub joined_grows : (t : Id) (one two : SymValue) (nodes : List Node) → Extends nodes (joined kinds t one two nodes).nodes
  joined_grows t one two nodes = joined_keeps kinds (Extends nodes) (grows_stays kinds nodes) t one two nodes (extends_self nodes)

  pub joined_all_grows : (t : Id) (xs ys : List SymValue) (nodes : List Node) → Extends nodes (joined_all kinds t xs ys nodes).nodes
  joined_all_grows t xs ys nodes = joined_all_keeps kinds (Extends nodes) (grows_stays kinds nodes) t xs ys nodes (extends_self nodes)

-- a word that stands where either of two tests is 1
under_either : (c d : Bool) (a z : Number) → (if c || d then a else z) ≡ (if c then a else (if d then a else z))
under_either true d a z = refl
under_either false d a z = refl

module _ (inputs : Inputs) (v : Values) (kinds : List RuleKind) where
  either_is : (w : ℕ) (t a b u x z : Id) (nodes : List Node) → slice_get nodes b.0 ≡ Some (Pick u x z) → x.0 ≡ a.0 → HasWidth nodes t 1 →
      HasWidth nodes a w → HasWidth nodes b w → Fits inputs v (picked_either kinds t u a z nodes).nodes →
      TermIs inputs v (picked_either kinds t u a z nodes).nodes w (if holds inputs v t then v a.0 else v b.0) (picked_either kinds t u a z nodes).value
  either_is w t a b u x z nodes e k d p q h =
      let o = made kinds (Bin Or t u) nodes in
      let g = made_grows kinds (Bin Or t u) nodes in
      let ho = fits_fewer inputs v o.nodes (picked kinds o.value a z o.nodes).nodes (picked_grows kinds o.value a z o.nodes) h in
      let f = fits_fewer inputs v nodes o.nodes g ho in
      let c = pick_children nodes b u x z w f.ordered e q in
      let m = made_is inputs v kinds (Bin Or t u) nodes (can_or nodes t u 1 d c.test) ho in
      let wide : HasWidth o.nodes o.value 1 = m.wide ∙ ap (λ n. Some n) (width_is nodes t 1 d) in
      let r = picked_is inputs v kinds w o.value a z o.nodes wide (wider nodes o.nodes a w g p) (wider nodes o.nodes z w g c.second) h in
      let ht = holds inputs v t in
      let hu = holds inputs v u in
      let test : holds inputs v o.value ≡ (ht || hu) =
      ap (λ (n : Number). n.bits == 1) (m.is ∙ ap (λ n. apply_to Or n (v u.0)) (term_digit inputs v nodes t f d)
      ∙ ap (apply_to Or (word 1 (bit_of ht))) (term_digit inputs v nodes u f c.test) ∙ or_digits ht hu) ∙ bit_is (ht || hu) in
      let other : (if hu then v a.0 else v z.0) ≡ v b.0 = ap (λ n. if hu then v n else v z.0) (sym k) ∙ sym (f.values b.0 (Pick u x z) e) in
      record {
        wide = r.wide;
        is = r.is ∙ ap (λ n. if n then v a.0 else v z.0) test ∙ under_either ht hu (v a.0) (v z.0) ∙ ap (λ n. if ht then v a.0 else n) other;
      }

  pick_is : (s : Bool) (w : ℕ) (t a b u x z : Id) (nodes : List Node) → (x.0 == a.0) ≡ s → slice_get nodes b.0 ≡ Some (Pick u x z) →
      HasWidth nodes t 1 → HasWidth nodes a w → HasWidth nodes b w →
      let o = (if s then picked_either kinds t u a z else picked kinds t a b) nodes in
      Fits inputs v o.nodes → TermIs inputs v o.nodes w (if holds inputs v t then v a.0 else v b.0) o.value
  pick_is true w t a b u x z nodes k e d p q h = either_is w t a b u x z nodes e ((Decides-eqb x.0 a.0).0 k) d p q h
  pick_is false w t a b u x z nodes k e d p q h = picked_is inputs v kinds w t a b nodes d p q h

  as_is : (w : ℕ) (t a b : Id) (n : Option Node) (nodes : List Node) → slice_get nodes b.0 ≡ n → HasWidth nodes t 1 → HasWidth nodes a w →
      HasWidth nodes b w → Fits inputs v (joined_as kinds t a b n nodes).nodes →
      TermIs inputs v (joined_as kinds t a b n nodes).nodes w (if holds inputs v t then v a.0 else v b.0) (joined_as kinds t a b n nodes).value
  as_is w t a b (Some (Pick u x z)) nodes e d p q h = pick_is (x.0 == a.0) w t a b u x z nodes refl e d p q h
  as_is w t a b n nodes e d p q h = picked_is inputs v kinds w t a b nodes d p q h

  -- the word is the first where the test is 1, and else the second
  pub joined_word_is : (w : ℕ) (t a b : Id) (nodes : List Node) → HasWidth nodes t 1 → HasWidth nodes a w → HasWidth nodes b w →
      Fits inputs v (joined_word kinds t a b nodes).nodes →
      TermIs inputs v (joined_word kinds t a b nodes).nodes w (if holds inputs v t then v a.0 else v b.0) (joined_word kinds t a b nodes).value
  joined_word_is w t a b nodes d p q h = as_is w t a b (slice_get nodes b.0) nodes refl d p q h
