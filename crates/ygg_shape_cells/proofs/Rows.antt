-- What merged words and rows are worth, and their shapes, under one valuation of the nodes at the end.
use Rattle.std.proofs.Common.{
  ◌≡◌,
  ◌<◌,
  ◌^◌,
  ◌==◌,
  ℕ,
  zero,
  suc,
  Bool,
  true,
  false,
  if◌then◌else◌,
  List,
  [],
  ◌∷◌,
  length,
  replicate,
  refl,
  sym,
  ap,
  ◌∙◌,
  subst,
  arith,
}
use Rattle.std.specs.Prelude.{nat_lt}
use Rattle.std.proofs.lemmas.Bool.Decides.{nat_tests}
use Rattle.std.proofs.lemmas.List.{length-replicate}
use Rattle.std.proofs.lemmas.Nat.{pow_pos}
use Rattle.std.proofs.lemmas.List.Elements.{All-head, All-tail, All-cons, All-replicate}
use Rattle.ygg_value.specs.Number.{Number, IsWord}
use Rattle.ygg_value.specs.Words.{word}
use Rattle.ygg_shape_words.specs.ygg_rules.Views.{IsWidth}
use Rattle.ygg_shape_words.specs.ygg_rules.declared.rule.RuleKind.{RuleKind}
use Rattle.ygg_shape_words.specs.ygg_bank_proofs_Made.{made_grows}
use Rattle.ygg_shape_words.specs.ygg_bank_proofs_Meaning.{fits_fewer}
use Rattle.ygg_shape_words.specs.ygg_bank_proofs_Widths.{wider}
use Rattle.ygg_shape_words.specs.ygg_bank.Makes.{pure}
use Rattle.ygg_shape_words.specs.ygg_bank.Making.{made}
use Rattle.ygg_shape_words.specs.ygg_bank.Nodes.{HasWidth, Extends}
use Rattle.ygg_shape_words.specs.ygg_bank.Values.{Inputs, Values, Fits}
use Rattle.ygg_shape_words.specs.ygg_bank.declared.node.Id.{Id}
use Rattle.ygg_shape_words.specs.ygg_bank.declared.node.Node.{Node}
use Rattle.ygg_shape_words.specs.ygg_bank.declared.node.Node.TheVariants.{Const}
use Rattle.ygg_shape_words.proofs.Compares.{same_words_is}
use Rattle.ygg_shape_words.proofs.Fit.{alike}
use Rattle.ygg_shape_words.proofs.Grows.{picked_grows, same_words_grows}
use Rattle.ygg_shape_words.proofs.Picks.{picked_is}
use Rattle.ygg_shape_words.proofs.Terms.{holds, made_is, either, number_if, bit_is}
use Rattle.ygg_shape_words.specs.Picking.{picked}
use Rattle.ygg_shape_words.specs.Same.{same_words}
use Rattle.ygg_shape_cells.proofs.Pruned.{given_row_is}
use Rattle.ygg_shape_cells.proofs.Grows.{merged_row_grows, given_row_grows, written_row_grows}
use Rattle.ygg_shape_cells.proofs.Wider.{IsWide, all_wider, row_wider}
use Rattle.ygg_shape_cells.proofs.Words.{row_if}
use Rattle.ygg_shape_cells.specs.Pruning.{given_row}
use Rattle.ygg_shape_cells.specs.Making.{merged_row, written_row, split_at, where_at, zeros}
use Rattle.ygg_shape_cells.specs.Terms.{IsRow, numbers_of}

module _ (inputs : Inputs) (v : Values) where
  -- a row of this shape whose words have these numbers
  pub record RowIs (nodes : List Node) (n w : ℕ) (want : List ℕ) (row : List Id) : Type 0 where
    pub shaped : IsRow nodes n w row
    pub is : numbers_of v row ≡ want

module _ (inputs : Inputs) (v : Values) (kinds : List RuleKind) where
  -- a row without its first word
  row_tail : (old new : List Node) (n m w : ℕ) (x : Id) (xs : List Id) → Extends old new → IsRow old n w (x ∷ xs) → length xs ≡ m → IsRow new m w xs
  row_tail old new n m w x xs g h e = record { count = e; wide = all_wider old new w xs g (All-tail (IsWide old w) x xs h.wide) }

  row_head : (nodes : List Node) (n w : ℕ) (x : Id) (xs : List Id) → IsRow nodes n w (x ∷ xs) → HasWidth nodes x w
  row_head nodes n w x xs h = All-head (IsWide nodes w) x xs h.wide

  pub merged_row_is : (n w : ℕ) (t : Id) (xs ys : List Id) (nodes : List Node) → HasWidth nodes t 1 → IsRow nodes n w xs → IsRow nodes n w ys →
      Fits inputs v (merged_row kinds t xs ys nodes).nodes →
      RowIs inputs v (merged_row kinds t xs ys nodes).nodes n w (if holds inputs v t then numbers_of v xs else numbers_of v ys)
      (merged_row kinds t xs ys nodes).value
  merged_row_is n w t [] [] nodes d p q h = record { shaped = p; is = either (holds inputs v t) [] }
  merged_row_is n w t [] (y ∷ ys) nodes d p q h = absurd (omega (arith, p.count, q.count))
  merged_row_is n w t (x ∷ xs) [] nodes d p q h = absurd (omega (arith, p.count, q.count))
  merged_row_is n w t (x ∷ xs) (y ∷ ys) nodes d p q h =
      let o = picked kinds t x y nodes in
      let g = picked_grows kinds t x y nodes in
      let rest = merged_row kinds t xs ys o.nodes in
      let k = merged_row_grows kinds t xs ys o.nodes in
      let a = picked_is inputs v kinds w t x y nodes d (row_head nodes n w x xs p) (row_head nodes n w y ys q) (fits_fewer inputs v o.nodes rest.nodes k h) in
      let r = merged_row_is (length xs) w t xs ys o.nodes (wider nodes o.nodes t 1 g d) (row_tail nodes o.nodes n (length xs) w x xs g p refl)
      (row_tail nodes o.nodes n (length xs) w y ys g q (omega (arith, p.count, q.count))) h in
      let tail = r.shaped in
      record {
        shaped = record {
          count = omega (arith, tail.count, p.count);
          wide = All-cons (IsWide rest.nodes w) o.value rest.value (wider o.nodes rest.nodes o.value w k a.wide) tail.wide;
        };
        is = ap (λ z. z ∷ numbers_of v rest.value) (ap (λ (z : Number). z.bits) a.is ∙ number_if (holds inputs v t) (v x.0) (v y.0))
            ∙ ap (λ z. (if holds inputs v t then (v x.0).bits else (v y.0).bits) ∷ z) r.is
            ∙ row_if (holds inputs v t) (v x.0).bits (v y.0).bits (numbers_of v xs) (numbers_of v ys);
      }

  under : (c : Bool) (new old other : List ℕ) → (c ≡ true → new ≡ old) → (if c then new else other) ≡ (if c then old else other)
  under true new old other e = e refl
  under false new old other e = refl

  -- the words of the first row may be what they are where a test is 1 that follows
  pub written_row_is : (n w : ℕ) (t m : Id) (xs ys : List Id) (nodes : List Node) → HasWidth nodes t 1 →
      (holds inputs v t ≡ true → holds inputs v m ≡ true) → IsRow nodes n w xs → IsRow nodes n w ys →
      Fits inputs v (written_row kinds t m xs ys nodes).nodes →
      RowIs inputs v (written_row kinds t m xs ys nodes).nodes n w (if holds inputs v t then numbers_of v xs else numbers_of v ys)
      (written_row kinds t m xs ys nodes).value
  written_row_is n w t m xs ys nodes d i p q h =
      let o = given_row kinds m true xs nodes in
      let g = given_row_grows kinds m true xs nodes in
      let begun = fits_fewer inputs v o.nodes (merged_row kinds t o.value ys o.nodes).nodes (merged_row_grows kinds t o.value ys o.nodes) h in
      let new = given_row_is inputs v kinds m true n w xs nodes p begun in
      let r = merged_row_is n w t o.value ys o.nodes (wider nodes o.nodes t 1 g d) new.shaped (row_wider nodes o.nodes n w ys g q) h in
      record {
        shaped = r.shaped;
        is = r.is ∙ under (holds inputs v t) (numbers_of v o.value) (numbers_of v xs) (numbers_of v ys) (λ e. new.is (i e));
      }

  -- zeros
  numbers_replicate : (n : ℕ) (a : Id) → (v a.0).bits ≡ 0 → numbers_of v (replicate n a) ≡ replicate n 0
  numbers_replicate zero a e = refl
  numbers_replicate (suc n) a e = ap (λ z. z ∷ numbers_of v (replicate n a)) e ∙ ap (λ z. 0 ∷ z) (numbers_replicate n a e)

  pub zeros_is : (n w : ℕ) (nodes : List Node) → IsWidth w → Fits inputs v (zeros kinds n w nodes).nodes →
      RowIs inputs v (zeros kinds n w nodes).nodes n w (replicate n 0) (zeros kinds n w nodes).value
  zeros_is n w nodes l h =
      let o = made kinds (Const (word w 0)) nodes in
      let z = made_is inputs v kinds (Const (word w 0)) nodes (zero_word w l) h in
      record {
        shaped = record { count = length-replicate n o.value; wide = All-replicate (IsWide o.nodes w) n o.value z.wide };
        is = numbers_replicate n o.value (ap (λ (k : Number). k.bits) z.is);
      } where
        zero_word : (w : ℕ) → IsWidth w → IsWord (word w 0)
        zero_word w l = record { least = l.least; most = l.most; fits = pow_pos w }

  -- a place by its number
  pub split_at_is : (n w d i : ℕ) (at : Id) (xs ys : List Id) (nodes : List Node) → HasWidth nodes at d → IsWidth d → i < 2 ^ d → IsRow nodes n w xs →
      IsRow nodes n w ys →
      Fits inputs v (split_at kinds at d i xs ys nodes).nodes →
      RowIs inputs v (split_at kinds at d i xs ys nodes).nodes n w (if (v at.0).bits == i then numbers_of v xs else numbers_of v ys)
      (split_at kinds at d i xs ys nodes).value
  split_at_is n w d i at xs ys nodes a l f p q h =
      let k = made kinds (Const (word d i)) nodes in
      let kg = made_grows kinds (Const (word d i)) nodes in
      let t = same_words kinds at k.value k.nodes in
      let tg = same_words_grows kinds at k.value k.nodes in
      let m = written_row kinds t.value t.value xs ys t.nodes in
      let ht = fits_fewer inputs v t.nodes m.nodes (written_row_grows kinds t.value t.value xs ys t.nodes) h in
      let x = made_is inputs v kinds (Const (word d i)) nodes (record { least = l.least; most = l.most; fits = f })
      (fits_fewer inputs v k.nodes t.nodes tg ht) in
      let y = same_words_is inputs v kinds at k.value k.nodes (alike k.nodes at k.value d (wider nodes k.nodes at d kg a) x.wide) ht in
      let r = written_row_is n w t.value t.value xs ys t.nodes y.wide (λ e. e) (row_wider k.nodes t.nodes n w xs tg (row_wider nodes k.nodes n w xs kg p))
      (row_wider k.nodes t.nodes n w ys tg (row_wider nodes k.nodes n w ys kg q)) h in
      let test : holds inputs v t.value ≡ ((v at.0).bits == i) =
      ap (λ (z : Number). z.bits == 1) y.is ∙ bit_is ((v at.0).bits == (v k.value.0).bits) ∙ ap (λ (z : Number). (v at.0).bits == z.bits) x.is in
      record { shaped = r.shaped; is = r.is ∙ ap (λ c. if c then numbers_of v xs else numbers_of v ys) test }

  where_case : (b : Bool) (n w d i : ℕ) (at : Id) (xs ys : List Id) (nodes : List Node) → nat_lt i (2 ^ d) ≡ b → HasWidth nodes at d → IsWidth d →
      IsRow nodes n w xs → IsRow nodes n w ys →
      let o = (if b then split_at kinds at d i xs ys else pure ys) nodes in
      Fits inputs v o.nodes → RowIs inputs v o.nodes n w (if (v at.0).bits == i then numbers_of v xs else numbers_of v ys) o.value
  where_case true n w d i at xs ys nodes e a l p q h = split_at_is n w d i at xs ys nodes a l (below e) p q h where
    below : nat_lt i (2 ^ d) ≡ true → i < 2 ^ d
    below e = grind (arith, nat_tests)
  where_case false n w d i at xs ys nodes e a l p q h =
      let wd = h.words at.0 in
      let s : (v at.0).bits < 2 ^ d = subst (λ z. (v at.0).bits < 2 ^ z) (h.widths at.0 d a) wd.fits in
      record { shaped = q; is = ap (λ c. if c then numbers_of v xs else numbers_of v ys) (sym (other i (v at.0).bits (2 ^ d) e s)) } where
        other : (i a m : ℕ) → nat_lt i m ≡ false → a < m → (a == i) ≡ false
        other i a m e s = grind (arith, nat_tests)

  pub where_at_is : (n w d i : ℕ) (at : Id) (xs ys : List Id) (nodes : List Node) → HasWidth nodes at d → IsWidth d → IsRow nodes n w xs → IsRow nodes n w ys →
      Fits inputs v (where_at kinds at d i xs ys nodes).nodes →
      RowIs inputs v (where_at kinds at d i xs ys nodes).nodes n w (if (v at.0).bits == i then numbers_of v xs else numbers_of v ys)
      (where_at kinds at d i xs ys nodes).value
  where_at_is n w d i at xs ys nodes a l p q h = where_case (nat_lt i (2 ^ d)) n w d i at xs ys nodes refl a l p q h
