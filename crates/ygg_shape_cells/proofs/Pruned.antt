-- What the words of a row are where a test is known: the row's shape, and what it is worth, under one valuation of the nodes.
use Rattle.std.proofs.Common.{◌≡◌, ◌<◌, ◌≤◌, ◌+◌, ℕ, suc, Bool, true, List, [], ◌∷◌, ◌++◌, length, get_or, refl, sym, ap, ◌∙◌, subst, arith}
use Rattle.std.proofs.Common.{All}
use Rattle.std.proofs.lemmas.List.Elements.{All-head, All-tail, All-cons, All-push, All-weaker}
use Rattle.ygg_value.specs.Number.{Number}
use Rattle.ygg_shape_words.specs.ygg_rules.declared.rule.RuleKind.{RuleKind}
use Rattle.ygg_shape_words.specs.ygg_bank_proofs_Meaning.{fits_fewer}
use Rattle.ygg_shape_words.specs.ygg_bank_proofs_Widths.{has_width, stands, wider}
use Rattle.ygg_shape_words.specs.ygg_bank.Makes.{Make}
use Rattle.ygg_shape_words.specs.ygg_bank.Nodes.{width_at, widths_of, Stands, Extends}
use Rattle.ygg_shape_words.specs.ygg_bank.Values.{Inputs, Values, Fits}
use Rattle.ygg_shape_words.specs.ygg_bank.declared.node.Id.{Id}
use Rattle.ygg_shape_words.specs.ygg_bank.declared.node.Node.{Node}
use Rattle.ygg_shape_words.proofs.Terms.{holds}
use Rattle.ygg_shape_words.proofs.Givens.{given_grows, given_is}
use Rattle.ygg_shape_words.specs.Giving.{given, SameWidth}
use Rattle.ygg_shape_cells.proofs.Grows.{given_from_grows}
use Rattle.ygg_shape_cells.proofs.Steps.{EachFrom, each_from_value}
use Rattle.ygg_shape_cells.proofs.Wider.{IsWide, all_wider, row_wider}
use Rattle.ygg_shape_cells.specs.Lists.{each_from}
use Rattle.ygg_shape_cells.specs.Making.{merged_row, written_row}
use Rattle.ygg_shape_cells.specs.Pruning.{given_row}
use Rattle.ygg_shape_cells.specs.Terms.{IsRow, RowsAlike, numbers_of}

-- what stands, stands among more nodes
pub stands_more : (old new : List Node) (a : Id) → Extends old new → Stands old a → Stands new a
stands_more old new a g s =
    let w = width_at (widths_of old) a in stands new a w (wider old new a w g (has_width old a s))

-- the words of a row stand
pub row_stands : (nodes : List Node) (n w : ℕ) (row : List Id) → IsRow nodes n w row → All (Stands nodes) row
row_stands nodes n w row h = All-weaker (IsWide nodes w) (Stands nodes) (λ a. stands nodes a w) row h.wide

-- one more word of a row that is pruned
pub pruned_more : (now next : List Node) (w : ℕ) (so_far : List Id) (a word d : Id) (i : ℕ) (row : List Id) (old : List Node) → Extends old now →
    Extends now next → a ≡ get_or row i d → i < length row → SameWidth now a next word → All (IsWide old w) row → All (IsWide now w) so_far →
    All (IsWide next w) (so_far ++ word ∷ [])
pruned_more now next w so_far a word d i row old begun g e l s h k =
    All-push (IsWide next w) so_far word (all_wider now next w so_far g k)
    (s w (wider old now a w begun (subst (IsWide old w) (sym e) (h i d l))))

-- rows of one shape, the first of which was pruned
pub rows_alike_given : (old new : List Node) (one two pruned : List Id) (h : RowsAlike old one two) → Extends old new → IsRow new h.words h.width pruned →
    RowsAlike new pruned two
rows_alike_given old new one two pruned h g p =
    record { words = h.words; width = h.width; one_is = p; two_is = row_wider old new h.words h.width two g h.two_is }

-- a row was pruned, and is merged
pub written_goes : (kinds : List RuleKind) (test met : Id) (one two slice pruned : List Id) (old now : List Node) → slice ≡ pruned →
    pruned ≡ (given_row kinds met true one old).value → now ≡ (given_row kinds met true one old).nodes →
    merged_row kinds test slice two now ≡ written_row kinds test met one two old
written_goes kinds test met one two slice pruned old now e f g =
    ap (λ z. merged_row kinds test slice two z) g
    ∙ ap (λ z. merged_row kinds test z two (given_row kinds met true one old).nodes) (e ∙ f)

-- as many answers as items
each_from_count : {A C : Type 0} (step : ℕ → A → Make C) (i : ℕ) (xs : List A) (nodes : List Node) → length (each_from step i xs nodes).value ≡ length xs
each_from_count step i [] nodes = refl
each_from_count step i (x ∷ xs) nodes = ap suc (each_from_count step (i + 1) xs (step i x nodes).nodes)

-- the row that was made, word by word, has the shape of the row that it was made of
pub shape_of : (step : ℕ → Id → Make Id) (n w : ℕ) (row : List Id) (old : List Node) (i : ℕ) (so_far : List Id) (now : List Node) → length row ≤ i →
    EachFrom step row old i so_far now → IsRow old n w row → All (IsWide now w) so_far → IsRow now n w so_far
shape_of step n w row old i so_far now l s h k =
    record { count = ap length (each_from_value step row old i so_far now l s) ∙ each_from_count step 0 row old ∙ h.count; wide = k }

module _ (inputs : Inputs) (v : Values) (kinds : List RuleKind) (t : Id) (on : Bool) where
  -- words of these widths, and where the test has the value of these numbers
  pub record RowGiven (n w : ℕ) (row : List Id) (nodes : List Node) (answer : List Id) : Type 0 where
    pub shaped : IsRow nodes n w answer
    pub is : holds inputs v t ≡ on → numbers_of v answer ≡ numbers_of v row

  given_from_is : (i n w : ℕ) (row : List Id) (nodes : List Node) → IsRow nodes n w row →
      Fits inputs v (each_from (λ number a. given kinds t on a) i row nodes).nodes →
      RowGiven n w row (each_from (λ number a. given kinds t on a) i row nodes).nodes (each_from (λ number a. given kinds t on a) i row nodes).value
  given_from_is i n w [] nodes p h = record { shaped = p; is = λ e. refl }
  given_from_is i n w (a ∷ row) nodes p h =
      let o = given kinds t on a nodes in
      let g = given_grows kinds t on a nodes in
      let rest = each_from (λ number a. given kinds t on a) (i + 1) row o.nodes in
      let k = given_from_grows kinds t on (i + 1) row o.nodes in
      let m = given_is inputs v kinds t on a w nodes (All-head (IsWide nodes w) a row p.wide) (fits_fewer inputs v o.nodes rest.nodes k h) in
      let tail : IsRow o.nodes (length row) w row = record { count = refl; wide = all_wider nodes o.nodes w row g (All-tail (IsWide nodes w) a row p.wide) } in
      let r = given_from_is (i + 1) (length row) w row o.nodes tail h in
      record {
        shaped = record {
          count = omega (arith, r.shaped.count, p.count);
          wide = All-cons (IsWide rest.nodes w) o.value rest.value (wider o.nodes rest.nodes o.value w k m.wide) r.shaped.wide;
        };
        is = λ e. ap (λ (z : Number). z.bits ∷ numbers_of v rest.value) (m.is e) ∙ ap (λ z. (v a.0).bits ∷ z) (r.is e);
      }

  -- the row keeps its shape and, where the test has the value, its numbers
  pub given_row_is : (n w : ℕ) (row : List Id) (nodes : List Node) → IsRow nodes n w row → Fits inputs v (given_row kinds t on row nodes).nodes →
      RowGiven n w row (given_row kinds t on row nodes).nodes (given_row kinds t on row nodes).value
  given_row_is n w row nodes p h = given_from_is 0 n w row nodes p h
