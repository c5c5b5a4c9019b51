-- What a function answers that hands on what its calls answered.
use Rattle.std.proofs.Common.{◌≡◌, ◌+◌, ◌-◌, ◌*◌, ◌<◌, ◌≤◌, ℕ, suc, Bool, true, false, if◌then◌else◌, Option, Some, None, Result, Ok, Err, OnOk, IfOk, List, [], ◌∷◌}
use Rattle.std.proofs.Common.{◌++◌, length, get_or, map, take, sym, ap, ◌∙◌, subst, arith, refl, slice_get, replicate, All}
use Rattle.std.proofs.Math.Nat.{suc-mul, mul-le-mul_right}
use Rattle.std.proofs.lemmas.List.Elements.{All-replicate}
use Rattle.std.proofs.lemmas.List.{take_more, map-append, length-replicate}
use Rattle.ygg_value.specs.Number.{Number}
use Rattle.ygg_value.specs.Words.{word}
use Rattle.ygg_value.specs.declared.operation.Op.TheVariants.{And}
use Rattle.ygg_shape_words.specs.ygg_rules.declared.rule.RuleKind.{RuleKind}
use Rattle.ygg_shape_words.specs.ygg_bank.Makes.{Make, Out, pure, goes_on, and_make}
use Rattle.ygg_shape_words.specs.ygg_bank.Making.{made, known_in}
use Rattle.ygg_shape_words.specs.ygg_bank.Nodes.{width_at, widths_of, HasWidth}
use Rattle.ygg_shape_words.specs.ygg_bank.declared.node.Id.{Id}
use Rattle.ygg_shape_words.specs.ygg_bank.declared.node.Node.{Node}
use Rattle.ygg_shape_words.specs.ygg_bank.declared.node.Node.TheVariants.{Const, Bin, Pick}
use Rattle.ygg_shape_words.specs.Same.{same_words}
use Rattle.ygg_shape_cells.specs.Guarding.{guarded_split, guarded_from, stored_where, stored_where_at}
use Rattle.ygg_shape_cells.specs.Making.{merged, merged_row, written_row, split_at, zeros, chosen, selected, selected_at}
use Rattle.ygg_shape_cells.specs.Making.{selected_by_number, selected_within, stored, width_in}
use Rattle.ygg_shape_cells.specs.RowPlaces.{first, single, singles, word_selected, word_stored}
use Rattle.ygg_shape_cells.specs.Terms.{IsRow, words_in}
use Rattle.ygg_shape_cells.specs.declared.terms.SymValue.{SymValue}
use Rattle.ygg_shape_cells.specs.declared.terms.SymValue.TheVariants.{Word, Row, Table}
use Rattle.ygg_shape_cells.proofs.Selected.{within_node}
use Rattle.ygg_shape_cells.proofs.Singles.{first_is}

-- a row that lies within ends within
pub row_ends : (at rows words : ℕ) → at < rows → at * words + words ≤ rows * words
row_ends at rows words h =
    let more : suc at * words ≤ rows * words = mul-le-mul_right words h in
    omega (arith, suc-mul at words)

-- the step that goes on from what was answered
pub goes : {A B : Type 0} (o : Out A) (a : A) (n : List Node) (next : A → Make B) → a ≡ o.value → n ≡ o.nodes → next a n ≡ goes_on o next
goes o a n next e f = ap (λ z. next z n) e ∙ ap (next o.value) f

-- what holds whatever the call answered
pub on_all : {A E X : Type 0} (r : Result A E) → X → OnOk r X
on_all (Ok a) x = x
on_all (Err e) x = tt

-- what one of two steps leaves and answers, as a test says
module _ {A E : Type 0} (b : Bool) (f : Make A) (two : A) (old new : List Node) (r : Result A E) where
  pub then_nodes : true ≡ b → OnOk r (new ≡ (f old).nodes) → OnOk r (new ≡ ((if b then f else pure two) old).nodes)
  then_nodes e h = subst (λ z. OnOk r (new ≡ ((if z then f else pure two) old).nodes)) e h

  pub then_form : true ≡ b → IfOk r (λ a. a ≡ (f old).value) → IfOk r (λ a. a ≡ ((if b then f else pure two) old).value)
  then_form e h = subst (λ z. IfOk r (λ a. a ≡ ((if z then f else pure two) old).value)) e h

  pub else_nodes : false ≡ b → OnOk r (old ≡ ((if b then f else pure two) old).nodes)
  else_nodes e = subst (λ z. OnOk r (old ≡ ((if z then f else pure two) old).nodes)) e (on_all r refl)

  pub else_form : false ≡ b → IfOk r (λ a. a ≡ two) → IfOk r (λ a. a ≡ ((if b then f else pure two) old).value)
  else_form e h = subst (λ z. IfOk r (λ a. a ≡ ((if z then f else pure two) old).value)) e h

module _ (kinds : List RuleKind) where
  -- values that are made of such parts
  pub merged_as : (t : Id) (one two x y : SymValue) (old : List Node) → one ≡ x → two ≡ y → merged kinds t x y old ≡ merged kinds t one two old
  merged_as t one two x y old e f = ap (λ z. merged kinds t z y old) (sym e) ∙ ap (λ z. merged kinds t one z old) (sym f)

  pub merged_nodes : (t : Id) (one two x y : SymValue) (old new : List Node) → one ≡ x → two ≡ y → new ≡ (merged kinds t x y old).nodes →
      new ≡ (merged kinds t one two old).nodes
  merged_nodes t one two x y old new e f h = h ∙ ap (λ o. o.nodes) (merged_as t one two x y old e f)

  pub merged_form : (t : Id) (one two x y answer : SymValue) (old : List Node) → one ≡ x → two ≡ y → answer ≡ (merged kinds t x y old).value →
      answer ≡ (merged kinds t one two old).value
  merged_form t one two x y answer old e f h = h ∙ ap (λ o. o.value) (merged_as t one two x y old e f)

  -- of unlike values nothing is merged
  pub unlike_words : (t : Id) (one two : SymValue) (a : Id) (old : List Node) → one ≡ Word a → ((b : Id) → two ≡ Word b → ⊥) →
      merged kinds t one two old ≡ pure one old
  unlike_words t one (Word b) a old e n = absurd (n b refl)
  unlike_words t one (Row b) a old e n = subst (λ z. merged kinds t z (Row b) old ≡ pure z old) (sym e) refl
  unlike_words t one (Table b) a old e n = subst (λ z. merged kinds t z (Table b) old ≡ pure z old) (sym e) refl

  pub unlike_rows : (t : Id) (one two : SymValue) (a : List Id) (old : List Node) → one ≡ Row a → ((b : List Id) → two ≡ Row b → ⊥) →
      merged kinds t one two old ≡ pure one old
  unlike_rows t one (Word b) a old e n = subst (λ z. merged kinds t z (Word b) old ≡ pure z old) (sym e) refl
  unlike_rows t one (Row b) a old e n = absurd (n b refl)
  unlike_rows t one (Table b) a old e n = subst (λ z. merged kinds t z (Table b) old ≡ pure z old) (sym e) refl

  pub unlike_tables : (t : Id) (one two : SymValue) (a : List (List Id)) (old : List Node) → one ≡ Table a → ((b : List (List Id)) → two ≡ Table b → ⊥) →
      merged kinds t one two old ≡ pure one old
  unlike_tables t one (Word b) a old e n = subst (λ z. merged kinds t z (Word b) old ≡ pure z old) (sym e) refl
  unlike_tables t one (Row b) a old e n = subst (λ z. merged kinds t z (Row b) old ≡ pure z old) (sym e) refl
  unlike_tables t one (Table b) a old e n = absurd (n b refl)

  -- a comparison with a number, and what is made with its answer
  pub split_goes : (at : Id) (w number : ℕ) (one two : List Id) (k test : Id) (old made_first compared : List Node) →
      k ≡ (made kinds (Const (word w number)) old).value → made_first ≡ (made kinds (Const (word w number)) old).nodes →
      test ≡ (same_words kinds at k made_first).value → compared ≡ (same_words kinds at k made_first).nodes →
      written_row kinds test test one two compared ≡ split_at kinds at w number one two old
  split_goes at w number one two k test old made_first compared e f g h =
      goes (same_words kinds at k made_first) test compared (λ test. written_row kinds test test one two) g h
      ∙ goes (made kinds (Const (word w number)) old) k made_first (λ k. and_make (same_words kinds at k) (λ test. written_row kinds test test one two)) e f

  pub guarded_goes : (t at : Id) (w number : ℕ) (one two : List Id) (k there both : Id) (old made_first compared joined : List Node) →
      k ≡ (made kinds (Const (word w number)) old).value → made_first ≡ (made kinds (Const (word w number)) old).nodes →
      there ≡ (same_words kinds at k made_first).value → compared ≡ (same_words kinds at k made_first).nodes →
      both ≡ (made kinds (Bin And t there) compared).value → joined ≡ (made kinds (Bin And t there) compared).nodes →
      written_row kinds both there one two joined ≡ guarded_split kinds t at w number one two old
  guarded_goes t at w number one two k there both old made_first compared joined e f g h p q =
      goes (made kinds (Bin And t there) compared) both joined (λ both. written_row kinds both there one two) p q
      ∙ goes (same_words kinds at k made_first) there compared
      (λ there. and_make (made kinds (Bin And t there)) (λ both. written_row kinds both there one two)) g h
      ∙ goes (made kinds (Const (word w number)) old) k made_first
      (λ k. and_make (same_words kinds at k) (λ there. and_make (made kinds (Bin And t there)) (λ both. written_row kinds both there one two))) e f

  -- the row at a place that is known to be this number, or not known
  pub selected_as : (table : List (List Id)) (at : Id) (old : List Node) (o : Option Number) → known_in (slice_get old at.0) ≡ o →
      selected_at kinds table (width_in old table) at (width_at (widths_of old) at) o old ≡ selected_by_number kinds table at old
  selected_as table at old o e = ap (λ z. selected_at kinds table (width_in old table) at (width_at (widths_of old) at) z old) (sym e)

  pub chosen_goes : (table : List (List Id)) (at : Id) (w : ℕ) (past : List Id) (old made_first : List Node) → known_in (slice_get old at.0) ≡ None →
      w ≡ width_at (widths_of old) at → past ≡ (zeros kinds (words_in table) (width_in old table) old).value →
      made_first ≡ (zeros kinds (words_in table) (width_in old table) old).nodes →
      chosen kinds at w past 0 table made_first ≡ selected_by_number kinds table at old
  chosen_goes table at w past old made_first n e f g =
      ap (λ z. chosen kinds at z past 0 table made_first) e
      ∙ goes (zeros kinds (words_in table) (width_in old table) old) past made_first (λ past. chosen kinds at (width_at (widths_of old) at) past 0 table) f g
      ∙ selected_as table at old None n

  -- rows at two places, and the one that is picked of them
  pub rows_picked : (table : List (List Id)) (depth : ℕ) (at t x y : Id) (xs ys one two : List Id) (old first second : List Node) → 0 < depth →
      slice_get old at.0 ≡ Some (Pick t x y) → xs ≡ one → ys ≡ two → one ≡ (selected_within kinds table (depth - 1) x old).value →
      first ≡ (selected_within kinds table (depth - 1) x old).nodes → two ≡ (selected_within kinds table (depth - 1) y first).value →
      second ≡ (selected_within kinds table (depth - 1) y first).nodes → merged_row kinds t xs ys second ≡ selected_within kinds table depth at old
  rows_picked table depth at t x y xs ys one two old first second l n a b e f g h =
      let step = selected_within kinds table (depth - 1) in
      goes (step y first) ys second (λ two. merged_row kinds t xs two) (b ∙ g) h
      ∙ goes (step x old) xs first (λ one. and_make (step y) (λ two. merged_row kinds t one two)) (a ∙ e) f
      ∙ within_node kinds table depth at (Pick t x y) old l n

  pub stored_where_as : (t : Id) (table : List (List Id)) (at : Id) (row : List Id) (old : List Node) (o : Option Number) →
      known_in (slice_get old at.0) ≡ o →
      stored_where_at kinds t table row at (width_at (widths_of old) at) o old ≡ stored_where kinds t table at row old
  stored_where_as t table at row old o e = ap (λ z. stored_where_at kinds t table row at (width_at (widths_of old) at) z old) (sym e)

  pub stored_unknown : (t : Id) (table rows : List (List Id)) (at : Id) (row new : List Id) (w : ℕ) (old : List Node) →
      known_in (slice_get old at.0) ≡ None → w ≡ width_at (widths_of old) at → rows ≡ table → new ≡ row →
      guarded_from kinds t at w new 0 rows old ≡ stored_where kinds t table at row old
  stored_unknown t table rows at row new w old n e f h =
      let wide = width_at (widths_of old) at in
      ap (λ z. guarded_from kinds t at z new 0 rows old) e ∙ ap (λ z. guarded_from kinds t at wide new 0 z old) f
      ∙ ap (λ z. guarded_from kinds t at wide z 0 table old) h ∙ stored_where_as t table at row old None n

  -- rows as tables of one word a row
  pub read_form : (row words answer : List Id) (table : List (List Id)) (at : Id) (old : List Node) → table ≡ singles row → words ≡ answer →
      answer ≡ (selected kinds table at old).value → get_or words 0 (record { 0 = 0 }) ≡ (word_selected kinds row at old).value
  read_form row words answer table at old e f h =
      sym (first_is words) ∙ ap first (f ∙ h ∙ ap (λ z. (selected kinds z at old).value) e)

  pub stored_as : (row one : List Id) (table : List (List Id)) (at w : Id) (old : List Node) → table ≡ singles row → one ≡ single w →
      stored kinds table at one old ≡ stored kinds (singles row) at (single w) old
  stored_as row one table at w old e f = ap (λ z. stored kinds z at one old) e ∙ ap (λ z. stored kinds (singles row) at z old) f

  pub write_form : {E : Type 0} (row one : List Id) (table answer rows : List (List Id)) (at w : Id) (old : List Node) (r : Result (List Id) E) →
      table ≡ singles row → one ≡ single w → rows ≡ answer → answer ≡ (stored kinds table at one old).value → IfOk r (λ a. a ≡ map first rows) →
      IfOk r (λ a. a ≡ (word_stored kinds row at w old).value)
  write_form row one table answer rows at w old (Ok a) e f g h k = k ∙ ap (map first) (g ∙ h ∙ ap (λ o. o.value) (stored_as row one table at w old e f))
  write_form row one table answer rows at w old (Err n) e f g h k = tt

-- a row of one word many times
pub repeated_row : (nodes : List Node) (n w k : ℕ) (row : List Id) (a : Id) → row ≡ replicate k a → k ≡ n → HasWidth nodes a w → IsRow nodes n w row
repeated_row nodes n w k row a e f h = record {
  count = ap length e ∙ length-replicate k a ∙ f;
  wide = subst (All (λ a. HasWidth nodes a w)) (sym e) (All-replicate (λ a. HasWidth nodes a w) k a h);
}

-- one more first word
pub firsts_more : (table : List (List Id)) (i : ℕ) (x words so_far row : List Id) → i < length table → x ≡ get_or table i x → words ≡ x →
    so_far ≡ map first (take i table) → row ≡ so_far ++ get_or words 0 (record { 0 = 0 }) ∷ [] → row ≡ map first (take (i + 1) table)
firsts_more table i x words so_far row l e f s r =
    r ∙ ap (λ z. z ++ get_or words 0 (record { 0 = 0 }) ∷ []) s
    ∙ ap (λ z. map first (take i table) ++ z ∷ []) (sym (first_is words) ∙ ap first (f ∙ e))
    ∙ sym (map-append first (take i table) (get_or table i x ∷ [])) ∙ ap (map first) (sym (take_more table i x l))
