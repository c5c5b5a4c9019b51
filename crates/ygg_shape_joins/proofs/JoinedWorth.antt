-- What joined rows, tables and values are worth, and their shapes, under one valuation of the nodes at the end.
use Rattle.std.proofs.Common.{◌≡◌, ◌≤◌, ℕ, if◌then◌else◌, List, [], ◌∷◌, map, length, All, refl, sym, ap, ◌∙◌, arith}
use Rattle.std.proofs.lemmas.List.Elements.{All-head, All-tail, All-cons}
use Rattle.ygg_value.specs.Number.{Number}
use Rattle.ygg_value.specs.Shapes.{IsShape}
use Rattle.ygg_value.specs.declared.row.Value.TheVariants as value
use Rattle.ygg_value.specs.declared.shape.Shape.{Shape}
use Rattle.ygg_value.specs.declared.shape.Shape.TheVariants as shape
use Rattle.ygg_shape_words.specs.ygg_rules.declared.rule.RuleKind.{RuleKind}
use Rattle.ygg_shape_words.specs.ygg_bank_proofs_Meaning.{fits_fewer}
use Rattle.ygg_shape_words.specs.ygg_bank_proofs_Widths.{wider}
use Rattle.ygg_shape_words.specs.ygg_bank.Nodes.{HasWidth, Extends}
use Rattle.ygg_shape_words.specs.ygg_bank.Values.{Inputs, Values, Fits}
use Rattle.ygg_shape_words.specs.ygg_bank.declared.node.Id.{Id}
use Rattle.ygg_shape_words.specs.ygg_bank.declared.node.Node.{Node}
use Rattle.ygg_shape_words.proofs.Terms.{holds, either, number_if}
use Rattle.ygg_shape_cells.proofs.Makers.{ValueIs}
use Rattle.ygg_shape_cells.proofs.Rows.{RowIs}
use Rattle.ygg_shape_cells.proofs.Tables.{RowsAre, rows_tail}
use Rattle.ygg_shape_cells.proofs.Wider.{IsWide, all_wider, row_wider, table_wider}
use Rattle.ygg_shape_cells.proofs.Words.{row_if}
use Rattle.ygg_shape_cells.proofs.Worth.{digits, grid, if_of, row_worth, table_worth, table_like}
use Rattle.ygg_shape_cells.specs.Terms.{IsRow, IsTable, HasShape, IsShaped, numbers_of, row_of, table_of, worth}
use Rattle.ygg_shape_cells.specs.declared.terms.SymValue.{SymValue}
use Rattle.ygg_shape_cells.specs.declared.terms.SymValue.TheVariants.{Word, Row, Table}
use Rattle.ygg_shape_joins.proofs.Joins.{joined_word_is, joined_word_grows, joined_row_grows, joined_rows_grows, joined_grows}
use Rattle.ygg_shape_joins.specs.Joining.{joined_word, joined_row, joined_rows, joined}

module _ (inputs : Inputs) (v : Values) (kinds : List RuleKind) where
  -- a row without its first word
  row_tail : (old new : List Node) (n m w : ℕ) (x : Id) (xs : List Id) → Extends old new → IsRow old n w (x ∷ xs) → length xs ≡ m → IsRow new m w xs
  row_tail old new n m w x xs g h e = record { count = e; wide = all_wider old new w xs g (All-tail (IsWide old w) x xs h.wide) }

  row_head : (nodes : List Node) (n w : ℕ) (x : Id) (xs : List Id) → IsRow nodes n w (x ∷ xs) → HasWidth nodes x w
  row_head nodes n w x xs h = All-head (IsWide nodes w) x xs h.wide

  pub joined_row_is : (n w : ℕ) (t : Id) (xs ys : List Id) (nodes : List Node) → HasWidth nodes t 1 → IsRow nodes n w xs → IsRow nodes n w ys →
      Fits inputs v (joined_row kinds t xs ys nodes).nodes →
      RowIs inputs v (joined_row kinds t xs ys nodes).nodes n w (if holds inputs v t then numbers_of v xs else numbers_of v ys)
      (joined_row kinds t xs ys nodes).value
  joined_row_is n w t [] [] nodes d p q h = record { shaped = p; is = either (holds inputs v t) [] }
  joined_row_is n w t [] (y ∷ ys) nodes d p q h = absurd (omega (arith, p.count, q.count))
  joined_row_is n w t (x ∷ xs) [] nodes d p q h = absurd (omega (arith, p.count, q.count))
  joined_row_is n w t (x ∷ xs) (y ∷ ys) nodes d p q h =
      let o = joined_word kinds t x y nodes in
      let g = joined_word_grows kinds t x y nodes in
      let rest = joined_row kinds t xs ys o.nodes in
      let k = joined_row_grows kinds t xs ys o.nodes in
      let a = joined_word_is inputs v kinds w t x y nodes d (row_head nodes n w x xs p) (row_head nodes n w y ys q) (fits_fewer inputs v o.nodes rest.nodes k h) in
      let r = joined_row_is (length xs) w t xs ys o.nodes (wider nodes o.nodes t 1 g d) (row_tail nodes o.nodes n (length xs) w x xs g p refl)
      (row_tail nodes o.nodes n (length xs) w y ys g q (omega (arith, p.count, q.count))) h in
      let tail = r.shaped in
      record {
        shaped = record {
          count = omega (arith, tail.count, p.count);
          wide = All-cons (IsWide rest.nodes w) o.value rest.value (wider o.nodes rest.nodes o.value w k a.wide) tail.wide;
        };
        is = ap (λ z. z ∷ numbers_of v rest.value) (ap (λ (z : Number). z.bits) a.is ∙ number_if (holds inputs v t) (v x.0) (v y.0))
            ∙ ap (λ z. (if holds inputs v t then (v x.0).bits else (v y.0).bits) ∷ z) r.is
            ∙ row_if (holds inputs v t) (v x.0).bits (v y.0).bits (numbers_of v xs) (numbers_of v ys);
      }

  pub joined_rows_is : (n w : ℕ) (t : Id) (xs ys : List (List Id)) (nodes : List Node) → HasWidth nodes t 1 → All (IsRow nodes n w) xs →
      All (IsRow nodes n w) ys →
      length xs ≡ length ys → Fits inputs v (joined_rows kinds t xs ys nodes).nodes →
      RowsAre inputs v (joined_rows kinds t xs ys nodes).nodes n w (if holds inputs v t then map (numbers_of v) xs else map (numbers_of v) ys)
      (joined_rows kinds t xs ys nodes).value
  joined_rows_is n w t [] [] nodes d p q e h = record { rows_are = p; is = either (holds inputs v t) [] }
  joined_rows_is n w t [] (y ∷ ys) nodes d p q e h = absurd (omega (arith, e))
  joined_rows_is n w t (x ∷ xs) [] nodes d p q e h = absurd (omega (arith, e))
  joined_rows_is n w t (x ∷ xs) (y ∷ ys) nodes d p q e h =
      let o = joined_row kinds t x y nodes in
      let g = joined_row_grows kinds t x y nodes in
      let rest = joined_rows kinds t xs ys o.nodes in
      let k = joined_rows_grows kinds t xs ys o.nodes in
      let c = holds inputs v t in
      let a = joined_row_is n w t x y nodes d (All-head (IsRow nodes n w) x xs p) (All-head (IsRow nodes n w) y ys q)
      (fits_fewer inputs v o.nodes rest.nodes k h) in
      let r = joined_rows_is n w t xs ys o.nodes (wider nodes o.nodes t 1 g d) (rows_tail inputs v kinds nodes o.nodes n w x xs g p)
      (rows_tail inputs v kinds nodes o.nodes n w y ys g q) (omega (arith, e)) h in
      record {
        rows_are = All-cons (IsRow rest.nodes n w) o.value rest.value (row_wider o.nodes rest.nodes n w o.value k a.shaped) r.rows_are;
        is = ap (λ z. z ∷ map (numbers_of v) rest.value) a.is ∙ ap (λ z. (if c then numbers_of v x else numbers_of v y) ∷ z) r.is
            ∙ row_if c (numbers_of v x) (numbers_of v y) (map (numbers_of v) xs) (map (numbers_of v) ys);
      }

  pub joined_rows_length : (t : Id) (xs ys : List (List Id)) (nodes : List Node) → length xs ≡ length ys →
      length (joined_rows kinds t xs ys nodes).value ≡ length xs
  joined_rows_length t [] [] nodes e = refl
  joined_rows_length t [] (y ∷ ys) nodes e = absurd (omega (arith, e))
  joined_rows_length t (x ∷ xs) [] nodes e = absurd (omega (arith, e))
  joined_rows_length t (x ∷ xs) (y ∷ ys) nodes e = omega (arith, joined_rows_length t xs ys (joined_row kinds t x y nodes).nodes (omega (arith, e)))

  -- what is joined of two values of a shape has the shape, and is one of them
  pub record JoinedIs (s : Shape) (t : Id) (one two : SymValue) (nodes : List Node) (answer : SymValue) : Type 0 where
    pub has : HasShape nodes s answer
    pub is : IsShape s → worth v answer ≡ (if holds inputs v t then worth v one else worth v two)

  joined_words : (w : ℕ) (t : Id) (one two : SymValue) (nodes : List Node) → HasShape nodes (shape.Word w) one → HasShape nodes (shape.Word w) two →
      HasWidth nodes t 1 →
      Fits inputs v (joined kinds t one two nodes).nodes →
      JoinedIs (shape.Word w) t one two (joined kinds t one two nodes).nodes (joined kinds t one two nodes).value
  joined_words w t (Word a) (Word b) nodes p q d h =
      let m = joined_word_is inputs v kinds w t a b nodes d p q h in
      record { has = m.wide; is = λ l. ap value.Word m.is ∙ if_of value.Word (holds inputs v t) (v a.0) (v b.0) }
  joined_words w t (Word a) (Row y) nodes p q d h = absurd q
  joined_words w t (Word a) (Table y) nodes p q d h = absurd q
  joined_words w t (Row x) two nodes p q d h = absurd p
  joined_words w t (Table x) two nodes p q d h = absurd p

  joined_rowed : (n w : ℕ) (t : Id) (one two : SymValue) (nodes : List Node) → HasShape nodes (shape.Row n w) one → HasShape nodes (shape.Row n w) two
      → HasWidth nodes t 1 →
      Extends nodes (joined kinds t one two nodes).nodes → Fits inputs v (joined kinds t one two nodes).nodes →
      JoinedIs (shape.Row n w) t one two (joined kinds t one two nodes).nodes (joined kinds t one two nodes).value
  joined_rowed n w t (Row x) (Row y) nodes p q d g h =
      let o = joined kinds t (Row x) (Row y) nodes in
      let c = holds inputs v t in
      let m = joined_row_is n w t x y nodes d p q h in
      record {
        has = m.shaped;
        is = λ l.
            let some : 1 ≤ n = l.0.0 in
            ap value.Row (row_worth inputs v kinds o.nodes n w _ h m.shaped some ∙ ap (digits w) m.is ∙ if_of (digits w) c (numbers_of v x) (numbers_of v y)
            ∙ ap (λ z. if c then z else digits w (numbers_of v y)) (sym (row_worth inputs v kinds o.nodes n w x h (row_wider nodes o.nodes n w x g p) some))
            ∙ ap (λ z. if c then row_of v x else z) (sym (row_worth inputs v kinds o.nodes n w y h (row_wider nodes o.nodes n w y g q) some)))
            ∙ if_of value.Row c (row_of v x) (row_of v y);
      }
  joined_rowed n w t (Row x) (Word y) nodes p q d g h = absurd q
  joined_rowed n w t (Row x) (Table y) nodes p q d g h = absurd q
  joined_rowed n w t (Word x) two nodes p q d g h = absurd p
  joined_rowed n w t (Table x) two nodes p q d g h = absurd p

  joined_tables : (k n w : ℕ) (t : Id) (one two : SymValue) (nodes : List Node) → HasShape nodes (shape.Table k n w) one →
      HasShape nodes (shape.Table k n w) two → HasWidth nodes t 1 →
      Extends nodes (joined kinds t one two nodes).nodes → Fits inputs v (joined kinds t one two nodes).nodes →
      JoinedIs (shape.Table k n w) t one two (joined kinds t one two nodes).nodes (joined kinds t one two nodes).value
  joined_tables k n w t (Table x) (Table y) nodes p q d g h =
      let o = joined_rows kinds t x y nodes in
      let c = holds inputs v t in
      let px = p.1 in let qy = q.1 in
      let m = joined_rows_is n w t x y nodes d px.rows qy.rows (p.0 ∙ sym q.0) h in
      let size : length o.value ≡ length x = joined_rows_length t x y nodes (p.0 ∙ sym q.0) in
      let made : IsTable o.nodes n w o.value = table_like inputs v kinds nodes o.nodes n w x o.value px size m.rows_are in
      record {
        has = (size ∙ p.0, made);
        is = λ l.
            ap value.Table (table_worth inputs v kinds o.nodes n w o.value h made ∙ ap (grid w n) m.is ∙ if_of (grid w n) c (map (numbers_of v) x) (map (numbers_of v) y)
            ∙ ap (λ z. if c then z else grid w n (map (numbers_of v) y)) (sym (table_worth inputs v kinds o.nodes n w x h (table_wider nodes o.nodes n w x g px)))
            ∙ ap (λ z. if c then table_of v x else z) (sym (table_worth inputs v kinds o.nodes n w y h (table_wider nodes o.nodes n w y g qy))))
            ∙ if_of value.Table c (table_of v x) (table_of v y);
      }
  joined_tables k n w t (Table x) (Word y) nodes p q d g h = absurd q
  joined_tables k n w t (Table x) (Row y) nodes p q d g h = absurd q
  joined_tables k n w t (Word x) two nodes p q d g h = absurd p
  joined_tables k n w t (Row x) two nodes p q d g h = absurd p

  pub joined_is : (s : Shape) (t : Id) (one two : SymValue) (nodes : List Node) → HasShape nodes s one → HasShape nodes s two → HasWidth nodes t 1 →
      Extends nodes (joined kinds t one two nodes).nodes → Fits inputs v (joined kinds t one two nodes).nodes →
      JoinedIs s t one two (joined kinds t one two nodes).nodes (joined kinds t one two nodes).value
  joined_is (shape.Word w) t one two nodes p q d g h = joined_words w t one two nodes p q d h
  joined_is (shape.Row n w) t one two nodes p q d g h = joined_rowed n w t one two nodes p q d g h
  joined_is (shape.Table k n w) t one two nodes p q d g h = joined_tables k n w t one two nodes p q d g h

  pub joined_gives : (s : Shape) (t : Id) (a b : SymValue) (nodes : List Node) → HasWidth nodes t 1 → IsShaped nodes s a → IsShaped nodes s b →
      Fits inputs v (joined kinds t a b nodes).nodes →
      ValueIs inputs v (joined kinds t a b nodes).nodes s (if holds inputs v t then worth v a else worth v b) (joined kinds t a b nodes).value
  joined_gives s t a b nodes d p q h =
      let m = joined_is s t a b nodes p.has q.has d (joined_grows kinds t a b nodes) h in
      record { shaped = record { limits = p.limits; has = m.has }; is = m.is p.limits }
