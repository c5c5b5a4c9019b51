-- What answers are worth as rows, tables and values, under one valuation of the nodes at the end.
use Rattle.std.proofs.Common.{◌≡◌, ◌≤◌, ℕ, Bool, true, false, if◌then◌else◌, List, [], ◌∷◌, map, length, All, refl, sym, ap, ◌∙◌, subst, arith}
use Rattle.std.proofs.lemmas.List.Elements.{All-head}
use Rattle.ygg_value.specs.Number.{Digits, Grid}
use Rattle.ygg_value.specs.Shapes.{IsShape}
use Rattle.ygg_value.specs.declared.row.Value.TheVariants as value
use Rattle.ygg_value.specs.declared.shape.Shape.{Shape}
use Rattle.ygg_value.specs.declared.shape.Shape.TheVariants as shape
use Rattle.ygg_shape_words.specs.ygg_rules.declared.rule.RuleKind.{RuleKind}
use Rattle.ygg_shape_words.specs.ygg_bank.Nodes.{HasWidth, Extends}
use Rattle.ygg_shape_words.specs.ygg_bank.Values.{Inputs, Values, Fits}
use Rattle.ygg_shape_words.specs.ygg_bank.declared.node.Id.{Id}
use Rattle.ygg_shape_words.specs.ygg_bank.declared.node.Node.{Node}
use Rattle.ygg_shape_words.proofs.Picks.{picked_is}
use Rattle.ygg_shape_words.proofs.Terms.{holds}
use Rattle.ygg_shape_cells.proofs.Rows.{merged_row_is}
use Rattle.ygg_shape_cells.proofs.Tables.{merged_rows_is, merged_rows_length}
use Rattle.ygg_shape_cells.proofs.Wider.{row_wider, table_wider, words_in_table}
use Rattle.ygg_shape_cells.specs.Making.{merged, merged_rows}
use Rattle.ygg_shape_cells.specs.Terms.{IsRow, IsTable, HasShape, numbers_of, row_width, row_of, table_width, table_of, words_in, worth}
use Rattle.ygg_shape_cells.specs.declared.terms.SymValue.{SymValue}
use Rattle.ygg_shape_cells.specs.declared.terms.SymValue.TheVariants.{Word, Row, Table}

-- a row of numbers
abbrev pub digits : ℕ → List ℕ → Digits
digits w ns = record { width = w; words = ns }

-- a table of numbers
abbrev pub grid : ℕ → ℕ → List (List ℕ) → Grid
grid w n rows = record { width = w; words = n; rows = rows }

-- a function of one of two is one of what it gives
pub if_of : {X Y : Type 0} (f : X → Y) (c : Bool) (a b : X) → f (if c then a else b) ≡ (if c then f a else f b)
if_of f true a b = refl
if_of f false a b = refl

module _ (inputs : Inputs) (v : Values) (kinds : List RuleKind) where
  pub row_width_is : (nodes : List Node) (n w : ℕ) (row : List Id) → Fits inputs v nodes → IsRow nodes n w row → 1 ≤ n → row_width v row ≡ w
  row_width_is nodes n w [] h p l = absurd (omega (arith, p.count))
  row_width_is nodes n w (a ∷ row) h p l = h.widths a.0 w (All-head (λ (x : Id). HasWidth nodes x w) a row p.wide)

  pub row_worth : (nodes : List Node) (n w : ℕ) (row : List Id) → Fits inputs v nodes → IsRow nodes n w row → 1 ≤ n → row_of v row ≡ digits w (numbers_of v row)
  row_worth nodes n w row h p l = ap (λ z. digits z (numbers_of v row)) (row_width_is nodes n w row h p l)

  pub table_width_is : (nodes : List Node) (n w : ℕ) (table : List (List Id)) → Fits inputs v nodes → IsTable nodes n w table → table_width v table ≡ w
  table_width_is nodes n w [] h p = let l = p.limits in absurd (omega arith)
  table_width_is nodes n w (row ∷ rows) h p = let l = p.limits in row_width_is nodes n w row h (All-head (IsRow nodes n w) row rows p.rows) (omega arith)

  pub table_worth : (nodes : List Node) (n w : ℕ) (table : List (List Id)) → Fits inputs v nodes → IsTable nodes n w table →
      table_of v table ≡ grid w n (map (numbers_of v) table)
  table_worth nodes n w table h p =
      ap (λ z. grid z (words_in table) (map (numbers_of v) table)) (table_width_is nodes n w table h p)
      ∙ ap (λ z. grid w z (map (numbers_of v) table)) (words_in_table nodes table n w p)

  -- a table with as many rows as another keeps the limits as well
  pub table_like : (old new : List Node) (n w : ℕ) (table answer : List (List Id)) → IsTable old n w table → length answer ≡ length table →
      All (IsRow new n w) answer → IsTable new n w answer
  table_like old new n w table answer h e q = record { limits = subst (λ z. IsShape (shape.Table z n w)) (sym e) h.limits; rows = q }

  -- what is merged of two values of a shape has the shape, and is one of them
  pub record MergedIs (s : Shape) (t : Id) (one two : SymValue) (nodes : List Node) (answer : SymValue) : Type 0 where
    pub has : HasShape nodes s answer
    pub is : IsShape s → worth v answer ≡ (if holds inputs v t then worth v one else worth v two)

  merged_words : (w : ℕ) (t : Id) (one two : SymValue) (nodes : List Node) → HasShape nodes (shape.Word w) one → HasShape nodes (shape.Word w) two →
      HasWidth nodes t 1 →
      Fits inputs v (merged kinds t one two nodes).nodes →
      MergedIs (shape.Word w) t one two (merged kinds t one two nodes).nodes (merged kinds t one two nodes).value
  merged_words w t (Word a) (Word b) nodes p q d h =
      let m = picked_is inputs v kinds w t a b nodes d p q h in
      record { has = m.wide; is = λ l. ap value.Word m.is ∙ if_of value.Word (holds inputs v t) (v a.0) (v b.0) }
  merged_words w t (Word a) (Row y) nodes p q d h = absurd q
  merged_words w t (Word a) (Table y) nodes p q d h = absurd q
  merged_words w t (Row x) two nodes p q d h = absurd p
  merged_words w t (Table x) two nodes p q d h = absurd p

  merged_rowed : (n w : ℕ) (t : Id) (one two : SymValue) (nodes : List Node) → HasShape nodes (shape.Row n w) one → HasShape nodes (shape.Row n w) two
      → HasWidth nodes t 1 →
      Extends nodes (merged kinds t one two nodes).nodes → Fits inputs v (merged kinds t one two nodes).nodes →
      MergedIs (shape.Row n w) t one two (merged kinds t one two nodes).nodes (merged kinds t one two nodes).value
  merged_rowed n w t (Row x) (Row y) nodes p q d g h =
      let o = merged kinds t (Row x) (Row y) nodes in
      let c = holds inputs v t in
      let m = merged_row_is inputs v kinds n w t x y nodes d p q h in
      record {
        has = m.shaped;
        is = λ l.
            let some : 1 ≤ n = l.0.0 in
            ap value.Row (row_worth o.nodes n w _ h m.shaped some ∙ ap (digits w) m.is ∙ if_of (digits w) c (numbers_of v x) (numbers_of v y)
            ∙ ap (λ z. if c then z else digits w (numbers_of v y)) (sym (row_worth o.nodes n w x h (row_wider nodes o.nodes n w x g p) some))
            ∙ ap (λ z. if c then row_of v x else z) (sym (row_worth o.nodes n w y h (row_wider nodes o.nodes n w y g q) some)))
            ∙ if_of value.Row c (row_of v x) (row_of v y);
      }
  merged_rowed n w t (Row x) (Word y) nodes p q d g h = absurd q
  merged_rowed n w t (Row x) (Table y) nodes p q d g h = absurd q
  merged_rowed n w t (Word x) two nodes p q d g h = absurd p
  merged_rowed n w t (Table x) two nodes p q d g h = absurd p

  merged_tables : (k n w : ℕ) (t : Id) (one two : SymValue) (nodes : List Node) → HasShape nodes (shape.Table k n w) one →
      HasShape nodes (shape.Table k n w) two → HasWidth nodes t 1 →
      Extends nodes (merged kinds t one two nodes).nodes → Fits inputs v (merged kinds t one two nodes).nodes →
      MergedIs (shape.Table k n w) t one two (merged kinds t one two nodes).nodes (merged kinds t one two nodes).value
  merged_tables k n w t (Table x) (Table y) nodes p q d g h =
      let o = merged_rows kinds t x y nodes in
      let c = holds inputs v t in
      let px = p.1 in let qy = q.1 in
      let m = merged_rows_is inputs v kinds n w t x y nodes d px.rows qy.rows (p.0 ∙ sym q.0) h in
      let size : length o.value ≡ length x = merged_rows_length inputs v kinds t x y nodes (p.0 ∙ sym q.0) in
      let made : IsTable o.nodes n w o.value = table_like nodes o.nodes n w x o.value px size m.rows_are in
      record {
        has = (size ∙ p.0, made);
        is = λ l.
            ap value.Table (table_worth o.nodes n w o.value h made ∙ ap (grid w n) m.is ∙ if_of (grid w n) c (map (numbers_of v) x) (map (numbers_of v) y)
            ∙ ap (λ z. if c then z else grid w n (map (numbers_of v) y)) (sym (table_worth o.nodes n w x h (table_wider nodes o.nodes n w x g px)))
            ∙ ap (λ z. if c then table_of v x else z) (sym (table_worth o.nodes n w y h (table_wider nodes o.nodes n w y g qy))))
            ∙ if_of value.Table c (table_of v x) (table_of v y);
      }
  merged_tables k n w t (Table x) (Word y) nodes p q d g h = absurd q
  merged_tables k n w t (Table x) (Row y) nodes p q d g h = absurd q
  merged_tables k n w t (Word x) two nodes p q d g h = absurd p
  merged_tables k n w t (Row x) two nodes p q d g h = absurd p

  pub merged_is : (s : Shape) (t : Id) (one two : SymValue) (nodes : List Node) → HasShape nodes s one → HasShape nodes s two → HasWidth nodes t 1 →
      Extends nodes (merged kinds t one two nodes).nodes → Fits inputs v (merged kinds t one two nodes).nodes →
      MergedIs s t one two (merged kinds t one two nodes).nodes (merged kinds t one two nodes).value
  merged_is (shape.Word w) t one two nodes p q d g h = merged_words w t one two nodes p q d h
  merged_is (shape.Row n w) t one two nodes p q d g h = merged_rowed n w t one two nodes p q d g h
  merged_is (shape.Table k n w) t one two nodes p q d g h = merged_tables k n w t one two nodes p q d g h
