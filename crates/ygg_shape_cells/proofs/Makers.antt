-- What makers are worth, by one form: under words that fit the nodes after a maker, its answer has a shape and a value.
use Rattle.std.proofs.Common.{◌≡◌, ℕ, if◌then◌else◌, List, [], ◌∷◌, length, sym, ap, ◌∙◌, arith}
use Rattle.ygg_value.specs.Number.{Grid, Digits}
use Rattle.ygg_value.specs.Shapes.{IsShape}
use Rattle.ygg_value.specs.Values.{row_read, row_write, table_read, table_write}
use Rattle.ygg_value.specs.declared.row.Value.{Value}
use Rattle.ygg_value.specs.declared.row.Value.TheVariants as value
use Rattle.ygg_value.specs.declared.shape.Shape.{Shape}
use Rattle.ygg_value.specs.declared.shape.Shape.TheVariants as shape
use Rattle.ygg_shape_words.specs.ygg_rules.declared.rule.RuleKind.{RuleKind}
use Rattle.ygg_shape_words.specs.ygg_bank_proofs_Meaning.{fits_fewer}
use Rattle.ygg_shape_words.specs.ygg_bank.Nodes.{HasWidth, Stands}
use Rattle.ygg_shape_words.specs.ygg_bank.Values.{Inputs, Values, Fits}
use Rattle.ygg_shape_words.specs.ygg_bank.declared.node.Id.{Id}
use Rattle.ygg_shape_words.specs.ygg_bank.declared.node.Node.{Node}
use Rattle.ygg_shape_words.proofs.Terms.{TermIs, holds}
use Rattle.ygg_shape_cells.proofs.Wider.{table_wider}
use Rattle.ygg_shape_cells.specs.Making.{merged, selected, stored}
use Rattle.ygg_shape_cells.specs.Terms.{IsRow, IsTable, IsShaped, row_of, table_of, worth}
use Rattle.ygg_shape_cells.specs.declared.terms.SymValue.{SymValue}
use Rattle.ygg_shape_cells.specs.declared.terms.SymValue.TheVariants.{Row, Table}
use Rattle.ygg_shape_cells.proofs.Answered.{selected_row, read_is, stored_rows, stored_size}
use Rattle.ygg_shape_cells.proofs.Grows.{merged_grows, selected_grows, stored_grows, stored_where_grows}
use Rattle.ygg_shape_cells.proofs.Guarded.{rows_where, where_size, where_is}
use Rattle.ygg_shape_cells.proofs.Singles.{single_table, single_row, singles_count, read_is as word_is, write_is, counts, firsts_row}
use Rattle.ygg_shape_cells.proofs.Worth.{grid, table_worth, table_like, merged_is}
use Rattle.ygg_shape_cells.specs.Guarding.{stored_where}
use Rattle.ygg_shape_cells.specs.RowPlaces.{single, singles, first, RowStands, word_selected, word_stored}

module _ (inputs : Inputs) (v : Values) where
  -- a value of this shape that is worth this
  pub record ValueIs (nodes : List Node) (s : Shape) (want : Value) (x : SymValue) : Type 0 where
    pub shaped : IsShaped nodes s x
    pub is : worth v x ≡ want

module _ (inputs : Inputs) (v : Values) (kinds : List RuleKind) where
  pub merged_gives : (s : Shape) (t : Id) (a b : SymValue) (nodes : List Node) → HasWidth nodes t 1 → IsShaped nodes s a → IsShaped nodes s b →
      Fits inputs v (merged kinds t a b nodes).nodes →
      ValueIs inputs v (merged kinds t a b nodes).nodes s (if holds inputs v t then worth v a else worth v b) (merged kinds t a b nodes).value
  merged_gives s t a b nodes d p q h =
      let m = merged_is inputs v kinds s t a b nodes p.has q.has d (merged_grows kinds t a b nodes) h in
      record { shaped = record { limits = p.limits; has = m.has }; is = m.is p.limits }

  -- reading and writing a table
  pub selected_gives : (n w : ℕ) (table : List (List Id)) (at : Id) (nodes : List Node) → IsTable nodes n w table → Stands nodes at →
      Fits inputs v (selected kinds table at nodes).nodes →
      ValueIs inputs v (selected kinds table at nodes).nodes (shape.Row n w) (value.Row (table_read (table_of v table) (v at.0).bits))
      (Row (selected kinds table at nodes).value)
  selected_gives n w table at nodes p s h =
      let o = selected kinds table at nodes in
      let g = selected_grows kinds table at nodes in
      let f = fits_fewer inputs v nodes o.nodes g h in
      let m = selected_row inputs v kinds n w table at nodes f.ordered s p h in
      let l = p.limits in
      record {
        shaped = record { limits = (l.1, l.2); has = m.shaped };
        is = ap value.Row (read_is inputs v kinds n w (v at.0).bits table o.value o.nodes h (table_wider nodes o.nodes n w table g p) m);
      }

  pub stored_gives : (n w : ℕ) (table : List (List Id)) (at : Id) (row : List Id) (nodes : List Node) → IsTable nodes n w table → IsRow nodes n w row →
      Stands nodes at → Fits inputs v (stored kinds table at row nodes).nodes →
      ValueIs inputs v (stored kinds table at row nodes).nodes (shape.Table (length table) n w)
      (value.Table (table_write (table_of v table) (v at.0).bits (row_of v row))) (Table (stored kinds table at row nodes).value)
  stored_gives n w table at row nodes p r s h =
      let o = stored kinds table at row nodes in
      let g = stored_grows kinds table at row nodes in
      let f = fits_fewer inputs v nodes o.nodes g h in
      let m = stored_rows inputs v kinds n w table at row nodes f.ordered s p r h in
      let size = stored_size inputs v kinds table at row nodes in
      let answered : IsTable o.nodes n w o.value = table_like inputs v kinds nodes o.nodes n w table o.value p size m.rows_are in
      record {
        shaped = record { limits = p.limits; has = (size, answered) };
        is = ap value.Table (table_worth inputs v kinds o.nodes n w o.value h answered ∙ ap (grid w n) m.is
            ∙ ap (λ (z : Grid). table_write z (v at.0).bits (row_of v row))
            (sym (table_worth inputs v kinds o.nodes n w table h (table_wider nodes o.nodes n w table g p))));
      }

  pub stored_where_gives : (n w : ℕ) (t : Id) (table : List (List Id)) (at : Id) (row : List Id) (nodes : List Node) → HasWidth nodes t 1 →
      IsTable nodes n w table → IsRow nodes n w row → Stands nodes at → Fits inputs v (stored_where kinds t table at row nodes).nodes →
      ValueIs inputs v (stored_where kinds t table at row nodes).nodes (shape.Table (length table) n w)
      (value.Table (if holds inputs v t then table_write (table_of v table) (v at.0).bits (row_of v row) else table_of v table))
      (Table (stored_where kinds t table at row nodes).value)
  stored_where_gives n w t table at row nodes d p r s h =
      let o = stored_where kinds t table at row nodes in
      let g = stored_where_grows kinds t table at row nodes in
      let f = fits_fewer inputs v nodes o.nodes g h in
      let m = rows_where inputs v kinds n w t table at row nodes f.ordered d s p r g h in
      let size = where_size inputs v kinds t table at row nodes in
      let answered : IsTable o.nodes n w o.value = table_like inputs v kinds nodes o.nodes n w table o.value p size m.rows_are in
      record {
        shaped = record { limits = p.limits; has = (size, answered) };
        is = ap value.Table (where_is inputs v kinds n w t table at row o.value o.nodes h (table_wider nodes o.nodes n w table g p) answered m);
      }

  -- reading and writing a row
  pub word_selected_gives : (n w : ℕ) (row : List Id) (at : Id) (nodes : List Node) → IsShape (shape.Row n w) → IsRow nodes n w row → Stands nodes at →
      Fits inputs v (word_selected kinds row at nodes).nodes →
      TermIs inputs v (word_selected kinds row at nodes).nodes w (row_read (row_of v row) (v at.0).bits) (word_selected kinds row at nodes).value
  word_selected_gives n w row at nodes l p s h =
      let stands : RowStands nodes row = record { words = n; width = w; limits = l; is = p } in
      let o = selected kinds (singles row) at nodes in
      let m = selected_gives 1 w (singles row) at nodes (single_table nodes row stands) s h in
      let r = (m.shaped).has in
      record {
        wide = first_wide o.nodes w o.value r;
        is = word_is v row o.value (v at.0).bits (omega (arith, p.count, l.0.0)) r.count
            (row_back (row_of v o.value) (table_read (table_of v (singles row)) (v at.0).bits) m.is);
      } where
        first_wide : (nodes : List Node) (w : ℕ) (row : List Id) → IsRow nodes 1 w row → HasWidth nodes (first row) w
        first_wide nodes w [] r = absurd (omega (arith, r.count))
        first_wide nodes w (a ∷ row) r = r.wide 0 a (omega arith)

        row_back : (a b : Digits) → value.Row a ≡ value.Row b → a ≡ b
        row_back a b e = cc

  pub word_stored_gives : (n w : ℕ) (row : List Id) (at a : Id) (nodes : List Node) → IsShape (shape.Row n w) → IsRow nodes n w row → HasWidth nodes a w →
      Stands nodes at → Fits inputs v (word_stored kinds row at a nodes).nodes →
      ValueIs inputs v (word_stored kinds row at a nodes).nodes (shape.Row n w) (value.Row (row_write (row_of v row) (v at.0).bits (v a.0)))
      (Row (word_stored kinds row at a nodes).value)
  word_stored_gives n w row at a nodes l p d s h =
      let stands : RowStands nodes row = record { words = n; width = w; limits = l; is = p } in
      let o = stored kinds (singles row) at (single a) nodes in
      let m = stored_gives 1 w (singles row) at (single a) nodes (single_table nodes row stands) (single_row nodes w a d) s h in
      let t = (m.shaped).has in
      let rows = (t.1).rows in
      record {
        shaped = record { limits = l; has = firsts_row o.nodes w n o.value (t.0 ∙ singles_count row ∙ p.count) rows };
        is = ap value.Row (write_is v row a o.value (v at.0).bits (counts o.nodes 1 w o.value rows)
            (table_back (table_of v o.value) (table_write (table_of v (singles row)) (v at.0).bits (row_of v (single a))) m.is));
      } where
        table_back : (a b : Grid) → value.Table a ≡ value.Table b → a ≡ b
        table_back a b e = cc
