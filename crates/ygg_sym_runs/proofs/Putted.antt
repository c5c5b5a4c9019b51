-- What lets a part of a value be written anew, step by step.
use Rattle.std.proofs.Common.{◌≡◌, ℕ, List, [], ◌∷◌, length, All, sym, subst, arith}
use Rattle.std.specs.Prelude.{slice_index_or}
use Rattle.std.proofs.lemmas.List.Elements.{All-head, All-tail, All-cons, All-nil}
use Rattle.ygg_value.specs.declared.shape.Shape.{Shape}
use Rattle.ygg_value.specs.declared.shape.Shape.TheVariants as shape
use Rattle.ygg_sym_runs.specs.ygg_rules.declared.rule.RuleKind.{RuleKind}
use Rattle.ygg_sym_runs.specs.ygg_bank_proofs_Widths.{wider, extends_both}
use Rattle.ygg_sym_runs.specs.ygg_bank.Nodes.{HasWidth, IsBank, Extends, Stands}
use Rattle.ygg_sym_runs.specs.ygg_bank.declared.node.Id.{Id}
use Rattle.ygg_sym_runs.specs.ygg_bank.declared.node.Node.{Node}
use Rattle.ygg_sym_runs.specs.ygg_shape_cells_proofs_Makers.{word_stored_gives}
use Rattle.ygg_sym_runs.specs.ygg_shape.RowPlaces.{CanWrite, word_stored}
use Rattle.ygg_sym_runs.specs.ygg_shape_cells_proofs_Wider.{table_wider}
use Rattle.ygg_sym_runs.specs.ygg_shape_cells.Terms.{IsRow, IsTable, IsShaped, CanStore}
use Rattle.ygg_sym_runs.specs.ygg_shape_cells.declared.terms.SymValue.{SymValue}
use Rattle.ygg_sym_runs.specs.ygg_shape_cells.declared.terms.SymValue.TheVariants.{Word, Row, Table}
use Rattle.ygg_sym_runs.specs.Exprs.{id_in}
use Rattle.ygg_sym_runs.specs.Putting.{led_to}
use Rattle.ygg_sym_runs.specs.Ready.{CanPut}
use Rattle.ygg_sym_runs.proofs.Putting.{led_word}
use Rattle.ygg_sym_runs.proofs.Zeros.{zeros, zero_values, zeros_fit}

-- a value of a word's shape is a term of its width
word_has : (nodes : List Node) (w n : ℕ) (new : SymValue) → IsShaped nodes (led_to (shape.Word w) n) new → HasWidth nodes (id_in new) w
word_has nodes w n new f = cases new (subst (λ s. IsShaped nodes s new) (led_word w n) f)
  where
    cases : (x : SymValue) → IsShaped nodes (shape.Word w) x → HasWidth nodes (id_in x) w
    cases (Word a) f = f.has
    cases (Row row) f = absurd (f.has)
    cases (Table t) f = absurd (f.has)

-- a word of a row may be written
pub row_can : (nodes : List Node) (old new : SymValue) (row : List Id) (places : List Id) → CanPut nodes old places new → old ≡ Row row →
    (length places ≡ 0 → ⊥) → (a : Id) → a ≡ id_in new → CanWrite nodes row a
row_can nodes old new row places can e some a is = subst (CanWrite nodes row) (sym is)
    (go can.shape places (subst (λ x. IsShaped nodes can.shape x) e can.old_is) can.new_is some)
  where
    go : (s : Shape) (places : List Id) → IsShaped nodes s (Row row) → IsShaped nodes (led_to s (length places)) new → (length places ≡ 0 → ⊥) →
        CanWrite nodes row (id_in new)
    go s [] f n l = absurd (l (omega arith))
    go (shape.Row m w) (a ∷ rest) f n l = record {
      stands = record { words = m; width = w; limits = f.limits; is = f.has };
      word_has = word_has nodes w (length rest) new n;
    }
    go (shape.Word w) (a ∷ rest) f n l = absurd (f.has)
    go (shape.Table k m w) (a ∷ rest) f n l = absurd (f.has)

-- a row of a table, or a word of one
pub table_can : (nodes : List Node) (old new : SymValue) (t : List (List Id)) (places : List Id) (d : Id) → CanPut nodes old places new → old ≡ Table t →
    (length places ≡ 0 → ⊥) → (length places ≡ 1 → ⊥) →
    CanPut nodes (Table t) (slice_index_or places 0 d ∷ slice_index_or places 1 d ∷ []) new
table_can nodes old new t places d can e some more =
    go can.shape places (subst (λ x. IsShaped nodes can.shape x) e can.old_is) can.new_is can.at some more
  where
    go : (s : Shape) (places : List Id) → IsShaped nodes s (Table t) → IsShaped nodes (led_to s (length places)) new → All (Stands nodes) places →
        (length places ≡ 0 → ⊥) → (length places ≡ 1 → ⊥) →
        CanPut nodes (Table t) (slice_index_or places 0 d ∷ slice_index_or places 1 d ∷ []) new
    go s [] f n a l k = absurd (l (omega arith))
    go s (i ∷ []) f n a l k = absurd (k (omega arith))
    go (shape.Table r m w) (i ∷ j ∷ rest) f n a l k = record {
      shape = shape.Table r m w;
      old_is = f;
      new_is = subst (λ s. IsShaped nodes s new) (led_word w (length rest)) n;
      at = All-cons (Stands nodes) i (j ∷ []) (All-head (Stands nodes) i (j ∷ rest) a)
          (All-cons (Stands nodes) j [] (All-head (Stands nodes) j rest (All-tail (Stands nodes) i (j ∷ rest) a)) (All-nil (Stands nodes)));
    }
    go (shape.Word w) (i ∷ j ∷ rest) f n a l k = absurd (f.has)
    go (shape.Row m w) (i ∷ j ∷ rest) f n a l k = absurd (f.has)

-- a word of the row that was read may be written
pub cell_row : (nodes mid : List Node) (t : List (List Id)) (i j : Id) (new : SymValue) (row : List Id) → CanPut nodes (Table t) (i ∷ j ∷ []) new →
    Extends nodes mid → ((words width : ℕ) → IsTable nodes words width t → IsRow mid words width row) → (a : Id) → a ≡ id_in new →
    CanWrite mid row a
cell_row nodes mid t i j new row can g read a is = subst (CanWrite mid row) (sym is) (go can.shape can.old_is can.new_is)
  where
    go : (s : Shape) → IsShaped nodes s (Table t) → IsShaped nodes (led_to s 2) new → CanWrite mid row (id_in new)
    go (shape.Table k m w) f n =
        let l = f.limits in
        let h = f.has in
        record {
          stands = record { words = m; width = w; limits = (l.1, l.2); is = read m w h.1 };
          word_has = wider nodes mid (id_in new) w g (word_has nodes w 0 new n);
        }
    go (shape.Word w) f n = absurd (f.has)
    go (shape.Row m w) f n = absurd (f.has)

-- both places stand
pub cell_places : (nodes : List Node) (t : List (List Id)) (i j : Id) (new : SymValue) → CanPut nodes (Table t) (i ∷ j ∷ []) new →
    Stands nodes i × Stands nodes j
cell_places nodes t i j new can =
    let a = can.at in (All-head (Stands nodes) i (j ∷ []) a, All-head (Stands nodes) j [] (All-tail (Stands nodes) i (j ∷ []) a))

-- and the written row may be stored
pub cell_store : (kinds : List RuleKind) (nodes mid last : List Node) (t : List (List Id)) (i j : Id) (new : SymValue) (row written : List Id) →
    CanPut nodes (Table t) (i ∷ j ∷ []) new → Extends nodes mid → Extends mid last →
    ((words width : ℕ) → IsTable nodes words width t → IsRow mid words width row) → Stands mid j → (a : Id) → a ≡ id_in new →
    last ≡ (word_stored kinds row j a mid).nodes → written ≡ (word_stored kinds row j a mid).value → IsBank last → CanStore last t written
cell_store kinds nodes mid last t i j new row written can g h read at a is e f bank = go can.shape can.old_is can.new_is
  where
    go : (s : Shape) → IsShaped nodes s (Table t) → IsShaped nodes (led_to s 2) new → CanStore last t written
    go (shape.Table k m w) p n =
        let l = p.limits in
        let there = p.has in
        let o = word_stored kinds row j a mid in
        let wide = subst (λ z. HasWidth mid z w) (sym is) (wider nodes mid (id_in new) w g (word_has nodes w 0 new n)) in
        let fit = zeros_fit o.nodes (subst IsBank e bank) in
        let r = word_stored_gives zeros (zero_values o.nodes) kinds m w row j a mid (l.1, l.2) (read m w there.1) wide at fit in
        let is_row = (r.shaped).has in
        record {
          words = m;
          width = w;
          is = table_wider nodes last m w t (extends_both nodes mid last g h) there.1;
          row_is = subst (λ ns. IsRow ns m w written) (sym e) (subst (λ z. IsRow o.nodes m w z) (sym f) is_row);
        }
    go (shape.Word w) p n = absurd (p.has)
    go (shape.Row m w) p n = absurd (p.has)
