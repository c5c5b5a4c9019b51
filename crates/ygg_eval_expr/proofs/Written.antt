-- Values of which a part was written.
use Rattle.std.proofs.Common.{
  ◌≡◌,
  ℕ,
  ◌<◌,
  true,
  false,
  ◌==◌,
  ◌&&◌,
  List,
  [],
  ◌∷◌,
  map,
  length,
  get_or,
  refl,
  sym,
  ap,
  ◌∙◌,
  subst,
  arith,
  eqb-true,
  Result,
  Ok,
  Err,
}
use Rattle.std.specs.Prelude.{OnOk, OnErr, IsErr}
use Rattle.ygg_value.specs.declared.shape.Shape.{Shape}
use Rattle.ygg_value.specs.declared.shape.Shape.TheVariants as shape
use Rattle.ygg_value.specs.Number.{Number, Digits, Grid}
use Rattle.ygg_value.specs.Values.{word_in, row_in, row_write, table_read, table_write, with_part}
use Rattle.ygg_value.specs.declared.row.Value.{Value}
use Rattle.ygg_value.specs.declared.row.Value.TheVariants.{Word, Row, Table}
use Rattle.ygg_meaning_laws.specs.MeaningShapes.{fits}
use Rattle.ygg_meaning_laws.proofs.Tests.{left, right}
use Rattle.ygg_eval_expr.specs.Writing.{shape_led_to, CanWrite}

module _ (whole : Value) (i : Number) (part : Value) where
  abbrev bits : List Number → List ℕ
  bits is = map (λ (w : Number). w.bits) is

  -- with no place, the value itself
  pub all_written : (is : List Number) → true ≡ (length is == 0) → part ≡ with_part whole (map (λ (w : Number). w.bits) is) part
  all_written [] none = refl
  all_written (j ∷ is) none =
      let bare : length (j ∷ is) ≡ 0 = eqb-true (length (j ∷ is)) 0 (sym none) in
      absurd (omega arith)

  -- a word has no parts
  pub word_kept : (w : Number) (is : List Number) → whole ≡ Word w → false ≡ (length is == 0)
      → whole ≡ with_part whole (map (λ (w : Number). w.bits) is) part
  word_kept w [] is some = absurd (cc)
  word_kept w (j ∷ is) here some = here ∙ sym (ap (λ v. with_part v (bits (j ∷ is)) part) here)

  -- a word of a row
  pub row_written : (r to : Digits) (word : Number) (is : List Number) → whole ≡ Row r → false ≡ (length is == 0) → i ≡ get_or is 0 i
      → word ≡ word_in part → to ≡ row_write r i.bits word → Row to ≡ with_part whole (map (λ (w : Number). w.bits) is) part
  row_written r to word [] here some first same made = absurd (cc)
  row_written r to word (j ∷ is) here some first same made =
      ap Row (made ∙ ap (λ (n : Number). row_write r n.bits word) first ∙ ap (row_write r j.bits) same)
      ∙ sym (ap (λ v. with_part v (bits (j ∷ is)) part) here)

  -- a row of a table
  pub table_written : (t to : Grid) (is : List Number) → whole ≡ Table t → length is ≡ 1 → i ≡ get_or is 0 i
      → to ≡ table_write t i.bits (row_in part) → Table to ≡ with_part whole (map (λ (w : Number). w.bits) is) part
  table_written t to [] here one first made = absurd (cc)
  table_written t to (j ∷ []) here one first made =
      ap Table (made ∙ ap (λ (n : Number). table_write t n.bits (row_in part)) first) ∙ sym (ap (λ v. with_part v (bits (j ∷ [])) part) here)
  table_written t to (j ∷ k ∷ is) here one first made = absurd (omega arith)

  -- a word of a row of a table, where there was room
  pub within_written : {E : Type 0} (r : Result Unit E) (t to : Grid) (k word : Number) (is : List Number) → whole ≡ Table t → 1 < length is
      → i ≡ get_or is 0 i → k ≡ get_or is 1 k → word ≡ word_in part
      → OnOk r (to ≡ table_write t i.bits (row_write (table_read t i.bits) k.bits word))
      → OnOk r (Table to ≡ with_part whole (map (λ (w : Number). w.bits) is) part)
  within_written (Ok u) t to k word (j ∷ l ∷ is) here more first second same made =
      ap Table (made
      ∙ ap (λ (n : Number). table_write t n.bits (row_write (table_read t n.bits) k.bits word)) first
      ∙ ap (λ (n : Number). table_write t j.bits (row_write (table_read t j.bits) n.bits word)) second
      ∙ ap (λ (n : Number). table_write t j.bits (row_write (table_read t j.bits) l.bits n)) same)
      ∙ sym (ap (λ v. with_part v (bits (j ∷ l ∷ is)) part) here)
  within_written (Ok u) t to k word [] here more first second same made = absurd (omega arith)
  within_written (Ok u) t to k word (j ∷ []) here more first second same made = absurd (omega arith)
  within_written (Err e) t to k word is here more first second same made = tt

  -- and where there was none
  pub table_kept : {E : Type 0} (r : Result Unit E) (t to : Grid) → whole ≡ Table t → OnErr r (to ≡ t) → OnErr r (Table to ≡ whole)
  table_kept (Ok u) t to here same = tt
  table_kept (Err e) t to here same = ap Table same ∙ sym here

-- the words and the width of a table's shape
pub table_shape : (rows words width rows' words' width' : ℕ) → shape.Table rows words width ≡ shape.Table rows' words' width'
    → (words' ≡ words) × (width' ≡ width)
table_shape rows words width rows' words' width' same = (cc, cc)

of_one : (s : Shape) (t : Grid) (v : Value) → fits s (Table t) ≡ true → fits (shape_led_to s 1) v ≡ true → fits (shape.Row t.words t.width) v ≡ true
of_one (shape.Table k m w) t v e h =
    let same = left (t.width == w && t.words == m) _ (left (t.width == w && t.words == m && length t.rows == k) _ e) in
    let width = eqb-true t.width w (left (t.width == w) _ same) in
    let words = eqb-true t.words m (right (t.width == w) _ same) in
    subst (λ n. fits (shape.Row n t.width) v ≡ true) (sym words) (subst (λ n. fits (shape.Row m n) v ≡ true) (sym width) h)
of_one (shape.Word w) t v e h = absurd (cc)
of_one (shape.Row m w) t v e h = absurd (cc)

-- a row that may be written to a table
pub table_row : (whole : Value) (t : Grid) (n : ℕ) (part : Value) → CanWrite whole n part → whole ≡ Table t → n ≡ 1
    → fits (shape.Row t.words t.width) part ≡ true
table_row whole t n part can is one =
    of_one can.shape t part (subst (λ v. fits can.shape v ≡ true) is can.whole_fits)
    (subst (λ k. fits (shape_led_to can.shape k) part ≡ true) one can.part_fits)

-- where it was refused nothing holds of what was given, and what stays stays
pub on_ok_refused : {E : Type 0} (r : Result Unit E) (P : Type 0) → IsErr r → OnOk r P
on_ok_refused (Ok u) P h = absurd (cc)
on_ok_refused (Err e) P h = tt

pub on_err_kept : {E P : Type 0} (r : Result Unit E) → P → OnErr r P
on_err_kept (Ok u) p = tt
on_err_kept (Err e) p = p
