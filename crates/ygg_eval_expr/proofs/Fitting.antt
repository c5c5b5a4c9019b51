-- Words that are written to rows and tables have their width.
use Rattle.std.proofs.Common.{◌≡◌, ℕ, zero, suc, ◌<◌, true, false, ◌==◌, ◌&&◌, length, sym, ◌∙◌, subst, arith, eqb-true}
use Rattle.ygg_value.specs.declared.shape.Shape.{Shape}
use Rattle.ygg_value.specs.declared.shape.Shape.TheVariants as shape
use Rattle.ygg_value.specs.Number.{Digits, Grid}
use Rattle.ygg_value.specs.Values.{word_in}
use Rattle.ygg_value.specs.declared.row.Value.{Value}
use Rattle.ygg_value.specs.declared.row.Value.TheVariants.{Word, Row, Table}
use Rattle.ygg_meaning_laws.specs.MeaningShapes.{fits}
use Rattle.ygg_meaning_laws.proofs.Tests.{left}
use Rattle.ygg_eval_expr.specs.Writing.{shape_led_to, CanWrite}

-- indices of a word lead to it
word_width : (w n : ℕ) (v : Value) → fits (shape_led_to (shape.Word w) n) v ≡ true → (word_in v).width ≡ w
word_width w zero (Word v) h = eqb-true v.width w (left _ _ h)
word_width w zero (Row r) h = absurd (cc)
word_width w zero (Table t) h = absurd (cc)
word_width w (suc n) v h = word_width w n v h

of_row : (s : Shape) (r : Digits) (n : ℕ) (v : Value) → fits s (Row r) ≡ true → fits (shape_led_to s (suc n)) v ≡ true → (word_in v).width ≡ r.width
of_row (shape.Row m w) r n v e h = word_width w n v h ∙ sym (eqb-true r.width w (left _ _ e))
of_row (shape.Word w) r n v e h = absurd (cc)
of_row (shape.Table k m w) r n v e h = absurd (cc)

of_table : (s : Shape) (t : Grid) (n : ℕ) (v : Value) → fits s (Table t) ≡ true → fits (shape_led_to s (suc (suc n))) v ≡ true → (word_in v).width ≡ t.width
of_table (shape.Table k m w) t n v e h = word_width w n v h
    ∙ sym (eqb-true t.width w (left (t.width == w) _ (left (t.width == w && t.words == m) _ (left (t.width == w && t.words == m && length t.rows == k) _ e))))
of_table (shape.Word w) t n v e h = absurd (cc)
of_table (shape.Row m w) t n v e h = absurd (cc)

-- a word that may be written to a row
pub row_word : (whole : Value) (r : Digits) (n : ℕ) (part : Value) → CanWrite whole n part → whole ≡ Row r → 0 < n → (word_in part).width ≡ r.width
row_word whole r zero part can is h = absurd (omega arith)
row_word whole r (suc n) part can is h = of_row can.shape r n part (subst (λ v. fits can.shape v ≡ true) is can.whole_fits) can.part_fits

-- a word that may be written to a row of a table
pub table_word : (whole : Value) (t : Grid) (n : ℕ) (part : Value) → CanWrite whole n part → whole ≡ Table t → 1 < n → (word_in part).width ≡ t.width
table_word whole t zero part can is h = absurd (omega arith)
table_word whole t (suc zero) part can is h = absurd (omega arith)
table_word whole t (suc (suc n)) part can is h = of_table can.shape t n part (subst (λ v. fits can.shape v ≡ true) is can.whole_fits) can.part_fits

-- what isn't 0 is more
pub more_than_none : (n : ℕ) → false ≡ (n == 0) → 0 < n
more_than_none zero h = absurd (cc)
more_than_none (suc n) h = omega arith
