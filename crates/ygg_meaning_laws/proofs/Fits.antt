-- Values that have a shape, and values that fit one.
use Rattle.std.proofs.Common.{◌≡◌, ℕ, ◌<◌, ◌^◌, Bool, true, List, length, All, Some, refl, sym, ap, ◌∙◌, subst, arith}
use Rattle.std.specs.Prelude.{◌==◌, ◌&&◌, nat_lt}
use Rattle.std.specs.Bool.{Decides}
use Rattle.std.specs.List.{list_all}
use Rattle.std.proofs.lemmas.Bool.{eqb-true, eq-eqb, and_from}
use Rattle.std.proofs.lemmas.Bool.Decides.{Decides-by_and, Decides-and, Decides-ltb, Decides-eqb}
use Rattle.ygg_value.specs.Number.{IsWord, IsRow, IsTable}
use Rattle.ygg_value.specs.Words.{word}
use Rattle.ygg_value.specs.Values.{word_in, digit}
use Rattle.ygg_value.specs.Shapes.{IsShape, IsValue, shape_of}
use Rattle.ygg_value.specs.declared.row.Value.{Value}
use Rattle.ygg_value.specs.declared.row.Value.TheVariants as value
use Rattle.ygg_value.specs.declared.shape.Shape.{Shape}
use Rattle.ygg_value.specs.declared.shape.Shape.TheVariants as shape
use Rattle.ygg_value.proofs.Results.{bit_of-lt}
use Rattle.ygg_type_rules.specs.Shapes.{is_word, width_of}
use Rattle.ygg_meaning.specs.Shapes.{words_fit, fits}
use Rattle.ygg_meaning_laws.specs.Fitting.{HasShape}
use Rattle.ygg_meaning_laws.proofs.Tests.{left, right}

-- the test that all numbers are below 2 ^ width
numbers_fit : (w : ℕ) (ns : List ℕ) → Decides (list_all (λ n. nat_lt n (2 ^ w)) ns) (All (λ n. n < 2 ^ w) ns)
numbers_fit w = Decides-by_and (λ n. nat_lt n (2 ^ w)) (λ n. n < 2 ^ w) (list_all (λ n. nat_lt n (2 ^ w))) (λ n. Decides-ltb n (2 ^ w)) refl (λ n ns. refl)

-- so many numbers, each below 2 ^ width
abbrev Fill : ℕ → ℕ → List ℕ → Type 0
Fill w m ns = (length ns ≡ m) × All (λ n. n < 2 ^ w) ns

words_decide : (w m : ℕ) (ns : List ℕ) → Decides (words_fit w m ns) (Fill w m ns)
words_decide w m ns = Decides-and (length ns == m) (list_all (λ n. nat_lt n (2 ^ w)) ns) (Decides-eqb (length ns) m) (numbers_fit w ns)

rows_decide : (w m : ℕ) (rows : List (List ℕ)) → Decides (list_all (words_fit w m) rows) (All (Fill w m) rows)
rows_decide w m = Decides-by_and (words_fit w m) (Fill w m) (list_all (words_fit w m)) (words_decide w m) refl (λ r rs. refl)

-- a value that fits a shape within its limits has the shape
pub fits_has : (s : Shape) (v : Value) → IsShape s → fits s v ≡ true → HasShape (Some s) v
fits_has (shape.Word w) (value.Word n) x h =
    let width = eqb-true n.width w (left (n.width == w) (nat_lt n.bits (2 ^ w)) h) in
    let bits = (Decides-ltb n.bits (2 ^ w)).0 (right (n.width == w) (nat_lt n.bits (2 ^ w)) h) in
    record {
      is = ap (λ k. Some (shape.Word k)) (sym width);
      limits = subst (λ (k : ℕ). IsWord (word k n.bits)) (sym width) (record { least = x.0; most = x.1; fits = bits });
    }
fits_has (shape.Row m w) (value.Row r) (xm, xw) h =
    let width = eqb-true r.width w (left (r.width == w) (words_fit w m r.words) h) in
    let fill = (words_decide w m r.words).0 (right (r.width == w) (words_fit w m r.words) h) in
    let row : IsRow (record { width = w; words = r.words }) =
    record { least = xw.0; most = xw.1; some = rw fill.0 xm.0; few = rw fill.0 xm.1; fits = fill.1 } in
    record {
      is = ap (λ k. Some (shape.Row k w)) (sym fill.0) ∙ ap (λ k. Some (shape.Row (length r.words) k)) (sym width);
      limits = subst (λ (k : ℕ). IsRow (record { width = k; words = r.words })) (sym width) row;
    }
fits_has (shape.Table n m w) (value.Table t) (xn, xm, xw, xb) h =
    let all = list_all (words_fit w m) t.rows in
    let sized = left (t.width == w && t.words == m && length t.rows == n) all h in
    let shaped = left (t.width == w && t.words == m) (length t.rows == n) sized in
    let width = eqb-true t.width w (left (t.width == w) (t.words == m) shaped) in
    let words = eqb-true t.words m (right (t.width == w) (t.words == m) shaped) in
    let rows = eqb-true (length t.rows) n (right (t.width == w && t.words == m) (length t.rows == n) sized) in
    let each = (rows_decide w m t.rows).0 (right (t.width == w && t.words == m && length t.rows == n) all h) in
    let table : IsTable (record { width = w; words = m; rows = t.rows }) = record {
      least = xw.0;
      most = xw.1;
      some = xm.0;
      few = xm.1;
      rows_some = rw rows xn.0;
      rows_few = rw rows xn.1;
      bounded = rw rows xb;
      even = λ k d l. (each k d l).0;
      fits = λ k d l. (each k d l).1;
    } in
    record {
      is = ap (λ k. Some (shape.Table k m w)) (sym rows) ∙ ap (λ k. Some (shape.Table (length t.rows) k w)) (sym words)
          ∙ ap (λ k. Some (shape.Table (length t.rows) t.words k)) (sym width);
      limits = subst (λ (k : ℕ). IsTable (record { width = k; words = t.words; rows = t.rows })) (sym width)
          (subst (λ (k : ℕ). IsTable (record { width = w; words = k; rows = t.rows })) (sym words) table);
    }
fits_has (shape.Word w) (value.Row r) x h = absurd (cc)
fits_has (shape.Word w) (value.Table t) x h = absurd (cc)
fits_has (shape.Row m w) (value.Word n) x h = absurd (cc)
fits_has (shape.Row m w) (value.Table t) x h = absurd (cc)
fits_has (shape.Table n m w) (value.Word k) x h = absurd (cc)
fits_has (shape.Table n m w) (value.Row r) x h = absurd (cc)

-- a value that keeps the limits fits its shape
pub value_fits : (v : Value) → IsValue v → fits (shape_of v) v ≡ true
value_fits (value.Word n) x = and_from (n.width == n.width) (nat_lt n.bits (2 ^ n.width)) (eq-eqb n.width n.width refl)
    ((Decides-ltb n.bits (2 ^ n.width)).1 x.fits)
value_fits (value.Row r) x =
    and_from (r.width == r.width) (words_fit r.width (length r.words) r.words) (eq-eqb r.width r.width refl)
    ((words_decide r.width (length r.words) r.words).1 (refl, x.fits))
value_fits (value.Table t) x =
    and_from (t.width == t.width && t.words == t.words && length t.rows == length t.rows) (list_all (words_fit t.width t.words) t.rows)
    (and_from (t.width == t.width && t.words == t.words) (length t.rows == length t.rows)
    (and_from (t.width == t.width) (t.words == t.words) (eq-eqb t.width t.width refl) (eq-eqb t.words t.words refl))
    (eq-eqb (length t.rows) (length t.rows) refl))
    ((rows_decide t.width t.words t.rows).1 (λ k d l. (x.even k d l, x.fits k d l)))

-- a value that has a shape fits it
pub has_fits : (s : Shape) (v : Value) → HasShape (Some s) v → fits s v ≡ true
has_fits s v h = let same : s ≡ shape_of v = let e = h.is in cc in subst (λ k. fits k v ≡ true) (sym same) (value_fits v h.limits)

-- a single digit has its shape
pub digit_has : (b : Bool) → HasShape (Some (shape.Word 1)) (digit b)
digit_has b = record { is = refl; limits = record { least = omega arith; most = omega arith; fits = bit_of-lt b } }

-- a value with a word's shape is that word
pub word_is : (v : Value) → is_word (shape_of v) ≡ true → v ≡ value.Word (word_in v)
word_is (value.Word n) h = refl
word_is (value.Row r) h = absurd (cc)
word_is (value.Table t) h = absurd (cc)

pub word_within : (v : Value) → is_word (shape_of v) ≡ true → IsValue v → IsWord (word_in v)
word_within (value.Word n) h x = x
word_within (value.Row r) h x = absurd (cc)
word_within (value.Table t) h x = absurd (cc)

pub word_shaped : (v : Value) → is_word (shape_of v) ≡ true → shape_of v ≡ shape.Word (word_in v).width
word_shaped v h = ap shape_of (word_is v h)

pub word_wide : (v : Value) → is_word (shape_of v) ≡ true → width_of (shape_of v) ≡ (word_in v).width
word_wide v h = ap width_of (word_shaped v h)
