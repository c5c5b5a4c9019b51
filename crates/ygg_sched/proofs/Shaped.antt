-- Shapes of types, and values that are read by them.
use Rattle.std.proofs.Common.{
  ◌≡◌,
  ℕ,
  zero,
  suc,
  ◌*◌,
  ◌^◌,
  ◌<◌,
  ◌≤◌,
  Bool,
  true,
  false,
  cond,
  List,
  [],
  ◌∷◌,
  length,
  Option,
  Some,
  None,
  All,
  refl,
  sym,
  ap,
  subst,
  ◌∙◌,
  arith,
}
use Rattle.std.specs.Prelude.{◌&&◌, nat_lt, nat_le, option_and_then}
use Rattle.std.specs.List.{AllByRecursion}
use Rattle.std.specs.Option.{option_map}
use Rattle.std.proofs.lemmas.Bool.{and_parts, leb-true}
use Rattle.std.proofs.lemmas.Bool.Decides.{nat_tests}
use Rattle.std.proofs.lemmas.List.Elements.{All-from_recursion}
use Rattle.ygg_value.specs.Shapes.{IsShape, Within, IsValue, shape_of as value_shape}
use Rattle.ygg_value.specs.Words.{word}
use Rattle.ygg_value.specs.declared.row.Value.{Value}
use Rattle.ygg_value.specs.declared.row.Value.TheVariants as value
use Rattle.ygg_value.specs.declared.shape.Shape.{Shape}
use Rattle.ygg_value.specs.declared.shape.Shape.TheVariants as shape
use Rattle.ygg_syntax.specs.declared.tree.TypeText.{TypeText}
use Rattle.ygg_syntax.specs.declared.tree.TypeText.TheVariants as text
use Rattle.ygg_type.specs.ygg_type_rules.Limits.{width_fits, words_fit, rows_fit, words_fit_in}
use Rattle.ygg_type.specs.ygg_type_rules.Shapes.{shape_of}
use Rattle.ygg_sched.specs.Numbers.{is_short, within, hex_after, number_in}
use Rattle.ygg_sched.specs.Values.{exactly, row_in, rows_in, shaped_in, value_in}
use Rattle.ygg_sched.specs.Words.{parts}
use Rattle.ygg_sched.specs.Fitting.{IsOfType}

-- a choice that is there
pub chosen : {A : Type 0} (b : Bool) (x y : A) → cond b (Some x) None ≡ Some y → (b ≡ true) × (x ≡ y)
chosen true x y e = (refl, cc)
chosen false x y e = absurd cc

within_64 : (n : ℕ) → (nat_le 1 n && nat_le n 64) ≡ true → Within 64 n
within_64 n h = let p = and_parts (nat_le 1 n) (nat_le n 64) h in (leb-true 1 n p.0, leb-true n 64 p.1)

within_256 : (n : ℕ) → (nat_le 1 n && nat_le n 256) ≡ true → Within 256 n
within_256 n h = let p = and_parts (nat_le 1 n) (nat_le n 256) h in (leb-true 1 n p.0, leb-true n 256 p.1)

-- the shape that a type names keeps the limits
pub shape_is : (t : TypeText) (s : Shape) → shape_of t ≡ Some s → IsShape s
shape_is (text.Word w) s e =
    let c = chosen (width_fits w.value) (shape.Word w.value) s e in
    subst IsShape c.1 (within_64 w.value c.0)
shape_is (text.Row m w) s e =
    let c = chosen (words_fit m.value && width_fits w.value) (shape.Row m.value w.value) s e in
    let p = and_parts (words_fit m.value) (width_fits w.value) c.0 in
    subst IsShape c.1 (within_64 m.value p.0, within_64 w.value p.1)
shape_is (text.Table n m w) s e =
    let c = chosen (rows_fit n.value && words_fit_in n.value m.value && width_fits w.value) (shape.Table n.value m.value w.value) s e in
    let p = and_parts (rows_fit n.value && words_fit_in n.value m.value) (width_fits w.value) c.0 in
    let q = and_parts (rows_fit n.value) (words_fit_in n.value m.value) p.0 in
    let r = and_parts (words_fit m.value) (nat_le (n.value * m.value) 4096) q.1 in
    subst IsShape c.1 (within_256 n.value q.0, within_64 m.value r.0, within_64 w.value p.1, leb-true (n.value * m.value) 4096 r.1)

-- what a step gives that gives something
pub and_then_is : {A B : Type 0} (f : A → Option B) (o : Option A) (y : B) → option_and_then f o ≡ Some y → (x : A) × (o ≡ Some x) × (f x ≡ Some y)
and_then_is f None y e = absurd cc
and_then_is f (Some x) y e = (x, refl, e)

pub map_is : {A B : Type 0} (f : A → B) (o : Option A) (y : B) → option_map f o ≡ Some y → (x : A) × (o ≡ Some x) × (f x ≡ y)
map_is f None y e = absurd cc
map_is f (Some x) y e = (x, refl, cc)

-- a number that is read is within its width
number_fits : (width : ℕ) (bytes : List ℕ) (n : ℕ) → number_in width bytes ≡ Some n → n < 2 ^ width
number_fits width bytes n e = by_test (is_short bytes) refl
  where
    by_test : (test : Bool) → is_short bytes ≡ test → n < 2 ^ width
    by_test false t = let h : None ≡ Some n = rw t at e in absurd cc
    by_test true t =
        let a = and_then_is (within width) (hex_after 0 bytes) n (rw t at e) in
        let c = chosen (nat_lt a.0 (2 ^ width)) a.0 n a.2 in
        let below : a.0 < 2 ^ width = grind (arith, nat_tests, c.0) in
        subst (λ (k : ℕ). k < 2 ^ width) c.1 below

-- what is read of pieces
pub record AreRead {A : Type 0} (P : A → Type 0) (count : ℕ) (xs : List A) : Type 0 where
  pub many : length xs ≡ count
  pub each : AllByRecursion P xs

exactly_fits : {A : Type 0} (read : List ℕ → Option A) (P : A → Type 0) → ((piece : List ℕ) (x : A) → read piece ≡ Some x → P x)
    → (count : ℕ) (pieces : List (List ℕ)) (xs : List A) → exactly read count pieces ≡ Some xs → AreRead P count xs
exactly_fits read P is zero [] xs e = let none : [] ≡ xs = cc in subst (AreRead P 0) none (record { many = refl; each = tt })
exactly_fits read P is zero (piece ∷ pieces) xs e = absurd cc
exactly_fits read P is (suc count) [] xs e = absurd cc
exactly_fits read P is (suc count) (piece ∷ pieces) xs e =
    let a = and_then_is (λ x. option_map (λ others. x ∷ others) (exactly read count pieces)) (read piece) xs e in
    let b = map_is (λ others. a.0 ∷ others) (exactly read count pieces) xs a.2 in
    let rest = exactly_fits read P is count pieces b.0 b.1 in
    subst (AreRead P (suc count)) b.2 (record { many = ap suc rest.many; each = (is piece a.0 a.1, rest.each) })

-- a row that is read
row_fits : (width words : ℕ) (bytes : List ℕ) (ns : List ℕ) → row_in width words bytes ≡ Some ns → AreRead (λ n. n < 2 ^ width) words ns
row_fits width words bytes ns e = exactly_fits (number_in width) (λ n. n < 2 ^ width) (number_fits width) words (parts 44 bytes) ns e

-- a row of a table
record IsRowOf (width words : ℕ) (ns : List ℕ) : Type 0 where
  many : length ns ≡ words
  fits : All (λ n. n < 2 ^ width) ns

row_of : (width words : ℕ) (bytes : List ℕ) (ns : List ℕ) → row_in width words bytes ≡ Some ns → IsRowOf width words ns
row_of width words bytes ns e =
    let r = row_fits width words bytes ns e in
    record { many = r.many; fits = All-from_recursion (λ n. n < 2 ^ width) ns r.each }

even : (width words : ℕ) (rows : List (List ℕ)) → AllByRecursion (IsRowOf width words) rows → AllByRecursion (λ (row : List ℕ). length row ≡ words) rows
even width words [] each = tt
even width words (r ∷ rows) each = (each.0.many, even width words rows each.1)

fits : (width words : ℕ) (rows : List (List ℕ)) → AllByRecursion (IsRowOf width words) rows →
    AllByRecursion (λ (row : List ℕ). All (λ n. n < 2 ^ width) row) rows
fits width words [] each = tt
fits width words (r ∷ rows) each = (each.0.fits, fits width words rows each.1)

-- a value that is read has the shape, and keeps the limits
pub record HasShape (s : Shape) (v : Value) : Type 0 where
  pub shape : value_shape v ≡ s
  pub value : IsValue v

shaped_fits : (s : Shape) (bytes : List ℕ) (v : Value) → IsShape s → shaped_in s bytes ≡ Some v → HasShape s v
shaped_fits (shape.Word w) bytes v is e =
    let a = map_is (λ n. value.Word (word w n)) (number_in w bytes) v e in
    subst (HasShape (shape.Word w)) a.2
    (record { shape = refl; value = record { least = is.0; most = is.1; fits = number_fits w bytes a.0 a.1 } })
shaped_fits (shape.Row m w) bytes v is e =
    let a = map_is (λ ns. value.Row (record { width = w; words = ns })) (row_in w m bytes) v e in
    let r = row_fits w m bytes a.0 a.1 in
    subst (HasShape (shape.Row m w)) a.2
    (record {
      shape = ap (λ k. shape.Row k w) r.many;
      value = record {
        least = is.1.0;
        most = is.1.1;
        some = subst (λ (k : ℕ). 1 ≤ k) (sym r.many) is.0.0;
        few = subst (λ (k : ℕ). k ≤ 64) (sym r.many) is.0.1;
        fits = All-from_recursion (λ n. n < 2 ^ w) a.0 r.each;
      };
    })
shaped_fits (shape.Table n m w) bytes v is e =
    let a = map_is (λ rows. value.Table (record { width = w; words = m; rows = rows })) (rows_in w m n bytes) v e in
    let r = exactly_fits (row_in w m) (IsRowOf w m) (row_of w m) n (parts 59 bytes) a.0 a.1 in
    subst (HasShape (shape.Table n m w)) a.2
    (record {
      shape = ap (λ k. shape.Table k m w) r.many;
      value = record {
        least = is.2.0;
        most = is.2.1;
        some = is.1.0;
        few = is.1.1;
        rows_some = subst (λ (k : ℕ). 1 ≤ k) (sym r.many) is.0.0;
        rows_few = subst (λ (k : ℕ). k ≤ 256) (sym r.many) is.0.1;
        bounded = subst (λ (k : ℕ). k * m ≤ 4096) (sym r.many) is.3;
        even = All-from_recursion (λ (row : List ℕ). length row ≡ m) a.0 (even w m a.0 r.each);
        fits = All-from_recursion (λ (row : List ℕ). All (λ k. k < 2 ^ w) row) a.0 (fits w m a.0 r.each);
      };
    })

-- a value that is read is one of its type
pub value_fits : (t : TypeText) (bytes : List ℕ) (v : Value) → value_in t bytes ≡ Some v → IsOfType t v
value_fits t bytes v e =
    let a = and_then_is (λ s. shaped_in s bytes) (shape_of t) v e in
    let h = shaped_fits a.0 bytes v (shape_is t a.0 a.1) a.2 in
    record { shape = a.1 ∙ ap (λ s. Some s) (sym h.shape); value = h.value }
