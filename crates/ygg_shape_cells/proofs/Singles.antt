-- Rows as tables of one word a row: shapes, reading and writing.
use Rattle.std.proofs.Common.{
  ◌≡◌,
  ◌≤◌,
  ◌<◌,
  Some,
  ℕ,
  zero,
  suc,
  Result,
  Ok,
  Err,
  IfOk,
  List,
  [],
  ◌∷◌,
  length,
  map,
  replicate,
  unwrap_or,
  slice_get,
  slice_set,
  get_or,
  All,
  refl,
  sym,
  ap,
  ◌∙◌,
  subst,
  arith,
}
use Rattle.std.proofs.lemmas.List.Elements.{All-head, All-tail, All-cons, All-nil, All-weaker}
use Rattle.ygg_value.specs.Number.{Digits, Grid}
use Rattle.ygg_value.specs.Shapes.{IsShape}
use Rattle.ygg_value.specs.Values.{row_read, row_write, table_read, table_write}
use Rattle.ygg_value.specs.Words.{word}
use Rattle.ygg_value.specs.declared.shape.Shape.TheVariants as shape
use Rattle.ygg_shape_words.specs.ygg_bank.Nodes.{HasWidth}
use Rattle.ygg_shape_words.specs.ygg_bank.Values.{Values, value_of}
use Rattle.ygg_shape_words.specs.ygg_bank.declared.node.Id.{Id}
use Rattle.ygg_shape_words.specs.ygg_bank.declared.node.Node.{Node}
use Rattle.ygg_shape_cells.specs.Terms.{IsRow, IsTable, TableStands, CanStore, numbers_of, row_width, row_of, table_width, words_in, table_of}
use Rattle.ygg_shape_cells.specs.Meaning.{IsRead, IsWritten}
use Rattle.ygg_shape_cells.specs.RowPlaces.{single, singles, first, RowStands, CanWrite, IsWordRead, IsWordWritten}

map_length : {X Y : Type 0} (f : X → Y) (xs : List X) → length (map f xs) ≡ length xs
map_length f [] = refl
map_length f (x ∷ xs) = omega (arith, map_length f xs)

pub single_row : (nodes : List Node) (w : ℕ) (a : Id) → HasWidth nodes a w → IsRow nodes 1 w (single a)
single_row nodes w a h = record { count = refl; wide = All-cons (λ a. HasWidth nodes a w) a [] h (All-nil (λ a. HasWidth nodes a w)) }

single_rows : (nodes : List Node) (w : ℕ) (row : List Id) → All (λ a. HasWidth nodes a w) row → All (IsRow nodes 1 w) (singles row)
single_rows nodes w [] h = All-nil (IsRow nodes 1 w)
single_rows nodes w (a ∷ row) h =
    All-cons (IsRow nodes 1 w) (single a) (singles row) (single_row nodes w a (All-head (λ a. HasWidth nodes a w) a row h))
    (single_rows nodes w row (All-tail (λ a. HasWidth nodes a w) a row h))

pub single_table : (nodes : List Node) (row : List Id) (h : RowStands nodes row) → IsTable nodes 1 h.width (singles row)
single_table nodes row h =
    let l = h.limits in
    let i = h.is in
    let size = map_length single row in
    record {
      limits = ((omega (arith, size, i.count), omega (arith, size, i.count)), (omega arith, omega arith), l.1, omega (arith, size, i.count));
      rows = single_rows nodes h.width row i.wide;
    }

pub singles_stand : (nodes : List Node) (row : List Id) → RowStands nodes row → TableStands nodes (singles row)
singles_stand nodes row h = record { words = 1; width = h.width; is = single_table nodes row h }

pub singles_store : (nodes : List Node) (row : List Id) (w : Id) → CanWrite nodes row w → CanStore nodes (singles row) (single w)
singles_store nodes row w h =
    let s = h.stands in record { words = 1; width = s.width; is = single_table nodes row s; row_is = single_row nodes s.width w h.word_has }

pub singles_table : (nodes : List Node) (row : List Id) (h : RowStands nodes row) → IsTable nodes 1 h.width (singles row)
singles_table nodes row h = single_table nodes row h

pub write_row : (nodes : List Node) (row : List Id) (w : Id) (h : CanWrite nodes row w) → IsRow nodes 1 (h.stands).width (single w)
write_row nodes row w h = single_row nodes (h.stands).width w h.word_has

-- a row of numbers
abbrev digits : ℕ → List ℕ → Digits
digits w ns = record { width = w; words = ns }

-- numbers
get_single : (ns : List ℕ) (k : ℕ) → unwrap_or (slice_get (map single ns) k) (0 ∷ []) ≡ unwrap_or (slice_get ns k) 0 ∷ []
get_single [] k = refl
get_single (n ∷ ns) zero = refl
get_single (n ∷ ns) (suc k) = get_single ns k

set_single : (ns : List ℕ) (k m : ℕ) → slice_set (map single ns) k (m ∷ []) ≡ map single (slice_set ns k m)
set_single [] k m = refl
set_single (n ∷ ns) zero m = refl
set_single (n ∷ ns) (suc k) m = ap (λ z. (n ∷ []) ∷ z) (set_single ns k m)

abbrev head : List ℕ → ℕ
head [] = 0
head (n ∷ ns) = n

heads_back : (ns : List ℕ) → map head (map single ns) ≡ ns
heads_back [] = refl
heads_back (n ∷ ns) = ap (λ z. n ∷ z) (heads_back ns)

same_singles : (ms ns : List ℕ) → map single ms ≡ map single ns → ms ≡ ns
same_singles ms ns e = sym (heads_back ms) ∙ ap (map head) e ∙ heads_back ns

module _ (v : Values) where
  rows_single : (row : List Id) → map (numbers_of v) (singles row) ≡ map single (numbers_of v row)
  rows_single [] = refl
  rows_single (a ∷ row) = ap (λ z. ((v a.0).bits ∷ []) ∷ z) (rows_single row)

  width_single : (row : List Id) → table_width v (singles row) ≡ row_width v row
  width_single [] = refl
  width_single (a ∷ row) = refl

  zeros_single : (row : List Id) → 1 ≤ length row → replicate {A = ℕ} (words_in (singles row)) 0 ≡ 0 ∷ []
  zeros_single [] l = absurd (omega arith)
  zeros_single (a ∷ row) l = refl

  pub read_is : (row answer : List Id) (k : ℕ) → 1 ≤ length row → length answer ≡ 1 → row_of v answer ≡ table_read (table_of v (singles row)) k →
      v (first answer).0 ≡ row_read (row_of v row) k
  read_is row [] k l c e = absurd (omega (arith, c))
  read_is row (x ∷ []) k l c e =
      let w : (v x.0).width ≡ row_width v row = ap (λ (d : Digits). d.width) e ∙ width_single row in
      let n : (v x.0).bits ∷ [] ≡ unwrap_or (slice_get (numbers_of v row) k) 0 ∷ [] =
      ap (λ (d : Digits). d.words) e ∙ ap (λ z. unwrap_or (slice_get z k) (replicate (words_in (singles row)) 0)) (rows_single row)
      ∙ ap (unwrap_or (slice_get (map single (numbers_of v row)) k)) (zeros_single row l) ∙ get_single (numbers_of v row) k in
      let b : (v x.0).bits ≡ unwrap_or (slice_get (numbers_of v row) k) 0 = ap head n in
      ap (λ z. word z (v x.0).bits) w ∙ ap (word (row_width v row)) b
  read_is row (x ∷ y ∷ ys) k l c e = absurd (omega (arith, c))

  -- rows of one word are what their first words are
  firsts_are : (rows : List (List Id)) → All (λ (row : List Id). length row ≡ 1) rows → map (numbers_of v) rows ≡ map single (numbers_of v (map first rows))
  firsts_are [] h = refl
  firsts_are ([] ∷ rows) h = absurd (omega (arith, All-head (λ (row : List Id). length row ≡ 1) [] rows h))
  firsts_are ((x ∷ []) ∷ rows) h = ap (λ z. ((v x.0).bits ∷ []) ∷ z) (firsts_are rows (All-tail (λ (row : List Id). length row ≡ 1) (x ∷ []) rows h))
  firsts_are ((x ∷ y ∷ ys) ∷ rows) h = absurd (omega (arith, All-head (λ (row : List Id). length row ≡ 1) (x ∷ y ∷ ys) rows h))

  firsts_width : (rows : List (List Id)) → All (λ (row : List Id). length row ≡ 1) rows → row_width v (map first rows) ≡ table_width v rows
  firsts_width [] h = refl
  firsts_width ([] ∷ rows) h = absurd (omega (arith, All-head (λ (row : List Id). length row ≡ 1) [] rows h))
  firsts_width ((x ∷ xs) ∷ rows) h = refl

  pub write_is : (row : List Id) (a : Id) (answer : List (List Id)) (k : ℕ) → All (λ (row : List Id). length row ≡ 1) answer →
      table_of v answer ≡ table_write (table_of v (singles row)) k (row_of v (single a)) → row_of v (map first answer) ≡ row_write (row_of v row) k (v a.0)
  write_is row a answer k c e =
      let w : row_width v (map first answer) ≡ row_width v row = firsts_width answer c ∙ ap (λ (g : Grid). g.width) e ∙ width_single row in
      let n : numbers_of v (map first answer) ≡ slice_set (numbers_of v row) k (v a.0).bits =
      same_singles (numbers_of v (map first answer)) (slice_set (numbers_of v row) k (v a.0).bits)
      (sym (firsts_are answer c) ∙ ap (λ (g : Grid). g.rows) e ∙ ap (λ z. slice_set z k ((v a.0).bits ∷ [])) (rows_single row)
      ∙ set_single (numbers_of v row) k (v a.0).bits) in
      ap (λ z. digits z (numbers_of v (map first answer))) w ∙ ap (digits (row_width v row)) n

-- what the calls say of their answers
pub first_is : (answer : List Id) → first answer ≡ get_or answer 0 (record { 0 = 0 })
first_is [] = refl
first_is (a ∷ answer) = refl

pub read_value : (nodes : List Node) (row answer : List Id) (table : List (List Id)) (at x : Id) → 1 ≤ length row → table ≡ singles row →
    IsRead nodes table at answer → length answer ≡ 1 → first answer ≡ x →
    IsWordRead nodes row at x
read_value nodes row answer table at x l e h c f =
    subst (IsWordRead nodes row at) f (λ inputs fit.
    let r = subst (λ z. IsRead nodes z at answer) e h in
    read_is (value_of inputs nodes) row answer (value_of inputs nodes at.0).bits l c (r inputs fit))

pub write_value : (nodes : List Node) (row : List Id) (table answer : List (List Id)) (at w : Id) (one : List Id) → table ≡ singles row →
    one ≡ single w → IsWritten nodes table at one answer →
    All (λ (row : List Id). length row ≡ 1) answer → IsWordWritten nodes row at w (map first answer)
write_value nodes row table answer at w one e g h c =
    let r = subst (λ z. IsWritten nodes (singles row) at z answer) g (subst (λ z. IsWritten nodes z at one answer) e h) in
    λ inputs fit. write_is (value_of inputs nodes) row w answer (value_of inputs nodes at.0).bits c (r inputs fit)

pub counts : (nodes : List Node) (n w : ℕ) (rows : List (List Id)) → All (IsRow nodes n w) rows → All (λ (row : List Id). length row ≡ n) rows
counts nodes n w rows h = All-weaker (IsRow nodes n w) (λ (row : List Id). length row ≡ n) (λ row i. i.count) rows h

pub store_ready : (nodes : List Node) (row one : List Id) (table : List (List Id)) (w : Id) → table ≡ singles row → one ≡ single w →
    CanWrite nodes row w → CanStore nodes table one
store_ready nodes row one table w e g h = subst (λ z. CanStore nodes z one) (sym e) (subst (CanStore nodes (singles row)) (sym g) (singles_store nodes row w h))

pub table_ready : (nodes : List Node) (row : List Id) (table : List (List Id)) (h : RowStands nodes row) → table ≡ singles row → IsTable nodes 1 h.width table
table_ready nodes row table h e = subst (IsTable nodes 1 h.width) (sym e) (single_table nodes row h)

pub row_ready : (nodes : List Node) (row one : List Id) (w : Id) (h : CanWrite nodes row w) → one ≡ single w → IsRow nodes 1 (h.stands).width one
row_ready nodes row one w h g = subst (IsRow nodes 1 (h.stands).width) (sym g) (write_row nodes row w h)

pub firsts_ready : (nodes : List Node) (w : ℕ) (answer rows : List (List Id)) → rows ≡ answer → IsTable nodes 1 w answer →
    All (λ (row : List Id). 1 ≤ length row) rows
firsts_ready nodes w answer rows e h =
    subst (All (λ (row : List Id). 1 ≤ length row)) (sym e)
    (All-weaker (IsRow nodes 1 w) (λ (row : List Id). 1 ≤ length row) (λ row i. omega (arith, i.count)) answer h.rows)

pub written : {E : Type 0} (nodes : List Node) (row : List Id) (answer rows : List (List Id)) (at w : Id) (r : Result (List Id) E) →
    IfOk r (λ x. x ≡ map first rows) → rows ≡ answer →
    IsWordWritten nodes row at w (map first answer) → IfOk r (IsWordWritten nodes row at w)
written nodes row answer rows at w (Ok x) e g h = subst (IsWordWritten nodes row at w) (sym (e ∙ ap (map first) g)) h
written nodes row answer rows at w (Err y) e g h = tt

firsts_wide : (nodes : List Node) (w : ℕ) (rows : List (List Id)) → All (IsRow nodes 1 w) rows → All (λ (a : Id). HasWidth nodes a w) (map first rows)
firsts_wide nodes w [] q = All-nil (λ (a : Id). HasWidth nodes a w)
firsts_wide nodes w ([] ∷ rows) q = let r = All-head (IsRow nodes 1 w) [] rows q in absurd (omega (arith, r.count))
firsts_wide nodes w ((a ∷ row) ∷ rows) q =
    let r = All-head (IsRow nodes 1 w) (a ∷ row) rows q in
    All-cons (λ (a : Id). HasWidth nodes a w) a (map first rows) (r.wide 0 a (omega arith))
    (firsts_wide nodes w rows (All-tail (IsRow nodes 1 w) (a ∷ row) rows q))

firsts_count : (rows : List (List Id)) → length (map first rows) ≡ length rows
firsts_count [] = refl
firsts_count (row ∷ rows) = omega (arith, firsts_count rows)

-- the first words of rows of one word are a row
pub firsts_row : (nodes : List Node) (w n : ℕ) (rows : List (List Id)) → length rows ≡ n → All (IsRow nodes 1 w) rows → IsRow nodes n w (map first rows)
firsts_row nodes w n rows e q = record { count = firsts_count rows ∙ e; wide = firsts_wide nodes w rows q }

pub singles_count : (row : List Id) → length (singles row) ≡ length row
singles_count = map_length single

-- a row that stands is of the shape that all its words have
same_shape : (nodes : List Node) (row : List Id) (h : RowStands nodes row) (n w : ℕ) → IsRow nodes n w row → IsShape (shape.Row n w) × (w ≡ h.width)
same_shape nodes row h n w p =
    let i = h.is in
    let l = h.limits in
    let a : Id = record { 0 = 0 } in
    let some : 0 < length row = omega (arith, i.count, l.0.0) in
    let words : h.words ≡ n = sym i.count ∙ p.count in
    let both : Some w ≡ Some h.width = sym (p.wide 0 a some) ∙ i.wide 0 a some in
    let width : w ≡ h.width = cc in
    (subst (λ z. IsShape (shape.Row n z)) (sym width) (subst (λ z. IsShape (shape.Row z h.width)) words l), width)

-- what a call needs of a row in each shape that it has
pub own_table : (nodes : List Node) (row : List Id) (table : List (List Id)) (h : RowStands nodes row) (n w : ℕ) → IsRow nodes n w row →
    table ≡ singles row → IsTable nodes 1 w table
own_table nodes row table h n w p e =
    let s = same_shape nodes row h n w p in
    table_ready nodes row table (record { words = n; width = w; limits = s.0; is = p }) e

pub own_row : (nodes : List Node) (row one : List Id) (a : Id) (h : CanWrite nodes row a) (n w : ℕ) → IsRow nodes n w row → one ≡ single a → IsRow nodes 1 w one
own_row nodes row one a h n w p e =
    let s = same_shape nodes row h.stands n w p in
    subst (IsRow nodes 1 w) (sym e) (single_row nodes w a (subst (λ z. HasWidth nodes a z) (sym s.1) h.word_has))

-- the shapes of what the calls answer
pub first_has : (nodes : List Node) (w : ℕ) (answer words : List Id) (a : Id) → words ≡ answer → IsRow nodes 1 w answer → HasWidth nodes (get_or words 0 a) w
first_has nodes w answer words a e r = subst (λ z. HasWidth nodes (get_or z 0 a) w) (sym e) (r.wide 0 a (omega (arith, r.count)))

pub firsts_shaped : {E : Type 0} (nodes : List Node) (n w : ℕ) (answer rows : List (List Id)) (r : Result (List Id) E) →
    IfOk r (λ x. x ≡ map first rows) → rows ≡ answer → length answer ≡ n → All (IsRow nodes 1 w) answer → IfOk r (IsRow nodes n w)
firsts_shaped nodes n w answer rows (Ok x) e g c h =
    subst (IsRow nodes n w) (sym (e ∙ ap (map first) g)) (firsts_row nodes w n answer c h)
firsts_shaped nodes n w answer rows (Err y) e g c h = tt
