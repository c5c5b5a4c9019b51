-- What holds of terms among nodes holds of them among more nodes, and what it lets be made.
use Rattle.std.proofs.Common.{◌≡◌, ◌<◌, ℕ, List, [], ◌∷◌, length, get_or, All, refl, sym, ap, ◌∙◌, subst, arith}
use Rattle.std.proofs.lemmas.List.Elements.{All-weaker}
use Rattle.ygg_shape_words.specs.ygg_bank_proofs_Widths.{wider, stands, width_is}
use Rattle.ygg_value.specs.declared.shape.Shape.{Shape}
use Rattle.ygg_value.specs.declared.shape.Shape.TheVariants as shape
use Rattle.ygg_shape_words.specs.ygg_bank.Nodes.{width_at, widths_of, HasWidth, Stands, CanPick, Extends}
use Rattle.ygg_shape_words.specs.ygg_bank.declared.node.Id.{Id}
use Rattle.ygg_shape_words.specs.ygg_bank.declared.node.Node.{Node}
use Rattle.ygg_shape_words.proofs.Fit.{can_pick}
use Rattle.ygg_shape_words.specs.Forms.{WordsAlike}
use Rattle.ygg_shape_cells.specs.Making.{width_in}
use Rattle.ygg_shape_cells.specs.Terms.{IsRow, IsTable, HasShape, IsShaped, AreShaped, AreAlike, RowsAlike, TablesAlike, TableStands, words_in}
use Rattle.ygg_shape_cells.specs.declared.terms.SymValue.{SymValue}
use Rattle.ygg_shape_cells.specs.declared.terms.SymValue.TheVariants.{Word, Row, Table}

-- the term stands among the nodes with this width
abbrev pub IsWide : List Node → ℕ → Id → Type 0
IsWide nodes w a = HasWidth nodes a w

pub all_wider : (old new : List Node) (w : ℕ) (row : List Id) → Extends old new → All (IsWide old w) row → All (IsWide new w) row
all_wider old new w row g h = All-weaker (IsWide old w) (IsWide new w) (λ a. wider old new a w g) row h

pub row_wider : (old new : List Node) (n w : ℕ) (row : List Id) → Extends old new → IsRow old n w row → IsRow new n w row
row_wider old new n w row g h = record { count = h.count; wide = all_wider old new w row g h.wide }

pub rows_wider : (old new : List Node) (n w : ℕ) (rows : List (List Id)) → Extends old new → All (IsRow old n w) rows → All (IsRow new n w) rows
rows_wider old new n w rows g h = All-weaker (IsRow old n w) (IsRow new n w) (λ row. row_wider old new n w row g) rows h

pub table_wider : (old new : List Node) (n w : ℕ) (table : List (List Id)) → Extends old new → IsTable old n w table → IsTable new n w table
table_wider old new n w table g h = record { limits = h.limits; rows = rows_wider old new n w table g h.rows }

-- a value among more nodes
pub has_wider : (old new : List Node) (s : Shape) (x : SymValue) → Extends old new → HasShape old s x → HasShape new s x
has_wider old new (shape.Word w) (Word a) g h = wider old new a w g h
has_wider old new (shape.Word w) (Row row) g h = absurd h
has_wider old new (shape.Word w) (Table table) g h = absurd h
has_wider old new (shape.Row n w) (Word a) g h = absurd h
has_wider old new (shape.Row n w) (Row row) g h = row_wider old new n w row g h
has_wider old new (shape.Row n w) (Table table) g h = absurd h
has_wider old new (shape.Table m n w) (Word a) g h = absurd h
has_wider old new (shape.Table m n w) (Row row) g h = absurd h
has_wider old new (shape.Table m n w) (Table table) g h =
    (h.0, table_wider old new n w table g h.1)

pub shaped_wider : (old new : List Node) (s : Shape) (x : SymValue) → Extends old new → IsShaped old s x → IsShaped new s x
shaped_wider old new s x g h = record { limits = h.limits; has = has_wider old new s x g h.has }

pub all_shaped_wider : (old new : List Node) (shapes : List Shape) (xs : List SymValue) → Extends old new → AreShaped old shapes xs → AreShaped new shapes xs
all_shaped_wider old new [] [] g h = tt
all_shaped_wider old new [] (x ∷ xs) g h = absurd h
all_shaped_wider old new (s ∷ shapes) [] g h = absurd h
all_shaped_wider old new (s ∷ shapes) (x ∷ xs) g h = (shaped_wider old new s x g h.0, all_shaped_wider old new shapes xs g h.1)

-- the item at a place of a list, all of whose items have the property
at_place : {X : Type 0} (P : X → Type 0) (xs : List X) (i : ℕ) (x d : X) → i < length xs → x ≡ get_or xs i d → All P xs → P x
at_place P xs i x d l e h = subst P (sym e) (h i d l)

-- words at one place of two rows of one shape
pub words_at : (old new : List Node) (xs ys : List Id) (i : ℕ) (d : Id) → Extends old new → RowsAlike old xs ys → i < length xs →
    WordsAlike new (get_or xs i d) (get_or ys i d)
words_at old new xs ys i d g h l =
    let p = h.one_is in let q = h.two_is in record {
      width = h.width;
      one_has = wider old new (get_or xs i d) h.width g (p.wide i d l);
      two_has = wider old new (get_or ys i d) h.width g (q.wide i d (omega (arith, p.count, q.count)));
    }

pub pick_at : (old new : List Node) (t : Id) (xs ys : List Id) (i : ℕ) (d : Id) → Extends old new → HasWidth old t 1 → RowsAlike old xs ys → i < length xs →
    CanPick new t (get_or xs i d) (get_or ys i d)
pick_at old new t xs ys i d g h r l =
    let w = words_at old new xs ys i d g r l in can_pick new t (get_or xs i d) (get_or ys i d) w.width (wider old new t 1 g h) w.one_has w.two_has

-- rows at one place of two lists of rows of one shape
pub rows_at : (old new : List Node) (xs ys : List (List Id)) (i : ℕ) (x dx y dy : List Id) → Extends old new → TablesAlike old xs ys → i < length xs →
    x ≡ get_or xs i dx → y ≡ get_or ys i dy → RowsAlike new x y
rows_at old new xs ys i x dx y dy g h l e f = record {
  words = h.words;
  width = h.width;
  one_is = row_wider old new h.words h.width x g (at_place (IsRow old h.words h.width) xs i x dx l e h.one_are);
  two_is = row_wider old new h.words h.width y g (at_place (IsRow old h.words h.width) ys i y dy (omega (arith, h.count)) f h.two_are);
}

-- a row at a place
pub row_at : (old new : List Node) (n w : ℕ) (rows : List (List Id)) (i : ℕ) (x d : List Id) → Extends old new → All (IsRow old n w) rows →
    i < length rows → x ≡ get_or rows i d →
    IsRow new n w x
row_at old new n w rows i x d g h l e = row_wider old new n w x g (at_place (IsRow old n w) rows i x d l e h)

pub rows_alike_wider : (old new : List Node) (one two x y : List Id) → Extends old new → RowsAlike old one two → x ≡ one → y ≡ two → RowsAlike new x y
rows_alike_wider old new one two x y g h e f =
    subst (λ z. RowsAlike new z y) (sym e) (subst (RowsAlike new one) (sym f) (record {
      words = h.words;
      width = h.width;
      one_is = row_wider old new h.words h.width one g h.one_is;
      two_is = row_wider old new h.words h.width two g h.two_is;
    }))

pub tables_alike_wider : (old new : List Node) (one two x y : List (List Id)) → Extends old new → TablesAlike old one two → x ≡ one → y ≡ two →
    TablesAlike new x y
tables_alike_wider old new one two x y g h e f =
    subst (λ z. TablesAlike new z y) (sym e) (subst (TablesAlike new one) (sym f) (record {
      words = h.words;
      width = h.width;
      count = h.count;
      one_are = rows_wider old new h.words h.width one g h.one_are;
      two_are = rows_wider old new h.words h.width two g h.two_are;
    }))

-- what two values of one shape are made of
words_case : (nodes : List Node) (s : Shape) (a b : Id) → HasShape nodes s (Word a) → HasShape nodes s (Word b) → WordsAlike nodes a b
words_case nodes (shape.Word w) a b p q = record { width = w; one_has = p; two_has = q }
words_case nodes (shape.Row n w) a b p q = absurd p
words_case nodes (shape.Table m n w) a b p q = absurd p

rows_case : (nodes : List Node) (s : Shape) (a b : List Id) → HasShape nodes s (Row a) → HasShape nodes s (Row b) → RowsAlike nodes a b
rows_case nodes (shape.Word w) a b p q = absurd p
rows_case nodes (shape.Row n w) a b p q = record { words = n; width = w; one_is = p; two_is = q }
rows_case nodes (shape.Table m n w) a b p q = absurd p

tables_case : (nodes : List Node) (s : Shape) (a b : List (List Id)) → HasShape nodes s (Table a) → HasShape nodes s (Table b) → TablesAlike nodes a b
tables_case nodes (shape.Word w) a b p q = absurd p
tables_case nodes (shape.Row n w) a b p q = absurd p
tables_case nodes (shape.Table m n w) a b p q =
    let h = p.1 in let k = q.1 in record { words = n; width = w; count = p.0 ∙ sym q.0; one_are = h.rows; two_are = k.rows }

pub alike_words : (nodes : List Node) (one two : SymValue) (a b : Id) → AreAlike nodes one two → one ≡ Word a → two ≡ Word b → WordsAlike nodes a b
alike_words nodes one two a b h e f = words_case nodes h.shape a b (subst (HasShape nodes h.shape) e h.one_has) (subst (HasShape nodes h.shape) f h.two_has)

pub alike_rows : (nodes : List Node) (one two : SymValue) (a b : List Id) → AreAlike nodes one two → one ≡ Row a → two ≡ Row b → RowsAlike nodes a b
alike_rows nodes one two a b h e f = rows_case nodes h.shape a b (subst (HasShape nodes h.shape) e h.one_has) (subst (HasShape nodes h.shape) f h.two_has)

pub alike_tables : (nodes : List Node) (one two : SymValue) (a b : List (List Id)) → AreAlike nodes one two → one ≡ Table a → two ≡ Table b →
    TablesAlike nodes a b
alike_tables nodes one two a b h e f = tables_case nodes h.shape a b (subst (HasShape nodes h.shape) e h.one_has) (subst (HasShape nodes h.shape) f h.two_has)

-- the first row of a table, and its first word
pub first_row : (nodes : List Node) (table : List (List Id)) (x d : List Id) (n w : ℕ) → IsTable nodes n w table → x ≡ get_or table 0 d → IsRow nodes n w x
first_row nodes table x d n w h e = at_place (IsRow nodes n w) table 0 x d (let l = h.limits in omega arith) e h.rows

pub first_word : (nodes : List Node) (table : List (List Id)) (x d : List Id) (a : Id) → TableStands nodes table → x ≡ get_or table 0 d →
    Stands nodes (get_or x 0 a)
first_word nodes table x d a h e =
    let i = h.is in let l = i.limits in
    let r = first_row nodes table x d h.words h.width i e in
    stands nodes (get_or x 0 a) h.width (r.wide 0 a (omega (arith, r.count)))

pub words_in_is : (table : List (List Id)) (x d : List Id) → 0 < length table → x ≡ get_or table 0 d → words_in table ≡ length x
words_in_is [] x d l e = absurd (omega arith)
words_in_is (row ∷ rows) x d l e = ap length (sym e)

pub width_in_is : (nodes : List Node) (table : List (List Id)) (x d : List Id) (a : Id) → 0 < length table → x ≡ get_or table 0 d → 0 < length x →
    width_in nodes table ≡ width_at (widths_of nodes) (get_or x 0 a)
width_in_is nodes [] x d a l e p = absurd (omega arith)
width_in_is nodes ([] ∷ rows) x d a l e p = absurd (omega (arith, ap length e))
width_in_is nodes ((b ∷ row) ∷ rows) x d a l e p = ap (λ z. width_at (widths_of nodes) (get_or z 0 a)) (sym e)

pub words_in_table : (nodes : List Node) (table : List (List Id)) (n w : ℕ) → IsTable nodes n w table → words_in table ≡ n
words_in_table nodes table n w h =
    let l = h.limits in
    let r = first_row nodes table (get_or table 0 []) [] n w h refl in words_in_is table (get_or table 0 []) [] (omega arith) refl ∙ r.count

pub width_in_table : (nodes : List Node) (table : List (List Id)) (n w : ℕ) → IsTable nodes n w table → width_in nodes table ≡ w
width_in_table nodes table n w h =
    let l = h.limits in
    let r = first_row nodes table (get_or table 0 []) [] n w h refl in
    let a : Id = record { 0 = 0 } in
    let p : 0 < length (get_or table 0 []) = omega (arith, r.count) in
    width_in_is nodes table (get_or table 0 []) [] a (omega arith) refl p ∙ width_is nodes (get_or (get_or table 0 []) 0 a) w (r.wide 0 a p)
