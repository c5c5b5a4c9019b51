-- What replaced values are worth.
use Rattle.std.proofs.Common.{
  ◌≡◌,
  ◌==◌,
  ℕ,
  Bool,
  true,
  false,
  not,
  ◌&&◌,
  if◌then◌else◌,
  Some,
  Result,
  Ok,
  Err,
  IfOk,
  List,
  [],
  ◌∷◌,
  length,
  map,
  All,
  refl,
  sym,
  ap,
  ◌∙◌,
  subst,
  arith,
}
use Rattle.std.proofs.lemmas.Bool.Decides.{Decides-eqb}
use Rattle.std.proofs.lemmas.List.Elements.{All-head, All-tail, All-map, All-weaker}
use Rattle.ygg_value.specs.Number.{Number, Digits, Grid}
use Rattle.ygg_value.specs.Shapes.{IsShape}
use Rattle.ygg_value.specs.Words.{word, apply_to, bit_of}
use Rattle.ygg_value.specs.declared.operation.Op.TheVariants.{Imp}
use Rattle.ygg_value.specs.declared.row.Value.TheVariants as value
use Rattle.ygg_value.specs.declared.shape.Shape.{Shape}
use Rattle.ygg_value.specs.declared.shape.Shape.TheVariants as shape
use Rattle.ygg_shape_cells.specs.ygg_bank.Nodes.{HasWidth}
use Rattle.ygg_shape_cells.specs.ygg_bank.Values.{Values, value_of}
use Rattle.ygg_shape_cells.specs.ygg_bank.declared.node.Id.{Id}
use Rattle.ygg_shape_cells.specs.ygg_bank.declared.node.Node.{Node}
use Rattle.ygg_shape_cells.specs.Terms.{IsRow, HasShape, numbers_of, row_width, table_width, words_in, worth}
use Rattle.ygg_shape_cells.specs.declared.terms.SymValue.{SymValue}
use Rattle.ygg_shape_cells.specs.declared.terms.SymValue.TheVariants.{Word, Row, Table}
use Rattle.ygg_shape.specs.Replacing.{replaced_word, replaced_row, replaced_value, AreFit, AreTrueUnder, KeepsUnder}
use Rattle.ygg_shape.specs.declared.replacing.Replacement.{Replacement}
use Rattle.ygg_shape_cells.specs.ygg_shape_words.Forms.{WordsAlike}

map_length : {X Y : Type 0} (f : X → Y) (xs : List X) → length (map f xs) ≡ length xs
map_length f [] = refl
map_length f (x ∷ xs) = omega (arith, map_length f xs)

-- widths and shapes
fit_case : (nodes : List Node) (r : Replacement) (rs : List Replacement) (w : ℕ) (a : Id) (t : Bool) → (r.input.0 == a.0) ≡ t →
    WordsAlike nodes r.input r.term → HasWidth nodes a w →
    HasWidth nodes (replaced_word rs a) w → HasWidth nodes (if t then r.term else replaced_word rs a) w
fit_case nodes r rs w a true e h d k =
    let same : r.input.0 ≡ a.0 = (Decides-eqb r.input.0 a.0).0 e in
    let p : HasWidth nodes a h.width = subst (λ z. HasWidth nodes (record { 0 = z }) h.width) same h.one_has in
    let f : Some h.width ≡ Some w = sym p ∙ d in h.two_has ∙ f
fit_case nodes r rs w a false e h d k = k

word_fits : (nodes : List Node) (rs : List Replacement) (w : ℕ) (a : Id) → AreFit nodes rs → HasWidth nodes a w → HasWidth nodes (replaced_word rs a) w
word_fits nodes [] w a h d = d
word_fits nodes (r ∷ rs) w a h d =
    let P = λ (r : Replacement). WordsAlike nodes r.input r.term in
    fit_case nodes r rs w a (r.input.0 == a.0) refl (All-head P r rs h) d (word_fits nodes rs w a (All-tail P r rs h) d)

row_fits : (nodes : List Node) (rs : List Replacement) (n w : ℕ) (row : List Id) → AreFit nodes rs → IsRow nodes n w row → IsRow nodes n w (replaced_row rs row)
row_fits nodes rs n w row h d = record {
  count = map_length (replaced_word rs) row ∙ d.count;
  wide = All-map (λ a. HasWidth nodes a w) (replaced_word rs) row
      (All-weaker (λ a. HasWidth nodes a w) (λ a. HasWidth nodes (replaced_word rs a) w) (λ a. word_fits nodes rs w a h) row d.wide);
}

pub value_fits : (nodes : List Node) (rs : List Replacement) (s : Shape) (x : SymValue) → AreFit nodes rs → HasShape nodes s x →
    HasShape nodes s (replaced_value rs x)
value_fits nodes rs (shape.Word w) (Word a) h d = word_fits nodes rs w a h d
value_fits nodes rs (shape.Row n w) (Row row) h d = row_fits nodes rs n w row h d
value_fits nodes rs (shape.Table k n w) (Table table) h d =
    let t = d.1 in
    let size = map_length (replaced_row rs) table in (
      size ∙ d.0,
      record {
        limits = subst (λ z. IsShape (shape.Table z n w)) (sym size) t.limits;
        rows = All-map (IsRow nodes n w) (replaced_row rs) table
            (All-weaker (IsRow nodes n w) (λ row. IsRow nodes n w (replaced_row rs row)) (λ row. row_fits nodes rs n w row h) table t.rows);
      },
    )
value_fits nodes rs (shape.Word w) (Row row) h d = absurd d
value_fits nodes rs (shape.Word w) (Table row) h d = absurd d
value_fits nodes rs (shape.Row n w) (Word row) h d = absurd d
value_fits nodes rs (shape.Row n w) (Table row) h d = absurd d
value_fits nodes rs (shape.Table k n w) (Word row) h d = absurd d
value_fits nodes rs (shape.Table k n w) (Row row) h d = absurd d

-- a row and a table of numbers
abbrev digits : ℕ → List ℕ → Digits
digits w ns = record { width = w; words = ns }

abbrev grid : ℕ → ℕ → List (List ℕ) → Grid
grid w n rows = record { width = w; words = n; rows = rows }

module _ (v : Values) where
  -- each term has its input's value
  abbrev pub AreTrue : List Replacement → Type 0
  AreTrue = All (λ (r : Replacement). v r.input.0 ≡ v r.term.0)

  true_case : (r : Replacement) (rs : List Replacement) (a : Id) (t : Bool) → (r.input.0 == a.0) ≡ t → v r.input.0 ≡ v r.term.0 →
      v (replaced_word rs a).0 ≡ v a.0 →
      v (if t then r.term else replaced_word rs a).0 ≡ v a.0
  true_case r rs a true e h k = sym h ∙ ap v ((Decides-eqb r.input.0 a.0).0 e)
  true_case r rs a false e h k = k

  word_is : (rs : List Replacement) (a : Id) → AreTrue rs → v (replaced_word rs a).0 ≡ v a.0
  word_is [] a h = refl
  word_is (r ∷ rs) a h =
      let P = λ (r : Replacement). v r.input.0 ≡ v r.term.0 in
      true_case r rs a (r.input.0 == a.0) refl (All-head P r rs h) (word_is rs a (All-tail P r rs h))

  numbers_are : (rs : List Replacement) (row : List Id) → AreTrue rs → numbers_of v (replaced_row rs row) ≡ numbers_of v row
  numbers_are rs [] h = refl
  numbers_are rs (a ∷ row) h =
      ap (λ (z : Number). z.bits ∷ numbers_of v (replaced_row rs row)) (word_is rs a h) ∙ ap (λ z. (v a.0).bits ∷ z) (numbers_are rs row h)

  width_is : (rs : List Replacement) (row : List Id) → AreTrue rs → row_width v (replaced_row rs row) ≡ row_width v row
  width_is rs [] h = refl
  width_is rs (a ∷ row) h = ap (λ (z : Number). z.width) (word_is rs a h)

  rows_are : (rs : List Replacement) (table : List (List Id)) → AreTrue rs → map (numbers_of v) (map (replaced_row rs) table) ≡ map (numbers_of v) table
  rows_are rs [] h = refl
  rows_are rs (row ∷ table) h = ap (λ z. z ∷ map (numbers_of v) (map (replaced_row rs) table)) (numbers_are rs row h)
      ∙ ap (λ z. numbers_of v row ∷ z) (rows_are rs table h)

  table_width_is : (rs : List Replacement) (table : List (List Id)) → AreTrue rs → table_width v (map (replaced_row rs) table) ≡ table_width v table
  table_width_is rs [] h = refl
  table_width_is rs (row ∷ table) h = width_is rs row h

  words_are : (rs : List Replacement) (table : List (List Id)) → words_in (map (replaced_row rs) table) ≡ words_in table
  words_are rs [] = refl
  words_are rs (row ∷ table) = map_length (replaced_word rs) row

  -- a replaced value is worth what the value is
  pub value_is : (rs : List Replacement) (x : SymValue) → AreTrue rs → worth v (replaced_value rs x) ≡ worth v x
  value_is rs (Word a) h = ap value.Word (word_is rs a h)
  value_is rs (Row row) h =
      ap value.Row (ap (λ z. digits z (numbers_of v (replaced_row rs row))) (width_is rs row h) ∙ ap (digits (row_width v row)) (numbers_are rs row h))
  value_is rs (Table table) h =
      ap value.Table (ap (λ z. grid z (words_in (map (replaced_row rs) table)) (map (numbers_of v) (map (replaced_row rs) table))) (table_width_is rs table h)
      ∙ ap (λ z. grid (table_width v table) z (map (numbers_of v) (map (replaced_row rs) table))) (words_are rs table)
      ∙ ap (grid (table_width v table) (words_in table)) (rows_are rs table h))

-- an implication sees its conclusion only where the hypothesis is 1
pub implied : (h c d : Number) → (h.bits ≡ 1 → c ≡ d) → apply_to Imp h c ≡ apply_to Imp h d
implied h c d e = implied_case (h.bits == 1) refl where
  implied_case : (t : Bool) → (h.bits == 1) ≡ t → apply_to Imp h c ≡ apply_to Imp h d
  implied_case true f = ap (apply_to Imp h) (e ((Decides-eqb h.bits 1).0 f))
  implied_case false f = ap (λ t. word 1 (bit_of (not (t && (c.bits == 0))))) f ∙ sym (ap (λ t. word 1 (bit_of (not (t && (d.bits == 0))))) f)

-- a conclusion made from a replaced state is implied as the one made from the state: f says what the conclusion is worth, of what the state is worth
pub implied_by_state : {S : Type 0} (h : Number) (f : S → Number) (from to : S) (c : Number) → c ≡ f to → (h.bits ≡ 1 → to ≡ from) →
    apply_to Imp h c ≡ apply_to Imp h (f from)
implied_by_state h f from to c e k = implied h c (f from) (λ one. e ∙ ap f (k one))

-- a hypothesis made from a replaced state is 1 where the hypothesis is
pub hypothesis_again : {S : Type 0} (h g : Number) (f : S → Number) (from to : S) → h ≡ f from → g ≡ f to → (h.bits ≡ 1 → to ≡ from) → h.bits ≡ 1 → g.bits ≡ 1
hypothesis_again h g f from to e k s one = ap (λ (z : Number). z.bits) (k ∙ ap f (s one) ∙ sym e) ∙ one

pub replaced_shape : {E : Type 0} (nodes : List Node) (rs : List Replacement) (s : Shape) (x : SymValue) (r : Result SymValue E) →
    IfOk r (λ answer. answer ≡ replaced_value rs x) → AreFit nodes rs →
    HasShape nodes s x → IfOk r (HasShape nodes s)
replaced_shape nodes rs s x (Ok answer) e h d = subst (HasShape nodes s) (sym e) (value_fits nodes rs s x h d)
replaced_shape nodes rs s x (Err y) e h d = tt

pub replaced_keeps : {E : Type 0} (nodes : List Node) (hypothesis : Id) (rs : List Replacement) (x : SymValue) (r : Result SymValue E) →
    IfOk r (λ answer. answer ≡ replaced_value rs x) →
    AreTrueUnder nodes hypothesis rs → IfOk r (KeepsUnder nodes hypothesis x)
replaced_keeps nodes hypothesis rs x (Ok answer) e h = λ inputs fit one. ap (worth (value_of inputs nodes)) e
    ∙ value_is (value_of inputs nodes) rs x (h inputs fit one)
replaced_keeps nodes hypothesis rs x (Err y) e h = tt
