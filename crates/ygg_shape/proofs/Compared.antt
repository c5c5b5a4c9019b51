-- What compared rows, tables and values are worth, and what the public calls say of it.
use Rattle.std.proofs.Common.{
  ◌≡◌,
  ◌==◌,
  ℕ,
  Bool,
  true,
  false,
  ◌&&◌,
  List,
  [],
  ◌∷◌,
  length,
  Some,
  refl,
  sym,
  ap,
  ◌∙◌,
  subst,
  arith,
  map,
  All,
  ◌≤◌,
  Result,
  Ok,
  Err,
  OnOk,
  IfOk,
}
use Rattle.std.specs.Str.{bytes_eq}
use Rattle.std.proofs.lemmas.List.Elements.{All-head}
use Rattle.std.proofs.lemmas.Bool.Decides.{Decides-eqb}
use Rattle.ygg_value.specs.Shapes.{IsShape}
use Rattle.ygg_value.specs.Values.{rows_eq, same_value}
use Rattle.ygg_value.specs.Words.{word, apply_to, bit_of}
use Rattle.ygg_value.specs.Number.{IsWord}
use Rattle.ygg_value.specs.declared.operation.Op.TheVariants.{And}
use Rattle.ygg_value.specs.declared.shape.Shape.{Shape}
use Rattle.ygg_value.specs.declared.shape.Shape.TheVariants as shape
use Rattle.ygg_shape_cells.specs.ygg_rules.declared.rule.RuleKind.{RuleKind}
use Rattle.ygg_shape_cells.specs.ygg_bank_proofs_Exist.{values_fit}
use Rattle.ygg_shape_cells.specs.ygg_bank_proofs_Made.{made_grows}
use Rattle.ygg_shape_cells.specs.ygg_bank_proofs_Meaning.{fits_fewer}
use Rattle.ygg_shape_cells.specs.ygg_bank_proofs_Widths.{wider, width_is}
use Rattle.ygg_shape_cells.specs.ygg_bank.Making.{made}
use Rattle.ygg_shape_cells.specs.ygg_bank.Nodes.{HasWidth, Extends, IsBank}
use Rattle.ygg_shape_cells.specs.ygg_bank.Values.{Inputs, Values, Fits, value_of}
use Rattle.ygg_shape_cells.specs.ygg_bank.declared.node.Id.{Id}
use Rattle.ygg_shape_cells.specs.ygg_bank.declared.node.Node.{Node}
use Rattle.ygg_shape_cells.specs.ygg_bank.declared.node.Node.TheVariants.{Const, Bin}
use Rattle.ygg_shape_cells.specs.ygg_shape_words_proofs_Fit.{alike, can_and}
use Rattle.ygg_shape_cells.specs.ygg_shape_words_proofs_Terms.{TermIs, made_is, and_digits}
use Rattle.ygg_shape_sums.proofs.Equates.{equated_words_is}
use Rattle.ygg_shape_sums.specs.Equates.{equated_words}
use Rattle.ygg_shape_cells.proofs.Answered.{no_inputs, some_fit}
use Rattle.ygg_shape_cells.proofs.Tables.{rows_tail}
use Rattle.ygg_shape_cells.proofs.Wider.{row_wider, rows_wider, table_wider, words_in_table}
use Rattle.ygg_shape_cells.proofs.Words.{and_assoc}
use Rattle.ygg_shape_cells.proofs.Worth.{row_width_is, table_width_is}
use Rattle.ygg_shape_cells.specs.Terms.{IsRow, numbers_of, words_in, HasShape, row_width, table_width, worth, IsShaped, AreAlike}
use Rattle.ygg_shape_cells.specs.declared.terms.SymValue.{SymValue}
use Rattle.ygg_shape_cells.specs.declared.terms.SymValue.TheVariants.{Word, Row, Table}
use Rattle.ygg_shape.proofs.ComparedKeeps.{compared_row_grows, compared_rows_grows, compared_grows}
use Rattle.ygg_shape.proofs.EquateKeeps.{equated_rows_grows}
use Rattle.ygg_shape.proofs.Equates.{equated_rows_is}
use Rattle.ygg_shape.specs.Comparing.{compared_row, compared_rows, compared, IsCompared}
use Rattle.ygg_shape.specs.Equates.{equated_rows}

module _ (inputs : Inputs) (v : Values) (kinds : List RuleKind) where
  -- whether two rows are equal, joined to what is known so far
  pub compared_row_is : (n w : ℕ) (s : Bool) (so_far : Id) (xs ys : List Id) (nodes : List Node) → HasWidth nodes so_far 1 → IsRow nodes n w xs →
      IsRow nodes n w ys →
      v so_far.0 ≡ word 1 (bit_of s) → Fits inputs v (compared_row kinds so_far xs ys nodes).nodes →
      TermIs inputs v (compared_row kinds so_far xs ys nodes).nodes 1 (word 1 (bit_of (s && bytes_eq (numbers_of v xs) (numbers_of v ys))))
      (compared_row kinds so_far xs ys nodes).value
  compared_row_is n w s so_far xs ys nodes d p q e h =
      let o = equated_rows kinds xs ys nodes in
      let g = equated_rows_grows kinds xs ys nodes in
      let r = made kinds (Bin And so_far o.value) o.nodes in
      let x = equated_rows_is inputs v kinds xs ys nodes
      (record { width = w; count = p.count ∙ sym q.count; one_has = p.wide; two_has = q.wide })
      (fits_fewer inputs v o.nodes r.nodes (made_grows kinds (Bin And so_far o.value) o.nodes) h) in
      let c = wider nodes o.nodes so_far 1 g d in
      let y = made_is inputs v kinds (Bin And so_far o.value) o.nodes (can_and o.nodes so_far o.value 1 c x.wide) h in
      record {
        wide = y.wide ∙ ap (λ z. Some z) (width_is o.nodes so_far 1 c);
        is = y.is ∙ ap (λ z. apply_to And z (v o.value.0)) e ∙ ap (apply_to And (word 1 (bit_of s))) x.is
            ∙ and_digits s (bytes_eq (numbers_of v xs) (numbers_of v ys));
      }

module _ (inputs : Inputs) (v : Values) (kinds : List RuleKind) where
  pub compared_rows_is : (n w : ℕ) (s : Bool) (so_far : Id) (xs ys : List (List Id)) (nodes : List Node) → HasWidth nodes so_far 1 →
      All (IsRow nodes n w) xs → All (IsRow nodes n w) ys →
      length xs ≡ length ys → v so_far.0 ≡ word 1 (bit_of s) → Fits inputs v (compared_rows kinds so_far xs ys nodes).nodes →
      TermIs inputs v (compared_rows kinds so_far xs ys nodes).nodes 1
      (word 1 (bit_of (s && rows_eq (map (numbers_of v) xs) (map (numbers_of v) ys)))) (compared_rows kinds so_far xs ys nodes).value
  compared_rows_is n w s so_far [] [] nodes d p q c e h = record { wide = d; is = e ∙ ap (λ z. word 1 (bit_of z)) (and_true s) } where
    and_true : (s : Bool) → s ≡ (s && true)
    and_true true = refl
    and_true false = refl
  compared_rows_is n w s so_far [] (y ∷ ys) nodes d p q c e h = absurd (omega (arith, c))
  compared_rows_is n w s so_far (x ∷ xs) [] nodes d p q c e h = absurd (omega (arith, c))
  compared_rows_is n w s so_far (x ∷ xs) (y ∷ ys) nodes d p q c e h =
      let o = compared_row kinds so_far x y nodes in
      let g = compared_row_grows kinds so_far x y nodes in
      let here = bytes_eq (numbers_of v x) (numbers_of v y) in
      let a = compared_row_is inputs v kinds n w s so_far x y nodes d (All-head (IsRow nodes n w) x xs p) (All-head (IsRow nodes n w) y ys q) e
      (fits_fewer inputs v o.nodes (compared_rows kinds o.value xs ys o.nodes).nodes (compared_rows_grows kinds o.value xs ys o.nodes) h) in
      let r = compared_rows_is n w (s && here) o.value xs ys o.nodes a.wide (rows_tail inputs v kinds nodes o.nodes n w x xs g p)
      (rows_tail inputs v kinds nodes o.nodes n w y ys g q) (omega (arith, c)) a.is h in
      record { wide = r.wide; is = r.is ∙ ap (λ z. word 1 (bit_of z)) (and_assoc s here (rows_eq (map (numbers_of v) xs) (map (numbers_of v) ys))) }

module _ (inputs : Inputs) (v : Values) (kinds : List RuleKind) where
  -- a number equals itself
  same_number : (a b : ℕ) → a ≡ b → (a == b) ≡ true
  same_number a b e = (Decides-eqb a b).1 e

  both_true : (a b : Bool) → a ≡ true → b ≡ true → (a && b) ≡ true
  both_true true b e f = f
  both_true false b e f = absurd (cc)

  -- the constant 1
  one_word : IsWord (word 1 1)
  one_word = record { least = omega arith; most = omega arith; fits = omega arith }

  -- whether values of a shape are equal
  abbrev ComparedIs : SymValue → SymValue → List Node → Id → Type 0
  ComparedIs one two nodes answer = TermIs inputs v nodes 1 (word 1 (bit_of (same_value (worth v one) (worth v two)))) answer

  compared_words : (w : ℕ) (one two : SymValue) (nodes : List Node) → HasShape nodes (shape.Word w) one → HasShape nodes (shape.Word w) two →
      Extends nodes (compared kinds one two nodes).nodes → Fits inputs v (compared kinds one two nodes).nodes →
      ComparedIs one two (compared kinds one two nodes).nodes (compared kinds one two nodes).value
  compared_words w (Word a) (Word b) nodes p q g h =
      let m = equated_words_is inputs v kinds a b nodes (alike nodes a b w p q) h in
      let f = fits_fewer inputs v nodes (equated_words kinds a b nodes).nodes g h in
      let same = same_number (v a.0).width (v b.0).width (f.widths a.0 w p ∙ sym (f.widths b.0 w q)) in
      record { wide = m.wide; is = m.is ∙ ap (λ z. word 1 (bit_of (z && ((v a.0).bits == (v b.0).bits)))) (sym same) }
  compared_words w (Word a) (Row y) nodes p q g h = absurd q
  compared_words w (Word a) (Table y) nodes p q g h = absurd q
  compared_words w (Row x) two nodes p q g h = absurd p
  compared_words w (Table x) two nodes p q g h = absurd p

  compared_rowed : (n w : ℕ) (one two : SymValue) (nodes : List Node) → 1 ≤ n → HasShape nodes (shape.Row n w) one → HasShape nodes (shape.Row n w) two →
      Extends nodes (compared kinds one two nodes).nodes → Fits inputs v (compared kinds one two nodes).nodes →
      ComparedIs one two (compared kinds one two nodes).nodes (compared kinds one two nodes).value
  compared_rowed n w (Row x) (Row y) nodes l p q g h =
      let k = made kinds (Const (word 1 1)) nodes in
      let kg = made_grows kinds (Const (word 1 1)) nodes in
      let o = compared_row kinds k.value x y k.nodes in
      let a = made_is inputs v kinds (Const (word 1 1)) nodes one_word (fits_fewer inputs v k.nodes o.nodes (compared_row_grows kinds k.value x y k.nodes) h) in
      let m = compared_row_is inputs v kinds n w true k.value x y k.nodes a.wide (row_wider nodes k.nodes n w x kg p)
      (row_wider nodes k.nodes n w y kg q) a.is h in
      let same = same_number (row_width v x) (row_width v y)
      (row_width_is inputs v kinds o.nodes n w x h (row_wider nodes o.nodes n w x g p) l
      ∙ sym (row_width_is inputs v kinds o.nodes n w y h (row_wider nodes o.nodes n w y g q) l)) in
      record { wide = m.wide; is = m.is ∙ ap (λ z. word 1 (bit_of (z && bytes_eq (numbers_of v x) (numbers_of v y)))) (sym same) }
  compared_rowed n w (Row x) (Word y) nodes l p q g h = absurd q
  compared_rowed n w (Row x) (Table y) nodes l p q g h = absurd q
  compared_rowed n w (Word x) two nodes l p q g h = absurd p
  compared_rowed n w (Table x) two nodes l p q g h = absurd p

  compared_tables : (c n w : ℕ) (one two : SymValue) (nodes : List Node) → HasShape nodes (shape.Table c n w) one → HasShape nodes (shape.Table c n w) two →
      Extends nodes (compared kinds one two nodes).nodes → Fits inputs v (compared kinds one two nodes).nodes →
      ComparedIs one two (compared kinds one two nodes).nodes (compared kinds one two nodes).value
  compared_tables c n w (Table x) (Table y) nodes p q g h =
      let px = p.1 in let qy = q.1 in
      let k = made kinds (Const (word 1 1)) nodes in
      let kg = made_grows kinds (Const (word 1 1)) nodes in
      let o = compared_rows kinds k.value x y k.nodes in
      let a = made_is inputs v kinds (Const (word 1 1)) nodes one_word
      (fits_fewer inputs v k.nodes o.nodes (compared_rows_grows kinds k.value x y k.nodes) h) in
      let m = compared_rows_is inputs v kinds n w true k.value x y k.nodes a.wide (rows_wider nodes k.nodes n w x kg px.rows)
      (rows_wider nodes k.nodes n w y kg qy.rows) (p.0 ∙ sym q.0) a.is h in
      let tx = table_wider nodes o.nodes n w x g px in
      let ty = table_wider nodes o.nodes n w y g qy in
      let wide = same_number (table_width v x) (table_width v y)
      (table_width_is inputs v kinds o.nodes n w x h tx ∙ sym (table_width_is inputs v kinds o.nodes n w y h ty)) in
      let long = same_number (words_in x) (words_in y) (words_in_table o.nodes x n w tx ∙ sym (words_in_table o.nodes y n w ty)) in
      let rest = rows_eq (map (numbers_of v) x) (map (numbers_of v) y) in
      record {
        wide = m.wide;
        is = m.is ∙ ap (λ z. word 1 (bit_of (z && rest))) (sym (both_true (table_width v x == table_width v y) (words_in x == words_in y) wide long));
      }
  compared_tables c n w (Table x) (Word y) nodes p q g h = absurd q
  compared_tables c n w (Table x) (Row y) nodes p q g h = absurd q
  compared_tables c n w (Word x) two nodes p q g h = absurd p
  compared_tables c n w (Row x) two nodes p q g h = absurd p

  pub compared_is : (s : Shape) (one two : SymValue) (nodes : List Node) → IsShape s → HasShape nodes s one → HasShape nodes s two →
      Extends nodes (compared kinds one two nodes).nodes → Fits inputs v (compared kinds one two nodes).nodes →
      ComparedIs one two (compared kinds one two nodes).nodes (compared kinds one two nodes).value
  compared_is (shape.Word w) one two nodes l p q g h = compared_words w one two nodes p q g h
  compared_is (shape.Row n w) one two nodes l p q g h = compared_rowed n w one two nodes l.0.0 p q g h
  compared_is (shape.Table c n w) one two nodes l p q g h = compared_tables c n w one two nodes p q g h

module _ (inputs : Inputs) (v : Values) (kinds : List RuleKind) where
  pub compared_gives : (s : Shape) (a b : SymValue) (nodes : List Node) → IsShaped nodes s a → IsShaped nodes s b →
      Fits inputs v (compared kinds a b nodes).nodes →
      TermIs inputs v (compared kinds a b nodes).nodes 1 (word 1 (bit_of (same_value (worth v a) (worth v b)))) (compared kinds a b nodes).value
  compared_gives s a b nodes p q h = compared_is inputs v kinds s a b nodes p.limits p.has q.has (compared_grows kinds a b nodes) h

-- what the calls say of their answers
pub compared_width : {E : Type 0} (kinds : List RuleKind) (one two : SymValue) (old new : List Node) (r : Result Id E) → IsBank new → Extends old new →
    OnOk r (new ≡ (compared kinds one two old).nodes) → IfOk r (λ answer. answer ≡ (compared kinds one two old).value) → AreAlike old one two →
    IfOk r (λ (a : Id). HasWidth new a 1)
compared_width kinds one two old new (Ok answer) b x e g p =
    let o = compared kinds one two old in
    let m = compared_is no_inputs (value_of no_inputs o.nodes) kinds p.shape one two old p.limits p.one_has p.two_has (subst (Extends old) e x)
    (some_fit o.nodes (subst IsBank e b)) in
    subst (λ z. HasWidth z answer 1) (sym e) (subst (λ z. HasWidth o.nodes z 1) (sym g) m.wide)
compared_width kinds one two old new (Err x) b y e g p = tt

pub compared_value : {E : Type 0} (kinds : List RuleKind) (one two : SymValue) (old new : List Node) (r : Result Id E) → IsBank new → Extends old new →
    OnOk r (new ≡ (compared kinds one two old).nodes) → IfOk r (λ answer. answer ≡ (compared kinds one two old).value) → AreAlike old one two →
    IfOk r (IsCompared new one two)
compared_value kinds one two old new (Ok answer) b x e g p =
    let o = compared kinds one two old in
    let c = subst IsBank e b in
    subst (λ z. IsCompared z one two answer) (sym e) (subst (IsCompared o.nodes one two) (sym g) (λ inputs fit.
    let m = compared_is inputs (value_of inputs o.nodes) kinds p.shape one two old p.limits p.one_has p.two_has (subst (Extends old) e x)
    (values_fit inputs o.nodes c.ordered fit) in m.is))
compared_value kinds one two old new (Err x) b y e g p = tt
