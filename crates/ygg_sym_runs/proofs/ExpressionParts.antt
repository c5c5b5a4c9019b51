-- What each construct of an expression makes of its parts is worth what the construct is, under one valuation of the nodes at the end.
use Rattle.std.proofs.Common.{
  ◌≡◌,
  ◌≤◌,
  ◌<◌,
  ◌==◌,
  ℕ,
  zero,
  suc,
  Bool,
  true,
  false,
  if◌then◌else◌,
  List,
  [],
  ◌∷◌,
  map,
  length,
  replicate,
  All,
  None,
  refl,
  sym,
  ap,
  ◌∙◌,
  subst,
  arith,
}
use Rattle.std.proofs.lemmas.List.{length-replicate}
use Rattle.std.proofs.lemmas.List.Elements.{All-head, All-tail, All-cons, All-nil, All-replicate}
use Rattle.ygg_value.specs.Number.{Number, Digits, IsWord}
use Rattle.ygg_value.specs.Words.{word, bit_of, apply_to, not_of, resized, CanApply}
use Rattle.ygg_value.specs.Values.{word_in, same_value, apply_value, part_of}
use Rattle.ygg_value.specs.Shapes.{Within, shape_of}
use Rattle.ygg_value.specs.declared.operation.Op.{Op}
use Rattle.ygg_value.specs.declared.operation.Op.TheVariants as op
use Rattle.ygg_value.specs.declared.row.Value.{Value}
use Rattle.ygg_value.specs.declared.row.Value.TheVariants as value
use Rattle.ygg_value.specs.declared.shape.Shape.{Shape}
use Rattle.ygg_value.specs.declared.shape.Shape.TheVariants as shape
use Rattle.ygg_eval_expr.specs.ygg_meaning_laws.Shapes.{is_word, width_of}
use Rattle.ygg_eval_expr.specs.ygg_meaning_laws.Comparisons.{operator_error}
use Rattle.ygg_eval_expr.specs.ygg_meaning_laws_proofs_Tests.{wanted_is}
use Rattle.ygg_eval_expr.specs.ygg_meaning_laws_proofs_Fits.{word_wide}
use Rattle.ygg_eval_expr.specs.ygg_meaning_laws_proofs_Rules.{Operands, operands, PickParts}
use Rattle.ygg_eval_expr.specs.ygg_meaning_laws_proofs_Lists.{IsWordOf, RowParts}
use Rattle.ygg_eval_expr.specs.ygg_meaning_laws.Meaning.{is_one, row_of, filled}
use Rattle.ygg_shape.specs.ygg_rules.declared.rule.RuleKind.{RuleKind}
use Rattle.ygg_shape.specs.ygg_bank_proofs_Made.{made_grows}
use Rattle.ygg_shape.specs.ygg_bank_proofs_Meaning.{fits_fewer}
use Rattle.ygg_shape.specs.ygg_bank_proofs_Widths.{wider, width_is, stands, width_fits}
use Rattle.ygg_shape.specs.ygg_bank.Makes.{Make}
use Rattle.ygg_shape.specs.ygg_bank.Making.{made}
use Rattle.ygg_shape.specs.ygg_bank.Nodes.{Stands, widths_of, node_width, HasWidth, CanMake, CanBin}
use Rattle.ygg_shape.specs.ygg_bank.Values.{Inputs, Values, Fits, node_value}
use Rattle.ygg_shape.specs.ygg_bank.declared.node.Id.{Id}
use Rattle.ygg_shape.specs.ygg_bank.declared.node.Node.{Node}
use Rattle.ygg_shape.specs.ygg_bank.declared.node.Node.TheVariants as node
use Rattle.ygg_shape.specs.ygg_shape_words_proofs_Terms.{TermIs, made_is, digit_is, not_digit}
use Rattle.ygg_shape.specs.ygg_shape_cells_proofs_Makers.{merged_gives, selected_gives, word_selected_gives}
use Rattle.ygg_shape.proofs.Compared.{compared_gives}
use Rattle.ygg_shape.specs.ygg_shape_cells.Making.{merged}
use Rattle.ygg_shape.specs.Comparing.{compared}
use Rattle.ygg_shape.specs.ygg_shape_cells.Terms.{IsShaped, AreAlike, worth, numbers_of, row_width}
use Rattle.ygg_shape.specs.ygg_shape_cells.declared.terms.SymValue.{SymValue}
use Rattle.ygg_shape.specs.ygg_shape_cells.declared.terms.SymValue.TheVariants.{Word, Row, Table}
use Rattle.ygg_shape_nodes.proofs.Made.{small_is}
use Rattle.ygg_shape_nodes.specs.Making.{made_small}
use Rattle.ygg_sym_runs.specs.Exprs.{id_in, word_made, small_made, number_made, applied, part_made, joined}
use Rattle.ygg_sym_runs.specs.Names.{SymScope}
use Rattle.ygg_sym_runs.specs.ExpressionMeaning.{SomeShape, ScopeShaped, Grows, Gives, IsWorth}
use Rattle.ygg_sym_runs.proofs.Shaped.{worth_shape, is_term, word_worth, scope_wider}
use Rattle.ygg_shape.proofs.ComparedKeeps.{compared_grows}
use Rattle.ygg_sym_runs.proofs.Grows.{small_grows, joined_grows}

-- words of these widths may be operated on as words that have them
can_widths : (o : Op) (x y : Number) (i j : ℕ) → i ≡ x.width → j ≡ y.width → CanApply o x y → CanApply o (word i 0) (word j 0)
can_widths op.Add x y i j e f c = e ∙ c ∙ sym f
can_widths op.Sub x y i j e f c = e ∙ c ∙ sym f
can_widths op.Mul x y i j e f c = e ∙ c ∙ sym f
can_widths op.And x y i j e f c = e ∙ c ∙ sym f
can_widths op.Or x y i j e f c = e ∙ c ∙ sym f
can_widths op.Xor x y i j e f c = e ∙ c ∙ sym f
can_widths op.Shl x y i j e f c = tt
can_widths op.Shr x y i j e f c = tt
can_widths op.Eq x y i j e f c = e ∙ c ∙ sym f
can_widths op.Ne x y i j e f c = e ∙ c ∙ sym f
can_widths op.Lt x y i j e f c = e ∙ c ∙ sym f
can_widths op.Le x y i j e f c = e ∙ c ∙ sym f
can_widths op.Gt x y i j e f c = e ∙ c ∙ sym f
can_widths op.Ge x y i j e f c = e ∙ c ∙ sym f
can_widths op.Imp x y i j e f c = (e ∙ c.0, f ∙ c.1)

if_same : {X Y : Type 0} (f : X → Y) (c : Bool) (a b : X) → f (if c then a else b) ≡ (if c then f a else f b)
if_same f true a b = refl
if_same f false a b = refl

module _ (inputs : Inputs) (v : Values) (kinds : List RuleKind) where
  pub word_gives : (n : Node) (nodes : List Node) → CanMake nodes n → Gives inputs v (word_made kinds n) nodes (IsWorth v (value.Word (node_value inputs v n)))
  word_gives n nodes c h =
      let o = made kinds n nodes in
      word_worth inputs v o.nodes (node_width (widths_of nodes) n) (node_value inputs v n) o.value h (made_is inputs v kinds n nodes c h)

  pub small_gives : (n : Node) (nodes : List Node) → CanMake nodes n →
      Gives inputs v (small_made kinds n) nodes (IsWorth v (value.Word (node_value inputs v n)))
  small_gives n nodes c h =
      let o = made_small kinds n nodes in
      word_worth inputs v o.nodes (node_width (widths_of nodes) n) (node_value inputs v n) o.value h (small_is inputs v kinds n nodes c h)

  pub number_gives : (w i : ℕ) (nodes : List Node) → IsWord (word w i) → Gives inputs v (number_made kinds w i) nodes (IsWorth v (value.Word (word w i)))
  number_gives w i nodes c h = word_gives (node.Const (word w i)) nodes c h

  -- operators

  -- an operation on two words to which it may be applied can be made
  pub plain_can : (o : Op) (x y : SymValue) (a b : Value) (nodes : List Node) → Fits inputs v nodes → IsWorth v a nodes x → IsWorth v b nodes y →
      Operands o a b → CanBin nodes o (id_in x) (id_in y)
  plain_can o x y a b nodes f p q r =
      let s = is_term inputs v a nodes x f p r.first in
      let t = is_term inputs v b nodes y f q r.second in
      record {
        one = stands nodes (id_in x) (word_in a).width s.wide;
        two = stands nodes (id_in y) (word_in b).width t.wide;
        widths = can_widths o (word_in a) (word_in b) _ _ (width_is nodes (id_in x) (word_in a).width s.wide)
            (width_is nodes (id_in y) (word_in b).width t.wide) r.can;
      }

  plain_gives : (o : Op) (x y : SymValue) (a b : Value) (nodes : List Node) → IsWorth v a nodes x → IsWorth v b nodes y → Operands o a b →
      Gives inputs v (small_made kinds (node.Bin o (id_in x) (id_in y))) nodes (IsWorth v (value.Word (apply_to o (word_in a) (word_in b))))
  plain_gives o x y a b nodes p q r h =
      let f = fits_fewer inputs v nodes (small_made kinds (node.Bin o (id_in x) (id_in y)) nodes).nodes
      (small_grows kinds (node.Bin o (id_in x) (id_in y)) nodes) h in
      let s = is_term inputs v a nodes x f p r.first in
      let t = is_term inputs v b nodes y f q r.second in
      let m = small_gives (node.Bin o (id_in x) (id_in y)) nodes (plain_can o x y a b nodes f p q r) h in
      record {
        shaped = m.shaped;
        is = m.is ∙ ap (λ k. value.Word (apply_to o k (v (id_in y).0))) s.worth ∙ ap (λ k. value.Word (apply_to o (word_in a) k)) t.worth;
      }

  -- a term of one digit that says whether
  abbrev pub IsDigit : Bool → List Node → Id → Type 0
  IsDigit b nodes a = TermIs inputs v nodes 1 (word 1 (bit_of b)) a

  -- equality of values of one shape
  compared_means : (x y : SymValue) (a b : Value) (nodes : List Node) → IsWorth v a nodes x → IsWorth v b nodes y → shape_of a ≡ shape_of b →
      Gives inputs v (compared kinds x y) nodes (IsDigit (same_value a b))
  compared_means x y a b nodes p q e h =
      let o = compared kinds x y nodes in
      let f = fits_fewer inputs v nodes o.nodes (compared_grows kinds x y nodes) h in
      let s = p.shaped in
      let t = q.shaped in
      let sx : shape_of a ≡ s.shape = sym (ap shape_of p.is) ∙ worth_shape inputs v nodes s.shape x f s.stands in
      let sy : shape_of b ≡ t.shape = sym (ap shape_of q.is) ∙ worth_shape inputs v nodes t.shape y f t.stands in
      let same : t.shape ≡ s.shape = sym sy ∙ sym e ∙ sx in
      let m = compared_gives inputs v kinds s.shape x y nodes s.stands (subst (λ k. IsShaped nodes k y) same t.stands) h in
      record {
        wide = m.wide;
        is = m.is ∙ ap (λ k. word 1 (bit_of (same_value k (worth v y)))) p.is ∙ ap (λ k. word 1 (bit_of (same_value a k))) q.is;
      }

  -- values of one shape are alike
  pub alike_values : (x y : SymValue) (a b : Value) (nodes : List Node) → Fits inputs v nodes → IsWorth v a nodes x → IsWorth v b nodes y →
      shape_of a ≡ shape_of b → AreAlike nodes x y
  alike_values x y a b nodes f p q e =
      let s = p.shaped in
      let t = q.shaped in
      let sx : shape_of a ≡ s.shape = sym (ap shape_of p.is) ∙ worth_shape inputs v nodes s.shape x f s.stands in
      let sy : shape_of b ≡ t.shape = sym (ap shape_of q.is) ∙ worth_shape inputs v nodes t.shape y f t.stands in
      let same : t.shape ≡ s.shape = sym sy ∙ sym e ∙ sx in
      let one = s.stands in
      let two = subst (λ k. IsShaped nodes k y) same t.stands in
      record { shape = s.shape; limits = one.limits; one_has = one.has; two_has = two.has }

  digit_worth : (b : Bool) (nodes : List Node) (a : Id) → Fits inputs v nodes → IsDigit b nodes a → IsWorth v (value.Word (word 1 (bit_of b))) nodes (Word a)
  digit_worth b nodes a h t = word_worth inputs v nodes 1 (word 1 (bit_of b)) a h t

  equal_gives : (x y : SymValue) (a b : Value) (nodes : List Node) → IsWorth v a nodes x → IsWorth v b nodes y → shape_of a ≡ shape_of b →
      Gives inputs v (applied kinds op.Eq x y) nodes (IsWorth v (apply_value op.Eq a b))
  equal_gives x y a b nodes p q e h =
      let o = compared kinds x y nodes in digit_worth (same_value a b) o.nodes o.value h (compared_means x y a b nodes p q e h)

  unequal_gives : (x y : SymValue) (a b : Value) (nodes : List Node) → IsWorth v a nodes x → IsWorth v b nodes y → shape_of a ≡ shape_of b →
      Gives inputs v (applied kinds op.Ne x y) nodes (IsWorth v (apply_value op.Ne a b))
  unequal_gives x y a b nodes p q e h =
      let o = compared kinds x y nodes in
      let r = small_made kinds (node.Not o.value) o.nodes in
      let d = compared_means x y a b nodes p q e (fits_fewer inputs v o.nodes r.nodes (small_grows kinds (node.Not o.value) o.nodes) h) in
      let m = small_gives (node.Not o.value) o.nodes (stands o.nodes o.value 1 d.wide) h in
      record { shaped = m.shaped; is = m.is ∙ ap (λ k. value.Word (not_of k)) d.is ∙ ap value.Word (not_digit (same_value a b)) }

  pub applied_gives : (o : Op) (x y : SymValue) (a b : Value) (nodes : List Node) → IsWorth v a nodes x → IsWorth v b nodes y →
      operator_error o (shape_of a) (shape_of b) ≡ None → Gives inputs v (applied kinds o x y) nodes (IsWorth v (apply_value o a b))
  applied_gives op.Eq x y a b nodes p q e = equal_gives x y a b nodes p q (wanted_is (shape_of a) (shape_of b) e)
  applied_gives op.Ne x y a b nodes p q e = unequal_gives x y a b nodes p q (wanted_is (shape_of a) (shape_of b) e)
  applied_gives op.Add x y a b nodes p q e = plain_gives op.Add x y a b nodes p q (operands op.Add a b e refl)
  applied_gives op.Sub x y a b nodes p q e = plain_gives op.Sub x y a b nodes p q (operands op.Sub a b e refl)
  applied_gives op.Mul x y a b nodes p q e = plain_gives op.Mul x y a b nodes p q (operands op.Mul a b e refl)
  applied_gives op.And x y a b nodes p q e = plain_gives op.And x y a b nodes p q (operands op.And a b e refl)
  applied_gives op.Or x y a b nodes p q e = plain_gives op.Or x y a b nodes p q (operands op.Or a b e refl)
  applied_gives op.Xor x y a b nodes p q e = plain_gives op.Xor x y a b nodes p q (operands op.Xor a b e refl)
  applied_gives op.Shl x y a b nodes p q e = plain_gives op.Shl x y a b nodes p q (operands op.Shl a b e refl)
  applied_gives op.Shr x y a b nodes p q e = plain_gives op.Shr x y a b nodes p q (operands op.Shr a b e refl)
  applied_gives op.Lt x y a b nodes p q e = plain_gives op.Lt x y a b nodes p q (operands op.Lt a b e refl)
  applied_gives op.Le x y a b nodes p q e = plain_gives op.Le x y a b nodes p q (operands op.Le a b e refl)
  applied_gives op.Gt x y a b nodes p q e = plain_gives op.Gt x y a b nodes p q (operands op.Gt a b e refl)
  applied_gives op.Ge x y a b nodes p q e = plain_gives op.Ge x y a b nodes p q (operands op.Ge a b e refl)
  applied_gives op.Imp x y a b nodes p q e = plain_gives op.Imp x y a b nodes p q (operands op.Imp a b e refl)

  -- `~e`, and another width

  pub not_gives : (x : SymValue) (a : Value) (nodes : List Node) → IsWorth v a nodes x → is_word (shape_of a) ≡ true →
      Gives inputs v (small_made kinds (node.Not (id_in x))) nodes (IsWorth v (value.Word (not_of (word_in a))))
  not_gives x a nodes p e h =
      let f = fits_fewer inputs v nodes (small_made kinds (node.Not (id_in x)) nodes).nodes (small_grows kinds (node.Not (id_in x)) nodes) h in
      let s = is_term inputs v a nodes x f p e in
      let m = small_gives (node.Not (id_in x)) nodes (stands nodes (id_in x) (word_in a).width s.wide) h in
      record { shaped = m.shaped; is = m.is ∙ ap (λ k. value.Word (not_of k)) s.worth }

  pub resized_gives : (x : SymValue) (a : Value) (w : ℕ) (nodes : List Node) → IsWorth v a nodes x → is_word (shape_of a) ≡ true → Within 64 w →
      Gives inputs v (small_made kinds (node.Resize (id_in x) w)) nodes (IsWorth v (value.Word (resized (word_in a) w)))
  resized_gives x a w nodes p e l h =
      let f = fits_fewer inputs v nodes (small_made kinds (node.Resize (id_in x) w) nodes).nodes (small_grows kinds (node.Resize (id_in x) w) nodes) h in
      let s = is_term inputs v a nodes x f p e in
      let m = small_gives (node.Resize (id_in x) w) nodes (stands nodes (id_in x) (word_in a).width s.wide, record { least = l.0; most = l.1 }) h in
      record { shaped = m.shaped; is = m.is ∙ ap (λ k. value.Word (resized k w)) s.worth }

  -- parts of rows and tables

  part_worth : (x : SymValue) (s : Shape) (k : Id) (nodes : List Node) → IsShaped nodes s x → is_word (shape_of (worth v x)) ≡ false →
      Stands nodes k → Gives inputs v (part_made kinds x k) nodes (IsWorth v (part_of (worth v x) (v k.0).bits))
  part_worth (Word a) s k nodes p e w h = absurd (cc)
  part_worth (Row row) (shape.Row n u) k nodes p e w h =
      let l = p.limits in
      let r = word_selected_gives inputs v kinds n u row k nodes p.limits p.has w h in
      record { shaped = record { shape = shape.Word u; stands = record { limits = l.1; has = r.wide } }; is = ap value.Word r.is }
  part_worth (Table t) (shape.Table m n u) k nodes p e w h =
      let i = p.has in
      let r = selected_gives inputs v kinds n u t k nodes i.1 w h in
      record { shaped = record { shape = shape.Row n u; stands = r.shaped }; is = r.is }
  part_worth (Row row) (shape.Word u) k nodes p e w h = absurd (p.has)
  part_worth (Row row) (shape.Table m n u) k nodes p e w h = absurd (p.has)
  part_worth (Table t) (shape.Word u) k nodes p e w h = absurd (p.has)
  part_worth (Table t) (shape.Row n u) k nodes p e w h = absurd (p.has)

  pub part_gives : (x y : SymValue) (a i : Value) (nodes : List Node) → Fits inputs v nodes → IsWorth v a nodes x → IsWorth v i nodes y →
      is_word (shape_of a) ≡ false → is_word (shape_of i) ≡ true →
      Gives inputs v (part_made kinds x (id_in y)) nodes (IsWorth v (part_of a (word_in i).bits))
  part_gives x y a i nodes f p q e g h =
      let s = p.shaped in
      let t = is_term inputs v i nodes y f q g in
      let r = part_worth x s.shape (id_in y) nodes s.stands (ap (λ k. is_word (shape_of k)) p.is ∙ e)
      (stands nodes (id_in y) (word_in i).width t.wide) h in
      record { shaped = r.shaped; is = r.is ∙ ap (λ k. part_of k (v (id_in y).0).bits) p.is ∙ ap (λ (k : Number). part_of a k.bits) t.worth }

  -- `pick`

  pub pick_gives : (x y z : SymValue) (c a b : Value) (nodes : List Node) → Fits inputs v nodes → IsWorth v c nodes x → IsWorth v a nodes y →
      IsWorth v b nodes z → PickParts c a b →
      Gives inputs v (merged kinds (id_in x) y z) nodes (IsWorth v (if is_one c then a else b))
  pick_gives x y z c a b nodes f p q r parts h =
      let word : is_word (shape_of c) ≡ true = ap is_word parts.test in
      let t = is_term inputs v c nodes x f p word in
      let one : (word_in c).width ≡ 1 = sym (word_wide c word) ∙ ap width_of parts.test in
      let s = q.shaped in
      let u = r.shaped in
      let sy : shape_of a ≡ s.shape = sym (ap shape_of q.is) ∙ worth_shape inputs v nodes s.shape y f s.stands in
      let sz : shape_of b ≡ u.shape = sym (ap shape_of r.is) ∙ worth_shape inputs v nodes u.shape z f u.stands in
      let same : u.shape ≡ s.shape = sym sz ∙ parts.alike ∙ sy in
      let m = merged_gives inputs v kinds s.shape (id_in x) y z nodes (subst (HasWidth nodes (id_in x)) one t.wide) s.stands
      (subst (λ k. IsShaped nodes k z) same u.stands) h in
      record {
        shaped = record { shape = s.shape; stands = m.shaped };
        is = m.is ∙ ap (λ (k : Number). if k.bits == 1 then worth v y else worth v z) t.worth
            ∙ ap (λ k. if is_one c then k else worth v z) q.is ∙ ap (λ k. if is_one c then a else k) r.is;
      }

  -- rows

  filled_numbers : (n : ℕ) (a : Id) → numbers_of v (replicate n a) ≡ replicate n (v a.0).bits
  filled_numbers zero a = refl
  filled_numbers (suc n) a = ap (λ z. (v a.0).bits ∷ z) (filled_numbers n a)

  filled_width : (n : ℕ) (a : Id) → 1 ≤ n → row_width v (replicate n a) ≡ (v a.0).width
  filled_width zero a l = absurd (omega (arith, l))
  filled_width (suc n) a l = refl

  abbrev digits : ℕ → List ℕ → Digits
  digits w ns = record { width = w; words = ns }

  pub fill_gives : (n : ℕ) (x : SymValue) (a : Value) (nodes : List Node) → Fits inputs v nodes → IsWorth v a nodes x → is_word (shape_of a) ≡ true →
      Within 64 n → IsWorth v (value.Row (filled n a)) nodes (Row (replicate n (id_in x)))
  fill_gives n x a nodes f p e l =
      let t = is_term inputs v a nodes x f p e in
      let w = (word_in a).width in
      let i = width_fits nodes (id_in x) w f.ordered t.wide in
      record {
        shaped = record {
          shape = shape.Row n w;
          stands = record {
            limits = (l, (i.least, i.most));
            has = record { count = length-replicate n (id_in x); wide = All-replicate (λ k. HasWidth nodes k w) n (id_in x) t.wide };
          };
        };
        is = ap value.Row (ap (λ k. digits k (numbers_of v (replicate n (id_in x)))) (filled_width n (id_in x) l.0)
            ∙ ap (digits (v (id_in x).0).width) (filled_numbers n (id_in x))
            ∙ ap (λ (k : Number). digits k.width (replicate n k.bits)) t.worth);
      }

  -- several values that are worth these
  pub record AllWorth (wants : List Value) (nodes : List Node) (xs : List SymValue) : Type 0 where
    pub shaped : All (SomeShape nodes) xs
    pub is : map (worth v) xs ≡ wants

  record Terms (w : ℕ) (wants : List Value) (nodes : List Node) (xs : List SymValue) : Type 0 where
    wide : All (λ a. HasWidth nodes a w) (map id_in xs)
    numbers : numbers_of v (map id_in xs) ≡ map (λ a. (word_in a).bits) wants
    count : length (map id_in xs) ≡ length wants

  all_terms : (w : ℕ) (wants : List Value) (xs : List SymValue) (nodes : List Node) → Fits inputs v nodes → All (SomeShape nodes) xs →
      map (worth v) xs ≡ wants →
      All (IsWordOf w) wants → Terms w wants nodes xs
  all_terms w [] [] nodes f p e h = record { wide = All-nil (λ a. HasWidth nodes a w); numbers = refl; count = refl }
  all_terms w [] (x ∷ xs) nodes f p e h = absurd (cc)
  all_terms w (a ∷ wants) [] nodes f p e h = absurd (cc)
  all_terms w (a ∷ wants) (x ∷ xs) nodes f p e h =
      let here : worth v x ≡ a = cc in
      let others : map (worth v) xs ≡ wants = cc in
      let i = All-head (IsWordOf w) a wants h in
      let t = is_term inputs v a nodes x f (record { shaped = All-head (SomeShape nodes) x xs p; is = here }) i.word in
      let r = all_terms w wants xs nodes f (All-tail (SomeShape nodes) x xs p) others (All-tail (IsWordOf w) a wants h) in
      record {
        wide = All-cons (λ a. HasWidth nodes a w) (id_in x) (map id_in xs) (subst (HasWidth nodes (id_in x)) i.wide t.wide) r.wide;
        numbers = ap (λ (k : Number). k.bits ∷ numbers_of v (map id_in xs)) t.worth ∙ ap (λ ns. (word_in a).bits ∷ ns) r.numbers;
        count = ap suc r.count;
      }

  pub row_gives : (wants : List Value) (xs : List SymValue) (nodes : List Node) → Fits inputs v nodes → AllWorth wants nodes xs → RowParts wants →
      IsWorth v (value.Row (row_of wants)) nodes (Row (map id_in xs))
  row_gives [] xs nodes f p parts = let s = parts.some in absurd (omega (arith, s))
  row_gives (a ∷ wants) [] nodes f p parts = let e = p.is in absurd (cc)
  row_gives (a ∷ wants) (x ∷ xs) nodes f p parts =
      let w = (word_in a).width in
      let t = all_terms w (a ∷ wants) (x ∷ xs) nodes f p.shaped p.is parts.words in
      let head = All-head (λ k. HasWidth nodes k w) (id_in x) (map id_in xs) t.wide in
      let i = width_fits nodes (id_in x) w f.ordered head in
      let some = parts.some in
      let few = parts.few in
      record {
        shaped = record {
          shape = shape.Row (length (a ∷ wants)) w;
          stands = record { limits = ((some, few), (i.least, i.most)); has = record { count = t.count; wide = t.wide } };
        };
        is = ap value.Row (ap (λ k. digits k (numbers_of v (map id_in (x ∷ xs)))) (f.widths (id_in x).0 w head) ∙ ap (digits w) t.numbers);
      }

  -- quantifiers

  pub joined_gives : (o : Op) (f : Bool → Bool → Bool) (start : Bool) →
      ((a b : Bool) → apply_to o (word 1 (bit_of a)) (word 1 (bit_of b)) ≡ word 1 (bit_of (f a b))) →
      ((nodes : List Node) (a b : Id) → HasWidth nodes a 1 → HasWidth nodes b 1 → CanBin nodes o a b) →
      (so_far : ℕ → Bool) (t : ℕ → Value) → so_far 0 ≡ start → ((i : ℕ) → so_far (suc i) ≡ f (so_far i) (is_one (t i))) →
      (m : ℕ) (test : ℕ → Make SymValue) (from : SymScope) → ((i : ℕ) → Grows (test i)) →
      ((i : ℕ) (nodes : List Node) → i < m → ScopeShaped nodes from → Gives inputs v (test i) nodes (IsWorth v (t i))) →
      ((i : ℕ) → i < m → shape_of (t i) ≡ shape.Word 1) →
      (n : ℕ) (nodes : List Node) → n ≤ m → ScopeShaped nodes from → Gives inputs v (joined kinds o (bit_of start) n test) nodes (IsDigit (so_far n))
  joined_gives o f start agree can so_far t zeroth next m test from grows each single zero nodes l s h =
      let d = made_is inputs v kinds (node.Const (word 1 (bit_of start))) nodes (digit_word start) h in
      record { wide = d.wide; is = d.is ∙ ap (λ b. word 1 (bit_of b)) (sym zeroth) }
    where
      digit_word : (b : Bool) → IsWord (word 1 (bit_of b))
      digit_word true = record { least = omega arith; most = omega arith; fits = omega arith }
      digit_word false = record { least = omega arith; most = omega arith; fits = omega arith }
  joined_gives o f start agree can so_far t zeroth next m test from grows each single (suc n) nodes l s h =
      let a = joined kinds o (bit_of start) n test nodes in
      let x = test n a.nodes in
      let r = made kinds (node.Bin o a.value (id_in x.value)) x.nodes in
      let gr = made_grows kinds (node.Bin o a.value (id_in x.value)) x.nodes in
      let ga = joined_grows kinds o (bit_of start) n test grows nodes in
      let hx = fits_fewer inputs v x.nodes r.nodes gr h in
      let ha = fits_fewer inputs v a.nodes x.nodes (grows n a.nodes) hx in
      let d = joined_gives o f start agree can so_far t zeroth next m test from grows each single n nodes (omega (arith, l)) s ha in
      let less : n < m = omega (arith, l) in
      let w = each n a.nodes less (scope_wider nodes a.nodes from ga s) hx in
      let shape_is = single n less in
      let plain : is_word (shape_of (t n)) ≡ true = ap is_word shape_is in
      let y = is_term inputs v (t n) x.nodes x.value hx w plain in
      let one : (word_in (t n)).width ≡ 1 = sym (word_wide (t n) plain) ∙ ap width_of shape_is in
      let wide = wider a.nodes x.nodes a.value 1 (grows n a.nodes) d.wide in
      let z = made_is inputs v kinds (node.Bin o a.value (id_in x.value)) x.nodes
      (can x.nodes a.value (id_in x.value) wide (subst (HasWidth x.nodes (id_in x.value)) one y.wide)) h in
      let is_word_there = subst IsWord y.worth (hx.words (id_in x.value).0) in
      let digit_is : v (id_in x.value).0 ≡ word 1 (bit_of (is_one (t n))) = y.worth ∙ digit_is (word_in (t n)) is_word_there one in
      let answer : v r.value.0 ≡ word 1 (bit_of (so_far (suc n))) =
      z.is ∙ ap (λ k. apply_to o k (v (id_in x.value).0)) d.is ∙ ap (apply_to o (word 1 (bit_of (so_far n)))) digit_is
      ∙ agree (so_far n) (is_one (t n)) ∙ ap (λ b. word 1 (bit_of b)) (sym (next n)) in
      record { wide = subst (HasWidth r.nodes r.value) (sym (h.widths r.value.0 _ z.wide) ∙ ap (λ (k : Number). k.width) answer) z.wide; is = answer }
