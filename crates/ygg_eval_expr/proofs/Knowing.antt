-- What may be evaluated where an expression may be.
use Rattle.std.proofs.Common.{
  ◌≡◌,
  ℕ,
  suc,
  ◌+◌,
  ◌*◌,
  ◌≤◌,
  true,
  false,
  List,
  [],
  ◌∷◌,
  length,
  map,
  replicate,
  All,
  refl,
  sym,
  ap,
  ◌∙◌,
  subst,
  arith,
  mul_comm,
  zero,
}
use Rattle.std.proofs.Math.Nat.{le-mul_of_pos_right}
use Rattle.std.proofs.lemmas.List.{length-replicate}
use Rattle.std.proofs.lemmas.List.Elements.{All-cons, All-nil, All-head, All-tail, All-replicate}
use Rattle.ygg_syntax.specs.declared.tree.Place.{Place}
use Rattle.ygg_syntax.specs.declared.tree.Name.{Name}
use Rattle.ygg_syntax.specs.declared.tree.Numeral.{Numeral}
use Rattle.ygg_syntax.specs.declared.tree.Quantifier.{Quantifier}
use Rattle.ygg_syntax.specs.declared.tree.Expr.{Expr}
use Rattle.ygg_syntax.specs.declared.tree.Expr.TheVariants as tree
use Rattle.ygg_value.specs.declared.operation.Op.{Op}
use Rattle.ygg_value.specs.declared.operation.Op.TheVariants.{Add, Sub, Mul, And, Or, Xor, Shl, Shr, Eq, Ne, Lt, Le, Gt, Ge, Imp}
use Rattle.ygg_value.specs.Number.{Number}
use Rattle.ygg_value.specs.Values.{word_in}
use Rattle.ygg_value.specs.Shapes.{Within}
use Rattle.ygg_value.specs.declared.row.Value.{Value}
use Rattle.ygg_meaning_laws.specs.ygg_type_rules.Names.{look_up}
use Rattle.ygg_meaning_laws.specs.Signature.{Signature}
use Rattle.ygg_meaning_laws.specs.Shapes.{word_shape}
use Rattle.ygg_meaning_laws.specs.Expressions.{with_number as typing_number}
use Rattle.ygg_meaning_laws.specs.Meaning.{functions_of, row_of, filled}
use Rattle.ygg_meaning_laws.specs.Fitting.{all_fit}
use Rattle.ygg_meaning_laws.proofs.Rules.{is_equality, Operands}
use Rattle.ygg_meaning_laws.proofs.Lists.{IsWordOf, RowParts}
use Rattle.ygg_meaning_laws.proofs.Parts.{
  WithoutErrors,
  HasValue,
  values_in,
  apply_typed,
  binary_typed,
  not_typed,
  at_typed,
  pick_typed,
  resize_typed,
  fill_typed,
  row_typed,
  quantified_typed,
}
use Rattle.ygg_eval_expr.proofs.Called.{local_keeps}
use Rattle.ygg_eval_expr.specs.Words.{row_from, AreOfRow, CanOperate}
use Rattle.ygg_eval_expr.specs.Known.{Known, scope_in, value_in, CanEvaluate, CanCall, CanQuantify}

-- a part without a type error, in the same scope
part_can : (k : Known) (e a : Expr) → (can : CanEvaluate k e) → WithoutErrors a can.scope → CanEvaluate k a
part_can k e a can h = record { scope = can.scope; defs = can.defs; sound = can.sound; agrees = can.agrees; without_errors = h }

parts_can : (k : Known) (e : Expr) (can : CanEvaluate k e) (es : List Expr) → All (HasValue (functions_of k.defs) can.scope (scope_in k)) es →
    All (CanEvaluate k) es
parts_can k e can [] h = All-nil (CanEvaluate k)
parts_can k e can (x ∷ es) h =
    let P = HasValue (functions_of k.defs) can.scope (scope_in k) in
    All-cons (CanEvaluate k) x es (part_can k e x can (All-head P x es h).without_errors) (parts_can k e can es (All-tail P x es h))

-- operators

can_operate : (op : Op) (v w : Value) → (is_equality op ≡ false → Operands op v w) → CanOperate op v w
can_operate Add v w h = (h refl).can
can_operate Sub v w h = (h refl).can
can_operate Mul v w h = (h refl).can
can_operate And v w h = (h refl).can
can_operate Or v w h = (h refl).can
can_operate Xor v w h = (h refl).can
can_operate Shl v w h = (h refl).can
can_operate Shr v w h = (h refl).can
can_operate Eq v w h = tt
can_operate Ne v w h = tt
can_operate Lt v w h = (h refl).can
can_operate Le v w h = (h refl).can
can_operate Gt v w h = (h refl).can
can_operate Ge v w h = (h refl).can
can_operate Imp v w h = (h refl).can

pub record BinaryCan (k : Known) (a : Expr) (op : Op) (b : Expr) : Type 0 where
  pub left : CanEvaluate k a
  pub right : CanEvaluate k b
  pub operate : CanOperate op (value_in k a) (value_in k b)

pub binary_can : (k : Known) (first : Place) (a : Expr) (op : Op) (at : Place) (b : Expr) → CanEvaluate k (tree.Binary first a op at b) → BinaryCan k a op b
binary_can k first a op at b can =
    let t = binary_typed (functions_of k.defs) can.scope (scope_in k) first a op at b can.agrees can.without_errors in
    let e = tree.Binary first a op at b in
    record {
      left = part_can k e a can t.left.without_errors;
      right = part_can k e b can t.right.without_errors;
      operate =
          can_operate op (value_in k a) (value_in k b) t.operands;
    }

pub not_can : (k : Known) (first : Place) (a : Expr) → CanEvaluate k (tree.Not first a) → CanEvaluate k a
not_can k first a can =
    let t = not_typed (functions_of k.defs) can.scope (scope_in k) first a can.agrees can.without_errors in
    part_can k (tree.Not first a) a can t.operand.without_errors

pub at_can : (k : Known) (a : Expr) (bracket : Place) (i : Expr) → CanEvaluate k (tree.At a bracket i) → CanEvaluate k a × CanEvaluate k i
at_can k a bracket i can =
    let t = at_typed (functions_of k.defs) can.scope (scope_in k) a bracket i can.agrees can.without_errors in
    (part_can k (tree.At a bracket i) a can t.whole.without_errors, part_can k (tree.At a bracket i) i can t.index.without_errors)

pub pick_can : (k : Known) (first : Place) (c a b : Expr) → CanEvaluate k (tree.Pick first c a b) → CanEvaluate k c × CanEvaluate k a × CanEvaluate k b
pick_can k first c a b can =
    let t = pick_typed (functions_of k.defs) can.scope (scope_in k) first c a b can.agrees can.without_errors in
    let e = tree.Pick first c a b in
    (part_can k e c can t.test.without_errors, part_can k e a can t.first.without_errors, part_can k e b can t.second.without_errors)

pub resize_can : (k : Known) (first : Place) (a : Expr) (w : Numeral) → CanEvaluate k (tree.Resize first a w) → CanEvaluate k a × Within 64 w.value
resize_can k first a w can =
    let t = resize_typed (functions_of k.defs) can.scope (scope_in k) first a w can.agrees can.without_errors in
    (part_can k (tree.Resize first a w) a can t.operand.without_errors, t.parts.width)

pub fill_can : (k : Known) (first : Place) (m : Numeral) (a : Expr) → CanEvaluate k (tree.Fill first m a) → CanEvaluate k a × Within 64 m.value
fill_can k first m a can =
    let t = fill_typed (functions_of k.defs) can.scope (scope_in k) first m a can.agrees can.without_errors in
    (part_can k (tree.Fill first m a) a can t.operand.without_errors, t.parts.count)

-- a row of equal words
pub equal_words : (m : ℕ) (w : Number) → Within 64 m → AreOfRow (replicate m w)
equal_words zero w h = let l = h.0 in absurd (omega arith)
equal_words (suc m) w h =
    let long : length (replicate (suc m) w) ≡ suc m = length-replicate (suc m) w in
    record { some = rw long h.0; few = rw long h.1; alike = All-replicate (λ (x : Number). x.width ≡ w.width) (suc m) w refl }

pub filled_is : (m : ℕ) (v : Value) → Within 64 m → row_from (replicate m (word_in v)) ≡ filled m v
filled_is zero v h = let l = h.0 in absurd (omega arith)
filled_is (suc m) v h = ap (λ ns. record { width = (word_in v).width; words = ns }) (bits (suc m))
  where
    bits : (n : ℕ) → map (λ (x : Number). x.bits) (replicate n (word_in v)) ≡ replicate n (word_in v).bits
    bits zero = refl
    bits (suc n) = ap (λ ns. (word_in v).bits ∷ ns) (bits n)

-- a row of words
pub record RowCan (k : Known) (es : List Expr) : Type 0 where
  pub each : All (CanEvaluate k) es
  pub words : AreOfRow (map (λ (e : Expr). word_in (value_in k e)) es)
  pub is : row_from (map (λ (e : Expr). word_in (value_in k e)) es) ≡ row_of (map (value_in k) es)

pub row_can : (k : Known) (first : Place) (es : List Expr) → CanEvaluate k (tree.Row first es) → RowCan k es
row_can k first es can =
    let t = row_typed (functions_of k.defs) can.scope (scope_in k) first es can.agrees can.without_errors in
    record { each = parts_can k (tree.Row first es) can es t.each; words = alike es t.parts; is = same es }
  where
    bits : (es : List Expr) → map (λ (n : Number). n.bits) (map (λ (e : Expr). word_in (value_in k e)) es) ≡ map (λ (v : Value). (word_in v).bits)
        (map (value_in k) es)
    bits [] = refl
    bits (e ∷ es) = ap (λ ns. (word_in (value_in k e)).bits ∷ ns) (bits es)

    same : (es : List Expr) → row_from (map (λ (e : Expr). word_in (value_in k e)) es) ≡ row_of (map (value_in k) es)
    same [] = refl
    same (e ∷ es) = ap (λ ns. record { width = (word_in (value_in k e)).width; words = ns }) (bits (e ∷ es))

    long : (es : List Expr) → length (map (λ (e : Expr). word_in (value_in k e)) es) ≡ length (values_in (functions_of k.defs) es (scope_in k))
    long [] = refl
    long (e ∷ es) = let again = long es in omega arith

    each : (width : ℕ) (es : List Expr) → All (IsWordOf width) (values_in (functions_of k.defs) es (scope_in k)) →
        All (λ (n : Number). n.width ≡ width) (map (λ (e : Expr). word_in (value_in k e)) es)
    each width [] h = All-nil (λ (n : Number). n.width ≡ width)
    each width (e ∷ es) h =
        let v = value_in k e in
        let vs = values_in (functions_of k.defs) es (scope_in k) in
        All-cons (λ (n : Number). n.width ≡ width) (word_in v) (map (λ (e : Expr). word_in (value_in k e)) es) (All-head (IsWordOf width) v vs h).wide
        (each width es (All-tail (IsWordOf width) v vs h))

    alike : (es : List Expr) → RowParts (values_in (functions_of k.defs) es (scope_in k)) → AreOfRow (map (λ (e : Expr). word_in (value_in k e)) es)
    alike [] parts = let s = parts.some in absurd (omega arith)
    alike (e ∷ es) parts = record {
      some = rw (long (e ∷ es)) parts.some;
      few = rw (long (e ∷ es)) parts.few;
      alike =
          each (word_in (value_in k e)).width (e ∷ es) parts.words;
    }

-- a definition at its arguments
pub record ApplyCan (k : Known) (f : List ℕ) (es : List Expr) : Type 0 where
  pub each : All (CanEvaluate k) es
  pub call : CanCall k.defs f (map (value_in k) es)

pub apply_can : (k : Known) (f : Name) (es : List Expr) → CanEvaluate k (tree.Apply f es) → ApplyCan k f.text es
apply_can k f es can =
    let t = apply_typed (functions_of k.defs) can.scope (scope_in k) f es can.agrees can.without_errors in
    record {
      each = parts_can k (tree.Apply f es) can es t.each;
      call = record {
        sound = can.sound;
        fit = λ d h.
            let found = sym (ap (look_up f.text) can.defs) ∙ t.parts.found in
            let same : d ≡ t.parts.definition = cc in
            subst (λ (s : Signature). all_fit s.arguments (map (value_in k) es) ≡ true) (sym same) t.parts.fit;
      };
    }

-- a quantifier: what it may do, and that its bound isn't 0
pub record QuantifiedCan (k : Known) (x : List ℕ) (w n : Numeral) (e : Expr) : Type 0 where
  pub can : CanQuantify k x w n e
  pub some : 1 ≤ n.value

pub quantified_can : (k : Known) (first : Place) (which : Quantifier) (x : Name) (w n : Numeral) (e : Expr) →
    CanEvaluate k (tree.Quantified first which x w n e) → QuantifiedCan k x.text w n e
quantified_can k first which x w n e can =
    let t = quantified_typed (functions_of k.defs) can.scope (scope_in k) first which x w n e can.agrees can.without_errors in
    record {
      can = record {
        least = t.number.width.0;
        most = t.number.width.1;
        bound = t.number.bound;
        each = λ i l. record {
          scope = typing_number x w can.scope;
          defs = local_keeps x.text (word_shape w.value) false can.scope ∙ can.defs;
          sound = can.sound;
          agrees = t.agrees i l;
          without_errors = t.without_errors;
        };
      };
      some = t.number.some;
    }

-- more than one pass
pub one_pass : (n w : ℕ) → 1 ≤ n → 1 + w ≤ n * (1 + w)
one_pass n w h = let more : 1 + w ≤ (1 + w) * n = le-mul_of_pos_right (1 + w) h in let same = mul_comm (1 + w) n in omega arith
