-- What the rule of each construct makes sure of, where it finds no type error.
use Rattle.std.proofs.Common.{
  ◌≡◌,
  ℕ,
  ◌<◌,
  ◌≤◌,
  ◌^◌,
  ◌⊎◌,
  inl,
  inr,
  Bool,
  true,
  false,
  cond,
  List,
  length,
  replicate,
  get_or,
  Option,
  Some,
  None,
  refl,
  sym,
  ap,
  ◌∙◌,
  subst,
}
use Rattle.std.specs.Prelude.{◌==◌, ◌&&◌, not, nat_le}
use Rattle.std.proofs.lemmas.Bool.{eqb-true, leb-true, ltb-true, cases_lt}
use Rattle.std.proofs.lemmas.List.{length-replicate, get_or_past}
use Rattle.std.proofs.lemmas.List.Elements.{All-get_or, All-replicate}
use Rattle.ygg_base.specs.declared.reason.Reason.{Reason}
use Rattle.ygg_base.specs.declared.reason.Reason.TheVariants as reason
use Rattle.ygg_meaning.specs.Place.{Place}
use Rattle.ygg_meaning.specs.Name.{Name}
use Rattle.ygg_meaning.specs.Numeral.{Numeral}
use Rattle.ygg_value.specs.declared.operation.Op.{Op}
use Rattle.ygg_value.specs.declared.operation.Op.TheVariants.{Add, Sub, Mul, And, Or, Xor, Shl, Shr, Eq, Ne, Lt, Le, Gt, Ge, Imp}
use Rattle.ygg_value.specs.Number.{Digits, Grid, IsTable}
use Rattle.ygg_value.specs.Words.{word, apply_to, result_width, CanApply, not_of, resized}
use Rattle.ygg_value.specs.Values.{word_in, digit, apply_value, part_of, same_value, table_read}
use Rattle.ygg_value.specs.Shapes.{IsValue, shape_of, Within}
use Rattle.ygg_value.specs.declared.row.Value.{Value}
use Rattle.ygg_value.specs.declared.row.Value.TheVariants as value
use Rattle.ygg_value.specs.declared.shape.Shape.{Shape}
use Rattle.ygg_value.specs.declared.shape.Shape.TheVariants as shape
use Rattle.ygg_value.proofs.Places.{table_read-get_or}
use Rattle.ygg_value.proofs.Limits.{row_read-IsWord, table_read-IsRow}
use Rattle.ygg_value.proofs.Results.{apply_to-IsWord, not_of-IsWord, resized-IsWord}
use Rattle.ygg_type_rules.specs.declared.scope.TypedExpr.{TypedExpr}
use Rattle.ygg_type_rules.specs.TypeErrors.{TypeErrors, both, none, type_error_at, unless}
use Rattle.ygg_type_rules.specs.Limits.{width_fits, value_fits, words_fit, bound_fits}
use Rattle.ygg_type_rules.specs.Shapes.{is_word, width_of, part_shape}
use Rattle.ygg_type_rules.specs.Comparisons.{wanted_error, arithmetic_error, shift_error, implication_error, operator_error, operator_shape}
use Rattle.ygg_type_rules.specs.Expressions.{
  own,
  wanted,
  wanted_word,
  constant_rule,
  operator_rule,
  not_rule,
  index_rule,
  pick_rule,
  resize_rule,
  fill_rule,
  number_errors,
  quantified_rule,
}
use Rattle.ygg_meaning.specs.Meaning.{is_one, filled}
use Rattle.ygg_meaning_laws.specs.Fitting.{HasShape}
use Rattle.ygg_meaning_laws.proofs.Tests.{left, right, passed, turned, no_type_error, wanted_is, width_within, words_within}
use Rattle.ygg_meaning_laws.proofs.Fits.{digit_has, word_within, word_shaped, word_wide}

-- a part at a place with a shape
abbrev pub part : Place → Option Shape → TypedExpr
part at shape = record { place = at; shape = shape }

-- what holds of a part with a known shape
pub with_shape : (G : TypedExpr → Type 0) (p : TypedExpr) (s : Shape) → p.shape ≡ Some s → G (part p.place (Some s)) → G p
with_shape G p s e g = subst (λ o. G (part p.place o)) (sym e) g

-- a rule without a type error gives its shape
pub owned : (fs : TypeErrors) (o : Option Shape) (v : Value) → none fs ≡ true → HasShape o v → HasShape (own fs o).shape v
owned fs o v h k = record { is = ap (λ b. cond b o None) h ∙ k.is; limits = k.limits }

-- a constant
pub record ConstantParts (v w : Numeral) : Type 0 where
  pub least : 1 ≤ w.value
  pub most : w.value ≤ 64
  pub below : v.value < 2 ^ w.value

pub constant_parts : (v w : Numeral) → none (constant_rule v w).type_errors ≡ true → ConstantParts v w
constant_parts v w h =
    let value = unless (value_fits v.value w.value) reason.Width v.place in
    let width = unless (width_fits w.value) reason.Width w.place in
    let within = width_within w.value (passed (width_fits w.value) reason.Width w.place (right (none value) (none width) h)) in
    record {
      least = within.0;
      most = within.1;
      below = ltb-true v.value (2 ^ w.value) (passed (value_fits v.value w.value) reason.Width v.place (left (none value) (none width) h));
    }

pub constant_sound : (v w : Numeral) → none (constant_rule v w).type_errors ≡ true → HasShape (constant_rule v w).shape (value.Word (word w.value v.value))
constant_sound v w h =
    let parts = constant_parts v w h in
    owned (both (unless (value_fits v.value w.value) reason.Width v.place) (unless (width_fits w.value) reason.Width w.place)) (Some (shape.Word w.value))
    (value.Word (word w.value v.value)) h
    (record { is = refl; limits = record { least = parts.least; most = parts.most; fits = parts.below } })

-- operators

abbrev pub is_equality : Op → Bool
is_equality Eq = true
is_equality Ne = true
is_equality _ = false

-- the operands of an operator other than equality: words to which it may be applied
pub record Operands (op : Op) (v w : Value) : Type 0 where
  pub first : is_word (shape_of v) ≡ true
  pub second : is_word (shape_of w) ≡ true
  pub can : CanApply op (word_in v) (word_in w)

when_none : (b : Bool) (n : Reason) → cond {A = Option Reason} b None (Some n) ≡ None → b ≡ true
when_none true n h = refl
when_none false n h = absurd (cc)

alike : (v w : Value) → arithmetic_error (shape_of v) (shape_of w) ≡ None → (is_word (shape_of v) ≡ true) × (is_word (shape_of w) ≡ true)
    × ((word_in v).width ≡ (word_in w).width)
alike (value.Word a) (value.Word b) h = (refl, refl, eqb-true a.width b.width (when_none (a.width == b.width) reason.Width h))
alike (value.Word a) (value.Row b) h = absurd (cc)
alike (value.Word a) (value.Table b) h = absurd (cc)
alike (value.Row a) w h = absurd (cc)
alike (value.Table a) w h = absurd (cc)

shifted : (v w : Value) → shift_error (shape_of v) (shape_of w) ≡ None → (is_word (shape_of v) ≡ true) × (is_word (shape_of w) ≡ true)
shifted (value.Word a) (value.Word b) h = (refl, refl)
shifted (value.Word a) (value.Row b) h = absurd (cc)
shifted (value.Word a) (value.Table b) h = absurd (cc)
shifted (value.Row a) w h = absurd (cc)
shifted (value.Table a) w h = absurd (cc)

implied : (v w : Value) → implication_error (shape_of v) (shape_of w) ≡ None → (is_word (shape_of v) ≡ true) × (is_word (shape_of w) ≡ true)
    × (((word_in v).width ≡ 1) × ((word_in w).width ≡ 1))
implied (value.Word a) (value.Word b) h =
    let both = when_none (a.width == 1 && b.width == 1) reason.Width h in
    (refl, refl, (eqb-true a.width 1 (left (a.width == 1) (b.width == 1) both), eqb-true b.width 1 (right (a.width == 1) (b.width == 1) both)))
implied (value.Word a) (value.Row b) h = absurd (cc)
implied (value.Word a) (value.Table b) h = absurd (cc)
implied (value.Row a) w h = absurd (cc)
implied (value.Table a) w h = absurd (cc)

pub operands : (op : Op) (v w : Value) → operator_error op (shape_of v) (shape_of w) ≡ None → is_equality op ≡ false → Operands op v w
operands Add v w h n = let p = alike v w h in record { first = p.0; second = p.1; can = p.2 }
operands Sub v w h n = let p = alike v w h in record { first = p.0; second = p.1; can = p.2 }
operands Mul v w h n = let p = alike v w h in record { first = p.0; second = p.1; can = p.2 }
operands And v w h n = let p = alike v w h in record { first = p.0; second = p.1; can = p.2 }
operands Or v w h n = let p = alike v w h in record { first = p.0; second = p.1; can = p.2 }
operands Xor v w h n = let p = alike v w h in record { first = p.0; second = p.1; can = p.2 }
operands Shl v w h n = let p = shifted v w h in record { first = p.0; second = p.1; can = tt }
operands Shr v w h n = let p = shifted v w h in record { first = p.0; second = p.1; can = tt }
operands Eq v w h n = absurd (cc)
operands Ne v w h n = absurd (cc)
operands Lt v w h n = let p = alike v w h in record { first = p.0; second = p.1; can = p.2 }
operands Le v w h n = let p = alike v w h in record { first = p.0; second = p.1; can = p.2 }
operands Gt v w h n = let p = alike v w h in record { first = p.0; second = p.1; can = p.2 }
operands Ge v w h n = let p = alike v w h in record { first = p.0; second = p.1; can = p.2 }
operands Imp v w h n = let p = implied v w h in record { first = p.0; second = p.1; can = p.2 }

shape_width : (op : Op) (w : ℕ) → operator_shape op (shape.Word w) ≡ shape.Word (result_width op w)
shape_width Add w = refl
shape_width Sub w = refl
shape_width Mul w = refl
shape_width And w = refl
shape_width Or w = refl
shape_width Xor w = refl
shape_width Shl w = refl
shape_width Shr w = refl
shape_width Eq w = refl
shape_width Ne w = refl
shape_width Lt w = refl
shape_width Le w = refl
shape_width Gt w = refl
shape_width Ge w = refl
shape_width Imp w = refl

operated : (op : Op) (v w : Value) → IsValue v → IsValue w → Operands op v w →
    HasShape (Some (operator_shape op (shape_of v))) (value.Word (apply_to op (word_in v) (word_in w)))
operated op v w x y o = record {
  is = ap (λ s. Some (operator_shape op s)) (word_shaped v o.first) ∙ ap (λ s. Some s) (shape_width op (word_in v).width);
  limits = apply_to-IsWord op (word_in v) (word_in w) (word_within v o.first x) (word_within w o.second y) o.can;
}

applied : (op : Op) (v w : Value) → IsValue v → IsValue w → operator_error op (shape_of v) (shape_of w) ≡ None →
    HasShape (Some (operator_shape op (shape_of v))) (apply_value op v w)
applied Add v w x y h = operated Add v w x y (operands Add v w h refl)
applied Sub v w x y h = operated Sub v w x y (operands Sub v w h refl)
applied Mul v w x y h = operated Mul v w x y (operands Mul v w h refl)
applied And v w x y h = operated And v w x y (operands And v w h refl)
applied Or v w x y h = operated Or v w x y (operands Or v w h refl)
applied Xor v w x y h = operated Xor v w x y (operands Xor v w h refl)
applied Shl v w x y h = operated Shl v w x y (operands Shl v w h refl)
applied Shr v w x y h = operated Shr v w x y (operands Shr v w h refl)
applied Eq v w x y h = digit_has (same_value v w)
applied Ne v w x y h = digit_has (not (same_value v w))
applied Lt v w x y h = operated Lt v w x y (operands Lt v w h refl)
applied Le v w x y h = operated Le v w x y (operands Le v w h refl)
applied Gt v w x y h = operated Gt v w x y (operands Gt v w h refl)
applied Ge v w x y h = operated Ge v w x y (operands Ge v w h refl)
applied Imp v w x y h = operated Imp v w x y (operands Imp v w h refl)

-- an operator's own rule over its operands' shapes finds no type error
pub operator_without_errors : (op : Op) (at : Place) (a b : TypedExpr) (v w : Value) → HasShape a.shape v → HasShape b.shape w →
    none (operator_rule op at a b).type_errors ≡ true → operator_error op (shape_of v) (shape_of w) ≡ None
operator_without_errors op at a b v w x y =
    with_shape (λ p. none (operator_rule op at p b).type_errors ≡ true → operator_error op (shape_of v) (shape_of w) ≡ None) a (shape_of v) x.is
    (with_shape (λ p. none (operator_rule op at (part a.place (Some (shape_of v))) p).type_errors ≡ true →
    operator_error op (shape_of v) (shape_of w) ≡ None) b (shape_of w) y.is
    (no_type_error at (operator_error op (shape_of v) (shape_of w))))

pub operator_sound : (op : Op) (at : Place) (a b : TypedExpr) (v w : Value) → HasShape a.shape v → HasShape b.shape w →
    none (operator_rule op at a b).type_errors ≡ true → HasShape (operator_rule op at a b).shape (apply_value op v w)
operator_sound op at a b v w x y h =
    let f = operator_without_errors op at a b v w x y h in
    with_shape (λ p. HasShape (operator_rule op at p b).shape (apply_value op v w)) a (shape_of v) x.is
    (with_shape (λ p. HasShape (operator_rule op at (part a.place (Some (shape_of v))) p).shape (apply_value op v w)) b (shape_of w) y.is
    (owned (type_error_at at (operator_error op (shape_of v) (shape_of w))) (Some (operator_shape op (shape_of v))) (apply_value op v w)
    (ap (λ o. none (type_error_at at o)) f) (applied op v w x.limits y.limits f)))

-- `~e`: its operand is a word
pub word_without_errors : (a : TypedExpr) (v : Value) → HasShape a.shape v → none (wanted_word a) ≡ true → is_word (shape_of v) ≡ true
word_without_errors a v x = with_shape (λ p. none (wanted_word p) ≡ true → is_word (shape_of v) ≡ true) a (shape_of v) x.is
    (passed (is_word (shape_of v)) reason.Shape a.place)

pub not_sound : (a : TypedExpr) (v : Value) → HasShape a.shape v → none (not_rule a).type_errors ≡ true →
    HasShape (not_rule a).shape (value.Word (not_of (word_in v)))
not_sound a v x h =
    let w = word_without_errors a v x h in
    owned (wanted_word a) a.shape (value.Word (not_of (word_in v))) h
    (record { is = x.is ∙ ap (λ s. Some s) (word_shaped v w); limits = not_of-IsWord (word_in v) (word_within v w x.limits) })

-- `e[i]`: a part of a row or a table, at a word
pub record IndexParts (v i : Value) : Type 0 where
  pub parted : is_word (shape_of v) ≡ false
  pub place : is_word (shape_of i) ≡ true

pub index_parts : (bracket : Place) (a i : TypedExpr) (v w : Value) → HasShape a.shape v → HasShape i.shape w →
    none (index_rule a.shape bracket i).type_errors ≡ true → IndexParts v w
index_parts bracket a i v w x y =
    with_shape (λ p. none (index_rule p.shape bracket i).type_errors ≡ true → IndexParts v w) a (shape_of v) x.is
    (with_shape (λ p. none (index_rule (Some (shape_of v)) bracket p).type_errors ≡ true → IndexParts v w) i (shape_of w) y.is
    (λ h. record {
      parted = turned (is_word (shape_of v)) (passed (not (is_word (shape_of v))) reason.Shape bracket
          (left (none (unless (not (is_word (shape_of v))) reason.Shape bracket)) (none (unless (is_word (shape_of w)) reason.Shape i.place)) h));
      place = passed (is_word (shape_of w)) reason.Shape i.place (right (none (unless (not (is_word (shape_of v))) reason.Shape bracket))
          (none (unless (is_word (shape_of w)) reason.Shape i.place)) h);
    }))

-- the row at any place of a table has as many words as each of its rows
pub read_long : (t : Grid) (at : ℕ) → IsTable t → length (table_read t at).words ≡ t.words
read_long t at x = ap (λ (d : Digits). length d.words) (table_read-get_or t at) ∙ go (cases_lt at (length t.rows))
  where
    go : (at < length t.rows) ⊎ (length t.rows ≤ at) → length (get_or t.rows at (replicate t.words 0)) ≡ t.words
    go (inl h) = All-get_or (λ (row : List ℕ). length row ≡ t.words) t.rows at (replicate t.words 0) h x.even
    go (inr h) = rw (get_or_past t.rows at (replicate t.words 0) h) (length-replicate {A = ℕ} t.words 0)

part_has : (v : Value) (at : ℕ) → IsValue v → is_word (shape_of v) ≡ false → HasShape (Some (part_shape (shape_of v))) (part_of v at)
part_has (value.Word w) at x h = absurd (cc)
part_has (value.Row r) at x h = record { is = refl; limits = row_read-IsWord r at x }
part_has (value.Table t) at x h = record { is = ap (λ n. Some (shape.Row n t.width)) (sym (read_long t at x)); limits = table_read-IsRow t at x }

pub index_sound : (bracket : Place) (a i : TypedExpr) (v w : Value) → HasShape a.shape v → HasShape i.shape w →
    none (index_rule a.shape bracket i).type_errors ≡ true
    → HasShape (index_rule a.shape bracket i).shape (part_of v (word_in w).bits)
index_sound bracket a i v w x y h =
    let parts = index_parts bracket a i v w x y h in
    with_shape (λ p. none (index_rule p.shape bracket i).type_errors ≡ true → HasShape (index_rule p.shape bracket i).shape (part_of v (word_in w).bits)) a
    (shape_of v) x.is
    (with_shape (λ p. none (index_rule (Some (shape_of v)) bracket p).type_errors ≡ true →
    HasShape (index_rule (Some (shape_of v)) bracket p).shape (part_of v (word_in w).bits)) i (shape_of w) y.is
    (λ f. owned (both (unless (not (is_word (shape_of v))) reason.Shape bracket) (unless (is_word (shape_of w)) reason.Shape i.place))
    (Some (part_shape (shape_of v)))
    (part_of v (word_in w).bits) f
    (part_has v (word_in w).bits x.limits parts.parted))) h

-- a value where a shape is wanted has it
pub wanted_has : (p : TypedExpr) (v : Value) (s : Shape) → HasShape p.shape v → none (wanted p (Some s)) ≡ true → shape_of v ≡ s
wanted_has p v s x =
    with_shape (λ q. none (wanted q (Some s)) ≡ true → shape_of v ≡ s) p (shape_of v) x.is
    (λ h. wanted_is (shape_of v) s (no_type_error p.place (wanted_error (shape_of v) s) h))

-- `pick`: a test of a single digit, and two values of one shape
pub record PickParts (t x y : Value) : Type 0 where
  pub test : shape_of t ≡ shape.Word 1
  pub alike : shape_of y ≡ shape_of x

pub pick_parts : (c a b : TypedExpr) (t x y : Value) → HasShape c.shape t → HasShape a.shape x → HasShape b.shape y → none (pick_rule c a b).type_errors ≡ true
    → PickParts t x y
pick_parts c a b t x y p q r =
    with_shape (λ c. none (pick_rule c a b).type_errors ≡ true → PickParts t x y) c (shape_of t) p.is
    (with_shape (λ a. none (pick_rule (part c.place (Some (shape_of t))) a b).type_errors ≡ true → PickParts t x y) a (shape_of x) q.is
    (with_shape (λ b. none (pick_rule (part c.place (Some (shape_of t))) (part a.place (Some (shape_of x))) b).type_errors ≡ true → PickParts t x y) b
    (shape_of y) r.is
    (λ h.
    let first = type_error_at c.place (wanted_error (shape_of t) (shape.Word 1)) in
    let second = type_error_at b.place (wanted_error (shape_of y) (shape_of x)) in
    record {
      test = wanted_is (shape_of t) (shape.Word 1) (no_type_error c.place (wanted_error (shape_of t) (shape.Word 1)) (left (none first) (none second) h));
      alike = wanted_is (shape_of y) (shape_of x) (no_type_error b.place (wanted_error (shape_of y) (shape_of x)) (right (none first) (none second) h));
    })))

pub pick_sound : (c a b : TypedExpr) (t x y : Value) → HasShape c.shape t → HasShape a.shape x → HasShape b.shape y → none (pick_rule c a b).type_errors ≡ true
    → HasShape (pick_rule c a b).shape (cond (is_one t) x y)
pick_sound c a b t x y p q r h =
    let parts = pick_parts c a b t x y p q r h in
    with_shape (λ c. none (pick_rule c a b).type_errors ≡ true → HasShape (pick_rule c a b).shape (cond (is_one t) x y)) c (shape_of t) p.is
    (with_shape (λ a. none (pick_rule (part c.place (Some (shape_of t))) a b).type_errors ≡ true →
    HasShape (pick_rule (part c.place (Some (shape_of t))) a b).shape (cond (is_one t) x y)) a (shape_of x) q.is
    (with_shape (λ b. none (pick_rule (part c.place (Some (shape_of t))) (part a.place (Some (shape_of x))) b).type_errors ≡ true
    → HasShape (pick_rule (part c.place (Some (shape_of t))) (part a.place (Some (shape_of x))) b).shape (cond (is_one t) x y)) b (shape_of y) r.is
    (λ f. owned (both (type_error_at c.place (wanted_error (shape_of t) (shape.Word 1))) (type_error_at b.place (wanted_error (shape_of y) (shape_of x))))
    (Some (shape_of x)) (cond (is_one t) x y) f
    (chosen (is_one t) parts.alike)))) h
  where
    chosen : (g : Bool) → shape_of y ≡ shape_of x → HasShape (Some (shape_of x)) (cond g x y)
    chosen true e = record { is = refl; limits = q.limits }
    chosen false e = record { is = ap (λ s. Some s) (sym e); limits = r.limits }

-- `resize`: a word, and a width within its limits
pub record ResizeParts (v : Value) (w : Numeral) : Type 0 where
  pub word : is_word (shape_of v) ≡ true
  pub width : Within 64 w.value

pub resize_parts : (a : TypedExpr) (w : Numeral) (v : Value) → HasShape a.shape v → none (resize_rule a w).type_errors ≡ true → ResizeParts v w
resize_parts a w v x h =
    let width = unless (width_fits w.value) reason.Width w.place in
    record {
      word = word_without_errors a v x (left (none (wanted_word a)) (none width) h);
      width = width_within w.value (passed (width_fits w.value) reason.Width w.place (right (none (wanted_word a)) (none width) h));
    }

pub resize_sound : (a : TypedExpr) (w : Numeral) (v : Value) → HasShape a.shape v → none (resize_rule a w).type_errors ≡ true →
    HasShape (resize_rule a w).shape (value.Word (resized (word_in v) w.value))
resize_sound a w v x h =
    let parts = resize_parts a w v x h in
    with_shape (λ a. none (resize_rule a w).type_errors ≡ true → HasShape (resize_rule a w).shape (value.Word (resized (word_in v) w.value))) a
    (shape_of v) x.is
    (λ f. owned (both (unless (is_word (shape_of v)) reason.Shape a.place) (unless (width_fits w.value) reason.Width w.place)) (Some (shape.Word w.value))
    (value.Word (resized (word_in v) w.value)) f
    (record { is = refl; limits = resized-IsWord (word_in v) w.value parts.width.0 parts.width.1 })) h

-- `fill`: a count of words within its limits, and a word
pub record FillParts (m : Numeral) (v : Value) : Type 0 where
  pub count : Within 64 m.value
  pub word : is_word (shape_of v) ≡ true

pub fill_parts : (m : Numeral) (a : TypedExpr) (v : Value) → HasShape a.shape v → none (fill_rule m a).type_errors ≡ true → FillParts m v
fill_parts m a v x h =
    let count = unless (words_fit m.value) reason.Limit m.place in
    record {
      count = words_within m.value (passed (words_fit m.value) reason.Limit m.place (left (none count) (none (wanted_word a)) h));
      word = word_without_errors a v x (right (none count) (none (wanted_word a)) h);
    }

filled_has : (m : ℕ) (v : Value) → Within 64 m → is_word (shape_of v) ≡ true → IsValue v →
    HasShape (Some (shape.Row m (width_of (shape_of v)))) (value.Row (filled m v))
filled_has m v count word x =
    let w = word_within v word x in
    let long : length (replicate m (word_in v).bits) ≡ m = length-replicate m (word_in v).bits in
    record {
      is = ap (λ k. Some (shape.Row m k)) (word_wide v word) ∙ ap (λ k. Some (shape.Row k (word_in v).width)) (sym long);
      limits = record {
        least = w.least;
        most = w.most;
        some = rw long count.0;
        few = rw long count.1;
        fits = All-replicate (λ n. n < 2 ^ (word_in v).width) m (word_in v).bits w.fits;
      };
    }

pub fill_sound : (m : Numeral) (a : TypedExpr) (v : Value) → HasShape a.shape v → none (fill_rule m a).type_errors ≡ true →
    HasShape (fill_rule m a).shape (value.Row (filled m.value v))
fill_sound m a v x h =
    let parts = fill_parts m a v x h in
    with_shape (λ a. none (fill_rule m a).type_errors ≡ true → HasShape (fill_rule m a).shape (value.Row (filled m.value v))) a (shape_of v) x.is
    (λ f. owned (both (unless (words_fit m.value) reason.Limit m.place) (unless (is_word (shape_of v)) reason.Shape a.place))
    (Some (shape.Row m.value (width_of (shape_of v)))) (value.Row (filled m.value v)) f
    (filled_has m.value v parts.count parts.word x.limits)) h

-- the number of a loop or a quantifier: a new name, a width within its limits, and a bound
pub record NumberParts (taken : Bool) (w n : Numeral) : Type 0 where
  pub free : taken ≡ false
  pub fits : width_fits w.value ≡ true
  pub width : Within 64 w.value
  pub some : 1 ≤ n.value
  pub few : n.value ≤ 4096
  pub bound : n.value ≤ 2 ^ w.value

pub number_parts : (x : Name) (taken : Bool) (w n : Numeral) → none (number_errors x taken w n) ≡ true → NumberParts taken w n
number_parts x taken w n h =
    let name = unless (not taken) reason.Twice x.place in
    let width = unless (width_fits w.value) reason.Width w.place in
    let count = unless (bound_fits n.value w.value) reason.Limit n.place in
    let others = right (none name) (none width && none count) h in
    let fits = passed (width_fits w.value) reason.Width w.place (left (none width) (none count) others) in
    let bound = passed (bound_fits n.value w.value) reason.Limit n.place (right (none width) (none count) others) in
    let limits = left (nat_le 1 n.value && nat_le n.value 4096) (nat_le n.value (2 ^ w.value)) bound in
    record {
      free = turned taken (passed (not taken) reason.Twice x.place (left (none name) (none width && none count) h));
      fits = fits;
      width = width_within w.value fits;
      some = leb-true 1 n.value (left (nat_le 1 n.value) (nat_le n.value 4096) limits);
      few = leb-true n.value 4096 (right (nat_le 1 n.value) (nat_le n.value 4096) limits);
      bound = leb-true n.value (2 ^ w.value) (right (nat_le 1 n.value && nat_le n.value 4096) (nat_le n.value (2 ^ w.value)) bound);
    }

-- `all` and `any`: the expression is a single digit
pub quantified_sound : (number : TypeErrors) (e : TypedExpr) (v : Value) (b : Bool) → HasShape e.shape v → none (quantified_rule number e).type_errors ≡ true →
    HasShape (quantified_rule number e).shape (digit b)
quantified_sound number e v b x =
    with_shape (λ e. none (quantified_rule number e).type_errors ≡ true → HasShape (quantified_rule number e).shape (digit b)) e (shape_of v) x.is
    (λ f. owned (both number (type_error_at e.place (wanted_error (shape_of v) (shape.Word 1)))) (Some (shape.Word 1)) (digit b) f (digit_has b))
