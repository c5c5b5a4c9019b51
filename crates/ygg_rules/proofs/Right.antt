-- The rows of the table are right.
use Rattle.std.proofs.Common.{
  ◌≡◌,
  ◌^◌,
  ◌%◌,
  ◌-◌,
  ℕ,
  ◌+◌,
  ◌==◌,
  ◌||◌,
  Bool,
  true,
  false,
  if◌then◌else◌,
  Option,
  Some,
  None,
  refl,
  sym,
  ap,
  ◌∙◌,
  subst,
  arith,
  bit_and,
  bit_or,
  mod-eq_of_lt,
  ◌⊎◌,
  inl,
  inr,
}
use Rattle.std.proofs.lemmas.Nat.{and_mask, and_comm, pow_pos}
use Rattle.std.specs.Int.Bits.{and_zero_l, and_zero_r, or_zero_l, or_zero_r}
use Rattle.std.proofs.lemmas.Bool.Decides.{Decides-eqb}
use Rattle.ygg_value.proofs.Results.{apply_to-IsWord, not_of-IsWord, resized-IsWord}
use Rattle.ygg_value.specs.Number.{Number, IsWord}
use Rattle.ygg_value.specs.Words.{word, apply_to, result_width, not_of, resized, bit_of}
use Rattle.ygg_value.specs.declared.operation.Op.{Op}
use Rattle.ygg_value.specs.declared.operation.Op.TheVariants as op
use Rattle.ygg_rules.proofs.Widths.{can_apply-widths}
use Rattle.ygg_rules.specs.Laws.{Names, MayBe, MayHold, rewrite_value}
use Rattle.ygg_rules.specs.Rows.{is_known_as, is_known_ones, other_of, constant_if, folded_two, folded_one, row_of, same_of, row}
use Rattle.ygg_rules.specs.Views.{Seen, IsWidth, FitsBin, FitsPick, IsOperand, IsView, value_of}
use Rattle.ygg_rules.specs.declared.rule.RuleKind.{RuleKind}
use Rattle.ygg_rules.specs.declared.rule.RuleKind.TheVariants.{Fold, AndOnes, AndZero, OrZero, AddZero, EqSelf, PickSame}
use Rattle.ygg_rules.specs.declared.view.Operand.{Operand}
use Rattle.ygg_rules.specs.declared.view.Act.{Act}
use Rattle.ygg_rules.specs.declared.view.Act.TheVariants.{Bin, Not, Resize, Pick}
use Rattle.ygg_rules.specs.declared.view.Rewrite.{Rewrite}
use Rattle.ygg_rules.specs.declared.view.Rewrite.TheVariants as rewrite

-- the view of these parts
abbrev seen : Act → ℕ → Operand → Option Operand → Option Operand → Seen
seen act w a b c = record { act = act; width = w; one = a; two = b; three = c }

-- an answer that names what is there and has the view's value
pub record IsRight (v : Seen) (r : Rewrite) : Type 0 where
  pub names : Names v r
  pub keeps : (values : ℕ → Number) → MayHold v values → rewrite_value values v r ≡ value_of values v

kept : (v : Seen) → IsRight v rewrite.Keep
kept v = record { names = tt; keeps = λ values m. refl }

choose : (v : Seen) (test : Bool) (r s : Rewrite) → (test ≡ true → IsRight v r) → IsRight v s → IsRight v (if test then r else s)
choose v true r s f g = f refl
choose v false r s f g = g

-- what is known of a number
known_number : (m : ℕ) (o : Option Number) (x : Number) → ((k : Number) → o ≡ Some k → x ≡ k) → is_known_as m o ≡ true → x.bits ≡ m
known_number m None x t e = absurd (cc)
known_number m (Some k) x t e = ap (λ (n : Number). n.bits) (t k refl) ∙ (Decides-eqb k.bits m).0 e

known_ones : (o : Option Number) (x : Number) → ((k : Number) → o ≡ Some k → x ≡ k) → is_known_ones o ≡ true → (not_of x).bits ≡ 0
known_ones None x t e = absurd (cc)
known_ones (Some k) x t e = ap (λ n. (not_of n).bits) (t k refl) ∙ (Decides-eqb (not_of k).bits 0).0 e

-- operations that give an operand back
ones_is : (x : Number) → IsWord x → (not_of x).bits ≡ 0 → x.bits ≡ 2 ^ x.width - 1
ones_is x h e = let p = h.fits in omega arith

and_ones : (x y : Number) → IsWord x → IsWord y → x.width ≡ y.width → (not_of y).bits ≡ 0 → bit_and x.bits y.bits ≡ x.bits
and_ones x y p q e f =
    ap (bit_and x.bits) (ones_is y q f ∙ ap (λ w. 2 ^ w - 1) (sym e)) ∙ and_mask x.bits x.width ∙ mod-eq_of_lt p.fits

-- a word of these digits
named : (x y : Number) (n : ℕ) → x.width ≡ y.width → n ≡ y.bits → y ≡ word x.width n
named x y n e f = sym (ap (λ w. word w n) e ∙ ap (word y.width) f)

abbrev Gives : Op → Number → Number → Number → Type 0
Gives o r x y = (IsWord x) → (IsWord y) → x.width ≡ y.width → r ≡ apply_to o x y

and_left : (x y : Number) → (not_of x).bits ≡ 0 → Gives op.And y x y
and_left x y f p q e = named x y (bit_and x.bits y.bits) e (and_comm x.bits y.bits ∙ and_ones y x q p (sym e) f)

and_right : (x y : Number) → (not_of y).bits ≡ 0 → Gives op.And x x y
and_right x y f p q e = named x x (bit_and x.bits y.bits) refl (and_ones x y p q e f)

or_left : (x y : Number) → x.bits ≡ 0 → Gives op.Or y x y
or_left x y f p q e = named x y (bit_or x.bits y.bits) e (ap (λ n. bit_or n y.bits) f ∙ or_zero_l y.bits)

or_right : (x y : Number) → y.bits ≡ 0 → Gives op.Or x x y
or_right x y f p q e = named x x (bit_or x.bits y.bits) refl (ap (bit_or x.bits) f ∙ or_zero_r x.bits)

add_left : (x y : Number) → x.bits ≡ 0 → Gives op.Add y x y
add_left x y f p q e =
    let s : x.bits + y.bits ≡ y.bits = omega arith in
    named x y ((x.bits + y.bits) % 2 ^ x.width) e (ap (λ n. n % 2 ^ x.width) s ∙ ap (λ w. y.bits % 2 ^ w) e ∙ mod-eq_of_lt q.fits)

add_right : (x y : Number) → y.bits ≡ 0 → Gives op.Add x x y
add_right x y f p q e =
    let s : x.bits + y.bits ≡ x.bits = omega arith in
    named x x ((x.bits + y.bits) % 2 ^ x.width) refl (ap (λ n. n % 2 ^ x.width) s ∙ mod-eq_of_lt p.fits)

-- two operands of one width, whose term has this width too
pub record AreAlike (w : ℕ) (a b : Operand) : Type 0 where
  pub one : w ≡ a.width
  pub two : w ≡ b.width

other_right : (o : Op) (w : ℕ) (a b : Operand) (p q : Bool) → AreAlike w a b →
    ((x y : Number) → MayBe a x → MayBe b y → p ≡ true → Gives o y x y) → ((x y : Number) → MayBe a x → MayBe b y → q ≡ true → Gives o x x y) →
    IsRight (seen (Bin o) w a (Some b) None) (other_of p q)
other_right o w a b p q alike f g =
    let v = seen (Bin o) w a (Some b) None in
    let same : (values : ℕ → Number) → MayHold v values → (values a.id).width ≡ (values b.id).width =
    λ values m. (m 0 a refl).width ∙ sym alike.one ∙ alike.two ∙ sym (m 1 b refl).width in
    choose v p (rewrite.Operand 1) (if q then rewrite.Operand 0 else rewrite.Keep)
    (λ t. record {
      names = record { it = b; there = refl; width = sym alike.two };
      keeps = λ values m. f (values a.id) (values b.id) (m 0 a refl) (m 1 b refl) t (m 0 a refl).word (m 1 b refl).word (same values m);
    })
    (choose v q (rewrite.Operand 0) rewrite.Keep
    (λ t. record {
      names = record { it = a; there = refl; width = sym alike.one };
      keeps = λ values m. g (values a.id) (values b.id) (m 0 a refl) (m 1 b refl) t (m 0 a refl).word (m 1 b refl).word (same values m);
    })
    (kept v))

either : (p q : Bool) → (p || q) ≡ true → (p ≡ true) ⊎ (q ≡ true)
either true q e = inl refl
either false q e = inr e

and_zero : (x y : Number) → (x.bits ≡ 0) ⊎ (y.bits ≡ 0) → bit_and x.bits y.bits ≡ 0
and_zero x y (inl e) = ap (λ n. bit_and n y.bits) e ∙ and_zero_l y.bits
and_zero x y (inr e) = ap (bit_and x.bits) e ∙ and_zero_r x.bits

zeros_right : (w : ℕ) (a b : Operand) → IsWidth w → AreAlike w a b →
    IsRight (seen (Bin op.And) w a (Some b) None) (constant_if (is_known_as 0 a.known || is_known_as 0 b.known) (word w 0))
zeros_right w a b width alike =
    let v = seen (Bin op.And) w a (Some b) None in
    choose v (is_known_as 0 a.known || is_known_as 0 b.known) (rewrite.Constant (word w 0)) rewrite.Keep
    (λ t. record {
      names = record { word = record { least = width.least; most = width.most; fits = pow_pos w }; width = refl };
      keeps = λ values m.
          let x = values a.id in let y = values b.id in
          let zero : (x.bits ≡ 0) ⊎ (y.bits ≡ 0) = elim (either (is_known_as 0 a.known) (is_known_as 0 b.known) t) [
            | inl e ↦ inl (known_number 0 a.known x (m 0 a refl).known e)
            | inr e ↦ inr (known_number 0 b.known y (m 1 b refl).known e)
          ] in
          sym (ap (λ n. word n (bit_and x.bits y.bits)) ((m 0 a refl).width ∙ sym alike.one) ∙ ap (word w) (and_zero x y zero));
    })
    (kept v)

self_right : (w : ℕ) (a b : Operand) → w ≡ 1 → IsRight (seen (Bin op.Eq) w a (Some b) None) (constant_if (a.id == b.id) (word 1 1))
self_right w a b width =
    let v = seen (Bin op.Eq) w a (Some b) None in
    choose v (a.id == b.id) (rewrite.Constant (word 1 1)) rewrite.Keep
    (λ t. record {
      names = record { word = record { least = omega arith; most = omega arith; fits = omega arith }; width = sym width };
      keeps = λ values m.
          subst (λ id. word 1 1 ≡ apply_to op.Eq (values a.id) (values id)) ((Decides-eqb a.id b.id).0 t)
          (ap (λ s. word 1 (bit_of s)) (sym ((Decides-eqb (values a.id).bits (values a.id).bits).1 refl)));
    })
    (kept v)

folds_two : (o : Op) (w : ℕ) (a b : Operand) (x y : Option Number) → a.known ≡ x → b.known ≡ y → IsOperand a → IsOperand b → FitsBin o w a.width b.width →
    IsRight (seen (Bin o) w a (Some b) None) (folded_two o x y)
folds_two o w a b (Some x) (Some y) e f p q fits =
    let k = p.known x e in let l = q.known y f in
    record {
      names = record {
        word = apply_to-IsWord o x y k.word l.word (can_apply-widths o x y a.width b.width k.width l.width fits.can);
        width = ap (result_width o) k.width ∙ sym fits.is;
      };
      keeps = λ values m. sym (ap (λ z. apply_to o z (values b.id)) ((m 0 a refl).known x e) ∙ ap (apply_to o x) ((m 1 b refl).known y f));
    }
folds_two o w a b (Some x) None e f p q fits = kept _
folds_two o w a b None y e f p q fits = kept _

folds_not : (w : ℕ) (a : Operand) (x : Option Number) → a.known ≡ x → IsOperand a → w ≡ a.width → IsRight (seen Not w a None None) (folded_one not_of x)
folds_not w a (Some x) e p width =
    let k = p.known x e in
    record {
      names = record { word = not_of-IsWord x k.word; width = k.width ∙ sym width };
      keeps = λ values m. sym (ap not_of ((m 0 a refl).known x e));
    }
folds_not w a None e p width = kept _

folds_resize : (w : ℕ) (a : Operand) (x : Option Number) → a.known ≡ x → IsWidth w → IsRight (seen Resize w a None None) (folded_one (λ k. resized k w) x)
folds_resize w a (Some x) e width =
    record {
      names = record { word = resized-IsWord x w width.least width.most; width = refl };
      keeps = λ values m. sym (ap (λ k. resized k w) ((m 0 a refl).known x e));
    }
folds_resize w a None e width = kept _

picked : (c : ℕ) (test : Bool) (x y : Number) → (c == 1) ≡ test → (if test then x else y) ≡ (if c == 1 then x else y)
picked c test x y e = ap (λ t. if t then x else y) (sym e)

folds_pick : (w : ℕ) (a b c : Operand) → FitsPick w a.width b.width c.width →
    IsRight (seen Pick w a (Some b) (Some c)) (if is_known_as 1 a.known then rewrite.Operand 1 else if is_known_as 0 a.known then rewrite.Operand 2
    else rewrite.Keep)
folds_pick w a b c fits =
    let v = seen Pick w a (Some b) (Some c) in
    choose v (is_known_as 1 a.known) (rewrite.Operand 1) (if is_known_as 0 a.known then rewrite.Operand 2 else rewrite.Keep)
    (λ t. record {
      names = record { it = b; there = refl; width = fits.yes };
      keeps = λ values m. picked (values a.id).bits true (values b.id) (values c.id)
          ((Decides-eqb (values a.id).bits 1).1 (known_number 1 a.known (values a.id) (m 0 a refl).known t));
    })
    (choose v (is_known_as 0 a.known) (rewrite.Operand 2) rewrite.Keep
    (λ t. record {
      names = record { it = c; there = refl; width = fits.no };
      keeps = λ values m. picked (values a.id).bits false (values b.id) (values c.id)
          (ap (λ n. n == 1) (known_number 0 a.known (values a.id) (m 0 a refl).known t));
    })
    (kept v))

alike_if : (test : Bool) (x : Number) → x ≡ (if test then x else x)
alike_if true x = refl
alike_if false x = refl

same_right : (w : ℕ) (a b c : Operand) → FitsPick w a.width b.width c.width →
    IsRight (seen Pick w a (Some b) (Some c)) (if b.id == c.id then rewrite.Operand 1 else rewrite.Keep)
same_right w a b c fits =
    let v = seen Pick w a (Some b) (Some c) in
    choose v (b.id == c.id) (rewrite.Operand 1) rewrite.Keep
    (λ t. record {
      names = record { it = b; there = refl; width = fits.yes };
      keeps = λ values m.
          subst (λ id. values b.id ≡ (if (values a.id).bits == 1 then values b.id else values id)) ((Decides-eqb b.id c.id).0 t)
          (alike_if ((values a.id).bits == 1) (values b.id));
    })
    (kept v)

alike_of : (w : ℕ) (a b : Operand) → a.width ≡ b.width → w ≡ a.width → AreAlike w a b
alike_of w a b e f = record { one = f; two = f ∙ e }

-- each row is right, at each act
fold_right : (act : Act) (w : ℕ) (a : Operand) (b c : Option Operand) → IsView (seen act w a b c) → IsRight (seen act w a b c) (row_of Fold act w a b)
fold_right (Bin o) w a (Some b) None h = folds_two o w a b a.known b.known refl refl (h.operands 0 a refl) (h.operands 1 b refl) h.fits
fold_right Not w a None None h = folds_not w a a.known refl (h.operands 0 a refl) h.fits
fold_right Resize w a None None h = folds_resize w a a.known refl h.width
fold_right Pick w a (Some b) (Some c) h = folds_pick w a b c h.fits
fold_right act w a b c h = absurd h.fits

and_ones_right : (act : Act) (w : ℕ) (a : Operand) (b c : Option Operand) → IsView (seen act w a b c) → IsRight (seen act w a b c) (row_of AndOnes act w a b)
and_ones_right (Bin op.And) w a (Some b) None h =
    let fits = h.fits in
    other_right op.And w a b (is_known_ones a.known) (is_known_ones b.known) (alike_of w a b fits.can fits.is)
    (λ x y p q t. and_left x y (known_ones a.known x p.known t))
    (λ x y p q t. and_right x y (known_ones b.known y q.known t))
and_ones_right (Bin op.And) w a (Some b) (Some c) h = absurd h.fits
and_ones_right act w a b c h = kept _

and_zero_right : (act : Act) (w : ℕ) (a : Operand) (b c : Option Operand) → IsView (seen act w a b c) → IsRight (seen act w a b c) (row_of AndZero act w a b)
and_zero_right (Bin op.And) w a (Some b) None h = let fits = h.fits in zeros_right w a b h.width (alike_of w a b fits.can fits.is)
and_zero_right (Bin op.And) w a (Some b) (Some c) h = absurd h.fits
and_zero_right act w a b c h = kept _

or_zero_right : (act : Act) (w : ℕ) (a : Operand) (b c : Option Operand) → IsView (seen act w a b c) → IsRight (seen act w a b c) (row_of OrZero act w a b)
or_zero_right (Bin op.Or) w a (Some b) None h =
    let fits = h.fits in
    other_right op.Or w a b (is_known_as 0 a.known) (is_known_as 0 b.known) (alike_of w a b fits.can fits.is)
    (λ x y p q t. or_left x y (known_number 0 a.known x p.known t))
    (λ x y p q t. or_right x y (known_number 0 b.known y q.known t))
or_zero_right (Bin op.Or) w a (Some b) (Some c) h = absurd h.fits
or_zero_right act w a b c h = kept _

add_zero_right : (act : Act) (w : ℕ) (a : Operand) (b c : Option Operand) → IsView (seen act w a b c) → IsRight (seen act w a b c) (row_of AddZero act w a b)
add_zero_right (Bin op.Add) w a (Some b) None h =
    let fits = h.fits in
    other_right op.Add w a b (is_known_as 0 a.known) (is_known_as 0 b.known) (alike_of w a b fits.can fits.is)
    (λ x y p q t. add_left x y (known_number 0 a.known x p.known t))
    (λ x y p q t. add_right x y (known_number 0 b.known y q.known t))
add_zero_right (Bin op.Add) w a (Some b) (Some c) h = absurd h.fits
add_zero_right act w a b c h = kept _

eq_self_right : (act : Act) (w : ℕ) (a : Operand) (b c : Option Operand) → IsView (seen act w a b c) → IsRight (seen act w a b c) (row_of EqSelf act w a b)
eq_self_right (Bin op.Eq) w a (Some b) None h = let fits = h.fits in self_right w a b fits.is
eq_self_right (Bin op.Eq) w a (Some b) (Some c) h = absurd h.fits
eq_self_right act w a b c h = kept _

pick_same_right : (act : Act) (w : ℕ) (a : Operand) (b c : Option Operand) → IsView (seen act w a b c) → IsRight (seen act w a b c) (same_of b c)
pick_same_right Pick w a (Some b) (Some c) h = same_right w a b c h.fits
pick_same_right act w a (Some b) (Some c) h = absurd h.fits
pick_same_right act w a b c h = kept _

-- each row is right
pub row_right : (kind : RuleKind) (v : Seen) → IsView v → IsRight v (row kind v)
row_right Fold v h = fold_right v.act v.width v.one v.two v.three h
row_right AndOnes v h = and_ones_right v.act v.width v.one v.two v.three h
row_right AndZero v h = and_zero_right v.act v.width v.one v.two v.three h
row_right OrZero v h = or_zero_right v.act v.width v.one v.two v.three h
row_right AddZero v h = add_zero_right v.act v.width v.one v.two v.three h
row_right EqSelf v h = eq_self_right v.act v.width v.one v.two v.three h
row_right PickSame v h = pick_same_right v.act v.width v.one v.two v.three h
