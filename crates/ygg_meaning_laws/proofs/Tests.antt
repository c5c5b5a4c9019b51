-- What tests and type errors say.
use Rattle.std.proofs.Common.{◌≡◌, ℕ, Bool, true, false, cond, List, Option, Some, None, refl, ap}
use Rattle.std.specs.Prelude.{◌==◌, ◌&&◌, not, nat_le}
use Rattle.std.specs.Str.{bytes_eq}
use Rattle.std.proofs.lemmas.Bool.{eqb-true, leb-true, and_parts}
use Rattle.std.proofs.lemmas.Slice.Eq.{bytes_eq-Decides}
use Rattle.ygg_base.specs.declared.reason.Reason.TheVariants as reason
use Rattle.ygg_base.specs.declared.reason.Reason.{Reason}
use Rattle.ygg_meaning.specs.Place.{Place}
use Rattle.ygg_value.specs.declared.shape.Shape.{Shape}
use Rattle.ygg_value.specs.declared.shape.Shape.TheVariants as shape
use Rattle.ygg_value.specs.Shapes.{Within}
use Rattle.ygg_type_rules.specs.TypeErrors.{none, unless, type_error_at}
use Rattle.ygg_type_rules.specs.Limits.{width_fits, words_fit}
use Rattle.ygg_type_rules.specs.Shapes.{is_word, same_shape}
use Rattle.ygg_type_rules.specs.Comparisons.{wanted_error}

pub left : (a b : Bool) → (a && b) ≡ true → a ≡ true
left a b h = (and_parts a b h).0

pub right : (a b : Bool) → (a && b) ≡ true → b ≡ true
right a b h = (and_parts a b h).1

-- equal bytes are one name
pub bytes_same : (a b : List ℕ) → bytes_eq a b ≡ true → a ≡ b
bytes_same a b = (bytes_eq-Decides a b).0

pub bytes_equal : (a : List ℕ) → bytes_eq a a ≡ true
bytes_equal a = (bytes_eq-Decides a a).1 refl

-- a test that gives no type error passes
pub passed : (test : Bool) (n : Reason) (at : Place) → none (unless test n at) ≡ true → test ≡ true
passed true n at e = refl
passed false n at e = absurd (cc)

-- a test that passes turned round fails
pub turned : (b : Bool) → not b ≡ true → b ≡ false
turned true h = absurd (cc)
turned false h = refl

-- no type error at a place means no number of a type error
pub no_type_error : (at : Place) (o : Option Reason) → none (type_error_at at o) ≡ true → o ≡ None
no_type_error at None e = refl
no_type_error at (Some n) e = absurd (cc)

-- shapes that pass as the same are equal
pub same_is : (a b : Shape) → same_shape a b ≡ true → a ≡ b
same_is (shape.Word w) (shape.Word v) e = ap (λ x. shape.Word x) (eqb-true w v e)
same_is (shape.Row m w) (shape.Row n v) e = let p = eqb-true m n (left _ _ e) in let q = eqb-true w v (right (m == n) _ e) in cc
same_is (shape.Table l m w) (shape.Table k n v) e =
    let p = eqb-true l k (left _ _ (left _ (w == v) e)) in
    let q = eqb-true m n (right (l == k) _ (left _ (w == v) e)) in
    let r = eqb-true w v (right (l == k && m == n) _ e) in
    cc
same_is (shape.Word w) (shape.Row n v) e = absurd (cc)
same_is (shape.Word w) (shape.Table k n v) e = absurd (cc)
same_is (shape.Row m w) (shape.Word v) e = absurd (cc)
same_is (shape.Row m w) (shape.Table k n v) e = absurd (cc)
same_is (shape.Table l m w) (shape.Word v) e = absurd (cc)
same_is (shape.Table l m w) (shape.Row n v) e = absurd (cc)

-- a shape that may stand where another is wanted is that shape
pub wanted_is : (a wanted : Shape) → wanted_error a wanted ≡ None → a ≡ wanted
wanted_is a wanted e = cases (same_shape a wanted) refl (is_word a && is_word wanted) e
  where
    cases : (b : Bool) → same_shape a wanted ≡ b → (c : Bool) →
        cond {A = Option Reason} b None (cond c (Some reason.Width) (Some reason.Shape)) ≡ None → a ≡ wanted
    cases true h c e = same_is a wanted h
    cases false h true e = absurd (cc)
    cases false h false e = absurd (cc)

-- widths and counts of words within their limits
pub width_within : (w : ℕ) → width_fits w ≡ true → Within 64 w
width_within w h = (leb-true 1 w (left (nat_le 1 w) (nat_le w 64) h), leb-true w 64 (right (nat_le 1 w) (nat_le w 64) h))

pub words_within : (m : ℕ) → words_fit m ≡ true → Within 64 m
words_within m h = (leb-true 1 m (left (nat_le 1 m) (nat_le m 64) h), leb-true m 64 (right (nat_le 1 m) (nat_le m 64) h))
