-- Children of nodes.
use Rattle.std.proofs.Common.{
  ◌≡◌,
  ◌<◌,
  ℕ,
  ◌==◌,
  ◌||◌,
  true,
  Some,
  List,
  [],
  length,
  take,
  slice_get,
  ⊎_elim,
  refl,
  arith,
}
use Rattle.std.proofs.lemmas.Bool.{false≢true, eq-eqb, or_cases, or_left, or_right}
use Rattle.std.proofs.lemmas.Bool.Decides.{Decides-eqb}
use Rattle.std.proofs.lemmas.List.{length-take}
use Rattle.ygg_bank.proofs.Widths.{stored_can}
use Rattle.ygg_bank.specs.Nodes.{CanMake, InOrder}
use Rattle.ygg_bank.specs.Reaching.{has_child}
use Rattle.ygg_bank.specs.declared.node.Id.{Id}
use Rattle.ygg_bank.specs.declared.node.Node.{Node}
use Rattle.ygg_bank.specs.declared.node.Node.TheVariants.{Input, Const, Bin, Not, Resize, Pick}

stands_at : (a p n : ℕ) → (a == p) ≡ true → a < n → p < n
stands_at a p n e l = let s : a ≡ p = (Decides-eqb a p).0 e in omega arith

-- children stand before their node
pub child_before : (before : List Node) (n : Node) (p : ℕ) → CanMake before n → has_child n p ≡ true → p < length before
child_before before (Input m w) p c h = absurd (false≢true h)
child_before before (Const k) p c h = absurd (false≢true h)
child_before before (Bin o a b) p c h =
    ⊎_elim (λ (e : (a.0 == p) ≡ true). stands_at a.0 p (length before) e c.one) (λ (e : (b.0 == p) ≡ true). stands_at b.0 p (length before) e c.two)
    (or_cases (a.0 == p) (b.0 == p) h)
child_before before (Not a) p c h = stands_at a.0 p (length before) h c
child_before before (Resize a w) p c h = stands_at a.0 p (length before) h c.0
child_before before (Pick t a b) p c h =
    ⊎_elim
    (λ (e : (t.0 == p || a.0 == p) ≡ true).
    ⊎_elim (λ (f : (t.0 == p) ≡ true). stands_at t.0 p (length before) f c.test) (λ (f : (a.0 == p) ≡ true). stands_at a.0 p (length before) f c.yes)
    (or_cases (t.0 == p) (a.0 == p) e))
    (λ (e : (b.0 == p) ≡ true). stands_at b.0 p (length before) e c.no) (or_cases (t.0 == p || a.0 == p) (b.0 == p) h)

-- the children of a node of a bank stand before it
pub child_below : (nodes : List Node) (k : ℕ) (n : Node) (p : ℕ) → InOrder [] nodes → slice_get nodes k ≡ Some n → has_child n p ≡ true → p < k
child_below nodes k n p o e h = let l = child_before (take k nodes) n p (stored_can nodes k n o e) h in omega (arith, l, length-take k nodes)

-- each child is a child
pub one_child : (o : _) (a b : Id) → has_child (Bin o a b) a.0 ≡ true
one_child o a b = or_left (a.0 == a.0) (b.0 == a.0) (eq-eqb a.0 a.0 refl)

pub two_child : (o : _) (a b : Id) → has_child (Bin o a b) b.0 ≡ true
two_child o a b = or_right (a.0 == b.0) (b.0 == b.0) (eq-eqb b.0 b.0 refl)

pub only_child : (a : Id) → (a.0 == a.0) ≡ true
only_child a = eq-eqb a.0 a.0 refl

pub test_child : (t a b : Id) → has_child (Pick t a b) t.0 ≡ true
test_child t a b = or_left (t.0 == t.0 || a.0 == t.0) (b.0 == t.0) (or_left (t.0 == t.0) (a.0 == t.0) (eq-eqb t.0 t.0 refl))

pub yes_child : (t a b : Id) → has_child (Pick t a b) a.0 ≡ true
yes_child t a b = or_left (t.0 == a.0 || a.0 == a.0) (b.0 == a.0) (or_right (t.0 == a.0) (a.0 == a.0) (eq-eqb a.0 a.0 refl))

pub no_child : (t a b : Id) → has_child (Pick t a b) b.0 ≡ true
no_child t a b = or_right (t.0 == b.0 || a.0 == b.0) (b.0 == b.0) (eq-eqb b.0 b.0 refl)
