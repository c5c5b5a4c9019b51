-- The value of a node, from the values of the nodes before it.
use Rattle.std.proofs.Common.{
  ◌≡◌,
  ◌≢◌,
  ℕ,
  ◌==◌,
  true,
  false,
  if◌then◌else◌,
  Option,
  Some,
  None,
  IsSome,
  List,
  [],
  take,
  drop,
  sym,
  ap,
  ◌∙◌,
  subst,
  rules,
  arith,
  slice_get,
}
use Rattle.std.proofs.lemmas.Bool.Decides.{nat_tests}
use Rattle.std.proofs.lemmas.List.{take-append-drop}
use Rattle.ygg_value.specs.Number.{Number}
use Rattle.ygg_value.specs.Words.{word, apply_to, not_of, resized, CanApply}
use Rattle.ygg_value.specs.declared.operation.Op.{Op}
use Rattle.ygg_rules.proofs.Widths.{can_apply-widths}
use Rattle.ygg_bank.proofs.Children.{one_child, two_child, only_child, test_child, yes_child, no_child}
use Rattle.ygg_bank.proofs.Exist.{value_is, value_width}
use Rattle.ygg_bank.proofs.Widths.{wider, has_width}
use Rattle.ygg_bank.specs.Making.{id}
use Rattle.ygg_bank.specs.Nodes.{width_at, widths_of, Stands, CanBin, InOrder, Extends}
use Rattle.ygg_bank.specs.Reaching.{has_child}
use Rattle.ygg_bank.specs.Values.{Inputs, value_of, bits_or_zero, numbers_given, GivenFit, KnowsChildren}
use Rattle.ygg_bank.specs.declared.node.Id.{Id}
use Rattle.ygg_bank.specs.declared.node.Node.{Node}
use Rattle.ygg_bank.specs.declared.node.Node.TheVariants.{Input, Const, Bin, Not, Resize, Pick}

front : (nodes : List Node) (k : ℕ) → Extends (take k nodes) nodes
front nodes k = record { more = drop k nodes; is = sym (take-append-drop k nodes) }

module _ (inputs : Inputs) (nodes : List Node) (place : ℕ) (known : ℕ → Option Number) where
  pub child_there : KnowsChildren inputs nodes place known → (n : Node) (a : Id) → slice_get nodes place ≡ Some n → has_child n a.0 ≡ true → IsSome (known a.0)
  child_there h n a t c = subst (λ (o : Option Number). IsSome o) (sym (h n a.0 t c)) (search rules)

  child : KnowsChildren inputs nodes place known → (n : Node) (a : Id) (x : Number) → slice_get nodes place ≡ Some n → has_child n a.0 ≡ true →
      known a.0 ≡ Some x → x ≡ value_of inputs nodes a.0
  child h n a x t c e = let f : Some x ≡ Some (value_of inputs nodes a.0) = sym e ∙ h n a.0 t c in cc

  child_width : InOrder [] nodes → (a : Id) → Stands (take place nodes) a → (value_of inputs nodes a.0).width ≡ width_at (widths_of (take place nodes)) a
  child_width o a s =
      value_width inputs nodes a.0 (width_at (widths_of (take place nodes)) a) o
      (wider (take place nodes) nodes (id a.0) (width_at (widths_of (take place nodes)) a) (front nodes place) (has_width (take place nodes) a s))

  pub can_values : KnowsChildren inputs nodes place known → InOrder [] nodes → (p : Op) (a b : Id) (x y : Number) → CanBin (take place nodes) p a b →
      slice_get nodes place ≡ Some (Bin p a b) → known a.0 ≡ Some x → known b.0 ≡ Some y → CanApply p x y
  can_values h o p a b x y c t e f =
      can_apply-widths p x y (width_at (widths_of (take place nodes)) a) (width_at (widths_of (take place nodes)) b)
      (ap (λ (n : Number). n.width) (child h (Bin p a b) a x t (one_child p a b) e) ∙ child_width o a c.one)
      (ap (λ (n : Number). n.width) (child h (Bin p a b) b y t (two_child p a b) f) ∙ child_width o b c.two) c.widths

  pub is_constant : InOrder [] nodes → (k : Number) → slice_get nodes place ≡ Some (Const k) → k ≡ value_of inputs nodes place
  is_constant o k t = sym (value_is inputs nodes place (Const k) o t)

  pub is_bin : KnowsChildren inputs nodes place known → InOrder [] nodes → (p : Op) (a b : Id) (x y r : Number) → slice_get nodes place ≡ Some (Bin p a b) →
      known a.0 ≡ Some x → known b.0 ≡ Some y → r ≡ apply_to p x y → r ≡ value_of inputs nodes place
  is_bin h o p a b x y r t e f g =
      g ∙ ap (λ n. apply_to p n y) (child h (Bin p a b) a x t (one_child p a b) e)
      ∙ ap (apply_to p (value_of inputs nodes a.0)) (child h (Bin p a b) b y t (two_child p a b) f) ∙ sym (value_is inputs nodes place (Bin p a b) o t)

  pub is_not : KnowsChildren inputs nodes place known → InOrder [] nodes → (a : Id) (x r : Number) → slice_get nodes place ≡ Some (Not a) →
      known a.0 ≡ Some x → r ≡ not_of x → r ≡ value_of inputs nodes place
  is_not h o a x r t e g = g ∙ ap not_of (child h (Not a) a x t (only_child a) e) ∙ sym (value_is inputs nodes place (Not a) o t)

  pub is_resize : KnowsChildren inputs nodes place known → InOrder [] nodes → (a : Id) (w : ℕ) (x r : Number) → slice_get nodes place ≡ Some (Resize a w) →
      known a.0 ≡ Some x → r ≡ resized x w → r ≡ value_of inputs nodes place
  is_resize h o a w x r t e g =
      g ∙ ap (λ n. resized n w) (child h (Resize a w) a x t (only_child a) e) ∙ sym (value_is inputs nodes place (Resize a w) o t)

  test_true : (n : ℕ) → n ≡ 1 → (n == 1) ≡ true
  test_true n e = grind (arith, nat_tests)

  test_false : (n : ℕ) → n ≢ 1 → (n == 1) ≡ false
  test_false n e = grind (arith, nat_tests)

  pub is_picked : KnowsChildren inputs nodes place known → InOrder [] nodes → (t a b : Id) (x y : Number) → slice_get nodes place ≡ Some (Pick t a b) →
      known t.0 ≡ Some x → x.bits ≡ 1 → known a.0 ≡ Some y → y ≡ value_of inputs nodes place
  is_picked h o t a b x y there e one f =
      let v = value_of inputs nodes in
      let is = child h (Pick t a b) t x there (test_child t a b) e in
      let test : ((v t.0).bits == 1) ≡ true = test_true (v t.0).bits (ap (λ (n : Number). n.bits) (sym is) ∙ one) in
      child h (Pick t a b) a y there (yes_child t a b) f ∙ ap (λ s. if s then v a.0 else v b.0) (sym test)
      ∙ sym (value_is inputs nodes place (Pick t a b) o there)

  pub is_other : KnowsChildren inputs nodes place known → InOrder [] nodes → (t a b : Id) (x y : Number) → slice_get nodes place ≡ Some (Pick t a b) →
      known t.0 ≡ Some x → x.bits ≢ 1 → known b.0 ≡ Some y → y ≡ value_of inputs nodes place
  is_other h o t a b x y there e one f =
      let v = value_of inputs nodes in
      let is = child h (Pick t a b) t x there (test_child t a b) e in
      let test : ((v t.0).bits == 1) ≡ false = test_false (v t.0).bits (λ z. one (ap (λ (n : Number). n.bits) is ∙ z)) in
      child h (Pick t a b) b y there (no_child t a b) f ∙ ap (λ s. if s then v a.0 else v b.0) (sym test)
      ∙ sym (value_is inputs nodes place (Pick t a b) o there)

pub is_given : (given : ℕ → Option Number) (nodes : List Node) (place : ℕ) → InOrder [] nodes → GivenFit given nodes → (number w : ℕ) (k : Number) →
    slice_get nodes place ≡ Some (Input number w) → given number ≡ Some k → k ≡ value_of (numbers_given given) nodes place
is_given given nodes place ordered f number w k t g =
    ap (λ z. word z k.bits) (f place number w k t g) ∙ ap (λ z. word w (bits_or_zero z)) (sym g)
    ∙ sym (value_is (numbers_given given) nodes place (Input number w) ordered t)

pub is_zero : (given : ℕ → Option Number) (nodes : List Node) (place : ℕ) → InOrder [] nodes → (number w : ℕ) →
    slice_get nodes place ≡ Some (Input number w) → given number ≡ None → word w 0 ≡ value_of (numbers_given given) nodes place
is_zero given nodes place ordered number w t g =
    ap (λ z. word w (bits_or_zero z)) (sym g) ∙ sym (value_is (numbers_given given) nodes place (Input number w) ordered t)
