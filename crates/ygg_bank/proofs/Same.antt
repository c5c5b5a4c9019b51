-- The derived comparison of nodes.
use Rattle.std.proofs.Common.{◌≡◌, Bool, true, false, ◌&&◌, ◌==◌, Decides, refl, arith, ap, subst, ◌∙◌}
use Rattle.std.proofs.lemmas.Bool.Decides.{nat_tests}
use denote.Enum.Bare.{same_true, sameb}
use Rattle.ygg_value.specs.Words.{word}
use Rattle.ygg_value.specs.contracts.operation.Op.{the_type}
use Rattle.ygg_value.specs.declared.operation.Op.{Op}
use Rattle.ygg_value.specs.declared.operation.Op.TheVariants as op
use Rattle.ygg_bank.specs.Making.{same, id}
use Rattle.ygg_bank.specs.declared.node.Id.{Id}
use Rattle.ygg_bank.specs.declared.node.Node.{Node}
use Rattle.ygg_bank.specs.declared.node.Node.TheVariants.{Input, Const, Bin, Not, Resize, Pick}

same_id : (a b : Id) → a.0 ≡ b.0 → a ≡ b
same_id a b e = ap id e

both : (a b : Bool) → (a && b) ≡ true → (a ≡ true) × (b ≡ true)
both true b h = (refl, h)
both false b h = absurd (cc)

-- the derived == of nodes answers true at equal nodes alone
pub same_is : (a b : Node) → same a b ≡ true → a ≡ b
same_is (Input m w) (Input n u) e = grind (arith, nat_tests)
same_is (Const k) (Const l) e =
    let (f, g) = both (k.width == l.width) _ e in
    let w : k.width ≡ l.width = grind (arith, nat_tests) in
    let b : k.bits ≡ l.bits = grind (arith, nat_tests) in ap Const (ap (λ n. word n k.bits) w ∙ ap (word l.width) b)
same_is (Not a) (Not b) e = let s : a ≡ b = same_id a b (grind (arith, nat_tests)) in cc
same_is (Resize a w) (Resize b u) e = let s : a ≡ b = same_id a b (grind (arith, nat_tests)) in grind (arith, nat_tests)
same_is (Pick t a b) (Pick s c d) e =
    let x : t ≡ s = same_id t s (grind (arith, nat_tests)) in
    let y : a ≡ c = same_id a c (grind (arith, nat_tests)) in
    let z : b ≡ d = same_id b d (grind (arith, nat_tests)) in cc
same_is (Bin o a b) (Bin p c d) e =
    let (f, g) = both (sameb the_type o p) _ e in
    let h : o ≡ p = same_true the_type tt o p f in
    let y : a ≡ c = same_id a c (grind (arith, nat_tests)) in
    let z : b ≡ d = same_id b d (grind (arith, nat_tests)) in cc
same_is a b e = cc

op_self : (o : Op) → sameb the_type o o ≡ true
op_self op.Add = refl
op_self op.Sub = refl
op_self op.Mul = refl
op_self op.And = refl
op_self op.Or = refl
op_self op.Xor = refl
op_self op.Shl = refl
op_self op.Shr = refl
op_self op.Eq = refl
op_self op.Ne = refl
op_self op.Lt = refl
op_self op.Le = refl
op_self op.Gt = refl
op_self op.Ge = refl
op_self op.Imp = refl

-- it answers true at equal nodes
same_self : (a : Node) → same a a ≡ true
same_self (Input m w) = grind (arith, nat_tests)
same_self (Const k) = grind (arith, nat_tests)
same_self (Not a) = grind (arith, nat_tests)
same_self (Resize a w) = grind (arith, nat_tests)
same_self (Pick t a b) = grind (arith, nat_tests)
same_self (Bin o a b) = let e = op_self o in grind (arith, nat_tests)

pub same_node : (a b : Node) → Decides (same a b) (a ≡ b)
same_node a b = (same_is a b, λ e. subst (λ x. same a x ≡ true) e (same_self a))
