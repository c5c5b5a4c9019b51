-- Widths that an operation takes.
use Rattle.std.proofs.Common.{◌≡◌, ℕ, Option, Some, None, refl, sym, ◌∙◌, subst}
use Rattle.ygg_value.specs.Number.{Number}
use Rattle.ygg_value.specs.Words.{word, CanApply}
use Rattle.ygg_value.specs.declared.operation.Op.{Op}
use Rattle.ygg_value.specs.declared.operation.Op.TheVariants as op
use Rattle.ygg_rules.specs.Views.{Seen, Fits, FitsBin, IsView}
use Rattle.ygg_rules.specs.declared.view.Operand.{Operand}
use Rattle.ygg_rules.specs.declared.view.Act.TheVariants.{Bin}

-- whether an operation can be applied rests on the widths alone
pub can_apply-widths : (o : Op) (a b : Number) (x y : ℕ) → a.width ≡ x → b.width ≡ y → CanApply o (word x 0) (word y 0) → CanApply o a b
can_apply-widths op.Shl a b x y e f c = tt
can_apply-widths op.Shr a b x y e f c = tt
can_apply-widths op.Imp a b x y e f c = (e ∙ c.0, f ∙ c.1)
can_apply-widths _ a b x y e f c = e ∙ c ∙ sym f

pub bin_fits : (o : Op) (w : ℕ) (a b : Operand) (c : Option Operand) → Fits (Bin o) w a (Some b) c → FitsBin o w a.width b.width
bin_fits o w a b None h = h
bin_fits o w a b (Some c) h = absurd h

-- known operands can be folded
pub can_fold : (v : Seen) → IsView v → (o : Op) (a b : Number) (two : Operand) → v.act ≡ Bin o → v.one.known ≡ Some a → v.two ≡ Some two →
    two.known ≡ Some b → CanApply o a b
can_fold v h o a b two e f g k =
    let fits : Fits (Bin o) v.width v.one (Some two) v.three =
    subst (λ act. Fits act v.width v.one (Some two) v.three) e (subst (λ t. Fits v.act v.width v.one t v.three) g h.fits) in
    can_apply-widths o a b v.one.width two.width ((h.operands 0 v.one refl).known a f).width ((h.operands 1 two g).known b k).width
    (bin_fits o v.width v.one two v.three fits).can
