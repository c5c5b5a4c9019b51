-- No rule changes a node whose operands aren't constants and aren't one.
use Rattle.std.proofs.Common.{◌≡◌, ℕ, ◌==◌, Bool, true, false, not, if◌then◌else◌, Option, Some, None, List, [], ◌∷◌, refl, ap}
use Rattle.std.specs.Prelude.{is_some}
use Rattle.ygg_value.specs.Number.{Number}
use Rattle.ygg_value.specs.Words.{result_width}
use Rattle.ygg_value.specs.declared.operation.Op.{Op}
use Rattle.ygg_value.specs.declared.operation.Op.TheVariants as op
use Rattle.ygg_rules.specs.Rows.{row, book_row}
use Rattle.ygg_rules.specs.Views.{Seen, bin_of, not_of, resize_of, pick_of}
use Rattle.ygg_rules.specs.declared.rule.RuleKind.{RuleKind}
use Rattle.ygg_rules.specs.declared.rule.RuleKind.TheVariants.{Fold, AndOnes, AndZero, OrZero, AddZero, EqSelf, PickSame}
use Rattle.ygg_rules.specs.declared.view.Act.TheVariants as act
use Rattle.ygg_rules.specs.declared.view.Operand.{Operand}
use Rattle.ygg_rules.specs.declared.view.Rewrite.TheVariants as rewrite
use Rattle.ygg_bank.specs.Making.{is_known, is_kept_bin, is_kept, operand_of, added, rewritten, made}
use Rattle.ygg_bank.specs.declared.node.Node.{Node}
use Rattle.ygg_bank.specs.declared.node.Node.TheVariants.{Input, Const, Bin, Not, Resize, Pick}

-- an operand of this number and width, and what is known of it
abbrev operand : ℕ → ℕ → Option Number → Operand
operand id width known = record { id = id; width = width; known = known }

-- two constants are folded
both_known : (o : Op) → is_kept_bin o true true ≡ false
both_known op.And = refl
both_known op.Or = refl
both_known op.Add = refl
both_known _ = refl

module _ (i j u v : ℕ) (differ : (i == j) ≡ false) where
  keeps_bin : (kind : RuleKind) (o : Op) (w : ℕ) (a b : Option Number) → is_kept_bin o (is_some a) (is_some b) ≡ true
      → row kind (record { act = act.Bin o; width = w; one = operand i u a; two = Some (operand j v b); three = None }) ≡ rewrite.Keep
  keeps_bin Fold o w None b h = refl
  keeps_bin Fold o w (Some a) None h = refl
  keeps_bin Fold o w (Some a) (Some b) h = let e = both_known o in cc
  keeps_bin AndOnes op.And w None None h = refl
  keeps_bin AndOnes op.And w None (Some b) h = cc
  keeps_bin AndOnes op.And w (Some a) b h = cc
  keeps_bin AndOnes _ w a b h = refl
  keeps_bin AndZero op.And w None None h = refl
  keeps_bin AndZero op.And w None (Some b) h = cc
  keeps_bin AndZero op.And w (Some a) b h = cc
  keeps_bin AndZero _ w a b h = refl
  keeps_bin OrZero op.Or w None None h = refl
  keeps_bin OrZero op.Or w None (Some b) h = cc
  keeps_bin OrZero op.Or w (Some a) b h = cc
  keeps_bin OrZero _ w a b h = refl
  keeps_bin AddZero op.Add w None None h = refl
  keeps_bin AddZero op.Add w None (Some b) h = cc
  keeps_bin AddZero op.Add w (Some a) b h = cc
  keeps_bin AddZero _ w a b h = refl
  keeps_bin EqSelf op.Eq w a b h = rw (differ)
  keeps_bin EqSelf _ w a b h = refl
  keeps_bin PickSame o w a b h = refl

  keeps_pick : (kind : RuleKind) (t w x : ℕ) (a b c : Option Number) → not (is_some a) ≡ true
      → row kind (record { act = act.Pick; width = w; one = operand t x a; two = Some (operand i u b); three = Some (operand j v c) }) ≡ rewrite.Keep
  keeps_pick kind t w x (Some a) b c h = cc
  keeps_pick Fold t w x None b c h = refl
  keeps_pick AndOnes t w x None b c h = refl
  keeps_pick AndZero t w x None b c h = refl
  keeps_pick OrZero t w x None b c h = refl
  keeps_pick AddZero t w x None b c h = refl
  keeps_pick EqSelf t w x None b c h = refl
  keeps_pick PickSame t w x None b c h = rw (differ)

keeps_not : (kind : RuleKind) (w i u : ℕ) (a : Option Number) → not (is_some a) ≡ true
    → row kind (record { act = act.Not; width = w; one = operand i u a; two = None; three = None }) ≡ rewrite.Keep
keeps_not kind w i u (Some a) h = cc
keeps_not Fold w i u None h = refl
keeps_not AndOnes w i u None h = refl
keeps_not AndZero w i u None h = refl
keeps_not OrZero w i u None h = refl
keeps_not AddZero w i u None h = refl
keeps_not EqSelf w i u None h = refl
keeps_not PickSame w i u None h = refl

keeps_resize : (kind : RuleKind) (w i u : ℕ) (a : Option Number) → not (is_some a) ≡ true
    → row kind (record { act = act.Resize; width = w; one = operand i u a; two = None; three = None }) ≡ rewrite.Keep
keeps_resize kind w i u (Some a) h = cc
keeps_resize Fold w i u None h = refl
keeps_resize AndOnes w i u None h = refl
keeps_resize AndZero w i u None h = refl
keeps_resize OrZero w i u None h = refl
keeps_resize AddZero w i u None h = refl
keeps_resize EqSelf w i u None h = refl
keeps_resize PickSame w i u None h = refl

-- where each rule keeps a view, so does the book
keeps_book : (kinds : List RuleKind) (v : Seen) → ((kind : RuleKind) → row kind v ≡ rewrite.Keep) → book_row kinds v ≡ rewrite.Keep
keeps_book [] v h = refl
keeps_book (kind ∷ kinds) v h = rw (h kind, keeps_book kinds v h)

split : (t x : Bool) → (if t then false else x) ≡ true → (t ≡ false) × (x ≡ true)
split true x h = cc
split false x h = (refl, h)

-- where each rule keeps its view, a node is added
kept : (kinds : List RuleKind) (nodes : List Node) (n : Node) (v : Seen) → ((kind : RuleKind) → row kind v ≡ rewrite.Keep)
    → rewritten n v (book_row kinds v) nodes ≡ added n nodes
kept kinds nodes n v h = ap (λ r. rewritten n v r nodes) (keeps_book kinds v h)

-- a node that is kept, as far as is seen of its operands, is added
pub kept_by_rules : (kinds : List RuleKind) (nodes : List Node) (n : Node) → is_kept nodes n ≡ true → made kinds n nodes ≡ added n nodes
kept_by_rules kinds nodes (Input n w) h = refl
kept_by_rules kinds nodes (Const k) h = refl
kept_by_rules kinds nodes (Bin o a b) h =
    let x : Operand = operand_of nodes a in
    let y : Operand = operand_of nodes b in
    let (differ, keeps) = split (a.0 == b.0) (is_kept_bin o (is_known nodes a) (is_known nodes b)) h in
    kept kinds nodes (Bin o a b) (bin_of o x y)
    (λ kind. keeps_bin a.0 b.0 x.width y.width differ kind o (result_width o x.width) x.known y.known keeps)
kept_by_rules kinds nodes (Not a) h =
    let x : Operand = operand_of nodes a in
    kept kinds nodes (Not a) (not_of x) (λ kind. keeps_not kind x.width a.0 x.width x.known h)
kept_by_rules kinds nodes (Resize a w) h =
    let x : Operand = operand_of nodes a in
    kept kinds nodes (Resize a w) (resize_of x w) (λ kind. keeps_resize kind w a.0 x.width x.known h)
kept_by_rules kinds nodes (Pick t a b) h =
    let x : Operand = operand_of nodes t in
    let y : Operand = operand_of nodes a in
    let z : Operand = operand_of nodes b in
    let (differ, keeps) = split (a.0 == b.0) (not (is_known nodes t)) h in
    kept kinds nodes (Pick t a b) (pick_of x y z)
    (λ kind. keeps_pick a.0 b.0 y.width z.width differ kind t.0 y.width x.width x.known y.known z.known keeps)
