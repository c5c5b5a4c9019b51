-- What the public calls say of their answers, from what their answers are.
use Rattle.std.proofs.Common.{◌≡◌, Some, Result, Ok, Err, OnOk, IfOk, List, sym, ap, ◌∙◌, subst}
use Rattle.ygg_rules.specs.declared.rule.RuleKind.{RuleKind}
use Rattle.ygg_bank.proofs.Exist.{values_fit}
use Rattle.ygg_bank.proofs.Widths.{has_width}
use Rattle.ygg_bank.specs.Nodes.{width_at, widths_of, CanPick, IsBank}
use Rattle.ygg_bank.specs.Values.{value_of}
use Rattle.ygg_bank.specs.declared.node.Id.{Id}
use Rattle.ygg_bank.specs.declared.node.Node.{Node}
use Rattle.ygg_shape_words.proofs.Compares.{same_words_is}
use Rattle.ygg_shape_words.proofs.Picks.{picked_is}
use Rattle.ygg_shape_words.specs.Forms.{WordsAlike}
use Rattle.ygg_shape_words.specs.Picking.{IsPicked, picked}
use Rattle.ygg_shape_words.specs.Same.{IsSame, same_words}

pub same_value : {E : Type 0} (kinds : List RuleKind) (a b : Id) (old new : List Node) (r : Result Id E) → IsBank new →
    OnOk r (new ≡ (same_words kinds a b old).nodes) → IfOk r (λ answer. answer ≡ (same_words kinds a b old).value) → WordsAlike old a b →
    IfOk r (IsSame new a b)
same_value kinds a b old new (Ok answer) k e g w =
    let o = same_words kinds a b old in
    let c = subst IsBank e k in
    subst (λ z. IsSame z a b answer) (sym e) (subst (IsSame o.nodes a b) (sym g) (λ inputs fit.
    let m = same_words_is inputs (value_of inputs o.nodes) kinds a b old w (values_fit inputs o.nodes c.ordered fit) in m.is))
same_value kinds a b old new (Err x) k e g w = tt

pub pick_value : {E : Type 0} (kinds : List RuleKind) (t a b : Id) (old new : List Node) (r : Result Id E) → IsBank new →
    OnOk r (new ≡ (picked kinds t a b old).nodes) → IfOk r (λ answer. answer ≡ (picked kinds t a b old).value) → CanPick old t a b →
    IfOk r (IsPicked new t a b)
pick_value kinds t a b old new (Ok answer) k e g p =
    let o = picked kinds t a b old in
    let c = subst IsBank e k in
    subst (λ z. IsPicked z t a b answer) (sym e) (subst (IsPicked o.nodes t a b) (sym g) (λ inputs fit.
    let m = picked_is inputs (value_of inputs o.nodes) kinds (width_at (widths_of old) a) t a b old
    (has_width old t p.test ∙ ap (λ z. Some z) p.digit) (has_width old a p.yes) (has_width old b p.no ∙ ap (λ z. Some z) (sym p.widths))
    (values_fit inputs o.nodes c.ordered fit) in m.is))
pick_value kinds t a b old new (Err x) k e g p = tt
