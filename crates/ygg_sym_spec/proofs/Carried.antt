-- What is proved of definitions holds of what calls answer that make what is defined.
use Rattle.std.proofs.Common.{◌≡◌, List, Result, Ok, Err, OnOk, IfOk, sym, subst}
use Rattle.ygg_sym_spec.specs.ygg_bank.Makes.{Out}
use Rattle.ygg_sym_spec.specs.ygg_bank.Nodes.{IsBank}
use Rattle.ygg_sym_spec.specs.ygg_bank.declared.node.Node.{Node}

pub on_value : {A E : Type 0} (P : List Node → A → Type 0) (out : Out A) (new : List Node) (r : Result A E) → OnOk r (new ≡ out.nodes) →
    IfOk r (λ x. x ≡ out.value) → IsBank new → (IsBank out.nodes → P out.nodes out.value) → IfOk r (P new)
on_value P out new (Ok x) e f b h = subst (λ z. P z x) (sym e) (subst (P out.nodes) (sym f) (h (subst IsBank e b)))
on_value P out new (Err x) e f b h = tt

-- the same of what a call answers that stands for the value
pub on_value_of : {A C E : Type 0} (of : C → A) (P : List Node → A → Type 0) (out : Out A) (new : List Node) (r : Result C E) → OnOk r (new ≡ out.nodes) →
    IfOk r (λ x. of x ≡ out.value) → IsBank new → (IsBank out.nodes → P out.nodes out.value) → IfOk r (λ x. P new (of x))
on_value_of of P out new (Ok x) e f b h = subst (λ z. P z (of x)) (sym e) (subst (P out.nodes) (sym f) (h (subst IsBank e b)))
on_value_of of P out new (Err x) e f b h = tt

-- the same of the nodes alone
pub on_nodes : {A C E : Type 0} (P : List Node → Type 0) (out : Out A) (new : List Node) (r : Result C E) → OnOk r (new ≡ out.nodes) →
    P out.nodes → OnOk r (P new)
on_nodes P out new (Ok x) e h = subst P (sym e) h
on_nodes P out new (Err x) e h = tt
