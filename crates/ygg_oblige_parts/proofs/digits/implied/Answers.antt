use Rattle.std.proofs.Common.{◌≡◌, OnOk, IfOk, subst}
use Rattle.ygg_sym_spec.specs.ygg_bank_proofs_Widths.{extends_both, wider}
use Rattle.ygg_sym_spec.specs.ygg_bank.Makes.{Out}
use Rattle.ygg_sym_spec.specs.ygg_bank.declared.node.Id.{Id}
use Rattle.ygg_oblige_parts.proofs.Joining.{implied_from}
use Rattle.ygg_oblige_parts.proofs.digits.implied.Goals as goal

pub join-requires-clause-one : goal.join-requires-clause-one
join-requires-clause-one g c = wider c.args.bank.now c.complement.new.bank c.args.a 1 c.complement.ensures.grows c.requires.one

pub returns-clause-nodes : goal.returns-clause-nodes
returns-clause-nodes g c =
    subst (λ (p : Out Id). OnOk c.complement-2.result (c.complement-2.new.bank ≡ p.nodes))
    (implied_from (g.B.Book.kinds c.args.book.now) c.args.a c.args.b c.in_ok-other.other c.in_ok-broken.broken c.args.bank.now c.complement.new.bank
    c.join.new.bank c.in_ok-other.ensures.id c.in_ok-other.ensures.nodes c.in_ok-broken.ensures.id c.in_ok-broken.ensures.nodes) c.complement-2.ensures.nodes

pub returns-clause-id : goal.returns-clause-id
returns-clause-id g c =
    subst (λ (p : Out Id). IfOk c.complement-2.result (λ (id : Id). id ≡ p.value))
    (implied_from (g.B.Book.kinds c.args.book.now) c.args.a c.args.b c.in_ok-other.other c.in_ok-broken.broken c.args.bank.now c.complement.new.bank
    c.join.new.bank c.in_ok-other.ensures.id c.in_ok-other.ensures.nodes c.in_ok-broken.ensures.id c.in_ok-broken.ensures.nodes) c.complement-2.ensures.id

pub returns-in_err-broken-clause-grows : goal.returns-in_err-broken-clause-grows
returns-in_err-broken-clause-grows g c =
    extends_both c.args.bank.now c.complement.new.bank c.join.new.bank c.complement.ensures.grows c.join.ensures.grows

pub returns-clause-grows : goal.returns-clause-grows
returns-clause-grows g c =
    extends_both c.args.bank.now c.complement.new.bank c.complement-2.new.bank c.complement.ensures.grows
    (extends_both c.complement.new.bank c.join.new.bank c.complement-2.new.bank c.join.ensures.grows c.complement-2.ensures.grows)
