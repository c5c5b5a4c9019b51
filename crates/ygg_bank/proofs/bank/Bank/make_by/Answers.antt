use Rattle.std.proofs.Common.{sym, ◌∙◌, ◌≡◌, OnOk, IfOk, subst}
use Rattle.ygg_bank.proofs.Kept.{kept_by_rules}
use Rattle.ygg_bank.proofs.Stored.{can_answer, in_order}
use Rattle.ygg_bank.proofs.bank.Bank.make_by.Goals as goal

pub add-requires-in-Node : goal.add-requires-in-Node
add-requires-in-Node g c =
    can_answer (g.B.Book.kinds c.args.book.now) c.args.self.now c.args.node _ c.in-Node.op c.in-Node.first c.in-Node.second _ _
    (in_order c.args.self.now _ c.self.view_is c.self.invariant.0) c.requires (sym c.view.ensures ∙ c.in-Some.is) (sym c.view-2.ensures ∙ c.in-Node.is)
    c.id_of-a.ensures c.id_of-b.ensures

pub returns-then-is_kept-clause-nodes : goal.returns-then-is_kept-clause-nodes
returns-then-is_kept-clause-nodes g c =
    subst (λ m. OnOk c.add.result (c.add.new.self ≡ m.nodes))
    (sym (kept_by_rules (g.B.Book.kinds c.args.book.now) c.args.self.now c.args.node (sym c.is_kept.ensures ∙ c.if-is_kept.true))) c.add.ensures.nodes

pub returns-then-is_kept-clause-id : goal.returns-then-is_kept-clause-id
returns-then-is_kept-clause-id g c =
    subst (λ m. IfOk c.add.result (λ id. id ≡ m.value))
    (sym (kept_by_rules (g.B.Book.kinds c.args.book.now) c.args.self.now c.args.node (sym c.is_kept.ensures ∙ c.if-is_kept.true))) c.add.ensures.id
