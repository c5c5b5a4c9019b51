use Rattle.std.proofs.Common.{◌≡◌, IfOk, OnOk, sym, subst}
use Rattle.ygg_shape_words.specs.ygg_bank.Makes.{Out}
use Rattle.ygg_shape_words.specs.ygg_bank.declared.node.Id.{Id}
use Rattle.ygg_shape_sums.proofs.PlainWords.{plain_is_same}
use Rattle.ygg_shape_sums.proofs.equating.equate_by.Goals as goal

pub returns-then-branch-clause-nodes : goal.returns-then-branch-clause-nodes
returns-then-branch-clause-nodes g c =
    subst (λ (o : Out Id). OnOk c.same.result (c.same.new.bank ≡ o.nodes))
    (sym (plain_is_same c.args.bank.now c.args.one c.args.two (c.in_ok-are_plain.ensures c.if-branch.true) (g.B.Book.kinds c.args.book.now)))
    c.same.ensures.nodes

pub returns-then-branch-clause-form : goal.returns-then-branch-clause-form
returns-then-branch-clause-form g c =
    subst (λ (o : Out Id). IfOk c.same.result (λ (id : Id). id ≡ o.value))
    (sym (plain_is_same c.args.bank.now c.args.one c.args.two (c.in_ok-are_plain.ensures c.if-branch.true) (g.B.Book.kinds c.args.book.now)))
    c.same.ensures.form
