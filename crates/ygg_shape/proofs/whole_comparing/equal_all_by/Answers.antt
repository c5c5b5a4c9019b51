use Rattle.std.proofs.Common.{◌≡◌, ◌∙◌, OnOk, IfOk, subst}
use Rattle.ygg_shape_cells.specs.ygg_bank_proofs_Widths.{extends_both}
use Rattle.ygg_shape_cells.specs.ygg_bank.Makes.{Out}
use Rattle.ygg_shape_cells.specs.ygg_bank.declared.node.Id.{Id}
use Rattle.ygg_shape.proofs.Listed.{compared_from}
use Rattle.ygg_shape.proofs.whole_comparing.equal_all_by.Goals as goal

pub returns-clause-nodes : goal.returns-clause-nodes
returns-clause-nodes g c =
    subst (λ (o : Out Id). OnOk c.join.result (c.join.new.bank ≡ o.nodes))
    (compared_from (g.B.Book.kinds c.args.book.now) c.args.ones.now c.args.twos.now c.args.bank.now c.as_slice.result.now c.equals.new.bank
    (c.as_slice.ensures.value ∙ c.in_ok-digits.ensures.form) c.in_ok-digits.ensures.nodes) c.join.ensures.nodes

pub returns-clause-form : goal.returns-clause-form
returns-clause-form g c =
    subst (λ (o : Out Id). IfOk c.join.result (λ (id : Id). id ≡ o.value))
    (compared_from (g.B.Book.kinds c.args.book.now) c.args.ones.now c.args.twos.now c.args.bank.now c.as_slice.result.now c.equals.new.bank
    (c.as_slice.ensures.value ∙ c.in_ok-digits.ensures.form) c.in_ok-digits.ensures.nodes) c.join.ensures.form

pub returns-clause-grows : goal.returns-clause-grows
returns-clause-grows g c = extends_both c.args.bank.now c.equals.new.bank c.join.new.bank c.equals.ensures.grows c.join.ensures.grows
