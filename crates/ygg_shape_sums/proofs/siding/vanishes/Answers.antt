use Rattle.std.proofs.Common.{IfOk, OnOk, ◌≡◌, subst}
use Rattle.std.proofs.lemmas.Result.{IfOk-from_err}
use Rattle.ygg_shape_words.specs.ygg_bank.Makes.{Out}
use Rattle.ygg_shape_words.specs.ygg_bank.declared.node.Id.{Id}
use Rattle.ygg_shape_sums.proofs.MadeSides.{vanishes_goes}
use Rattle.ygg_shape_words.specs.ygg_bank_proofs_Widths.{wider, extends_both}
use Rattle.ygg_shape_words.proofs.Fit.{alike}
use Rattle.ygg_shape_sums.proofs.Fit.{parts_wider}
use Rattle.ygg_shape_sums.proofs.siding.vanishes.Goals as goal

pub side-requires-2-clause-parts : goal.side-requires-2-clause-parts
side-requires-2-clause-parts g c =
    parts_wider c.args.bank.now c.side.new.bank c.args.width (c.args.total.now).parts c.side.ensures.grows c.requires.parts

pub same-requires : goal.same-requires
same-requires g c =
    record {
      words = alike c.side-2.new.bank c.in_ok-one.one c.in_ok-two.two c.args.width
          (wider c.side.new.bank c.side-2.new.bank c.in_ok-one.one c.args.width c.side-2.ensures.grows c.in_ok-one.ensures.width) c.in_ok-two.ensures.width;
    }

pub returns-in_err-two-clause-grows : goal.returns-in_err-two-clause-grows
returns-in_err-two-clause-grows g c = extends_both c.args.bank.now c.side.new.bank c.side-2.new.bank c.side.ensures.grows c.side-2.ensures.grows

pub returns-clause-grows : goal.returns-clause-grows
returns-clause-grows g c =
    extends_both c.args.bank.now c.side-2.new.bank c.same.new.bank
    (extends_both c.args.bank.now c.side.new.bank c.side-2.new.bank c.side.ensures.grows c.side-2.ensures.grows) c.same.ensures.grows

pub returns-in_err-one-clause-nodes : goal.returns-in_err-one-clause-nodes
returns-in_err-one-clause-nodes g c = IfOk-from_err c.from_residual.result _ c.from_residual.ensures.0

pub returns-in_err-one-clause-form : goal.returns-in_err-one-clause-form
returns-in_err-one-clause-form g c = IfOk-from_err c.from_residual.result _ c.from_residual.ensures.0

pub returns-in_err-one-clause-width : goal.returns-in_err-one-clause-width
returns-in_err-one-clause-width g c = IfOk-from_err c.from_residual.result _ c.from_residual.ensures.0

pub returns-in_err-one-clause-bank : goal.returns-in_err-one-clause-bank
returns-in_err-one-clause-bank g c = c.side.ensures.bank

pub returns-in_err-two-clause-nodes : goal.returns-in_err-two-clause-nodes
returns-in_err-two-clause-nodes g c = IfOk-from_err c.from_residual-in_err-two.result _ c.from_residual-in_err-two.ensures.0

pub returns-in_err-two-clause-form : goal.returns-in_err-two-clause-form
returns-in_err-two-clause-form g c = IfOk-from_err c.from_residual-in_err-two.result _ c.from_residual-in_err-two.ensures.0

pub returns-in_err-two-clause-width : goal.returns-in_err-two-clause-width
returns-in_err-two-clause-width g c = IfOk-from_err c.from_residual-in_err-two.result _ c.from_residual-in_err-two.ensures.0

pub returns-in_err-two-clause-bank : goal.returns-in_err-two-clause-bank
returns-in_err-two-clause-bank g c = c.side-2.ensures.bank

pub returns-in_err-one-clause-grows : goal.returns-in_err-one-clause-grows
returns-in_err-one-clause-grows g c = c.side.ensures.grows

pub returns-clause-nodes : goal.returns-clause-nodes
returns-clause-nodes g c =
    subst (λ (m : Out Id). OnOk c.same.result (c.same.new.bank ≡ m.nodes))
    (vanishes_goes (g.B.Book.kinds c.args.book.now) c.args.width c.args.total.now c.args.bank.now c.side.new.bank c.side-2.new.bank c.in_ok-one.one
    c.in_ok-two.two
    c.in_ok-one.ensures.nodes c.in_ok-one.ensures.form c.in_ok-two.ensures.nodes c.in_ok-two.ensures.form)
    c.same.ensures.nodes

pub returns-clause-form : goal.returns-clause-form
returns-clause-form g c =
    subst (λ (m : Out Id). IfOk c.same.result (λ (id : Id). id ≡ m.value))
    (vanishes_goes (g.B.Book.kinds c.args.book.now) c.args.width c.args.total.now c.args.bank.now c.side.new.bank c.side-2.new.bank c.in_ok-one.one
    c.in_ok-two.two
    c.in_ok-one.ensures.nodes c.in_ok-one.ensures.form c.in_ok-two.ensures.nodes c.in_ok-two.ensures.form)
    c.same.ensures.form

pub returns-clause-width : goal.returns-clause-width
returns-clause-width g c = c.same.ensures.width

pub returns-clause-bank : goal.returns-clause-bank
returns-clause-bank g c = c.same.ensures.bank

pub side-requires-clause-bank : goal.side-requires-clause-bank
side-requires-clause-bank g c = c.requires.bank

pub side-requires-clause-width : goal.side-requires-clause-width
side-requires-clause-width g c = c.requires.width

pub side-requires-clause-parts : goal.side-requires-clause-parts
side-requires-clause-parts g c = c.requires.parts

pub side-requires-2-clause-bank : goal.side-requires-2-clause-bank
side-requires-2-clause-bank g c = c.side.ensures.bank

pub side-requires-2-clause-width : goal.side-requires-2-clause-width
side-requires-2-clause-width g c = c.requires.width
