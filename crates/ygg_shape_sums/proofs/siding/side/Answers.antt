use Rattle.std.proofs.Common.{IfOk, OnOk, ◌≡◌, subst}
use Rattle.std.proofs.lemmas.Result.{IfOk-from_err}
use Rattle.ygg_shape_words.specs.ygg_bank.Makes.{Out}
use Rattle.ygg_shape_words.specs.ygg_bank.declared.node.Id.{Id}
use Rattle.ygg_shape_sums.proofs.MadeSides.{side_goes}
use Rattle.std.proofs.Common.{sym, subst}
use Rattle.ygg_shape_words.specs.ygg_bank_proofs_Widths.{wider, extends_both}
use Rattle.ygg_shape_sums.proofs.Fit.{parts_wider}
use Rattle.ygg_shape_sums.specs.Parts.{PartsFit}
use Rattle.ygg_shape_sums.proofs.siding.side.Goals as goal

pub all_more-requires-clause-parts : goal.all_more-requires-clause-parts
all_more-requires-clause-parts g c =
    subst (PartsFit c.constant.new.bank c.args.width) (sym c.parts.ensures)
    (parts_wider c.args.bank.now c.constant.new.bank c.args.width (c.args.total.now).parts c.constant.ensures.grows c.requires.parts)

pub sum-requires-clause-one : goal.sum-requires-clause-one
sum-requires-clause-one g c =
    wider c.all_more.new.bank c.constant-2.new.bank c.in_ok-all.all c.args.width c.constant-2.ensures.grows c.in_ok-all.ensures.width

pub returns-in_err-all-clause-grows : goal.returns-in_err-all-clause-grows
returns-in_err-all-clause-grows g c =
    extends_both c.args.bank.now c.constant.new.bank c.all_more.new.bank c.constant.ensures.grows c.all_more.ensures.grows

pub returns-in_err-rest-clause-grows : goal.returns-in_err-rest-clause-grows
returns-in_err-rest-clause-grows g c =
    extends_both c.args.bank.now c.all_more.new.bank c.constant-2.new.bank
    (extends_both c.args.bank.now c.constant.new.bank c.all_more.new.bank c.constant.ensures.grows c.all_more.ensures.grows) c.constant-2.ensures.grows

pub returns-clause-grows : goal.returns-clause-grows
returns-clause-grows g c =
    extends_both c.args.bank.now c.constant-2.new.bank c.sum.new.bank (extends_both c.args.bank.now c.all_more.new.bank c.constant-2.new.bank
    (extends_both c.args.bank.now c.constant.new.bank c.all_more.new.bank c.constant.ensures.grows c.all_more.ensures.grows) c.constant-2.ensures.grows)
    c.sum.ensures.grows

pub returns-in_err-zero-clause-nodes : goal.returns-in_err-zero-clause-nodes
returns-in_err-zero-clause-nodes g c = IfOk-from_err c.from_residual.result _ c.from_residual.ensures.0

pub returns-in_err-zero-clause-form : goal.returns-in_err-zero-clause-form
returns-in_err-zero-clause-form g c = IfOk-from_err c.from_residual.result _ c.from_residual.ensures.0

pub returns-in_err-zero-clause-width : goal.returns-in_err-zero-clause-width
returns-in_err-zero-clause-width g c = IfOk-from_err c.from_residual.result _ c.from_residual.ensures.0

pub returns-in_err-zero-clause-bank : goal.returns-in_err-zero-clause-bank
returns-in_err-zero-clause-bank g c = c.constant.ensures.bank

pub returns-in_err-all-clause-nodes : goal.returns-in_err-all-clause-nodes
returns-in_err-all-clause-nodes g c = IfOk-from_err c.from_residual-in_err-all.result _ c.from_residual-in_err-all.ensures.0

pub returns-in_err-all-clause-form : goal.returns-in_err-all-clause-form
returns-in_err-all-clause-form g c = IfOk-from_err c.from_residual-in_err-all.result _ c.from_residual-in_err-all.ensures.0

pub returns-in_err-all-clause-width : goal.returns-in_err-all-clause-width
returns-in_err-all-clause-width g c = IfOk-from_err c.from_residual-in_err-all.result _ c.from_residual-in_err-all.ensures.0

pub returns-in_err-all-clause-bank : goal.returns-in_err-all-clause-bank
returns-in_err-all-clause-bank g c = c.all_more.ensures.bank

pub returns-in_err-rest-clause-nodes : goal.returns-in_err-rest-clause-nodes
returns-in_err-rest-clause-nodes g c = IfOk-from_err c.from_residual-in_err-rest.result _ c.from_residual-in_err-rest.ensures.0

pub returns-in_err-rest-clause-form : goal.returns-in_err-rest-clause-form
returns-in_err-rest-clause-form g c = IfOk-from_err c.from_residual-in_err-rest.result _ c.from_residual-in_err-rest.ensures.0

pub returns-in_err-rest-clause-width : goal.returns-in_err-rest-clause-width
returns-in_err-rest-clause-width g c = IfOk-from_err c.from_residual-in_err-rest.result _ c.from_residual-in_err-rest.ensures.0

pub returns-in_err-rest-clause-bank : goal.returns-in_err-rest-clause-bank
returns-in_err-rest-clause-bank g c = c.constant-2.ensures.bank

pub returns-in_err-zero-clause-grows : goal.returns-in_err-zero-clause-grows
returns-in_err-zero-clause-grows g c = c.constant.ensures.grows

pub returns-clause-nodes : goal.returns-clause-nodes
returns-clause-nodes g c =
    subst (λ (m : Out Id). OnOk c.sum.result (c.sum.new.bank ≡ m.nodes))
    (side_goes (g.B.Book.kinds c.args.book.now) c.args.width c.args.total.now c.args.bank.now c.args.second c.constant.new.bank c.all_more.new.bank
    c.constant-2.new.bank
    c.in_ok-zero.zero c.in_ok-all.all c.in_ok-rest.rest c.parts.result.now c.share-number.result c.number.result c.in_ok-zero.ensures.nodes
    c.in_ok-zero.ensures.form c.in_ok-all.ensures.nodes c.in_ok-all.ensures.form c.parts.ensures c.share-number.ensures.value c.number.ensures
    c.in_ok-rest.ensures.nodes c.in_ok-rest.ensures.form)
    c.sum.ensures.nodes

pub returns-clause-form : goal.returns-clause-form
returns-clause-form g c =
    subst (λ (m : Out Id). IfOk c.sum.result (λ (id : Id). id ≡ m.value))
    (side_goes (g.B.Book.kinds c.args.book.now) c.args.width c.args.total.now c.args.bank.now c.args.second c.constant.new.bank c.all_more.new.bank
    c.constant-2.new.bank
    c.in_ok-zero.zero c.in_ok-all.all c.in_ok-rest.rest c.parts.result.now c.share-number.result c.number.result c.in_ok-zero.ensures.nodes
    c.in_ok-zero.ensures.form c.in_ok-all.ensures.nodes c.in_ok-all.ensures.form c.parts.ensures c.share-number.ensures.value c.number.ensures
    c.in_ok-rest.ensures.nodes c.in_ok-rest.ensures.form)
    c.sum.ensures.form

pub returns-clause-width : goal.returns-clause-width
returns-clause-width g c = c.sum.ensures.width

pub returns-clause-bank : goal.returns-clause-bank
returns-clause-bank g c = c.sum.ensures.bank

pub constant-requires-clause-width : goal.constant-requires-clause-width
constant-requires-clause-width g c = c.requires.width

pub constant-requires-2-clause-width : goal.constant-requires-2-clause-width
constant-requires-2-clause-width g c = c.requires.width

pub constant-requires-2-clause-bits : goal.constant-requires-2-clause-bits
constant-requires-2-clause-bits g c = c.share-number.ensures.fits

pub all_more-requires-clause-bank : goal.all_more-requires-clause-bank
all_more-requires-clause-bank g c = c.constant.ensures.bank

pub all_more-requires-clause-width : goal.all_more-requires-clause-width
all_more-requires-clause-width g c = c.requires.width

pub all_more-requires-clause-so_far : goal.all_more-requires-clause-so_far
all_more-requires-clause-so_far g c = c.in_ok-zero.ensures.width

pub sum-requires-clause-two : goal.sum-requires-clause-two
sum-requires-clause-two g c = c.in_ok-rest.ensures.width
