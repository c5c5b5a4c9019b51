use Rattle.std.proofs.Common.{refl, ◌≡◌, OnOk, IfOk, List, subst}
use Rattle.ygg_shape_words.specs.ygg_bank_proofs_Widths.{wider, stands, extends_both}
use Rattle.ygg_shape_words.proofs.Fit.{alike}
use Rattle.ygg_shape_cells.proofs.Wider.{rows_alike_wider}
use Rattle.std.proofs.lemmas.Result.{IfOk-from_err}
use Rattle.ygg_shape_words.specs.ygg_bank.Makes.{Out}
use Rattle.ygg_shape_words.specs.ygg_bank.declared.node.Id.{Id}
use Rattle.ygg_shape_cells.proofs.Handed.{split_goes}
use Rattle.ygg_shape_cells.proofs.places.split_at.Goals as goal

pub same-requires : goal.same-requires
same-requires g c =
    record {
      words = alike c.make.new.self c.args.place.at c.in_ok-constant.constant c.args.place.width
          (wider c.args.bank.now c.make.new.self c.args.place.at c.args.place.width c.make.ensures.grows c.requires.place) c.in_ok-constant.ensures.width;
    }

pub write_row-requires-clause-met : goal.write_row-requires-clause-met
write_row-requires-clause-met g c = stands c.same.new.bank c.in_ok-test.test 1 c.in_ok-test.ensures.width

pub write_row-requires-clause-rows : goal.write_row-requires-clause-rows
write_row-requires-clause-rows g c =
    rows_alike_wider c.args.bank.now c.same.new.bank c.args.yes.now c.args.no.now c.args.yes.now c.args.no.now
    (extends_both c.args.bank.now c.make.new.self c.same.new.bank c.make.ensures.grows c.same.ensures.grows) c.requires.rows refl refl

pub returns-in_err-test-clause-grows : goal.returns-in_err-test-clause-grows
returns-in_err-test-clause-grows g c = extends_both c.args.bank.now c.make.new.self c.same.new.bank c.make.ensures.grows c.same.ensures.grows

pub returns-clause-grows : goal.returns-clause-grows
returns-clause-grows g c =
    extends_both c.args.bank.now c.make.new.self c.write_row.new.bank c.make.ensures.grows
    (extends_both c.make.new.self c.same.new.bank c.write_row.new.bank c.same.ensures.grows c.write_row.ensures.grows)

pub make-requires : goal.make-requires
make-requires g c = record { least = c.requires.width.least; most = c.requires.width.most; fits = c.requires.number }

pub returns-clause-nodes : goal.returns-clause-nodes
returns-clause-nodes g c =
    subst (λ (o : Out (List Id)). OnOk c.write_row.result (c.write_row.new.bank ≡ o.nodes))
    (split_goes (g.B.Book.kinds c.args.book.now) c.args.place.at c.args.place.width c.args.number c.args.yes.now c.args.no.now c.in_ok-constant.constant
    c.in_ok-test.test
    c.args.bank.now c.make.new.self c.same.new.bank c.in_ok-constant.ensures.id c.in_ok-constant.ensures.nodes
    c.in_ok-test.ensures.form c.in_ok-test.ensures.nodes) c.write_row.ensures.nodes

pub returns-clause-form : goal.returns-clause-form
returns-clause-form g c =
    subst (λ (o : Out (List Id)). IfOk c.write_row.result (λ row. row ≡ o.value))
    (split_goes (g.B.Book.kinds c.args.book.now) c.args.place.at c.args.place.width c.args.number c.args.yes.now c.args.no.now c.in_ok-constant.constant
    c.in_ok-test.test
    c.args.bank.now c.make.new.self c.same.new.bank c.in_ok-constant.ensures.id c.in_ok-constant.ensures.nodes
    c.in_ok-test.ensures.form c.in_ok-test.ensures.nodes) c.write_row.ensures.form

pub returns-in_err-constant-clause-nodes : goal.returns-in_err-constant-clause-nodes
returns-in_err-constant-clause-nodes g c = IfOk-from_err c.from_residual.result _ c.from_residual.ensures.0

pub returns-in_err-constant-clause-form : goal.returns-in_err-constant-clause-form
returns-in_err-constant-clause-form g c = IfOk-from_err c.from_residual.result _ c.from_residual.ensures.0

pub returns-in_err-test-clause-nodes : goal.returns-in_err-test-clause-nodes
returns-in_err-test-clause-nodes g c = IfOk-from_err c.from_residual-in_err-test.result _ c.from_residual-in_err-test.ensures.0

pub returns-in_err-test-clause-form : goal.returns-in_err-test-clause-form
returns-in_err-test-clause-form g c = IfOk-from_err c.from_residual-in_err-test.result _ c.from_residual-in_err-test.ensures.0
