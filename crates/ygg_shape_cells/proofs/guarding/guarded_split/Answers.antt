use Rattle.std.proofs.Common.{Some, refl, ap, ◌∙◌, ◌≡◌, OnOk, IfOk, List, subst}
use Rattle.ygg_shape_words.specs.ygg_bank_proofs_Widths.{wider, width_is, stands, extends_both}
use Rattle.ygg_shape_words.proofs.Fit.{alike, can_and}
use Rattle.ygg_shape_cells.proofs.Wider.{rows_alike_wider}
use Rattle.std.proofs.lemmas.Result.{IfOk-from_err}
use Rattle.ygg_shape_words.specs.ygg_bank.Makes.{Out}
use Rattle.ygg_shape_words.specs.ygg_bank.declared.node.Id.{Id}
use Rattle.ygg_shape_cells.proofs.Handed.{guarded_goes}
use Rattle.ygg_shape_cells.proofs.guarding.guarded_split.Goals as goal

pub same-requires : goal.same-requires
same-requires g c =
    record {
      words = alike c.make.new.self c.args.guard.at c.in_ok-constant.constant c.args.guard.width
          (wider c.args.bank.now c.make.new.self c.args.guard.at c.args.guard.width c.make.ensures.grows c.requires.place) c.in_ok-constant.ensures.width;
    }

pub make-requires-2 : goal.make-requires-2
make-requires-2 g c =
    can_and c.same.new.bank c.args.guard.test c.in_ok-b.b 1
    (wider c.args.bank.now c.same.new.bank c.args.guard.test 1
    (extends_both c.args.bank.now c.make.new.self c.same.new.bank c.make.ensures.grows c.same.ensures.grows) c.requires.test)
    c.in_ok-b.ensures.width

pub write_row-requires-clause-test : goal.write_row-requires-clause-test
write_row-requires-clause-test g c =
    c.in_ok-both.ensures.width ∙ ap (λ z. Some z) (width_is c.same.new.bank c.args.guard.test 1
    (wider c.args.bank.now c.same.new.bank c.args.guard.test 1
    (extends_both c.args.bank.now c.make.new.self c.same.new.bank c.make.ensures.grows c.same.ensures.grows) c.requires.test))

pub write_row-requires-clause-met : goal.write_row-requires-clause-met
write_row-requires-clause-met g c =
    stands c.make-2.new.self c.in_ok-b.b 1 (wider c.same.new.bank c.make-2.new.self c.in_ok-b.b 1 c.make-2.ensures.grows c.in_ok-b.ensures.width)

pub write_row-requires-clause-rows : goal.write_row-requires-clause-rows
write_row-requires-clause-rows g c =
    rows_alike_wider c.args.bank.now c.make-2.new.self c.args.yes.now c.args.no.now c.args.yes.now c.args.no.now
    (extends_both c.args.bank.now c.make.new.self c.make-2.new.self c.make.ensures.grows
    (extends_both c.make.new.self c.same.new.bank c.make-2.new.self c.same.ensures.grows c.make-2.ensures.grows)) c.requires.rows refl refl

pub returns-in_err-b-clause-grows : goal.returns-in_err-b-clause-grows
returns-in_err-b-clause-grows g c = extends_both c.args.bank.now c.make.new.self c.same.new.bank c.make.ensures.grows c.same.ensures.grows

pub returns-in_err-both-clause-grows : goal.returns-in_err-both-clause-grows
returns-in_err-both-clause-grows g c =
    extends_both c.args.bank.now c.make.new.self c.make-2.new.self c.make.ensures.grows
    (extends_both c.make.new.self c.same.new.bank c.make-2.new.self c.same.ensures.grows c.make-2.ensures.grows)

pub returns-clause-grows : goal.returns-clause-grows
returns-clause-grows g c =
    extends_both c.args.bank.now c.make.new.self c.write_row.new.bank c.make.ensures.grows
    (extends_both c.make.new.self c.same.new.bank c.write_row.new.bank c.same.ensures.grows
    (extends_both c.same.new.bank c.make-2.new.self c.write_row.new.bank c.make-2.ensures.grows c.write_row.ensures.grows))

pub make-requires : goal.make-requires
make-requires g c = record { least = c.requires.width.least; most = c.requires.width.most; fits = c.requires.number }

pub returns-clause-nodes : goal.returns-clause-nodes
returns-clause-nodes g c =
    subst (λ (o : Out (List Id)). OnOk c.write_row.result (c.write_row.new.bank ≡ o.nodes))
    (guarded_goes (g.B.Book.kinds c.args.book.now) c.args.guard.test c.args.guard.at c.args.guard.width c.args.number c.args.yes.now c.args.no.now
    c.in_ok-constant.constant
    c.in_ok-b.b c.in_ok-both.both c.args.bank.now c.make.new.self c.same.new.bank c.make-2.new.self c.in_ok-constant.ensures.id c.in_ok-constant.ensures.nodes
    c.in_ok-b.ensures.form c.in_ok-b.ensures.nodes c.in_ok-both.ensures.id c.in_ok-both.ensures.nodes) c.write_row.ensures.nodes

pub returns-clause-form : goal.returns-clause-form
returns-clause-form g c =
    subst (λ (o : Out (List Id)). IfOk c.write_row.result (λ row. row ≡ o.value))
    (guarded_goes (g.B.Book.kinds c.args.book.now) c.args.guard.test c.args.guard.at c.args.guard.width c.args.number c.args.yes.now c.args.no.now
    c.in_ok-constant.constant
    c.in_ok-b.b c.in_ok-both.both c.args.bank.now c.make.new.self c.same.new.bank c.make-2.new.self c.in_ok-constant.ensures.id c.in_ok-constant.ensures.nodes
    c.in_ok-b.ensures.form c.in_ok-b.ensures.nodes c.in_ok-both.ensures.id c.in_ok-both.ensures.nodes) c.write_row.ensures.form

pub returns-in_err-constant-clause-nodes : goal.returns-in_err-constant-clause-nodes
returns-in_err-constant-clause-nodes g c = IfOk-from_err c.from_residual.result _ c.from_residual.ensures.0

pub returns-in_err-constant-clause-form : goal.returns-in_err-constant-clause-form
returns-in_err-constant-clause-form g c = IfOk-from_err c.from_residual.result _ c.from_residual.ensures.0

pub returns-in_err-b-clause-nodes : goal.returns-in_err-b-clause-nodes
returns-in_err-b-clause-nodes g c = IfOk-from_err c.from_residual-in_err-b.result _ c.from_residual-in_err-b.ensures.0

pub returns-in_err-b-clause-form : goal.returns-in_err-b-clause-form
returns-in_err-b-clause-form g c = IfOk-from_err c.from_residual-in_err-b.result _ c.from_residual-in_err-b.ensures.0

pub returns-in_err-both-clause-nodes : goal.returns-in_err-both-clause-nodes
returns-in_err-both-clause-nodes g c = IfOk-from_err c.from_residual-in_err-both.result _ c.from_residual-in_err-both.ensures.0

pub returns-in_err-both-clause-form : goal.returns-in_err-both-clause-form
returns-in_err-both-clause-form g c = IfOk-from_err c.from_residual-in_err-both.result _ c.from_residual-in_err-both.ensures.0
