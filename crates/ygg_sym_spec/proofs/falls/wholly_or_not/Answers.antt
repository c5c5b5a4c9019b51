use Rattle.std.proofs.Common.{None}
use Rattle.ygg_sym_runs.specs.ygg_bank_proofs_Widths.{extends_both, wider}
use Rattle.ygg_sym_runs.proofs.Lows.{low_wider}
use Rattle.ygg_sym_runs.specs.Lows.{merge_lows}
use Rattle.ygg_sym_runs.specs.SpecCuts.{fall_made}
use Rattle.ygg_sym_runs.proofs.MergedLows.{lows_alike}
use Rattle.ygg_sym_spec.proofs.Falling.{not_can, spec_can}
use Rattle.ygg_sym_spec.proofs.Going.{both_single, form_along, lows_single, nodes_along, then_single, whole_goes}
use Rattle.ygg_sym_spec.specs.Layers.{closed, terms_in}
use Rattle.ygg_sym_spec.specs.Picking.{picking}
use Rattle.ygg_sym_spec.proofs.falls.wholly_or_not.Goals as goal

pub then_crash-requires-clause-can : goal.then_crash-requires-clause-can
then_crash-requires-clause-can g c =
    spec_can c.args.layer c.args.picks c.in_ok-later.later c.args.bank.now c.make.new.bank c.in_ok-later.ensures.first c.in_ok-happened.ensures.single
    c.make.ensures.grows c.args.operation.now c.args.vars.now c.args.args.now c.as_slice.result.now c.as_slice.ensures c.requires.can

pub crash-requires : goal.crash-requires
crash-requires g c = record {
  can = not_can c.args.layer c.args.picks c.in_ok-later.later c.args.bank.now c.then_crash.new.bank c.in_ok-later.ensures.first
      (then_single c.args.bank.now c.make.new.bank c.then_crash.new.bank c.in_ok-happened.ensures.single c.in_ok-all.ensures.single)
      (extends_both c.args.bank.now c.make.new.bank c.then_crash.new.bank c.make.ensures.grows c.then_crash.ensures.grows) c.args.operation.now
      c.args.vars.now c.args.args.now c.requires.can;
}

pub merge_lows-requires-clause-test : goal.merge_lows-requires-clause-test
merge_lows-requires-clause-test g c =
    wider c.make.new.bank c.crash.new.bank c.in_ok-happened.happened 1
    (extends_both c.make.new.bank c.then_crash.new.bank c.crash.new.bank c.then_crash.ensures.grows c.crash.ensures.grows) c.in_ok-happened.ensures.width

pub merge_lows-requires-clause-values : goal.merge_lows-requires-clause-values
merge_lows-requires-clause-values g c =
    let state = (c.args.layer.layer.now).state in
    lows_alike c.crash.new.bank state c.in_ok-all.all c.in_ok-nothing.nothing
    (low_wider c.then_crash.new.bank c.crash.new.bank state c.in_ok-all.all c.crash.ensures.grows c.in_ok-all.ensures.shape) c.in_ok-nothing.ensures.shape

pub returns-clause-nodes : goal.returns-clause-nodes
returns-clause-nodes g c =
    let kinds = g.B.Book.kinds c.args.book.now in
    nodes_along (merge_lows kinds c.in_ok-happened.happened c.in_ok-all.all c.in_ok-nothing.nothing c.crash.new.bank)
    (fall_made kinds (terms_in kinds c.args.layer) (closed c.args.layer) (picking kinds c.args.picks) c.args.operation.now None c.args.vars.now c.args.args.now
    c.args.bank.now) c.merge_lows.new.bank c.merge_lows.result
    (whole_goes kinds c.args.layer c.args.picks c.in_ok-later.later c.args.operation.now c.args.vars.now c.as_slice.result.now c.args.args.now
    c.in_ok-happened.happened c.in_ok-all.all c.in_ok-nothing.nothing c.args.bank.now c.make.new.bank c.then_crash.new.bank c.crash.new.bank
    c.in_ok-later.ensures.picks c.as_slice.ensures c.in_ok-happened.ensures.nodes c.in_ok-happened.ensures.form c.in_ok-all.ensures.nodes
    c.in_ok-all.ensures.form c.in_ok-nothing.ensures.nodes c.in_ok-nothing.ensures.form) c.merge_lows.ensures.nodes

pub returns-clause-form : goal.returns-clause-form
returns-clause-form g c =
    let kinds = g.B.Book.kinds c.args.book.now in
    form_along (merge_lows kinds c.in_ok-happened.happened c.in_ok-all.all c.in_ok-nothing.nothing c.crash.new.bank)
    (fall_made kinds (terms_in kinds c.args.layer) (closed c.args.layer) (picking kinds c.args.picks) c.args.operation.now None c.args.vars.now c.args.args.now
    c.args.bank.now) c.merge_lows.result
    (whole_goes kinds c.args.layer c.args.picks c.in_ok-later.later c.args.operation.now c.args.vars.now c.as_slice.result.now c.args.args.now
    c.in_ok-happened.happened c.in_ok-all.all c.in_ok-nothing.nothing c.args.bank.now c.make.new.bank c.then_crash.new.bank c.crash.new.bank
    c.in_ok-later.ensures.picks c.as_slice.ensures c.in_ok-happened.ensures.nodes c.in_ok-happened.ensures.form c.in_ok-all.ensures.nodes
    c.in_ok-all.ensures.form c.in_ok-nothing.ensures.nodes c.in_ok-nothing.ensures.form) c.merge_lows.ensures.form

pub returns-clause-shape : goal.returns-clause-shape
returns-clause-shape g c =
    let state = (c.args.layer.layer.now).state in
    c.merge_lows.ensures.shape state
    (low_wider c.then_crash.new.bank c.crash.new.bank state c.in_ok-all.all c.crash.ensures.grows c.in_ok-all.ensures.shape) c.in_ok-nothing.ensures.shape

pub returns-clause-single : goal.returns-clause-single
returns-clause-single g c =
    both_single c.args.bank.now c.crash.new.bank c.merge_lows.new.bank c.merge_lows.result
    (then_single c.args.bank.now c.make.new.bank c.crash.new.bank c.in_ok-happened.ensures.single
    (then_single c.make.new.bank c.then_crash.new.bank c.crash.new.bank c.in_ok-all.ensures.single c.in_ok-nothing.ensures.single))
    (lows_single (g.B.Book.kinds c.args.book.now) c.in_ok-happened.happened c.in_ok-all.all c.in_ok-nothing.nothing c.crash.new.bank c.merge_lows.new.bank
    c.merge_lows.result c.merge_lows.ensures.nodes)

pub returns-in_err-all-clause-grows : goal.returns-in_err-all-clause-grows
returns-in_err-all-clause-grows g c =
    extends_both c.args.bank.now c.make.new.bank c.then_crash.new.bank c.make.ensures.grows c.then_crash.ensures.grows

pub returns-in_err-nothing-clause-grows : goal.returns-in_err-nothing-clause-grows
returns-in_err-nothing-clause-grows g c =
    extends_both c.args.bank.now c.make.new.bank c.crash.new.bank c.make.ensures.grows
    (extends_both c.make.new.bank c.then_crash.new.bank c.crash.new.bank c.then_crash.ensures.grows c.crash.ensures.grows)

pub returns-clause-grows : goal.returns-clause-grows
returns-clause-grows g c =
    extends_both c.args.bank.now c.make.new.bank c.merge_lows.new.bank c.make.ensures.grows
    (extends_both c.make.new.bank c.then_crash.new.bank c.merge_lows.new.bank c.then_crash.ensures.grows
    (extends_both c.then_crash.new.bank c.crash.new.bank c.merge_lows.new.bank c.crash.ensures.grows c.merge_lows.ensures.grows))

pub make-requires : goal.make-requires
make-requires g c = c.requires.can.single

pub then_crash-requires-clause-crash : goal.then_crash-requires-clause-crash
then_crash-requires-clause-crash g c = c.requires.can.crash

pub returns-clause-bank : goal.returns-clause-bank
returns-clause-bank g c = c.merge_lows.ensures.bank

pub returns-in_err-nothing-clause-bank : goal.returns-in_err-nothing-clause-bank
returns-in_err-nothing-clause-bank g c = c.crash.ensures.bank

pub returns-in_err-all-clause-bank : goal.returns-in_err-all-clause-bank
returns-in_err-all-clause-bank g c = c.then_crash.ensures.bank

pub returns-in_err-later-clause-bank : goal.returns-in_err-later-clause-bank
returns-in_err-later-clause-bank g c = c.make.ensures.bank

pub returns-in_err-later-clause-grows : goal.returns-in_err-later-clause-grows
returns-in_err-later-clause-grows g c = c.make.ensures.grows

pub returns-in_err-happened-clause-bank : goal.returns-in_err-happened-clause-bank
returns-in_err-happened-clause-bank g c = c.make.ensures.bank
