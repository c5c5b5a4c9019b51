use Rattle.std.proofs.Common.{subst, sym}
use Rattle.ygg_sym_runs.specs.ygg_bank_proofs_Widths.{extends_both, wider}
use Rattle.ygg_sym_machine.specs.Halting.{halted_low}
use Rattle.ygg_sym_machine.proofs.Standing.{can_pick, pick_single, single_both}
use Rattle.std.proofs.lemmas.Result.{IfOk-from_err}
use Rattle.ygg_sym_machine.proofs.Calls.{on_ok_refused}
use Rattle.ygg_sym_machine.proofs.halting.HaltingSymLower.merge.Goals as goal

pub join-requires : goal.join-requires
join-requires g c =
    let M = g.W.SymLower.means c.args.self.now.stops.now in
    let m = c.requires.merges in
    let yes = c.yes.inside in
    let no = c.no.inside in
    let one = subst ((halted_low M).Has c.args.bank.now) (sym c.yes.view_is) m.first_has in
    let two = subst ((halted_low M).Has c.args.bank.now) (sym c.no.view_is) m.second_has in
    record {
      merges = record {
        serves = m.serves;
        test = wider c.args.bank.now c.merge.new.bank c.args.test 1 c.merge.ensures.grows m.test;
        first_has = M.low.wider c.args.bank.now c.merge.new.bank yes.fallen c.merge.ensures.grows one.1;
        second_has = M.low.wider c.args.bank.now c.merge.new.bank no.fallen c.merge.ensures.grows two.1;
      };
    }

pub pick-requires-clause-pick : goal.pick-requires-clause-pick
pick-requires-clause-pick g c =
    let M = g.W.SymLower.means c.args.self.now.stops.now in
    let m = c.requires.merges in
    let yes = c.yes.inside in
    let no = c.no.inside in
    let one = subst ((halted_low M).Has c.args.bank.now) (sym c.yes.view_is) m.first_has in
    let two = subst ((halted_low M).Has c.args.bank.now) (sym c.no.view_is) m.second_has in
    let grows = extends_both c.args.bank.now c.merge.new.bank c.join.new.bank c.merge.ensures.grows c.join.ensures.grows in
    can_pick c.join.new.bank c.args.test yes.stopped no.stopped (wider c.args.bank.now c.join.new.bank c.args.test 1 grows m.test)
    (wider c.args.bank.now c.join.new.bank yes.stopped 1 grows one.2) (wider c.args.bank.now c.join.new.bank no.stopped 1 grows two.2)

pub returns-clause-single : goal.returns-clause-single
returns-clause-single g c =
    let yes = c.yes.inside in
    let no = c.no.inside in
    single_both c.args.bank.now c.merge.new.bank c.pick.new.bank c.in_ok-to.ensures.single
    (single_both c.merge.new.bank c.join.new.bank c.pick.new.bank c.in_ok-fallen.ensures.single
    (pick_single (g.B.Book.kinds c.args.book.now) c.join.new.bank c.pick.new.bank c.args.test yes.stopped no.stopped c.in_ok-stopped.ensures.nodes))

pub returns-in_err-fallen-clause-grows : goal.returns-in_err-fallen-clause-grows
returns-in_err-fallen-clause-grows g c =
    extends_both c.args.bank.now c.merge.new.bank c.join.new.bank c.merge.ensures.grows c.join.ensures.grows

pub returns-in_err-stopped-clause-grows : goal.returns-in_err-stopped-clause-grows
returns-in_err-stopped-clause-grows g c =
    extends_both c.args.bank.now c.merge.new.bank c.pick.new.bank c.merge.ensures.grows
    (extends_both c.merge.new.bank c.join.new.bank c.pick.new.bank c.join.ensures.grows
    c.pick.ensures.grows)

pub returns-clause-grows : goal.returns-clause-grows
returns-clause-grows g c =
    extends_both c.args.bank.now c.merge.new.bank c.pick.new.bank c.merge.ensures.grows
    (extends_both c.merge.new.bank c.join.new.bank c.pick.new.bank c.join.ensures.grows
    c.pick.ensures.grows)

pub returns-in_err-to-clause-nodes : goal.returns-in_err-to-clause-nodes
returns-in_err-to-clause-nodes g c = on_ok_refused c.from_residual.result _ c.from_residual.ensures.0

pub returns-in_err-to-clause-single : goal.returns-in_err-to-clause-single
returns-in_err-to-clause-single g c = on_ok_refused c.from_residual.result _ c.from_residual.ensures.0

pub returns-in_err-to-clause-form : goal.returns-in_err-to-clause-form
returns-in_err-to-clause-form g c = IfOk-from_err c.from_residual.result _ c.from_residual.ensures.0

pub returns-in_err-to-clause-bank : goal.returns-in_err-to-clause-bank
returns-in_err-to-clause-bank g c = c.merge.ensures.bank

pub returns-in_err-fallen-clause-nodes : goal.returns-in_err-fallen-clause-nodes
returns-in_err-fallen-clause-nodes g c = on_ok_refused c.from_residual-in_err-fallen.result _ c.from_residual-in_err-fallen.ensures.0

pub returns-in_err-fallen-clause-single : goal.returns-in_err-fallen-clause-single
returns-in_err-fallen-clause-single g c = on_ok_refused c.from_residual-in_err-fallen.result _ c.from_residual-in_err-fallen.ensures.0

pub returns-in_err-fallen-clause-form : goal.returns-in_err-fallen-clause-form
returns-in_err-fallen-clause-form g c = IfOk-from_err c.from_residual-in_err-fallen.result _ c.from_residual-in_err-fallen.ensures.0

pub returns-in_err-fallen-clause-bank : goal.returns-in_err-fallen-clause-bank
returns-in_err-fallen-clause-bank g c = c.join.ensures.bank

pub returns-in_err-stopped-clause-nodes : goal.returns-in_err-stopped-clause-nodes
returns-in_err-stopped-clause-nodes g c = on_ok_refused c.from_residual-in_err-stopped.result _ c.from_residual-in_err-stopped.ensures.0

pub returns-in_err-stopped-clause-single : goal.returns-in_err-stopped-clause-single
returns-in_err-stopped-clause-single g c = on_ok_refused c.from_residual-in_err-stopped.result _ c.from_residual-in_err-stopped.ensures.0

pub returns-in_err-stopped-clause-form : goal.returns-in_err-stopped-clause-form
returns-in_err-stopped-clause-form g c = IfOk-from_err c.from_residual-in_err-stopped.result _ c.from_residual-in_err-stopped.ensures.0

pub returns-in_err-stopped-clause-bank : goal.returns-in_err-stopped-clause-bank
returns-in_err-stopped-clause-bank g c = c.pick.ensures.bank

pub returns-in_err-to-clause-grows : goal.returns-in_err-to-clause-grows
returns-in_err-to-clause-grows g c = c.merge.ensures.grows

pub returns-clause-bank : goal.returns-clause-bank
returns-clause-bank g c = c.pick.ensures.bank

pub pick-requires-clause-bank : goal.pick-requires-clause-bank
pick-requires-clause-bank g c = c.join.ensures.bank
