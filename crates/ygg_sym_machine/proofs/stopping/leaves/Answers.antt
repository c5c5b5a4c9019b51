use Rattle.ygg_sym_runs.specs.Lower.{question_of}
use Rattle.ygg_sym_machine.specs.Halting.{halted_of, no_functions}
use Rattle.ygg_sym_machine.proofs.Leaving.{after_cut, after_inner, after_lost, can_inner, can_outer, joined_if}
use Rattle.ygg_sym_machine.proofs.Standing.{can_lose, single_both, single_if}
use Rattle.ygg_sym_runs.specs.ygg_bank_proofs_Widths.{extends_both}
use Rattle.ygg_sym_runs.specs.StopTerms.{sym_leaves}
use Rattle.ygg_sym_machine.specs.Stopping.{stops_on}
use Rattle.ygg_sym_machine.proofs.Chains.{form_as, leaves_from, nodes_as}
use Rattle.std.proofs.lemmas.Result.{IfOk-from_err}
use Rattle.ygg_sym_machine.proofs.Calls.{on_ok_refused}
use Rattle.ygg_sym_machine.proofs.stopping.leaves.Goals as goal

pub join-requires : goal.join-requires
join-requires g c =
    let M = g.W.SymLower.means c.args.stops.now in
    let K = g.W.SymStops.power c.args.stops.now in
    let low = g.met.W.SymLower.keeps c.args.stops.now in
    let power = g.met.W.SymStops.keeps_power c.args.stops.now in
    let kinds = g.B.Book.kinds c.args.book.now in
    let q = question_of c.args.question in
    let z = halted_of c.args.to.now c.args.fallen.now c.args.stopped in
    let one = after_cut M K low power kinds q z c.args.here c.args.within c.args.bank.now c.cut.new.bank c.in_ok-cut.cut c.requires.asks
    c.requires.here c.requires.within
    c.cut.ensures.bank c.cut.ensures.grows c.in_ok-cut.ensures.single c.in_ok-cut.ensures.nodes c.in_ok-cut.ensures.form in
    record { merges = can_inner M K low power kinds q z c.args.here c.args.within c.cut.new.bank c.in_ok-cut.cut one }

pub lose-requires : goal.lose-requires
lose-requires g c =
    let M = g.W.SymLower.means c.args.stops.now in
    let K = g.W.SymStops.power c.args.stops.now in
    let low = g.met.W.SymLower.keeps c.args.stops.now in
    let power = g.met.W.SymStops.keeps_power c.args.stops.now in
    let kinds = g.B.Book.kinds c.args.book.now in
    let q = question_of c.args.question in
    let z = halted_of c.args.to.now c.args.fallen.now c.args.stopped in
    let one = after_cut M K low power kinds q z c.args.here c.args.within c.args.bank.now c.cut.new.bank c.in_ok-cut.cut c.requires.asks
    c.requires.here c.requires.within
    c.cut.ensures.bank c.cut.ensures.grows c.in_ok-cut.ensures.single c.in_ok-cut.ensures.nodes c.in_ok-cut.ensures.form in
    let two = after_inner M K low power kinds q z c.args.here c.args.within c.cut.new.bank c.join.new.bank c.in_ok-cut.cut c.in_ok-inner.inner one
    c.join.ensures.bank c.join.ensures.grows c.in_ok-inner.ensures.single c.in_ok-inner.ensures.nodes c.in_ok-inner.ensures.form in
    record { loses = can_lose M K c.join.new.bank q z two.ask }

pub join-requires-2 : goal.join-requires-2
join-requires-2 g c =
    let M = g.W.SymLower.means c.args.stops.now in
    let K = g.W.SymStops.power c.args.stops.now in
    let low = g.met.W.SymLower.keeps c.args.stops.now in
    let power = g.met.W.SymStops.keeps_power c.args.stops.now in
    let kinds = g.B.Book.kinds c.args.book.now in
    let q = question_of c.args.question in
    let z = halted_of c.args.to.now c.args.fallen.now c.args.stopped in
    let one = after_cut M K low power kinds q z c.args.here c.args.within c.args.bank.now c.cut.new.bank c.in_ok-cut.cut c.requires.asks
    c.requires.here c.requires.within
    c.cut.ensures.bank c.cut.ensures.grows c.in_ok-cut.ensures.single c.in_ok-cut.ensures.nodes c.in_ok-cut.ensures.form in
    let two = after_inner M K low power kinds q z c.args.here c.args.within c.cut.new.bank c.join.new.bank c.in_ok-cut.cut c.in_ok-inner.inner one
    c.join.ensures.bank c.join.ensures.grows c.in_ok-inner.ensures.single c.in_ok-inner.ensures.nodes c.in_ok-inner.ensures.form in
    let three = after_lost M K low power kinds q z c.args.here c.args.within c.join.new.bank c.lose.new.bank c.in_ok-inner.inner c.in_ok-lost.lost two
    c.lose.ensures.bank c.lose.ensures.grows c.in_ok-lost.ensures.single c.in_ok-lost.ensures.nodes c.in_ok-lost.ensures.form in
    record { merges = can_outer M K low power kinds q z c.args.here c.args.within c.lose.new.bank c.in_ok-inner.inner c.in_ok-lost.lost three }

pub returns-in_err-inner-clause-grows : goal.returns-in_err-inner-clause-grows
returns-in_err-inner-clause-grows g c =
    extends_both c.args.bank.now c.cut.new.bank c.join.new.bank c.cut.ensures.grows c.join.ensures.grows

pub returns-in_err-lost-clause-grows : goal.returns-in_err-lost-clause-grows
returns-in_err-lost-clause-grows g c =
    extends_both c.args.bank.now c.cut.new.bank c.lose.new.bank c.cut.ensures.grows
    (extends_both c.cut.new.bank c.join.new.bank c.lose.new.bank c.join.ensures.grows
    c.lose.ensures.grows)

pub returns-in_err-cut-clause-nodes : goal.returns-in_err-cut-clause-nodes
returns-in_err-cut-clause-nodes g c = on_ok_refused c.from_residual.result _ c.from_residual.ensures.0

pub returns-in_err-cut-clause-single : goal.returns-in_err-cut-clause-single
returns-in_err-cut-clause-single g c = on_ok_refused c.from_residual.result _ c.from_residual.ensures.0

pub returns-in_err-cut-clause-form : goal.returns-in_err-cut-clause-form
returns-in_err-cut-clause-form g c = IfOk-from_err c.from_residual.result _ c.from_residual.ensures.0

pub returns-in_err-cut-clause-stands : goal.returns-in_err-cut-clause-stands
returns-in_err-cut-clause-stands g c = IfOk-from_err c.from_residual.result _ c.from_residual.ensures.0

pub returns-in_err-cut-clause-bank : goal.returns-in_err-cut-clause-bank
returns-in_err-cut-clause-bank g c = c.cut.ensures.bank

pub returns-in_err-inner-clause-nodes : goal.returns-in_err-inner-clause-nodes
returns-in_err-inner-clause-nodes g c = on_ok_refused c.from_residual-in_err-inner.result _ c.from_residual-in_err-inner.ensures.0

pub returns-in_err-inner-clause-single : goal.returns-in_err-inner-clause-single
returns-in_err-inner-clause-single g c = on_ok_refused c.from_residual-in_err-inner.result _ c.from_residual-in_err-inner.ensures.0

pub returns-in_err-inner-clause-form : goal.returns-in_err-inner-clause-form
returns-in_err-inner-clause-form g c = IfOk-from_err c.from_residual-in_err-inner.result _ c.from_residual-in_err-inner.ensures.0

pub returns-in_err-inner-clause-stands : goal.returns-in_err-inner-clause-stands
returns-in_err-inner-clause-stands g c = IfOk-from_err c.from_residual-in_err-inner.result _ c.from_residual-in_err-inner.ensures.0

pub returns-in_err-inner-clause-bank : goal.returns-in_err-inner-clause-bank
returns-in_err-inner-clause-bank g c = c.join.ensures.bank

pub returns-in_err-lost-clause-nodes : goal.returns-in_err-lost-clause-nodes
returns-in_err-lost-clause-nodes g c = on_ok_refused c.from_residual-in_err-lost.result _ c.from_residual-in_err-lost.ensures.0

pub returns-in_err-lost-clause-single : goal.returns-in_err-lost-clause-single
returns-in_err-lost-clause-single g c = on_ok_refused c.from_residual-in_err-lost.result _ c.from_residual-in_err-lost.ensures.0

pub returns-in_err-lost-clause-form : goal.returns-in_err-lost-clause-form
returns-in_err-lost-clause-form g c = IfOk-from_err c.from_residual-in_err-lost.result _ c.from_residual-in_err-lost.ensures.0

pub returns-in_err-lost-clause-stands : goal.returns-in_err-lost-clause-stands
returns-in_err-lost-clause-stands g c = IfOk-from_err c.from_residual-in_err-lost.result _ c.from_residual-in_err-lost.ensures.0

pub returns-in_err-lost-clause-bank : goal.returns-in_err-lost-clause-bank
returns-in_err-lost-clause-bank g c = c.lose.ensures.bank

pub returns-in_err-cut-clause-grows : goal.returns-in_err-cut-clause-grows
returns-in_err-cut-clause-grows g c = c.cut.ensures.grows

pub returns-clause-stands : goal.returns-clause-stands
returns-clause-stands g c =
    let M = g.W.SymLower.means c.args.stops.now in
    let K = g.W.SymStops.power c.args.stops.now in
    let low = g.met.W.SymLower.keeps c.args.stops.now in
    let power = g.met.W.SymStops.keeps_power c.args.stops.now in
    let kinds = g.B.Book.kinds c.args.book.now in
    let q = question_of c.args.question in
    let z = halted_of c.args.to.now c.args.fallen.now c.args.stopped in
    let one = after_cut M K low power kinds q z c.args.here c.args.within c.args.bank.now c.cut.new.bank c.in_ok-cut.cut c.requires.asks
    c.requires.here c.requires.within
    c.cut.ensures.bank c.cut.ensures.grows c.in_ok-cut.ensures.single c.in_ok-cut.ensures.nodes c.in_ok-cut.ensures.form in
    let two = after_inner M K low power kinds q z c.args.here c.args.within c.cut.new.bank c.join.new.bank c.in_ok-cut.cut c.in_ok-inner.inner one
    c.join.ensures.bank c.join.ensures.grows c.in_ok-inner.ensures.single c.in_ok-inner.ensures.nodes c.in_ok-inner.ensures.form in
    let three = after_lost M K low power kinds q z c.args.here c.args.within c.join.new.bank c.lose.new.bank c.in_ok-inner.inner c.in_ok-lost.lost two
    c.lose.ensures.bank c.lose.ensures.grows c.in_ok-lost.ensures.single c.in_ok-lost.ensures.nodes c.in_ok-lost.ensures.form in
    let can = can_outer M K low power kinds q z c.args.here c.args.within c.lose.new.bank c.in_ok-inner.inner c.in_ok-lost.lost three in
    joined_if M K low power kinds c.args.here c.in_ok-lost.lost c.in_ok-inner.inner c.lose.new.bank c.join-2.new.bank c.join-2.result can
    c.join-2.ensures.bank c.join-2.ensures.nodes c.join-2.ensures.form

pub returns-clause-single : goal.returns-clause-single
returns-clause-single g c =
    single_if c.args.bank.now c.lose.new.bank c.join-2.new.bank c.join-2.result
    (single_both c.args.bank.now c.cut.new.bank c.lose.new.bank c.in_ok-cut.ensures.single
    (single_both c.cut.new.bank c.join.new.bank c.lose.new.bank c.in_ok-inner.ensures.single c.in_ok-lost.ensures.single)) c.join-2.ensures.single

pub returns-clause-grows : goal.returns-clause-grows
returns-clause-grows g c =
    extends_both c.args.bank.now c.cut.new.bank c.join-2.new.bank c.cut.ensures.grows
    (extends_both c.cut.new.bank c.join.new.bank c.join-2.new.bank c.join.ensures.grows
    (extends_both c.join.new.bank c.lose.new.bank c.join-2.new.bank c.lose.ensures.grows
    c.join-2.ensures.grows))

pub returns-clause-nodes : goal.returns-clause-nodes
returns-clause-nodes g c =
    let M = g.W.SymLower.means c.args.stops.now in
    let K = g.W.SymStops.power c.args.stops.now in
    let kinds = g.B.Book.kinds c.args.book.now in
    let q = question_of c.args.question in
    let z = halted_of c.args.to.now c.args.fallen.now c.args.stopped in
    nodes_as (K.join kinds c.args.here c.in_ok-lost.lost c.in_ok-inner.inner c.lose.new.bank)
    (sym_leaves kinds no_functions (M.machine kinds) (stops_on M K kinds) c.args.here c.args.within q z c.args.bank.now) c.join-2.new.bank c.join-2.result
    (leaves_from (K.cut kinds q c.args.to.now) (K.lose kinds c.args.to.now) (K.join kinds) c.args.here c.args.within
    c.args.fallen.now c.in_ok-cut.cut c.in_ok-inner.inner c.in_ok-lost.lost c.args.bank.now c.cut.new.bank c.join.new.bank
    c.lose.new.bank c.in_ok-cut.ensures.form c.in_ok-cut.ensures.nodes c.in_ok-inner.ensures.form c.in_ok-inner.ensures.nodes
    c.in_ok-lost.ensures.form c.in_ok-lost.ensures.nodes) c.join-2.ensures.nodes

pub returns-clause-form : goal.returns-clause-form
returns-clause-form g c =
    let M = g.W.SymLower.means c.args.stops.now in
    let K = g.W.SymStops.power c.args.stops.now in
    let kinds = g.B.Book.kinds c.args.book.now in
    let q = question_of c.args.question in
    let z = halted_of c.args.to.now c.args.fallen.now c.args.stopped in
    form_as (K.join kinds c.args.here c.in_ok-lost.lost c.in_ok-inner.inner c.lose.new.bank)
    (sym_leaves kinds no_functions (M.machine kinds) (stops_on M K kinds) c.args.here c.args.within q z c.args.bank.now) c.join-2.result
    (leaves_from (K.cut kinds q c.args.to.now) (K.lose kinds c.args.to.now) (K.join kinds) c.args.here c.args.within
    c.args.fallen.now c.in_ok-cut.cut c.in_ok-inner.inner c.in_ok-lost.lost c.args.bank.now c.cut.new.bank c.join.new.bank
    c.lose.new.bank c.in_ok-cut.ensures.form c.in_ok-cut.ensures.nodes c.in_ok-inner.ensures.form c.in_ok-inner.ensures.nodes
    c.in_ok-lost.ensures.form c.in_ok-lost.ensures.nodes) c.join-2.ensures.form

pub returns-clause-bank : goal.returns-clause-bank
returns-clause-bank g c = c.join-2.ensures.bank
