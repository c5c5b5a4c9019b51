use Rattle.ygg_sym_runs.specs.ygg_bank_proofs_Widths.{extends_both, wider}
use Rattle.ygg_sym_machine.specs.Halting.{halted_of, halting_meaning, last_left_made}
use Rattle.ygg_sym_machine.proofs.Standing.{lose_there, single_both, stands_later}
use Rattle.std.proofs.Common.{ap, ◌∙◌}
use Rattle.ygg_sym_runs.specs.ygg_bank.Makes.{Out}
use Rattle.ygg_sym_runs.specs.Stops.{before_at}
use Rattle.ygg_sym_runs.specs.StopTerms.{SymFallen}
use Rattle.ygg_sym_machine.specs.Stopping.{stops_on}
use Rattle.ygg_sym_machine.proofs.Chains.{fall_from}
use Rattle.std.proofs.lemmas.Result.{IfOk-from_err}
use Rattle.ygg_sym_machine.proofs.Calls.{on_ok_refused}
use Rattle.ygg_sym_machine.proofs.ending.end_halting.Goals as goal

pub bit-requires : goal.bit-requires
bit-requires g c =
    let M = g.W.SymLower.means c.args.stops.now in
    let K = g.W.SymStops.power c.args.stops.now in
    let z = halted_of c.args.to.now c.args.fallen.now c.args.stopped in
    let can = lose_there M K c.args.bank.now z c.requires.stands in
    can.single

pub last_left-requires-clause-stands : goal.last_left-requires-clause-stands
last_left-requires-clause-stands g c =
    let H = halting_meaning (g.W.SymLower.means c.args.stops.now) (g.W.SymStops.power c.args.stops.now) in
    let z = halted_of c.args.to.now c.args.fallen.now c.args.stopped in
    stands_later H c.args.bank.now c.bit.new.bank z c.bit.ensures.grows c.in_ok-here.ensures.single c.requires.stands

pub bit-requires-2 : goal.bit-requires-2
bit-requires-2 g c =
    let M = g.W.SymLower.means c.args.stops.now in
    let K = g.W.SymStops.power c.args.stops.now in
    let z = halted_of c.args.to.now c.args.fallen.now c.args.stopped in
    let can = lose_there M K c.args.bank.now z c.requires.stands in
    single_both c.args.bank.now c.bit.new.bank c.last_left.new.bank c.in_ok-here.ensures.single c.in_ok-left.ensures.single K.first can.single

pub either-requires-clause-one : goal.either-requires-clause-one
either-requires-clause-one g c =
    let st = c.requires.stands in
    let h = st.has in
    wider c.args.bank.now c.bit-2.new.bank c.args.stopped 1
    (extends_both c.args.bank.now c.bit.new.bank c.bit-2.new.bank c.bit.ensures.grows
    (extends_both c.bit.new.bank c.last_left.new.bank c.bit-2.new.bank c.last_left.ensures.grows c.bit-2.ensures.grows)) h.2

pub returns-clause-has : goal.returns-clause-has
returns-clause-has g c =
    let M = g.W.SymLower.means c.args.stops.now in
    M.low.wider c.last_left.new.bank c.either.new.bank c.in_ok-left.left
    (extends_both c.last_left.new.bank c.bit-2.new.bank c.either.new.bank c.bit-2.ensures.grows c.either.ensures.grows) c.in_ok-left.ensures.has

pub returns-clause-single : goal.returns-clause-single
returns-clause-single g c =
    single_both c.args.bank.now c.bit.new.bank c.either.new.bank c.in_ok-here.ensures.single
    (single_both c.bit.new.bank c.last_left.new.bank c.either.new.bank c.in_ok-left.ensures.single
    (single_both c.last_left.new.bank c.bit-2.new.bank c.either.new.bank c.in_ok-again.ensures.single c.in_ok-reached.ensures.single))

pub returns-in_err-left-clause-grows : goal.returns-in_err-left-clause-grows
returns-in_err-left-clause-grows g c =
    extends_both c.args.bank.now c.bit.new.bank c.last_left.new.bank c.bit.ensures.grows c.last_left.ensures.grows

pub returns-in_err-again-clause-grows : goal.returns-in_err-again-clause-grows
returns-in_err-again-clause-grows g c =
    extends_both c.args.bank.now c.bit.new.bank c.bit-2.new.bank c.bit.ensures.grows
    (extends_both c.bit.new.bank c.last_left.new.bank c.bit-2.new.bank c.last_left.ensures.grows
    c.bit-2.ensures.grows)

pub returns-in_err-reached-clause-grows : goal.returns-in_err-reached-clause-grows
returns-in_err-reached-clause-grows g c =
    extends_both c.args.bank.now c.bit.new.bank c.either.new.bank c.bit.ensures.grows
    (extends_both c.bit.new.bank c.last_left.new.bank c.either.new.bank c.last_left.ensures.grows
    (extends_both c.last_left.new.bank c.bit-2.new.bank c.either.new.bank c.bit-2.ensures.grows
    c.either.ensures.grows))

pub returns-clause-grows : goal.returns-clause-grows
returns-clause-grows g c =
    extends_both c.args.bank.now c.bit.new.bank c.either.new.bank c.bit.ensures.grows
    (extends_both c.bit.new.bank c.last_left.new.bank c.either.new.bank c.last_left.ensures.grows
    (extends_both c.last_left.new.bank c.bit-2.new.bank c.either.new.bank c.bit-2.ensures.grows
    c.either.ensures.grows))

pub returns-clause-nodes : goal.returns-clause-nodes
returns-clause-nodes g c =
    let M = g.W.SymLower.means c.args.stops.now in
    let K = g.W.SymStops.power c.args.stops.now in
    let kinds = g.B.Book.kinds c.args.book.now in
    let z = halted_of c.args.to.now c.args.fallen.now c.args.stopped in
    let K2 = stops_on M K kinds in
    ap (λ (o : Out (SymFallen _)). o.nodes) (fall_from (K2.bit (before_at c.args.last)) (λ here. last_left_made M K kinds here z) K2.either
    c.args.stopped c.in_ok-here.here c.in_ok-again.again
    c.in_ok-reached.reached c.in_ok-left.left c.args.bank.now c.bit.new.bank c.last_left.new.bank c.bit-2.new.bank c.either.new.bank
    (c.in_ok-here.ensures.form ∙ ap (λ n. (K2.bit n c.args.bank.now).value) c.in_ok-number.ensures)
    (c.in_ok-here.ensures.nodes ∙ ap (λ n. (K2.bit n c.args.bank.now).nodes) c.in_ok-number.ensures)
    c.in_ok-left.ensures.form c.in_ok-left.ensures.nodes
    (c.in_ok-again.ensures.form ∙ ap (λ n. (K2.bit n c.last_left.new.bank).value) c.in_ok-number.ensures)
    (c.in_ok-again.ensures.nodes ∙ ap (λ n. (K2.bit n c.last_left.new.bank).nodes) c.in_ok-number.ensures)
    c.in_ok-reached.ensures.form c.in_ok-reached.ensures.nodes)

pub returns-clause-left : goal.returns-clause-left
returns-clause-left g c =
    let M = g.W.SymLower.means c.args.stops.now in
    let K = g.W.SymStops.power c.args.stops.now in
    let kinds = g.B.Book.kinds c.args.book.now in
    let z = halted_of c.args.to.now c.args.fallen.now c.args.stopped in
    let K2 = stops_on M K kinds in
    ap (λ (o : Out (SymFallen _)). o.value.fallen) (fall_from (K2.bit (before_at c.args.last)) (λ here. last_left_made M K kinds here z) K2.either
    c.args.stopped c.in_ok-here.here c.in_ok-again.again
    c.in_ok-reached.reached c.in_ok-left.left c.args.bank.now c.bit.new.bank c.last_left.new.bank c.bit-2.new.bank c.either.new.bank
    (c.in_ok-here.ensures.form ∙ ap (λ n. (K2.bit n c.args.bank.now).value) c.in_ok-number.ensures)
    (c.in_ok-here.ensures.nodes ∙ ap (λ n. (K2.bit n c.args.bank.now).nodes) c.in_ok-number.ensures)
    c.in_ok-left.ensures.form c.in_ok-left.ensures.nodes
    (c.in_ok-again.ensures.form ∙ ap (λ n. (K2.bit n c.last_left.new.bank).value) c.in_ok-number.ensures)
    (c.in_ok-again.ensures.nodes ∙ ap (λ n. (K2.bit n c.last_left.new.bank).nodes) c.in_ok-number.ensures)
    c.in_ok-reached.ensures.form c.in_ok-reached.ensures.nodes)

pub returns-clause-reached : goal.returns-clause-reached
returns-clause-reached g c =
    let M = g.W.SymLower.means c.args.stops.now in
    let K = g.W.SymStops.power c.args.stops.now in
    let kinds = g.B.Book.kinds c.args.book.now in
    let z = halted_of c.args.to.now c.args.fallen.now c.args.stopped in
    let K2 = stops_on M K kinds in
    ap (λ (o : Out (SymFallen _)). o.value.reached) (fall_from (K2.bit (before_at c.args.last)) (λ here. last_left_made M K kinds here z) K2.either
    c.args.stopped c.in_ok-here.here c.in_ok-again.again
    c.in_ok-reached.reached c.in_ok-left.left c.args.bank.now c.bit.new.bank c.last_left.new.bank c.bit-2.new.bank c.either.new.bank
    (c.in_ok-here.ensures.form ∙ ap (λ n. (K2.bit n c.args.bank.now).value) c.in_ok-number.ensures)
    (c.in_ok-here.ensures.nodes ∙ ap (λ n. (K2.bit n c.args.bank.now).nodes) c.in_ok-number.ensures)
    c.in_ok-left.ensures.form c.in_ok-left.ensures.nodes
    (c.in_ok-again.ensures.form ∙ ap (λ n. (K2.bit n c.last_left.new.bank).value) c.in_ok-number.ensures)
    (c.in_ok-again.ensures.nodes ∙ ap (λ n. (K2.bit n c.last_left.new.bank).nodes) c.in_ok-number.ensures)
    c.in_ok-reached.ensures.form c.in_ok-reached.ensures.nodes)

pub returns-in_err-number-clause-nodes : goal.returns-in_err-number-clause-nodes
returns-in_err-number-clause-nodes g c = on_ok_refused c.from_residual.result _ c.from_residual.ensures.0

pub returns-in_err-number-clause-single : goal.returns-in_err-number-clause-single
returns-in_err-number-clause-single g c = on_ok_refused c.from_residual.result _ c.from_residual.ensures.0

pub returns-in_err-number-clause-left : goal.returns-in_err-number-clause-left
returns-in_err-number-clause-left g c = IfOk-from_err c.from_residual.result _ c.from_residual.ensures.0

pub returns-in_err-number-clause-reached : goal.returns-in_err-number-clause-reached
returns-in_err-number-clause-reached g c = IfOk-from_err c.from_residual.result _ c.from_residual.ensures.0

pub returns-in_err-number-clause-has : goal.returns-in_err-number-clause-has
returns-in_err-number-clause-has g c = IfOk-from_err c.from_residual.result _ c.from_residual.ensures.0

pub returns-in_err-number-clause-width : goal.returns-in_err-number-clause-width
returns-in_err-number-clause-width g c = IfOk-from_err c.from_residual.result _ c.from_residual.ensures.0

pub returns-in_err-number-clause-bank : goal.returns-in_err-number-clause-bank
returns-in_err-number-clause-bank g c = c.len.ensures.bank

pub returns-in_err-here-clause-nodes : goal.returns-in_err-here-clause-nodes
returns-in_err-here-clause-nodes g c = on_ok_refused c.from_residual-in_err-here.result _ c.from_residual-in_err-here.ensures.0

pub returns-in_err-here-clause-single : goal.returns-in_err-here-clause-single
returns-in_err-here-clause-single g c = on_ok_refused c.from_residual-in_err-here.result _ c.from_residual-in_err-here.ensures.0

pub returns-in_err-here-clause-left : goal.returns-in_err-here-clause-left
returns-in_err-here-clause-left g c = IfOk-from_err c.from_residual-in_err-here.result _ c.from_residual-in_err-here.ensures.0

pub returns-in_err-here-clause-reached : goal.returns-in_err-here-clause-reached
returns-in_err-here-clause-reached g c = IfOk-from_err c.from_residual-in_err-here.result _ c.from_residual-in_err-here.ensures.0

pub returns-in_err-here-clause-has : goal.returns-in_err-here-clause-has
returns-in_err-here-clause-has g c = IfOk-from_err c.from_residual-in_err-here.result _ c.from_residual-in_err-here.ensures.0

pub returns-in_err-here-clause-width : goal.returns-in_err-here-clause-width
returns-in_err-here-clause-width g c = IfOk-from_err c.from_residual-in_err-here.result _ c.from_residual-in_err-here.ensures.0

pub returns-in_err-here-clause-bank : goal.returns-in_err-here-clause-bank
returns-in_err-here-clause-bank g c = c.bit.ensures.bank

pub returns-in_err-left-clause-nodes : goal.returns-in_err-left-clause-nodes
returns-in_err-left-clause-nodes g c = on_ok_refused c.from_residual-in_err-left.result _ c.from_residual-in_err-left.ensures.0

pub returns-in_err-left-clause-single : goal.returns-in_err-left-clause-single
returns-in_err-left-clause-single g c = on_ok_refused c.from_residual-in_err-left.result _ c.from_residual-in_err-left.ensures.0

pub returns-in_err-left-clause-left : goal.returns-in_err-left-clause-left
returns-in_err-left-clause-left g c = IfOk-from_err c.from_residual-in_err-left.result _ c.from_residual-in_err-left.ensures.0

pub returns-in_err-left-clause-reached : goal.returns-in_err-left-clause-reached
returns-in_err-left-clause-reached g c = IfOk-from_err c.from_residual-in_err-left.result _ c.from_residual-in_err-left.ensures.0

pub returns-in_err-left-clause-has : goal.returns-in_err-left-clause-has
returns-in_err-left-clause-has g c = IfOk-from_err c.from_residual-in_err-left.result _ c.from_residual-in_err-left.ensures.0

pub returns-in_err-left-clause-width : goal.returns-in_err-left-clause-width
returns-in_err-left-clause-width g c = IfOk-from_err c.from_residual-in_err-left.result _ c.from_residual-in_err-left.ensures.0

pub returns-in_err-left-clause-bank : goal.returns-in_err-left-clause-bank
returns-in_err-left-clause-bank g c = c.last_left.ensures.bank

pub returns-in_err-again-clause-nodes : goal.returns-in_err-again-clause-nodes
returns-in_err-again-clause-nodes g c = on_ok_refused c.from_residual-in_err-again.result _ c.from_residual-in_err-again.ensures.0

pub returns-in_err-again-clause-single : goal.returns-in_err-again-clause-single
returns-in_err-again-clause-single g c = on_ok_refused c.from_residual-in_err-again.result _ c.from_residual-in_err-again.ensures.0

pub returns-in_err-again-clause-left : goal.returns-in_err-again-clause-left
returns-in_err-again-clause-left g c = IfOk-from_err c.from_residual-in_err-again.result _ c.from_residual-in_err-again.ensures.0

pub returns-in_err-again-clause-reached : goal.returns-in_err-again-clause-reached
returns-in_err-again-clause-reached g c = IfOk-from_err c.from_residual-in_err-again.result _ c.from_residual-in_err-again.ensures.0

pub returns-in_err-again-clause-has : goal.returns-in_err-again-clause-has
returns-in_err-again-clause-has g c = IfOk-from_err c.from_residual-in_err-again.result _ c.from_residual-in_err-again.ensures.0

pub returns-in_err-again-clause-width : goal.returns-in_err-again-clause-width
returns-in_err-again-clause-width g c = IfOk-from_err c.from_residual-in_err-again.result _ c.from_residual-in_err-again.ensures.0

pub returns-in_err-again-clause-bank : goal.returns-in_err-again-clause-bank
returns-in_err-again-clause-bank g c = c.bit-2.ensures.bank

pub returns-in_err-reached-clause-nodes : goal.returns-in_err-reached-clause-nodes
returns-in_err-reached-clause-nodes g c = on_ok_refused c.from_residual-in_err-reached.result _ c.from_residual-in_err-reached.ensures.0

pub returns-in_err-reached-clause-single : goal.returns-in_err-reached-clause-single
returns-in_err-reached-clause-single g c = on_ok_refused c.from_residual-in_err-reached.result _ c.from_residual-in_err-reached.ensures.0

pub returns-in_err-reached-clause-left : goal.returns-in_err-reached-clause-left
returns-in_err-reached-clause-left g c = IfOk-from_err c.from_residual-in_err-reached.result _ c.from_residual-in_err-reached.ensures.0

pub returns-in_err-reached-clause-reached : goal.returns-in_err-reached-clause-reached
returns-in_err-reached-clause-reached g c = IfOk-from_err c.from_residual-in_err-reached.result _ c.from_residual-in_err-reached.ensures.0

pub returns-in_err-reached-clause-has : goal.returns-in_err-reached-clause-has
returns-in_err-reached-clause-has g c = IfOk-from_err c.from_residual-in_err-reached.result _ c.from_residual-in_err-reached.ensures.0

pub returns-in_err-reached-clause-width : goal.returns-in_err-reached-clause-width
returns-in_err-reached-clause-width g c = IfOk-from_err c.from_residual-in_err-reached.result _ c.from_residual-in_err-reached.ensures.0

pub returns-in_err-reached-clause-bank : goal.returns-in_err-reached-clause-bank
returns-in_err-reached-clause-bank g c = c.either.ensures.bank

pub returns-clause-bank : goal.returns-clause-bank
returns-clause-bank g c = c.either.ensures.bank

pub returns-clause-width : goal.returns-clause-width
returns-clause-width g c = c.in_ok-reached.ensures.width
