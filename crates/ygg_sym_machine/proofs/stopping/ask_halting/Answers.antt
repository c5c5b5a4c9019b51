use Rattle.ygg_sym_runs.specs.ygg_bank_proofs_Widths.{extends_both, wider}
use Rattle.ygg_sym_runs.specs.Lower.{question_of}
use Rattle.ygg_sym_machine.specs.Halting.{halted_of, halting_meaning, no_functions}
use Rattle.ygg_sym_machine.proofs.Standing.{ask_inner, ask_later, can_lose, single_both, stopped_wide}
use Rattle.std.proofs.Common.{ap, ◌∙◌}
use Rattle.ygg_sym_runs.specs.ygg_bank.Makes.{Out}
use Rattle.ygg_sym_runs.specs.Runs.{SymHandled}
use Rattle.ygg_sym_runs.specs.Stops.{before_at, within_at}
use Rattle.ygg_sym_runs.specs.StopTerms.{SymHalted, sym_left}
use Rattle.ygg_sym_machine.specs.Stopping.{stops_on}
use Rattle.ygg_sym_machine.proofs.Chains.{halted_from}
use Rattle.std.proofs.lemmas.Result.{IfOk-from_err}
use Rattle.ygg_sym_machine.proofs.Calls.{on_ok_refused}
use Rattle.ygg_sym_machine.proofs.stopping.ask_halting.Goals as goal

pub left-requires-clause-asks : goal.left-requires-clause-asks
left-requires-clause-asks g c =
    let H = halting_meaning (g.W.SymLower.means c.args.stops.now) (g.W.SymStops.power c.args.stops.now) in
    let q = question_of c.args.question in
    let z = halted_of c.args.to.now c.args.fallen.now c.args.stopped in
    ask_later H c.bit.new.bank c.bit-2.new.bank q z c.bit-2.ensures.grows c.in_ok-inner.ensures.single
    (ask_later H c.args.bank.now c.bit.new.bank q z c.bit.ensures.grows c.in_ok-here.ensures.single c.requires.asks)

pub left-requires-clause-here : goal.left-requires-clause-here
left-requires-clause-here g c = wider c.bit.new.bank c.bit-2.new.bank c.in_ok-here.here 1 c.bit-2.ensures.grows c.in_ok-here.ensures.width

pub either-requires-clause-one : goal.either-requires-clause-one
either-requires-clause-one g c =
    let M = g.W.SymLower.means c.args.stops.now in
    let K = g.W.SymStops.power c.args.stops.now in
    let z = halted_of c.args.to.now c.args.fallen.now c.args.stopped in
    let old = stopped_wide M K c.args.bank.now (question_of c.args.question) z c.requires.asks in
    wider c.args.bank.now c.left.new.bank c.args.stopped 1
    (extends_both c.args.bank.now c.bit.new.bank c.left.new.bank c.bit.ensures.grows
    (extends_both c.bit.new.bank c.bit-2.new.bank c.left.new.bank c.bit-2.ensures.grows c.left.ensures.grows)) old

pub either-requires-clause-two : goal.either-requires-clause-two
either-requires-clause-two g c =
    wider c.bit.new.bank c.left.new.bank c.in_ok-here.here 1
    (extends_both c.bit.new.bank c.bit-2.new.bank c.left.new.bank c.bit-2.ensures.grows c.left.ensures.grows) c.in_ok-here.ensures.width

pub either-requires-2-clause-two : goal.either-requires-2-clause-two
either-requires-2-clause-two g c =
    wider c.bit-2.new.bank c.either.new.bank c.in_ok-inner.inner 1
    (extends_both c.bit-2.new.bank c.left.new.bank c.either.new.bank c.left.ensures.grows c.either.ensures.grows) c.in_ok-inner.ensures.width

pub handle-requires : goal.handle-requires
handle-requires g c =
    let M = g.W.SymLower.means c.args.stops.now in
    let K = g.W.SymStops.power c.args.stops.now in
    let H = halting_meaning M K in
    let q = question_of c.args.question in
    let z = halted_of c.args.to.now c.args.fallen.now c.args.stopped in
    let one = ask_later H c.args.bank.now c.bit.new.bank q z c.bit.ensures.grows c.in_ok-here.ensures.single c.requires.asks in
    let two = ask_later H c.bit.new.bank c.bit-2.new.bank q z c.bit-2.ensures.grows c.in_ok-inner.ensures.single one in
    let three = ask_later H c.bit-2.new.bank c.left.new.bank q z c.left.ensures.grows c.in_ok-fallen.ensures.single two in
    let four = ask_later H c.left.new.bank c.either.new.bank q z c.either.ensures.grows c.in_ok-some.ensures.single three in
    let five = ask_later H c.either.new.bank c.either-2.new.bank q z c.either-2.ensures.grows c.in_ok-stopped.ensures.single four in
    record { asks = ask_inner M K c.either-2.new.bank q z five }

pub returns-clause-single : goal.returns-clause-single
returns-clause-single g c =
    single_both c.args.bank.now c.bit.new.bank c.handle.new.bank c.in_ok-here.ensures.single
    (single_both c.bit.new.bank c.bit-2.new.bank c.handle.new.bank c.in_ok-inner.ensures.single
    (single_both c.bit-2.new.bank c.left.new.bank c.handle.new.bank c.in_ok-fallen.ensures.single
    (single_both c.left.new.bank c.either.new.bank c.handle.new.bank c.in_ok-some.ensures.single
    (single_both c.either.new.bank c.either-2.new.bank c.handle.new.bank c.in_ok-stopped.ensures.single c.in_ok-answer.ensures.single))))

pub returns-in_err-inner-clause-grows : goal.returns-in_err-inner-clause-grows
returns-in_err-inner-clause-grows g c =
    extends_both c.args.bank.now c.bit.new.bank c.bit-2.new.bank c.bit.ensures.grows c.bit-2.ensures.grows

pub returns-in_err-fallen-clause-grows : goal.returns-in_err-fallen-clause-grows
returns-in_err-fallen-clause-grows g c =
    extends_both c.args.bank.now c.bit.new.bank c.left.new.bank c.bit.ensures.grows
    (extends_both c.bit.new.bank c.bit-2.new.bank c.left.new.bank c.bit-2.ensures.grows
    c.left.ensures.grows)

pub returns-in_err-some-clause-grows : goal.returns-in_err-some-clause-grows
returns-in_err-some-clause-grows g c =
    extends_both c.args.bank.now c.bit.new.bank c.either.new.bank c.bit.ensures.grows
    (extends_both c.bit.new.bank c.bit-2.new.bank c.either.new.bank c.bit-2.ensures.grows
    (extends_both c.bit-2.new.bank c.left.new.bank c.either.new.bank c.left.ensures.grows
    c.either.ensures.grows))

pub returns-in_err-stopped-clause-grows : goal.returns-in_err-stopped-clause-grows
returns-in_err-stopped-clause-grows g c =
    extends_both c.args.bank.now c.bit.new.bank c.either-2.new.bank c.bit.ensures.grows
    (extends_both c.bit.new.bank c.bit-2.new.bank c.either-2.new.bank c.bit-2.ensures.grows
    (extends_both c.bit-2.new.bank c.left.new.bank c.either-2.new.bank c.left.ensures.grows
    (extends_both c.left.new.bank c.either.new.bank c.either-2.new.bank c.either.ensures.grows
    c.either-2.ensures.grows)))

pub returns-in_err-answer-clause-grows : goal.returns-in_err-answer-clause-grows
returns-in_err-answer-clause-grows g c =
    extends_both c.args.bank.now c.bit.new.bank c.handle.new.bank c.bit.ensures.grows
    (extends_both c.bit.new.bank c.bit-2.new.bank c.handle.new.bank c.bit-2.ensures.grows
    (extends_both c.bit-2.new.bank c.left.new.bank c.handle.new.bank c.left.ensures.grows
    (extends_both c.left.new.bank c.either.new.bank c.handle.new.bank c.either.ensures.grows
    (extends_both c.either.new.bank c.either-2.new.bank c.handle.new.bank c.either-2.ensures.grows
    c.handle.ensures.grows))))

pub returns-clause-grows : goal.returns-clause-grows
returns-clause-grows g c =
    extends_both c.args.bank.now c.bit.new.bank c.handle.new.bank c.bit.ensures.grows
    (extends_both c.bit.new.bank c.bit-2.new.bank c.handle.new.bank c.bit-2.ensures.grows
    (extends_both c.bit-2.new.bank c.left.new.bank c.handle.new.bank c.left.ensures.grows
    (extends_both c.left.new.bank c.either.new.bank c.handle.new.bank c.either.ensures.grows
    (extends_both c.either.new.bank c.either-2.new.bank c.handle.new.bank c.either-2.ensures.grows
    c.handle.ensures.grows))))

pub returns-clause-nodes : goal.returns-clause-nodes
returns-clause-nodes g c =
    let M = g.W.SymLower.means c.args.stops.now in
    let K = g.W.SymStops.power c.args.stops.now in
    let kinds = g.B.Book.kinds c.args.book.now in
    let q = question_of c.args.question in
    let z = halted_of c.args.to.now c.args.fallen.now c.args.stopped in
    let K2 = stops_on M K kinds in
    ap (λ (o : Out (SymHandled (SymHalted _ _))). o.nodes) (halted_from (K2.bit (before_at c.args.place)) (K2.bit (within_at c.args.place))
    (λ here within. sym_left kinds no_functions (M.machine kinds) K2 here within q z) K2.either ((M.machine kinds).handle c.args.place q c.args.to.now)
    c.args.stopped c.in_ok-here.here c.in_ok-inner.inner c.in_ok-some.some c.in_ok-stopped.stopped c.in_ok-fallen.fallen c.handle.new.state
    c.in_ok-answer.answer c.args.bank.now c.bit.new.bank c.bit-2.new.bank c.left.new.bank c.either.new.bank c.either-2.new.bank c.handle.new.bank
    (c.in_ok-here.ensures.form ∙ ap (λ n. (K2.bit n c.args.bank.now).value) c.in_ok-before.ensures)
    (c.in_ok-here.ensures.nodes ∙ ap (λ n. (K2.bit n c.args.bank.now).nodes) c.in_ok-before.ensures)
    (c.in_ok-inner.ensures.form ∙ ap (λ n. (K2.bit n c.bit.new.bank).value) c.in_ok-within.ensures)
    (c.in_ok-inner.ensures.nodes ∙ ap (λ n. (K2.bit n c.bit.new.bank).nodes) c.in_ok-within.ensures)
    c.in_ok-fallen.ensures.form c.in_ok-fallen.ensures.nodes c.in_ok-some.ensures.form c.in_ok-some.ensures.nodes c.in_ok-stopped.ensures.form
    c.in_ok-stopped.ensures.nodes c.in_ok-answer.ensures.answer c.in_ok-answer.ensures.state c.in_ok-answer.ensures.nodes)

pub returns-clause-answer : goal.returns-clause-answer
returns-clause-answer g c =
    let M = g.W.SymLower.means c.args.stops.now in
    let K = g.W.SymStops.power c.args.stops.now in
    let kinds = g.B.Book.kinds c.args.book.now in
    let q = question_of c.args.question in
    let z = halted_of c.args.to.now c.args.fallen.now c.args.stopped in
    let K2 = stops_on M K kinds in
    ap (λ (o : Out (SymHandled (SymHalted _ _))). o.value.answer) (halted_from (K2.bit (before_at c.args.place)) (K2.bit (within_at c.args.place))
    (λ here within. sym_left kinds no_functions (M.machine kinds) K2 here within q z) K2.either ((M.machine kinds).handle c.args.place q c.args.to.now)
    c.args.stopped c.in_ok-here.here c.in_ok-inner.inner c.in_ok-some.some c.in_ok-stopped.stopped c.in_ok-fallen.fallen c.handle.new.state
    c.in_ok-answer.answer c.args.bank.now c.bit.new.bank c.bit-2.new.bank c.left.new.bank c.either.new.bank c.either-2.new.bank c.handle.new.bank
    (c.in_ok-here.ensures.form ∙ ap (λ n. (K2.bit n c.args.bank.now).value) c.in_ok-before.ensures)
    (c.in_ok-here.ensures.nodes ∙ ap (λ n. (K2.bit n c.args.bank.now).nodes) c.in_ok-before.ensures)
    (c.in_ok-inner.ensures.form ∙ ap (λ n. (K2.bit n c.bit.new.bank).value) c.in_ok-within.ensures)
    (c.in_ok-inner.ensures.nodes ∙ ap (λ n. (K2.bit n c.bit.new.bank).nodes) c.in_ok-within.ensures)
    c.in_ok-fallen.ensures.form c.in_ok-fallen.ensures.nodes c.in_ok-some.ensures.form c.in_ok-some.ensures.nodes c.in_ok-stopped.ensures.form
    c.in_ok-stopped.ensures.nodes c.in_ok-answer.ensures.answer c.in_ok-answer.ensures.state c.in_ok-answer.ensures.nodes)

pub returns-clause-state : goal.returns-clause-state
returns-clause-state g c =
    let M = g.W.SymLower.means c.args.stops.now in
    let K = g.W.SymStops.power c.args.stops.now in
    let kinds = g.B.Book.kinds c.args.book.now in
    let q = question_of c.args.question in
    let z = halted_of c.args.to.now c.args.fallen.now c.args.stopped in
    let K2 = stops_on M K kinds in
    ap (λ (o : Out (SymHandled (SymHalted _ _))). o.value.to) (halted_from (K2.bit (before_at c.args.place)) (K2.bit (within_at c.args.place))
    (λ here within. sym_left kinds no_functions (M.machine kinds) K2 here within q z) K2.either ((M.machine kinds).handle c.args.place q c.args.to.now)
    c.args.stopped c.in_ok-here.here c.in_ok-inner.inner c.in_ok-some.some c.in_ok-stopped.stopped c.in_ok-fallen.fallen c.handle.new.state
    c.in_ok-answer.answer c.args.bank.now c.bit.new.bank c.bit-2.new.bank c.left.new.bank c.either.new.bank c.either-2.new.bank c.handle.new.bank
    (c.in_ok-here.ensures.form ∙ ap (λ n. (K2.bit n c.args.bank.now).value) c.in_ok-before.ensures)
    (c.in_ok-here.ensures.nodes ∙ ap (λ n. (K2.bit n c.args.bank.now).nodes) c.in_ok-before.ensures)
    (c.in_ok-inner.ensures.form ∙ ap (λ n. (K2.bit n c.bit.new.bank).value) c.in_ok-within.ensures)
    (c.in_ok-inner.ensures.nodes ∙ ap (λ n. (K2.bit n c.bit.new.bank).nodes) c.in_ok-within.ensures)
    c.in_ok-fallen.ensures.form c.in_ok-fallen.ensures.nodes c.in_ok-some.ensures.form c.in_ok-some.ensures.nodes c.in_ok-stopped.ensures.form
    c.in_ok-stopped.ensures.nodes c.in_ok-answer.ensures.answer c.in_ok-answer.ensures.state c.in_ok-answer.ensures.nodes)

pub bit-requires : goal.bit-requires
bit-requires g c =
    let z = halted_of c.args.to.now c.args.fallen.now c.args.stopped in
    let K = g.W.SymStops.power c.args.stops.now in
    let lose = can_lose (g.W.SymLower.means c.args.stops.now) K c.args.bank.now (question_of c.args.question) z c.requires.asks in
    lose.single

pub bit-requires-2 : goal.bit-requires-2
bit-requires-2 g c =
    let K = g.W.SymStops.power c.args.stops.now in
    let z = halted_of c.args.to.now c.args.fallen.now c.args.stopped in
    let lose = can_lose (g.W.SymLower.means c.args.stops.now) K c.args.bank.now (question_of c.args.question) z c.requires.asks in
    c.in_ok-here.ensures.single K.first lose.single

pub left-requires-clause-within : goal.left-requires-clause-within
left-requires-clause-within g c = c.in_ok-inner.ensures.width

pub either-requires-2-clause-one : goal.either-requires-2-clause-one
either-requires-2-clause-one g c = c.in_ok-some.ensures.width

pub returns-in_err-here-clause-grows : goal.returns-in_err-here-clause-grows
returns-in_err-here-clause-grows g c = c.bit.ensures.grows

pub returns-in_err-before-clause-nodes : goal.returns-in_err-before-clause-nodes
returns-in_err-before-clause-nodes g c = on_ok_refused c.from_residual.result _ c.from_residual.ensures.0

pub returns-in_err-before-clause-single : goal.returns-in_err-before-clause-single
returns-in_err-before-clause-single g c = on_ok_refused c.from_residual.result _ c.from_residual.ensures.0

pub returns-in_err-before-clause-answer : goal.returns-in_err-before-clause-answer
returns-in_err-before-clause-answer g c = IfOk-from_err c.from_residual.result _ c.from_residual.ensures.0

pub returns-in_err-before-clause-state : goal.returns-in_err-before-clause-state
returns-in_err-before-clause-state g c = IfOk-from_err c.from_residual.result _ c.from_residual.ensures.0

pub returns-in_err-before-clause-bank : goal.returns-in_err-before-clause-bank
returns-in_err-before-clause-bank g c = c.len.ensures.bank

pub returns-in_err-here-clause-nodes : goal.returns-in_err-here-clause-nodes
returns-in_err-here-clause-nodes g c = on_ok_refused c.from_residual-in_err-here.result _ c.from_residual-in_err-here.ensures.0

pub returns-in_err-here-clause-single : goal.returns-in_err-here-clause-single
returns-in_err-here-clause-single g c = on_ok_refused c.from_residual-in_err-here.result _ c.from_residual-in_err-here.ensures.0

pub returns-in_err-here-clause-answer : goal.returns-in_err-here-clause-answer
returns-in_err-here-clause-answer g c = IfOk-from_err c.from_residual-in_err-here.result _ c.from_residual-in_err-here.ensures.0

pub returns-in_err-here-clause-state : goal.returns-in_err-here-clause-state
returns-in_err-here-clause-state g c = IfOk-from_err c.from_residual-in_err-here.result _ c.from_residual-in_err-here.ensures.0

pub returns-in_err-here-clause-bank : goal.returns-in_err-here-clause-bank
returns-in_err-here-clause-bank g c = c.bit.ensures.bank

pub returns-in_err-within-clause-nodes : goal.returns-in_err-within-clause-nodes
returns-in_err-within-clause-nodes g c = on_ok_refused c.from_residual-in_err-within.result _ c.from_residual-in_err-within.ensures.0

pub returns-in_err-within-clause-single : goal.returns-in_err-within-clause-single
returns-in_err-within-clause-single g c = on_ok_refused c.from_residual-in_err-within.result _ c.from_residual-in_err-within.ensures.0

pub returns-in_err-within-clause-answer : goal.returns-in_err-within-clause-answer
returns-in_err-within-clause-answer g c = IfOk-from_err c.from_residual-in_err-within.result _ c.from_residual-in_err-within.ensures.0

pub returns-in_err-within-clause-state : goal.returns-in_err-within-clause-state
returns-in_err-within-clause-state g c = IfOk-from_err c.from_residual-in_err-within.result _ c.from_residual-in_err-within.ensures.0

pub returns-in_err-within-clause-bank : goal.returns-in_err-within-clause-bank
returns-in_err-within-clause-bank g c = c.bit.ensures.bank

pub returns-in_err-inner-clause-nodes : goal.returns-in_err-inner-clause-nodes
returns-in_err-inner-clause-nodes g c = on_ok_refused c.from_residual-in_err-inner.result _ c.from_residual-in_err-inner.ensures.0

pub returns-in_err-inner-clause-single : goal.returns-in_err-inner-clause-single
returns-in_err-inner-clause-single g c = on_ok_refused c.from_residual-in_err-inner.result _ c.from_residual-in_err-inner.ensures.0

pub returns-in_err-inner-clause-answer : goal.returns-in_err-inner-clause-answer
returns-in_err-inner-clause-answer g c = IfOk-from_err c.from_residual-in_err-inner.result _ c.from_residual-in_err-inner.ensures.0

pub returns-in_err-inner-clause-state : goal.returns-in_err-inner-clause-state
returns-in_err-inner-clause-state g c = IfOk-from_err c.from_residual-in_err-inner.result _ c.from_residual-in_err-inner.ensures.0

pub returns-in_err-inner-clause-bank : goal.returns-in_err-inner-clause-bank
returns-in_err-inner-clause-bank g c = c.bit-2.ensures.bank

pub returns-in_err-fallen-clause-nodes : goal.returns-in_err-fallen-clause-nodes
returns-in_err-fallen-clause-nodes g c = on_ok_refused c.from_residual-in_err-fallen.result _ c.from_residual-in_err-fallen.ensures.0

pub returns-in_err-fallen-clause-single : goal.returns-in_err-fallen-clause-single
returns-in_err-fallen-clause-single g c = on_ok_refused c.from_residual-in_err-fallen.result _ c.from_residual-in_err-fallen.ensures.0

pub returns-in_err-fallen-clause-answer : goal.returns-in_err-fallen-clause-answer
returns-in_err-fallen-clause-answer g c = IfOk-from_err c.from_residual-in_err-fallen.result _ c.from_residual-in_err-fallen.ensures.0

pub returns-in_err-fallen-clause-state : goal.returns-in_err-fallen-clause-state
returns-in_err-fallen-clause-state g c = IfOk-from_err c.from_residual-in_err-fallen.result _ c.from_residual-in_err-fallen.ensures.0

pub returns-in_err-fallen-clause-bank : goal.returns-in_err-fallen-clause-bank
returns-in_err-fallen-clause-bank g c = c.left.ensures.bank

pub returns-in_err-some-clause-nodes : goal.returns-in_err-some-clause-nodes
returns-in_err-some-clause-nodes g c = on_ok_refused c.from_residual-in_err-some.result _ c.from_residual-in_err-some.ensures.0

pub returns-in_err-some-clause-single : goal.returns-in_err-some-clause-single
returns-in_err-some-clause-single g c = on_ok_refused c.from_residual-in_err-some.result _ c.from_residual-in_err-some.ensures.0

pub returns-in_err-some-clause-answer : goal.returns-in_err-some-clause-answer
returns-in_err-some-clause-answer g c = IfOk-from_err c.from_residual-in_err-some.result _ c.from_residual-in_err-some.ensures.0

pub returns-in_err-some-clause-state : goal.returns-in_err-some-clause-state
returns-in_err-some-clause-state g c = IfOk-from_err c.from_residual-in_err-some.result _ c.from_residual-in_err-some.ensures.0

pub returns-in_err-some-clause-bank : goal.returns-in_err-some-clause-bank
returns-in_err-some-clause-bank g c = c.either.ensures.bank

pub returns-in_err-stopped-clause-nodes : goal.returns-in_err-stopped-clause-nodes
returns-in_err-stopped-clause-nodes g c = on_ok_refused c.from_residual-in_err-stopped.result _ c.from_residual-in_err-stopped.ensures.0

pub returns-in_err-stopped-clause-single : goal.returns-in_err-stopped-clause-single
returns-in_err-stopped-clause-single g c = on_ok_refused c.from_residual-in_err-stopped.result _ c.from_residual-in_err-stopped.ensures.0

pub returns-in_err-stopped-clause-answer : goal.returns-in_err-stopped-clause-answer
returns-in_err-stopped-clause-answer g c = IfOk-from_err c.from_residual-in_err-stopped.result _ c.from_residual-in_err-stopped.ensures.0

pub returns-in_err-stopped-clause-state : goal.returns-in_err-stopped-clause-state
returns-in_err-stopped-clause-state g c = IfOk-from_err c.from_residual-in_err-stopped.result _ c.from_residual-in_err-stopped.ensures.0

pub returns-in_err-stopped-clause-bank : goal.returns-in_err-stopped-clause-bank
returns-in_err-stopped-clause-bank g c = c.either-2.ensures.bank

pub returns-in_err-answer-clause-nodes : goal.returns-in_err-answer-clause-nodes
returns-in_err-answer-clause-nodes g c = on_ok_refused c.from_residual-in_err-answer.result _ c.from_residual-in_err-answer.ensures.0

pub returns-in_err-answer-clause-single : goal.returns-in_err-answer-clause-single
returns-in_err-answer-clause-single g c = on_ok_refused c.from_residual-in_err-answer.result _ c.from_residual-in_err-answer.ensures.0

pub returns-in_err-answer-clause-answer : goal.returns-in_err-answer-clause-answer
returns-in_err-answer-clause-answer g c = IfOk-from_err c.from_residual-in_err-answer.result _ c.from_residual-in_err-answer.ensures.0

pub returns-in_err-answer-clause-state : goal.returns-in_err-answer-clause-state
returns-in_err-answer-clause-state g c = IfOk-from_err c.from_residual-in_err-answer.result _ c.from_residual-in_err-answer.ensures.0

pub returns-in_err-answer-clause-bank : goal.returns-in_err-answer-clause-bank
returns-in_err-answer-clause-bank g c = c.handle.ensures.bank

pub returns-clause-bank : goal.returns-clause-bank
returns-clause-bank g c = c.handle.ensures.bank
