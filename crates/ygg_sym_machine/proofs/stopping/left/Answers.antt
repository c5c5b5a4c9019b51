use Rattle.ygg_value.specs.declared.operation.Op.TheVariants.{Or}
use Rattle.ygg_sym_runs.specs.ygg_bank.Making.{made}
use Rattle.ygg_sym_runs.specs.ygg_bank.declared.node.Id.{Id}
use Rattle.ygg_sym_runs.specs.ygg_bank.declared.node.Node.TheVariants.{Bin}
use Rattle.ygg_sym_runs.specs.ygg_bank_proofs_Widths.{extends_both, wider}
use Rattle.ygg_sym_runs.specs.Lower.{question_of}
use Rattle.ygg_sym_runs.specs.StopTerms.{sym_leaves, sym_left}
use Rattle.ygg_sym_machine.specs.Halting.{first_made, halted_of, halting_meaning, no_functions}
use Rattle.ygg_sym_machine.specs.Stopping.{stops_on}
use Rattle.ygg_sym_machine.proofs.Calls.{on_ok_refused}
use Rattle.ygg_sym_machine.proofs.Chains.{form_as, left_from, nodes_as}
use Rattle.ygg_sym_machine.proofs.Standing.{ask_later, single_both, single_if, stopped_wide}
use Rattle.std.proofs.lemmas.Result.{IfOk-from_err}
use Rattle.ygg_sym_machine.proofs.stopping.left.Goals as goal

pub first-requires-clause-other : goal.first-requires-clause-other
first-requires-clause-other g c =
    let M = g.W.SymLower.means c.args.stops.now in
    let K = g.W.SymStops.power c.args.stops.now in
    let z = halted_of c.args.to.now c.args.fallen.now c.args.stopped in
    stopped_wide M K c.args.bank.now (question_of c.args.question) z c.requires.asks

pub either-requires-clause-one : goal.either-requires-clause-one
either-requires-clause-one g c =
    let M = g.W.SymLower.means c.args.stops.now in
    let K = g.W.SymStops.power c.args.stops.now in
    let z = halted_of c.args.to.now c.args.fallen.now c.args.stopped in
    wider c.args.bank.now c.first.new.bank c.args.stopped 1 c.first.ensures.grows
    (stopped_wide M K c.args.bank.now (question_of c.args.question) z c.requires.asks)

pub either-requires-clause-two : goal.either-requires-clause-two
either-requires-clause-two g c = wider c.args.bank.now c.first.new.bank c.args.here 1 c.first.ensures.grows c.requires.here

pub first-requires-2-clause-one : goal.first-requires-2-clause-one
first-requires-2-clause-one g c =
    wider c.args.bank.now c.either.new.bank c.args.within 1
    (extends_both c.args.bank.now c.first.new.bank c.either.new.bank c.first.ensures.grows c.either.ensures.grows) c.requires.within

pub leaves-requires-clause-asks : goal.leaves-requires-clause-asks
leaves-requires-clause-asks g c =
    let H = halting_meaning (g.W.SymLower.means c.args.stops.now) (g.W.SymStops.power c.args.stops.now) in
    let q = question_of c.args.question in
    let z = halted_of c.args.to.now c.args.fallen.now c.args.stopped in
    ask_later H c.either.new.bank c.first-2.new.bank q z c.first-2.ensures.grows c.in_ok-inner.ensures.single
    (ask_later H c.first.new.bank c.either.new.bank q z c.either.ensures.grows c.in_ok-some.ensures.single
    (ask_later H c.args.bank.now c.first.new.bank q z c.first.ensures.grows c.in_ok-outer.ensures.single c.requires.asks))

pub leaves-requires-clause-here : goal.leaves-requires-clause-here
leaves-requires-clause-here g c =
    wider c.first.new.bank c.first-2.new.bank c.in_ok-outer.outer 1
    (extends_both c.first.new.bank c.either.new.bank c.first-2.new.bank c.either.ensures.grows c.first-2.ensures.grows) c.in_ok-outer.ensures.width

pub returns-clause-single : goal.returns-clause-single
returns-clause-single g c =
    single_if c.args.bank.now c.first-2.new.bank c.leaves.new.bank c.leaves.result
    (single_both c.args.bank.now c.first.new.bank c.first-2.new.bank c.in_ok-outer.ensures.single
    (single_both c.first.new.bank c.either.new.bank c.first-2.new.bank c.in_ok-some.ensures.single c.in_ok-inner.ensures.single))
    c.leaves.ensures.single

pub returns-clause-grows : goal.returns-clause-grows
returns-clause-grows g c =
    extends_both c.args.bank.now c.first.new.bank c.leaves.new.bank c.first.ensures.grows
    (extends_both c.first.new.bank c.either.new.bank c.leaves.new.bank c.either.ensures.grows
    (extends_both c.either.new.bank c.first-2.new.bank c.leaves.new.bank c.first-2.ensures.grows c.leaves.ensures.grows))

pub returns-clause-nodes : goal.returns-clause-nodes
returns-clause-nodes g c =
    let M = g.W.SymLower.means c.args.stops.now in
    let K = g.W.SymStops.power c.args.stops.now in
    let kinds = g.B.Book.kinds c.args.book.now in
    let q = question_of c.args.question in
    let z = halted_of c.args.to.now c.args.fallen.now c.args.stopped in
    let leave = λ (h w : Id). sym_leaves kinds no_functions (M.machine kinds) (stops_on M K kinds) h w q z in
    nodes_as (leave c.in_ok-outer.outer c.in_ok-inner.inner c.first-2.new.bank)
    (sym_left kinds no_functions (M.machine kinds) (stops_on M K kinds) c.args.here c.args.within q z c.args.bank.now) c.leaves.new.bank c.leaves.result
    (left_from (first_made kinds) (λ (a b : Id). made kinds (Bin Or a b)) leave c.args.stopped c.args.here c.args.within c.in_ok-outer.outer c.in_ok-some.some
    c.in_ok-inner.inner c.args.bank.now c.first.new.bank c.either.new.bank c.first-2.new.bank c.in_ok-outer.ensures.form c.in_ok-outer.ensures.nodes
    c.in_ok-some.ensures.form c.in_ok-some.ensures.nodes c.in_ok-inner.ensures.form c.in_ok-inner.ensures.nodes) c.leaves.ensures.nodes

pub returns-clause-form : goal.returns-clause-form
returns-clause-form g c =
    let M = g.W.SymLower.means c.args.stops.now in
    let K = g.W.SymStops.power c.args.stops.now in
    let kinds = g.B.Book.kinds c.args.book.now in
    let q = question_of c.args.question in
    let z = halted_of c.args.to.now c.args.fallen.now c.args.stopped in
    let leave = λ (h w : Id). sym_leaves kinds no_functions (M.machine kinds) (stops_on M K kinds) h w q z in
    form_as (leave c.in_ok-outer.outer c.in_ok-inner.inner c.first-2.new.bank)
    (sym_left kinds no_functions (M.machine kinds) (stops_on M K kinds) c.args.here c.args.within q z c.args.bank.now) c.leaves.result
    (left_from (first_made kinds) (λ (a b : Id). made kinds (Bin Or a b)) leave c.args.stopped c.args.here c.args.within c.in_ok-outer.outer c.in_ok-some.some
    c.in_ok-inner.inner c.args.bank.now c.first.new.bank c.either.new.bank c.first-2.new.bank c.in_ok-outer.ensures.form c.in_ok-outer.ensures.nodes
    c.in_ok-some.ensures.form c.in_ok-some.ensures.nodes c.in_ok-inner.ensures.form c.in_ok-inner.ensures.nodes) c.leaves.ensures.form

pub returns-clause-stands : goal.returns-clause-stands
returns-clause-stands g c = c.leaves.ensures.stands

pub returns-clause-bank : goal.returns-clause-bank
returns-clause-bank g c = c.leaves.ensures.bank

pub returns-in_err-outer-clause-nodes : goal.returns-in_err-outer-clause-nodes
returns-in_err-outer-clause-nodes g c = on_ok_refused c.from_residual.result _ c.from_residual.ensures.0

pub returns-in_err-outer-clause-single : goal.returns-in_err-outer-clause-single
returns-in_err-outer-clause-single g c = on_ok_refused c.from_residual.result _ c.from_residual.ensures.0

pub returns-in_err-outer-clause-form : goal.returns-in_err-outer-clause-form
returns-in_err-outer-clause-form g c = IfOk-from_err c.from_residual.result _ c.from_residual.ensures.0

pub returns-in_err-outer-clause-stands : goal.returns-in_err-outer-clause-stands
returns-in_err-outer-clause-stands g c = IfOk-from_err c.from_residual.result _ c.from_residual.ensures.0

pub returns-in_err-outer-clause-bank : goal.returns-in_err-outer-clause-bank
returns-in_err-outer-clause-bank g c = c.first.ensures.bank

pub returns-in_err-outer-clause-grows : goal.returns-in_err-outer-clause-grows
returns-in_err-outer-clause-grows g c = c.first.ensures.grows

pub returns-in_err-some-clause-nodes : goal.returns-in_err-some-clause-nodes
returns-in_err-some-clause-nodes g c = on_ok_refused c.from_residual-in_err-some.result _ c.from_residual-in_err-some.ensures.0

pub returns-in_err-some-clause-single : goal.returns-in_err-some-clause-single
returns-in_err-some-clause-single g c = on_ok_refused c.from_residual-in_err-some.result _ c.from_residual-in_err-some.ensures.0

pub returns-in_err-some-clause-form : goal.returns-in_err-some-clause-form
returns-in_err-some-clause-form g c = IfOk-from_err c.from_residual-in_err-some.result _ c.from_residual-in_err-some.ensures.0

pub returns-in_err-some-clause-stands : goal.returns-in_err-some-clause-stands
returns-in_err-some-clause-stands g c = IfOk-from_err c.from_residual-in_err-some.result _ c.from_residual-in_err-some.ensures.0

pub returns-in_err-some-clause-bank : goal.returns-in_err-some-clause-bank
returns-in_err-some-clause-bank g c = c.either.ensures.bank

pub returns-in_err-some-clause-grows : goal.returns-in_err-some-clause-grows
returns-in_err-some-clause-grows g c = extends_both c.args.bank.now c.first.new.bank c.either.new.bank c.first.ensures.grows c.either.ensures.grows

pub returns-in_err-inner-clause-nodes : goal.returns-in_err-inner-clause-nodes
returns-in_err-inner-clause-nodes g c = on_ok_refused c.from_residual-in_err-inner.result _ c.from_residual-in_err-inner.ensures.0

pub returns-in_err-inner-clause-single : goal.returns-in_err-inner-clause-single
returns-in_err-inner-clause-single g c = on_ok_refused c.from_residual-in_err-inner.result _ c.from_residual-in_err-inner.ensures.0

pub returns-in_err-inner-clause-form : goal.returns-in_err-inner-clause-form
returns-in_err-inner-clause-form g c = IfOk-from_err c.from_residual-in_err-inner.result _ c.from_residual-in_err-inner.ensures.0

pub returns-in_err-inner-clause-stands : goal.returns-in_err-inner-clause-stands
returns-in_err-inner-clause-stands g c = IfOk-from_err c.from_residual-in_err-inner.result _ c.from_residual-in_err-inner.ensures.0

pub returns-in_err-inner-clause-bank : goal.returns-in_err-inner-clause-bank
returns-in_err-inner-clause-bank g c = c.first-2.ensures.bank

pub returns-in_err-inner-clause-grows : goal.returns-in_err-inner-clause-grows
returns-in_err-inner-clause-grows g c =
    extends_both c.args.bank.now c.first.new.bank c.first-2.new.bank c.first.ensures.grows
    (extends_both c.first.new.bank c.either.new.bank c.first-2.new.bank c.either.ensures.grows c.first-2.ensures.grows)
