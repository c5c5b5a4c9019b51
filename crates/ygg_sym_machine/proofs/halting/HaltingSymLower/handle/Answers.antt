use Rattle.std.proofs.Common.{◌≡◌, sym, subst}
use Rattle.ygg_sym_runs.specs.Lower.{CanAsk, question_of}
use Rattle.ygg_sym_runs.specs.StopTerms.{sym_halted}
use Rattle.ygg_sym_machine.specs.Halting.{halted_of, halting_meaning, no_functions}
use Rattle.ygg_sym_machine.specs.Stopping.{stops_on}
use Rattle.ygg_sym_machine.proofs.halting.HaltingSymLower.handle.Goals as goal

pub returns-clause-state : goal.returns-clause-state
returns-clause-state g c =
    let M = g.W.SymLower.means c.args.self.now.stops.now in
    let K = g.W.SymStops.power c.args.self.now.stops.now in
    let kinds = g.B.Book.kinds c.args.book.now in
    let q = question_of c.args.question in
    let done = c.in_ok-done.done in
    let left = halted_of c.ask_halting.new.to done.fallen done.stopped in
    subst (λ w. left ≡ (sym_halted kinds no_functions (M.machine kinds) (stops_on M K kinds) c.args.place q w c.args.bank.now).value.to) c.state.view_is
    c.in_ok-done.ensures.state

pub ask_halting-requires : goal.ask_halting-requires
ask_halting-requires g c =
    let M = g.W.SymLower.means c.args.self.now.stops.now in
    let K = g.W.SymStops.power c.args.self.now.stops.now in
    record {
      asks = subst (λ w. CanAsk (halting_meaning M K) c.args.bank.now (question_of c.args.question) w) (sym c.state.view_is) c.requires.asks;
    }

pub returns-clause-nodes : goal.returns-clause-nodes
returns-clause-nodes g c =
    let M = g.W.SymLower.means c.args.self.now.stops.now in
    let K = g.W.SymStops.power c.args.self.now.stops.now in
    let kinds = g.B.Book.kinds c.args.book.now in
    let q = question_of c.args.question in
    let new = c.ask_halting.new.bank in
    subst (λ w. new ≡ (sym_halted kinds no_functions (M.machine kinds) (stops_on M K kinds) c.args.place q w c.args.bank.now).nodes) c.state.view_is
    c.in_ok-done.ensures.nodes

pub returns-clause-answer : goal.returns-clause-answer
returns-clause-answer g c =
    let M = g.W.SymLower.means c.args.self.now.stops.now in
    let K = g.W.SymStops.power c.args.self.now.stops.now in
    let kinds = g.B.Book.kinds c.args.book.now in
    let q = question_of c.args.question in
    let answer = c.in_ok-done.done.answer in
    subst (λ w. answer ≡ (sym_halted kinds no_functions (M.machine kinds) (stops_on M K kinds) c.args.place q w c.args.bank.now).value.answer)
    c.state.view_is c.in_ok-done.ensures.answer
