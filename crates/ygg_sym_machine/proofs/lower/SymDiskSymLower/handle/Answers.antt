use Rattle.ygg_sym_runs.specs.Runs.{Call}
use Rattle.ygg_sym_machine.proofs.Asked.{can_call, handled_single}
use Rattle.ygg_sym_machine.proofs.lower.SymDiskSymLower.handle.Goals as goal

pub handle-requires-clause-call : goal.handle-requires-clause-call
handle-requires-clause-call g c =
    can_call c.args.self.now c.args.question c.in-Call.name c.in-Call.args c.args.state.now c.args.bank.now c.len.ensures.bank c.in-Call.is c.requires.asks

pub returns-in-Some-clause-single : goal.returns-in-Some-clause-single
returns-in-Some-clause-single g c =
    handled_single (g.B.Book.kinds c.args.book.now) c.args.self.now c.in-Some.number (Call c.in-Call.name.now c.in-Call.args.now) c.state.inside.values
    c.args.bank.now c.handle.new.bank c.handle.result c.handle.ensures.nodes
