use Rattle.ygg_sym_spec.specs.ygg_sym_runs.Runs.{Call}
use Rattle.ygg_sym.proofs.DiskFailed.{can_call_cut, cut_single, pick_single}
use Rattle.ygg_sym.proofs.disk_stops.DiskStopsSymStops.cut.Goals as goal

pub cut-requires-clause-call : goal.cut-requires-clause-call
cut-requires-clause-call g c =
    can_call_cut c.args.self.now c.args.question c.in-Call.name c.in-Call.args c.args.state.now c.args.bank.now c.len.ensures.bank c.in-Call.is
    c.requires.cuts

pub cut-requires-clause-pick : goal.cut-requires-clause-pick
cut-requires-clause-pick g c = let can = c.requires.cuts in let l = can.loses in pick_single c.args.self.now c.args.bank.now l.single

pub returns-in_ok-values-in-Call-clause-single : goal.returns-in_ok-values-in-Call-clause-single
returns-in_ok-values-in-Call-clause-single g c =
    cut_single (g.B.Book.kinds c.args.book.now) c.args.self.now (Call c.in-Call.name.now c.in-Call.args.now) c.state.inside.values
    c.args.bank.now c.cut.new.bank
    c.in_ok-values-in-Call.ensures.nodes
