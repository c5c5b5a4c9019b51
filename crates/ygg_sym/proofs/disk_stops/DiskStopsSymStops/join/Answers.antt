use Rattle.std.proofs.Common.{subst, sym}
use Rattle.ygg_sym_spec.specs.ygg_meaning.Stack.{tables_of}
use Rattle.ygg_sym_machine.specs.ygg_sym_runs.Lows.{LowShaped}
use Rattle.ygg_sym_spec.proofs.of_ygg_sym_runs.JoinedStates.{joined_single}
use Rattle.ygg_sym_spec.proofs.of_ygg_sym_runs.MergedLows.{lows_alike}
use Rattle.ygg_sym.proofs.disk_stops.DiskStopsSymStops.join.Goals as goal

pub join_lows-requires-clause-values : goal.join_lows-requires-clause-values
join_lows-requires-clause-values g c =
    let m = c.requires.merges in
    let y = sym c.yes.view_is in
    let n = sym c.no.view_is in
    let names = tables_of (c.args.self.now).machine.disk in
    lows_alike c.args.bank.now names c.yes.inside.values c.no.inside.values (subst (LowShaped c.args.bank.now names) y m.first_has)
    (subst (LowShaped c.args.bank.now names) n m.second_has)

pub returns-clause-single : goal.returns-clause-single
returns-clause-single g c =
    joined_single (g.B.Book.kinds c.args.book.now) c.args.test c.yes.inside.values c.no.inside.values c.args.bank.now c.join_lows.new.bank
    c.in_ok-values.ensures.nodes
