use Rattle.std.proofs.Common.{sym, subst}
use Rattle.ygg_bank.proofs.Widths.{wider}
use Rattle.ygg_sym_runs.specs.Lows.{LowShaped}
use Rattle.ygg_sym_runs.proofs.Lows.{low_wider}
use Rattle.ygg_sym_bodies.proofs.made.run_called.Goals as goal

pub returns-clause-stands : goal.returns-clause-stands
returns-clause-stands g c =
    let old = c.args.bank.now in
    let new = c.run.new.bank in
    let names = c.args.at.names.now in
    let ends = c.in_ok-end.ensures in
    let stands = ends.stands in
    record {
      after = record {
        vars = stands.memory;
        args = subst (LowShaped new names) (sym c.in_ok-args.ensures) (low_wider old new names c.args.from.now.args ends.grows (c.requires.can).args_are);
        low = stands.low;
      };
      answer = stands.answer;
      reached = wider old new c.args.one 1 ends.grows c.requires.one;
    }
