use Rattle.std.proofs.Common.{sym, subst}
use Rattle.ygg_sym_runs.specs.Lows.{LowShaped}
use Rattle.ygg_sym_runs.proofs.Lows.{low_wider}
use Rattle.ygg_sym_bodies.proofs.made.cut_called.Goals as goal

pub returns-clause-stands : goal.returns-clause-stands
returns-clause-stands g c =
    let old = c.args.bank.now in
    let new = c.cut.new.bank in
    let names = c.args.at.names.now in
    let ends = c.in_ok-left.ensures in
    record {
      after = record {
        vars = low_wider old new (c.args.at.layer.layer.now).memory c.args.zeros ends.grows c.requires.zeros;
        args = subst (LowShaped new names) (sym c.in_ok-args.ensures) (low_wider old new names c.args.from.now.args ends.grows (c.requires.can).args_are);
        low = ends.shape;
      };
      answer = tt;
      reached = ends.width;
    }
