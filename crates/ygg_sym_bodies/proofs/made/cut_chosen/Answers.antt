use Rattle.std.proofs.Common.{◌≤◌, sym, ap, subst, arith}
use Rattle.ygg_bank.proofs.Widths.{extends_both, wider}
use Rattle.ygg_sym_runs.proofs.Singles.{single_less}
use Rattle.ygg_sym_runs.specs.Lows.{LowShaped}
use Rattle.ygg_sym_runs.proofs.Lows.{low_wider}
use Rattle.ygg_sym_bodies.specs.declared.state.Inputs.{Inputs}
use Rattle.ygg_sym_bodies.proofs.made.cut_chosen.Goals as goal

pub lost-requires-clause-low : goal.lost-requires-clause-low
lost-requires-clause-low g c =
    low_wider c.args.bank.now c.make.new.bank c.args.at.layer.low.now c.args.from.now.low c.in_ok-reached.ensures.grows (c.requires.shaped).low

pub lost-requires-clause-single : goal.lost-requires-clause-single
lost-requires-clause-single g c =
    let numbers = ap (λ (i : Inputs). i.failure) c.in_ok-inputs.ensures in
    let later : c.args.first ≤ c.in_ok-inputs.inputs.failure = omega (arith, numbers) in
    single_less c.args.first c.in_ok-inputs.inputs.failure c.make.new.bank later (c.in_ok-reached.ensures.single c.args.first c.requires.single)

pub returns-clause-stands : goal.returns-clause-stands
returns-clause-stands g c =
    let old = c.args.bank.now in
    let new = c.lost.new.bank in
    let names = c.args.at.names.now in
    let ends = c.in_ok-low.ensures in
    let grows = extends_both old c.make.new.bank new c.in_ok-reached.ensures.grows ends.grows in
    record {
      after = record {
        vars = low_wider old new (c.args.at.layer.layer.now).state c.args.zeros grows c.requires.zeros;
        args = subst (LowShaped new names) (sym c.in_ok-args.ensures) (low_wider old new names c.args.from.now.args grows (c.requires.shaped).args);
        low = ends.shape;
      };
      answer = tt;
      reached = wider c.make.new.bank new c.in_ok-reached.reached 1 ends.grows c.in_ok-reached.ensures.width;
    }
