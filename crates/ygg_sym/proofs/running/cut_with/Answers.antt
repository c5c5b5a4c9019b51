use Rattle.std.proofs.Common.{sym, subst}
use Rattle.ygg_sym_spec.specs.ygg_sym_runs.WholeReady.{CanWhole}
use Rattle.ygg_sym.proofs.running.cut_with.Goals as goal

pub cut_short-requires-clause-can : goal.cut_short-requires-clause-can
cut_short-requires-clause-can g c =
    subst (λ z. CanWhole (g.W.SymLower.means c.args.runner.now.machine.now) c.args.runner.now.defs.now c.args.b.now c.args.bank.now z c.args.from)
    (sym c.in_ok-bound.ensures) c.requires.can
