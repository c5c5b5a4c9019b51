use Rattle.std.proofs.Common.{sym, ap, subst, ◌∙◌}
use Rattle.ygg_sym_spec.specs.ygg_sym_runs.Names.{sym_bind}
use Rattle.ygg_sym_spec.specs.ygg_sym_runs.Seen.{env_of}
use Rattle.ygg_sym_machine.specs.ygg_sym_runs.Means.{values_in}
use Rattle.ygg_sym_spec.specs.ygg_sym_runs.WholeReady.{CanWhole}
use Rattle.ygg_sym.proofs.Ran.{bound_many}
use Rattle.ygg_sym.proofs.running.run_with.Goals as goal

pub whole-requires : goal.whole-requires
whole-requires g c = record {
  can = subst (λ z. CanWhole (g.W.SymLower.means c.args.runner.now.machine.now) c.args.runner.now.defs.now c.args.b.now c.args.bank.now z c.args.from)
      (sym c.in_ok-bound.ensures) c.requires.can;
}

pub returns-clause-ran : goal.returns-clause-ran
returns-clause-ran g c =
    let w = c.in_ok-end.ensures.whole (sym_bind c.args.variables.now c.args.vars.now) (sym_bind c.args.names.now c.args.args.now) c.in_ok-bound.ensures
    (bound_many c.args.variables.now c.args.vars.now c.requires.vars ∙ sym c.len-count.ensures) in
    record {
      nodes = w.nodes;
      answer = w.answered;
      left = c.in_ok-values_of.ensures ∙ ap (λ z. values_in (env_of z)) c.as_slice.ensures.value ∙ ap values_in w.leaves;
      state = w.state;
      single = w.single;
    }
