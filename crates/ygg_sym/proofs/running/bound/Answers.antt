use Rattle.std.proofs.Common.{◌++◌, length, sym, ap, ◌∙◌}
use Rattle.ygg_sym_spec.specs.ygg_sym_runs.Names.{sym_bind}
use Rattle.ygg_sym_spec.specs.ygg_sym_runs.Seen.{env_of}
use Rattle.ygg_sym.proofs.WholeRun.{all_names}
use Rattle.ygg_sym.proofs.running.bound.Goals as goal

pub bind-requires : goal.bind-requires
bind-requires c = c.requires.vars ∙ sym (ap length c.as_slice.ensures)

pub bind-requires-2 : goal.bind-requires-2
bind-requires-2 c = c.requires.args ∙ sym (ap length c.as_slice-2.ensures)

pub returns : goal.returns
returns c =
    all_names (env_of c.bind.new.names.items) (env_of c.bind-2.new.names.items) c.args.variables.now c.args.names.now c.args.vars.now c.args.args.now
    (c.in_ok-bind.ensures ∙ ap (λ z. env_of z ++ sym_bind c.args.variables.now c.as_slice.result.now) c.new-bound.ensures.items
    ∙ ap (λ z. sym_bind c.args.variables.now z) c.as_slice.ensures)
    (c.in_ok-bind-2.ensures ∙ ap (λ z. env_of c.bind.new.names.items ++ sym_bind c.args.names.now z) c.as_slice-2.ensures)
