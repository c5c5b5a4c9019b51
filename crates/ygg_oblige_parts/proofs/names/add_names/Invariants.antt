use Rattle.std.proofs.Common.{◌≡◌, ◌++◌, drop}
use Rattle.ygg_sym_spec.specs.ygg_sym_runs.Names.{sym_bind}
use Rattle.ygg_sym_spec.specs.ygg_sym_runs.Seen.{env_of}
use Rattle.ygg_oblige_parts.proofs.names.add_names.Given as goal

-- those so far, and then what is left
abbrev pub invariant-loop-i : goal.invariant-loop-i
invariant-loop-i l =
    env_of l.names.items ++ sym_bind (drop l.i l.declared) (drop l.i l.values) ≡ env_of l.initial.names.items ++ sym_bind l.declared l.values
