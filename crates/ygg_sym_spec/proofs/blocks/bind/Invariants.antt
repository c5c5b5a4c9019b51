use Rattle.std.proofs.Common.{◌≡◌, ◌++◌, drop}
use Rattle.ygg_sym_runs.specs.Names.{sym_bind}
use Rattle.ygg_sym_runs.specs.Seen.{env_of}
use Rattle.ygg_sym_spec.proofs.blocks.bind.Given as goal

-- the names so far, and the rest
abbrev pub invariant-loop-place : goal.invariant-loop-place
invariant-loop-place l =
    env_of l.names.items ++ sym_bind (drop l.place l.declared) (drop l.place l.values) ≡ env_of l.fn.names.items ++ sym_bind l.declared l.values
