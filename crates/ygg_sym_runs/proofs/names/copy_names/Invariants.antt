use Rattle.std.proofs.Common.{◌≡◌, ◌++◌, drop}
use Rattle.ygg_sym_runs.specs.Seen.{env_of}
use Rattle.ygg_sym_runs.proofs.names.copy_names.Given as goal

-- what was copied so far and what is left
abbrev pub invariant-loop-binding : goal.invariant-loop-binding
invariant-loop-binding l = env_of l.copy.items ++ env_of (drop l.binding-index l.names) ≡ env_of l.names
