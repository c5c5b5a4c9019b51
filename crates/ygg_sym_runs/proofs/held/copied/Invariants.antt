use Rattle.std.proofs.Common.{◌≡◌, ◌++◌, drop}
use Rattle.ygg_sym_runs.specs.Seen.{env_of}
use Rattle.ygg_sym_runs.proofs.held.copied.Given as goal

-- those so far, and then what is left
abbrev pub invariant-loop-binding : goal.invariant-loop-binding
invariant-loop-binding l = env_of l.copy.items ++ env_of (drop l.binding-index l.bindings) ≡ env_of l.bindings
