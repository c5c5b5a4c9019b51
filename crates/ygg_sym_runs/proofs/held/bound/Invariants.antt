use Rattle.std.proofs.Common.{◌≡◌, ◌++◌, drop}
use Rattle.ygg_sym_runs.specs.Names.{sym_bind}
use Rattle.ygg_sym_runs.specs.Seen.{env_of}
use Rattle.ygg_sym_runs.proofs.held.bound.Given as goal

-- those so far, and then what is left
abbrev pub invariant-loop-i : goal.invariant-loop-i
invariant-loop-i l = env_of l.bindings.items ++ sym_bind (drop l.i l.parameters) (drop l.i l.args) ≡ sym_bind l.parameters l.args
