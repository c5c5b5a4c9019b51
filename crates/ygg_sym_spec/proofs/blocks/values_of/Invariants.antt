use Rattle.std.proofs.Common.{◌≡◌, ◌++◌, drop}
use Rattle.ygg_sym_runs.specs.Means.{values_in}
use Rattle.ygg_sym_runs.specs.Seen.{env_of}
use Rattle.ygg_sym_spec.proofs.blocks.values_of.Given as goal

-- the values so far, and the rest
abbrev pub invariant-loop-binding : goal.invariant-loop-binding
invariant-loop-binding l = l.values ++ values_in (env_of (drop l.binding-index l.names)) ≡ values_in (env_of l.names)
