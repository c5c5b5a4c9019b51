use Rattle.std.proofs.Common.{◌≡◌, drop}
use Rattle.ygg_eval_expr.specs.ygg_type_rules.Names.{look_up}
use Rattle.ygg_sym_runs.specs.Seen.{env_of}
use Rattle.ygg_sym_runs.proofs.held.find.Given as goal

-- what is left decides
abbrev pub invariant-loop-binding : goal.invariant-loop-binding
invariant-loop-binding l = look_up l.name (env_of (drop l.binding-index l.bindings)) ≡ look_up l.name (env_of l.bindings)
