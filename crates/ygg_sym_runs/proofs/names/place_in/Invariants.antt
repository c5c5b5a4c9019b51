use Rattle.std.proofs.Common.{◌≡◌, drop}
use Rattle.ygg_sym_runs.specs.Seen.{env_of}
use Rattle.ygg_sym_runs.specs.Ready.{first_place}
use Rattle.ygg_sym_runs.proofs.names.place_in.Given as goal

-- what is left decides
abbrev pub invariant-loop-place : goal.invariant-loop-place
invariant-loop-place l = first_place l.place (env_of (drop l.place l.names)) l.name ≡ first_place 0 (env_of l.names) l.name
