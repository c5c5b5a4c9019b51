use Rattle.std.proofs.Common.{◌≡◌, ◌+◌, drop}
use Rattle.ygg_script.specs.Plain.{first_not_plain}
use Rattle.ygg_script.proofs.plain.plain_script.Given as goal

-- what is left decides
abbrev pub invariant-loop-place : goal.invariant-loop-place
invariant-loop-place l = first_not_plain (l.place + 2) (drop l.place l.script) ≡ first_not_plain 2 l.script
