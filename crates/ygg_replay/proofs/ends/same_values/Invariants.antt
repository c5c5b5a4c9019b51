use Rattle.std.proofs.Common.{◌≡◌, drop}
use Rattle.ygg_replay.specs.Ends.{same_list}
use Rattle.ygg_replay.proofs.ends.same_values.Given as goal

-- what is left decides
abbrev pub invariant-loop-i : goal.invariant-loop-i
invariant-loop-i l = same_list (drop l.i l.a) (drop l.i l.b) ≡ same_list l.a l.b
