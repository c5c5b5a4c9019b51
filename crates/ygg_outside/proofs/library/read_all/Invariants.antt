use Rattle.std.proofs.Common.{◌≡◌, ◌+◌, length}
use Rattle.ygg_outside.proofs.library.read_all.Given as goal

abbrev pub invariant-loop : goal.invariant-loop
invariant-loop g l = length l.text + l.room ≡ l.limit
