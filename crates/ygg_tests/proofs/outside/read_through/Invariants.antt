use Rattle.std.proofs.Common.{◌<◌, length}
use Rattle.ygg_base.specs.Outside.{IsOpen}
use Rattle.ygg_tests.proofs.outside.read_through.Given as goal

abbrev pub invariant-loop : goal.invariant-loop
invariant-loop g l = IsOpen (g.L.Library.reading l.library) × (0 < length l.slice)
