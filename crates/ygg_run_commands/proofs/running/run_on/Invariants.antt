use Rattle.std.proofs.Common.{◌≤◌, length}
use Rattle.ygg_run.specs.ygg_machine.Viewed.{floor_seen}
use Rattle.ygg_run_commands.proofs.Going.{Going}
use Rattle.ygg_run_commands.proofs.running.run_on.Given as goal

-- what is known where these commands are left
abbrev pub invariant-loop-next : goal.invariant-loop-next
invariant-loop-next g l =
    Going g.W.Viewed.seen.means l.typed.file l.script ((floor_seen g.W.Viewed.seen).look l.fn.tower) (g.K.Sink.taken l.fn.sink) l.rest
    ((floor_seen g.W.Viewed.seen).look l.tower) (g.K.Sink.taken l.sink)
    × (g.K.Sink.faults l.fn.sink ≤ g.K.Sink.faults l.sink)
    × (g.W.Viewed.seen.means.faults ((floor_seen g.W.Viewed.seen).look l.fn.tower).base ≤ g.W.Viewed.seen.means.faults
    ((floor_seen g.W.Viewed.seen).look l.tower).base)

abbrev pub decreases-loop-next : goal.decreases-loop-next
decreases-loop-next g l = length l.rest
