use Rattle.std.proofs.Common.{map}
use Rattle.ygg_sched.specs.ygg_meaning.Related.{holds}
use Rattle.ygg_replay.specs.Sites.{closed_in, low_at, memory_at, vars_at}
use Rattle.ygg_replay.proofs.Firsts.{Passed}
use Rattle.ygg_replay.proofs.site.ReplaySite.false_always.Given as goal

-- those before this one hold
abbrev pub invariant-loop-place : goal.invariant-loop-place
invariant-loop-place l =
    Passed (map (holds (closed_in l.self) (vars_at l.self l.state) (memory_at l.self l.memory) (low_at l.self l.low)) l.self.layer.now.always) l.place
