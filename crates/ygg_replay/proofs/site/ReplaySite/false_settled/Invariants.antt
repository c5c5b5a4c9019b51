use Rattle.std.proofs.Common.{[], map}
use Rattle.ygg_sched.specs.ygg_meaning.Related.{holds}
use Rattle.ygg_replay.specs.Sites.{closed_in, low_at}
use Rattle.ygg_replay.proofs.Firsts.{Passed}
use Rattle.ygg_replay.proofs.site.ReplaySite.false_settled.Given as goal

-- those before this one hold
abbrev pub invariant-loop-place : goal.invariant-loop-place
invariant-loop-place l = Passed (map (holds (closed_in l.self) [] [] (low_at l.self l.low)) l.self.layer.now.settled) l.place
