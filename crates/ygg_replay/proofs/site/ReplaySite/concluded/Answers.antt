use Rattle.ygg_replay.proofs.Shown.{found, missing}
use Rattle.ygg_replay.proofs.site.ReplaySite.concluded.Goals as goal

pub returns-in-Some-2 : goal.returns-in-Some-2
returns-in-Some-2 c = λ o is.
    let run = rw c.in-Some.is at (c.in_ok-end.ensures o is) in
    found c.args.self.now c.args.case c.args.schedule.now c.requires.can o is (c.requires.holds o is) c.in-Some.end run.0 c.in-Some-2.picks
    (rw c.in-Some-2.is at (c.in_ok-picks.ensures o is))

pub returns : goal.returns
returns c = λ o is.
    let run = rw c.in-Some.is at (c.in_ok-end.ensures o is) in
    missing c.args.self.now c.args.case c.args.schedule.now c.requires.can o is (c.requires.holds o is) c.in-Some.end run.0
    (rw c.in-None.is at (c.in_ok-picks.ensures o is))
