use Rattle.ygg_replay.specs.declared.schedule.Replayed.{Replayed}
use Rattle.ygg_replay.specs.Schedules.{IsShown, shown_by}
use Rattle.ygg_replay.specs.Shown.{ShowsOf}
use Rattle.ygg_replay.proofs.Bridge.{asked, first_is, if_ok, shows}
use Rattle.ygg_replay.proofs.replaying.shown.Goals as goal

pub replay-requires : goal.replay-requires
replay-requires c =
    let f = c.args.typed.now.file in
    let x = c.args.schedule.now in
    let first = first_is f c.file.result.now x c.as_slice.result.now _ c.in-Some.case c.file.ensures.same c.as_slice.ensures
    c.in-Some.is c.in_ok-case.ensures in
    asked f x c.requires c.in-Some.case first

pub returns : goal.returns
returns c =
    let f = c.args.typed.now.file in
    let x = c.args.schedule.now in
    let first = first_is f c.file.result.now x c.as_slice.result.now _ c.in-Some.case c.file.ensures.same c.as_slice.ensures
    c.in-Some.is c.in_ok-case.ensures in
    if_ok (IsShown f c.in-Some.case x) (λ (answer : Replayed). ShowsOf f x (shown_by answer)) c.replay.result c.replay.ensures
    (λ answer is. shows f x c.requires c.in-Some.case first answer is)
