use Rattle.std.proofs.Common.{refl, ap, ◌∙◌}
use Rattle.ygg_replay.specs.Runs.{fresh}
use Rattle.ygg_replay.proofs.Losing.{lost_by, where_lost}
use Rattle.ygg_replay.proofs.site.ReplaySite.lose.Goals as goal

pub returns-clause-lost : goal.returns-clause-lost
returns-clause-lost c =
    let s = c.args.self.now in
    where_lost s.typed.now.file (record { machine = c.args.lower.now; power = c.in_ok-power.power })
    (record { machine = c.lose.new.self; power = c.lose.new.power }) c.lose.result (c.lose.ensures.lost refl)
    (lost_by s c.args.lower.now c.lose.new.self c.in_ok-power.power c.lose.new.power c.args.picks.now c.requires.lower
    (c.in_ok-power.ensures ∙ ap fresh c.as_slice.ensures))
