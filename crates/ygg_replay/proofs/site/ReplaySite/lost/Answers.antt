use Rattle.std.proofs.Common.{refl, ap, ◌∙◌}
use Rattle.ygg_replay.specs.Steps.{own_machine}
use Rattle.ygg_replay.proofs.Own.{own_serves, own_lost}
use Rattle.ygg_replay.proofs.site.ReplaySite.lost.Goals as goal

pub lose-requires : goal.lose-requires
lose-requires c =
    let s = c.args.self.now in
    record {
      serves = own_serves s c.requires.here c.args.schedule.now.state c.requires.vars c.in_ok-after.after
          (c.in_ok-after.ensures ∙ ap (own_machine s) c.in_ok-copy.ensures) c.in_ok-power.power;
    }

pub returns : goal.returns
returns c =
    let s = c.args.self.now in
    own_lost s c.requires.here c.args.schedule.now.state c.requires.vars c.in_ok-after.after
    (c.in_ok-after.ensures ∙ ap (own_machine s) c.in_ok-copy.ensures) c.in_ok-power.power s.typed.now.typed s.typed.now.derivable c.args.picks.now
    c.in_ok-power.ensures c.lose.new.self c.lose.new.power (c.in_ok-lose.ensures.lost refl) c.in_ok-lose.ensures.serves c.requires.all
