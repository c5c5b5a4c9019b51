use Rattle.std.proofs.Common.{refl, ap, ◌∙◌}
use Rattle.ygg_replay.specs.Steps.{own_machine}
use Rattle.ygg_replay.proofs.Own.{own_serves, own_callable, own_fell}
use Rattle.ygg_replay.proofs.site.ReplaySite.fallen.Goals as goal

pub fall-requires-clause-serves : goal.fall-requires-clause-serves
fall-requires-clause-serves c =
    let s = c.args.self.now in
    own_serves s c.requires.here c.args.schedule.now.state c.requires.vars c.in_ok-after.after
    (c.in_ok-after.ensures ∙ ap (own_machine s) c.in_ok-copy.ensures) c.in_ok-power.power

pub fall-requires-clause-operation : goal.fall-requires-clause-operation
fall-requires-clause-operation c =
    let s = c.args.self.now in
    own_callable s c.requires.here c.args.schedule.now.state c.requires.vars c.in_ok-after.after
    (c.in_ok-after.ensures ∙ ap (own_machine s) c.in_ok-copy.ensures) c.in_ok-power.power s.typed.now.typed c.args.number c.args.schedule.now.args
    c.requires.operation

pub returns : goal.returns
returns c =
    let s = c.args.self.now in
    own_fell s c.requires.here c.args.schedule.now.state c.requires.vars c.in_ok-after.after
    (c.in_ok-after.ensures ∙ ap (own_machine s) c.in_ok-copy.ensures) c.in_ok-power.power s.typed.now.typed c.args.number c.args.schedule.now.args
    s.typed.now.derivable c.args.picks.now c.in_ok-power.ensures c.fall.new.self c.fall.new.power c.requires.operation (c.in_ok-fall.ensures.fell refl)
    c.in_ok-fall.ensures.serves
