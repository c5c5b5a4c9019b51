use Rattle.std.proofs.Common.{◌≤◌, List, arith, subst}
use Rattle.ygg_base.specs.Outside.{Rose}
use Rattle.ygg_run_play.specs.ygg_script.declared.command.Command.{Command}
use Rattle.ygg_run_play.proofs.Going.{Going, going_first, going_more, going_end, given_up_so, next_fits, no_lines, rose_since}
use Rattle.ygg_run_play.proofs.playing.play_lines.Goals as goal

pub loop-command-init : goal.loop-command-init
loop-command-init g c =
    let f = c.args.typed.now.file in (
      going_first (g.S.Scene.machine f) f c.args.script.now (g.S.Scene.state f c.args.scene.now) (g.K.Sink.taken c.args.sink.now) c.args.power.now.picks
          (g.S.Scene.runs f c.args.scene.now) (g.S.Scene.stands f c.args.scene.now) c.requires.script c.requires.past c.requires.none c.requires.runs,
      omega arith,
    )

pub step-requires-clause-fits : goal.step-requires-clause-fits
step-requires-clause-fits g c =
    let f = c.args.typed.now.file in
    let M = g.S.Scene.machine f in
    let start = g.S.Scene.state f c.args.scene.now in
    let first = g.K.Sink.taken c.args.sink.now in
    let now = g.K.Sink.taken c.loop-command.sink in
    let state = g.S.Scene.state f c.loop-command.scene in
    let Runs = g.S.Scene.runs f c.loop-command.scene in
    let Stands = g.S.Scene.stands f c.loop-command.scene in
    next_fits M f c.args.script.now start first c.in-Some.command.now c.in-Some.after.now c.loop-command.line c.loop-command.power.picks state Runs Stands now
    (subst
    (λ (rest : List Command). Going M f c.args.script.now start first rest c.loop-command.line c.loop-command.power.picks state Runs Stands now)
    c.in-Some.ensures.cases.0 c.loop-command.invariant.0)

pub returns-in_err-step-clause-played : goal.returns-in_err-step-clause-played
returns-in_err-step-clause-played g c =
    let f = c.args.typed.now.file in
    let M = g.S.Scene.machine f in
    let start = g.S.Scene.state f c.args.scene.now in
    let first = g.K.Sink.taken c.args.sink.now in
    let now = g.K.Sink.taken c.loop-command.sink in
    let state = g.S.Scene.state f c.loop-command.scene in
    let Runs = g.S.Scene.runs f c.loop-command.scene in
    let Stands = g.S.Scene.stands f c.loop-command.scene in
    let before = g.K.Sink.faults c.args.sink.now in
    let middle = g.K.Sink.faults c.loop-command.sink in
    let last = g.K.Sink.faults c.step.new.sink in
    given_up_so M f c.args.script.now start first c.in-Some.command.now c.in-Some.after.now c.loop-command.line c.loop-command.power.picks state Runs Stands
    now
    (subst
    (λ (rest : List Command). Going M f c.args.script.now start first rest c.loop-command.line c.loop-command.power.picks state Runs Stands now)
    c.in-Some.ensures.cases.0 c.loop-command.invariant.0)
    c.step.new.power.picks (g.S.Scene.state f c.step.new.scene) (g.K.Sink.taken c.step.new.sink) (Rose middle last) (Rose before last)
    c.in_err-step.field-0.0 c.from_residual.result (rose_since before middle last c.loop-command.invariant.1) c.from_residual.ensures.1
    c.in_err-step.ensures.ends

pub loop-command-preserved : goal.loop-command-preserved
loop-command-preserved g c =
    let f = c.args.typed.now.file in
    let M = g.S.Scene.machine f in
    let start = g.S.Scene.state f c.args.scene.now in
    let first = g.K.Sink.taken c.args.sink.now in
    let now = g.K.Sink.taken c.loop-command.sink in
    let state = g.S.Scene.state f c.loop-command.scene in
    let Runs = g.S.Scene.runs f c.loop-command.scene in
    let Stands = g.S.Scene.stands f c.loop-command.scene in
    let before = g.K.Sink.faults c.args.sink.now in
    let middle = g.K.Sink.faults c.loop-command.sink in
    let last = g.K.Sink.faults c.step.new.sink in
    let some : before ≤ middle = c.loop-command.invariant.1 in
    let more : middle ≤ last = c.in_ok-step.ensures.later in (
      going_more M f c.args.script.now start first c.in-Some.command.now c.in-Some.after.now c.loop-command.line c.loop-command.power.picks state Runs Stands
          now
          (subst
          (λ (rest : List Command). Going M f c.args.script.now start first rest c.loop-command.line c.loop-command.power.picks state Runs Stands now)
          c.in-Some.ensures.cases.0 c.loop-command.invariant.0)
          c.step.new.power.picks (g.S.Scene.state f c.step.new.scene) (g.S.Scene.runs f c.step.new.scene) (g.S.Scene.stands f c.step.new.scene)
          (g.K.Sink.taken c.step.new.sink) (Rose middle last) c.in_ok-step.ensures.ends c.in_ok-step.ensures.past c.in_ok-step.ensures.holds,
      omega (arith, some, more),
    )

pub returns-clause-played : goal.returns-clause-played
returns-clause-played g c =
    let f = c.args.typed.now.file in
    let M = g.S.Scene.machine f in
    let start = g.S.Scene.state f c.args.scene.now in
    let first = g.K.Sink.taken c.args.sink.now in
    let now = g.K.Sink.taken c.loop-command.sink in
    let state = g.S.Scene.state f c.loop-command.scene in
    let Runs = g.S.Scene.runs f c.loop-command.scene in
    let Stands = g.S.Scene.stands f c.loop-command.scene in
    going_end M f c.args.script.now start first c.loop-command.line c.loop-command.power.picks state Runs Stands now
    (Rose (g.K.Sink.faults c.args.sink.now) (g.K.Sink.faults c.loop-command.sink))
    (subst
    (λ (rest : List Command). Going M f c.args.script.now start first rest c.loop-command.line c.loop-command.power.picks state Runs Stands now)
    (no_lines c.loop-command.rest.now c.in_default.ensures.cases) c.loop-command.invariant.0)
