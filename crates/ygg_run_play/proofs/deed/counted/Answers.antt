use Rattle.ygg_run_play.proofs.Finishing.{is_counted, is_missed}
use Rattle.ygg_run_play.proofs.deed.counted.Goals as goal

pub returns-in_default-clause-halted : goal.returns-in_default-clause-halted
returns-in_default-clause-halted g c = λ f deed from before ready ends. (
  c.unreached.ensures,
  is_missed (g.S.Scene.machine f) deed from before c.args.power.now ready c.calls_of-calls.result.now c.calls_of-calls.ensures c.stopped.ensures.few _ _
      c.args.outcome (g.S.Scene.state f c.args.scene.now) ends (c.in_default.ensures.stopped f),
)

pub returns-in-Ok-clause-counted : goal.returns-in-Ok-clause-counted
returns-in-Ok-clause-counted g c = λ f deed from before cuts ready ends stands.
    is_counted (g.S.Scene.machine f) deed from before c.args.power.now ready c.calls_of-calls.result.now c.calls_of-calls.ensures c.stopped.ensures.few
    (g.S.Scene.state f) (g.S.Scene.runs f) (g.S.Scene.stands f) c.args.scene.now c.stopped.new.scene (g.met.S.Scene.falls_after_all f c.args.scene.now) cuts
    c.args.lines.now c.put_events.new.out c.in-Ok.ensures c.args.outcome c.in-Some.outcome ends stands (c.in-Some.ensures.stopped f)
