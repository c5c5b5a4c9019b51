use Rattle.std.proofs.Common.{ℕ, List, subst, ◌∙◌}
use Rattle.ygg_base.specs.Outside.{Rose}
use Rattle.ygg_run.specs.ygg_machine.Viewed.{floor_seen}
use Rattle.ygg_run_commands.specs.Doing.{IsPut}
use Rattle.ygg_run_commands.proofs.Answering.{not_done, no_line, line_put}
use Rattle.ygg_run_commands.proofs.running.answer.Goals as goal

pub returns-in_err-given-clause-answered : goal.returns-in_err-given-clause-answered
returns-in_err-given-clause-answered g c =
    not_done g.W.Viewed.seen.means c.args.typed.now.file ((floor_seen g.W.Viewed.seen).look c.args.tower.now)
    ((floor_seen g.W.Viewed.seen).look c.run_command.new.tower) c.args.next.now (g.K.Sink.taken c.args.sink.now)
    (Rose (g.K.Sink.faults c.args.sink.now) (g.K.Sink.faults c.args.sink.now)) c.in_err-given.field-0.0 c.from_residual.result
    c.from_residual.ensures.1 c.in_err-given.ensures

pub returns-in_err-line-clause-answered : goal.returns-in_err-line-clause-answered
returns-in_err-line-clause-answered g c =
    no_line g.W.Viewed.seen.means c.args.typed.now.file ((floor_seen g.W.Viewed.seen).look c.args.tower.now)
    ((floor_seen g.W.Viewed.seen).look c.run_command.new.tower) c.args.next.now (g.K.Sink.taken c.args.sink.now)
    (Rose (g.K.Sink.faults c.args.sink.now) (g.K.Sink.faults c.args.sink.now)) _ c.from_residual-in_err-line.result
    c.from_residual-in_err-line.ensures.1 c.in_ok-given.ensures

pub returns-clause-answered : goal.returns-clause-answered
returns-clause-answered g c =
    let SinkRose = Rose (g.K.Sink.faults c.args.sink.now) (g.K.Sink.faults c.put_text.new.sink) in
    line_put g.W.Viewed.seen.means c.args.typed.now.file ((floor_seen g.W.Viewed.seen).look c.args.tower.now)
    ((floor_seen g.W.Viewed.seen).look c.run_command.new.tower) c.args.next.now (g.K.Sink.taken c.args.sink.now) SinkRose
    (g.K.Sink.taken c.put_text.new.sink) _ c.in_ok-given.ensures c.put_text.result
    (subst (λ (l : List ℕ). IsPut l (g.K.Sink.taken c.args.sink.now) (g.K.Sink.taken c.put_text.new.sink) SinkRose c.put_text.result)
    (c.as_slice.ensures ∙ c.in_ok-line.ensures) c.put_text.ensures.put)
