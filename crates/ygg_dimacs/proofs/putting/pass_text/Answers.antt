use Rattle.ygg_base.specs.Outside.{Rose}
use Rattle.ygg_cnf.proofs.Flowing.{rose_since}
use Rattle.ygg_dimacs.proofs.Texts.{text_ends, text_cut}
use Rattle.ygg_dimacs.proofs.putting.pass_text.Goals as goal

pub returns-in-Ok-pass_gates-clause-told : goal.returns-in-Ok-pass_gates-clause-told
returns-in-Ok-pass_gates-clause-told g c =
    text_ends (g.K.Sink.taken c.args.sink.now) (g.K.Sink.taken c.pass_gates.new.sink) (g.K.Sink.taken c.finish.new.sink) c.in-Ok.kept c.pass_gates.new.kept
    c.as_slice.result.now c.in-Ok-unit_line.last c.args.gates.now c.args.goal c.args.total
    (Rose (g.K.Sink.faults c.pass_gates.new.sink) (g.K.Sink.faults c.finish.new.sink))
    (Rose (g.K.Sink.faults c.args.sink.now) (g.K.Sink.faults c.finish.new.sink)) c.finish.result c.requires.counted c.in-Ok.ensures c.as_slice.ensures
    c.in-Ok-unit_line.ensures c.in-Ok-pass_gates.ensures.told c.finish.ensures.told
    (rose_since (g.K.Sink.faults c.args.sink.now) (g.K.Sink.faults c.pass_gates.new.sink) (g.K.Sink.faults c.finish.new.sink) c.pass_gates.ensures.later)

pub returns-clause-told : goal.returns-clause-told
returns-clause-told g c =
    text_cut (g.K.Sink.taken c.args.sink.now) (g.K.Sink.taken c.pass_gates.new.sink) c.in-Ok.kept c.pass_gates.new.kept c.args.gates.now
    c.args.goal c.args.total
    (Rose (g.K.Sink.faults c.args.sink.now) (g.K.Sink.faults c.pass_gates.new.sink)) c.in-Err.status c.requires.counted c.in-Ok.ensures c.in-Err.ensures.told
