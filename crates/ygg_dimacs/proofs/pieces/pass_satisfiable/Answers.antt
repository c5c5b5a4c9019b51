use Rattle.std.specs.Prelude.{codes}
use Rattle.ygg_base.specs.Outside.{Rose}
use Rattle.ygg_solver.specs.ygg_cnf.Literals.{truth_of}
use Rattle.ygg_cnf.specs.Lines.{literal_words}
use Rattle.ygg_dimacs.specs.Solved.{true_literals}
use Rattle.ygg_cnf.proofs.Flowing.{text_done, text_short, rose_since}
use Rattle.ygg_dimacs.proofs.pieces.pass_satisfiable.Goals as goal

pub returns-in-Ok-pass_values-clause-told : goal.returns-in-Ok-pass_values-clause-told
returns-in-Ok-pass_values-clause-told g c =
    text_done (g.K.Sink.taken c.args.sink.now) (g.K.Sink.taken c.pass_values.new.sink) (g.K.Sink.taken c.finish.new.sink) c.in-Ok.kept
    (codes "satisfiable\nv ") c.pass_values.new.kept
    (literal_words (true_literals (truth_of c.args.assignment.now) c.args.variables)) (codes "0\n")
    (Rose (g.K.Sink.faults c.pass_values.new.sink) (g.K.Sink.faults c.finish.new.sink))
    (Rose (g.K.Sink.faults c.args.sink.now) (g.K.Sink.faults c.finish.new.sink)) c.finish.result c.in-Ok.ensures c.in-Ok-pass_values.ensures.told
    c.finish.ensures.told
    (rose_since (g.K.Sink.faults c.args.sink.now) (g.K.Sink.faults c.pass_values.new.sink) (g.K.Sink.faults c.finish.new.sink) c.pass_values.ensures.later)

pub returns-clause-told : goal.returns-clause-told
returns-clause-told g c =
    text_short (g.K.Sink.taken c.args.sink.now) (g.K.Sink.taken c.pass_values.new.sink) c.in-Ok.kept (codes "satisfiable\nv ") c.pass_values.new.kept
    (literal_words (true_literals (truth_of c.args.assignment.now) c.args.variables)) (codes "0\n")
    (Rose (g.K.Sink.faults c.args.sink.now) (g.K.Sink.faults c.pass_values.new.sink)) c.in-Err.status c.in-Ok.ensures c.in-Err.ensures.told
