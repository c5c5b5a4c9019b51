use Rattle.std.proofs.Common.{ap, ◌∙◌}
use Rattle.ygg_eval.specs.ygg_eval_expr.Held.{env_of}
use Rattle.ygg_eval_places.proofs.Bodies.{answer_can}
use Rattle.ygg_eval_places.proofs.walker.Walker.whole.Goals as goal

pub answer-requires : goal.answer-requires
answer-requires g c e i =
    let r = c.args.self.now in
    let M = g.W.Places.means r.machine.now in
    let law = g.met.W.Places.keeps r.machine.now in
    answer_can M law r.runner.typed.now.file r.runner.number c.args.block.now (env_of c.args.names.items) (M.state c.args.state.now) c.requires.ready
    (env_of c.as_slice.result.now) (ap env_of c.as_slice.ensures.value ∙ c.in_ok-run.ensures.names) e i
