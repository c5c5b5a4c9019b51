use Rattle.std.proofs.Common.{List, sym, subst}
use Rattle.ygg_value.specs.declared.row.Value.{Value}
use Rattle.ygg_meaning_laws.specs.ygg_meaning.Progress.{Call}
use Rattle.ygg_eval.specs.ygg_eval_expr.Held.{env_of}
use Rattle.ygg_eval_places.specs.Machines.{CanAnswer}
use Rattle.ygg_eval_places.proofs.PlacesBelow.{args_evaluate}
use Rattle.ygg_eval_places.proofs.Parts.{call_asks}
use Rattle.ygg_eval_places.proofs.walker.Walker.called.Goals as goal

pub values-requires : goal.values-requires
values-requires g c =
    let r = c.args.self.now in
    let M = g.W.Places.means r.machine.now in
    args_evaluate M r.runner.typed.now.file r.runner.number c.args.f.now c.args.es.now (env_of c.args.names.now) (M.state c.args.state.now) c.requires.can

pub answer-requires : goal.answer-requires
answer-requires g c =
    let r = c.args.self.now in
    let M = g.W.Places.means r.machine.now in
    let law = g.met.W.Places.keeps r.machine.now in
    let s = M.state c.args.state.now in
    let asks = call_asks M law r.runner.typed.now.file r.runner.number c.args.f.now c.args.es.now (env_of c.args.names.now) s c.requires.can in
    record { asks = subst (λ (z : List Value). CanAnswer M (Call c.args.f.now.text z) s) (sym c.in_ok-args.ensures) asks }
