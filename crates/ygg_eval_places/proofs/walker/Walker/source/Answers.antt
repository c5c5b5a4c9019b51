use Rattle.std.proofs.Common.{List, sym, subst}
use Rattle.ygg_value.specs.declared.row.Value.{Value}
use Rattle.ygg_syntax.specs.declared.tree.Expr.{Expr}
use Rattle.ygg_meaning_laws.specs.ygg_meaning.Progress.{Call}
use Rattle.ygg_eval.specs.ygg_eval_expr.Held.{env_of}
use Rattle.ygg_eval_places.specs.Machines.{CanAnswer}
use Rattle.ygg_eval_places.specs.Ready.{CanCall}
use Rattle.ygg_eval_places.proofs.PlacesBelow.{args_evaluate}
use Rattle.ygg_eval_places.proofs.Parts.{ask_calls, call_asks}
use Rattle.ygg_eval_places.proofs.walker.Walker.source.Goals as goal

pub values-requires : goal.values-requires
values-requires g c =
    let r = c.args.self.now in
    let M = g.W.Places.means r.machine.now in
    let law = g.met.W.Places.keeps r.machine.now in
    let file = r.runner.typed.now.file in
    let number = r.runner.number in
    let env = env_of c.args.names.now in
    let s = M.state c.args.state.now in
    let call = ask_calls M law file number c.args.from.now c.in-Call.field-0 c.in-Call.f c.in-Call.es env s c.in-Call.is c.requires.can in
    args_evaluate M file number c.in-Call.f c.as_slice.result.now env s
    (subst (λ (z : List Expr). CanCall M file number c.in-Call.f z env s) (sym c.as_slice.ensures) call)

pub ask-requires-in-Call : goal.ask-requires-in-Call
ask-requires-in-Call g c =
    let r = c.args.self.now in
    let M = g.W.Places.means r.machine.now in
    let law = g.met.W.Places.keeps r.machine.now in
    let file = r.runner.typed.now.file in
    let number = r.runner.number in
    let env = env_of c.args.names.now in
    let s = M.state c.args.state.now in
    let call = ask_calls M law file number c.args.from.now c.in-Call.field-0 c.in-Call.f c.in-Call.es env s c.in-Call.is c.requires.can in
    let asks = call_asks M law file number c.in-Call.f c.as_slice.result.now env s
    (subst (λ (z : List Expr). CanCall M file number c.in-Call.f z env s) (sym c.as_slice.ensures) call) in
    record { asks = subst (λ (z : List Value). CanAnswer M (Call c.in-Call.f.text z) s) (sym c.in_ok-args-in-Call.ensures) asks }
