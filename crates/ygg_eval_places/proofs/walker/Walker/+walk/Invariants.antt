use Rattle.std.proofs.Common.{drop}
use Rattle.ygg_eval.specs.ygg_eval_expr.Held.{env_of}
use Rattle.ygg_eval_places.specs.Ready.{CanRun, CanRepeat}
use Rattle.ygg_eval_places.proofs.Going.{Order, Turns}
use Rattle.ygg_eval_places.proofs.walker.Walker.+walk.Given as goal

-- so far it has come, and the statements that are left may be run
abbrev pub invariant-statements-loop-s : goal.invariant-statements-loop-s
invariant-statements-loop-s g l =
    let r = l.fn.self in
    let M = g.W.Places.means r.machine.now in
    let file = r.runner.typed.now.file in
    record {
      went : Order M file l.all l.fn.place (env_of l.initial.names.items) (M.state l.initial.state) l.s-index l.at (env_of l.names.items) (M.state l.state);
      can : CanRun M file r.runner.number (drop l.s-index l.all) (env_of l.names.items) (M.state l.state);
    }

-- so far it has come, and the block may be run for the numbers that are left
abbrev pub invariant-turns-loop-i : goal.invariant-turns-loop-i
invariant-turns-loop-i g l =
    let r = l.fn.self in
    let M = g.W.Places.means r.machine.now in
    let file = r.runner.typed.now.file in
    record {
      went : Turns M file l.x l.w l.fn.n l.each l.fn.place (env_of l.initial.names.items) (M.state l.initial.state) l.i l.at (env_of l.names.items)
          (M.state l.state);
      can : CanRepeat M file r.runner.number l.x l.w l.fn.n l.each (env_of l.names.items) (M.state l.state);
    }
