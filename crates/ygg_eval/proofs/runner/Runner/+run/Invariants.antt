use Rattle.std.proofs.Common.{drop, map, ◌-◌}
use Rattle.ygg_eval_expr.specs.ygg_meaning.Progress.{for_each, in_turn, run_of}
use Rattle.ygg_eval_expr.specs.Held.{env_of}
use Rattle.ygg_eval.specs.BlockSteps.{stands, Becomes}
use Rattle.ygg_eval.specs.Ready.{eval_in, turn_run, CanRun, CanRepeat}
use Rattle.ygg_eval.proofs.runner.Runner.+run.Given as goal

-- so far it has come, and the statements that are left may be run
abbrev pub invariant-statements-loop-s : goal.invariant-statements-loop-s
invariant-statements-loop-s g l =
    let M = g.W.Lower.means in
    let r = l.fn.self in
    let eval = eval_in r.typed.now.file in
    let at = stands l.lower l.power in
    record {
      becomes : Becomes M r.typed.now.file r.number r.stop (in_turn (map (run_of eval) l.all) (env_of l.initial.frame.names.items))
          (in_turn (map (run_of eval) (drop l.s-index l.all)) (env_of l.frame.names.items))
          (stands l.initial.lower l.initial.power) l.initial.frame.left at l.frame.left;
      can : CanRun M r.typed.now.file r.number r.stop (drop l.s-index l.all) (env_of l.frame.names.items) at;
    }

-- so far it has come, and the block may be run for the numbers that are left
abbrev pub invariant-turns-loop-i : goal.invariant-turns-loop-i
invariant-turns-loop-i g l =
    let M = g.W.Lower.means in
    let r = l.fn.self in
    let body = turn_run (eval_in r.typed.now.file) l.x l.w l.each in
    let at = stands l.lower l.power in
    record {
      becomes : Becomes M r.typed.now.file r.number r.stop (for_each l.fn.n.value 0 body (env_of l.initial.frame.names.items))
          (for_each (l.fn.n.value - l.i) l.i body (env_of l.frame.names.items)) (stands l.initial.lower l.initial.power) l.initial.frame.left at l.frame.left;
      can : CanRepeat M r.typed.now.file r.number r.stop l.x l.w l.fn.n l.each (env_of l.frame.names.items) at;
    }
