use Rattle.std.proofs.Common.{rules, ◌-◌, ◌+◌, List, Ok, Err, drop, map, take, length, sym, ap, ◌∙◌, subst, arith}
use Rattle.std.proofs.lemmas.List.{drop_all}
use Rattle.ygg_syntax.specs.declared.tree.Expr.{Expr}
use Rattle.ygg_syntax.specs.declared.tree.Index.{Index}
use Rattle.ygg_syntax.specs.declared.tree.Stmt.{Stmt}
use Rattle.ygg_eval_expr.specs.ygg_meaning.Environments.{Env}
use Rattle.ygg_eval_expr.specs.ygg_meaning.Progress.{for_each, in_turn, run_of}
use Rattle.ygg_eval_expr.specs.ygg_meaning.Meaning.{is_one}
use Rattle.ygg_eval_expr.specs.declared.held.Binding.{Binding}
use Rattle.ygg_eval_expr.specs.Held.{env_of}
use Rattle.ygg_eval_expr.specs.Known.{CanEvaluate}
use Rattle.ygg_eval.specs.declared.flow.Flow.{Flow}
use Rattle.ygg_eval.specs.declared.flow.Flow.TheVariants.{Goes as Going, Breaks as Breaking}
use Rattle.ygg_eval.specs.BlockSteps.{Front, goes_on, stands, Becomes, Ran}
use Rattle.ygg_eval.specs.Ready.{eval_in, known_in, inside_run, turn_run, CanCall, CanAssign}
use Rattle.ygg_eval.proofs.Leading.{becomes_same, starved_here, starved_as, starved_then}
use Rattle.ygg_eval.proofs.Fitting.{let_asks, assign_can, call_can, if_can}
use Rattle.ygg_eval.proofs.Repeating.{repeat_parts, repeat_enters_at, repeat_again_at, turn_next, turns_begin, turns_end}
use Rattle.ygg_eval.proofs.Running.{
  dropped_is,
  ran_let,
  ran_assign,
  ran_then,
  ran_else,
  ran_for,
  ran_call_statement,
  block_ran,
  statement_ran,
  statements_can,
}
use Rattle.ygg_eval.proofs.runner.Runner.+run.Goals as goal

-- a block inside another

pub block-returns : goal.block-returns
block-returns g t c =
    let r = c.args.self.now in
    block_ran g.W.Lower.means r.typed.now.file r.number r.stop c.args.b.now c.as_slice.result.now c.args.frame.now.names.items
    c.statements-flow.new.frame.names.items c.truncate.new.self.items c.len-outside.result _ _ _ _ c.statements-flow.result
    c.as_slice.ensures (omega (arith, c.args.frame.now.names.ok.0, c.len-outside.ensures)) c.truncate.ensures.items c.statements-flow.ensures

-- a statement

pub statement-returns-in-Let : goal.statement-returns-in-Let
statement-returns-in-Let g t c =
    let r = c.args.self.now in
    ran_let g.W.Lower.means r.typed.now.file r.number r.stop c.args.s.now c.in-Let.x c.in-Let.from
    (env_of c.args.frame.now.names.items) _ _ _ _ _ c.bound.result c.in-Let.is c.bound.ensures

pub statement-returns-in-Assign : goal.statement-returns-in-Assign
statement-returns-in-Assign g t c =
    let r = c.args.self.now in
    ran_assign g.W.Lower.means r.typed.now.file r.number r.stop c.args.s.now c.in-Assign.x c.in-Assign.indices c.as_slice.result.now c.in-Assign.from
    (env_of c.args.frame.now.names.items) _ _ _ _ _ c.assigned.result c.in-Assign.is c.as_slice.ensures c.assigned.ensures

pub statement-returns-in-For : goal.statement-returns-in-For
statement-returns-in-For g t c =
    let r = c.args.self.now in
    ran_for g.W.Lower.means r.typed.now.file r.number r.stop c.args.s.now c.in-For.x c.in-For.w c.in-For.n c.in-For.each
    (env_of c.args.frame.now.names.items) _ _ _ _ _ c.turns.result c.in-For.is c.turns.ensures

pub statement-returns-in-Call : goal.statement-returns-in-Call
statement-returns-in-Call g t c =
    let r = c.args.self.now in
    ran_call_statement g.W.Lower.means r.typed.now.file r.number r.stop c.args.s.now c.in-Call.f c.in-Call.es c.as_slice-in-Call.result.now
    (env_of c.args.frame.now.names.items) _ _ _ _ _ c.called.result c.in-Call.is c.as_slice-in-Call.ensures c.called.ensures

pub statement-returns-then-branch : goal.statement-returns-then-branch
statement-returns-then-branch g t c =
    let r = c.args.self.now in
    let tested = ap (λ (bs : List Binding). is_one (eval_in r.typed.now.file c.in-If.test (env_of bs))) c.as_slice-in-If.ensures.value in
    ran_then g.W.Lower.means r.typed.now.file r.number r.stop c.args.s.now c.in-If.test c.in-If.first c.in-If.second
    (env_of c.args.frame.now.names.items) _ _ _ _ _ c.block.result c.in_ok-test-in-If.field-0 c.in-If.is
    (c.in_ok-test-in-If.ensures ∙ tested) c.if-branch.true c.block.ensures

pub statement-returns-else-branch : goal.statement-returns-else-branch
statement-returns-else-branch g t c =
    let r = c.args.self.now in
    let tested = ap (λ (bs : List Binding). is_one (eval_in r.typed.now.file c.in-If.test (env_of bs))) c.as_slice-in-If.ensures.value in
    ran_else g.W.Lower.means r.typed.now.file r.number r.stop c.args.s.now c.in-If.test c.in-If.first c.in-If.second
    (env_of c.args.frame.now.names.items) _ _ _ _ _ c.block-else-branch.result c.in_ok-test-in-If.field-0 c.in-If.is
    (c.in_ok-test-in-If.ensures ∙ tested) c.if-branch.false c.block-else-branch.ensures

pub statement-returns-in_err-test-in-If : goal.statement-returns-in_err-test-in-If
statement-returns-in_err-test-in-If g t c =
    let r = c.args.self.now in
    starved_here g.W.Lower.means r.typed.now.file r.number r.stop
    (run_of (eval_in r.typed.now.file) c.args.s.now (env_of c.args.frame.now.names.items)) _
    (stands c.args.lower.now c.args.power.now) c.args.frame.now.left c.from_residual.result c.from_residual.ensures.0

pub statement-called-requires : goal.statement-called-requires
statement-called-requires g t c =
    let r = c.args.self.now in
    let at = stands c.args.lower.now c.args.power.now in
    let env = env_of c.args.frame.now.names.items in
    subst (λ (es : List Expr). CanCall g.W.Lower.means r.typed.now.file r.number r.stop c.in-Call.f es env at) (sym c.as_slice-in-Call.ensures)
    (call_can g.W.Lower.means r.typed.now.file r.number r.stop c.args.s.now c.in-Call.f c.in-Call.es env at c.in-Call.is c.requires)

pub statement-bound-requires : goal.statement-bound-requires
statement-bound-requires g t c =
    let r = c.args.self.now in
    let_asks g.W.Lower.means r.typed.now.file r.number r.stop c.args.s.now c.in-Let.x c.in-Let.from (env_of c.args.frame.now.names.items)
    (stands c.args.lower.now c.args.power.now) c.in-Let.is c.requires

pub statement-assigned-requires : goal.statement-assigned-requires
statement-assigned-requires g t c =
    let r = c.args.self.now in
    let at = stands c.args.lower.now c.args.power.now in
    let env = env_of c.args.frame.now.names.items in
    subst (λ (is : List Index). CanAssign g.W.Lower.means r.typed.now.file r.number r.stop c.in-Assign.x is c.in-Assign.from env at)
    (sym c.as_slice.ensures)
    (assign_can g.W.Lower.means r.typed.now.file r.number r.stop c.args.s.now c.in-Assign.x c.in-Assign.indices c.in-Assign.from env at c.in-Assign.is
    c.requires)

pub statement-test-requires : goal.statement-test-requires
statement-test-requires g t c =
    let r = c.args.self.now in
    subst (λ (bs : List Binding). CanEvaluate (known_in r.typed.now.file (env_of bs)) c.in-If.test) (sym c.as_slice-in-If.ensures.value)
    (if_can g.W.Lower.means r.typed.now.file r.number r.stop c.args.s.now c.in-If.test c.in-If.first c.in-If.second
    (env_of c.args.frame.now.names.items) (stands c.args.lower.now c.args.power.now) c.in-If.is c.requires).tested

-- statements

pub statements-returns-in_err-statement : goal.statements-returns-in_err-statement
statements-returns-in_err-statement g t c =
    let r = c.args.self.now in
    let eval = eval_in r.typed.now.file in
    let all = c.args.all.now in
    let front = in_turn (map (run_of eval) all) (env_of c.args.frame.now.names.items) in
    let from = stands c.args.lower.now c.args.power.now in
    let to = stands c.statement.new.lower c.statement.new.power in
    let after : Unit {0} → Front = λ u. in_turn (map (run_of eval) (drop (c.loop-s.s-index + 1) all)) (env_of c.statement.new.frame.names.items) in
    starved_as g.W.Lower.means r.typed.now.file r.number r.stop front after _ from to c.args.frame.now.left _ c.in_err-statement.field-0.0
    c.from_residual.result
    (statement_ran g.W.Lower.means r.typed.now.file r.number r.stop {T = Unit {0}} front all c.loop-s.s-index c.s-item.result
    (env_of c.loop-s.frame.names.items) (env_of c.statement.new.frame.names.items) from
    (stands c.loop-s.lower c.loop-s.power) to c.args.frame.now.left c.loop-s.frame.left
    c.statement.new.frame.left (Err c.in_err-statement.field-0.0) c.loop-s-test.true c.s-item.is c.loop-s.invariant.becomes c.in_err-statement.ensures)
    c.from_residual.ensures.0

pub statements-returns-in-Breaks : goal.statements-returns-in-Breaks
statements-returns-in-Breaks g t c =
    let r = c.args.self.now in
    let eval = eval_in r.typed.now.file in
    let all = c.args.all.now in
    let front = in_turn (map (run_of eval) all) (env_of c.args.frame.now.names.items) in
    let from = stands c.args.lower.now c.args.power.now in
    let at = stands c.loop-s.lower c.loop-s.power in
    let to = stands c.statement.new.lower c.statement.new.power in
    let after : Unit {0} → Front = λ u. goes_on (env_of c.statement.new.frame.names.items) in
    let ran = subst (λ (w : Flow (Unit {0})). Ran g.W.Lower.means r.typed.now.file r.number r.stop
    (run_of eval c.s-item.result (env_of c.loop-s.frame.names.items)) after at c.loop-s.frame.left (Ok w) to c.statement.new.frame.left)
    c.in-Breaks.is c.in_ok-statement.ensures in
    statement_ran g.W.Lower.means r.typed.now.file r.number r.stop {T = Unit {0}} front all c.loop-s.s-index c.s-item.result
    (env_of c.loop-s.frame.names.items) (env_of c.statement.new.frame.names.items) from at to c.args.frame.now.left c.loop-s.frame.left
    c.statement.new.frame.left
    (Ok (Breaking c.in-Breaks.how)) c.loop-s-test.true c.s-item.is c.loop-s.invariant.becomes ran

pub statements-loop-s-preserved : goal.statements-loop-s-preserved
statements-loop-s-preserved g t c =
    let r = c.args.self.now in
    let eval = eval_in r.typed.now.file in
    let all = c.args.all.now in
    let front = in_turn (map (run_of eval) all) (env_of c.args.frame.now.names.items) in
    let from = stands c.args.lower.now c.args.power.now in
    let at = stands c.loop-s.lower c.loop-s.power in
    let to = stands c.statement.new.lower c.statement.new.power in
    let after : Unit {0} → Front = λ u. goes_on (env_of c.statement.new.frame.names.items) in
    let ran = subst (λ (w : Flow (Unit {0})). Ran g.W.Lower.means r.typed.now.file r.number r.stop
    (run_of eval c.s-item.result (env_of c.loop-s.frame.names.items)) after at c.loop-s.frame.left (Ok w) to c.statement.new.frame.left)
    c.in-Goes.is c.in_ok-statement.ensures in
    record {
      becomes = statement_ran g.W.Lower.means r.typed.now.file r.number r.stop {T = Unit {0}} front all c.loop-s.s-index c.s-item.result
          (env_of c.loop-s.frame.names.items) (env_of c.statement.new.frame.names.items) from at to c.args.frame.now.left c.loop-s.frame.left
          c.statement.new.frame.left (Ok (Going tt)) c.loop-s-test.true c.s-item.is c.loop-s.invariant.becomes ran;
      can = statements_can g.W.Lower.means r.typed.now.file r.number r.stop all c.loop-s.s-index c.s-item.result (env_of c.loop-s.frame.names.items)
          (env_of c.statement.new.frame.names.items) at to c.loop-s.frame.left c.statement.new.frame.left c.loop-s-test.true c.s-item.is
          c.loop-s.invariant.can ran;
    }

pub statements-loop-s-init : goal.statements-loop-s-init
statements-loop-s-init g t c =
    let r = c.args.self.now in
    record {
      becomes = becomes_same g.W.Lower.means r.typed.now.file r.number r.stop
          (in_turn (map (run_of (eval_in r.typed.now.file)) c.args.all.now) (env_of c.args.frame.now.names.items))
          (stands c.args.lower.now c.args.power.now) c.args.frame.now.left;
      can = c.requires;
    }

pub statements-returns : goal.statements-returns
statements-returns g t c =
    let r = c.args.self.now in
    let all = c.args.all.now in
    let run = run_of (eval_in r.typed.now.file) in
    subst (λ (ss : List Stmt). Becomes g.W.Lower.means r.typed.now.file r.number r.stop (in_turn (map run all) (env_of c.args.frame.now.names.items))
    (in_turn (map run ss) (env_of c.loop-s.frame.names.items)) (stands c.args.lower.now c.args.power.now) c.args.frame.now.left
    (stands c.loop-s.lower c.loop-s.power) c.loop-s.frame.left)
    (drop_all c.loop-s.s-index all c.loop-s-test.false) c.loop-s.invariant.becomes

-- loops

pub turns-loop-i-init : goal.turns-loop-i-init
turns-loop-i-init g t c =
    let r = c.args.self.now in
    record {
      becomes = turns_begin g.W.Lower.means r.typed.now.file r.number r.stop c.args.x.now c.args.w c.args.n c.args.each.now
          (env_of c.args.frame.now.names.items) (stands c.args.lower.now c.args.power.now) c.args.frame.now.left;
      can = c.requires;
    }

pub turns-name_number-requires-clause-least : goal.turns-name_number-requires-clause-least
turns-name_number-requires-clause-least g t c =
    let r = c.args.self.now in
    (repeat_parts g.W.Lower.means r.typed.now.file r.number r.stop c.args.x.now c.args.w c.args.n c.args.each.now (env_of c.loop-i.frame.names.items)
    (stands c.loop-i.lower c.loop-i.power) c.loop-i.invariant.can).width.0

pub turns-name_number-requires-clause-most : goal.turns-name_number-requires-clause-most
turns-name_number-requires-clause-most g t c =
    let r = c.args.self.now in
    (repeat_parts g.W.Lower.means r.typed.now.file r.number r.stop c.args.x.now c.args.w c.args.n c.args.each.now (env_of c.loop-i.frame.names.items)
    (stands c.loop-i.lower c.loop-i.power) c.loop-i.invariant.can).width.1

pub turns-name_number-requires-clause-below : goal.turns-name_number-requires-clause-below
turns-name_number-requires-clause-below g t c =
    let r = c.args.self.now in
    let bound = (repeat_parts g.W.Lower.means r.typed.now.file r.number r.stop c.args.x.now c.args.w c.args.n c.args.each.now
    (env_of c.loop-i.frame.names.items) (stands c.loop-i.lower c.loop-i.power) c.loop-i.invariant.can).bound in
    omega arith

pub turns-returns-in_err-name_number : goal.turns-returns-in_err-name_number
turns-returns-in_err-name_number g t c =
    let r = c.args.self.now in
    let body = turn_run (eval_in r.typed.now.file) c.args.x.now c.args.w c.args.each.now in
    starved_then g.W.Lower.means r.typed.now.file r.number r.stop (for_each c.args.n.value 0 body (env_of c.args.frame.now.names.items))
    (for_each (c.args.n.value - c.loop-i.i) c.loop-i.i body (env_of c.loop-i.frame.names.items)) _ (stands c.args.lower.now c.args.power.now)
    (stands c.loop-i.lower c.loop-i.power) c.args.frame.now.left c.loop-i.frame.left c.from_residual.result c.loop-i.invariant.becomes c.from_residual.ensures.0

pub turns-block-requires : goal.turns-block-requires
turns-block-requires g t c κs h =
    let r = c.args.self.now in
    let can = repeat_enters_at g.W.Lower.means r.typed.now.file r.number r.stop c.args.x.now c.args.w c.args.n c.args.each.now
    (env_of c.loop-i.frame.names.items) (env_of c.name_number.new.names.items) (stands c.loop-i.lower c.loop-i.power) c.loop-i.i c.loop-i-test.true
    c.in_ok-name_number.ensures c.loop-i.invariant.can in
    (search rules, (search rules, can))

pub turns-returns-in_err-block : goal.turns-returns-in_err-block
turns-returns-in_err-block g t c =
    let r = c.args.self.now in
    let body = turn_run (eval_in r.typed.now.file) c.args.x.now c.args.w c.args.each.now in
    let front = for_each c.args.n.value 0 body (env_of c.args.frame.now.names.items) in
    let from = stands c.args.lower.now c.args.power.now in
    let to = stands c.block.new.lower c.block.new.power in
    let before = env_of c.loop-i.frame.names.items in
    let left = env_of c.block.new.frame.names.items in
    let after : Unit {0} → Front = λ u. for_each (c.args.n.value - (c.loop-i.i + 1)) (c.loop-i.i + 1) body (take (length before) left) in
    starved_as g.W.Lower.means r.typed.now.file r.number r.stop front after _ from to c.args.frame.now.left _ c.in_err-block.field-0.0
    c.from_residual-in_err-block.result
    (turn_next g.W.Lower.means r.typed.now.file r.number r.stop front c.args.x.now c.args.w c.args.n c.args.each.now c.loop-i.i before
    (env_of c.name_number.new.names.items) left from (stands c.loop-i.lower c.loop-i.power) to c.args.frame.now.left c.loop-i.frame.left
    c.block.new.frame.left {T = Unit {0}} (Err c.in_err-block.field-0.0) c.loop-i-test.true c.in_ok-name_number.ensures c.loop-i.invariant.becomes
    c.in_err-block.ensures)
    c.from_residual-in_err-block.ensures.0

pub turns-returns-in-Breaks : goal.turns-returns-in-Breaks
turns-returns-in-Breaks g t c =
    let r = c.args.self.now in
    let eval = eval_in r.typed.now.file in
    let body = turn_run eval c.args.x.now c.args.w c.args.each.now in
    let front = for_each c.args.n.value 0 body (env_of c.args.frame.now.names.items) in
    let from = stands c.args.lower.now c.args.power.now in
    let at = stands c.loop-i.lower c.loop-i.power in
    let to = stands c.block.new.lower c.block.new.power in
    let before = env_of c.loop-i.frame.names.items in
    let inner = env_of c.name_number.new.names.items in
    let left = env_of c.block.new.frame.names.items in
    let ended : Unit {0} → Front = λ u. goes_on left in
    let ran = subst (λ (w : Flow (Unit {0})). Ran g.W.Lower.means r.typed.now.file r.number r.stop
    (inside_run eval c.args.each.now inner) ended at c.loop-i.frame.left (Ok w) to c.block.new.frame.left) c.in-Breaks.is c.in_ok-block.ensures in
    turn_next g.W.Lower.means r.typed.now.file r.number r.stop front c.args.x.now c.args.w c.args.n c.args.each.now c.loop-i.i before inner left from
    at to c.args.frame.now.left c.loop-i.frame.left c.block.new.frame.left {T = Unit {0}} (Ok (Breaking c.in-Breaks.how)) c.loop-i-test.true
    c.in_ok-name_number.ensures c.loop-i.invariant.becomes ran

pub turns-loop-i-preserved : goal.turns-loop-i-preserved
turns-loop-i-preserved g t c =
    let r = c.args.self.now in
    let eval = eval_in r.typed.now.file in
    let body = turn_run eval c.args.x.now c.args.w c.args.each.now in
    let front = for_each c.args.n.value 0 body (env_of c.args.frame.now.names.items) in
    let from = stands c.args.lower.now c.args.power.now in
    let at = stands c.loop-i.lower c.loop-i.power in
    let to = stands c.block.new.lower c.block.new.power in
    let before = env_of c.loop-i.frame.names.items in
    let inner = env_of c.name_number.new.names.items in
    let left = env_of c.block.new.frame.names.items in
    let ended : Unit {0} → Front = λ u. goes_on left in
    let ran = subst (λ (w : Flow (Unit {0})). Ran g.W.Lower.means r.typed.now.file r.number r.stop
    (inside_run eval c.args.each.now inner) ended at c.loop-i.frame.left (Ok w) to c.block.new.frame.left) c.in-Goes.is c.in_ok-block.ensures in
    let cut = dropped_is c.loop-i.frame.names.items c.block.new.frame.names.items c.truncate.new.self.items c.len-before.result
    (omega (arith, c.loop-i.frame.names.ok.0, c.len-before.ensures)) c.truncate.ensures.items in
    let next = turn_next g.W.Lower.means r.typed.now.file r.number r.stop front c.args.x.now c.args.w c.args.n c.args.each.now c.loop-i.i before inner
    left from at to c.args.frame.now.left c.loop-i.frame.left c.block.new.frame.left {T = Unit {0}} (Ok (Going tt)) c.loop-i-test.true
    c.in_ok-name_number.ensures c.loop-i.invariant.becomes ran in
    record {
      becomes = subst (λ (e : Env). Becomes g.W.Lower.means r.typed.now.file r.number r.stop front
          (for_each (c.args.n.value - (c.loop-i.i + 1)) (c.loop-i.i + 1) body e) from c.args.frame.now.left to c.block.new.frame.left) cut next;
      can = repeat_again_at g.W.Lower.means r.typed.now.file r.number r.stop c.args.x.now c.args.w c.args.n c.args.each.now before inner left
          (env_of c.truncate.new.self.items) at to c.loop-i.frame.left c.block.new.frame.left c.loop-i.i c.loop-i-test.true c.in_ok-name_number.ensures cut
          c.loop-i.invariant.can ran;
    }

pub turns-returns : goal.turns-returns
turns-returns g t c =
    let r = c.args.self.now in
    let body = turn_run (eval_in r.typed.now.file) c.args.x.now c.args.w c.args.each.now in
    turns_end g.W.Lower.means r.typed.now.file r.number r.stop
    (for_each c.args.n.value 0 body (env_of c.args.frame.now.names.items)) c.args.x.now c.args.w c.args.n c.args.each.now c.loop-i.i
    (env_of c.loop-i.frame.names.items) (stands c.args.lower.now c.args.power.now)
    (stands c.loop-i.lower c.loop-i.power) c.args.frame.now.left c.loop-i.frame.left (omega arith) c.loop-i.invariant.becomes
