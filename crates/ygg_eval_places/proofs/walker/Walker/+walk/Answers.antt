use Rattle.std.proofs.Common.{rules, ◌≡◌, true, false, List, length, sym, ap, ◌∙◌, subst, arith, refl}
use Rattle.ygg_syntax.specs.declared.tree.Expr.{Expr}
use Rattle.ygg_meaning_laws.specs.ygg_meaning.Meaning.{is_one}
use Rattle.ygg_eval.specs.ygg_eval_expr.Held.{env_of}
use Rattle.ygg_eval.specs.ygg_eval_expr.declared.held.Binding.{Binding}
use Rattle.ygg_eval.specs.Ready.{eval_in, known_in}
use Rattle.ygg_eval.proofs.Running.{dropped_is}
use Rattle.ygg_eval_places.specs.Ready.{CanCall, CanAssign}
use Rattle.ygg_eval_places.proofs.Opened.{ended_for, ended_then, ended_else, ended_let, ended_assign, ended_call}
use Rattle.ygg_eval_places.proofs.Going.{order_goes, block_ends, turns_go, order_ends, turns_begin, turns_end}
use Rattle.ygg_eval_places.proofs.Parts.{call_can, rest_runs, repeat_enters, repeat_again, let_asks, assign_can, if_can}
use Rattle.ygg_eval_places.proofs.Sides.{if_ok}
use Rattle.ygg_syntax.specs.declared.tree.Index.{Index}
use Rattle.ygg_syntax.specs.declared.tree.Stmt.TheOpen.{Stmt-F}
use Rattle.ygg_meaning_laws.specs.Direct.{stmt_direct}
use Rattle.ygg_eval.specs.ygg_eval_expr.Known.{CanEvaluate}
use Rattle.ygg_eval_places.specs.Walks.{Ended}
use Rattle.std.proofs.lemmas.Result.{IfOk-from_err}
use Rattle.ygg_eval_places.proofs.walker.Walker.+walk.Goals as goal

pub block-returns : goal.block-returns
block-returns g t c =
    let r = c.args.self.now in
    let M = g.W.Places.means r.machine.now in
    let names = c.args.names.now in
    record {
      ran = block_ends M r.runner.typed.now.file c.args.b.now c.as_slice.result.now names.items c.statements.new.names.items c.truncate.new.self.items
          c.len-outside.result c.args.place c.in_ok-end.end (M.state c.args.state.now) (M.state c.statements.new.state) c.as_slice.ensures
          (omega (arith, names.ok.0, c.len-outside.ensures)) c.truncate.ensures.items c.in_ok-end.ensures.ran;
    }

pub statement-called-requires : goal.statement-called-requires
statement-called-requires g t c =
    let r = c.args.self.now in
    let M = g.W.Places.means r.machine.now in
    let law = g.met.W.Places.keeps r.machine.now in
    let file = r.runner.typed.now.file in
    let number = r.runner.number in
    let f = c.in-Call.f in
    let env = env_of c.args.names.now.items in
    let s = M.state c.args.state.now in
    record {
      can = subst (λ (bs : List Binding). CanCall M file number f c.as_slice-in-Call.result.now (env_of bs) s) (sym c.as_slice-in-Call-2.ensures.value)
          (subst (λ (es : List Expr). CanCall M file number f es env s) (sym c.as_slice-in-Call.ensures)
          (call_can M law file number c.args.s.now f c.in-Call.es env s c.in-Call.is c.requires.can));
    }

pub statement-returns-in_ok-middle-in-If : goal.statement-returns-in_ok-middle-in-If
statement-returns-in_ok-middle-in-If g t c =
    let r = c.args.self.now in
    let M = g.W.Places.means r.machine.now in
    let file = r.runner.typed.now.file in
    let env = env_of c.args.names.now.items in
    let tested = c.in_ok-test-in-If.ensures
    ∙ ap (λ (bs : List Binding). is_one (eval_in file c.in-If.test (env_of bs))) c.as_slice-in-If.ensures.value in
    let one : is_one (eval_in file c.in-If.test env) ≡ true = sym tested ∙ c.if-branch.true in
    record {
      ran = if_ok c.rooms_after.result c.rooms_after.ensures
          (λ end e. ended_then M file c.args.s.now c.args.place end env (env_of c.block.new.names.items) (M.state c.args.state.now)
          (M.state c.block.new.state) c.in-If.test c.in-If.first c.in-If.second c.in_ok-middle-in-If.middle c.in-If.is one
          c.in_ok-middle-in-If.ensures.ran e);
    }

pub statement-returns-in_ok-middle-in-If-2 : goal.statement-returns-in_ok-middle-in-If-2
statement-returns-in_ok-middle-in-If-2 g t c =
    let r = c.args.self.now in
    let M = g.W.Places.means r.machine.now in
    let file = r.runner.typed.now.file in
    let env = env_of c.args.names.now.items in
    let tested = c.in_ok-test-in-If.ensures
    ∙ ap (λ (bs : List Binding). is_one (eval_in file c.in-If.test (env_of bs))) c.as_slice-in-If.ensures.value in
    let none : is_one (eval_in file c.in-If.test env) ≡ false = sym tested ∙ c.if-branch.false in
    record {
      ran = if_ok c.block-else-branch.result c.block-else-branch.ensures.ran
          (λ end h. ended_else M file c.args.s.now c.args.place end env (env_of c.block-else-branch.new.names.items) (M.state c.args.state.now)
          (M.state c.block-else-branch.new.state) c.in-If.test c.in-If.first c.in-If.second c.in_ok-middle-in-If-2.middle c.in-If.is none
          c.in_ok-middle-in-If-2.ensures h);
    }

pub statement-returns-in-For : goal.statement-returns-in-For
statement-returns-in-For g t c =
    let r = c.args.self.now in
    let M = g.W.Places.means r.machine.now in
    record {
      ran = if_ok c.turns.result c.turns.ensures.ran
          (λ end h. ended_for M r.runner.typed.now.file c.args.s.now c.args.place end (env_of c.args.names.now.items) (env_of c.turns.new.names.items)
          (M.state c.args.state.now) (M.state c.turns.new.state) c.in-For.x c.in-For.w c.in-For.n c.in-For.each c.in-For.is h);
    }

pub statements-loop-s-preserved : goal.statements-loop-s-preserved
statements-loop-s-preserved g t c =
    let r = c.args.self.now in
    let M = g.W.Places.means r.machine.now in
    let law = g.met.W.Places.keeps r.machine.now in
    let file = r.runner.typed.now.file in
    let all = c.args.all.now in
    let i = c.loop-s.s-index in
    let x = c.s-item.result in
    let before = env_of c.loop-s.names.items in
    let after = env_of c.statement.new.names.items in
    let ran = c.in_ok-at.ensures.ran in
    record {
      went = order_goes M file all c.args.place (env_of c.args.names.now.items) (M.state c.args.state.now) i c.loop-s.at c.in_ok-at.at before after
          (M.state c.loop-s.state) (M.state c.statement.new.state) x _ c.loop-s-test.true c.s-item.is c.loop-s.invariant.went ran;
      can = rest_runs M law file r.runner.number all i x _ c.loop-s.at before after (M.state c.loop-s.state) (M.state c.statement.new.state)
          c.loop-s-test.true c.s-item.is c.loop-s.invariant.can ran.names ran.state;
    }

pub turns-block-requires : goal.turns-block-requires
turns-block-requires g t c κs within =
    let r = c.args.self.now in
    let M = g.W.Places.means r.machine.now in
    let law = g.met.W.Places.keeps r.machine.now in
    let enters = repeat_enters M law r.runner.typed.now.file r.runner.number c.args.x.now c.args.w c.args.n c.args.each.now (env_of c.loop-i.names.items)
    (env_of c.name_number.new.names.items) (M.state c.loop-i.state) c.loop-i.i c.loop-i-test.true c.in_ok-name_number.ensures c.loop-i.invariant.can in
    (search rules, (search rules, (search rules, enters)))

pub turns-loop-i-preserved : goal.turns-loop-i-preserved
turns-loop-i-preserved g t c =
    let r = c.args.self.now in
    let M = g.W.Places.means r.machine.now in
    let law = g.met.W.Places.keeps r.machine.now in
    let file = r.runner.typed.now.file in
    let x = c.args.x.now in
    let w = c.args.w in
    let n = c.args.n in
    let each = c.args.each.now in
    let before = c.loop-i.names.items in
    let pushed = c.name_number.new.names.items in
    let during = c.block.new.names.items in
    let after = c.truncate.new.self.items in
    let k = c.len-before.result in
    let ran = c.in_ok-at.ensures.ran in
    let counted : k ≡ length before = omega (arith, c.loop-i.names.ok.0, c.len-before.ensures) in
    let cut = sym (dropped_is before during after k counted c.truncate.ensures.items) in
    record {
      went = turns_go M file x w n each c.args.place (env_of c.args.names.now.items) (M.state c.args.state.now) c.loop-i.i c.loop-i.at c.in_ok-at.at before
          pushed during after k (M.state c.loop-i.state) (M.state c.block.new.state) c.loop-i-test.true c.loop-i.invariant.went c.in_ok-name_number.ensures
          ran counted c.truncate.ensures.items;
      can = repeat_again M law file r.runner.number x w n each (env_of before) (env_of pushed) (env_of during) (env_of after) (M.state c.loop-i.state)
          (M.state c.block.new.state) c.loop-i.i c.loop-i.at c.loop-i-test.true c.in_ok-name_number.ensures c.loop-i.invariant.can ran.names ran.state cut;
    }

pub statement-bound-requires : goal.statement-bound-requires
statement-bound-requires g t c =
    let r = c.args.self.now in
    let M = g.W.Places.means r.machine.now in
    let law = g.met.W.Places.keeps r.machine.now in
    let file = r.runner.typed.now.file in
    let number = r.runner.number in
    record {
      can = let_asks M law file number c.args.s.now c.in-Let.x c.in-Let.from (env_of c.args.names.now.items) (M.state c.args.state.now) c.in-Let.is
          c.requires.can;
    }

pub statement-assigned-requires : goal.statement-assigned-requires
statement-assigned-requires g t c =
    let r = c.args.self.now in
    let M = g.W.Places.means r.machine.now in
    let law = g.met.W.Places.keeps r.machine.now in
    let file = r.runner.typed.now.file in
    let number = r.runner.number in
    let env = env_of c.args.names.now.items in
    let s = M.state c.args.state.now in
    let x = c.in-Assign.x in
    let from = c.in-Assign.from in
    record {
      can = subst (λ (is : List Index). CanAssign M file number x is from env s) (sym c.as_slice.ensures)
          (assign_can M law file number c.args.s.now x c.in-Assign.indices from env s c.in-Assign.is c.requires.can);
    }

pub statement-test-requires : goal.statement-test-requires
statement-test-requires g t c =
    let r = c.args.self.now in
    let M = g.W.Places.means r.machine.now in
    let law = g.met.W.Places.keeps r.machine.now in
    let file = r.runner.typed.now.file in
    let number = r.runner.number in
    let env = env_of c.args.names.now.items in
    let s = M.state c.args.state.now in
    let can = if_can M law file number c.args.s.now c.in-If.test c.in-If.first c.in-If.second env s c.in-If.is c.requires.can in
    subst (λ (bs : List Binding). CanEvaluate (known_in file (env_of bs)) c.in-If.test) (sym c.as_slice-in-If.ensures.value) can.tested

pub statement-returns-in-Let : goal.statement-returns-in-Let
statement-returns-in-Let g t c =
    let r = c.args.self.now in
    let M = g.W.Places.means r.machine.now in
    let file = r.runner.typed.now.file in
    let env = env_of c.args.names.now.items in
    let s = M.state c.args.state.now in
    record {
      ran = if_ok c.bound.result c.bound.ensures.ran
          (λ end h. ended_let M file c.args.s.now c.args.place end env (env_of c.bound.new.names.items) s (M.state c.bound.new.state)
          c.in-Let.x c.in-Let.from c.in-Let.is h);
    }

pub statement-returns-in-Assign : goal.statement-returns-in-Assign
statement-returns-in-Assign g t c =
    let r = c.args.self.now in
    let M = g.W.Places.means r.machine.now in
    let file = r.runner.typed.now.file in
    let env = env_of c.args.names.now.items in
    let s = M.state c.args.state.now in
    let after = env_of c.assigned.new.names.items in
    let to = M.state c.assigned.new.state in
    let x = c.in-Assign.x in
    let from = c.in-Assign.from in
    record {
      ran = if_ok c.assigned.result c.assigned.ensures.ran
          (λ end h. ended_assign M file c.args.s.now c.args.place end env after s to x c.in-Assign.indices from c.in-Assign.is
          (subst (λ (is : List Index). Ended (stmt_direct (eval_in file) M.space M.handle (Stmt-F.Assign x is from)) c.args.place env s end after to)
          c.as_slice.ensures h));
    }

pub statement-returns-in-Call : goal.statement-returns-in-Call
statement-returns-in-Call g t c =
    let r = c.args.self.now in
    let M = g.W.Places.means r.machine.now in
    let file = r.runner.typed.now.file in
    let env = env_of c.args.names.now.items in
    let s = M.state c.args.state.now in
    let to = M.state c.called.new.state in
    let f = c.in-Call.f in
    let step = stmt_direct (eval_in file) M.space M.handle in
    record {
      ran = if_ok c.called.result c.called.ensures.ran
          (λ end h. ended_call M file c.args.s.now c.args.place end env env s to f c.in-Call.es c.in-Call.is
          (subst (λ (es : List Expr). Ended (step (Stmt-F.Call f es)) c.args.place env s end env to) c.as_slice-in-Call.ensures
          (subst (λ (bs : List Binding). Ended (step (Stmt-F.Call f c.as_slice-in-Call.result.now)) c.args.place (env_of bs) s end (env_of bs) to)
          c.as_slice-in-Call-2.ensures.value h)));
    }

pub statements-loop-s-init : goal.statements-loop-s-init
statements-loop-s-init g t c = record { went = record { places = refl; names = refl; state = refl }; can = c.requires.can }

pub statements-returns : goal.statements-returns
statements-returns g t c =
    let r = c.args.self.now in
    let M = g.W.Places.means r.machine.now in
    let file = r.runner.typed.now.file in
    record {
      ran = order_ends M file c.args.all.now c.args.place (env_of c.args.names.now.items) (M.state c.args.state.now) c.loop-s.s-index c.loop-s.at
          (env_of c.loop-s.names.items) (M.state c.loop-s.state) c.loop-s-test.false c.loop-s.invariant.went;
    }

pub turns-loop-i-init : goal.turns-loop-i-init
turns-loop-i-init g t c =
    let r = c.args.self.now in
    let M = g.W.Places.means r.machine.now in
    let file = r.runner.typed.now.file in
    record {
      went = turns_begin M file c.args.x.now c.args.w c.args.n c.args.each.now c.args.place (env_of c.args.names.now.items) (M.state c.args.state.now);
      can = c.requires.can;
    }

pub turns-returns : goal.turns-returns
turns-returns g t c =
    let r = c.args.self.now in
    let M = g.W.Places.means r.machine.now in
    let file = r.runner.typed.now.file in
    record {
      ran = turns_end M file c.args.x.now c.args.w c.args.n c.args.each.now c.args.place (env_of c.args.names.now.items) (M.state c.args.state.now)
          c.loop-i.i c.loop-i.at (env_of c.loop-i.names.items) (M.state c.loop-i.state) c.loop-i-test.false c.loop-i.invariant.went;
    }

pub block-returns-in_err-end : goal.block-returns-in_err-end
block-returns-in_err-end g t c = record { ran = IfOk-from_err c.from_residual.result _ c.from_residual.ensures.0 }

pub statement-returns-in_err-test-in-If : goal.statement-returns-in_err-test-in-If
statement-returns-in_err-test-in-If g t c = record { ran = IfOk-from_err c.from_residual.result _ c.from_residual.ensures.0 }

pub statement-returns-in_err-middle-in-If : goal.statement-returns-in_err-middle-in-If
statement-returns-in_err-middle-in-If g t c =
    record { ran = IfOk-from_err c.from_residual-in_err-middle-in-If.result _ c.from_residual-in_err-middle-in-If.ensures.0 }

pub statement-returns-in_err-middle-in-If-2 : goal.statement-returns-in_err-middle-in-If-2
statement-returns-in_err-middle-in-If-2 g t c =
    record { ran = IfOk-from_err c.from_residual-in_err-middle-in-If-2.result _ c.from_residual-in_err-middle-in-If-2.ensures.0 }

pub statements-returns-in_err-at : goal.statements-returns-in_err-at
statements-returns-in_err-at g t c = record { ran = IfOk-from_err c.from_residual.result _ c.from_residual.ensures.0 }

pub turns-returns-in_err-name_number : goal.turns-returns-in_err-name_number
turns-returns-in_err-name_number g t c = record { ran = IfOk-from_err c.from_residual.result _ c.from_residual.ensures.0 }

pub turns-returns-in_err-at : goal.turns-returns-in_err-at
turns-returns-in_err-at g t c = record { ran = IfOk-from_err c.from_residual-in_err-at.result _ c.from_residual-in_err-at.ensures.0 }
