use Rattle.ygg_eval_expr.specs.Held.{env_of}
use Rattle.ygg_eval.proofs.Asked.{own_seen, own_unseen}
use Rattle.ygg_eval.proofs.related.name_own.Goals as goal

pub returns-in_ok-lend_values-2 : goal.returns-in_ok-lend_values-2
returns-in_ok-lend_values-2 c =
    own_seen c.args.layer.now c.args.which c.sees_all.result c.args.state.now c.args.memory.now (env_of c.args.bindings.now.items)
    (env_of c.lend_values.new.bindings.items) (env_of c.lend_values-then-sees_all.new.bindings.items) c.as_slice.result.now
    c.as_slice-then-sees_all.result.now c.sees_all.ensures
    c.if-sees_all.true c.in_ok-lend_values.ensures c.as_slice.ensures c.in_ok-lend_values-2.ensures c.as_slice-then-sees_all.ensures

pub returns-else-sees_all : goal.returns-else-sees_all
returns-else-sees_all c =
    own_unseen c.args.layer.now c.args.which c.sees_all.result c.args.state.now c.args.memory.now (env_of c.args.bindings.now.items) c.sees_all.ensures
    c.if-sees_all.false
