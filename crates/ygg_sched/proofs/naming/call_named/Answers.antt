use Rattle.std.proofs.Common.{sym, ◌∙◌}
use Rattle.ygg_sched.proofs.Finding.{call_found, cut_found, calls_passed, stands_in}
use Rattle.ygg_sched.proofs.naming.call_named.Goals as goal

pub returns-then-is_marked-clause-named : goal.returns-then-is_marked-clause-named
returns-then-is_marked-clause-named c =
    sym (call_found c.args.name.now c.args.operations.now c.loop-number.number c.index-operations-number.result c.loop-number-test.true
    c.index-operations-number.is (sym c.is_marked.ensures ∙ c.if-is_marked.true))
    ∙ c.loop-number.invariant

pub returns-then-is_marked-clause-stands : goal.returns-then-is_marked-clause-stands
returns-then-is_marked-clause-stands c others = stands_in c.args.operations.now c.loop-number.number c.index-operations-number.result c.loop-number-test.true
    c.index-operations-number.is

pub returns-then-is_marked-2-clause-named : goal.returns-then-is_marked-2-clause-named
returns-then-is_marked-2-clause-named c =
    sym (cut_found c.args.name.now c.args.operations.now c.loop-number.number c.index-operations-number.result c.loop-number-test.true
    c.index-operations-number.is (sym c.is_marked.ensures ∙ c.if-is_marked.false) (sym c.is_marked-in-loop-number.ensures ∙ c.if-is_marked-2.true))
    ∙ c.loop-number.invariant

pub returns-then-is_marked-2-clause-stands : goal.returns-then-is_marked-2-clause-stands
returns-then-is_marked-2-clause-stands c others = stands_in c.args.operations.now c.loop-number.number c.index-operations-number.result c.loop-number-test.true
    c.index-operations-number.is

pub loop-number-preserved : goal.loop-number-preserved
loop-number-preserved c =
    sym (calls_passed c.args.name.now c.args.operations.now c.loop-number.number c.index-operations-number.result
    c.loop-number-test.true
    c.index-operations-number.is (sym c.is_marked.ensures ∙ c.if-is_marked.false) (sym c.is_marked-in-loop-number.ensures ∙ c.if-is_marked-2.false))
    ∙ c.loop-number.invariant
