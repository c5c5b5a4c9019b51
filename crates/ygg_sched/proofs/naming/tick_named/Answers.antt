use Rattle.std.proofs.Common.{sym, ◌∙◌}
use Rattle.ygg_sched.proofs.Finding.{tick_found, cut_tick_found, ticks_passed, stands_in}
use Rattle.ygg_sched.proofs.naming.tick_named.Goals as goal

pub returns-then-is_marked-clause-named : goal.returns-then-is_marked-clause-named
returns-then-is_marked-clause-named c =
    sym (tick_found c.args.name.now c.args.ticks.now c.loop-number.number c.index-ticks-number.result c.loop-number-test.true
    c.index-ticks-number.is (sym c.is_marked.ensures ∙ c.if-is_marked.true))
    ∙ c.loop-number.invariant

pub returns-then-is_marked-clause-stands : goal.returns-then-is_marked-clause-stands
returns-then-is_marked-clause-stands c others = stands_in c.args.ticks.now c.loop-number.number c.index-ticks-number.result c.loop-number-test.true
    c.index-ticks-number.is

pub returns-then-is_marked-2-clause-named : goal.returns-then-is_marked-2-clause-named
returns-then-is_marked-2-clause-named c =
    sym (cut_tick_found c.args.name.now c.args.ticks.now c.loop-number.number c.index-ticks-number.result c.loop-number-test.true
    c.index-ticks-number.is (sym c.is_marked.ensures ∙ c.if-is_marked.false) (sym c.is_marked-in-loop-number.ensures ∙ c.if-is_marked-2.true))
    ∙ c.loop-number.invariant

pub returns-then-is_marked-2-clause-stands : goal.returns-then-is_marked-2-clause-stands
returns-then-is_marked-2-clause-stands c others = stands_in c.args.ticks.now c.loop-number.number c.index-ticks-number.result c.loop-number-test.true
    c.index-ticks-number.is

pub loop-number-preserved : goal.loop-number-preserved
loop-number-preserved c =
    sym (ticks_passed c.args.name.now c.args.ticks.now c.loop-number.number c.index-ticks-number.result
    c.loop-number-test.true
    c.index-ticks-number.is (sym c.is_marked.ensures ∙ c.if-is_marked.false) (sym c.is_marked-in-loop-number.ensures ∙ c.if-is_marked-2.false))
    ∙ c.loop-number.invariant
