use Rattle.std.proofs.Common.{sym, ◌∙◌}
use Rattle.ygg_sched.specs.Cases.{numbered_in}
use Rattle.ygg_sched.proofs.Finding.{own_init, own_call, own_tick, own_last}
use Rattle.ygg_sched.proofs.naming.own_named.Goals as goal

pub returns-then-is_mark-clause-named : goal.returns-then-is_mark-clause-named
returns-then-is_mark-clause-named c = sym (own_init c.args.name.now c.args.operations.now c.args.ticks.now (sym c.is_mark.ensures ∙ c.if-is_mark.true))

pub returns-in-Some-clause-named : goal.returns-in-Some-clause-named
returns-in-Some-clause-named c =
    sym (own_call c.args.name.now c.args.operations.now c.args.ticks.now (numbered_in c.in-Some.call) (sym c.is_mark.ensures ∙ c.if-is_mark.false)
    (sym c.in-Some.ensures.named))

pub returns-in-Some-tick_named-clause-named : goal.returns-in-Some-tick_named-clause-named
returns-in-Some-tick_named-clause-named c =
    sym (own_tick c.args.name.now c.args.operations.now c.args.ticks.now (numbered_in c.in-Some-tick_named.tick)
    (sym c.is_mark.ensures ∙ c.if-is_mark.false) (sym c.in-None.ensures.named) (sym c.in-Some-tick_named.ensures.named))

pub returns-in-None-tick_named-clause-named : goal.returns-in-None-tick_named-clause-named
returns-in-None-tick_named-clause-named c =
    c.last_named.ensures.named
    ∙ sym (own_last c.args.name.now c.args.operations.now c.args.ticks.now (sym c.is_mark.ensures ∙ c.if-is_mark.false) (sym c.in-None.ensures.named)
    (sym c.in-None-tick_named.ensures.named))

pub returns-in-Some-clause-stands : goal.returns-in-Some-clause-stands
returns-in-Some-clause-stands c = c.in-Some.ensures.stands c.args.ticks.now

pub returns-in-Some-tick_named-clause-stands : goal.returns-in-Some-tick_named-clause-stands
returns-in-Some-tick_named-clause-stands c = c.in-Some-tick_named.ensures.stands c.args.operations.now

pub returns-in-None-tick_named-clause-stands : goal.returns-in-None-tick_named-clause-stands
returns-in-None-tick_named-clause-stands c = c.last_named.ensures.stands c.args.operations.now c.args.ticks.now
