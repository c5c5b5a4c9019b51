use Rattle.std.proofs.Common.{◌≤◌, List, arith, subst}
use Rattle.ygg_base.specs.Outside.{Rose}
use Rattle.ygg_run.specs.ygg_machine.Viewed.{floor_seen}
use Rattle.ygg_run.specs.ygg_script.declared.command.Command.{Command}
use Rattle.ygg_run_commands.specs.Doing.{FaultsRose}
use Rattle.ygg_run_commands.proofs.Going.{Going, going_first, going_more, next_fits, next_plain}
use Rattle.ygg_run_commands.proofs.Going.{not_woken, not_up, not_answered, ran_all, no_commands, rose_since}
use Rattle.ygg_run_commands.proofs.running.run_on.Goals as goal

pub returns-in_err-wake-clause-run : goal.returns-in_err-wake-clause-run
returns-in_err-wake-clause-run g c =
    not_woken g.W.Viewed.seen.means c.args.typed.now.file c.args.script.now ((floor_seen g.W.Viewed.seen).look c.args.tower.now)
    (g.K.Sink.taken c.args.sink.now) ((floor_seen g.W.Viewed.seen).look c.wake.new.tower)
    (Rose (g.K.Sink.faults c.args.sink.now) (g.K.Sink.faults c.args.sink.now)) c.in_err-wake.field-0.0 c.from_residual.result
    c.from_residual.ensures.1 c.in_err-wake.ensures

pub returns-in_err-put_text-clause-run : goal.returns-in_err-put_text-clause-run
returns-in_err-put_text-clause-run g c =
    not_up g.W.Viewed.seen.means c.args.typed.now.file c.args.script.now ((floor_seen g.W.Viewed.seen).look c.args.tower.now)
    (g.K.Sink.taken c.args.sink.now) ((floor_seen g.W.Viewed.seen).look c.wake.new.tower) (g.K.Sink.taken c.put_text.new.sink)
    (FaultsRose g.W.Viewed.seen.means c.args.typed.now.file ((floor_seen g.W.Viewed.seen).look c.args.tower.now)
    ((floor_seen g.W.Viewed.seen).look c.wake.new.tower))
    (Rose (g.K.Sink.faults c.args.sink.now) (g.K.Sink.faults c.put_text.new.sink)) c.in_err-put_text.field-0.0
    c.from_residual-in_err-put_text.result c.from_residual-in_err-put_text.ensures.1 c.in_ok-wake.ensures c.in_err-put_text.ensures.put

pub loop-next-init : goal.loop-next-init
loop-next-init g c = (
  going_first g.W.Viewed.seen.means c.args.typed.now.file c.args.script.now ((floor_seen g.W.Viewed.seen).look c.args.tower.now)
      (g.K.Sink.taken c.args.sink.now) ((floor_seen g.W.Viewed.seen).look c.wake.new.tower) (g.K.Sink.taken c.put_text.new.sink)
      c.requires.script.commands c.requires.plain c.in_ok-wake.ensures c.in_ok-put_text.ensures.put,
  c.in_ok-put_text.ensures.later,
  c.in_ok-wake.ensures.later,
)

pub answer-requires-clause-fits : goal.answer-requires-clause-fits
answer-requires-clause-fits g c =
    let f = c.args.typed.now.file in
    let look = (floor_seen g.W.Viewed.seen).look in
    next_fits g.W.Viewed.seen.means f c.args.script.now (look c.args.tower.now) (g.K.Sink.taken c.args.sink.now) c.in-Some.next.now c.in-Some.after.now
    (look c.loop-next.tower) (look c.loop-next.tower) (g.K.Sink.taken c.loop-next.sink) (g.K.Sink.taken c.loop-next.sink)
    (subst
    (λ (rest : List Command). Going g.W.Viewed.seen.means f c.args.script.now (look c.args.tower.now) (g.K.Sink.taken c.args.sink.now) rest
    (look c.loop-next.tower) (g.K.Sink.taken c.loop-next.sink)) c.in-Some.ensures.cases.0 c.loop-next.invariant.0)

pub answer-requires-clause-plain : goal.answer-requires-clause-plain
answer-requires-clause-plain g c =
    let f = c.args.typed.now.file in
    let look = (floor_seen g.W.Viewed.seen).look in
    next_plain g.W.Viewed.seen.means f c.args.script.now (look c.args.tower.now) (g.K.Sink.taken c.args.sink.now) c.in-Some.next.now c.in-Some.after.now
    (look c.loop-next.tower) (look c.loop-next.tower) (g.K.Sink.taken c.loop-next.sink) (g.K.Sink.taken c.loop-next.sink)
    (subst
    (λ (rest : List Command). Going g.W.Viewed.seen.means f c.args.script.now (look c.args.tower.now) (g.K.Sink.taken c.args.sink.now) rest
    (look c.loop-next.tower) (g.K.Sink.taken c.loop-next.sink)) c.in-Some.ensures.cases.0 c.loop-next.invariant.0)

pub returns-in_err-answer-clause-run : goal.returns-in_err-answer-clause-run
returns-in_err-answer-clause-run g c =
    let f = c.args.typed.now.file in
    let look = (floor_seen g.W.Viewed.seen).look in
    let before = g.K.Sink.faults c.args.sink.now in
    let middle = g.K.Sink.faults c.loop-next.sink in
    let last = g.K.Sink.faults c.answer.new.sink in
    not_answered g.W.Viewed.seen.means f c.args.script.now (look c.args.tower.now) (g.K.Sink.taken c.args.sink.now) c.in-Some.next.now c.in-Some.after.now
    (look c.loop-next.tower) (look c.answer.new.tower) (g.K.Sink.taken c.loop-next.sink) (g.K.Sink.taken c.answer.new.sink)
    (subst
    (λ (rest : List Command). Going g.W.Viewed.seen.means f c.args.script.now (look c.args.tower.now) (g.K.Sink.taken c.args.sink.now) rest
    (look c.loop-next.tower) (g.K.Sink.taken c.loop-next.sink)) c.in-Some.ensures.cases.0 c.loop-next.invariant.0)
    (Rose middle last) (Rose before last) c.in_err-answer.field-0.0 c.from_residual-in_err-answer.result c.from_residual-in_err-answer.ensures.1
    (rose_since before middle last c.loop-next.invariant.1) c.in_err-answer.ensures.answered.so

pub loop-next-preserved : goal.loop-next-preserved
loop-next-preserved g c =
    let f = c.args.typed.now.file in
    let look = (floor_seen g.W.Viewed.seen).look in
    let before = g.K.Sink.faults c.args.sink.now in
    let middle = g.K.Sink.faults c.loop-next.sink in
    let last = g.K.Sink.faults c.answer.new.sink in
    let some : before ≤ middle = c.loop-next.invariant.1 in
    let more : middle ≤ last = c.in_ok-answer.ensures.later in
    let count = g.W.Viewed.seen.means.faults in
    let earlier : count (look c.args.tower.now).base ≤ count (look c.loop-next.tower).base = c.loop-next.invariant.2 in
    let since : count (look c.loop-next.tower).base ≤ count (look c.answer.new.tower).base = c.in_ok-answer.ensures.answered.later in (
      going_more g.W.Viewed.seen.means f c.args.script.now (look c.args.tower.now) (g.K.Sink.taken c.args.sink.now) c.in-Some.next.now
          c.in-Some.after.now (look c.loop-next.tower) (look c.answer.new.tower) (g.K.Sink.taken c.loop-next.sink) (g.K.Sink.taken c.answer.new.sink)
          (subst
          (λ (rest : List Command). Going g.W.Viewed.seen.means f c.args.script.now (look c.args.tower.now) (g.K.Sink.taken c.args.sink.now) rest
          (look c.loop-next.tower) (g.K.Sink.taken c.loop-next.sink)) c.in-Some.ensures.cases.0 c.loop-next.invariant.0)
          (Rose middle last) c.in_ok-answer.ensures.answered.so c.in_ok-answer.ensures.answered.later,
      omega (arith, some, more),
      omega (arith, earlier, since),
    )

pub returns-clause-run : goal.returns-clause-run
returns-clause-run g c =
    let f = c.args.typed.now.file in
    let look = (floor_seen g.W.Viewed.seen).look in
    let before = g.K.Sink.faults c.args.sink.now in
    let middle = g.K.Sink.faults c.loop-next.sink in
    let last = g.K.Sink.faults c.put_ran.new.sink in
    ran_all g.W.Viewed.seen.means f c.args.script.now (look c.args.tower.now) (g.K.Sink.taken c.args.sink.now) (look c.loop-next.tower)
    (g.K.Sink.taken c.loop-next.sink) (g.K.Sink.taken c.put_ran.new.sink)
    (subst
    (λ (rest : List Command). Going g.W.Viewed.seen.means f c.args.script.now (look c.args.tower.now) (g.K.Sink.taken c.args.sink.now) rest
    (look c.loop-next.tower) (g.K.Sink.taken c.loop-next.sink)) (no_commands c.loop-next.rest.now c.in_default.ensures.cases) c.loop-next.invariant.0)
    (FaultsRose g.W.Viewed.seen.means f (look c.args.tower.now) (look c.loop-next.tower)) (Rose middle last) (Rose before last)
    (rose_since before middle last c.loop-next.invariant.1) c.put_ran.result c.put_ran.ensures.put
