use Rattle.std.proofs.Common.{◌∙◌, ap, subst, Result, Err}
use Rattle.ygg_base.specs.Outside.{Rose}
use Rattle.ygg_run.specs.ygg_type_rules.Files.{type_errors_of}
use Rattle.ygg_run.specs.ygg_type_proofs_Least.{is_empty}
use Rattle.ygg_run.specs.ygg_run_play.Played.{Noted}
use Rattle.ygg_run.specs.ygg_run_play.declared.halting.PlayHalted.{PlayHalted}
use Rattle.ygg_run.specs.ygg_run_play.Playing.{IsPlayed}
use Rattle.ygg_run.proofs.Plays.{fault_puts, memory_puts, not_missed}
use Rattle.ygg_run.proofs.playing.put_whole.Goals as goal

pub unreachable-requires : goal.unreachable-requires
unreachable-requires g c =
    let f = c.args.typed.now.file in
    let script = c.args.script.now in
    let before = g.K.Sink.taken c.args.sink.now in
    let now = g.K.Sink.taken c.play_in_memory.new.sink in
    let SinkRose = Rose (g.K.Sink.faults c.args.sink.now) (g.K.Sink.faults c.play_in_memory.new.sink) in
    not_missed f (is_empty (type_errors_of f) c.args.typed.now.typed) script before now SinkRose c.requires.plays.0 c.requires.plays.1
    c.in-Err-Unreached.field-0-0
    (subst (λ (result : Result (Unit {0}) PlayHalted). IsPlayed (Noted f) f script before now SinkRose result)
    (c.in-Err-Unreached.is ∙ ap (λ (h : PlayHalted). Err h) c.in-Err-Unreached.field-0-is) c.play_in_memory.ensures.played)

pub returns-in-Err-SinkFailed-clause-put : goal.returns-in-Err-SinkFailed-clause-put
returns-in-Err-SinkFailed-clause-put g c =
    let f = c.args.typed.now.file in
    let script = c.args.script.now in
    let before = g.K.Sink.taken c.args.sink.now in
    let now = g.K.Sink.taken c.play_in_memory.new.sink in
    let SinkRose = Rose (g.K.Sink.faults c.args.sink.now) (g.K.Sink.faults c.play_in_memory.new.sink) in
    fault_puts f (is_empty (type_errors_of f) c.args.typed.now.typed) script before now SinkRose c.requires.plays.0 c.requires.plays.1
    (subst (λ (result : Result (Unit {0}) PlayHalted). IsPlayed (Noted f) f script before now SinkRose result)
    (c.in-Err-SinkFailed.is ∙ ap (λ (h : PlayHalted). Err h) c.in-Err-SinkFailed.field-0-is) c.play_in_memory.ensures.played)

pub returns-in-Err-Memory-clause-put : goal.returns-in-Err-Memory-clause-put
returns-in-Err-Memory-clause-put g c =
    let f = c.args.typed.now.file in
    let script = c.args.script.now in
    let before = g.K.Sink.taken c.args.sink.now in
    let now = g.K.Sink.taken c.play_in_memory.new.sink in
    let SinkRose = Rose (g.K.Sink.faults c.args.sink.now) (g.K.Sink.faults c.play_in_memory.new.sink) in
    memory_puts f (is_empty (type_errors_of f) c.args.typed.now.typed) script before now SinkRose c.requires.plays.0 c.requires.plays.1
    (subst (λ (result : Result (Unit {0}) PlayHalted). IsPlayed (Noted f) f script before now SinkRose result)
    (c.in-Err-Memory.is ∙ ap (λ (h : PlayHalted). Err h) c.in-Err-Memory.field-0-is) c.play_in_memory.ensures.played)
