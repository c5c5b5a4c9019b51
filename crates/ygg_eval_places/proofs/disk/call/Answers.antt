use Rattle.std.proofs.Common.{◌++◌, Bool, ap, ◌∙◌}
use Rattle.ygg_eval.specs.Layers.{signatures_at}
use Rattle.ygg_eval_places.specs.Bits.{bits_in}
use Rattle.ygg_eval_places.specs.Steps.{one_pick}
use Rattle.ygg_eval_places.proofs.Calls.{has_it}
use Rattle.ygg_eval_places.proofs.OnDisk.{disk_is, answered, called_by, ready, seen_pick}
use Rattle.ygg_eval_places.proofs.disk.call.Goals as goal

pub place_of-op-requires : goal.place_of-op-requires
place_of-op-requires c = has_it (signatures_at c.args.typed.now.file 0) c.args.name.now c.args.args.now c.requires.asks

pub call-requires-clause-serves : goal.call-requires-clause-serves
call-requires-clause-serves c =
    let disk = disk_is c.in_ok-disk.disk c.replace-tables.result c.args.low.now c.in_ok-disk.ensures c.replace-tables.ensures.value in
    ready c.args.typed.now.file c.args.low.now c.in_ok-disk.disk c.in_ok-power.power _ disk c.in_ok-power.ensures c.requires.fits

pub call-requires-clause-operation : goal.call-requires-clause-operation
call-requires-clause-operation c =
    let disk = disk_is c.in_ok-disk.disk c.replace-tables.result c.args.low.now c.in_ok-disk.ensures c.replace-tables.ensures.value in
    called_by c.args.typed.now.file c.args.low.now c.args.name.now c.args.args.now c.requires.asks c.place_of-op.result c.place_of-op.ensures c.in_ok-disk.disk
    disk

pub returns : goal.returns
returns c =
    let disk = disk_is c.in_ok-disk.disk c.replace-tables.result c.args.low.now c.in_ok-disk.ensures c.replace-tables.ensures.value in
    let noted = c.in_ok-note.ensures ∙ ap (λ (b : Bool). c.args.picks.now ++ seen_pick b c.call.new.power.picks) c.in_ok-pick.ensures in
    answered c.args.typed.now.file c.args.low.now (bits_in c.args.choices) c.args.place c.args.name.now c.args.args.now c.place_of-op.result
    c.place_of-op.ensures c.in_ok-disk.disk c.call.new.self c.in_ok-power.power c.call.new.power c.args.picks.now c.note.new.picks _
    c.in_ok-turn.turn c.answer_in.result disk (c.in_ok-power.ensures ∙ ap one_pick c.in_ok-pick.ensures) c.in_ok-turn.ensures.called
    c.in_ok-turn.ensures.serves (c.in_ok-low.ensures ∙ c.state.ensures) noted c.answer_in.ensures
