use Rattle.std.proofs.Common.{◌++◌, Bool, refl, ap, ◌∙◌}
use Rattle.ygg_eval.specs.Layers.{signatures_at}
use Rattle.ygg_eval_places.specs.Bits.{bits_in}
use Rattle.ygg_eval_places.proofs.ChoiceNoting.{if_ok}
use Rattle.ygg_eval_places.specs.Steps.{one_pick}
use Rattle.ygg_eval_places.proofs.Calls.{has_it}
use Rattle.ygg_eval_places.proofs.OnDisk.{disk_is, called_by, fell, ready, seen_pick}
use Rattle.ygg_eval_places.proofs.disk.cut.Goals as goal

pub place_of-op-requires : goal.place_of-op-requires
place_of-op-requires c = has_it (signatures_at c.args.typed.now.file 0) c.args.name.now c.args.args.now c.requires.asks

pub fall-requires-clause-serves : goal.fall-requires-clause-serves
fall-requires-clause-serves c =
    let disk = disk_is c.in_ok-disk.disk c.in_ok-tables.tables c.args.low.now c.in_ok-disk.ensures c.in_ok-tables.ensures in
    ready c.args.typed.now.file c.args.low.now c.in_ok-disk.disk c.in_ok-power.power _ disk c.in_ok-power.ensures c.requires.fits

pub fall-requires-clause-operation : goal.fall-requires-clause-operation
fall-requires-clause-operation c =
    let disk = disk_is c.in_ok-disk.disk c.in_ok-tables.tables c.args.low.now c.in_ok-disk.ensures c.in_ok-tables.ensures in
    called_by c.args.typed.now.file c.args.low.now c.args.name.now c.args.args.now c.requires.asks c.place_of-op.result c.place_of-op.ensures c.in_ok-disk.disk
    disk

pub returns : goal.returns
returns c =
    let disk = disk_is c.in_ok-disk.disk c.in_ok-tables.tables c.args.low.now c.in_ok-disk.ensures c.in_ok-tables.ensures in
    let noted = c.in_ok-note.ensures ∙ ap (λ (b : Bool). c.args.picks.now ++ seen_pick b c.fall.new.power.picks) c.in_ok-pick.ensures in
    if_ok c.copy-2.result c.copy-2.ensures (λ low' copied.
    fell c.args.typed.now.file c.args.low.now (bits_in c.args.last) c.args.name.now c.args.args.now c.place_of-op.result c.place_of-op.ensures
    c.in_ok-disk.disk c.fall.new.self c.in_ok-power.power c.fall.new.power c.args.picks.now c.note.new.picks low' disk
    (c.in_ok-power.ensures ∙ ap one_pick c.in_ok-pick.ensures) (c.in_ok-fall.ensures.fell refl) c.in_ok-fall.ensures.serves (copied ∙ c.state.ensures) noted)
