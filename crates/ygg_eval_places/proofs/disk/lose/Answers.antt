use Rattle.std.proofs.Common.{refl, ◌∙◌}
use Rattle.ygg_eval_places.proofs.ChoiceNoting.{if_ok}
use Rattle.ygg_eval_places.proofs.OnDisk.{disk_is, lost, ready}
use Rattle.ygg_eval_places.proofs.disk.lose.Goals as goal

pub lose-requires : goal.lose-requires
lose-requires c =
    let disk = disk_is c.in_ok-disk.disk c.in_ok-tables.tables c.args.low.now c.in_ok-disk.ensures c.in_ok-tables.ensures in
    record { serves = ready c.args.typed.now.file c.args.low.now c.in_ok-disk.disk c.in_ok-power.power _ disk c.in_ok-power.ensures c.requires }

pub returns : goal.returns
returns c =
    let disk = disk_is c.in_ok-disk.disk c.in_ok-tables.tables c.args.low.now c.in_ok-disk.ensures c.in_ok-tables.ensures in
    if_ok c.copy-2.result c.copy-2.ensures (λ low' copied.
    lost c.args.typed.now.file c.args.low.now c.in_ok-disk.disk c.lose.new.self c.in_ok-power.power c.lose.new.power low' disk
    c.in_ok-power.ensures (c.in_ok-lose.ensures.lost refl) c.in_ok-lose.ensures.serves (copied ∙ c.state.ensures))
