use Rattle.std.proofs.Common.{◌≤◌, ◌<◌, length, arith}
use Rattle.ygg_run.proofs.of_ygg_type.Sizes.{few_layers}
use Rattle.ygg_run.proofs.stacking.MoreRoom.play.Goals as goal

pub overflow_add-place : goal.overflow_add-place
overflow_add-place g c =
    let more : c.args.place < length c.args.typed.now.file.layers = c.requires.more in
    let few : length c.args.typed.now.file.layers ≤ 8 = few_layers c.args.typed.now.file c.args.typed.now.typed in
    omega (arith, more, few)
