use Rattle.ygg_run_image.proofs.Finished.{left_unfilled, left_filled}
use Rattle.ygg_run_image.proofs.on_device.format.Goals as goal

pub returns-in-Failed-clause-told : goal.returns-in-Failed-clause-told
returns-in-Failed-clause-told g c = left_unfilled c.args.typed.now.file c.args.name.now _ _ _ c.in-Failed.ensures.filled c.in-Failed.ensures.others

pub returns-in-Memory-clause-told : goal.returns-in-Memory-clause-told
returns-in-Memory-clause-told g c = left_unfilled c.args.typed.now.file c.args.name.now _ _ _ c.in-Memory.ensures.filled c.in-Memory.ensures.others

pub returns-in-Done-clause-told : goal.returns-in-Done-clause-told
returns-in-Done-clause-told g c =
    left_filled c.args.typed.now.file c.args.name.now c.finish.result _ _ _ _ _ c.in-Done.ensures.filled.0 c.in-Done.ensures.others c.finish.ensures.told
