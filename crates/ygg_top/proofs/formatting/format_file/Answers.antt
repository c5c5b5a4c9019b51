use Rattle.std.proofs.Common.{refl}
use Rattle.ygg_run_image.proofs.Finished.{formatted_left}
use Rattle.ygg_top.proofs.Left.{file_done, file_broken, file_lost}
use Rattle.ygg_top.proofs.formatting.format_file.Goals as goal

pub returns-in-Done-clause-told : goal.returns-in-Done-clause-told
returns-in-Done-clause-told g c =
    file_done _ _ _ _ c.args.image.now _ _ c.put_all.result c.args.typed.now.file c.in-Done.ensures.told c.put_all.ensures.told

pub returns-in-Done-clause-leaves : goal.returns-in-Done-clause-leaves
returns-in-Done-clause-leaves g c = formatted_left c.args.typed.now.file c.args.image.now _ _ _ c.in-Done.ensures.told

pub returns-in-Failed-clause-told : goal.returns-in-Failed-clause-told
returns-in-Failed-clause-told g c =
    file_broken _ _ _ _ c.args.image.now _ _ c.end_broken.result c.args.typed.now.file (c.in-Failed.ensures.cause refl) c.end_broken.ensures.told

pub returns-in-Memory-clause-told : goal.returns-in-Memory-clause-told
returns-in-Memory-clause-told g c = file_lost _ _ _ _ c.args.image.now _ _ _ c.args.typed.now.file refl refl
