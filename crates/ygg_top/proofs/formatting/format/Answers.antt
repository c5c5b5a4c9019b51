use Rattle.std.proofs.Common.{inl, inr, refl}
use Rattle.ygg_top.proofs.Left.{file_read, file_stopped}
use Rattle.ygg_top.proofs.formatting.format.Goals as goal

pub returns-clause-told : goal.returns-clause-told
returns-clause-told g c =
    file_read _ _ _ _ c.args.image.now _ _ c.format_file-status.result _ c.args.file.now _ c.in-Ok.typed.file c.in-Ok.ensures.found
    c.format_file-status.ensures.told

pub returns-in-Err-clause-told : goal.returns-in-Err-clause-told
returns-in-Err-clause-told g c =
    file_stopped _ _ _ _ c.args.image.now _ _ c.end.result _ c.args.file.now _ refl c.in-Err.stop c.in-Err.ensures.none c.end.ensures.told

pub returns-clause-leaves : goal.returns-clause-leaves
returns-clause-leaves g c = inr (c.in-Ok.typed.file, c.in-Ok.ensures.found, c.format_file-status.ensures.leaves)

pub returns-in-Err-clause-leaves : goal.returns-in-Err-clause-leaves
returns-in-Err-clause-leaves g c = inl refl
