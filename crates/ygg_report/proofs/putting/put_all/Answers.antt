use Rattle.std.proofs.Common.{inl, refl}
use Rattle.ygg_report.proofs.putting.put_all.Goals as goal

pub returns-in-Ok-clause-told : goal.returns-in-Ok-clause-told
returns-in-Ok-clause-told g c = inl (refl, c.in-Ok.ensures.told)
