use Rattle.ygg_meaning_laws.proofs.Sizes.{disk_answers_all}
use Rattle.ygg_meaning_laws.proofs.progress_law.disks_answer.Goals as goal

pub returns : goal.returns
returns c = disk_answers_all
