use Rattle.ygg_sched.proofs.TextsAgain as texts
use Rattle.ygg_sched.proofs.law.printed_is_read.Goals as goal

pub returns : goal.returns
returns c = texts.printed_is_read
