use Rattle.ygg_sched.proofs.Fitted.{is_fitting}
use Rattle.ygg_sched.proofs.reading.read_schedule.Goals as goal

pub returns-clause-fits : goal.returns-clause-fits
returns-clause-fits c = is_fitting c.args.typed.now.file c.args.text.now c.schedule_in.result c.schedule_in.ensures
