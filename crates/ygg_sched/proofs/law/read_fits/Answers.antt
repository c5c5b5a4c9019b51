use Rattle.ygg_sched.proofs.Fitted as fitted
use Rattle.ygg_sched.proofs.law.read_fits.Goals as goal

pub returns : goal.returns
returns c = fitted.read_fits
