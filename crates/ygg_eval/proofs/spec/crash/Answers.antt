use Rattle.ygg_eval.proofs.OnSpec.{crash_runs}
use Rattle.ygg_eval.proofs.spec.crash.Goals as goal

pub run-requires-clause-body : goal.run-requires-clause-body
run-requires-clause-body c = crash_runs c.args.typed.now.file c.args.place c.new.result c.args.state.now c.new.ensures c.requires.there c.requires.fits
