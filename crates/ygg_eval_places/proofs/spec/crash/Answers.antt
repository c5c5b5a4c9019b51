use Rattle.ygg_eval.proofs.OnSpec.{crash_runs}
use Rattle.ygg_eval_places.proofs.OnSpec.{crashed, is_crash}
use Rattle.ygg_eval_places.proofs.spec.crash.Goals as goal

pub run_choices-requires-clause-body : goal.run_choices-requires-clause-body
run_choices-requires-clause-body c =
    crash_runs c.args.typed.now.file c.args.layer c.new-none.result c.args.low.now c.new-none.ensures c.requires.there c.requires.fits

pub returns : goal.returns
returns c = λ l here.
    let file = c.args.typed.now.file in
    crashed file c.args.layer l _ c.new-none.result c.args.low.now c.run_choices.new.values c.in_ok-run_choices.field-0 c.args.picks.now
    c.run_choices.new.picks (c.in_ok-run_choices.ensures.chose l l.crash (is_crash file c.args.layer l here))
