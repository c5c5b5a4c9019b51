use Rattle.ygg_eval.proofs.Runs.{finished_ran, runnable_fits}
use Rattle.ygg_eval.proofs.spec.run.Goals as goal

pub returns : goal.returns
returns c = λ l b is.
    let ends = rw c.in-Whole.is at (c.in_ok-answer.ensures.ends l b is) in
    finished_ran _ c.args.typed.now.file c.args.body l b c.args.args.now c.args.state.now c.run_body.new.state c.in-Whole.answer _ _ c.requires.kind
    (runnable_fits c.args.typed.now.file c.args.body c.args.args.now c.args.state.now l b c.requires.body is) ends.1
