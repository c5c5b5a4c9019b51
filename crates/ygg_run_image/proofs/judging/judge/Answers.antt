use Rattle.ygg_run_image.specs.Judged.{IsJudged}
use Rattle.ygg_run_image.proofs.JudgedBlocks.{handed, header_refused}
use Rattle.ygg_run_image.proofs.judging.judge.Goals as goal

pub returns-in_err-judge_first-clause-judged : goal.returns-in_err-judge_first-clause-judged
returns-in_err-judge_first-clause-judged g c = λ image shown.
    let e = c.in_err-judge_first.field-0.0 in
    handed (IsJudged c.args.geometry image.view) e c.from_residual.result c.from_residual.ensures.1
    (header_refused c.args.geometry image.view e (c.in_err-judge_first.ensures.judged image shown))
