use Rattle.std.proofs.Common.{List, subst}
use Rattle.ygg_cnf.specs.declared.lit.Lit.{Lit}
use Rattle.ygg_watch.specs.Watching.{IsJudged}
use Rattle.ygg_watch.proofs.visit.judge.Goals as goal

pub returns : goal.returns
returns c =
    subst (λ (l : List Lit). IsJudged l c.args.other c.args.trail.now.entries.items c.judge_read.result) c.as_slice.ensures c.judge_read.ensures
