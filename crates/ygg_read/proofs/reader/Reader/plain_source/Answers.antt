use Rattle.std.proofs.Common.{◌∙◌}
use Rattle.ygg_read.proofs.ExpressionSources.{plain_value}
use Rattle.ygg_read.proofs.reader.Reader.plain_source.Goals as goal

pub returns-in_default-clause-refused : goal.returns-in_default-clause-refused
returns-in_default-clause-refused c =
    let stopped = rw c.in_default.is at c.in_ok-e.ensures.refused in
    λ qs. plain_value c.args.self.now qs ∙ stopped qs

pub returns-clause-goes : goal.returns-clause-goes
returns-clause-goes c =
    let gone = rw c.in-Some.is at c.in_ok-e.ensures.goes in
    λ qs. plain_value c.args.self.now qs ∙ gone qs
