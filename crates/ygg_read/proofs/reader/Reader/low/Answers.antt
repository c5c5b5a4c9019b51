use Rattle.std.proofs.Common.{◌∷◌, ◌∙◌}
use Rattle.ygg_syntax.specs.Expressions.{named}
use Rattle.ygg_syntax.specs.Pending.{name, indices}
use Rattle.ygg_read.proofs.ExpressionBegins.{begins_low}
use Rattle.ygg_read.proofs.ExpressionPhrases.{reads_low}
use Rattle.ygg_read.proofs.reader.Reader.low.Goals as goal

pub returns-in_default-clause-refused : goal.returns-in_default-clause-refused
returns-in_default-clause-refused c =
    λ qs. begins_low c.args.first c.args.self.now qs ∙ c.in_default.ensures.refused (name ∷ indices ∷ qs)

pub returns-in_default-2-clause-refused : goal.returns-in_default-2-clause-refused
returns-in_default-2-clause-refused c =
    let stopped = rw c.in_default-2.is at c.in_ok-name.ensures.refused in
    λ qs. begins_low c.args.first c.args.self.now qs ∙ c.in-Some.ensures.goes (name ∷ indices ∷ qs) ∙ stopped (indices ∷ qs)

pub returns-clause-reads : goal.returns-clause-reads
returns-clause-reads c =
    let name_reads = rw c.in-Some-2.is at c.in_ok-name.ensures.reads in
    λ qs. reads_low c.args.first c.in-Some-2.name c.args.self.now qs ∙ c.in-Some.ensures.reads (named c.in-Some-2.name ∷ qs) ∙ name_reads qs

pub returns-clause-goes : goal.returns-clause-goes
returns-clause-goes c =
    let name_goes = rw c.in-Some-2.is at c.in_ok-name.ensures.goes in
    λ qs. begins_low c.args.first c.args.self.now qs ∙ c.in-Some.ensures.goes (name ∷ indices ∷ qs) ∙ name_goes (indices ∷ qs)
