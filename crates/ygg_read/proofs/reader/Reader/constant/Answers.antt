use Rattle.std.proofs.Common.{◌∷◌, ◌∙◌}
use Rattle.ygg_syntax.specs.Expressions.{numbered}
use Rattle.ygg_syntax.specs.Pending.{number, indices}
use Rattle.ygg_read.proofs.ExpressionBegins.{begins_constant}
use Rattle.ygg_read.proofs.ExpressionPhrases.{reads_constant}
use Rattle.ygg_read.proofs.reader.Reader.constant.Goals as goal

pub returns-in_default-clause-refused : goal.returns-in_default-clause-refused
returns-in_default-clause-refused c =
    λ qs. begins_constant c.args.value.value c.args.value.place c.args.self.now qs ∙ c.in_default.ensures.refused (number ∷ indices ∷ qs)

pub returns-in_default-number-clause-refused : goal.returns-in_default-number-clause-refused
returns-in_default-number-clause-refused c =
    λ qs. begins_constant c.args.value.value c.args.value.place c.args.self.now qs ∙ c.in-Some.ensures.goes (number ∷ indices ∷ qs)
    ∙ c.in_default-number.ensures.refused (indices ∷ qs)

pub returns-clause-reads : goal.returns-clause-reads
returns-clause-reads c =
    λ qs. reads_constant c.args.value c.in-Some-number.width c.args.self.now qs
    ∙ c.in-Some.ensures.reads (numbered c.in-Some-number.width ∷ qs) ∙ c.in-Some-number.ensures.reads qs

pub returns-clause-goes : goal.returns-clause-goes
returns-clause-goes c =
    λ qs. begins_constant c.args.value.value c.args.value.place c.args.self.now qs ∙ c.in-Some.ensures.goes (number ∷ indices ∷ qs)
    ∙ c.in-Some-number.ensures.goes (indices ∷ qs)
