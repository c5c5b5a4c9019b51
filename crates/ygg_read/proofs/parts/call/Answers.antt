use Rattle.std.proofs.Common.{◌∷◌, ◌∙◌}
use Rattle.ygg_base.specs.declared.token.Symbol.TheVariants as sign
use Rattle.ygg_syntax.specs.Expressions.{symbol}
use Rattle.ygg_read.proofs.Phrases.{reads_call}
use Rattle.ygg_read.proofs.parts.call.Goals as goal

pub returns-clause-reads : goal.returns-clause-reads
returns-clause-reads c =
    let first = rw c.in-Ok-Some.field-0-is at c.in-Ok-Some.ensures.reads in
    let read = rw c.in-Some.ensures.same at first in
    λ at qs. reads_call c.in-Some.name c.in-Some.arguments at c.args.reader.now qs ∙ read (symbol sign.Semicolon ∷ qs) ∙ c.in-Some.ensures.reads qs
