use Rattle.std.proofs.Common.{◌∷◌, ◌∙◌, sym}
use Rattle.ygg_base.specs.declared.token.Symbol.TheVariants as sign
use Rattle.ygg_syntax.specs.Expressions.{symbol}
use Rattle.ygg_syntax.specs.Blocks.{source_in, indices_of}
use Rattle.ygg_read.proofs.ExpressionPhrases.{joined}
use Rattle.ygg_read.proofs.Phrases.{reads_assign}
use Rattle.ygg_read.proofs.parts.assignment.Goals as goal

pub returns-clause-reads : goal.returns-clause-reads
returns-clause-reads c =
    let first = rw c.in-Ok-Some.field-0-is at c.in-Ok-Some.ensures.reads in
    let read = c.in-Ok-Some.part in
    λ qs. reads_assign c.args.name read.0 read.1 c.args.kind c.args.reader.now qs
    ∙ sym (joined (indices_of read.0) (symbol sign.Assign ∷ source_in c.args.kind read.1 ∷ symbol sign.Semicolon ∷ qs) c.args.reader.now)
    ∙ first qs
