use Rattle.std.proofs.Common.{[], ◌∷◌, ◌∙◌}
use Rattle.ygg_base.specs.declared.token.Symbol.TheVariants as sign
use Rattle.ygg_syntax.specs.Expressions.{named, symbol}
use Rattle.ygg_syntax.specs.Files.{type_in}
use Rattle.ygg_read.proofs.ExpressionPhrases.{joined}
use Rattle.ygg_read.proofs.types.declared.Goals as goal

pub returns-clause-reads : goal.returns-clause-reads
returns-clause-reads c =
    let x = c.in-Some.name in
    let shape = c.in-Some-type_text.shape in
    let name = rw c.in-Some.is at c.in_ok-name.ensures.reads in
    λ qs. joined (named x ∷ symbol sign.Colon ∷ type_in c.args.sort shape ∷ []) qs c.args.reader.now
    ∙ name (type_in c.args.sort shape ∷ qs) ∙ c.in-Some-type_text.ensures.reads qs
