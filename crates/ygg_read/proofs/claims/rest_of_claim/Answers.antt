use Rattle.std.proofs.Common.{[], ◌∷◌, ◌∙◌}
use Rattle.ygg_base.specs.declared.token.Symbol.TheVariants as sign
use Rattle.ygg_base.specs.declared.token.Mark.TheVariants as mark
use Rattle.ygg_syntax.specs.Expressions.{symbol, expr}
use Rattle.ygg_read.proofs.Results.{where_read}
use Rattle.ygg_read.proofs.Files.{opened}
use Rattle.ygg_read.proofs.claims.rest_of_claim.Goals as goal

pub returns-clause-reads : goal.returns-clause-reads
returns-clause-reads c =
    where_read c.expression_before.result _ _ (λ e read. λ k at qs. opened (mark.Keyword k) (expr e ∷ symbol sign.Semicolon ∷ []) at c.args.reader.now qs
    ∙ read qs) c.expression_before.ensures.reads
