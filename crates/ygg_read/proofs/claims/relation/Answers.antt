use Rattle.std.proofs.Common.{◌∷◌, ◌∙◌, ap}
use Rattle.ygg_base.specs.declared.token.Keyword.TheVariants as word
use Rattle.ygg_syntax.specs.Reading.{in_turn}
use Rattle.ygg_syntax.specs.Files.{claim}
use Rattle.ygg_read.proofs.Results.{where_read}
use Rattle.ygg_read.proofs.claims.relation.Goals as goal

pub returns-clause-reads : goal.returns-clause-reads
returns-clause-reads c =
    where_read c.rest_of_claim.result _ _ (λ e read. λ qs. ap (in_turn (claim word.Relate e ∷ qs)) c.in-Some.ensures.taken
    ∙ read word.Relate c.in-Some.field-0 qs) c.rest_of_claim.ensures.reads
