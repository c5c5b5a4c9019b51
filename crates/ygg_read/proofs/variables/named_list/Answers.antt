use Rattle.std.proofs.Common.{◌∷◌, ◌∙◌, arith}
use Rattle.ygg_base.specs.declared.token.Symbol.TheVariants as sign
use Rattle.ygg_syntax.specs.Expressions.{symbol}
use Rattle.ygg_syntax.specs.Files.{any_declared}
use Rattle.ygg_syntax.specs.Pending.{rest_of_declared}
use Rattle.ygg_read.proofs.Results.{where_joined, where_joined_gone, where_joined_refused}
use Rattle.ygg_read.proofs.variables.named_list.Goals as goal

pub returns-clause-refused : goal.returns-clause-refused
returns-clause-refused c =
    let gone = rw c.in-Some.is at c.in_ok-name.ensures.goes in
    where_joined_refused c.parameters.result c.both.result _ _ c.both.ensures.refused c.parameters.ensures.refused
    (λ stopped qs. gone (rest_of_declared c.args.sort ∷ qs) ∙ stopped qs)

pub returns-clause-reads : goal.returns-clause-reads
returns-clause-reads c =
    let whole = rw c.in-Some.is at c.in_ok-name.ensures.reads in
    where_joined c.in-Some.name c.parameters.result c.both.result _ c.both.ensures.read (λ read is next.
    let first = rw is at whole in
    let rest = rw next at c.parameters.ensures.reads in
    λ qs. first (any_declared c.args.sort read.1 ∷ symbol sign.RoundClose ∷ qs) ∙ rest qs)

pub returns-clause-goes : goal.returns-clause-goes
returns-clause-goes c =
    let gone = rw c.in-Some.is at c.in_ok-name.ensures.goes in
    where_joined_gone c.in-Some.name c.parameters.result c.both.result _ _ c.both.ensures.read c.parameters.ensures.goes
    (λ rest qs. gone (rest_of_declared c.args.sort ∷ qs) ∙ rest qs)

pub returns-clause-shorter : goal.returns-clause-shorter
returns-clause-shorter c =
    let before = rw c.in-Some.is at c.in_ok-name.ensures.shorter in
    where_joined_gone c.in-Some.name c.parameters.result c.both.result _ _ c.both.ensures.read c.parameters.ensures.shorter
    (λ shorter. omega (arith, before, shorter))
