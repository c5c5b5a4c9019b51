use Rattle.std.proofs.Common.{◌∷◌, ◌∙◌, map, arith}
use Rattle.ygg_base.specs.declared.token.Symbol.TheVariants as sign
use Rattle.ygg_syntax.specs.Expressions.{phrase, symbol, any}
use Rattle.ygg_syntax.specs.Pending.{rest_of_arguments}
use Rattle.ygg_read.proofs.ExpressionSources.{reads_called}
use Rattle.ygg_read.proofs.Results.{where_joined, where_joined_gone, where_joined_refused}
use Rattle.ygg_read.proofs.reader.Reader.called.Goals as goal

pub returns-clause-refused : goal.returns-clause-refused
returns-clause-refused c =
    let gone = rw c.in-Some.is at c.in_ok-name.ensures.goes in
    where_joined_refused c.arguments.result c.both.result _ _ c.both.ensures.refused c.arguments.ensures.refused
    (λ stopped qs. gone (rest_of_arguments ∷ qs) ∙ stopped qs)

pub returns-clause-reads : goal.returns-clause-reads
returns-clause-reads c =
    let whole = rw c.in-Some.is at c.in_ok-name.ensures.reads in
    where_joined c.in-Some.name c.arguments.result c.both.result _ c.both.ensures.read (λ read is next.
    let first = rw is at whole in
    let rest = rw next at c.arguments.ensures.reads in
    λ qs. reads_called read.0 read.1 c.args.self.now qs
    ∙ first (any (map phrase read.1) ∷ symbol sign.RoundClose ∷ qs) ∙ rest qs)

pub returns-clause-goes : goal.returns-clause-goes
returns-clause-goes c =
    let gone = rw c.in-Some.is at c.in_ok-name.ensures.goes in
    where_joined_gone c.in-Some.name c.arguments.result c.both.result _ _ c.both.ensures.read c.arguments.ensures.goes
    (λ rest qs. gone (rest_of_arguments ∷ qs) ∙ rest qs)

pub returns-clause-shorter : goal.returns-clause-shorter
returns-clause-shorter c =
    let before = rw c.in-Some.is at c.in_ok-name.ensures.shorter in
    where_joined_gone c.in-Some.name c.arguments.result c.both.result _ _ c.both.ensures.read c.arguments.ensures.shorter
    (λ shorter. omega (arith, before, shorter))
