use Rattle.std.proofs.Common.{[], ◌∷◌, ◌∙◌, sym, ap}
use Rattle.ygg_base.specs.declared.token.Symbol.TheVariants as sign
use Rattle.ygg_syntax.specs.Reading.{in_turn}
use Rattle.ygg_syntax.specs.Expressions.{symbol}
use Rattle.ygg_syntax.specs.Files.{any_declared}
use Rattle.ygg_syntax.specs.Pending.{name, some_type, rest_of_declared, repeated, next_declared, sign_of, outcome}
use Rattle.ygg_read.proofs.Declared.{begins_none}
use Rattle.ygg_read.proofs.ExpressionPhrases.{joined}
use Rattle.ygg_read.proofs.Results.{where_gone, where_refused}
use Rattle.ygg_read.proofs.Shapes.{some_declared}
use Rattle.ygg_read.proofs.types.parameters.Goals as goal

pub returns-in-Some-clause-reads : goal.returns-in-Some-clause-reads
returns-in-Some-clause-reads c =
    λ qs. ap (λ ds. in_turn (any_declared c.args.sort ds ∷ symbol sign.RoundClose ∷ qs) c.args.reader.now) c.new.ensures
    ∙ joined [] (symbol sign.RoundClose ∷ qs) c.args.reader.now ∙ c.in-Some.ensures.reads qs

pub returns-in-Some-clause-goes : goal.returns-in-Some-clause-goes
returns-in-Some-clause-goes c =
    λ qs. ap (outcome (rest_of_declared c.args.sort ∷ qs)) c.in-Some.ensures.taken
    ∙ begins_none c.args.sort c.in-Some.field-0 c.symbol.new.self qs

pub returns-clause-goes : goal.returns-clause-goes
returns-clause-goes c =
    where_gone c.list.result _ _ (λ gone qs. some_declared c.args.sort c.args.reader.now c.in_default.ensures.other qs
    ∙ ap (outcome (name ∷ sign_of sign.Colon ∷ some_type c.args.sort ∷ repeated (next_declared c.args.sort) ∷ sign_of sign.RoundClose ∷ qs))
    (sym c.in_default.ensures.left) ∙ gone qs) c.list.ensures.goes

pub returns-clause-refused : goal.returns-clause-refused
returns-clause-refused c =
    where_refused c.list.result _ _ (λ stopped qs. some_declared c.args.sort c.args.reader.now c.in_default.ensures.other qs
    ∙ ap (outcome (name ∷ sign_of sign.Colon ∷ some_type c.args.sort ∷ repeated (next_declared c.args.sort) ∷ sign_of sign.RoundClose ∷ qs))
    (sym c.in_default.ensures.left) ∙ stopped qs) c.list.ensures.refused
