use Rattle.std.proofs.Common.{◌∷◌, ◌∙◌, ap, length, arith}
use Rattle.ygg_base.specs.declared.token.Symbol.TheVariants as sign
use Rattle.ygg_syntax.specs.Expressions.{expr, symbol}
use Rattle.ygg_syntax.specs.Pending.{expression, sign_of}
use Rattle.ygg_read.proofs.Answered.{if_none}
use Rattle.ygg_read.proofs.Results.{where_same, where_some}
use Rattle.ygg_read.proofs.parts.answer.Goals as goal

pub returns-clause-reads : goal.returns-clause-reads
returns-clause-reads c =
    let first = rw c.in-Ok-Some.field-0-is at c.in-Ok-Some.ensures.reads in
    where_same c.in-Ok-Some.part c.symbol_after.result _ _ c.symbol_after.ensures.same c.symbol_after.ensures.reads
    (λ read qs. c.in-Some.ensures.reads (expr c.in-Ok-Some.part ∷ symbol sign.Semicolon ∷ symbol sign.BraceClose ∷ qs)
    ∙ first (symbol sign.BraceClose ∷ qs) ∙ read qs)

pub returns-clause-goes : goal.returns-clause-goes
returns-clause-goes c =
    let first = rw c.in-Ok-Some.field-0-is at c.in-Ok-Some.ensures.goes in
    where_some c.symbol_after.result _ _ (λ gone qs. c.in-Some.ensures.goes (expression ∷ sign_of sign.Semicolon ∷ sign_of sign.BraceClose ∷ qs)
    ∙ first (sign_of sign.BraceClose ∷ qs) ∙ gone qs) c.symbol_after.ensures.goes

pub returns-clause-refused : goal.returns-clause-refused
returns-clause-refused c =
    let first = rw c.in-Ok-Some.field-0-is at c.in-Ok-Some.ensures.goes in
    if_none c.symbol_after.result _ _ (λ stopped qs. c.in-Some.ensures.goes (expression ∷ sign_of sign.Semicolon ∷ sign_of sign.BraceClose ∷ qs)
    ∙ first (sign_of sign.BraceClose ∷ qs) ∙ stopped qs) c.symbol_after.ensures.refused

pub returns-clause-shorter : goal.returns-clause-shorter
returns-clause-shorter c =
    let before = rw c.in-Ok-Some.field-0-is at c.in-Ok-Some.ensures.shorter in
    where_some c.symbol_after.result _ _ (λ shorter. omega (arith, before, ap length c.in-Some.ensures.taken, shorter)) c.symbol_after.ensures.shorter
