use Rattle.std.proofs.Common.{◌∷◌, ◌∙◌, arith}
use Rattle.ygg_base.specs.declared.token.Symbol.TheVariants as sign
use Rattle.ygg_syntax.specs.Expressions.{symbol}
use Rattle.ygg_syntax.specs.Pending.{sign_of}
use Rattle.ygg_read.proofs.Answered.{if_none}
use Rattle.ygg_read.proofs.Results.{where_same, where_some}
use Rattle.ygg_read.proofs.parts.value.Goals as goal

pub returns-clause-reads : goal.returns-clause-reads
returns-clause-reads c =
    let first = rw c.in-Ok-Some.field-0-is at c.in-Ok-Some.ensures.reads in
    where_same c.in-Ok-Some.part c.symbol_after.result _ _ c.symbol_after.ensures.same c.symbol_after.ensures.reads
    (λ read qs. first (symbol sign.Semicolon ∷ qs) ∙ read qs)

pub returns-clause-goes : goal.returns-clause-goes
returns-clause-goes c =
    let first = rw c.in-Ok-Some.field-0-is at c.in-Ok-Some.ensures.goes in
    where_some c.symbol_after.result _ _ (λ gone qs. first (sign_of sign.Semicolon ∷ qs) ∙ gone qs) c.symbol_after.ensures.goes

pub returns-clause-refused : goal.returns-clause-refused
returns-clause-refused c =
    let first = rw c.in-Ok-Some.field-0-is at c.in-Ok-Some.ensures.goes in
    if_none c.symbol_after.result _ _ (λ stopped qs. first (sign_of sign.Semicolon ∷ qs) ∙ stopped qs) c.symbol_after.ensures.refused

pub returns-clause-shorter : goal.returns-clause-shorter
returns-clause-shorter c =
    let before = rw c.in-Ok-Some.field-0-is at c.in-Ok-Some.ensures.shorter in
    where_some c.symbol_after.result _ _ (λ shorter. omega (arith, before, shorter)) c.symbol_after.ensures.shorter
