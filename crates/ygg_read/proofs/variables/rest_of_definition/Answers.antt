use Rattle.std.proofs.Common.{[], ◌∷◌, ◌∙◌}
use Rattle.ygg_base.specs.declared.token.Keyword.TheVariants as word
use Rattle.ygg_base.specs.declared.token.Symbol.TheVariants as sign
use Rattle.ygg_base.specs.declared.token.Mark.TheVariants as mark
use Rattle.ygg_syntax.specs.declared.grammar.Sort.TheVariants as sorts
use Rattle.ygg_syntax.specs.Expressions.{symbol, named, expr}
use Rattle.ygg_syntax.specs.Files.{type_in, any_declared}
use Rattle.ygg_syntax.specs.Pending.{expression, some_type, sign_of}
use Rattle.ygg_read.proofs.Files.{opened}
use Rattle.ygg_read.proofs.variables.rest_of_definition.Goals as goal

pub returns-clause-reads : goal.returns-clause-reads
returns-clause-reads c =
    let head = c.in-Some-2.head in
    let rest = c.in-Some-2.rest in
    let parts = rw c.in-Some-2.is at c.in_ok-head-2.ensures.read in
    let first = rw c.in-Some.is at c.in_ok-head.ensures.reads in
    let list = rw parts.0 at first in
    let body = rw parts.1 at c.typed_expression.ensures.reads in
    λ at qs. opened (mark.Keyword word.Def) (named head.0 ∷ symbol sign.RoundOpen ∷ any_declared sorts.All head.1 ∷ symbol sign.RoundClose
    ∷ symbol sign.Arrow ∷ type_in sorts.All rest.0 ∷ symbol sign.Assign ∷ expr rest.1 ∷ symbol sign.Semicolon ∷ []) at c.args.reader.now qs
    ∙ list (symbol sign.Arrow ∷ type_in sorts.All rest.0 ∷ symbol sign.Assign ∷ expr rest.1 ∷ symbol sign.Semicolon ∷ qs) ∙ body qs

pub returns-in_default-2-clause-refused : goal.returns-in_default-2-clause-refused
returns-in_default-2-clause-refused c =
    let gone = rw c.in-Some.is at c.in_ok-head.ensures.goes in
    let none = rw c.in_default-2.is at c.in_ok-head-2.ensures.refused in
    let stopped = rw none at c.typed_expression.ensures.refused in
    λ qs. gone (sign_of sign.Arrow ∷ some_type sorts.All ∷ sign_of sign.Assign ∷ expression ∷ sign_of sign.Semicolon ∷ qs) ∙ stopped qs

pub returns-clause-goes : goal.returns-clause-goes
returns-clause-goes c =
    let parts = rw c.in-Some-2.is at c.in_ok-head-2.ensures.read in
    let gone = rw c.in-Some.is at c.in_ok-head.ensures.goes in
    let rest = rw parts.1 at c.typed_expression.ensures.goes in
    λ qs. gone (sign_of sign.Arrow ∷ some_type sorts.All ∷ sign_of sign.Assign ∷ expression ∷ sign_of sign.Semicolon ∷ qs) ∙ rest qs
