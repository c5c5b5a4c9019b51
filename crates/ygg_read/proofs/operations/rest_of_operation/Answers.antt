use Rattle.std.proofs.Common.{[], ◌∷◌, ◌∙◌, arith}
use Rattle.ygg_base.specs.declared.token.Keyword.TheVariants as word
use Rattle.ygg_base.specs.declared.token.Symbol.TheVariants as sign
use Rattle.ygg_base.specs.declared.token.Mark.TheVariants as mark
use Rattle.ygg_syntax.specs.declared.grammar.Sort.TheVariants as sorts
use Rattle.ygg_syntax.specs.Expressions.{symbol, named}
use Rattle.ygg_syntax.specs.Files.{any_declared, operation_blocks}
use Rattle.ygg_syntax.specs.Pending.{rest_of_operation}
use Rattle.ygg_read.specs.Parts.{operation_of}
use Rattle.ygg_read.proofs.Files.{opened}
use Rattle.ygg_read.proofs.operations.rest_of_operation.Goals as goal

pub returns-clause-reads : goal.returns-clause-reads
returns-clause-reads c =
    let first = rw c.in-Ok-Some.field-0-is at c.in-Ok-Some.ensures.reads in
    let second = rw c.in-Ok-Some-blocks.field-0-is at c.in-Ok-Some-blocks.ensures.reads in
    let head = c.in-Ok-Some.part in
    let read = c.in-Ok-Some-blocks.part in
    let blocks = operation_blocks (operation_of head.0 head.1 read) read.answer in
    λ at qs. opened (mark.Keyword word.Op) (named head.0 ∷ symbol sign.RoundOpen ∷ any_declared sorts.Small head.1 ∷ symbol sign.RoundClose ∷ blocks ∷
    []) at c.args.reader.now qs
    ∙ first (blocks ∷ qs) ∙ second head.0 head.1 qs

pub returns-in-Ok-None-blocks-clause-refused : goal.returns-in-Ok-None-blocks-clause-refused
returns-in-Ok-None-blocks-clause-refused c =
    let gone = rw c.in-Ok-Some.field-0-is at c.in-Ok-Some.ensures.goes in
    let stopped = rw c.in-Ok-None-blocks.field-0-is at c.in-Ok-None-blocks.ensures.refused in
    λ qs. gone (rest_of_operation ∷ qs) ∙ stopped qs

pub returns-clause-goes : goal.returns-clause-goes
returns-clause-goes c =
    let gone = rw c.in-Ok-Some.field-0-is at c.in-Ok-Some.ensures.goes in
    let rest = rw c.in-Ok-Some-blocks.field-0-is at c.in-Ok-Some-blocks.ensures.goes in
    λ qs. gone (rest_of_operation ∷ qs) ∙ rest qs

pub returns-in-Ok-None-clause-refused : goal.returns-in-Ok-None-clause-refused
returns-in-Ok-None-clause-refused c =
    let stopped = rw c.in-Ok-None.field-0-is at c.in-Ok-None.ensures.refused in
    λ qs. stopped (rest_of_operation ∷ qs)

pub returns-clause-shorter : goal.returns-clause-shorter
returns-clause-shorter c =
    let first = rw c.in-Ok-Some.field-0-is at c.in-Ok-Some.ensures.shorter in
    let second = rw c.in-Ok-Some-blocks.field-0-is at c.in-Ok-Some-blocks.ensures.shorter in
    omega (arith, first, second)
