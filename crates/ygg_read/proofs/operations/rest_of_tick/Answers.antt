use Rattle.std.proofs.Common.{[], ◌∷◌, length, ap, ◌∙◌, arith}
use Rattle.ygg_base.specs.declared.token.Keyword.TheVariants as word
use Rattle.ygg_base.specs.declared.token.Mark.TheVariants as mark
use Rattle.ygg_syntax.specs.declared.grammar.BlockKind.TheVariants.{Impl}
use Rattle.ygg_syntax.specs.Expressions.{named}
use Rattle.ygg_syntax.specs.Blocks.{block}
use Rattle.ygg_syntax.specs.Pending as pending
use Rattle.ygg_read.proofs.Files.{opened}
use Rattle.ygg_read.proofs.operations.rest_of_tick.Goals as goal

pub returns-clause-reads : goal.returns-clause-reads
returns-clause-reads c =
    let first = rw c.in-Ok-Some.field-0-is at c.in-Ok-Some.ensures.reads in
    let second = rw c.in-Ok-Some-block.field-0-is at c.in-Ok-Some-block.ensures.reads in
    let name = c.in-Ok-Some.part in
    let body = c.in-Ok-Some-block.part in
    λ at qs. opened (mark.Keyword word.Tick) (named name ∷ block Impl body ∷ []) at c.args.reader.now qs
    ∙ first (block Impl body ∷ qs) ∙ second qs

pub returns-in-Ok-None-block-clause-refused : goal.returns-in-Ok-None-block-clause-refused
returns-in-Ok-None-block-clause-refused c =
    let gone = rw c.in-Ok-Some.field-0-is at c.in-Ok-Some.ensures.goes in
    let stopped = rw c.in-Ok-None-block.field-0-is at c.in-Ok-None-block.ensures.refused in
    λ qs. gone (pending.block Impl ∷ qs) ∙ stopped qs

pub returns-clause-goes : goal.returns-clause-goes
returns-clause-goes c =
    let gone = rw c.in-Ok-Some.field-0-is at c.in-Ok-Some.ensures.goes in
    let rest = rw c.in-Ok-Some-block.field-0-is at c.in-Ok-Some-block.ensures.goes in
    λ qs. gone (pending.block Impl ∷ qs) ∙ rest qs

pub returns-in-Ok-None-clause-refused : goal.returns-in-Ok-None-clause-refused
returns-in-Ok-None-clause-refused c =
    let stopped = rw c.in-Ok-None.field-0-is at c.in-Ok-None.ensures.refused in
    λ qs. stopped (pending.block Impl ∷ qs)

pub returns-clause-shorter : goal.returns-clause-shorter
returns-clause-shorter c =
    let first = ap length (rw c.in-Ok-Some.field-0-is at c.in-Ok-Some.ensures.taken) in
    let second = rw c.in-Ok-Some-block.field-0-is at c.in-Ok-Some-block.ensures.shorter in
    omega (arith, first, second)
