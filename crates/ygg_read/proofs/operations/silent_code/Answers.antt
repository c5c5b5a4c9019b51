use Rattle.std.proofs.Common.{◌∷◌, ◌∙◌, arith}
use Rattle.ygg_syntax.specs.declared.grammar.BlockKind.TheVariants.{Impl}
use Rattle.ygg_syntax.specs.Blocks.{block}
use Rattle.ygg_syntax.specs.Pending as pending
use Rattle.ygg_read.proofs.operations.silent_code.Goals as goal

pub returns-in-Ok-None-block-clause-refused : goal.returns-in-Ok-None-block-clause-refused
returns-in-Ok-None-block-clause-refused c =
    let gone = rw c.in-Ok-Some.field-0-is at c.in-Ok-Some.ensures.goes in
    let stopped = rw c.in-Ok-None-block.field-0-is at c.in-Ok-None-block.ensures.refused in
    λ qs. gone (pending.block Impl ∷ qs) ∙ stopped qs

pub returns-clause-reads : goal.returns-clause-reads
returns-clause-reads c =
    let first = rw c.in-Ok-Some.field-0-is at c.in-Ok-Some.ensures.reads in
    let second = rw c.in-Ok-Some-block.field-0-is at c.in-Ok-Some-block.ensures.reads in
    λ qs. first (block Impl c.in-Ok-Some-block.part ∷ qs) ∙ second qs

pub returns-clause-goes : goal.returns-clause-goes
returns-clause-goes c =
    let gone = rw c.in-Ok-Some.field-0-is at c.in-Ok-Some.ensures.goes in
    let rest = rw c.in-Ok-Some-block.field-0-is at c.in-Ok-Some-block.ensures.goes in
    λ qs. gone (pending.block Impl ∷ qs) ∙ rest qs

pub returns-in-Ok-None-clause-refused : goal.returns-in-Ok-None-clause-refused
returns-in-Ok-None-clause-refused c =
    let stopped = rw c.in-Ok-None.field-0-is at c.in-Ok-None.ensures.refused in
    λ qs. stopped (pending.block Impl ∷ qs)

pub returns-clause-shorter : goal.returns-clause-shorter
returns-clause-shorter c =
    let first = rw c.in-Ok-Some.field-0-is at c.in-Ok-Some.ensures.shorter in
    let second = rw c.in-Ok-Some-block.field-0-is at c.in-Ok-Some-block.ensures.shorter in
    omega (arith, first, second)
