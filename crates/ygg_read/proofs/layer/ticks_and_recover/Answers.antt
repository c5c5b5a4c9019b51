use Rattle.std.proofs.Common.{◌∷◌, ◌∙◌, refl, arith}
use Rattle.ygg_base.specs.declared.token.Keyword.TheVariants as word
use Rattle.ygg_syntax.specs.declared.grammar.BlockKind.TheVariants.{Impl}
use Rattle.ygg_syntax.specs.Blocks.{optional}
use Rattle.ygg_syntax.specs.Pending.{perhaps, recover_block}
use Rattle.ygg_read.proofs.layer.ticks_and_recover.Goals as goal

pub returns-in-Ok-None-optional-clause-refused : goal.returns-in-Ok-None-optional-clause-refused
returns-in-Ok-None-optional-clause-refused c =
    let gone = rw c.in-Ok-Some.field-0-is at c.in-Ok-Some.ensures.goes in
    let stopped = rw c.in-Ok-None-optional.field-0-is at c.in-Ok-None-optional.ensures.refused in
    λ qs. gone (perhaps recover_block ∷ qs) ∙ stopped recover_block refl refl qs

pub returns-clause-reads : goal.returns-clause-reads
returns-clause-reads c =
    let first = rw c.in-Ok-Some.field-0-is at c.in-Ok-Some.ensures.reads in
    let second = rw c.in-Ok-Some-optional.field-0-is at c.in-Ok-Some-optional.ensures.reads in
    λ qs. first (optional word.Recover Impl c.in-Ok-Some-optional.part ∷ qs) ∙ second qs

pub returns-clause-goes : goal.returns-clause-goes
returns-clause-goes c =
    let gone = rw c.in-Ok-Some.field-0-is at c.in-Ok-Some.ensures.goes in
    let rest = rw c.in-Ok-Some-optional.field-0-is at c.in-Ok-Some-optional.ensures.goes in
    λ qs. gone (perhaps recover_block ∷ qs) ∙ rest recover_block refl refl qs

pub returns-in-Ok-None-clause-refused : goal.returns-in-Ok-None-clause-refused
returns-in-Ok-None-clause-refused c =
    let stopped = rw c.in-Ok-None.field-0-is at c.in-Ok-None.ensures.refused in
    λ qs. stopped (perhaps recover_block ∷ qs)

pub returns-clause-shorter : goal.returns-clause-shorter
returns-clause-shorter c =
    let first = rw c.in-Ok-Some.field-0-is at c.in-Ok-Some.ensures.shorter in
    let second = rw c.in-Ok-Some-optional.field-0-is at c.in-Ok-Some-optional.ensures.shorter in
    omega (arith, first, second)
