use Rattle.std.proofs.Common.{◌∷◌, ◌∙◌, map, arith}
use Rattle.ygg_base.specs.declared.token.Keyword.TheVariants as word
use Rattle.ygg_syntax.specs.declared.grammar.BlockKind.TheVariants.{Impl}
use Rattle.ygg_syntax.specs.Reading.{in_turn}
use Rattle.ygg_syntax.specs.Blocks.{optional}
use Rattle.ygg_syntax.specs.Files.{tick}
use Rattle.ygg_syntax.specs.Pending.{perhaps, repeated}
use Rattle.ygg_syntax.specs.Pending as pending
use Rattle.ygg_read.proofs.layer.after_operations.Goals as goal

pub returns-in-Ok-None-ticks_and_recover-clause-refused : goal.returns-in-Ok-None-ticks_and_recover-clause-refused
returns-in-Ok-None-ticks_and_recover-clause-refused c =
    let gone = rw c.in-Ok-Some.field-0-is at c.in-Ok-Some.ensures.goes in
    let stopped = rw c.in-Ok-None-ticks_and_recover.field-0-is at c.in-Ok-None-ticks_and_recover.ensures.refused in
    λ qs. gone (repeated pending.tick ∷ perhaps pending.recover_block ∷ qs) ∙ stopped qs

pub returns-clause-reads : goal.returns-clause-reads
returns-clause-reads c =
    let first = rw c.in-Ok-Some.field-0-is at c.in-Ok-Some.ensures.reads in
    let second = rw c.in-Ok-Some-ticks_and_recover.field-0-is at c.in-Ok-Some-ticks_and_recover.ensures.reads in
    let rest = c.in-Ok-Some-ticks_and_recover.part in
    λ qs. first (in_turn (map tick rest.0) ∷ optional word.Recover Impl rest.1 ∷ qs)
    ∙ second qs

pub returns-clause-goes : goal.returns-clause-goes
returns-clause-goes c =
    let gone = rw c.in-Ok-Some.field-0-is at c.in-Ok-Some.ensures.goes in
    let rest = rw c.in-Ok-Some-ticks_and_recover.field-0-is at c.in-Ok-Some-ticks_and_recover.ensures.goes in
    λ qs. gone (repeated pending.tick ∷ perhaps pending.recover_block ∷ qs) ∙ rest qs

pub returns-in-Ok-None-clause-refused : goal.returns-in-Ok-None-clause-refused
returns-in-Ok-None-clause-refused c =
    let stopped = rw c.in-Ok-None.field-0-is at c.in-Ok-None.ensures.refused in
    λ qs. stopped (repeated pending.tick ∷ perhaps pending.recover_block ∷ qs)

pub returns-clause-shorter : goal.returns-clause-shorter
returns-clause-shorter c =
    let first = rw c.in-Ok-Some.field-0-is at c.in-Ok-Some.ensures.shorter in
    let second = rw c.in-Ok-Some-ticks_and_recover.field-0-is at c.in-Ok-Some-ticks_and_recover.ensures.shorter in
    omega (arith, first, second)
