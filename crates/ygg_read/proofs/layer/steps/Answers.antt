use Rattle.std.proofs.Common.{◌∷◌, ◌∙◌, map, arith}
use Rattle.ygg_base.specs.declared.token.Keyword.TheVariants as word
use Rattle.ygg_syntax.specs.declared.grammar.BlockKind.TheVariants.{Impl}
use Rattle.ygg_syntax.specs.Reading.{in_turn}
use Rattle.ygg_syntax.specs.Blocks.{optional}
use Rattle.ygg_syntax.specs.Files.{tick, crash_block}
use Rattle.ygg_syntax.specs.Pending.{perhaps, repeated}
use Rattle.ygg_syntax.specs.Pending as pending
use Rattle.ygg_read.proofs.layer.steps.Goals as goal

pub returns-in-Ok-None-after_operations-clause-refused : goal.returns-in-Ok-None-after_operations-clause-refused
returns-in-Ok-None-after_operations-clause-refused c =
    let gone = rw c.in-Ok-Some.field-0-is at c.in-Ok-Some.ensures.goes in
    let stopped = rw c.in-Ok-None-after_operations.field-0-is at c.in-Ok-None-after_operations.ensures.refused in
    λ qs. gone (perhaps pending.crash_block ∷ repeated pending.tick ∷ perhaps pending.recover_block ∷ qs)
    ∙ stopped qs

pub returns-clause-reads : goal.returns-clause-reads
returns-clause-reads c =
    let first = rw c.in-Ok-Some.field-0-is at c.in-Ok-Some.ensures.reads in
    let second = rw c.in-Ok-Some-after_operations.field-0-is at c.in-Ok-Some-after_operations.ensures.reads in
    let after = c.in-Ok-Some-after_operations.part in
    λ qs. first (crash_block after.0.0 after.0.1 ∷ in_turn (map tick after.1.0) ∷ optional word.Recover Impl after.1.1 ∷ qs)
    ∙ second qs

pub returns-clause-goes : goal.returns-clause-goes
returns-clause-goes c =
    let gone = rw c.in-Ok-Some.field-0-is at c.in-Ok-Some.ensures.goes in
    let rest = rw c.in-Ok-Some-after_operations.field-0-is at c.in-Ok-Some-after_operations.ensures.goes in
    λ qs. gone (perhaps pending.crash_block ∷ repeated pending.tick ∷ perhaps pending.recover_block ∷ qs)
    ∙ rest qs

pub returns-in-Ok-None-clause-refused : goal.returns-in-Ok-None-clause-refused
returns-in-Ok-None-clause-refused c =
    let stopped = rw c.in-Ok-None.field-0-is at c.in-Ok-None.ensures.refused in
    λ qs. stopped (perhaps pending.crash_block ∷ repeated pending.tick ∷ perhaps pending.recover_block ∷ qs)

pub returns-clause-shorter : goal.returns-clause-shorter
returns-clause-shorter c =
    let first = rw c.in-Ok-Some.field-0-is at c.in-Ok-Some.ensures.shorter in
    let second = rw c.in-Ok-Some-after_operations.field-0-is at c.in-Ok-Some-after_operations.ensures.shorter in
    omega (arith, first, second)
