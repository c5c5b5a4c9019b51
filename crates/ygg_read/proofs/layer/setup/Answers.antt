use Rattle.std.proofs.Common.{◌∷◌, ◌∙◌, map, refl, arith}
use Rattle.ygg_base.specs.declared.token.Keyword.TheVariants as word
use Rattle.ygg_syntax.specs.declared.grammar.BlockKind.TheVariants.{Impl}
use Rattle.ygg_syntax.specs.Reading.{in_turn}
use Rattle.ygg_syntax.specs.Blocks.{optional}
use Rattle.ygg_syntax.specs.Files.{variable}
use Rattle.ygg_syntax.specs.Pending.{perhaps, repeated}
use Rattle.ygg_syntax.specs.Pending as pending
use Rattle.ygg_read.proofs.layer.setup.Goals as goal

pub returns-in-Ok-None-clause-refused : goal.returns-in-Ok-None-clause-refused
returns-in-Ok-None-clause-refused c =
    let stopped = rw c.in-Ok-None.field-0-is at c.in-Ok-None.ensures.refused in
    λ qs. stopped pending.state_variable refl refl pending.start_block refl refl
    (repeated pending.memory_variable ∷ perhaps pending.format_block ∷ qs)

pub returns-in-Ok-None-variables_and_block-clause-refused : goal.returns-in-Ok-None-variables_and_block-clause-refused
returns-in-Ok-None-variables_and_block-clause-refused c =
    let gone = rw c.in-Ok-Some.field-0-is at c.in-Ok-Some.ensures.goes in
    let stopped = rw c.in-Ok-None-variables_and_block.field-0-is at c.in-Ok-None-variables_and_block.ensures.refused in
    λ qs. gone pending.state_variable refl refl pending.start_block refl refl
    (repeated pending.memory_variable ∷ perhaps pending.format_block ∷ qs)
    ∙ stopped pending.memory_variable refl refl pending.format_block refl refl qs

pub returns-clause-reads : goal.returns-clause-reads
returns-clause-reads c =
    let first = rw c.in-Ok-Some.field-0-is at c.in-Ok-Some.ensures.reads in
    let second = rw c.in-Ok-Some-variables_and_block.field-0-is at c.in-Ok-Some-variables_and_block.ensures.reads in
    let unseen = c.in-Ok-Some-variables_and_block.part in
    λ qs. first (in_turn (map (variable word.Memory) unseen.0) ∷ optional word.Format Impl unseen.1 ∷ qs)
    ∙ second qs

pub returns-clause-goes : goal.returns-clause-goes
returns-clause-goes c =
    let gone = rw c.in-Ok-Some.field-0-is at c.in-Ok-Some.ensures.goes in
    let rest = rw c.in-Ok-Some-variables_and_block.field-0-is at c.in-Ok-Some-variables_and_block.ensures.goes in
    λ qs. gone pending.state_variable refl refl pending.start_block refl refl
    (repeated pending.memory_variable ∷ perhaps pending.format_block ∷ qs)
    ∙ rest pending.memory_variable refl refl pending.format_block refl refl qs

pub returns-clause-shorter : goal.returns-clause-shorter
returns-clause-shorter c =
    let first = rw c.in-Ok-Some.field-0-is at c.in-Ok-Some.ensures.shorter in
    let second = rw c.in-Ok-Some-variables_and_block.field-0-is at c.in-Ok-Some-variables_and_block.ensures.shorter in
    omega (arith, first, second)
