use Rattle.std.proofs.Common.{[], ◌∷◌, ◌∙◌, arith}
use Rattle.ygg_base.specs.declared.token.Keyword.TheVariants as word
use Rattle.ygg_base.specs.declared.token.Mark.TheVariants as mark
use Rattle.ygg_syntax.specs.declared.grammar.BlockKind.TheVariants.{Spec, Impl}
use Rattle.ygg_syntax.specs.Expressions.{keyword}
use Rattle.ygg_syntax.specs.Blocks.{block}
use Rattle.ygg_syntax.specs.Files.{on_crash}
use Rattle.ygg_syntax.specs.Pending.{perhaps, word_of}
use Rattle.ygg_syntax.specs.Pending as pending
use Rattle.ygg_read.proofs.Files.{opened}
use Rattle.ygg_read.proofs.operations.silent.Goals as goal

pub returns-clause-reads : goal.returns-clause-reads
returns-clause-reads c =
    let first = rw c.in-Ok-Some.field-0-is at c.in-Ok-Some.ensures.reads in
    let second = rw c.in-Ok-Some-silent_code.field-0-is at c.in-Ok-Some-silent_code.ensures.reads in
    let spec = c.in-Ok-Some.part in
    let code = c.in-Ok-Some-silent_code.part in
    λ x arguments at qs.
    opened (mark.Keyword word.Spec) (block Spec spec ∷ on_crash code.0 ∷ keyword word.Impl ∷ block Impl code.1 ∷ []) at c.args.reader.now qs
    ∙ first (on_crash code.0 ∷ keyword word.Impl ∷ block Impl code.1 ∷ qs) ∙ second qs

pub returns-in-Ok-None-silent_code-clause-refused : goal.returns-in-Ok-None-silent_code-clause-refused
returns-in-Ok-None-silent_code-clause-refused c =
    let gone = rw c.in-Ok-Some.field-0-is at c.in-Ok-Some.ensures.goes in
    let stopped = rw c.in-Ok-None-silent_code.field-0-is at c.in-Ok-None-silent_code.ensures.refused in
    λ qs. gone (perhaps pending.on_crash ∷ word_of word.Impl ∷ pending.block Impl ∷ qs)
    ∙ stopped qs

pub returns-clause-goes : goal.returns-clause-goes
returns-clause-goes c =
    let gone = rw c.in-Ok-Some.field-0-is at c.in-Ok-Some.ensures.goes in
    let rest = rw c.in-Ok-Some-silent_code.field-0-is at c.in-Ok-Some-silent_code.ensures.goes in
    λ qs. gone (perhaps pending.on_crash ∷ word_of word.Impl ∷ pending.block Impl ∷ qs)
    ∙ rest qs

pub returns-in-Ok-None-clause-refused : goal.returns-in-Ok-None-clause-refused
returns-in-Ok-None-clause-refused c =
    let stopped = rw c.in-Ok-None.field-0-is at c.in-Ok-None.ensures.refused in
    λ qs. stopped (perhaps pending.on_crash ∷ word_of word.Impl ∷ pending.block Impl ∷ qs)

pub returns-clause-shorter : goal.returns-clause-shorter
returns-clause-shorter c =
    let first = rw c.in-Ok-Some.field-0-is at c.in-Ok-Some.ensures.shorter in
    let second = rw c.in-Ok-Some-silent_code.field-0-is at c.in-Ok-Some-silent_code.ensures.shorter in
    omega (arith, first, second)
