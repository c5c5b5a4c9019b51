use Rattle.std.proofs.Common.{List, [], ◌∷◌, ◌++◌, length, ap, ◌∙◌, arith}
use Rattle.ygg_base.specs.declared.token.Keyword.TheVariants as word
use Rattle.ygg_base.specs.declared.token.Symbol.TheVariants as sign
use Rattle.ygg_base.specs.declared.token.Mark.TheVariants as mark
use Rattle.ygg_syntax.specs.declared.grammar.BlockKind.TheVariants.{Spec, Impl}
use Rattle.ygg_syntax.specs.declared.grammar.Sort.TheVariants as sorts
use Rattle.ygg_syntax.specs.Reading.{Reading}
use Rattle.ygg_syntax.specs.Expressions.{keyword}
use Rattle.ygg_syntax.specs.Blocks.{answering}
use Rattle.ygg_syntax.specs.Files.{type_in, on_crash}
use Rattle.ygg_syntax.specs.Pending.{perhaps, word_of}
use Rattle.ygg_syntax.specs.Pending as pending
use Rattle.ygg_read.proofs.Files.{opened}
use Rattle.ygg_read.proofs.operations.answered.Goals as goal

pub returns-clause-reads : goal.returns-clause-reads
returns-clause-reads c =
    let first = rw c.in-Ok-Some.field-0-is at c.in-Ok-Some.ensures.reads in
    let second = rw c.in-Ok-Some-answering_code.field-0-is at c.in-Ok-Some-answering_code.ensures.reads in
    let spec = c.in-Ok-Some.part in
    let code = c.in-Ok-Some-answering_code.part in
    let last : List Reading = on_crash code.0 ∷ keyword word.Impl ∷ answering Impl code.1 ∷ [] in
    λ x arguments at qs.
    opened (mark.Symbol sign.Arrow) (type_in sorts.Small c.in-Some.answer ∷ keyword word.Spec ∷ answering Spec spec ∷ last) at c.args.reader.now qs
    ∙ c.in-Some.ensures.reads (keyword word.Spec ∷ answering Spec spec ∷ last ++ qs)
    ∙ c.in-Some-keyword.ensures.reads (answering Spec spec ∷ last ++ qs) ∙ first (last ++ qs)
    ∙ second qs

pub returns-in-Ok-None-clause-refused : goal.returns-in-Ok-None-clause-refused
returns-in-Ok-None-clause-refused c =
    let stopped = rw c.in-Ok-None.field-0-is at c.in-Ok-None.ensures.refused in
    λ qs. c.in-Some.ensures.goes (word_of word.Spec ∷ pending.answering Spec ∷ perhaps pending.on_crash ∷ word_of word.Impl ∷ pending.answering Impl ∷ qs)
    ∙ c.in-Some-keyword.ensures.goes (pending.answering Spec ∷ perhaps pending.on_crash ∷ word_of word.Impl ∷ pending.answering Impl ∷ qs)
    ∙ stopped (perhaps pending.on_crash ∷ word_of word.Impl ∷ pending.answering Impl ∷ qs)

pub returns-in-Ok-None-answering_code-clause-refused : goal.returns-in-Ok-None-answering_code-clause-refused
returns-in-Ok-None-answering_code-clause-refused c =
    let gone = rw c.in-Ok-Some.field-0-is at c.in-Ok-Some.ensures.goes in
    let stopped = rw c.in-Ok-None-answering_code.field-0-is at c.in-Ok-None-answering_code.ensures.refused in
    λ qs. c.in-Some.ensures.goes (word_of word.Spec ∷ pending.answering Spec ∷ perhaps pending.on_crash ∷ word_of word.Impl ∷ pending.answering Impl ∷ qs)
    ∙ c.in-Some-keyword.ensures.goes (pending.answering Spec ∷ perhaps pending.on_crash ∷ word_of word.Impl ∷ pending.answering Impl ∷ qs)
    ∙ gone (perhaps pending.on_crash ∷ word_of word.Impl ∷ pending.answering Impl ∷ qs)
    ∙ stopped qs

pub returns-clause-goes : goal.returns-clause-goes
returns-clause-goes c =
    let gone = rw c.in-Ok-Some.field-0-is at c.in-Ok-Some.ensures.goes in
    let rest = rw c.in-Ok-Some-answering_code.field-0-is at c.in-Ok-Some-answering_code.ensures.goes in
    λ qs. c.in-Some.ensures.goes (word_of word.Spec ∷ pending.answering Spec ∷ perhaps pending.on_crash ∷ word_of word.Impl ∷ pending.answering Impl ∷ qs)
    ∙ c.in-Some-keyword.ensures.goes (pending.answering Spec ∷ perhaps pending.on_crash ∷ word_of word.Impl ∷ pending.answering Impl ∷ qs)
    ∙ gone (perhaps pending.on_crash ∷ word_of word.Impl ∷ pending.answering Impl ∷ qs)
    ∙ rest qs

pub returns-in_default-clause-refused : goal.returns-in_default-clause-refused
returns-in_default-clause-refused c =
    λ qs. c.in_default.ensures.refused (word_of word.Spec ∷ pending.answering Spec ∷ perhaps pending.on_crash ∷ word_of word.Impl ∷ pending.answering Impl ∷ qs)

pub returns-in_default-keyword-clause-refused : goal.returns-in_default-keyword-clause-refused
returns-in_default-keyword-clause-refused c =
    λ qs. c.in-Some.ensures.goes (word_of word.Spec ∷ pending.answering Spec ∷ perhaps pending.on_crash ∷ word_of word.Impl ∷ pending.answering Impl ∷ qs)
    ∙ c.in_default-keyword.ensures.refused (pending.answering Spec ∷ perhaps pending.on_crash ∷ word_of word.Impl ∷ pending.answering Impl ∷ qs)

pub returns-clause-shorter : goal.returns-clause-shorter
returns-clause-shorter c =
    let first = c.in-Some.ensures.shorter in
    let second = ap length c.in-Some-keyword.ensures.taken in
    let third = rw c.in-Ok-Some.field-0-is at c.in-Ok-Some.ensures.shorter in
    let fourth = rw c.in-Ok-Some-answering_code.field-0-is at c.in-Ok-Some-answering_code.ensures.shorter in
    omega (arith, first, second, third, fourth)
