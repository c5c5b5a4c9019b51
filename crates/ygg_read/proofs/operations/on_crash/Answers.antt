use Rattle.std.proofs.Common.{[], ◌∷◌, ◌∙◌, sym, ap}
use Rattle.ygg_base.specs.declared.token.Keyword.TheVariants as word
use Rattle.ygg_syntax.specs.declared.grammar.BlockKind.TheVariants.{Spec}
use Rattle.ygg_syntax.specs.Reading.{in_turn}
use Rattle.ygg_syntax.specs.Expressions.{keyword}
use Rattle.ygg_syntax.specs.Blocks.{block}
use Rattle.ygg_syntax.specs.Pending.{perhaps, outcome}
use Rattle.ygg_syntax.specs.Pending as pending
use Rattle.ygg_read.proofs.ExpressionPhrases.{joined}
use Rattle.ygg_read.proofs.Stopped.{left_out}
use Rattle.ygg_read.proofs.ClaimParts.{begins_perhaps}
use Rattle.ygg_read.proofs.operations.on_crash.Goals as goal

pub returns-in_default-clause-reads : goal.returns-in_default-clause-reads
returns-in_default-clause-reads c = λ qs. joined [] qs c.args.reader.now ∙ ap (in_turn qs) (sym c.in_default.ensures.left)

pub returns-in_default-clause-goes : goal.returns-in_default-clause-goes
returns-in_default-clause-goes c =
    λ qs. left_out pending.on_crash c.args.reader.now c.in_default.ensures.other qs ∙ ap (outcome qs) (sym c.in_default.ensures.left)

pub returns-in_default-keyword-clause-refused : goal.returns-in_default-keyword-clause-refused
returns-in_default-keyword-clause-refused c =
    λ qs. ap (outcome (perhaps pending.on_crash ∷ qs)) c.in-Some.ensures.taken ∙ begins_perhaps pending.on_crash c.in-Some.field-0 c.keyword.new.self qs
    ∙ c.in_default-keyword.ensures.refused (pending.block Spec ∷ qs)

pub returns-in-Ok-None-clause-refused : goal.returns-in-Ok-None-clause-refused
returns-in-Ok-None-clause-refused c =
    let stopped = rw c.in-Ok-None.field-0-is at c.in-Ok-None.ensures.refused in
    λ qs. ap (outcome (perhaps pending.on_crash ∷ qs)) c.in-Some.ensures.taken ∙ begins_perhaps pending.on_crash c.in-Some.field-0 c.keyword.new.self qs
    ∙ c.in-Some-keyword.ensures.goes (pending.block Spec ∷ qs) ∙ stopped qs

pub returns-clause-reads : goal.returns-clause-reads
returns-clause-reads c =
    let first = rw c.in-Ok-Some.field-0-is at c.in-Ok-Some.ensures.reads in
    let b = c.in-Ok-Some.part in
    λ qs. joined (keyword word.On ∷ keyword word.Crash ∷ block Spec b ∷ []) qs c.args.reader.now
    ∙ c.in-Some.ensures.reads (keyword word.Crash ∷ block Spec b ∷ qs) ∙ c.in-Some-keyword.ensures.reads (block Spec b ∷ qs)
    ∙ first qs

pub returns-clause-goes : goal.returns-clause-goes
returns-clause-goes c =
    let gone = rw c.in-Ok-Some.field-0-is at c.in-Ok-Some.ensures.goes in
    λ qs. ap (outcome (perhaps pending.on_crash ∷ qs)) c.in-Some.ensures.taken ∙ begins_perhaps pending.on_crash c.in-Some.field-0 c.keyword.new.self qs
    ∙ c.in-Some-keyword.ensures.goes (pending.block Spec ∷ qs) ∙ gone qs
