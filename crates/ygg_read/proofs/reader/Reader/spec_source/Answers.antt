use Rattle.std.proofs.Common.{◌∷◌, ◌∙◌, sym, ap}
use Rattle.ygg_base.specs.declared.token.Keyword.TheVariants as word
use Rattle.ygg_base.specs.declared.token.Mark.TheVariants as mark
use Rattle.ygg_syntax.specs.declared.grammar.BlockKind.TheVariants as purpose
use Rattle.ygg_syntax.specs.Reading.{in_turn}
use Rattle.ygg_syntax.specs.Expressions.{expr}
use Rattle.ygg_syntax.specs.Pending.{right_side, expression, outcome}
use Rattle.ygg_read.proofs.ExpressionPhrases.{reads_token}
use Rattle.ygg_read.proofs.ExpressionSources.{spec_value, begins_choose}
use Rattle.ygg_read.proofs.reader.Reader.spec_source.Goals as goal

pub returns-in-Some-clause-reads : goal.returns-in-Some-clause-reads
returns-in-Some-clause-reads c = reads_token (mark.Keyword word.Choose) c.in-Some.place c.args.self.now c.keyword.new.self c.in-Some.ensures.taken

pub returns-in-Some-clause-goes : goal.returns-in-Some-clause-goes
returns-in-Some-clause-goes c =
    λ qs. ap (outcome (right_side purpose.Spec ∷ qs)) c.in-Some.ensures.taken ∙ begins_choose c.in-Some.place c.keyword.new.self qs

pub returns-in_default-2-clause-refused : goal.returns-in_default-2-clause-refused
returns-in_default-2-clause-refused c =
    let stopped = rw c.in_default-2.is at c.in_ok-e.ensures.refused in
    λ qs. spec_value c.args.self.now c.in_default.ensures.other qs ∙ ap (outcome (expression ∷ qs)) (sym c.in_default.ensures.left) ∙ stopped qs

pub returns-clause-reads : goal.returns-clause-reads
returns-clause-reads c =
    let read = rw c.in-Some-2.is at c.in_ok-e.ensures.reads in
    λ qs. ap (in_turn (expr c.in-Some-2.e ∷ qs)) (sym c.in_default.ensures.left) ∙ read qs

pub returns-clause-goes : goal.returns-clause-goes
returns-clause-goes c =
    let gone = rw c.in-Some-2.is at c.in_ok-e.ensures.goes in
    λ qs. spec_value c.args.self.now c.in_default.ensures.other qs ∙ ap (outcome (expression ∷ qs)) (sym c.in_default.ensures.left) ∙ gone qs
