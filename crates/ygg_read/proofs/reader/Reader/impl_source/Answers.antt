use Rattle.std.proofs.Common.{◌∷◌, ◌∙◌, sym, ap}
use Rattle.ygg_syntax.specs.declared.grammar.BlockKind.TheVariants as purpose
use Rattle.ygg_syntax.specs.declared.tree.Source.TheVariants as source
use Rattle.ygg_syntax.specs.Reading.{in_turn}
use Rattle.ygg_syntax.specs.Expressions.{expr}
use Rattle.ygg_syntax.specs.Blocks.{source_in}
use Rattle.ygg_syntax.specs.Pending.{right_side, expression, outcome}
use Rattle.ygg_read.proofs.ExpressionSources.{impl_value, begins_call, reads_call}
use Rattle.ygg_read.proofs.reader.Reader.impl_source.Goals as goal

pub returns-in-Some-clause-reads : goal.returns-in-Some-clause-reads
returns-in-Some-clause-reads c =
    let called = rw c.in-Some-2.is at c.in_ok-name.ensures.reads in
    λ qs. ap (in_turn (source_in purpose.Impl (source.Call c.in-Some.place c.in-Some-2.name c.in-Some-2.arguments) ∷ qs)) c.in-Some.ensures.taken
    ∙ reads_call c.in-Some.place c.in-Some-2.name c.in-Some-2.arguments c.keyword.new.self qs ∙ called qs

pub returns-in_default-2-clause-refused : goal.returns-in_default-2-clause-refused
returns-in_default-2-clause-refused c =
    let stopped = rw c.in_default-2.is at c.in_ok-name.ensures.refused in
    λ qs. ap (outcome (right_side purpose.Impl ∷ qs)) c.in-Some.ensures.taken ∙ begins_call c.in-Some.place c.keyword.new.self qs ∙ stopped qs

pub returns-in-Some-clause-goes : goal.returns-in-Some-clause-goes
returns-in-Some-clause-goes c =
    let called = rw c.in-Some-2.is at c.in_ok-name.ensures.goes in
    λ qs. ap (outcome (right_side purpose.Impl ∷ qs)) c.in-Some.ensures.taken ∙ begins_call c.in-Some.place c.keyword.new.self qs ∙ called qs

pub returns-in_default-3-clause-refused : goal.returns-in_default-3-clause-refused
returns-in_default-3-clause-refused c =
    let stopped = rw c.in_default-3.is at c.in_ok-e.ensures.refused in
    λ qs. impl_value c.args.self.now c.in_default.ensures.other qs ∙ ap (outcome (expression ∷ qs)) (sym c.in_default.ensures.left) ∙ stopped qs

pub returns-clause-reads : goal.returns-clause-reads
returns-clause-reads c =
    let read = rw c.in-Some-3.is at c.in_ok-e.ensures.reads in
    λ qs. ap (in_turn (expr c.in-Some-3.e ∷ qs)) (sym c.in_default.ensures.left) ∙ read qs

pub returns-clause-goes : goal.returns-clause-goes
returns-clause-goes c =
    let gone = rw c.in-Some-3.is at c.in_ok-e.ensures.goes in
    λ qs. impl_value c.args.self.now c.in_default.ensures.other qs ∙ ap (outcome (expression ∷ qs)) (sym c.in_default.ensures.left) ∙ gone qs
