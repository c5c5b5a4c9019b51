use Rattle.std.proofs.Common.{[], ◌∷◌, ◌∙◌, sym, ap, length}
use Rattle.ygg_base.specs.declared.token.Keyword.TheVariants as word
use Rattle.ygg_syntax.specs.declared.grammar.Sort.TheVariants as sorts
use Rattle.ygg_syntax.specs.Expressions.{keyword, numbered}
use Rattle.ygg_syntax.specs.Pending.{some_type, outcome, stops}
use Rattle.ygg_read.proofs.Declared.{begins_table}
use Rattle.ygg_read.proofs.ExpressionPhrases.{joined}
use Rattle.ygg_read.proofs.Shapes.{stopped_all}
use Rattle.ygg_read.proofs.types.table.Goals as goal

pub returns-in_default-clause-refused : goal.returns-in_default-clause-refused
returns-in_default-clause-refused c =
    λ qs. stopped_all c.args.reader.now c.requires.no_word c.requires.no_row c.in_default.ensures.other qs
    ∙ ap (λ rest. stops (length rest)) (sym c.in_default.ensures.left)

pub returns-in_default-three-clause-refused : goal.returns-in_default-three-clause-refused
returns-in_default-three-clause-refused c =
    λ qs. ap (outcome (some_type sorts.All ∷ qs)) c.in-Some.ensures.taken ∙ begins_table c.in-Some.field-0 c.keyword.new.self qs
    ∙ c.in_default-three.ensures.refused qs

pub returns-clause-reads : goal.returns-clause-reads
returns-clause-reads c =
    let rows = numbered c.in-Some-three.rows in
    let words = numbered c.in-Some-three.words in
    let width = numbered c.in-Some-three.width in
    λ qs. joined (keyword word.Table ∷ rows ∷ keyword word.Of ∷ words ∷ keyword word.Of ∷ width ∷ []) qs c.args.reader.now
    ∙ c.in-Some.ensures.reads (rows ∷ keyword word.Of ∷ words ∷ keyword word.Of ∷ width ∷ qs) ∙ c.in-Some-three.ensures.reads qs

pub returns-clause-goes : goal.returns-clause-goes
returns-clause-goes c =
    λ qs. ap (outcome (some_type sorts.All ∷ qs)) c.in-Some.ensures.taken ∙ begins_table c.in-Some.field-0 c.keyword.new.self qs
    ∙ c.in-Some-three.ensures.goes qs
