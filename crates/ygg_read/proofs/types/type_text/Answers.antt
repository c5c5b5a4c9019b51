use Rattle.std.proofs.Common.{[], ◌∷◌, ◌∙◌, sym, ap, length}
use Rattle.ygg_base.specs.declared.token.Keyword.TheVariants as word
use Rattle.ygg_base.specs.declared.token.Mark.TheVariants as mark
use Rattle.ygg_syntax.specs.Reading.{starts, in_turn}
use Rattle.ygg_syntax.specs.Expressions.{keyword, numbered}
use Rattle.ygg_syntax.specs.Pending.{some_type, outcome, stops}
use Rattle.ygg_read.proofs.Declared.{begins_word, begins_row}
use Rattle.ygg_read.proofs.ExpressionPhrases.{joined}
use Rattle.ygg_read.proofs.Shapes.{stopped_small}
use Rattle.ygg_read.proofs.types.type_text.Goals as goal

pub returns-in_default-number-clause-refused : goal.returns-in_default-number-clause-refused
returns-in_default-number-clause-refused c =
    λ qs. ap (outcome (some_type c.args.sort ∷ qs)) c.in-Some.ensures.taken ∙ begins_word c.args.sort c.in-Some.field-0 c.keyword.new.self qs
    ∙ c.in_default-number.ensures.refused qs

pub returns-in-Some-clause-reads : goal.returns-in-Some-clause-reads
returns-in-Some-clause-reads c =
    let width = numbered c.in-Some-number.width in
    λ qs. joined (keyword word.Word ∷ width ∷ []) qs c.args.reader.now ∙ c.in-Some.ensures.reads (width ∷ qs) ∙ c.in-Some-number.ensures.reads qs

pub returns-in-Some-clause-goes : goal.returns-in-Some-clause-goes
returns-in-Some-clause-goes c =
    λ qs. ap (outcome (some_type c.args.sort ∷ qs)) c.in-Some.ensures.taken ∙ begins_word c.args.sort c.in-Some.field-0 c.keyword.new.self qs
    ∙ c.in-Some-number.ensures.goes qs

pub returns-in_default-two-clause-refused : goal.returns-in_default-two-clause-refused
returns-in_default-two-clause-refused c =
    let taken = sym c.in_default.ensures.left ∙ c.in-Some-keyword.ensures.taken in
    λ qs. ap (outcome (some_type c.args.sort ∷ qs)) taken ∙ begins_row c.args.sort c.in-Some-keyword.field-0 c.keyword-2.new.self qs
    ∙ c.in_default-two.ensures.refused qs

pub returns-in-Some-keyword-clause-reads : goal.returns-in-Some-keyword-clause-reads
returns-in-Some-keyword-clause-reads c =
    let words = numbered c.in-Some-two.words in
    let width = numbered c.in-Some-two.width in
    λ qs. joined (keyword word.Row ∷ words ∷ keyword word.Of ∷ width ∷ []) qs c.args.reader.now
    ∙ ap (in_turn (keyword word.Row ∷ words ∷ keyword word.Of ∷ width ∷ qs)) (sym c.in_default.ensures.left)
    ∙ c.in-Some-keyword.ensures.reads (words ∷ keyword word.Of ∷ width ∷ qs) ∙ c.in-Some-two.ensures.reads qs

pub returns-in-Some-keyword-clause-goes : goal.returns-in-Some-keyword-clause-goes
returns-in-Some-keyword-clause-goes c =
    let taken = sym c.in_default.ensures.left ∙ c.in-Some-keyword.ensures.taken in
    λ qs. ap (outcome (some_type c.args.sort ∷ qs)) taken ∙ begins_row c.args.sort c.in-Some-keyword.field-0 c.keyword-2.new.self qs
    ∙ c.in-Some-two.ensures.goes qs

pub returns-in-Small-clause-refused : goal.returns-in-Small-clause-refused
returns-in-Small-clause-refused c =
    let left = c.in_default.ensures.left in
    let no_row = ap (starts (mark.Keyword word.Row)) (sym left) ∙ c.in_default-keyword.ensures.other in
    λ qs. ap (λ sort. outcome (some_type sort ∷ qs) c.args.reader.now) c.in-Small.is
    ∙ stopped_small c.args.reader.now c.in_default.ensures.other no_row qs
    ∙ ap (λ rest. stops (length rest)) (sym (c.in_default-keyword.ensures.left ∙ left))
