use Rattle.std.proofs.Common.{◌≡◌, [], ◌∷◌, ◌++◌, ◌∙◌, ap, map, sym, length, rules, arith}
use Rattle.ygg_base.specs.declared.token.Keyword.TheVariants as word
use Rattle.ygg_base.specs.declared.token.Mark.TheVariants as mark
use Rattle.ygg_base.specs.declared.token.Symbol.TheVariants as sign
use Rattle.ygg_syntax.specs.Expressions.{Phrase, phrase, expr, keyword, named, numbered, any, some, symbol}
use Rattle.ygg_syntax.specs.Reading.{in_turn}
use Rattle.ygg_syntax.specs.Pending.{exactly, name, number, expression, more_expressions, rest_of_arguments, arguments, indices, sign_of, outcome}
use Rattle.ygg_read.proofs.ExpressionBegins.{begins_index, begins_not, begins_no_arguments, begins_more, begins_name, begins_arguments}
use Rattle.ygg_read.proofs.ExpressionBegins.{begins_binary, begins_pick, begins_resize, begins_fill, begins_row, begins_quantified}
use Rattle.ygg_read.proofs.ExpressionLists.{index_more, first_read, one_more, all_read, all_filled}
use Rattle.ygg_read.proofs.ExpressionPhrases.{parts_variable, parts_apply, parts_binary, parts_pick, parts_resize, parts_fill}
use Rattle.ygg_read.proofs.ExpressionPhrases.{parts_row, parts_quantified, reads_nothing, reads_not, reads_variable, reads_apply}
use Rattle.ygg_read.proofs.ExpressionPhrases.{reads_binary, reads_pick, reads_resize, reads_fill, reads_row, reads_quantified}
use Rattle.ygg_read.proofs.Answered.{if_none}
use Rattle.ygg_read.proofs.Results.{where_both, where_gone, where_refused, where_some, where_same}
use Rattle.ygg_read.proofs.Stopped.{stopped_expression, dropped_indices, dropped_arguments, dropped_more, some_argument}
use Rattle.ygg_read.proofs.reader.Reader.+expression.Goals as goal

pub atom-returns-clause-refused : goal.atom-returns-clause-refused
atom-returns-clause-refused t c =
    let n = rw c.in_default.is at c.in_ok-name.ensures.left in
    let no_name = rw c.in_default.is at c.in_ok-name.ensures.other in
    let l1 = c.in_default-number.ensures.left in
    let l2 = c.in_default-symbol.ensures.left in
    let l3 = c.in_default-keyword.ensures.left in
    let l4 = c.in_default-keyword-2.ensures.left in
    let l5 = c.in_default-keyword-3.ensures.left in
    let l6 = c.in_default-keyword-4.ensures.left in
    let l7 = c.in_default-keyword-5.ensures.left in
    let l8 = c.in_default-keyword-6.ensures.left in
    let l9 = c.in_default-keyword-7.ensures.left in
    let o2 = c.in_default-symbol.ensures.other in
    let o3 = c.in_default-keyword.ensures.other in
    let o4 = c.in_default-keyword-2.ensures.other in
    let o5 = c.in_default-keyword-3.ensures.other in
    let o6 = c.in_default-keyword-4.ensures.other in
    let o7 = c.in_default-keyword-5.ensures.other in
    let o8 = c.in_default-keyword-6.ensures.other in
    let o9 = c.in_default-keyword-7.ensures.other in
    let r = c.requires in
    let before : c.name.new.self ≡ c.keyword-7.new.self = cc in
    λ qs. ap (outcome (expression ∷ qs)) (sym n ∙ before)
    ∙ stopped_expression c.keyword-7.new.self (cc) (cc) (cc) (cc) (cc) (cc) (cc) (cc) (cc)
    (λ v at rest h. c.in_default-number.ensures.other v at rest (before ∙ h)) (λ text at rest h. no_name text at rest (sym n ∙ before ∙ h)) qs

pub atom-returns-in-Some-clause-reads : goal.atom-returns-in-Some-clause-reads
atom-returns-in-Some-clause-reads t c =
    let taken = rw c.in-Some.is at c.in_ok-name.ensures.taken in
    rw taken c.named.ensures.reads

pub atom-returns-in-Some-clause-goes : goal.atom-returns-in-Some-clause-goes
atom-returns-in-Some-clause-goes t c =
    let taken = rw c.in-Some.is at c.in_ok-name.ensures.taken in
    rw taken c.named.ensures.goes

pub atom-returns-in-Some-clause-refused : goal.atom-returns-in-Some-clause-refused
atom-returns-in-Some-clause-refused t c =
    let taken = rw c.in-Some.is at c.in_ok-name.ensures.taken in
    rw taken c.named.ensures.refused

pub atom-returns-in-Some-clause-shorter : goal.atom-returns-in-Some-clause-shorter
atom-returns-in-Some-clause-shorter t c =
    let taken = rw c.in-Some.is at c.in_ok-name.ensures.taken in
    where_gone c.named.result _ _ (λ shorter. omega (arith, shorter, ap length taken)) c.named.ensures.shorter

pub atom-returns-in-Some-number-clause-reads : goal.atom-returns-in-Some-number-clause-reads
atom-returns-in-Some-number-clause-reads t c =
    let left = rw c.in_default.is at c.in_ok-name.ensures.left in
    let taken = sym left ∙ c.in-Some-number.ensures.taken in
    rw taken c.constant.ensures.reads

pub atom-returns-in-Some-number-clause-goes : goal.atom-returns-in-Some-number-clause-goes
atom-returns-in-Some-number-clause-goes t c =
    let left = rw c.in_default.is at c.in_ok-name.ensures.left in
    let taken = sym left ∙ c.in-Some-number.ensures.taken in
    rw taken c.constant.ensures.goes

pub atom-returns-in-Some-number-clause-refused : goal.atom-returns-in-Some-number-clause-refused
atom-returns-in-Some-number-clause-refused t c =
    let left = rw c.in_default.is at c.in_ok-name.ensures.left in
    let taken = sym left ∙ c.in-Some-number.ensures.taken in
    rw taken c.constant.ensures.refused

pub atom-returns-in-Some-number-clause-shorter : goal.atom-returns-in-Some-number-clause-shorter
atom-returns-in-Some-number-clause-shorter t c =
    let left = rw c.in_default.is at c.in_ok-name.ensures.left in
    let taken = sym left ∙ c.in-Some-number.ensures.taken in
    where_some c.constant.result _ _ (λ shorter. omega (arith, shorter, ap length taken)) c.constant.ensures.shorter

pub atom-returns-in-Some-symbol-clause-reads : goal.atom-returns-in-Some-symbol-clause-reads
atom-returns-in-Some-symbol-clause-reads t c =
    let left = rw c.in_default.is at c.in_ok-name.ensures.left in
    let taken = sym left ∙ sym c.in_default-number.ensures.left ∙ c.in-Some-symbol.ensures.taken in
    rw taken c.binary.ensures.reads

pub atom-returns-in-Some-symbol-clause-goes : goal.atom-returns-in-Some-symbol-clause-goes
atom-returns-in-Some-symbol-clause-goes t c =
    let left = rw c.in_default.is at c.in_ok-name.ensures.left in
    let taken = sym left ∙ sym c.in_default-number.ensures.left ∙ c.in-Some-symbol.ensures.taken in
    rw taken c.binary.ensures.goes

pub atom-returns-in-Some-symbol-clause-refused : goal.atom-returns-in-Some-symbol-clause-refused
atom-returns-in-Some-symbol-clause-refused t c =
    let left = rw c.in_default.is at c.in_ok-name.ensures.left in
    let taken = sym left ∙ sym c.in_default-number.ensures.left ∙ c.in-Some-symbol.ensures.taken in
    rw taken c.binary.ensures.refused

pub atom-returns-in-Some-symbol-clause-shorter : goal.atom-returns-in-Some-symbol-clause-shorter
atom-returns-in-Some-symbol-clause-shorter t c =
    let left = rw c.in_default.is at c.in_ok-name.ensures.left in
    let taken = sym left ∙ sym c.in_default-number.ensures.left ∙ c.in-Some-symbol.ensures.taken in
    where_gone c.binary.result _ _ (λ shorter. omega (arith, shorter, ap length taken)) c.binary.ensures.shorter

pub atom-returns-in-Some-keyword-clause-reads : goal.atom-returns-in-Some-keyword-clause-reads
atom-returns-in-Some-keyword-clause-reads t c =
    let left = rw c.in_default.is at c.in_ok-name.ensures.left in
    let taken = sym left ∙ sym c.in_default-number.ensures.left ∙ sym c.in_default-symbol.ensures.left ∙ c.in-Some-keyword.ensures.taken in
    rw taken c.low.ensures.reads

pub atom-returns-in-Some-keyword-clause-goes : goal.atom-returns-in-Some-keyword-clause-goes
atom-returns-in-Some-keyword-clause-goes t c =
    let left = rw c.in_default.is at c.in_ok-name.ensures.left in
    let taken = sym left ∙ sym c.in_default-number.ensures.left ∙ sym c.in_default-symbol.ensures.left ∙ c.in-Some-keyword.ensures.taken in
    rw taken c.low.ensures.goes

pub atom-returns-in-Some-keyword-clause-refused : goal.atom-returns-in-Some-keyword-clause-refused
atom-returns-in-Some-keyword-clause-refused t c =
    let left = rw c.in_default.is at c.in_ok-name.ensures.left in
    let taken = sym left ∙ sym c.in_default-number.ensures.left ∙ sym c.in_default-symbol.ensures.left ∙ c.in-Some-keyword.ensures.taken in
    rw taken c.low.ensures.refused

pub atom-returns-in-Some-keyword-clause-shorter : goal.atom-returns-in-Some-keyword-clause-shorter
atom-returns-in-Some-keyword-clause-shorter t c =
    let left = rw c.in_default.is at c.in_ok-name.ensures.left in
    let taken = sym left ∙ sym c.in_default-number.ensures.left ∙ sym c.in_default-symbol.ensures.left ∙ c.in-Some-keyword.ensures.taken in
    where_gone c.low.result _ _ (λ shorter. omega (arith, shorter, ap length taken)) c.low.ensures.shorter

pub atom-returns-in-Some-keyword-2-clause-reads : goal.atom-returns-in-Some-keyword-2-clause-reads
atom-returns-in-Some-keyword-2-clause-reads t c =
    let left = rw c.in_default.is at c.in_ok-name.ensures.left in
    let taken = sym left ∙ sym c.in_default-number.ensures.left ∙ sym c.in_default-symbol.ensures.left ∙ sym c.in_default-keyword.ensures.left
    ∙ c.in-Some-keyword-2.ensures.taken in
    rw taken c.pick.ensures.reads

pub atom-returns-in-Some-keyword-2-clause-goes : goal.atom-returns-in-Some-keyword-2-clause-goes
atom-returns-in-Some-keyword-2-clause-goes t c =
    let left = rw c.in_default.is at c.in_ok-name.ensures.left in
    let taken = sym left ∙ sym c.in_default-number.ensures.left ∙ sym c.in_default-symbol.ensures.left ∙ sym c.in_default-keyword.ensures.left
    ∙ c.in-Some-keyword-2.ensures.taken in
    rw taken c.pick.ensures.goes

pub atom-returns-in-Some-keyword-2-clause-refused : goal.atom-returns-in-Some-keyword-2-clause-refused
atom-returns-in-Some-keyword-2-clause-refused t c =
    let left = rw c.in_default.is at c.in_ok-name.ensures.left in
    let taken = sym left ∙ sym c.in_default-number.ensures.left ∙ sym c.in_default-symbol.ensures.left ∙ sym c.in_default-keyword.ensures.left
    ∙ c.in-Some-keyword-2.ensures.taken in
    rw taken c.pick.ensures.refused

pub atom-returns-in-Some-keyword-2-clause-shorter : goal.atom-returns-in-Some-keyword-2-clause-shorter
atom-returns-in-Some-keyword-2-clause-shorter t c =
    let left = rw c.in_default.is at c.in_ok-name.ensures.left in
    let taken = sym left ∙ sym c.in_default-number.ensures.left ∙ sym c.in_default-symbol.ensures.left ∙ sym c.in_default-keyword.ensures.left
    ∙ c.in-Some-keyword-2.ensures.taken in
    where_gone c.pick.result _ _ (λ shorter. omega (arith, shorter, ap length taken)) c.pick.ensures.shorter

pub atom-returns-in-Some-keyword-3-clause-reads : goal.atom-returns-in-Some-keyword-3-clause-reads
atom-returns-in-Some-keyword-3-clause-reads t c =
    let left = rw c.in_default.is at c.in_ok-name.ensures.left in
    let taken = sym left ∙ sym c.in_default-number.ensures.left ∙ sym c.in_default-symbol.ensures.left ∙ sym c.in_default-keyword.ensures.left
    ∙ sym c.in_default-keyword-2.ensures.left ∙ c.in-Some-keyword-3.ensures.taken in
    rw taken c.resize.ensures.reads

pub atom-returns-in-Some-keyword-3-clause-goes : goal.atom-returns-in-Some-keyword-3-clause-goes
atom-returns-in-Some-keyword-3-clause-goes t c =
    let left = rw c.in_default.is at c.in_ok-name.ensures.left in
    let taken = sym left ∙ sym c.in_default-number.ensures.left ∙ sym c.in_default-symbol.ensures.left ∙ sym c.in_default-keyword.ensures.left
    ∙ sym c.in_default-keyword-2.ensures.left ∙ c.in-Some-keyword-3.ensures.taken in
    rw taken c.resize.ensures.goes

pub atom-returns-in-Some-keyword-3-clause-refused : goal.atom-returns-in-Some-keyword-3-clause-refused
atom-returns-in-Some-keyword-3-clause-refused t c =
    let left = rw c.in_default.is at c.in_ok-name.ensures.left in
    let taken = sym left ∙ sym c.in_default-number.ensures.left ∙ sym c.in_default-symbol.ensures.left ∙ sym c.in_default-keyword.ensures.left
    ∙ sym c.in_default-keyword-2.ensures.left ∙ c.in-Some-keyword-3.ensures.taken in
    rw taken c.resize.ensures.refused

pub atom-returns-in-Some-keyword-3-clause-shorter : goal.atom-returns-in-Some-keyword-3-clause-shorter
atom-returns-in-Some-keyword-3-clause-shorter t c =
    let left = rw c.in_default.is at c.in_ok-name.ensures.left in
    let taken = sym left ∙ sym c.in_default-number.ensures.left ∙ sym c.in_default-symbol.ensures.left ∙ sym c.in_default-keyword.ensures.left
    ∙ sym c.in_default-keyword-2.ensures.left ∙ c.in-Some-keyword-3.ensures.taken in
    where_gone c.resize.result _ _ (λ shorter. omega (arith, shorter, ap length taken)) c.resize.ensures.shorter

pub atom-returns-in-Some-keyword-4-clause-reads : goal.atom-returns-in-Some-keyword-4-clause-reads
atom-returns-in-Some-keyword-4-clause-reads t c =
    let left = rw c.in_default.is at c.in_ok-name.ensures.left in
    let taken = sym left ∙ sym c.in_default-number.ensures.left ∙ sym c.in_default-symbol.ensures.left ∙ sym c.in_default-keyword.ensures.left
    ∙ sym c.in_default-keyword-2.ensures.left ∙ sym c.in_default-keyword-3.ensures.left ∙ c.in-Some-keyword-4.ensures.taken in
    rw taken c.fill.ensures.reads

pub atom-returns-in-Some-keyword-4-clause-goes : goal.atom-returns-in-Some-keyword-4-clause-goes
atom-returns-in-Some-keyword-4-clause-goes t c =
    let left = rw c.in_default.is at c.in_ok-name.ensures.left in
    let taken = sym left ∙ sym c.in_default-number.ensures.left ∙ sym c.in_default-symbol.ensures.left ∙ sym c.in_default-keyword.ensures.left
    ∙ sym c.in_default-keyword-2.ensures.left ∙ sym c.in_default-keyword-3.ensures.left ∙ c.in-Some-keyword-4.ensures.taken in
    rw taken c.fill.ensures.goes

pub atom-returns-in-Some-keyword-4-clause-refused : goal.atom-returns-in-Some-keyword-4-clause-refused
atom-returns-in-Some-keyword-4-clause-refused t c =
    let left = rw c.in_default.is at c.in_ok-name.ensures.left in
    let taken = sym left ∙ sym c.in_default-number.ensures.left ∙ sym c.in_default-symbol.ensures.left ∙ sym c.in_default-keyword.ensures.left
    ∙ sym c.in_default-keyword-2.ensures.left ∙ sym c.in_default-keyword-3.ensures.left ∙ c.in-Some-keyword-4.ensures.taken in
    rw taken c.fill.ensures.refused

pub atom-returns-in-Some-keyword-4-clause-shorter : goal.atom-returns-in-Some-keyword-4-clause-shorter
atom-returns-in-Some-keyword-4-clause-shorter t c =
    let left = rw c.in_default.is at c.in_ok-name.ensures.left in
    let taken = sym left ∙ sym c.in_default-number.ensures.left ∙ sym c.in_default-symbol.ensures.left ∙ sym c.in_default-keyword.ensures.left
    ∙ sym c.in_default-keyword-2.ensures.left ∙ sym c.in_default-keyword-3.ensures.left ∙ c.in-Some-keyword-4.ensures.taken in
    where_gone c.fill.result _ _ (λ shorter. omega (arith, shorter, ap length taken)) c.fill.ensures.shorter

pub atom-returns-in-Some-keyword-5-clause-reads : goal.atom-returns-in-Some-keyword-5-clause-reads
atom-returns-in-Some-keyword-5-clause-reads t c =
    let left = rw c.in_default.is at c.in_ok-name.ensures.left in
    let taken = sym left ∙ sym c.in_default-number.ensures.left ∙ sym c.in_default-symbol.ensures.left ∙ sym c.in_default-keyword.ensures.left
    ∙ sym c.in_default-keyword-2.ensures.left ∙ sym c.in_default-keyword-3.ensures.left ∙ sym c.in_default-keyword-4.ensures.left
    ∙ c.in-Some-keyword-5.ensures.taken in
    rw taken c.row.ensures.reads

pub atom-returns-in-Some-keyword-5-clause-goes : goal.atom-returns-in-Some-keyword-5-clause-goes
atom-returns-in-Some-keyword-5-clause-goes t c =
    let left = rw c.in_default.is at c.in_ok-name.ensures.left in
    let taken = sym left ∙ sym c.in_default-number.ensures.left ∙ sym c.in_default-symbol.ensures.left ∙ sym c.in_default-keyword.ensures.left
    ∙ sym c.in_default-keyword-2.ensures.left ∙ sym c.in_default-keyword-3.ensures.left ∙ sym c.in_default-keyword-4.ensures.left
    ∙ c.in-Some-keyword-5.ensures.taken in
    rw taken c.row.ensures.goes

pub atom-returns-in-Some-keyword-5-clause-refused : goal.atom-returns-in-Some-keyword-5-clause-refused
atom-returns-in-Some-keyword-5-clause-refused t c =
    let left = rw c.in_default.is at c.in_ok-name.ensures.left in
    let taken = sym left ∙ sym c.in_default-number.ensures.left ∙ sym c.in_default-symbol.ensures.left ∙ sym c.in_default-keyword.ensures.left
    ∙ sym c.in_default-keyword-2.ensures.left ∙ sym c.in_default-keyword-3.ensures.left ∙ sym c.in_default-keyword-4.ensures.left
    ∙ c.in-Some-keyword-5.ensures.taken in
    rw taken c.row.ensures.refused

pub atom-returns-in-Some-keyword-5-clause-shorter : goal.atom-returns-in-Some-keyword-5-clause-shorter
atom-returns-in-Some-keyword-5-clause-shorter t c =
    let left = rw c.in_default.is at c.in_ok-name.ensures.left in
    let taken = sym left ∙ sym c.in_default-number.ensures.left ∙ sym c.in_default-symbol.ensures.left ∙ sym c.in_default-keyword.ensures.left
    ∙ sym c.in_default-keyword-2.ensures.left ∙ sym c.in_default-keyword-3.ensures.left ∙ sym c.in_default-keyword-4.ensures.left
    ∙ c.in-Some-keyword-5.ensures.taken in
    where_gone c.row.result _ _ (λ shorter. omega (arith, shorter, ap length taken)) c.row.ensures.shorter

pub atom-returns-in-Some-keyword-6-clause-reads : goal.atom-returns-in-Some-keyword-6-clause-reads
atom-returns-in-Some-keyword-6-clause-reads t c =
    let left = rw c.in_default.is at c.in_ok-name.ensures.left in
    let taken = sym left ∙ sym c.in_default-number.ensures.left ∙ sym c.in_default-symbol.ensures.left ∙ sym c.in_default-keyword.ensures.left
    ∙ sym c.in_default-keyword-2.ensures.left ∙ sym c.in_default-keyword-3.ensures.left ∙ sym c.in_default-keyword-4.ensures.left
    ∙ sym c.in_default-keyword-5.ensures.left ∙ c.in-Some-keyword-6.ensures.taken in
    rw taken c.quantified.ensures.reads

pub atom-returns-in-Some-keyword-6-clause-goes : goal.atom-returns-in-Some-keyword-6-clause-goes
atom-returns-in-Some-keyword-6-clause-goes t c =
    let left = rw c.in_default.is at c.in_ok-name.ensures.left in
    let taken = sym left ∙ sym c.in_default-number.ensures.left ∙ sym c.in_default-symbol.ensures.left ∙ sym c.in_default-keyword.ensures.left
    ∙ sym c.in_default-keyword-2.ensures.left ∙ sym c.in_default-keyword-3.ensures.left ∙ sym c.in_default-keyword-4.ensures.left
    ∙ sym c.in_default-keyword-5.ensures.left ∙ c.in-Some-keyword-6.ensures.taken in
    rw taken c.quantified.ensures.goes

pub atom-returns-in-Some-keyword-6-clause-refused : goal.atom-returns-in-Some-keyword-6-clause-refused
atom-returns-in-Some-keyword-6-clause-refused t c =
    let left = rw c.in_default.is at c.in_ok-name.ensures.left in
    let taken = sym left ∙ sym c.in_default-number.ensures.left ∙ sym c.in_default-symbol.ensures.left ∙ sym c.in_default-keyword.ensures.left
    ∙ sym c.in_default-keyword-2.ensures.left ∙ sym c.in_default-keyword-3.ensures.left ∙ sym c.in_default-keyword-4.ensures.left
    ∙ sym c.in_default-keyword-5.ensures.left ∙ c.in-Some-keyword-6.ensures.taken in
    rw taken c.quantified.ensures.refused

pub atom-returns-in-Some-keyword-6-clause-shorter : goal.atom-returns-in-Some-keyword-6-clause-shorter
atom-returns-in-Some-keyword-6-clause-shorter t c =
    let left = rw c.in_default.is at c.in_ok-name.ensures.left in
    let taken = sym left ∙ sym c.in_default-number.ensures.left ∙ sym c.in_default-symbol.ensures.left ∙ sym c.in_default-keyword.ensures.left
    ∙ sym c.in_default-keyword-2.ensures.left ∙ sym c.in_default-keyword-3.ensures.left ∙ sym c.in_default-keyword-4.ensures.left
    ∙ sym c.in_default-keyword-5.ensures.left ∙ c.in-Some-keyword-6.ensures.taken in
    where_gone c.quantified.result _ _ (λ shorter. omega (arith, shorter, ap length taken)) c.quantified.ensures.shorter

pub atom-returns-in-Some-keyword-7-clause-reads : goal.atom-returns-in-Some-keyword-7-clause-reads
atom-returns-in-Some-keyword-7-clause-reads t c =
    let left = rw c.in_default.is at c.in_ok-name.ensures.left in
    let taken = sym left ∙ sym c.in_default-number.ensures.left ∙ sym c.in_default-symbol.ensures.left ∙ sym c.in_default-keyword.ensures.left
    ∙ sym c.in_default-keyword-2.ensures.left ∙ sym c.in_default-keyword-3.ensures.left ∙ sym c.in_default-keyword-4.ensures.left
    ∙ sym c.in_default-keyword-5.ensures.left ∙ sym c.in_default-keyword-6.ensures.left ∙ c.in-Some-keyword-7.ensures.taken in
    rw taken c.quantified-in-Some-keyword-7.ensures.reads

pub atom-returns-in-Some-keyword-7-clause-goes : goal.atom-returns-in-Some-keyword-7-clause-goes
atom-returns-in-Some-keyword-7-clause-goes t c =
    let left = rw c.in_default.is at c.in_ok-name.ensures.left in
    let taken = sym left ∙ sym c.in_default-number.ensures.left ∙ sym c.in_default-symbol.ensures.left ∙ sym c.in_default-keyword.ensures.left
    ∙ sym c.in_default-keyword-2.ensures.left ∙ sym c.in_default-keyword-3.ensures.left ∙ sym c.in_default-keyword-4.ensures.left
    ∙ sym c.in_default-keyword-5.ensures.left ∙ sym c.in_default-keyword-6.ensures.left ∙ c.in-Some-keyword-7.ensures.taken in
    rw taken c.quantified-in-Some-keyword-7.ensures.goes

pub atom-returns-in-Some-keyword-7-clause-refused : goal.atom-returns-in-Some-keyword-7-clause-refused
atom-returns-in-Some-keyword-7-clause-refused t c =
    let left = rw c.in_default.is at c.in_ok-name.ensures.left in
    let taken = sym left ∙ sym c.in_default-number.ensures.left ∙ sym c.in_default-symbol.ensures.left ∙ sym c.in_default-keyword.ensures.left
    ∙ sym c.in_default-keyword-2.ensures.left ∙ sym c.in_default-keyword-3.ensures.left ∙ sym c.in_default-keyword-4.ensures.left
    ∙ sym c.in_default-keyword-5.ensures.left ∙ sym c.in_default-keyword-6.ensures.left ∙ c.in-Some-keyword-7.ensures.taken in
    rw taken c.quantified-in-Some-keyword-7.ensures.refused

pub atom-returns-in-Some-keyword-7-clause-shorter : goal.atom-returns-in-Some-keyword-7-clause-shorter
atom-returns-in-Some-keyword-7-clause-shorter t c =
    let left = rw c.in_default.is at c.in_ok-name.ensures.left in
    let taken = sym left ∙ sym c.in_default-number.ensures.left ∙ sym c.in_default-symbol.ensures.left ∙ sym c.in_default-keyword.ensures.left
    ∙ sym c.in_default-keyword-2.ensures.left ∙ sym c.in_default-keyword-3.ensures.left ∙ sym c.in_default-keyword-4.ensures.left
    ∙ sym c.in_default-keyword-5.ensures.left ∙ sym c.in_default-keyword-6.ensures.left ∙ c.in-Some-keyword-7.ensures.taken in
    where_gone c.quantified-in-Some-keyword-7.result _ _ (λ shorter. omega (arith, shorter, ap length taken)) c.quantified-in-Some-keyword-7.ensures.shorter

pub expression-returns-in-Some-clause-reads : goal.expression-returns-in-Some-clause-reads
expression-returns-in-Some-clause-reads t c = rw c.in-Some.ensures.taken c.negation.ensures.reads

pub expression-returns-in-Some-clause-goes : goal.expression-returns-in-Some-clause-goes
expression-returns-in-Some-clause-goes t c = rw c.in-Some.ensures.taken c.negation.ensures.goes

pub expression-returns-in-Some-clause-refused : goal.expression-returns-in-Some-clause-refused
expression-returns-in-Some-clause-refused t c = rw c.in-Some.ensures.taken c.negation.ensures.refused

pub expression-returns-in-Some-clause-shorter : goal.expression-returns-in-Some-clause-shorter
expression-returns-in-Some-clause-shorter t c =
    where_gone c.negation.result _ _ (λ shorter. omega (arith, shorter, ap length c.in-Some.ensures.taken)) c.negation.ensures.shorter

pub expression-returns-in_default-2-clause-refused : goal.expression-returns-in_default-2-clause-refused
expression-returns-in_default-2-clause-refused t c =
    let stopped = rw c.in_default-2.is at c.in_ok-read.ensures.refused in
    λ qs. ap (outcome (expression ∷ qs)) (sym c.in_default.ensures.left) ∙ stopped qs

pub expression-loop-bracket-preserved : goal.expression-loop-bracket-preserved
expression-loop-bracket-preserved t c =
    let reads = rw c.in-Some-3.is at c.in_ok-index.ensures.reads in
    let goes = rw c.in-Some-3.is at c.in_ok-index.ensures.goes in
    let shorter = rw c.in-Some-3.is at c.in_ok-index.ensures.shorter in
    index_more _ c.loop-bracket.self c.symbol-in-loop-bracket.new.self c.part.new.self c.loop-bracket.whole c.in_ok-inner.inner c.in-Some-3.index
    c.in-Some-symbol.bracket
    (search rules) c.loop-bracket.invariant c.in-Some-symbol.ensures.taken reads
    (λ qs. ap (outcome (indices ∷ qs)) c.in-Some-symbol.ensures.taken ∙ begins_index c.in-Some-symbol.bracket c.symbol-in-loop-bracket.new.self qs
    ∙ goes (indices ∷ qs)) shorter

pub expression-loop-bracket-smaller : goal.expression-loop-bracket-smaller
expression-loop-bracket-smaller t c =
    let shorter = rw c.in-Some-3.is at c.in_ok-index.ensures.shorter in
    omega (arith, shorter, ap length c.in-Some-symbol.ensures.taken)

pub expression-returns-in_default-3-clause-refused : goal.expression-returns-in_default-3-clause-refused
expression-returns-in_default-3-clause-refused t c =
    let stopped = rw c.in_default-3.is at c.in_ok-index.ensures.refused in
    λ qs. c.loop-bracket.invariant.goes qs ∙ ap (outcome (indices ∷ qs)) c.in-Some-symbol.ensures.taken
    ∙ begins_index c.in-Some-symbol.bracket c.symbol-in-loop-bracket.new.self qs ∙ stopped (indices ∷ qs)

pub expression-returns-clause-reads : goal.expression-returns-clause-reads
expression-returns-clause-reads t c = λ qs. c.loop-bracket.invariant.reads qs ∙ ap (in_turn qs) (sym c.in_default-symbol.ensures.left)

pub expression-returns-clause-goes : goal.expression-returns-clause-goes
expression-returns-clause-goes t c =
    λ qs. c.loop-bracket.invariant.goes qs ∙ dropped_indices c.loop-bracket.self c.in_default-symbol.ensures.other qs
    ∙ ap (outcome qs) (sym c.in_default-symbol.ensures.left)

pub negation-returns-in_default-clause-refused : goal.negation-returns-in_default-clause-refused
negation-returns-in_default-clause-refused t c =
    let stopped = rw c.in_default.is at c.in_ok-part.ensures.refused in
    λ qs. begins_not c.args.first c.args.self.now qs ∙ stopped qs

pub negation-returns-clause-reads : goal.negation-returns-clause-reads
negation-returns-clause-reads t c =
    let same : c.in-Some.part ≡ c.in_ok-part-2.part = search rules in
    let first = rw c.in-Some.is at c.in_ok-part.ensures.reads in
    let part = rw same at first in
    λ qs. reads_not c.args.first c.in_ok-part-2.part c.args.self.now qs ∙ part qs

pub negation-returns-clause-goes : goal.negation-returns-clause-goes
negation-returns-clause-goes t c =
    let part = rw c.in-Some.is at c.in_ok-part.ensures.goes in
    λ qs. begins_not c.args.first c.args.self.now qs ∙ part qs

pub arguments-returns-in_default-clause-reads : goal.arguments-returns-in_default-clause-reads
arguments-returns-in_default-clause-reads t c =
    where_both c.list.result _ _ _ (λ es reads filled qs. ap (λ r. in_turn (r ∷ symbol sign.RoundClose ∷ qs) c.args.self.now) filled
    ∙ ap (in_turn (some (map phrase es) ∷ symbol sign.RoundClose ∷ qs)) (sym c.in_default.ensures.left) ∙ reads qs) c.list.ensures.reads
    c.list.ensures.filled

pub arguments-returns-in_default-clause-goes : goal.arguments-returns-in_default-clause-goes
arguments-returns-in_default-clause-goes t c =
    where_gone c.list.result _ _ (λ gone qs. some_argument c.args.self.now c.in_default.ensures.other qs
    ∙ ap (outcome (expression ∷ more_expressions ∷ sign_of sign.RoundClose ∷ qs)) (sym c.in_default.ensures.left) ∙ gone qs) c.list.ensures.goes

pub arguments-returns-in_default-clause-refused : goal.arguments-returns-in_default-clause-refused
arguments-returns-in_default-clause-refused t c =
    where_refused c.list.result _ _ (λ stopped qs. some_argument c.args.self.now c.in_default.ensures.other qs
    ∙ ap (outcome (expression ∷ more_expressions ∷ sign_of sign.RoundClose ∷ qs)) (sym c.in_default.ensures.left) ∙ stopped qs) c.list.ensures.refused

pub arguments-returns-clause-reads : goal.arguments-returns-clause-reads
arguments-returns-clause-reads t c =
    λ qs. ap (λ es. in_turn (any (map phrase es) ∷ symbol sign.RoundClose ∷ qs) c.args.self.now) c.new.ensures
    ∙ reads_nothing c.args.self.now (symbol sign.RoundClose ∷ qs) ∙ c.in-Some.ensures.reads qs

pub arguments-returns-clause-goes : goal.arguments-returns-clause-goes
arguments-returns-clause-goes t c =
    λ qs. ap (outcome (rest_of_arguments ∷ qs)) c.in-Some.ensures.taken ∙ begins_no_arguments c.in-Some.field-0 c.symbol.new.self qs

pub list-loop-parts-init : goal.list-loop-parts-init
list-loop-parts-init t c =
    let step = rw c.in-Some.is at c.in_ok-first.ensures.read in
    let reads = rw step.1.0 at c.expression.ensures.reads in
    let goes = rw step.1.0 at c.expression.ensures.goes in
    let shorter = rw step.1.0 at c.expression.ensures.shorter in
    first_read _ c.expression.new.self c.in-Some.first step.0 reads goes shorter (step.1.1 ∙ ap (λ es. es ++ step.0 ∷ []) c.new-none.ensures)

pub list-loop-parts-preserved : goal.list-loop-parts-preserved
list-loop-parts-preserved t c =
    let step = rw c.in-Some-2.is at c.in_ok-more.ensures.read in
    let reads = rw step.1.0 at c.expression-in-Some-symbol.ensures.reads in
    let goes = rw step.1.0 at c.expression-in-Some-symbol.ensures.goes in
    let shorter = rw step.1.0 at c.expression-in-Some-symbol.ensures.shorter in
    one_more _ c.loop-parts.self c.symbol.new.self c.expression-in-Some-symbol.new.self c.loop-parts.parts c.in-Some-2.more step.0
    c.loop-parts.invariant c.in-Some-symbol.ensures.reads reads
    (λ qs. ap (outcome (more_expressions ∷ qs)) c.in-Some-symbol.ensures.taken ∙ begins_more c.in-Some-symbol.field-0 c.symbol.new.self qs
    ∙ goes (more_expressions ∷ qs))
    (omega (arith, shorter, ap length c.in-Some-symbol.ensures.taken)) step.1.1

pub list-loop-parts-smaller : goal.list-loop-parts-smaller
list-loop-parts-smaller t c =
    let step = rw c.in-Some-2.is at c.in_ok-more.ensures.read in
    let shorter = rw step.1.0 at c.expression-in-Some-symbol.ensures.shorter in
    omega (arith, shorter, ap length c.in-Some-symbol.ensures.taken)

pub list-returns-in_default-clause-refused : goal.list-returns-in_default-clause-refused
list-returns-in_default-clause-refused t c =
    let none = rw c.in_default.is at c.in_ok-first.ensures.refused in
    let stopped = rw none at c.expression.ensures.refused in
    λ qs. stopped (more_expressions ∷ sign_of sign.RoundClose ∷ qs)

pub list-returns-in_default-2-clause-refused : goal.list-returns-in_default-2-clause-refused
list-returns-in_default-2-clause-refused t c =
    let none = rw c.in_default-2.is at c.in_ok-more.ensures.refused in
    let stopped = rw none at c.expression-in-Some-symbol.ensures.refused in
    λ qs. c.loop-parts.invariant.goes (sign_of sign.RoundClose ∷ qs)
    ∙ ap (outcome (more_expressions ∷ sign_of sign.RoundClose ∷ qs)) c.in-Some-symbol.ensures.taken
    ∙ begins_more c.in-Some-symbol.field-0 c.symbol.new.self (sign_of sign.RoundClose ∷ qs) ∙ stopped (more_expressions ∷ sign_of sign.RoundClose ∷ qs)

pub list-returns-clause-refused : goal.list-returns-clause-refused
list-returns-clause-refused t c =
    if_none c.symbol_after.result _ _ (λ stopped qs. c.loop-parts.invariant.goes (sign_of sign.RoundClose ∷ qs)
    ∙ dropped_more c.loop-parts.self c.in_default-symbol.ensures.other (sign_of sign.RoundClose ∷ qs)
    ∙ ap (outcome (sign_of sign.RoundClose ∷ qs)) (sym c.in_default-symbol.ensures.left) ∙ stopped qs) c.symbol_after.ensures.refused

pub list-returns-clause-reads : goal.list-returns-clause-reads
list-returns-clause-reads t c =
    where_same c.loop-parts.parts c.symbol_after.result _ _ c.symbol_after.ensures.same c.symbol_after.ensures.reads (λ read qs.
    all_read c.args.self.now c.loop-parts.self c.loop-parts.parts c.loop-parts.invariant (symbol sign.RoundClose ∷ qs)
    ∙ ap (in_turn (symbol sign.RoundClose ∷ qs)) (sym c.in_default-symbol.ensures.left) ∙ read qs)

pub list-returns-clause-filled : goal.list-returns-clause-filled
list-returns-clause-filled t c =
    where_same c.loop-parts.parts c.symbol_after.result _ _ c.symbol_after.ensures.same c.symbol_after.ensures.reads (λ read.
    all_filled c.args.self.now c.loop-parts.self c.loop-parts.parts c.loop-parts.invariant)

pub list-returns-clause-goes : goal.list-returns-clause-goes
list-returns-clause-goes t c =
    where_some c.symbol_after.result _ _ (λ gone qs. c.loop-parts.invariant.goes (sign_of sign.RoundClose ∷ qs)
    ∙ dropped_more c.loop-parts.self c.in_default-symbol.ensures.other (sign_of sign.RoundClose ∷ qs)
    ∙ ap (outcome (sign_of sign.RoundClose ∷ qs)) (sym c.in_default-symbol.ensures.left) ∙ gone qs) c.symbol_after.ensures.goes

pub list-returns-clause-shorter : goal.list-returns-clause-shorter
list-returns-clause-shorter t c =
    where_some c.symbol_after.result _ _ (λ shorter. omega (arith, shorter, c.loop-parts.invariant.shorter, ap length c.in_default-symbol.ensures.left))
    c.symbol_after.ensures.shorter

pub named-returns-in_default-clause-reads : goal.named-returns-in_default-clause-reads
named-returns-in_default-clause-reads t c =
    λ qs. reads_variable c.args.name c.args.self.now qs ∙ ap (in_turn qs) (sym c.in_default.ensures.left)

pub named-returns-in_default-clause-indexable : goal.named-returns-in_default-clause-indexable
named-returns-in_default-clause-indexable t c = ap (λ (p : Phrase). p.indexable) (parts_variable c.args.name)

pub named-returns-in_default-clause-goes : goal.named-returns-in_default-clause-goes
named-returns-in_default-clause-goes t c =
    λ qs. begins_name c.args.name.text c.args.name.place c.args.self.now qs
    ∙ dropped_arguments c.args.self.now c.in_default.ensures.other (indices ∷ qs) ∙ ap (outcome (indices ∷ qs)) (sym c.in_default.ensures.left)

pub named-returns-in_default-2-clause-refused : goal.named-returns-in_default-2-clause-refused
named-returns-in_default-2-clause-refused t c =
    let none = rw c.in_default-2.is at c.in_ok-name.ensures.refused in
    let stopped = rw none at c.arguments.ensures.refused in
    λ qs. begins_name c.args.name.text c.args.name.place c.args.self.now qs ∙ ap (outcome (arguments ∷ indices ∷ qs)) c.in-Some.ensures.taken
    ∙ begins_arguments c.in-Some.field-0 c.symbol.new.self (indices ∷ qs) ∙ stopped (indices ∷ qs)

pub named-returns-clause-reads : goal.named-returns-clause-reads
named-returns-clause-reads t c =
    let x = c.in-Some-2.name in
    let es = c.in-Some-2.arguments in
    let parts = rw c.in-Some-2.is at c.in_ok-name.ensures.read in
    let read = rw parts.1 at c.arguments.ensures.reads in
    rw parts.0 (λ qs. reads_apply x es c.args.self.now qs ∙ c.in-Some.ensures.reads (any (map phrase es) ∷ symbol sign.RoundClose ∷ qs) ∙ read qs)

pub named-returns-clause-indexable : goal.named-returns-clause-indexable
named-returns-clause-indexable t c = ap (λ (p : Phrase). p.indexable) (parts_apply c.in-Some-2.name c.in-Some-2.arguments)

pub named-returns-clause-goes : goal.named-returns-clause-goes
named-returns-clause-goes t c =
    let parts = rw c.in-Some-2.is at c.in_ok-name.ensures.read in
    let goes = rw parts.1 at c.arguments.ensures.goes in
    λ qs. begins_name c.args.name.text c.args.name.place c.args.self.now qs ∙ ap (outcome (arguments ∷ indices ∷ qs)) c.in-Some.ensures.taken
    ∙ begins_arguments c.in-Some.field-0 c.symbol.new.self (indices ∷ qs) ∙ goes (indices ∷ qs)

pub quantified-returns-in_default-3-clause-refused : goal.quantified-returns-in_default-3-clause-refused
quantified-returns-in_default-3-clause-refused t c =
    let range = rw c.in-Some-2.is at c.in_ok-range.ensures.goes in
    let none = rw c.in_default-3.is at c.in_ok-range-2.ensures.refused in
    let part = rw none at c.part.ensures.refused in
    λ qs. begins_quantified c.args.which c.args.first c.args.self.now qs
    ∙ c.in-Some.ensures.goes (name ∷ sign_of sign.Colon ∷ number ∷ exactly (mark.Keyword word.Below) ∷ number ∷ sign_of sign.Comma ∷ expression
    ∷ sign_of sign.RoundClose ∷ indices ∷ qs)
    ∙ range (sign_of sign.Comma ∷ expression ∷ sign_of sign.RoundClose ∷ indices ∷ qs)
    ∙ c.in-Some-symbol_after.ensures.goes (expression ∷ sign_of sign.RoundClose ∷ indices ∷ qs) ∙ part (indices ∷ qs)

pub pick-returns-in_default-clause-refused : goal.pick-returns-in_default-clause-refused
pick-returns-in_default-clause-refused t c =
    λ qs. begins_pick c.args.first c.args.self.now qs
    ∙ c.in_default.ensures.refused (expression ∷ sign_of sign.Comma ∷ expression ∷ sign_of sign.Comma ∷ expression ∷ sign_of sign.RoundClose
    ∷ indices ∷ qs)

pub pick-returns-in_default-2-clause-refused : goal.pick-returns-in_default-2-clause-refused
pick-returns-in_default-2-clause-refused t c =
    let stopped = rw c.in_default-2.is at c.in_ok-test.ensures.refused in
    λ qs. begins_pick c.args.first c.args.self.now qs
    ∙ c.in-Some.ensures.goes (expression ∷ sign_of sign.Comma ∷ expression ∷ sign_of sign.Comma ∷ expression ∷ sign_of sign.RoundClose ∷ indices ∷ qs)
    ∙ stopped (expression ∷ sign_of sign.Comma ∷ expression ∷ sign_of sign.RoundClose ∷ indices ∷ qs)

pub pick-returns-in_default-3-clause-refused : goal.pick-returns-in_default-3-clause-refused
pick-returns-in_default-3-clause-refused t c =
    let test_goes = rw c.in-Some-2.is at c.in_ok-test.ensures.goes in
    let stopped = rw c.in_default-3.is at c.in_ok-left.ensures.refused in
    λ qs. begins_pick c.args.first c.args.self.now qs
    ∙ c.in-Some.ensures.goes (expression ∷ sign_of sign.Comma ∷ expression ∷ sign_of sign.Comma ∷ expression ∷ sign_of sign.RoundClose ∷ indices ∷ qs)
    ∙ test_goes (expression ∷ sign_of sign.Comma ∷ expression ∷ sign_of sign.RoundClose ∷ indices ∷ qs)
    ∙ stopped (expression ∷ sign_of sign.RoundClose ∷ indices ∷ qs)

pub pick-returns-in_default-4-clause-refused : goal.pick-returns-in_default-4-clause-refused
pick-returns-in_default-4-clause-refused t c =
    let test_goes = rw c.in-Some-2.is at c.in_ok-test.ensures.goes in
    let left_goes = rw c.in-Some-3.is at c.in_ok-left.ensures.goes in
    let stopped = rw c.in_default-4.is at c.in_ok-right.ensures.refused in
    λ qs. begins_pick c.args.first c.args.self.now qs
    ∙ c.in-Some.ensures.goes (expression ∷ sign_of sign.Comma ∷ expression ∷ sign_of sign.Comma ∷ expression ∷ sign_of sign.RoundClose ∷ indices ∷ qs)
    ∙ test_goes (expression ∷ sign_of sign.Comma ∷ expression ∷ sign_of sign.RoundClose ∷ indices ∷ qs)
    ∙ left_goes (expression ∷ sign_of sign.RoundClose ∷ indices ∷ qs) ∙ stopped (indices ∷ qs)

pub pick-returns-clause-reads : goal.pick-returns-clause-reads
pick-returns-clause-reads t c =
    let test_reads = rw c.in-Some-2.is at c.in_ok-test.ensures.reads in
    let left_reads = rw c.in-Some-3.is at c.in_ok-left.ensures.reads in
    let right_reads = rw c.in-Some-4.is at c.in_ok-right.ensures.reads in
    λ qs. reads_pick c.args.first c.in-Some-2.test c.in-Some-3.left c.in-Some-4.right c.args.self.now qs
    ∙ c.in-Some.ensures.reads (expr c.in-Some-2.test ∷ symbol sign.Comma ∷ expr c.in-Some-3.left ∷ symbol sign.Comma ∷ expr c.in-Some-4.right
    ∷ symbol sign.RoundClose ∷ qs)
    ∙ test_reads (expr c.in-Some-3.left ∷ symbol sign.Comma ∷ expr c.in-Some-4.right ∷ symbol sign.RoundClose ∷ qs)
    ∙ left_reads (expr c.in-Some-4.right ∷ symbol sign.RoundClose ∷ qs) ∙ right_reads qs

pub pick-returns-clause-goes : goal.pick-returns-clause-goes
pick-returns-clause-goes t c =
    let test_goes = rw c.in-Some-2.is at c.in_ok-test.ensures.goes in
    let left_goes = rw c.in-Some-3.is at c.in_ok-left.ensures.goes in
    let right_goes = rw c.in-Some-4.is at c.in_ok-right.ensures.goes in
    λ qs. begins_pick c.args.first c.args.self.now qs
    ∙ c.in-Some.ensures.goes (expression ∷ sign_of sign.Comma ∷ expression ∷ sign_of sign.Comma ∷ expression ∷ sign_of sign.RoundClose ∷ indices ∷ qs)
    ∙ test_goes (expression ∷ sign_of sign.Comma ∷ expression ∷ sign_of sign.RoundClose ∷ indices ∷ qs)
    ∙ left_goes (expression ∷ sign_of sign.RoundClose ∷ indices ∷ qs) ∙ right_goes (indices ∷ qs)

pub pick-returns-clause-indexable : goal.pick-returns-clause-indexable
pick-returns-clause-indexable t c =
    ap (λ (p : Phrase). p.indexable) (parts_pick c.args.first c.in-Some-2.test c.in-Some-3.left c.in-Some-4.right)

pub resize-returns-in_default-clause-refused : goal.resize-returns-in_default-clause-refused
resize-returns-in_default-clause-refused t c =
    λ qs. begins_resize c.args.first c.args.self.now qs
    ∙ c.in_default.ensures.refused (expression ∷ sign_of sign.Comma ∷ number ∷ sign_of sign.RoundClose ∷ indices ∷ qs)

pub resize-returns-in_default-2-clause-refused : goal.resize-returns-in_default-2-clause-refused
resize-returns-in_default-2-clause-refused t c =
    let stopped = rw c.in_default-2.is at c.in_ok-part.ensures.refused in
    λ qs. begins_resize c.args.first c.args.self.now qs
    ∙ c.in-Some.ensures.goes (expression ∷ sign_of sign.Comma ∷ number ∷ sign_of sign.RoundClose ∷ indices ∷ qs)
    ∙ stopped (number ∷ sign_of sign.RoundClose ∷ indices ∷ qs)

pub resize-returns-in_default-number-clause-refused : goal.resize-returns-in_default-number-clause-refused
resize-returns-in_default-number-clause-refused t c =
    let part_goes = rw c.in-Some-2.is at c.in_ok-part.ensures.goes in
    λ qs. begins_resize c.args.first c.args.self.now qs
    ∙ c.in-Some.ensures.goes (expression ∷ sign_of sign.Comma ∷ number ∷ sign_of sign.RoundClose ∷ indices ∷ qs)
    ∙ part_goes (number ∷ sign_of sign.RoundClose ∷ indices ∷ qs) ∙ c.in_default-number.ensures.refused (sign_of sign.RoundClose ∷ indices ∷ qs)

pub resize-returns-in_default-symbol-clause-refused : goal.resize-returns-in_default-symbol-clause-refused
resize-returns-in_default-symbol-clause-refused t c =
    let part_goes = rw c.in-Some-2.is at c.in_ok-part.ensures.goes in
    λ qs. begins_resize c.args.first c.args.self.now qs
    ∙ c.in-Some.ensures.goes (expression ∷ sign_of sign.Comma ∷ number ∷ sign_of sign.RoundClose ∷ indices ∷ qs)
    ∙ part_goes (number ∷ sign_of sign.RoundClose ∷ indices ∷ qs) ∙ c.in-Some-number.ensures.goes (sign_of sign.RoundClose ∷ indices ∷ qs)
    ∙ c.in_default-symbol.ensures.refused (indices ∷ qs)

pub resize-returns-clause-reads : goal.resize-returns-clause-reads
resize-returns-clause-reads t c =
    let part_reads = rw c.in-Some-2.is at c.in_ok-part.ensures.reads in
    λ qs. reads_resize c.args.first c.in-Some-2.part c.in-Some-number.width c.args.self.now qs
    ∙ c.in-Some.ensures.reads (expr c.in-Some-2.part ∷ symbol sign.Comma ∷ numbered c.in-Some-number.width ∷ symbol sign.RoundClose ∷ qs)
    ∙ part_reads (numbered c.in-Some-number.width ∷ symbol sign.RoundClose ∷ qs) ∙ c.in-Some-number.ensures.reads (symbol sign.RoundClose ∷ qs)
    ∙ c.in-Some-symbol.ensures.reads qs

pub resize-returns-clause-goes : goal.resize-returns-clause-goes
resize-returns-clause-goes t c =
    let part_goes = rw c.in-Some-2.is at c.in_ok-part.ensures.goes in
    λ qs. begins_resize c.args.first c.args.self.now qs
    ∙ c.in-Some.ensures.goes (expression ∷ sign_of sign.Comma ∷ number ∷ sign_of sign.RoundClose ∷ indices ∷ qs)
    ∙ part_goes (number ∷ sign_of sign.RoundClose ∷ indices ∷ qs) ∙ c.in-Some-number.ensures.goes (sign_of sign.RoundClose ∷ indices ∷ qs)
    ∙ c.in-Some-symbol.ensures.goes (indices ∷ qs)

pub resize-returns-clause-indexable : goal.resize-returns-clause-indexable
resize-returns-clause-indexable t c =
    ap (λ (p : Phrase). p.indexable) (parts_resize c.args.first c.in-Some-2.part c.in-Some-number.width)

pub fill-returns-in_default-clause-refused : goal.fill-returns-in_default-clause-refused
fill-returns-in_default-clause-refused t c =
    λ qs. begins_fill c.args.first c.args.self.now qs
    ∙ c.in_default.ensures.refused (number ∷ sign_of sign.Comma ∷ expression ∷ sign_of sign.RoundClose ∷ indices ∷ qs)

pub fill-returns-in_default-number-clause-refused : goal.fill-returns-in_default-number-clause-refused
fill-returns-in_default-number-clause-refused t c =
    λ qs. begins_fill c.args.first c.args.self.now qs
    ∙ c.in-Some.ensures.goes (number ∷ sign_of sign.Comma ∷ expression ∷ sign_of sign.RoundClose ∷ indices ∷ qs)
    ∙ c.in_default-number.ensures.refused (sign_of sign.Comma ∷ expression ∷ sign_of sign.RoundClose ∷ indices ∷ qs)

pub fill-returns-in_default-symbol-clause-refused : goal.fill-returns-in_default-symbol-clause-refused
fill-returns-in_default-symbol-clause-refused t c =
    λ qs. begins_fill c.args.first c.args.self.now qs
    ∙ c.in-Some.ensures.goes (number ∷ sign_of sign.Comma ∷ expression ∷ sign_of sign.RoundClose ∷ indices ∷ qs)
    ∙ c.in-Some-number.ensures.goes (sign_of sign.Comma ∷ expression ∷ sign_of sign.RoundClose ∷ indices ∷ qs)
    ∙ c.in_default-symbol.ensures.refused (expression ∷ sign_of sign.RoundClose ∷ indices ∷ qs)

pub fill-returns-in_default-2-clause-refused : goal.fill-returns-in_default-2-clause-refused
fill-returns-in_default-2-clause-refused t c =
    let stopped = rw c.in_default-2.is at c.in_ok-part.ensures.refused in
    λ qs. begins_fill c.args.first c.args.self.now qs
    ∙ c.in-Some.ensures.goes (number ∷ sign_of sign.Comma ∷ expression ∷ sign_of sign.RoundClose ∷ indices ∷ qs)
    ∙ c.in-Some-number.ensures.goes (sign_of sign.Comma ∷ expression ∷ sign_of sign.RoundClose ∷ indices ∷ qs)
    ∙ c.in-Some-symbol.ensures.goes (expression ∷ sign_of sign.RoundClose ∷ indices ∷ qs) ∙ stopped (indices ∷ qs)

pub fill-returns-clause-reads : goal.fill-returns-clause-reads
fill-returns-clause-reads t c =
    let part_reads = rw c.in-Some-2.is at c.in_ok-part.ensures.reads in
    λ qs. reads_fill c.args.first c.in-Some-number.count c.in-Some-2.part c.args.self.now qs
    ∙ c.in-Some.ensures.reads (numbered c.in-Some-number.count ∷ symbol sign.Comma ∷ expr c.in-Some-2.part ∷ symbol sign.RoundClose ∷ qs)
    ∙ c.in-Some-number.ensures.reads (symbol sign.Comma ∷ expr c.in-Some-2.part ∷ symbol sign.RoundClose ∷ qs)
    ∙ c.in-Some-symbol.ensures.reads (expr c.in-Some-2.part ∷ symbol sign.RoundClose ∷ qs) ∙ part_reads qs

pub fill-returns-clause-goes : goal.fill-returns-clause-goes
fill-returns-clause-goes t c =
    let part_goes = rw c.in-Some-2.is at c.in_ok-part.ensures.goes in
    λ qs. begins_fill c.args.first c.args.self.now qs
    ∙ c.in-Some.ensures.goes (number ∷ sign_of sign.Comma ∷ expression ∷ sign_of sign.RoundClose ∷ indices ∷ qs)
    ∙ c.in-Some-number.ensures.goes (sign_of sign.Comma ∷ expression ∷ sign_of sign.RoundClose ∷ indices ∷ qs)
    ∙ c.in-Some-symbol.ensures.goes (expression ∷ sign_of sign.RoundClose ∷ indices ∷ qs) ∙ part_goes (indices ∷ qs)

pub fill-returns-clause-indexable : goal.fill-returns-clause-indexable
fill-returns-clause-indexable t c =
    ap (λ (p : Phrase). p.indexable) (parts_fill c.args.first c.in-Some-number.count c.in-Some-2.part)

pub row-returns-in_default-clause-refused : goal.row-returns-in_default-clause-refused
row-returns-in_default-clause-refused t c =
    λ qs. begins_row c.args.first c.args.self.now qs
    ∙ c.in_default.ensures.refused (expression ∷ more_expressions ∷ sign_of sign.RoundClose ∷ indices ∷ qs)

pub row-returns-in_default-2-clause-refused : goal.row-returns-in_default-2-clause-refused
row-returns-in_default-2-clause-refused t c =
    let stopped = rw c.in_default-2.is at c.in_ok-parts.ensures.refused in
    λ qs. begins_row c.args.first c.args.self.now qs ∙ c.in-Some.ensures.goes (expression ∷ more_expressions ∷ sign_of sign.RoundClose ∷ indices ∷ qs)
    ∙ stopped (indices ∷ qs)

pub row-returns-clause-reads : goal.row-returns-clause-reads
row-returns-clause-reads t c =
    let list_reads = rw c.in-Some-2.is at c.in_ok-parts.ensures.reads in
    λ qs. reads_row c.args.first c.in-Some-2.parts c.args.self.now qs
    ∙ c.in-Some.ensures.reads (some (map phrase c.in-Some-2.parts) ∷ symbol sign.RoundClose ∷ qs) ∙ list_reads qs

pub row-returns-clause-goes : goal.row-returns-clause-goes
row-returns-clause-goes t c =
    let list_goes = rw c.in-Some-2.is at c.in_ok-parts.ensures.goes in
    λ qs. begins_row c.args.first c.args.self.now qs ∙ c.in-Some.ensures.goes (expression ∷ more_expressions ∷ sign_of sign.RoundClose ∷ indices ∷ qs)
    ∙ list_goes (indices ∷ qs)

pub row-returns-clause-indexable : goal.row-returns-clause-indexable
row-returns-clause-indexable t c =
    ap (λ (p : Phrase). p.indexable) (parts_row c.args.first c.in-Some-2.parts)

pub binary-returns-in_default-clause-refused : goal.binary-returns-in_default-clause-refused
binary-returns-in_default-clause-refused t c =
    let stopped = rw c.in_default.is at c.in_ok-left.ensures.refused in
    λ qs. begins_binary c.args.first c.args.self.now qs ∙ stopped (expression ∷ sign_of sign.RoundClose ∷ indices ∷ qs)

pub binary-returns-in_default-2-clause-refused : goal.binary-returns-in_default-2-clause-refused
binary-returns-in_default-2-clause-refused t c =
    let left_goes = rw c.in-Some.is at c.in_ok-left.ensures.goes in
    let stopped = rw c.in_default-2.is at c.in_ok-right.ensures.refused in
    λ qs. begins_binary c.args.first c.args.self.now qs ∙ left_goes (expression ∷ sign_of sign.RoundClose ∷ indices ∷ qs) ∙ stopped (indices ∷ qs)

pub binary-returns-clause-reads : goal.binary-returns-clause-reads
binary-returns-clause-reads t c =
    let left_reads = rw c.in-Some.is at c.in_ok-left.ensures.reads in
    let right_reads = rw c.in-Some-2.is at c.in_ok-right.ensures.reads in
    λ qs. reads_binary c.args.first c.in-Some.left c.in-Some.operator c.in-Some.place c.in-Some-2.right c.args.self.now qs
    ∙ left_reads (expr c.in-Some-2.right ∷ symbol sign.RoundClose ∷ qs) ∙ right_reads qs

pub binary-returns-clause-goes : goal.binary-returns-clause-goes
binary-returns-clause-goes t c =
    let left_goes = rw c.in-Some.is at c.in_ok-left.ensures.goes in
    let right_goes = rw c.in-Some-2.is at c.in_ok-right.ensures.goes in
    λ qs. begins_binary c.args.first c.args.self.now qs ∙ left_goes (expression ∷ sign_of sign.RoundClose ∷ indices ∷ qs) ∙ right_goes (indices ∷ qs)

pub binary-returns-clause-indexable : goal.binary-returns-clause-indexable
binary-returns-clause-indexable t c =
    ap (λ (p : Phrase). p.indexable) (parts_binary c.args.first c.in-Some.left c.in-Some.operator c.in-Some.place c.in-Some-2.right)

pub quantified-returns-in_default-clause-refused : goal.quantified-returns-in_default-clause-refused
quantified-returns-in_default-clause-refused t c =
    λ qs. begins_quantified c.args.which c.args.first c.args.self.now qs
    ∙ c.in_default.ensures.refused (name ∷ sign_of sign.Colon ∷ number ∷ exactly (mark.Keyword word.Below) ∷ number ∷ sign_of sign.Comma
    ∷ expression ∷ sign_of sign.RoundClose ∷ indices ∷ qs)

pub quantified-returns-in_default-2-clause-refused : goal.quantified-returns-in_default-2-clause-refused
quantified-returns-in_default-2-clause-refused t c =
    let stopped = rw c.in_default-2.is at c.in_ok-range.ensures.refused in
    λ qs. begins_quantified c.args.which c.args.first c.args.self.now qs
    ∙ c.in-Some.ensures.goes (name ∷ sign_of sign.Colon ∷ number ∷ exactly (mark.Keyword word.Below) ∷ number ∷ sign_of sign.Comma ∷ expression
    ∷ sign_of sign.RoundClose ∷ indices ∷ qs)
    ∙ stopped (sign_of sign.Comma ∷ expression ∷ sign_of sign.RoundClose ∷ indices ∷ qs)

pub quantified-returns-in_default-symbol_after-clause-refused : goal.quantified-returns-in_default-symbol_after-clause-refused
quantified-returns-in_default-symbol_after-clause-refused t c =
    let range_goes = rw c.in-Some-2.is at c.in_ok-range.ensures.goes in
    λ qs. begins_quantified c.args.which c.args.first c.args.self.now qs
    ∙ c.in-Some.ensures.goes (name ∷ sign_of sign.Colon ∷ number ∷ exactly (mark.Keyword word.Below) ∷ number ∷ sign_of sign.Comma ∷ expression
    ∷ sign_of sign.RoundClose ∷ indices ∷ qs)
    ∙ range_goes (sign_of sign.Comma ∷ expression ∷ sign_of sign.RoundClose ∷ indices ∷ qs)
    ∙ c.in_default-symbol_after.ensures.refused (expression ∷ sign_of sign.RoundClose ∷ indices ∷ qs)

pub quantified-returns-clause-reads : goal.quantified-returns-clause-reads
quantified-returns-clause-reads t c =
    let x = c.in-Some-3.range in
    let test = c.in-Some-3.test in
    let parts = rw c.in-Some-3.is at c.in_ok-range-2.ensures.read in
    let first = rw c.in-Some-2.is at c.in_ok-range.ensures.reads in
    let kept = rw c.in-Some-symbol_after.ensures.same at first in
    let range = rw parts.0 at kept in
    let test_reads = rw parts.1 at c.part.ensures.reads in
    λ qs. reads_quantified c.args.first c.args.which x.0 x.1 x.2 test c.args.self.now qs
    ∙ c.in-Some.ensures.reads (named x.0 ∷ symbol sign.Colon ∷ numbered x.1 ∷ keyword word.Below ∷ numbered x.2 ∷ symbol sign.Comma ∷ expr test
    ∷ symbol sign.RoundClose ∷ qs)
    ∙ range (symbol sign.Comma ∷ expr test ∷ symbol sign.RoundClose ∷ qs)
    ∙ c.in-Some-symbol_after.ensures.reads (expr test ∷ symbol sign.RoundClose ∷ qs) ∙ test_reads qs

pub quantified-returns-clause-goes : goal.quantified-returns-clause-goes
quantified-returns-clause-goes t c =
    let parts = rw c.in-Some-3.is at c.in_ok-range-2.ensures.read in
    let range_goes = rw c.in-Some-2.is at c.in_ok-range.ensures.goes in
    let test_goes = rw parts.1 at c.part.ensures.goes in
    λ qs. begins_quantified c.args.which c.args.first c.args.self.now qs
    ∙ c.in-Some.ensures.goes (name ∷ sign_of sign.Colon ∷ number ∷ exactly (mark.Keyword word.Below) ∷ number ∷ sign_of sign.Comma ∷ expression
    ∷ sign_of sign.RoundClose ∷ indices ∷ qs)
    ∙ range_goes (sign_of sign.Comma ∷ expression ∷ sign_of sign.RoundClose ∷ indices ∷ qs)
    ∙ c.in-Some-symbol_after.ensures.goes (expression ∷ sign_of sign.RoundClose ∷ indices ∷ qs) ∙ test_goes (indices ∷ qs)

pub quantified-returns-clause-indexable : goal.quantified-returns-clause-indexable
quantified-returns-clause-indexable t c =
    let x = c.in-Some-3.range in
    ap (λ (p : Phrase). p.indexable) (parts_quantified c.args.first c.args.which x.0 x.1 x.2 c.in-Some-3.test)
