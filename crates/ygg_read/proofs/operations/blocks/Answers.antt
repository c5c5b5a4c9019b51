use Rattle.std.proofs.Common.{◌∷◌, ◌∙◌, sym, ap, length, arith}
use Rattle.ygg_base.specs.declared.token.Symbol.TheVariants as sign
use Rattle.ygg_base.specs.declared.token.Mark.TheVariants as mark
use Rattle.ygg_syntax.specs.Reading.{starts, in_turn}
use Rattle.ygg_syntax.specs.Files.{operation_blocks}
use Rattle.ygg_syntax.specs.Pending.{rest_of_operation, outcome, stops}
use Rattle.ygg_read.proofs.Results.{where_read, where_gone, where_refused}
use Rattle.ygg_read.specs.Parts.{operation_of}
use Rattle.ygg_read.proofs.Files.{stopped_blocks}
use Rattle.ygg_read.proofs.LayerClaims.{begins_spec, begins_arrow}
use Rattle.ygg_read.proofs.operations.blocks.Goals as goal

pub returns-in-Some-clause-reads : goal.returns-in-Some-clause-reads
returns-in-Some-clause-reads c =
    where_read c.silent.result _ _ (λ b read. λ x arguments qs. ap (in_turn (operation_blocks (operation_of x arguments b) b.answer ∷ qs))
    c.in-Some.ensures.taken ∙ read x arguments c.in-Some.field-0 qs) c.silent.ensures.reads

pub returns-in-Some-clause-goes : goal.returns-in-Some-clause-goes
returns-in-Some-clause-goes c =
    where_gone c.silent.result _ _ (λ gone qs. ap (outcome (rest_of_operation ∷ qs)) c.in-Some.ensures.taken
    ∙ begins_spec c.in-Some.field-0 c.keyword.new.self qs ∙ gone qs) c.silent.ensures.goes

pub returns-in-Some-clause-refused : goal.returns-in-Some-clause-refused
returns-in-Some-clause-refused c =
    where_refused c.silent.result _ _ (λ stopped qs. ap (outcome (rest_of_operation ∷ qs)) c.in-Some.ensures.taken
    ∙ begins_spec c.in-Some.field-0 c.keyword.new.self qs ∙ stopped qs) c.silent.ensures.refused

pub returns-in-Some-clause-shorter : goal.returns-in-Some-clause-shorter
returns-in-Some-clause-shorter c =
    where_gone c.silent.result _ _ (λ shorter. omega (arith, shorter, ap length c.in-Some.ensures.taken)) c.silent.ensures.shorter

pub returns-in-Some-symbol-clause-reads : goal.returns-in-Some-symbol-clause-reads
returns-in-Some-symbol-clause-reads c =
    where_read c.answered.result _ _ (λ b read. λ x arguments qs. ap (in_turn (operation_blocks (operation_of x arguments b) b.answer ∷ qs))
    (sym c.in_default.ensures.left ∙ c.in-Some-symbol.ensures.taken) ∙ read x arguments c.in-Some-symbol.field-0 qs) c.answered.ensures.reads

pub returns-in-Some-symbol-clause-goes : goal.returns-in-Some-symbol-clause-goes
returns-in-Some-symbol-clause-goes c =
    let taken = sym c.in_default.ensures.left ∙ c.in-Some-symbol.ensures.taken in
    where_gone c.answered.result _ _ (λ gone qs. ap (outcome (rest_of_operation ∷ qs)) taken
    ∙ begins_arrow c.in-Some-symbol.field-0 c.symbol.new.self qs ∙ gone qs) c.answered.ensures.goes

pub returns-in-Some-symbol-clause-refused : goal.returns-in-Some-symbol-clause-refused
returns-in-Some-symbol-clause-refused c =
    let taken = sym c.in_default.ensures.left ∙ c.in-Some-symbol.ensures.taken in
    where_refused c.answered.result _ _ (λ stopped qs. ap (outcome (rest_of_operation ∷ qs)) taken
    ∙ begins_arrow c.in-Some-symbol.field-0 c.symbol.new.self qs ∙ stopped qs) c.answered.ensures.refused

pub returns-in-Some-symbol-clause-shorter : goal.returns-in-Some-symbol-clause-shorter
returns-in-Some-symbol-clause-shorter c =
    let taken = sym c.in_default.ensures.left ∙ c.in-Some-symbol.ensures.taken in
    where_gone c.answered.result _ _ (λ shorter. omega (arith, shorter, ap length taken)) c.answered.ensures.shorter

pub returns-clause-refused : goal.returns-clause-refused
returns-clause-refused c =
    let left = sym c.in_default.ensures.left in
    λ qs. stopped_blocks c.args.reader.now c.in_default.ensures.other (ap (starts (mark.Symbol sign.Arrow)) left ∙ c.in_default-symbol.ensures.other) qs
    ∙ ap (λ ts. stops (length ts)) (left ∙ sym c.in_default-symbol.ensures.left)
