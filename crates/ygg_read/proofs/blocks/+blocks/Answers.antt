use Rattle.std.proofs.Common.{◌≡◌, false, [], ◌∷◌, ◌∙◌, length, refl, sym, ap, rules, arith}
use Rattle.ygg_base.specs.declared.token.Keyword.TheVariants as word
use Rattle.ygg_base.specs.declared.token.Symbol.TheVariants as sign
use Rattle.ygg_base.specs.declared.token.Mark.TheVariants as mark
use Rattle.ygg_syntax.specs.declared.grammar.BlockKind.TheVariants.{Impl}
use Rattle.ygg_syntax.specs.Reading.{starts, in_turn}
use Rattle.ygg_syntax.specs.Pending.{perhaps, block, statements, else_block, sign_of, outcome}
use Rattle.ygg_read.specs.ExpressionSteps.{Reads, Goes, Stops}
use Rattle.ygg_syntax.specs.Blocks as phrase
use Rattle.ygg_read.specs.Steps.{ForPart, begins}
use Rattle.ygg_read.proofs.Begins.{
  begins_assign,
  begins_let,
  begins_if,
  begins_for,
  begins_call,
  calls,
  begun,
  begins_block,
  stopped_block,
  begins_part,
  no_part,
  no_statement,
}
use Rattle.ygg_read.proofs.Lists.{statement_more, all_statements}
use Rattle.ygg_read.proofs.Phrases.{reads_block, reads_written, reads_unwritten, reads_if, reads_for}
use Rattle.ygg_read.proofs.Results.{where_read, where_gone, where_refused, where_joined, where_joined_gone, where_joined_refused}
use Rattle.ygg_read.proofs.blocks.+blocks.Goals as goal

pub block-returns-in_default-clause-refused : goal.block-returns-in_default-clause-refused
block-returns-in_default-clause-refused t c =
    λ qs. stopped_block c.args.kind c.args.reader.now c.in_default.ensures.other qs ∙ c.in_default.ensures.refused qs

pub block-returns-in_default-2-clause-refused : goal.block-returns-in_default-2-clause-refused
block-returns-in_default-2-clause-refused t c =
    let stopped = rw c.in_default-2.is at c.in_ok-statements.ensures.refused in
    λ qs. ap (outcome (block c.args.kind ∷ qs)) c.in-Some.ensures.taken ∙ begins_block c.args.kind c.in-Some.place c.symbol.new.self qs
    ∙ stopped (sign_of sign.BraceClose ∷ qs)

pub block-returns-in_default-symbol_after-clause-refused : goal.block-returns-in_default-symbol_after-clause-refused
block-returns-in_default-symbol_after-clause-refused t c =
    let gone = rw c.in-Some-2.is at c.in_ok-statements.ensures.goes in
    λ qs. ap (outcome (block c.args.kind ∷ qs)) c.in-Some.ensures.taken ∙ begins_block c.args.kind c.in-Some.place c.symbol.new.self qs
    ∙ gone (sign_of sign.BraceClose ∷ qs) ∙ c.in_default-symbol_after.ensures.refused qs

pub block-returns-clause-reads : goal.block-returns-clause-reads
block-returns-clause-reads t c =
    let first = rw c.in-Some-2.is at c.in_ok-statements.ensures.reads in
    let read = rw c.in-Some-symbol_after.ensures.same at first in
    reads_block c.args.kind c.in-Some.place c.in-Some-symbol_after.statements c.args.reader.now c.symbol.new.self c.statements.new.reader
    c.symbol_after.new.self c.in-Some.ensures.taken read c.in-Some-symbol_after.ensures.reads

pub block-returns-clause-goes : goal.block-returns-clause-goes
block-returns-clause-goes t c =
    let gone = rw c.in-Some-2.is at c.in_ok-statements.ensures.goes in
    λ qs. ap (outcome (block c.args.kind ∷ qs)) c.in-Some.ensures.taken ∙ begins_block c.args.kind c.in-Some.place c.symbol.new.self qs
    ∙ gone (sign_of sign.BraceClose ∷ qs) ∙ c.in-Some-symbol_after.ensures.goes qs

pub optional-returns-in_default-clause-reads : goal.optional-returns-in_default-clause-reads
optional-returns-in_default-clause-reads t c =
    λ qs. reads_unwritten c.args.keyword c.args.kind c.unwritten.result c.args.reader.now c.in_default.ensures.other c.unwritten.ensures qs
    ∙ ap (in_turn qs) (sym c.in_default.ensures.left)

pub optional-returns-in_default-clause-goes : goal.optional-returns-in_default-clause-goes
optional-returns-in_default-clause-goes t c =
    λ p begin is qs. no_part p c.args.keyword c.args.reader.now begin c.in_default.ensures.other qs ∙ ap (outcome qs) (sym c.in_default.ensures.left)

pub optional-returns-clause-reads : goal.optional-returns-clause-reads
optional-returns-clause-reads t c =
    where_read c.block.result (λ b. Reads (phrase.block c.args.kind b ∷ []) c.keyword.new.self c.block.new.reader)
    (λ b. Reads (phrase.optional c.args.keyword c.args.kind b ∷ []) c.args.reader.now c.block.new.reader)
    (λ b. reads_written c.args.keyword c.args.kind b c.in-Some.field-0 c.args.reader.now c.keyword.new.self c.block.new.reader
    c.in-Some.ensures.taken) c.block.ensures.reads

pub optional-returns-clause-refused : goal.optional-returns-clause-refused
optional-returns-clause-refused t c =
    where_refused c.block.result (Stops (block c.args.kind ∷ []) c.keyword.new.self c.block.new.reader)
    (ForPart c.args.keyword c.args.kind (λ p. Stops (perhaps p ∷ []) c.args.reader.now c.block.new.reader))
    (λ stops p begin is qs. ap (outcome (perhaps p ∷ qs)) c.in-Some.ensures.taken
    ∙ begins_part p c.args.keyword c.args.kind begin is c.in-Some.field-0 c.keyword.new.self qs ∙ stops qs) c.block.ensures.refused

pub optional-returns-clause-goes : goal.optional-returns-clause-goes
optional-returns-clause-goes t c =
    where_gone c.block.result (Goes (block c.args.kind ∷ []) c.keyword.new.self c.block.new.reader)
    (ForPart c.args.keyword c.args.kind (λ p. Goes (perhaps p ∷ []) c.args.reader.now c.block.new.reader))
    (λ gone p begin is qs. ap (outcome (perhaps p ∷ qs)) c.in-Some.ensures.taken
    ∙ begins_part p c.args.keyword c.args.kind begin is c.in-Some.field-0 c.keyword.new.self qs ∙ gone qs) c.block.ensures.goes

pub statements-loop-kind-preserved : goal.statements-loop-kind-preserved
statements-loop-kind-preserved t c =
    let step = rw c.in-Some.is at c.in_ok-more.ensures.read in
    let reads = rw step.1.0 at c.statement.ensures.reads in
    let goes = rw step.1.0 at c.statement.ensures.goes in
    let shorter = rw step.1.0 at c.statement.ensures.shorter in
    statement_more c.args.kind _ c.loop-kind.reader c.statement.new.reader c.loop-kind.read c.in-Some.more step.0 c.loop-kind.invariant reads goes
    shorter step.1.1

pub statements-loop-kind-smaller : goal.statements-loop-kind-smaller
statements-loop-kind-smaller t c =
    let step = rw c.in-Some.is at c.in_ok-more.ensures.read in
    rw step.1.0 at c.statement.ensures.shorter

pub statements-returns-in_default-clause-refused : goal.statements-returns-in_default-clause-refused
statements-returns-in_default-clause-refused t c =
    let none = rw c.in_default.is at c.in_ok-more.ensures.refused in
    let stopped = rw none at c.statement.ensures.refused in
    λ qs. c.loop-kind.invariant.goes qs ∙ stopped qs

pub statements-returns-clause-reads : goal.statements-returns-clause-reads
statements-returns-clause-reads t c = all_statements c.args.kind c.args.reader.now c.loop-kind.reader c.loop-kind.read c.loop-kind.invariant

pub statements-returns-clause-goes : goal.statements-returns-clause-goes
statements-returns-clause-goes t c =
    let none : begins c.args.kind c.loop-kind.reader ≡ false = search rules in
    λ qs. c.loop-kind.invariant.goes qs ∙ no_statement c.args.kind c.loop-kind.reader none qs

pub branch-returns-in_default-2-clause-refused : goal.branch-returns-in_default-2-clause-refused
branch-returns-in_default-2-clause-refused t c =
    let gone = rw c.in-Some.is at c.in_ok-test.ensures.goes in
    let none = rw c.in_default-2.is at c.in_ok-read.ensures.refused in
    let stopped = rw none at c.sides.ensures.refused in
    λ qs. gone (block c.args.kind ∷ perhaps (else_block c.args.kind) ∷ qs) ∙ stopped qs

pub branch-returns-clause-reads : goal.branch-returns-clause-reads
branch-returns-clause-reads t c =
    let read = c.in-Some-2.read in
    let parts = rw c.in-Some-2.is at c.in_ok-read.ensures.read in
    let first = rw c.in-Some.is at c.in_ok-test.ensures.reads in
    let test = rw parts.0 at first in
    let blocks = rw parts.1 at c.sides.ensures.reads in
    λ at qs. reads_if read.0 read.1.0 read.1.1 c.args.kind at c.args.reader.now qs
    ∙ test (phrase.block c.args.kind read.1.0 ∷ phrase.optional word.Else c.args.kind read.1.1 ∷ qs) ∙ blocks qs

pub branch-returns-clause-goes : goal.branch-returns-clause-goes
branch-returns-clause-goes t c =
    let parts = rw c.in-Some-2.is at c.in_ok-read.ensures.read in
    let test = rw c.in-Some.is at c.in_ok-test.ensures.goes in
    let blocks = rw parts.1 at c.sides.ensures.goes in
    λ qs. test (block c.args.kind ∷ perhaps (else_block c.args.kind) ∷ qs) ∙ blocks qs

pub sides-returns-clause-refused : goal.sides-returns-clause-refused
sides-returns-clause-refused t c =
    let gone = rw c.in-Some.is at c.in_ok-first.ensures.goes in
    where_joined_refused c.optional.result c.both.result _ _ c.both.ensures.refused c.optional.ensures.refused
    (λ stopped qs. gone (perhaps (else_block c.args.kind) ∷ qs) ∙ stopped (else_block c.args.kind) refl refl qs)

pub sides-returns-clause-reads : goal.sides-returns-clause-reads
sides-returns-clause-reads t c =
    let whole = rw c.in-Some.is at c.in_ok-first.ensures.reads in
    where_joined c.in-Some.first c.optional.result c.both.result _ c.both.ensures.read (λ read is next.
    let first = rw is at whole in
    let rest = rw next at c.optional.ensures.reads in
    λ qs. first (phrase.optional word.Else c.args.kind read.1 ∷ qs) ∙ rest qs)

pub sides-returns-clause-goes : goal.sides-returns-clause-goes
sides-returns-clause-goes t c =
    let gone = rw c.in-Some.is at c.in_ok-first.ensures.goes in
    where_joined_gone c.in-Some.first c.optional.result c.both.result _ _ c.both.ensures.read c.optional.ensures.goes
    (λ rest qs. gone (perhaps (else_block c.args.kind) ∷ qs) ∙ rest (else_block c.args.kind) refl refl qs)

pub sides-returns-clause-shorter : goal.sides-returns-clause-shorter
sides-returns-clause-shorter t c =
    let before = rw c.in-Some.is at c.in_ok-first.ensures.shorter in
    where_joined_gone c.in-Some.first c.optional.result c.both.result _ _ c.both.ensures.read c.optional.ensures.shorter
    (λ shorter. omega (arith, before, shorter))

pub repetition-returns-in_default-2-clause-refused : goal.repetition-returns-in_default-2-clause-refused
repetition-returns-in_default-2-clause-refused t c =
    let gone = rw c.in-Some.is at c.in_ok-range.ensures.goes in
    let none = rw c.in_default-2.is at c.in_ok-range-2.ensures.refused in
    let stopped = rw none at c.block.ensures.refused in
    λ qs. gone (block c.args.kind ∷ qs) ∙ stopped qs

pub repetition-returns-clause-reads : goal.repetition-returns-clause-reads
repetition-returns-clause-reads t c =
    let x = c.in-Some-2.range in
    let each = c.in-Some-2.each in
    let parts = rw c.in-Some-2.is at c.in_ok-range-2.ensures.read in
    let first = rw c.in-Some.is at c.in_ok-range.ensures.reads in
    let range = rw parts.0 at first in
    let block = rw parts.1 at c.block.ensures.reads in
    λ at qs. reads_for x.0 x.1 x.2 each c.args.kind at c.args.reader.now qs ∙ range (phrase.block c.args.kind each ∷ qs) ∙ block qs

pub repetition-returns-clause-goes : goal.repetition-returns-clause-goes
repetition-returns-clause-goes t c =
    let parts = rw c.in-Some-2.is at c.in_ok-range-2.ensures.read in
    let range = rw c.in-Some.is at c.in_ok-range.ensures.goes in
    let each = rw parts.1 at c.block.ensures.goes in
    λ qs. range (block c.args.kind ∷ qs) ∙ each qs

pub statement-returns-in-Some-clause-reads : goal.statement-returns-in-Some-clause-reads
statement-returns-in-Some-clause-reads t c =
    let taken = rw c.in-Some.is at c.in_ok-name.ensures.taken in
    where_read c.assignment.result _ _ (λ s read qs. ap (in_turn (phrase.statement s c.args.kind ∷ qs)) taken ∙ read qs) c.assignment.ensures.reads

pub statement-returns-in-Some-clause-goes : goal.statement-returns-in-Some-clause-goes
statement-returns-in-Some-clause-goes t c =
    let taken = rw c.in-Some.is at c.in_ok-name.ensures.taken in
    where_gone c.assignment.result _ _ (λ gone qs. ap (outcome (statements c.args.kind ∷ qs)) taken
    ∙ begins_assign c.args.kind c.in-Some.name.text c.in-Some.name.place c.name.new.self qs ∙ gone (statements c.args.kind ∷ qs)) c.assignment.ensures.goes

pub statement-returns-in-Some-clause-refused : goal.statement-returns-in-Some-clause-refused
statement-returns-in-Some-clause-refused t c =
    let taken = rw c.in-Some.is at c.in_ok-name.ensures.taken in
    where_refused c.assignment.result _ _ (λ stopped qs. ap (outcome (statements c.args.kind ∷ qs)) taken
    ∙ begins_assign c.args.kind c.in-Some.name.text c.in-Some.name.place c.name.new.self qs ∙ stopped (statements c.args.kind ∷ qs))
    c.assignment.ensures.refused

pub statement-returns-in-Some-clause-shorter : goal.statement-returns-in-Some-clause-shorter
statement-returns-in-Some-clause-shorter t c =
    let taken = rw c.in-Some.is at c.in_ok-name.ensures.taken in
    where_gone c.assignment.result _ _ (λ shorter. omega (arith, shorter, ap length taken)) c.assignment.ensures.shorter

pub statement-returns-in-Some-keyword-clause-reads : goal.statement-returns-in-Some-keyword-clause-reads
statement-returns-in-Some-keyword-clause-reads t c =
    let left = rw c.in_default.is at c.in_ok-name.ensures.left in
    let taken = sym left ∙ c.in-Some-keyword.ensures.taken in
    where_read c.binding.result _ _ (λ s read qs. ap (in_turn (phrase.statement s c.args.kind ∷ qs)) taken ∙ read c.in-Some-keyword.field-0 qs)
    c.binding.ensures.reads

pub statement-returns-in-Some-keyword-clause-goes : goal.statement-returns-in-Some-keyword-clause-goes
statement-returns-in-Some-keyword-clause-goes t c =
    let left = rw c.in_default.is at c.in_ok-name.ensures.left in
    let taken = sym left ∙ c.in-Some-keyword.ensures.taken in
    where_gone c.binding.result _ _ (λ gone qs. ap (outcome (statements c.args.kind ∷ qs)) taken
    ∙ begins_let c.args.kind c.in-Some-keyword.field-0 c.keyword.new.self qs ∙ gone (statements c.args.kind ∷ qs)) c.binding.ensures.goes

pub statement-returns-in-Some-keyword-clause-refused : goal.statement-returns-in-Some-keyword-clause-refused
statement-returns-in-Some-keyword-clause-refused t c =
    let left = rw c.in_default.is at c.in_ok-name.ensures.left in
    let taken = sym left ∙ c.in-Some-keyword.ensures.taken in
    where_refused c.binding.result _ _ (λ stopped qs. ap (outcome (statements c.args.kind ∷ qs)) taken
    ∙ begins_let c.args.kind c.in-Some-keyword.field-0 c.keyword.new.self qs ∙ stopped (statements c.args.kind ∷ qs)) c.binding.ensures.refused

pub statement-returns-in-Some-keyword-clause-shorter : goal.statement-returns-in-Some-keyword-clause-shorter
statement-returns-in-Some-keyword-clause-shorter t c =
    let left = rw c.in_default.is at c.in_ok-name.ensures.left in
    let taken = sym left ∙ c.in-Some-keyword.ensures.taken in
    where_gone c.binding.result _ _ (λ shorter. omega (arith, shorter, ap length taken)) c.binding.ensures.shorter

pub statement-returns-in-Some-keyword-2-clause-reads : goal.statement-returns-in-Some-keyword-2-clause-reads
statement-returns-in-Some-keyword-2-clause-reads t c =
    let left = rw c.in_default.is at c.in_ok-name.ensures.left in
    let taken = sym left ∙ sym c.in_default-keyword.ensures.left ∙ c.in-Some-keyword-2.ensures.taken in
    where_read c.branch-reader.result _ _ (λ s read qs. ap (in_turn (phrase.statement s c.args.kind ∷ qs)) taken
    ∙ read c.in-Some-keyword-2.field-0 qs) c.branch-reader.ensures.reads

pub statement-returns-in-Some-keyword-2-clause-goes : goal.statement-returns-in-Some-keyword-2-clause-goes
statement-returns-in-Some-keyword-2-clause-goes t c =
    let left = rw c.in_default.is at c.in_ok-name.ensures.left in
    let taken = sym left ∙ sym c.in_default-keyword.ensures.left ∙ c.in-Some-keyword-2.ensures.taken in
    where_gone c.branch-reader.result _ _ (λ gone qs. ap (outcome (statements c.args.kind ∷ qs)) taken
    ∙ begins_if c.args.kind c.in-Some-keyword-2.field-0 c.keyword-2.new.self qs ∙ gone (statements c.args.kind ∷ qs)) c.branch-reader.ensures.goes

pub statement-returns-in-Some-keyword-2-clause-refused : goal.statement-returns-in-Some-keyword-2-clause-refused
statement-returns-in-Some-keyword-2-clause-refused t c =
    let left = rw c.in_default.is at c.in_ok-name.ensures.left in
    let taken = sym left ∙ sym c.in_default-keyword.ensures.left ∙ c.in-Some-keyword-2.ensures.taken in
    where_refused c.branch-reader.result _ _ (λ stopped qs. ap (outcome (statements c.args.kind ∷ qs)) taken
    ∙ begins_if c.args.kind c.in-Some-keyword-2.field-0 c.keyword-2.new.self qs ∙ stopped (statements c.args.kind ∷ qs)) c.branch-reader.ensures.refused

pub statement-returns-in-Some-keyword-2-clause-shorter : goal.statement-returns-in-Some-keyword-2-clause-shorter
statement-returns-in-Some-keyword-2-clause-shorter t c =
    let left = rw c.in_default.is at c.in_ok-name.ensures.left in
    let taken = sym left ∙ sym c.in_default-keyword.ensures.left ∙ c.in-Some-keyword-2.ensures.taken in
    where_gone c.branch-reader.result _ _ (λ shorter. omega (arith, shorter, ap length taken)) c.branch-reader.ensures.shorter

pub statement-returns-in-Some-keyword-3-clause-reads : goal.statement-returns-in-Some-keyword-3-clause-reads
statement-returns-in-Some-keyword-3-clause-reads t c =
    let left = rw c.in_default.is at c.in_ok-name.ensures.left in
    let taken = sym left ∙ sym c.in_default-keyword.ensures.left ∙ sym c.in_default-keyword-2.ensures.left ∙ c.in-Some-keyword-3.ensures.taken in
    where_read c.repetition.result _ _ (λ s read qs. ap (in_turn (phrase.statement s c.args.kind ∷ qs)) taken ∙ read c.in-Some-keyword-3.field-0 qs)
    c.repetition.ensures.reads

pub statement-returns-in-Some-keyword-3-clause-goes : goal.statement-returns-in-Some-keyword-3-clause-goes
statement-returns-in-Some-keyword-3-clause-goes t c =
    let left = rw c.in_default.is at c.in_ok-name.ensures.left in
    let taken = sym left ∙ sym c.in_default-keyword.ensures.left ∙ sym c.in_default-keyword-2.ensures.left ∙ c.in-Some-keyword-3.ensures.taken in
    where_gone c.repetition.result _ _ (λ gone qs. ap (outcome (statements c.args.kind ∷ qs)) taken
    ∙ begins_for c.args.kind c.in-Some-keyword-3.field-0 c.keyword-3.new.self qs ∙ gone (statements c.args.kind ∷ qs)) c.repetition.ensures.goes

pub statement-returns-in-Some-keyword-3-clause-refused : goal.statement-returns-in-Some-keyword-3-clause-refused
statement-returns-in-Some-keyword-3-clause-refused t c =
    let left = rw c.in_default.is at c.in_ok-name.ensures.left in
    let taken = sym left ∙ sym c.in_default-keyword.ensures.left ∙ sym c.in_default-keyword-2.ensures.left ∙ c.in-Some-keyword-3.ensures.taken in
    where_refused c.repetition.result _ _ (λ stopped qs. ap (outcome (statements c.args.kind ∷ qs)) taken
    ∙ begins_for c.args.kind c.in-Some-keyword-3.field-0 c.keyword-3.new.self qs ∙ stopped (statements c.args.kind ∷ qs)) c.repetition.ensures.refused

pub statement-returns-in-Some-keyword-3-clause-shorter : goal.statement-returns-in-Some-keyword-3-clause-shorter
statement-returns-in-Some-keyword-3-clause-shorter t c =
    let left = rw c.in_default.is at c.in_ok-name.ensures.left in
    let taken = sym left ∙ sym c.in_default-keyword.ensures.left ∙ sym c.in_default-keyword-2.ensures.left ∙ c.in-Some-keyword-3.ensures.taken in
    where_gone c.repetition.result _ _ (λ shorter. omega (arith, shorter, ap length taken)) c.repetition.ensures.shorter

pub statement-returns-in-Some-keyword-4-clause-reads : goal.statement-returns-in-Some-keyword-4-clause-reads
statement-returns-in-Some-keyword-4-clause-reads t c =
    let left = rw c.in_default.is at c.in_ok-name.ensures.left in
    let taken = sym left ∙ sym c.in_default-keyword.ensures.left ∙ sym c.in_default-keyword-2.ensures.left ∙ sym c.in_default-keyword-3.ensures.left
    ∙ c.in-Some-keyword-4.ensures.taken in
    let is = calls c.args.kind c.in-Some-keyword-4.field-0 c.keyword-4.new.self (sym (ap (begins c.args.kind) taken) ∙ c.requires) in
    where_read c.call.result _ _ (λ s read qs. ap (λ kind. in_turn (phrase.statement s kind ∷ qs) c.args.reader.now) is
    ∙ ap (in_turn (phrase.statement s Impl ∷ qs)) taken ∙ read c.in-Some-keyword-4.field-0 qs) c.call.ensures.reads

pub statement-returns-in-Some-keyword-4-clause-goes : goal.statement-returns-in-Some-keyword-4-clause-goes
statement-returns-in-Some-keyword-4-clause-goes t c =
    let left = rw c.in_default.is at c.in_ok-name.ensures.left in
    let taken = sym left ∙ sym c.in_default-keyword.ensures.left ∙ sym c.in_default-keyword-2.ensures.left ∙ sym c.in_default-keyword-3.ensures.left
    ∙ c.in-Some-keyword-4.ensures.taken in
    let is = calls c.args.kind c.in-Some-keyword-4.field-0 c.keyword-4.new.self (sym (ap (begins c.args.kind) taken) ∙ c.requires) in
    where_gone c.call.result _ _ (λ gone qs. ap (λ kind. outcome (statements kind ∷ qs) c.args.reader.now) is
    ∙ ap (outcome (statements Impl ∷ qs)) taken ∙ begins_call c.in-Some-keyword-4.field-0 c.keyword-4.new.self qs ∙ gone (statements Impl ∷ qs)
    ∙ ap (λ kind. outcome (statements kind ∷ qs) c.call.new.reader) (sym is)) c.call.ensures.goes

pub statement-returns-in-Some-keyword-4-clause-refused : goal.statement-returns-in-Some-keyword-4-clause-refused
statement-returns-in-Some-keyword-4-clause-refused t c =
    let left = rw c.in_default.is at c.in_ok-name.ensures.left in
    let taken = sym left ∙ sym c.in_default-keyword.ensures.left ∙ sym c.in_default-keyword-2.ensures.left ∙ sym c.in_default-keyword-3.ensures.left
    ∙ c.in-Some-keyword-4.ensures.taken in
    let is = calls c.args.kind c.in-Some-keyword-4.field-0 c.keyword-4.new.self (sym (ap (begins c.args.kind) taken) ∙ c.requires) in
    where_refused c.call.result _ _ (λ stopped qs. ap (λ kind. outcome (statements kind ∷ qs) c.args.reader.now) is
    ∙ ap (outcome (statements Impl ∷ qs)) taken ∙ begins_call c.in-Some-keyword-4.field-0 c.keyword-4.new.self qs ∙ stopped (statements Impl ∷ qs))
    c.call.ensures.refused

pub statement-returns-in-Some-keyword-4-clause-shorter : goal.statement-returns-in-Some-keyword-4-clause-shorter
statement-returns-in-Some-keyword-4-clause-shorter t c =
    let left = rw c.in_default.is at c.in_ok-name.ensures.left in
    let taken = sym left ∙ sym c.in_default-keyword.ensures.left ∙ sym c.in_default-keyword-2.ensures.left ∙ sym c.in_default-keyword-3.ensures.left
    ∙ c.in-Some-keyword-4.ensures.taken in
    where_gone c.call.result _ _ (λ shorter. omega (arith, shorter, ap length taken)) c.call.ensures.shorter

pub statement-returns-clause-refused : goal.statement-returns-clause-refused
statement-returns-clause-refused t c =
    let left = rw c.in_default.is at c.in_ok-name.ensures.left in
    let no_name = rw c.in_default.is at c.in_ok-name.ensures.other in
    let l1 = sym left ∙ sym c.in_default-keyword.ensures.left in
    let l2 = l1 ∙ sym c.in_default-keyword-2.ensures.left in
    let l3 = l2 ∙ sym c.in_default-keyword-3.ensures.left in
    absurd (begun c.args.kind c.args.reader.now c.requires no_name (ap (starts (mark.Keyword word.Let)) (sym left) ∙ c.in_default-keyword.ensures.other)
    (ap (starts (mark.Keyword word.If)) l1 ∙ c.in_default-keyword-2.ensures.other) (ap (starts (mark.Keyword word.For)) l2
    ∙ c.in_default-keyword-3.ensures.other) (ap (starts (mark.Keyword word.Call)) l3 ∙ c.in_default-keyword-4.ensures.other))
