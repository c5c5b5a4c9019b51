use Rattle.std.proofs.Common.{◌∷◌, ◌∙◌, ap}
use Rattle.ygg_base.specs.declared.token.Keyword.TheVariants as word
use Rattle.ygg_base.specs.declared.token.Symbol.TheVariants as sign
use Rattle.ygg_syntax.specs.Pending.{answering, expression, sign_of, word_of, outcome}
use Rattle.ygg_read.proofs.Begins.{begins_answering, stopped_answering}
use Rattle.ygg_read.proofs.Phrases.{reads_answering}
use Rattle.ygg_read.proofs.blocks.answering.Goals as goal

pub returns-in_default-clause-refused : goal.returns-in_default-clause-refused
returns-in_default-clause-refused c =
    λ qs. stopped_answering c.args.kind c.args.reader.now c.in_default.ensures.other qs ∙ c.in_default.ensures.refused qs

pub returns-in_default-2-clause-refused : goal.returns-in_default-2-clause-refused
returns-in_default-2-clause-refused c =
    let stopped = rw c.in_default-2.is at c.in_ok-statements.ensures.refused in
    λ qs. ap (outcome (answering c.args.kind ∷ qs)) c.in-Some.ensures.taken ∙ begins_answering c.args.kind c.in-Some.place c.symbol.new.self qs
    ∙ stopped (word_of word.Return ∷ expression ∷ sign_of sign.Semicolon ∷ sign_of sign.BraceClose ∷ qs)

pub returns-in_default-3-clause-refused : goal.returns-in_default-3-clause-refused
returns-in_default-3-clause-refused c =
    let gone = rw c.in-Some-2.is at c.in_ok-statements.ensures.goes in
    let none = rw c.in_default-3.is at c.in_ok-statements-2.ensures.refused in
    let stopped = rw none at c.answer.ensures.refused in
    λ qs. ap (outcome (answering c.args.kind ∷ qs)) c.in-Some.ensures.taken ∙ begins_answering c.args.kind c.in-Some.place c.symbol.new.self qs
    ∙ gone (word_of word.Return ∷ expression ∷ sign_of sign.Semicolon ∷ sign_of sign.BraceClose ∷ qs) ∙ stopped qs

pub returns-clause-reads : goal.returns-clause-reads
returns-clause-reads c =
    let parts = rw c.in-Some-3.is at c.in_ok-statements-2.ensures.read in
    let first = rw c.in-Some-2.is at c.in_ok-statements.ensures.reads in
    let statements = rw parts.0 at first in
    let answer = rw parts.1 at c.answer.ensures.reads in
    reads_answering c.args.kind c.in-Some.place c.in-Some-3.statements c.in-Some-3.answer c.args.reader.now c.symbol.new.self c.statements.new.reader
    c.answer.new.reader c.in-Some.ensures.taken statements answer

pub returns-clause-goes : goal.returns-clause-goes
returns-clause-goes c =
    let parts = rw c.in-Some-3.is at c.in_ok-statements-2.ensures.read in
    let gone = rw c.in-Some-2.is at c.in_ok-statements.ensures.goes in
    let answer = rw parts.1 at c.answer.ensures.goes in
    λ qs. ap (outcome (answering c.args.kind ∷ qs)) c.in-Some.ensures.taken ∙ begins_answering c.args.kind c.in-Some.place c.symbol.new.self qs
    ∙ gone (word_of word.Return ∷ expression ∷ sign_of sign.Semicolon ∷ sign_of sign.BraceClose ∷ qs) ∙ answer qs
