use Rattle.std.proofs.Common.{◌∷◌, ◌∙◌, ap, sym, length, arith}
use Rattle.ygg_syntax.specs.Reading.{in_turn}
use Rattle.ygg_syntax.specs.Pending.{indices, outcome}
use Rattle.ygg_read.proofs.ExpressionBegins.{begins_index}
use Rattle.ygg_read.proofs.Stopped.{dropped_indices}
use Rattle.ygg_read.proofs.Lists.{index_more, all_indices}
use Rattle.ygg_read.proofs.parts.indices.Goals as goal

pub returns-in_default-2-clause-refused : goal.returns-in_default-2-clause-refused
returns-in_default-2-clause-refused c =
    let none = rw c.in_default-2.is at c.in_ok-more.ensures.refused in
    let index = rw none at c.index.ensures.refused in
    λ qs. c.loop-bracket.invariant.goes qs ∙ ap (outcome (indices ∷ qs)) c.in-Some.ensures.taken ∙ begins_index c.in-Some.bracket c.symbol.new.self qs
    ∙ index (indices ∷ qs)

pub loop-bracket-preserved : goal.loop-bracket-preserved
loop-bracket-preserved c =
    let step = rw c.in-Some-2.is at c.in_ok-more.ensures.read in
    let place = rw step.1.0 at c.index.ensures.place in
    let reads = rw step.1.0 at c.index.ensures.reads in
    let goes = rw step.1.0 at c.index.ensures.goes in
    let shorter = rw step.1.0 at c.index.ensures.shorter in
    index_more _ c.loop-bracket.reader c.symbol.new.self c.index.new.reader c.loop-bracket.read c.in-Some-2.more step.0 c.in-Some.bracket
    c.loop-bracket.invariant c.in-Some.ensures.taken place reads goes shorter step.1.1

pub loop-bracket-smaller : goal.loop-bracket-smaller
loop-bracket-smaller c =
    let step = rw c.in-Some-2.is at c.in_ok-more.ensures.read in
    let shorter = rw step.1.0 at c.index.ensures.shorter in
    omega (arith, shorter, ap length c.in-Some.ensures.taken)

pub returns-clause-reads : goal.returns-clause-reads
returns-clause-reads c = λ qs. all_indices c.args.reader.now c.loop-bracket.reader c.loop-bracket.read c.loop-bracket.invariant qs
    ∙ ap (in_turn qs) (sym c.in_default.ensures.left)

pub returns-clause-goes : goal.returns-clause-goes
returns-clause-goes c = λ qs. c.loop-bracket.invariant.goes qs ∙ dropped_indices c.loop-bracket.reader c.in_default.ensures.other qs
    ∙ ap (outcome qs) (sym c.in_default.ensures.left)
