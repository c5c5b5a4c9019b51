use Rattle.std.proofs.Common.{◌≡◌, ◌∷◌, sym, ap, ◌∙◌, length}
use denote.Enum.Bare.{same_true, same_false}
use Rattle.ygg_base.specs.contracts.token.Symbol.{the_type}
use Rattle.ygg_base.specs.declared.token.Mark.{Mark}
use Rattle.ygg_base.specs.declared.token.Mark.TheVariants as mark
use Rattle.ygg_syntax.specs.Reading.{token}
use Rattle.ygg_read.proofs.Marks.{starts_other, starts_none}
use Rattle.ygg_read.proofs.Stopped.{stopped, goes_token}
use Rattle.ygg_read.proofs.ExpressionPhrases.{reads_mark}
use Rattle.ygg_read.proofs.reader.Reader.symbol.Goals as goal

pub returns-else-eq-clause-other : goal.returns-else-eq-clause-other
returns-else-eq-clause-other c =
    starts_other (mark.Symbol c.args.symbol) c.in-Some.first.now c.in-Some.others.now c.args.self.now (sym c.self.view_is ∙ c.in-Some.ensures.cases.0)
    (λ same. let is : mark.Symbol c.args.symbol ≡ mark.Symbol c.in-Symbol.found = same ∙ c.in-Symbol.is in
    same_false the_type c.in-Symbol.found c.args.symbol (sym c.eq.ensures ∙ c.if-eq.false) (cc))

pub returns-else-eq-clause-refused : goal.returns-else-eq-clause-refused
returns-else-eq-clause-refused c = stopped (mark.Symbol c.args.symbol) c.args.self.now (returns-else-eq-clause-other c)

pub returns-in_default-mark-clause-other : goal.returns-in_default-mark-clause-other
returns-in_default-mark-clause-other c =
    starts_other (mark.Symbol c.args.symbol) c.in-Some.first.now c.in-Some.others.now c.args.self.now (sym c.self.view_is ∙ c.in-Some.ensures.cases.0)
    (λ same. c.in_default-mark.not-Symbol c.args.symbol (sym same))

pub returns-in_default-mark-clause-refused : goal.returns-in_default-mark-clause-refused
returns-in_default-mark-clause-refused c = stopped (mark.Symbol c.args.symbol) c.args.self.now (returns-in_default-mark-clause-other c)

pub returns-in_default-clause-other : goal.returns-in_default-clause-other
returns-in_default-clause-other c =
    starts_none (mark.Symbol c.args.symbol) c.args.self.now (ap length (sym c.self.view_is) ∙ c.in_default.ensures.cases)

pub returns-in_default-clause-refused : goal.returns-in_default-clause-refused
returns-in_default-clause-refused c = stopped (mark.Symbol c.args.symbol) c.args.self.now (returns-in_default-clause-other c)

pub returns-then-eq-clause-taken : goal.returns-then-eq-clause-taken
returns-then-eq-clause-taken c =
    let same = same_true the_type tt c.in-Symbol.found c.args.symbol (sym c.eq.ensures ∙ c.if-eq.true) in
    sym c.self.view_is ∙ c.in-Some.ensures.cases.0
    ∙ ap (λ (m : Mark). token m (record { line = c.in-Some.first.now.line; column = c.in-Some.first.now.column }) ∷ c.in-Some.others.now)
    (c.in-Symbol.is ∙ ap mark.Symbol same)

pub returns-then-eq-clause-goes : goal.returns-then-eq-clause-goes
returns-then-eq-clause-goes c = goes_token (mark.Symbol c.args.symbol)
    (record { line = c.in-Some.first.now.line; column = c.in-Some.first.now.column }) c.args.self.now c.in-Some.others.now (returns-then-eq-clause-taken c)

pub returns-then-eq-clause-reads : goal.returns-then-eq-clause-reads
returns-then-eq-clause-reads c = reads_mark (mark.Symbol c.args.symbol)
    (record { line = c.in-Some.first.now.line; column = c.in-Some.first.now.column }) c.args.self.now c.in-Some.others.now (returns-then-eq-clause-taken c)
