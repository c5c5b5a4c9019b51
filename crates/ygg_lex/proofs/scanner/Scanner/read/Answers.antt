use Rattle.std.proofs.Common.{refl, ap, sym, ◌∙◌}
use Rattle.ygg_base.specs.Lexing.{after_these}
use Rattle.ygg_lex.proofs.Steps.{longer, ends}
use Rattle.ygg_lex.proofs.scanner.Scanner.read.Goals as goal

pub returns-then-extends-clause-ok : goal.returns-then-extends-clause-ok
returns-then-extends-clause-ok c =
    let s = c.args.self.now in
    let ascii = sym c.is_past_ascii.ensures ∙ c.if-is_past_ascii.false in
    let more = sym c.extends.ensures ∙ c.if-extends.true in
    ap (after_these s.items) (longer c.args.text.now s.start c.args.place s.begun s.line s.column c.requires.within.start c.requires.place ascii more)

pub returns-clause-ok : goal.returns-clause-ok
returns-clause-ok c =
    let s = c.args.self.now in
    let ascii = sym c.is_past_ascii.ensures ∙ c.if-is_past_ascii.false in
    let more = sym c.extends.ensures ∙ c.if-extends.false in
    let ended = ends c.args.text.now s.start c.args.place s.begun s.line s.column c.requires.place ascii more in
    ap (after_these s.items) ended ∙ c.in_default.ensures.ok _
    ∙ rw (
      c.begin.ensures.items,
      c.begin.ensures.start,
      c.begin.ensures.begun,
      c.begin.ensures.line,
      c.begin.ensures.column,
      c.in_default.ensures.line,
      c.in_default.ensures.column,
    ) refl
