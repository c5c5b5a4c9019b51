use Rattle.std.proofs.Common.{sym, ◌∙◌, arith}
use Rattle.ygg_dimacs.proofs.Lining.{counted, passed}
use Rattle.ygg_dimacs.proofs.lines.next_content.Goals as goal

pub returns-else-is_passed_over-clause-next : goal.returns-else-is_passed_over-clause-next
returns-else-is_passed_over-clause-next c =
    counted c.args.at c.loop-line.left c.in-Some.line c.in-Some.after c.loop-line.invariant.lines c.loop-line.invariant.ends c.in-Some.ensures.next
    (sym c.begins.ensures ∙ c.if-begins.false) (sym c.is_passed_over.ensures ∙ c.if-is_passed_over.false)

pub loop-line-preserved : goal.loop-line-preserved
loop-line-preserved c =
    let both = passed c.args.at c.loop-line.left c.in-Some.line c.in-Some.after c.loop-line.invariant.lines c.loop-line.invariant.ends c.in-Some.ensures.next
    (sym c.begins.ensures ∙ c.if-begins.false) (sym c.is_passed_over.ensures ∙ c.if-is_passed_over.true) in
    record { lines = both.0; ends = both.1; size = omega (arith, c.in-Some.ensures.smaller, c.loop-line.invariant.size) }
