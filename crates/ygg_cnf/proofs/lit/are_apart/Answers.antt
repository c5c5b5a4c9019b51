use Rattle.std.proofs.Common.{sym, ◌∙◌, arith}
use Rattle.ygg_cnf.proofs.Apart.{apart_more, all_apart}
use Rattle.ygg_cnf.proofs.lit.are_apart.Goals as goal

pub loop-place-preserved : goal.loop-place-preserved
loop-place-preserved c =
    apart_more c.args.lits.now c.loop-place.place _ c.loop-place-test.true c.loop-place.invariant (sym c.has_variable.ensures ∙ c.if-has_variable.false)

pub returns : goal.returns
returns c = λ e. all_apart c.args.lits.now c.loop-place.place (omega (arith, c.loop-place-test.false)) c.loop-place.invariant
