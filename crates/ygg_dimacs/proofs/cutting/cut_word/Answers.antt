use Rattle.std.proofs.Common.{sym, ◌∙◌}
use Rattle.ygg_base.specs.Lexing.{is_blank}
use Rattle.ygg_dimacs.proofs.Splitting.{first_at}
use Rattle.ygg_dimacs.proofs.cutting.cut_word.Goals as goal

pub returns-then-is_blank-clause-pieces : goal.returns-then-is_blank-clause-pieces
returns-then-is_blank-clause-pieces c =
    first_at is_blank c.args.bytes.now c.loop-place.place c.loop-place-test.true c.loop-place.invariant (sym c.is_blank.ensures ∙ c.if-is_blank.true)
