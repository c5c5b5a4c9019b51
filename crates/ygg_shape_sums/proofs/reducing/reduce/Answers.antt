use Rattle.std.proofs.Common.{sym, subst}
use Rattle.ygg_shape_sums.proofs.Reduces.{read_fits}
use Rattle.ygg_shape_sums.specs.Parts.{PartsFit, Sum}
use Rattle.ygg_shape_sums.proofs.reducing.reduce.Goals as goal

pub multiplied-requires-clause-parts : goal.multiplied-requires-clause-parts
multiplied-requires-clause-parts c =
    let bank = c.args.bank.now in
    subst (λ (s : Sum). PartsFit bank c.args.width s.parts) (sym c.in_ok-sum.ensures)
    (read_fits bank c.args.width c.args.facts.now c.args.total.now c.requires.bank.ordered c.requires.parts)
