use Rattle.std.proofs.Common.{All, sym, ◌∙◌, subst}
use Rattle.ygg_shape_cells.specs.ygg_bank.Nodes.{Stands}
use Rattle.ygg_shape.proofs.Holding.{conjuncts_stand}
use Rattle.ygg_shape.proofs.equations.equations_of.Goals as goal

pub equations-requires : goal.equations-requires
equations-requires c =
    subst (All (Stands c.args.bank.now)) (sym (c.as_slice.ensures ∙ c.in_ok-conjuncts.ensures))
    (conjuncts_stand c.args.bank.now c.args.term c.requires.bank.ordered c.requires.stands)
