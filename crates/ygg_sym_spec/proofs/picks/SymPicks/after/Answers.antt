use Rattle.std.proofs.Common.{◌≡◌, ◌+◌, sym, subst}
use Rattle.ygg_sym_runs.specs.Specs.{given_pick}
use Rattle.ygg_sym_spec.proofs.Bits.{given_more}
use Rattle.ygg_sym_spec.specs.Picking.{picking}
use Rattle.ygg_sym_spec.proofs.picks.SymPicks.after.Goals as goal

pub returns-in-Given-clause-picks : goal.returns-in-Given-clause-picks
returns-in-Given-clause-picks c = λ kinds k.
    subst (λ z. given_pick kinds c.from.result.now k ≡ picking kinds z (c.args.count + k)) (sym c.in-Given.is)
    (given_more kinds c.args.count k c.in-Given.given.now c.from.result.now c.from.ensures)
