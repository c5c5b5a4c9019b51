use Rattle.std.proofs.Common.{sym, subst, ap, ◌∙◌}
use Rattle.ygg_machine.specs.Floors.{Raised, memory_at}
use Rattle.ygg_eval.specs.Zeros.{AreShapes, zero_values}
use Rattle.ygg_machine.proofs.Typing.{shapes_at}
use Rattle.ygg_machine.proofs.floor.Floor.clear.Goals as goal

pub zeros-requires : goal.zeros-requires
zeros-requires g c =
    subst AreShapes (sym c.memory_of.ensures) (shapes_at c.args.typed.now.file c.args.typed.now.typed c.args.typed.now.derivable c.self.inside.place)

-- written out, so that a memory that is left as it was is refused at once
pub returns-clause-cleared : goal.returns-clause-cleared
returns-clause-cleared g c =
    let below = ap (λ (r : Raised g.row.W.Denot). r.below) c.self.view_is in
    let memory = c.in_ok-cleared.ensures ∙ ap zero_values (c.memory_of.ensures
    ∙ ap (memory_at c.args.typed.now.file) (c.self.invariant ∙ ap g.W.Lower.means.number below)) in
    ap (λ m. record { memory = m; below = c.self.inside.below }) memory
    ∙ ap (λ b. record { memory = zero_values (memory_at c.args.typed.now.file (g.W.Lower.means.number c.args.self.now.below)); below = b }) below
