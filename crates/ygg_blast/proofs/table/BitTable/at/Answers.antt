use Rattle.std.proofs.Common.{sym, ◌∙◌}
use Rattle.ygg_blast.proofs.Kept.{at_some, at_none}
use Rattle.ygg_blast.proofs.table.BitTable.at.Goals as goal

pub returns-in-Some : goal.returns-in-Some
returns-in-Some c =
    c.as_slice.ensures ∙ at_some c.args.self.now c.self.inside.count c.self.inside.bits.entries c.args.place c.in-Some.bits.now
    (sym c.self.view_is) c.self.invariant (sym c.in-Some.ensures.value)

pub returns-in-None : goal.returns-in-None
returns-in-None c = at_none c.args.self.now c.self.inside.count c.self.inside.bits.entries c.args.place (sym c.self.view_is) c.self.invariant
    (sym c.in-None.ensures.value)
