use Rattle.std.proofs.Common.{sym}
use Rattle.ygg_blast.proofs.Kept.{skips, skips_below}
use Rattle.ygg_blast.proofs.table.BitTable.skip_to.Goals as goal

pub invariant_of-self : goal.invariant_of-self
invariant_of-self c = skips_below c.args.self.now c.self.inside.count c.args.place c.self.inside.bits.entries (sym c.self.view_is) c.self.invariant c.requires

pub returns : goal.returns
returns c = skips c.args.self.now c.self.inside.count c.args.place c.self.inside.bits.entries (sym c.self.view_is) c.self.invariant c.requires
