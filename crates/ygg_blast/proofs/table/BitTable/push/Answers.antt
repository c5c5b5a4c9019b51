use Rattle.std.proofs.Common.{sym, arith}
use Rattle.ygg_blast.proofs.Kept.{pushes, pushes_below, few}
use Rattle.ygg_blast.proofs.table.BitTable.push.Goals as goal

pub overflow_add-self : goal.overflow_add-self
overflow_add-self c = let l = few c.args.self.now c.self.inside.count c.self.inside.bits.entries (sym c.self.view_is) c.requires in omega (arith, l)

pub invariant_of-self-2 : goal.invariant_of-self-2
invariant_of-self-2 c = pushes_below c.self.inside.count c.self.inside.bits.entries c.insert.new.self.entries c.args.bits c.self.invariant
    c.in_ok-insert.ensures.entries

pub returns : goal.returns
returns c = pushes c.args.self.now c.self.inside.count c.self.inside.bits.entries c.insert.new.self.entries c.args.bits
    (sym c.self.view_is) c.self.invariant c.in_ok-insert.ensures.entries
