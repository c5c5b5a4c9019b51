use Rattle.std.proofs.Common.{rules, ◌≡◌, Some, slice_get}
use Rattle.ygg_bank.proofs.Stored.{in_order}
use Rattle.ygg_bank.proofs.Widths.{own_width}
use Rattle.ygg_bank.proofs.bank.Bank.node.Goals as goal

pub returns-clause-width : goal.returns-clause-width
returns-clause-width c =
    let there : slice_get c.args.self.now c.args.id.0 ≡ Some c.unwrap.result.now = search rules in
    own_width c.args.self.now c.args.id.0 c.unwrap.result.now (in_order c.args.self.now _ c.self.view_is c.self.invariant.0) there
