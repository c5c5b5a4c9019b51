use Rattle.std.proofs.Common.{rules, ◌≡◌, Some, slice_get}
use Rattle.ygg_bank.proofs.Stored.{in_order}
use Rattle.ygg_bank.proofs.Widths.{stored_can}
use Rattle.ygg_bank.proofs.bank.Bank.stored.Goals as goal

pub returns-clause-can : goal.returns-clause-can
returns-clause-can c =
    let there : slice_get c.args.self.now c.args.place ≡ Some c.unwrap.result.now = search rules in
    stored_can c.args.self.now c.args.place c.unwrap.result.now (in_order c.args.self.now _ c.self.view_is c.self.invariant.0) there
