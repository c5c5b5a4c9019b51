use Rattle.std.proofs.Common.{sym, ◌∙◌}
use Rattle.ygg_bank.proofs.Stored.{in_order, stored_width, within}
use Rattle.ygg_bank.proofs.Widths.{width_fits, width_is}
use Rattle.ygg_bank.proofs.bank.Bank.width.Goals as goal

pub bounds-as_slice-id : goal.bounds-as_slice-id
bounds-as_slice-id c = within c.args.self.now _ _ c.args.id c.self.view_is (c.as_slice.ensures.value ∙ c.self.invariant.1) c.requires

pub returns-clause-width : goal.returns-clause-width
returns-clause-width c = stored_width c.args.self.now _ _ c.args.id c.self.view_is (c.as_slice.ensures.value ∙ c.self.invariant.1) c.requires

pub returns-clause-value : goal.returns-clause-value
returns-clause-value c =
    sym (width_is c.args.self.now c.args.id _ (stored_width c.args.self.now _ _ c.args.id c.self.view_is
    (c.as_slice.ensures.value ∙ c.self.invariant.1) c.requires))

pub returns-clause-fits : goal.returns-clause-fits
returns-clause-fits c =
    width_fits c.args.self.now c.args.id _ (in_order c.args.self.now _ c.self.view_is c.self.invariant.0)
    (stored_width c.args.self.now _ _ c.args.id c.self.view_is (c.as_slice.ensures.value ∙ c.self.invariant.1) c.requires)
