use Rattle.std.proofs.Common.{◌≡◌, ℕ, [], OnOk, IfOk, subst}
use Rattle.ygg_sym_spec.specs.ygg_bank.declared.node.Id.{Id}
use Rattle.ygg_oblige_laws.specs.Outcomes.{any_picks}
use Rattle.ygg_oblige_parts.specs.Passing.{passes_of}
use Rattle.ygg_oblige_parts.proofs.states.Maker.some_passes.Goals as goal

pub returns-clause-nodes : goal.returns-clause-nodes
returns-clause-nodes g c =
    let kinds = g.B.Book.kinds c.args.self.now.book.now in
    subst (λ (n : ℕ). OnOk c.some_after.result (c.some_after.new.bank
    ≡ (any_picks kinds n [] (passes_of kinds c.args.self.now.layer c.args.step.now) c.args.bank.now).nodes)) c.in_ok-left.ensures c.some_after.ensures.nodes

pub returns-clause-id : goal.returns-clause-id
returns-clause-id g c =
    let kinds = g.B.Book.kinds c.args.self.now.book.now in
    subst (λ (n : ℕ). IfOk c.some_after.result (λ (id : Id). id
    ≡ (any_picks kinds n [] (passes_of kinds c.args.self.now.layer c.args.step.now) c.args.bank.now).value)) c.in_ok-left.ensures c.some_after.ensures.id
