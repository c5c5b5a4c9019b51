use Rattle.std.proofs.Common.{◌≡◌, OnOk, IfOk, subst}
use Rattle.ygg_sym_spec.specs.ygg_bank.Makes.{Out}
use Rattle.ygg_sym_spec.specs.ygg_bank.declared.node.Id.{Id}
use Rattle.ygg_sym_spec.specs.ygg_sym_runs.Lower.{SingleFrom}
use Rattle.ygg_sym_spec.proofs.of_ygg_sym_runs.Singles.{single_stays}
use Rattle.ygg_sym_spec.proofs.of_ygg_sym_runs.Zeros.{single_kept}
use Rattle.ygg_oblige_laws.specs.TermStates.{all_compared}
use Rattle.ygg_oblige_laws.proofs.Compares.{same_keeps}
use Rattle.ygg_oblige_parts.proofs.Compared.{compared_are}
use Rattle.ygg_oblige_parts.proofs.comparing.all_equal.Goals as goal

pub returns-clause-nodes : goal.returns-clause-nodes
returns-clause-nodes g c =
    subst (λ (o : Out Id). OnOk c.equal_all.result (c.equal_all.new.bank ≡ o.nodes))
    (compared_are (g.B.Book.kinds c.args.book.now) c.args.one.now c.args.two.now c.args.bank.now) c.equal_all.ensures.nodes

pub returns-clause-id : goal.returns-clause-id
returns-clause-id g c =
    subst (λ (o : Out Id). IfOk c.equal_all.result (λ (id : Id). id ≡ o.value))
    (compared_are (g.B.Book.kinds c.args.book.now) c.args.one.now c.args.two.now c.args.bank.now) c.equal_all.ensures.form

pub returns-clause-single : goal.returns-clause-single
returns-clause-single g c =
    let kinds = g.B.Book.kinds c.args.book.now in
    single_kept c.args.bank.now c.equal_all.new.bank (all_compared kinds c.args.one.now c.args.two.now c.args.bank.now).nodes c.equal_all.result
    (returns-clause-nodes g c) (λ first h. same_keeps kinds (SingleFrom first) (single_stays kinds first) c.args.one.now c.args.two.now c.args.bank.now h)
