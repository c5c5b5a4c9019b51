use Rattle.std.proofs.Common.{◌≡◌, ◌∙◌, OnOk, IfOk, subst}
use Rattle.ygg_sym_spec.specs.ygg_bank.Makes.{Out}
use Rattle.ygg_sym_spec.specs.ygg_bank.declared.node.Id.{Id}
use Rattle.ygg_sym_spec.specs.ygg_sym_runs.Seen.{known_of}
use Rattle.ygg_oblige_parts.proofs.Tested.{truths_from}
use Rattle.ygg_sym_spec.specs.ygg_bank_proofs_Widths.{extends_both}
use Rattle.ygg_oblige_parts.proofs.formulas.truths.Goals as goal

pub returns-clause-nodes : goal.returns-clause-nodes
returns-clause-nodes g c =
    subst (λ (o : Out Id). OnOk c.all.result (c.all.new.bank ≡ o.nodes))
    (truths_from (g.B.Book.kinds c.args.book.now) (known_of c.args.evaluator.now) c.args.es.now c.args.bank.now c.as_slice.result.now c.digits.new.bank
    (c.as_slice.ensures.value ∙ c.in_ok-ids.ensures.form) c.in_ok-ids.ensures.nodes) c.all.ensures.nodes

pub returns-clause-id : goal.returns-clause-id
returns-clause-id g c =
    subst (λ (o : Out Id). IfOk c.all.result (λ (id : Id). id ≡ o.value))
    (truths_from (g.B.Book.kinds c.args.book.now) (known_of c.args.evaluator.now) c.args.es.now c.args.bank.now c.as_slice.result.now c.digits.new.bank
    (c.as_slice.ensures.value ∙ c.in_ok-ids.ensures.form) c.in_ok-ids.ensures.nodes) c.all.ensures.id

pub returns-clause-grows : goal.returns-clause-grows
returns-clause-grows g c =
    extends_both c.args.bank.now c.digits.new.bank c.all.new.bank c.digits.ensures.grows c.all.ensures.grows
