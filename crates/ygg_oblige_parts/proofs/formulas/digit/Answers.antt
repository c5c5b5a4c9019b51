use Rattle.std.proofs.Common.{sym, ap, ◌∙◌, subst}
use Rattle.ygg_sym_spec.specs.ygg_bank.Nodes.{HasWidth, IsBank}
use Rattle.ygg_sym_spec.specs.ygg_sym_runs.Exprs.{id_in}
use Rattle.ygg_sym_spec.specs.ygg_sym_runs.Seen.{known_of, terms_in}
use Rattle.ygg_oblige_parts.proofs.Tested.{test_wide}
use Rattle.ygg_oblige_parts.proofs.formulas.digit.Goals as goal

pub returns-clause-width : goal.returns-clause-width
returns-clause-width g c =
    let kinds = g.B.Book.kinds c.args.book.now in
    let k = known_of c.args.evaluator.now in
    let e = c.args.e.now in
    let old = c.args.bank.now in
    let o = terms_in kinds k e old in
    subst (λ a. HasWidth c.value.new.bank a 1) (sym (c.id_in.ensures ∙ ap id_in c.in_ok-value.ensures.form))
    (subst (λ z. HasWidth z (id_in o.value) 1) (sym c.in_ok-value.ensures.nodes)
    (test_wide kinds k e old c.requires (subst IsBank c.in_ok-value.ensures.nodes c.value.ensures.bank)))
