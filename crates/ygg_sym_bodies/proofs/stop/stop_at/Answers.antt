use Rattle.std.proofs.Common.{List, sym, ap, ◌∙◌}
use Rattle.ygg_syntax.specs.declared.tree.Declared.{Declared}
use Rattle.ygg_sym_runs.proofs.Singles.{below_single}
use Rattle.ygg_sym_laws.specs.Below.{zeros_made}
use Rattle.ygg_sym_bodies.proofs.Sited.{both_ok, can_run, chosen_shaped, cut_called_made}
use Rattle.ygg_sym_bodies.proofs.stop.stop_at.Goals as goal

pub cut_called-requires-clause-can : goal.cut_called-requires-clause-can
cut_called-requires-clause-can g c =
    can_run c.args.at c.args.part c.requires.fits c.args.bank.now c.zeros.new.bank c.args.from.now c.in_ok-zeros.ensures.grows c.requires.shaped
    (sym c.if-calls.ensures)

pub cut_called-requires-clause-single : goal.cut_called-requires-clause-single
cut_called-requires-clause-single g c =
    c.in_ok-zeros.ensures.single c.in_ok-first.first (below_single c.in_ok-first.first c.args.bank.now (c.in_ok-first.ensures.next).above)

pub cut_chosen-requires-clause-shaped : goal.cut_chosen-requires-clause-shaped
cut_chosen-requires-clause-shaped g c =
    chosen_shaped c.args.at c.args.part c.requires.fits c.args.bank.now c.zeros.new.bank c.args.from.now c.in_ok-zeros.ensures.grows c.requires.shaped
    (sym c.if-calls.ensures)

pub cut_chosen-requires-clause-single : goal.cut_chosen-requires-clause-single
cut_chosen-requires-clause-single g c =
    c.in_ok-zeros.ensures.single c.in_ok-first.first (below_single c.in_ok-first.first c.args.bank.now (c.in_ok-first.ensures.next).above)

pub returns-then-calls-clause-made : goal.returns-then-calls-clause-made
returns-then-calls-clause-made g c =
    let kinds = g.B.Book.kinds c.args.book.now in
    let seen = c.variables_of-variables.ensures in
    let nodes = c.in_ok-zeros.ensures.nodes ∙ ap (λ (ds : List Declared). (zeros_made kinds ds c.args.bank.now).nodes) seen in
    let form = c.in_ok-zeros.ensures.form ∙ ap (λ (ds : List Declared). (zeros_made kinds ds c.args.bank.now).value) seen in
    both_ok c.cut_called.result c.cut_called.ensures.made c.cut_called.ensures.inputs (λ r m i.
    cut_called_made c.args.at c.args.part c.requires.fits kinds c.args.from.now c.args.bank.now c.cut_called.new.bank r c.in_ok-first.first c.zeros.new.bank
    c.in_ok-zeros.zeros nodes form (sym c.if-calls.ensures) i m)
