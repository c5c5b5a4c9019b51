use Rattle.ygg_sym_runs.specs.Below.{zeros_made}
use Rattle.ygg_sym_spec.proofs.of_ygg_sym_runs.Zeros.{single_kept}
use Rattle.ygg_sym_spec.proofs.Carried.{on_value}
use Rattle.ygg_sym_spec.proofs.ZerosMade.{zeros_stand, zeros_single}
use Rattle.ygg_sym_runs.specs.Lows.{LowShaped}
use Rattle.ygg_sym_spec.proofs.declared.zeros.Goals as goal

pub returns-clause-shape : goal.returns-clause-shape
returns-clause-shape g c =
    let kinds = g.B.Book.kinds c.args.book.now in
    let ds = c.args.declared.now in
    let old = c.args.bank.now in
    on_value (λ nodes xs. LowShaped nodes ds xs) (zeros_made kinds ds old) c.zeros_by.new.bank c.zeros_by.result c.zeros_by.ensures.nodes
    c.zeros_by.ensures.form c.zeros_by.ensures.bank (zeros_stand kinds ds old c.requires)

pub returns-clause-single : goal.returns-clause-single
returns-clause-single g c =
    let kinds = g.B.Book.kinds c.args.book.now in
    let ds = c.args.declared.now in
    let old = c.args.bank.now in
    single_kept old c.zeros_by.new.bank (zeros_made kinds ds old).nodes c.zeros_by.result c.zeros_by.ensures.nodes (zeros_single kinds ds old)
