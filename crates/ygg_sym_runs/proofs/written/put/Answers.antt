use Rattle.ygg_sym_runs.specs.Lower.{SingleFrom}
use Rattle.ygg_sym_runs.specs.Putting.{put_made}
use Rattle.ygg_sym_runs.proofs.Below.{put_keeps}
use Rattle.ygg_sym_runs.proofs.Singles.{single_stays}
use Rattle.ygg_sym_runs.proofs.Zeros.{single_kept}
use Rattle.ygg_sym_runs.proofs.written.put.Goals as goal

pub returns-clause-single : goal.returns-clause-single
returns-clause-single g c =
    let kinds = g.B.Book.kinds c.args.book.now in
    single_kept c.args.bank.now c.put_by.new.bank (put_made kinds c.args.old.now c.args.places.now c.args.new c.args.bank.now).nodes c.put_by.result
    c.put_by.ensures.nodes
    (λ first. put_keeps (SingleFrom first) kinds (single_stays kinds first) c.args.old.now c.args.places.now c.args.new c.args.bank.now)
