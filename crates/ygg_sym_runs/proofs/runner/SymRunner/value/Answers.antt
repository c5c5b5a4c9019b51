use Rattle.ygg_sym_runs.specs.Seen.{known_of, terms_in}
use Rattle.ygg_sym_runs.proofs.Several.{terms_single}
use Rattle.ygg_sym_runs.proofs.Zeros.{single_kept}
use Rattle.ygg_sym_runs.proofs.runner.SymRunner.value.Goals as goal

pub returns-clause-single : goal.returns-clause-single
returns-clause-single g c =
    let kinds = g.B.Book.kinds c.args.self.now.book.now in
    let k = known_of c.new-evaluator.result in
    single_kept c.args.bank.now c.value.new.bank (terms_in kinds k c.args.e.now c.args.bank.now).nodes c.value.result c.value.ensures.nodes
    (terms_single kinds k c.args.e.now c.args.bank.now)
