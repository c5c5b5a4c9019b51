use Rattle.ygg_sym_spec.specs.ygg_sym_runs.Lower.{SingleFrom}
use Rattle.ygg_sym_spec.proofs.of_ygg_sym_runs.Singles.{single_stays}
use Rattle.ygg_sym_spec.proofs.of_ygg_sym_runs.Zeros.{single_kept}
use Rattle.ygg_oblige_laws.specs.Outcomes.{answers_compared}
use Rattle.ygg_oblige_laws.proofs.Compares.{answers_keep}
use Rattle.ygg_oblige_parts.proofs.comparing.same_answers.Goals as goal

pub returns-clause-single : goal.returns-clause-single
returns-clause-single g c =
    let kinds = g.B.Book.kinds c.args.book.now in
    single_kept c.args.bank.now c.same_answers_by.new.bank (answers_compared kinds c.args.one.now c.args.two.now c.args.bank.now).nodes
    c.same_answers_by.result c.same_answers_by.ensures.nodes
    (λ first h. answers_keep kinds (SingleFrom first) (single_stays kinds first) c.args.one.now c.args.two.now c.args.bank.now h)
