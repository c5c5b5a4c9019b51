use Rattle.ygg_sym_runs.specs.Seen.{known_of}
use Rattle.ygg_sym_runs.proofs.Terms.{answered}
use Rattle.ygg_sym_runs.proofs.evaluator.SymEvaluator.value.Goals as goal

pub returns-clause-shape : goal.returns-clause-shape
returns-clause-shape g c =
    let all = answered (g.B.Book.kinds c.args.book.now) (known_of c.args.self.now) c.args.e.now c.args.bank.now c.value_by.new.bank c.value_by.result
    c.requires c.value_by.ensures.bank c.value_by.ensures.nodes c.value_by.ensures.form in
    all.shape

pub returns-clause-inputs : goal.returns-clause-inputs
returns-clause-inputs g c =
    let all = answered (g.B.Book.kinds c.args.book.now) (known_of c.args.self.now) c.args.e.now c.args.bank.now c.value_by.new.bank c.value_by.result
    c.requires c.value_by.ensures.bank c.value_by.ensures.nodes c.value_by.ensures.form in
    all.inputs
