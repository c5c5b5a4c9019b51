use Rattle.ygg_sym_runs.proofs.JoinedStates.{joined_lows}
use Rattle.ygg_sym_runs.proofs.low_states.join_lows.Goals as goal

pub returns-clause-shape : goal.returns-clause-shape
returns-clause-shape g c names p q =
    joined_lows (g.B.Book.kinds c.args.book.now) names c.args.test c.args.yes.now c.args.no.now c.args.bank.now c.join_all.new.bank c.join_all.result
    c.join_all.ensures.bank c.requires.test c.join_all.ensures.nodes c.join_all.ensures.form p q
