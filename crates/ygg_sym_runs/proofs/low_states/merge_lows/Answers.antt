use Rattle.ygg_sym_runs.proofs.MergedLows.{merged_lows}
use Rattle.ygg_sym_runs.proofs.low_states.merge_lows.Goals as goal

pub returns-clause-shape : goal.returns-clause-shape
returns-clause-shape g c names p q =
    merged_lows (g.B.Book.kinds c.args.book.now) names c.args.test c.args.yes.now c.args.no.now c.args.bank.now c.merge_all.new.bank c.merge_all.result
    c.merge_all.ensures.bank c.requires.test c.merge_all.ensures.nodes c.merge_all.ensures.form p q
