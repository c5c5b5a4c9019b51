use Rattle.ygg_sym_runs.specs.ygg_bank.Making.{made}
use Rattle.ygg_sym_runs.specs.ygg_bank.declared.node.Node.TheVariants.{Const, Input}
use Rattle.ygg_sym_runs.specs.ygg_bank_proofs_Widths.{extends_self}
use Rattle.ygg_sym_runs.proofs.Singles.{input_single, single_stays}
use Rattle.ygg_sym_runs.proofs.Zeros.{single_kept}
use Rattle.ygg_sym_spec.proofs.picks.SymPicks.make.Goals as goal

pub returns-in-Given-clause-single : goal.returns-in-Given-clause-single
returns-in-Given-clause-single g c =
    let kinds = g.B.Book.kinds c.args.book.now in
    let old = c.args.bank.now in
    single_kept old c.make-in-Given.new.self (made kinds (Const c.bit_word.result) old).nodes c.make-in-Given.result c.make-in-Given.ensures.nodes
    (λ first. single_stays kinds first (Const c.bit_word.result) old tt)

pub returns-in-Some-clause-single : goal.returns-in-Some-clause-single
returns-in-Some-clause-single g c =
    let kinds = g.B.Book.kinds c.args.book.now in
    let old = c.args.bank.now in
    single_kept old c.make.new.self (made kinds (Input c.in-Some.number 1) old).nodes c.make.result c.make.ensures.nodes
    (λ first. input_single kinds first c.in-Some.number old)

pub returns-in-None-clause-grows : goal.returns-in-None-clause-grows
returns-in-None-clause-grows g c = extends_self c.args.bank.now
