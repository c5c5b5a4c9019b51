use Rattle.ygg_value.specs.Words.{word}
use Rattle.ygg_sym_spec.specs.ygg_bank.Making.{made}
use Rattle.ygg_sym_spec.specs.ygg_bank.declared.node.Node.TheVariants.{Const}
use Rattle.ygg_sym_spec.proofs.of_ygg_sym_runs.Singles.{single_stays}
use Rattle.ygg_sym_spec.proofs.of_ygg_sym_runs.Zeros.{single_kept}
use Rattle.ygg_oblige_parts.proofs.Joining.{bit_word}
use Rattle.ygg_oblige_parts.proofs.digits.constant.Goals as goal

pub make-requires : goal.make-requires
make-requires g c = bit_word c.args.bits c.requires

pub returns-clause-single : goal.returns-clause-single
returns-clause-single g c =
    let kinds = g.B.Book.kinds c.args.book.now in
    let n = Const (word 1 c.args.bits) in
    single_kept c.args.bank.now c.make.new.self (made kinds n c.args.bank.now).nodes c.make.result c.make.ensures.nodes
    (λ first h. single_stays kinds first n c.args.bank.now tt h)
