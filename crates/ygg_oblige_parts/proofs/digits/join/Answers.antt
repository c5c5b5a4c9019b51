use Rattle.std.proofs.Common.{IfOk, subst}
use Rattle.ygg_sym_spec.specs.ygg_bank.Making.{made}
use Rattle.ygg_sym_spec.specs.ygg_bank.Nodes.{HasWidth}
use Rattle.ygg_sym_spec.specs.ygg_bank.declared.node.Id.{Id}
use Rattle.ygg_sym_spec.specs.ygg_bank.declared.node.Node.TheVariants.{Bin}
use Rattle.ygg_sym_spec.proofs.of_ygg_sym_runs.Singles.{single_stays}
use Rattle.ygg_sym_spec.proofs.of_ygg_sym_runs.Zeros.{single_kept}
use Rattle.ygg_oblige_parts.proofs.Joining.{can_join, joined_width}
use Rattle.ygg_oblige_parts.proofs.digits.join.Goals as goal

pub make-requires : goal.make-requires
make-requires g c = can_join c.args.bank.now c.args.op c.args.a c.args.b c.requires.one c.requires.two

pub returns-clause-width : goal.returns-clause-width
returns-clause-width g c =
    subst (λ w. IfOk c.make.result (λ (id : Id). HasWidth c.make.new.self id w))
    (joined_width c.args.bank.now c.args.op c.args.a c.requires.one) c.make.ensures.width

pub returns-clause-single : goal.returns-clause-single
returns-clause-single g c =
    let kinds = g.B.Book.kinds c.args.book.now in
    let n = Bin c.args.op c.args.a c.args.b in
    single_kept c.args.bank.now c.make.new.self (made kinds n c.args.bank.now).nodes c.make.result c.make.ensures.nodes
    (λ first h. single_stays kinds first n c.args.bank.now tt h)
