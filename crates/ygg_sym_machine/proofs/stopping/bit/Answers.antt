use Rattle.std.proofs.Common.{◌≡◌, ◌+◌, OnOk, IfOk, ap, arith, subst, ◌∙◌}
use Rattle.ygg_sym_runs.specs.ygg_bank.Making.{made}
use Rattle.ygg_sym_runs.specs.ygg_bank.declared.node.Node.TheVariants.{Input}
use Rattle.ygg_sym_runs.proofs.Singles.{single_width}
use Rattle.ygg_sym_machine.proofs.Standing.{digit_single}
use Rattle.ygg_sym_machine.proofs.stopping.bit.Goals as goal

pub make-requires : goal.make-requires
make-requires g c =
    let K = g.W.SymStops.power c.args.stops.now in
    let power = g.met.W.SymStops.keeps_power c.args.stops.now in
    let number = c.in-Some.ensures.1 in
    single_width K.first c.in-Some.input c.args.bank.now (omega (arith, power.least, number, c.stop.ensures)) c.requires

pub returns-in-Some-clause-nodes : goal.returns-in-Some-clause-nodes
returns-in-Some-clause-nodes g c =
    let number = c.in-Some.ensures.1 ∙ ap (λ first. first + c.args.number) c.stop.ensures in
    subst (λ n. OnOk c.make.result (c.make.new.self ≡ (made (g.B.Book.kinds c.args.book.now) (Input n 1) c.args.bank.now).nodes)) number c.make.ensures.nodes

pub returns-in-Some-clause-form : goal.returns-in-Some-clause-form
returns-in-Some-clause-form g c =
    let number = c.in-Some.ensures.1 ∙ ap (λ first. first + c.args.number) c.stop.ensures in
    subst (λ n. IfOk c.make.result (λ t. t ≡ (made (g.B.Book.kinds c.args.book.now) (Input n 1) c.args.bank.now).value)) number c.make.ensures.id

pub returns-in-Some-clause-width : goal.returns-in-Some-clause-width
returns-in-Some-clause-width g c = c.make.ensures.width

pub returns-in-Some-clause-single : goal.returns-in-Some-clause-single
returns-in-Some-clause-single g c =
    digit_single (g.B.Book.kinds c.args.book.now) c.in-Some.input c.args.bank.now c.make.new.self c.make.result c.make.ensures.nodes
