use Rattle.ygg_sym_machine.proofs.Standing.{can_either, either_single, either_wide}
use Rattle.ygg_sym_machine.proofs.stopping.either.Goals as goal

pub make-requires : goal.make-requires
make-requires g c = can_either c.args.bank.now c.args.a c.args.b c.requires.one c.requires.two

pub returns-clause-width : goal.returns-clause-width
returns-clause-width g c = either_wide c.args.bank.now c.make.new.self c.args.a c.args.b c.make.result c.requires.one c.make.ensures.width

pub returns-clause-single : goal.returns-clause-single
returns-clause-single g c =
    either_single (g.B.Book.kinds c.args.book.now) c.args.bank.now c.make.new.self c.args.a c.args.b c.make.result c.make.ensures.nodes
