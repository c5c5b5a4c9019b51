use Rattle.ygg_bank.proofs.Makes.{is_made}
use Rattle.ygg_bank.proofs.bank.Bank.make.Goals as goal

pub returns-clause-width : goal.returns-clause-width
returns-clause-width g c =
    (is_made (g.B.Book.kinds c.args.book.now) c.args.node c.args.self.now c.make_by.new.self c.make_by.result c.make_by.ensures.before c.requires
    c.make_by.ensures.nodes c.make_by.ensures.id c.make_by.ensures.err).width

pub returns-clause-value : goal.returns-clause-value
returns-clause-value g c =
    (is_made (g.B.Book.kinds c.args.book.now) c.args.node c.args.self.now c.make_by.new.self c.make_by.result c.make_by.ensures.before c.requires
    c.make_by.ensures.nodes c.make_by.ensures.id c.make_by.ensures.err).value

pub returns-clause-grows : goal.returns-clause-grows
returns-clause-grows g c =
    (is_made (g.B.Book.kinds c.args.book.now) c.args.node c.args.self.now c.make_by.new.self c.make_by.result c.make_by.ensures.before c.requires
    c.make_by.ensures.nodes c.make_by.ensures.id c.make_by.ensures.err).grows

pub returns-clause-keeps : goal.returns-clause-keeps
returns-clause-keeps g c =
    (is_made (g.B.Book.kinds c.args.book.now) c.args.node c.args.self.now c.make_by.new.self c.make_by.result c.make_by.ensures.before c.requires
    c.make_by.ensures.nodes c.make_by.ensures.id c.make_by.ensures.err).keeps

pub returns-clause-bank : goal.returns-clause-bank
returns-clause-bank g c =
    (is_made (g.B.Book.kinds c.args.book.now) c.args.node c.args.self.now c.make_by.new.self c.make_by.result c.make_by.ensures.before c.requires
    c.make_by.ensures.nodes c.make_by.ensures.id c.make_by.ensures.err).bank

pub returns-clause-inputs : goal.returns-clause-inputs
returns-clause-inputs g c =
    (is_made (g.B.Book.kinds c.args.book.now) c.args.node c.args.self.now c.make_by.new.self c.make_by.result c.make_by.ensures.before c.requires
    c.make_by.ensures.nodes c.make_by.ensures.id c.make_by.ensures.err).inputs
