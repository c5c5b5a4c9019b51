use Rattle.ygg_sym.proofs.Ran.{cut_shape, cut_width}
use Rattle.ygg_sym.proofs.runs.cut.Goals as goal

pub returns-in-Disk-clause-shape : goal.returns-in-Disk-clause-shape
returns-in-Disk-clause-shape g c =
    cut_shape (g.B.Book.kinds c.args.book.now) c.args.at c.args.bank.now c.args.memory.now c.args.args.now c.args.low.now c.requires.can c.args.first
    c.args.stop
    c.args.last c.cut_on_disk.new.bank c.cut_on_disk.result c.cut_on_disk.ensures.nodes c.cut_on_disk.ensures.end c.cut_on_disk.ensures.bank

pub returns-in-Disk-clause-width : goal.returns-in-Disk-clause-width
returns-in-Disk-clause-width g c =
    cut_width (g.B.Book.kinds c.args.book.now) c.args.at c.args.bank.now c.args.memory.now c.args.args.now c.args.low.now c.requires.can c.args.first
    c.args.stop
    c.args.last c.cut_on_disk.new.bank c.cut_on_disk.result c.cut_on_disk.ensures.nodes c.cut_on_disk.ensures.end c.cut_on_disk.ensures.bank

pub returns-in-Layer-clause-shape : goal.returns-in-Layer-clause-shape
returns-in-Layer-clause-shape g c =
    cut_shape (g.B.Book.kinds c.args.book.now) c.args.at c.args.bank.now c.args.memory.now c.args.args.now c.args.low.now c.requires.can c.args.first
    c.args.stop
    c.args.last c.cut_on_spec.new.bank c.cut_on_spec.result c.cut_on_spec.ensures.nodes c.cut_on_spec.ensures.end c.cut_on_spec.ensures.bank

pub returns-in-Layer-clause-width : goal.returns-in-Layer-clause-width
returns-in-Layer-clause-width g c =
    cut_width (g.B.Book.kinds c.args.book.now) c.args.at c.args.bank.now c.args.memory.now c.args.args.now c.args.low.now c.requires.can c.args.first
    c.args.stop
    c.args.last c.cut_on_spec.new.bank c.cut_on_spec.result c.cut_on_spec.ensures.nodes c.cut_on_spec.ensures.end c.cut_on_spec.ensures.bank
