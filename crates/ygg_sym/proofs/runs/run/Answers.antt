use Rattle.ygg_sym.proofs.Ran.{run_stands}
use Rattle.ygg_sym.proofs.runs.run.Goals as goal

pub returns-in-Disk-clause-stands : goal.returns-in-Disk-clause-stands
returns-in-Disk-clause-stands g c =
    run_stands (g.B.Book.kinds c.args.book.now) c.args.at c.args.bank.now c.args.memory.now c.args.args.now c.args.low.now c.requires.can c.args.first
    c.run_on_disk.new.bank c.run_on_disk.result c.run_on_disk.ensures.nodes c.run_on_disk.ensures.end c.run_on_disk.ensures.bank

pub returns-in-Layer-clause-stands : goal.returns-in-Layer-clause-stands
returns-in-Layer-clause-stands g c =
    run_stands (g.B.Book.kinds c.args.book.now) c.args.at c.args.bank.now c.args.memory.now c.args.args.now c.args.low.now c.requires.can c.args.first
    c.run_on_spec.new.bank c.run_on_spec.result c.run_on_spec.ensures.nodes c.run_on_spec.ensures.end c.run_on_spec.ensures.bank
