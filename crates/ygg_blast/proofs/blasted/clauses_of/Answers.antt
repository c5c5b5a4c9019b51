use Rattle.ygg_blast.proofs.Named.{all_numbered}
use Rattle.ygg_blast.proofs.Zero.{exact}
use Rattle.ygg_blast.proofs.blasted.clauses_of.Goals as goal

pub returns-clause-exactly : goal.returns-clause-exactly
returns-clause-exactly c = exact c.args.bank.now c.args.term c.blasted_of.result c.blasted_of.ensures c.len.ensures.bank

pub returns-clause-numbered : goal.returns-clause-numbered
returns-clause-numbered c = all_numbered c.args.bank.now c.args.term c.blasted_of.result c.blasted_of.ensures
