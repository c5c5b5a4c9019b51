use Rattle.ygg_machine.proofs.Noting.{stacks_are_listed, stacks_tell, stacks_note}
use Rattle.ygg_machine.proofs.law.stacks_tell.Goals as goal

pub returns-clause-listed : goal.returns-clause-listed
returns-clause-listed g c = stacks_are_listed g.G.Ground.means

pub returns-clause-told : goal.returns-clause-told
returns-clause-told g c = stacks_tell g.G.Ground.means

pub returns-clause-noted : goal.returns-clause-noted
returns-clause-noted g c = stacks_note g.G.Ground.means
