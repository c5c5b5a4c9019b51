use Rattle.ygg_sym_spec.proofs.blocks.crash.Goals as goal

pub returns-clause-single : goal.returns-clause-single
returns-clause-single g c = c.in_ok-done.ensures.single

pub returns-clause-bank : goal.returns-clause-bank
returns-clause-bank g c = c.block.ensures.bank

pub returns-clause-grows : goal.returns-clause-grows
returns-clause-grows g c = c.block.ensures.grows

pub returns-clause-shape : goal.returns-clause-shape
returns-clause-shape g c = c.in_ok-done.ensures.shape

pub returns-clause-nodes : goal.returns-clause-nodes
returns-clause-nodes g c = c.in_ok-done.ensures.nodes

pub returns-in_err-done-clause-bank : goal.returns-in_err-done-clause-bank
returns-in_err-done-clause-bank g c = c.block.ensures.bank

pub returns-in_err-done-clause-grows : goal.returns-in_err-done-clause-grows
returns-in_err-done-clause-grows g c = c.block.ensures.grows
