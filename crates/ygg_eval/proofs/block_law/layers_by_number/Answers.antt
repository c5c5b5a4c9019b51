use Rattle.ygg_eval.proofs.Numbers.{listed_is_numbered, numbered_is_listed, below_is_numbered}
use Rattle.ygg_eval.proofs.block_law.layers_by_number.Goals as goal

pub returns-clause-listed : goal.returns-clause-listed
returns-clause-listed c = listed_is_numbered

pub returns-clause-numbered : goal.returns-clause-numbered
returns-clause-numbered c = numbered_is_listed

pub returns-clause-below : goal.returns-clause-below
returns-clause-below c = below_is_numbered
