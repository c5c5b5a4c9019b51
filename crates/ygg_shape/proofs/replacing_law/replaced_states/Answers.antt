use Rattle.ygg_shape.proofs.Replaced.{implied_by_state, hypothesis_again}
use Rattle.ygg_shape.proofs.replacing_law.replaced_states.Goals as goal

pub returns-clause-implied : goal.returns-clause-implied
returns-clause-implied c hypothesis conclusion f from to e k = implied_by_state hypothesis f from to conclusion e k

pub returns-clause-again : goal.returns-clause-again
returns-clause-again c first second f from to e k s one = hypothesis_again first second f from to e k s one
