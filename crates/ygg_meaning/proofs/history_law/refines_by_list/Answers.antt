use Rattle.ygg_meaning.specs.Stack.{layers_of}
use Rattle.ygg_meaning.proofs.ListedHistories.{all_refine, all_hold}
use Rattle.ygg_meaning.proofs.history_law.refines_by_list.Goals as goal

pub returns : goal.returns
returns c f = (all_refine f.disk (layers_of f), all_hold f.disk (layers_of f))
