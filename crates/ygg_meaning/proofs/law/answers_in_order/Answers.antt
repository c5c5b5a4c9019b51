use Rattle.ygg_meaning.proofs.Extends.{answers_in_order}
use Rattle.ygg_meaning.proofs.law.answers_in_order.Goals as goal

pub returns : goal.returns
returns c = answers_in_order
