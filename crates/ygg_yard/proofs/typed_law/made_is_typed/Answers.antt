use Rattle.ygg_yard.proofs.Typed.{is_typed}
use Rattle.ygg_yard.proofs.typed_law.made_is_typed.Goals as goal

pub returns : goal.returns
returns c = is_typed
