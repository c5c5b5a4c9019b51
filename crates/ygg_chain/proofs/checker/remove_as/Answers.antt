use Rattle.std.proofs.Common.{arith}
use Rattle.ygg_chain.proofs.checker.remove_as.Goals as goal

pub remove-requires-clause-fits : goal.remove-requires-clause-fits
remove-requires-clause-fits c = let (inside, is) = (c.place.ensures c.in-Some.placed).0 c.in-Some.is in omega (arith, inside, c.requires.room)
