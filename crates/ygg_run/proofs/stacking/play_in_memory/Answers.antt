use Rattle.ygg_run.proofs.of_ygg_type.Sizes.{few_layers}
use Rattle.ygg_run.proofs.Layers.{some_layers}
use Rattle.ygg_run.proofs.stacking.play_in_memory.Goals as goal

pub play-requires-clause-more : goal.play-requires-clause-more
play-requires-clause-more g c = some_layers c.args.typed.now.file c.args.typed.now.derivable

pub play-requires-clause-room : goal.play-requires-clause-room
play-requires-clause-room g c = few_layers c.args.typed.now.file c.args.typed.now.typed

pub play-requires-in-Async-clause-more : goal.play-requires-in-Async-clause-more
play-requires-in-Async-clause-more g c = some_layers c.args.typed.now.file c.args.typed.now.derivable

pub play-requires-in-Async-clause-room : goal.play-requires-in-Async-clause-room
play-requires-in-Async-clause-room g c = few_layers c.args.typed.now.file c.args.typed.now.typed
