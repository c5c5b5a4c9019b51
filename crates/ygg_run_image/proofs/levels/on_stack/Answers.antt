use Rattle.ygg_run_image.proofs.Some.{some_layers}
use Rattle.ygg_run_image.proofs.levels.on_stack.Goals as goal

pub stack-requires-clause-more : goal.stack-requires-clause-more
stack-requires-clause-more g c = some_layers c.args.typed.now.file c.file.ensures.derivable
