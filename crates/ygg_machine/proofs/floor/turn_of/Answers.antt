use Rattle.ygg_machine.proofs.Running.{is_unstopped}
use Rattle.ygg_machine.proofs.floor.turn_of.Goals as goal

pub unreachable-requires : goal.unreachable-requires
unreachable-requires c = is_unstopped c.args.ended c.in-Stopped.is c.requires
