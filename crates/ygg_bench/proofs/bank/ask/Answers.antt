use Rattle.ygg_bank.proofs.Widths.{stands}
use Rattle.ygg_bench.proofs.bank.ask.Goals as goal

pub make-requires-2 : goal.make-requires-2
make-requires-2 g c = stands c.make.new.self c.in_ok-constant.constant 64 c.in_ok-constant.ensures.width
