use Rattle.ygg_shape.specs.ygg_bank_proofs_Widths.{stands}
use Rattle.ygg_sym_runs.proofs.made.differing.Goals as goal

pub small-requires : goal.small-requires
small-requires g c = stands c.equal.new.bank c.in_ok-a.a 1 c.in_ok-a.ensures.width
