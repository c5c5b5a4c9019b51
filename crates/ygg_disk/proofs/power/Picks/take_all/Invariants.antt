use Rattle.std.proofs.Common.{◌≡◌}
use Rattle.ygg_disk.proofs.Taking.{after_picks}
use Rattle.ygg_disk.proofs.power.Picks.take_all.Given as goal

abbrev pub invariant-loop : goal.invariant-loop
invariant-loop l = l.self ≡ after_picks l.index l.initial.self
