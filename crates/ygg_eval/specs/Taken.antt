-- The picks that a step takes.
use Rattle.std.specs.Prelude.{◌≡◌}
use Rattle.ygg_eval.specs.ygg_disk.declared.power.Power.{Power}
use Rattle.ygg_eval.specs.ygg_disk.Power.{Takes}
use Rattle.ygg_eval.specs.ygg_meaning.Machine.{Picks}

-- these are the next picks, and nothing of power has changed but that they were taken
pub record TakesOnly (taken : Picks) (before after : Power) : Type 0 where
  pub picks : Takes taken before.picks after.picks
  pub others : after ≡ record before { picks = after.picks }
