use Rattle.std.proofs.Common.{◌≡◌, drop}
use Rattle.ygg_type.specs.Typed.{tick_place}
use Rattle.ygg_type.proofs.typed.place_of_tick.Given as goal

-- what is left decides
abbrev pub invariant-loop-place : goal.invariant-loop-place
invariant-loop-place l = tick_place l.place (drop l.place l.ticks) l.name ≡ tick_place 0 l.ticks l.name
