use Rattle.std.proofs.Common.{◌≡◌, drop}
use Rattle.ygg_script.specs.Places.{layer_place}
use Rattle.ygg_script.proofs.places.place_of_layer.Given as goal

-- what is left decides
abbrev pub invariant-loop-place : goal.invariant-loop-place
invariant-loop-place l = layer_place l.place (drop l.place l.layers) l.name ≡ layer_place 0 l.layers l.name
