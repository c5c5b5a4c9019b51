-- What a ground over a device means. It can't lose power, and the picks of its steps are those of the device, not those that `power` names.
use Rattle.std.specs.Prelude.{false}
use Rattle.ygg_base.specs.declared.outside.Moved.TheVariants.{Done, Failed}
use Rattle.ygg_value.specs.declared.shape.Shape.TheVariants as shape
use Rattle.ygg_disk.specs.Ground.{Meaning}
use Rattle.ygg_run_image.specs.Sight.{Sight, told_disk}
use Rattle.ygg_run_image.specs.Turning.{Moves, Turned}

-- the ground of which this is seen: a call that failed or found no memory leaves what it may leave when a device call fails
abbrev pub device_meaning : {S : Type 0} → (S → Sight) → Meaning S
device_meaning look = record {
  told = λ s. told_disk (look s);
  row = λ s. shape.Row (look s).geometry.words (look s).geometry.width;
  faults = λ s. (look s).faults;
  can_lose = false;
  follows = false;
  Calls = λ s call picks reply s'. Moves (Turned (look s).geometry call Done) (look s) (look s');
  Falls = λ s call picks s'. ⊥;
  Loses = λ s s'. ⊥;
  Breaks = λ s call s'. Moves (Turned (look s).geometry call Failed) (look s) (look s');
}
