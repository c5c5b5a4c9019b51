-- When a layer refines its specification on what it stands on.
use Rattle.std.specs.Prelude.{Bool, All}
use Rattle.ygg_syntax.specs.declared.tree.DiskText.{DiskText}
use Rattle.ygg_meaning.specs.Environments.{Env}
use Rattle.ygg_meaning.specs.Machine.{Machine}
use Rattle.ygg_meaning.specs.Layer.{ClosedLayer}
use Rattle.ygg_meaning.specs.Spec.{Spec}
use Rattle.ygg_meaning.specs.DiskMachine.{DiskMachine}
use Rattle.ygg_meaning.specs.Obligations.{obligations_of}
use Rattle.ygg_meaning.specs.Violates.{Holds}

-- what a layer stands on when it is checked: the disk, or the specification of the layer below
pub data Below : Type 0 where
  OnDisk : (disk : DiskText) → Below
  OnSpec : (below : ClosedLayer) → Below

-- its machine
abbrev pub machine_below : Below → Machine Env Bool
machine_below (OnDisk d) = DiskMachine d
machine_below (OnSpec L) = Spec L

-- all obligations of the layer hold on a machine
abbrev pub Refines : ClosedLayer → Machine Env Bool → Type 0
Refines L M = All (Holds L M) (obligations_of L.layer)
