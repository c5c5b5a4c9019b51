-- A disk over terms does what it means.
use Rattle.std.proofs.Common.{false, refl}
use Rattle.ygg_sym_runs.specs.Lower.{IsLower}
use Rattle.ygg_sym_runs.proofs.Disks.{disk_means}
use Rattle.ygg_sym_machine.specs.Means.{disk_meaning}
use Rattle.ygg_sym_machine.specs.declared.lower.SymDisk.{SymDisk}

pub disk_keeps_meaning : (m : SymDisk) → IsLower (disk_meaning m)
disk_keeps_meaning m = record {
  means = λ right kinds inputs v. disk_means inputs v kinds m.disk right false m.first;
  space = λ kinds name. refl;
}
