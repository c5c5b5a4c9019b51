-- What power leaves of a disk over terms stands among the nodes.
use Rattle.std.proofs.Common.{false, arith}
use Rattle.ygg_sym_spec.specs.ygg_bank_proofs_Widths.{extends_self}
use Rattle.ygg_sym_machine.specs.Means.{disk_meaning}
use Rattle.ygg_sym_machine.specs.ygg_sym_runs.ygg_shape_joins_proofs_Joins.{joined_all_grows}
use Rattle.ygg_sym_machine.specs.ygg_sym_runs_proofs_Cuts.{disk_stops_mean}
use Rattle.ygg_sym_machine.specs.ygg_sym_runs_proofs_DiskKeeps.{cuts_grow}
use Rattle.ygg_sym_machine.specs.Stopping.{IsPower}
use Rattle.ygg_sym.specs.DiskFailing.{disk_power}
use Rattle.ygg_sym.specs.declared.disk_stops.DiskStops.{DiskStops}

pub disk_keeps_power : (m : DiskStops) → IsPower (disk_meaning m.machine) (disk_power m)
disk_keeps_power m = record {
  least = omega arith;
  cut_grows = λ kinds q s nodes. cuts_grow kinds (m.machine.disk).kind m.last q s nodes;
  cut_stands = λ right kinds inputs v q s nodes fit shaped p h.
      let means = disk_stops_mean inputs v kinds m.machine.disk false right m.stop m.last in
      let r = means.cut_is q s nodes fit shaped p h in r.has;
  lose_grows = λ kinds s nodes. extends_self nodes;
  lose_stands = λ right kinds inputs v s nodes p h.
      let means = disk_stops_mean inputs v kinds m.machine.disk false right m.stop m.last in
      let r = means.lose_is s nodes p h in r.has;
  join_grows = λ kinds t a b nodes. joined_all_grows kinds t a b nodes;
  join_stands = λ right kinds inputs v t a b nodes w p q h.
      let means = disk_stops_mean inputs v kinds m.machine.disk false right m.stop m.last in
      let r = means.merge_is t a b nodes w p q h in r.has;
}
