-- Power that fails on a disk over terms.
use Rattle.std.specs.Prelude.{min, List}
use Rattle.ygg_sym_spec.specs.ygg_bank.Makes.{pure}
use Rattle.ygg_sym_spec.specs.ygg_shape_cells.declared.terms.SymValue.{SymValue}
use Rattle.ygg_sym_spec.specs.ygg_sym_runs.Cuts.{disk_cuts, disk_loses}
use Rattle.ygg_sym_spec.specs.ygg_sym_runs.Lows.{join_lows}
use Rattle.ygg_sym_machine.specs.Stopping.{Power}
use Rattle.ygg_sym.specs.declared.disk_stops.DiskStops.{DiskStops}

-- one input for each stop, from a number on, and one for the pick of the failure
abbrev pub disk_power : DiskStops → Power (List SymValue)
disk_power m = record {
  cut = λ kinds q tables. disk_cuts kinds (m.machine.disk).kind m.last q tables;
  lose = λ kinds tables. pure (disk_loses (m.machine.disk).kind tables);
  join = λ kinds t a b. join_lows kinds t a b;
  stop = m.stop;
  first = min m.stop m.last;
}
