-- Power that fails on a specification over terms.
use Rattle.std.specs.Prelude.{min, List}
use Rattle.ygg_sym_machine.specs.ygg_shape_cells.declared.terms.SymValue.{SymValue}
use Rattle.ygg_sym_machine.specs.ygg_sym_runs.Lows.{join_lows}
use Rattle.ygg_sym_machine.specs.ygg_sym_runs.SpecCuts.{crash_made, spec_cuts}
use Rattle.ygg_sym_machine.specs.ygg_sym_runs.Specs.{input_pick}
use Rattle.ygg_sym_spec.specs.Layers.{closed, terms_in}
use Rattle.ygg_sym_machine.specs.Stopping.{Power}
use Rattle.ygg_sym.specs.declared.spec_stops.SpecStops.{SpecStops}

-- one input for each stop, from a number on, and one for each pick of the failure, from another number on
abbrev pub spec_power : SpecStops → Power (List SymValue)
spec_power m = record {
  cut = λ kinds q vars. spec_cuts kinds (terms_in kinds (m.machine).layer) (closed (m.machine).layer) (input_pick kinds m.last) q vars;
  lose = λ kinds vars. crash_made kinds (terms_in kinds (m.machine).layer) (closed (m.machine).layer) (input_pick kinds m.last) vars;
  join = λ kinds t a b. join_lows kinds t a b;
  stop = m.stop;
  first = min m.stop m.last;
}
