-- What power leaves of a specification over terms stands among the nodes.
use Rattle.std.proofs.Common.{List, [], reverse, arith}
use Rattle.ygg_syntax.specs.declared.tree.Block.{Block}
use Rattle.ygg_syntax.specs.declared.tree.Declared.{Declared}
use Rattle.ygg_syntax.specs.declared.tree.Def.{Def}
use Rattle.ygg_sym_machine.specs.ygg_type_rules.Definitions.{with_definitions}
use Rattle.ygg_sym_machine.specs.ygg_meaning.Layer.{ClosedLayer}
use Rattle.ygg_sym_machine.specs.ygg_sym_runs.ygg_shape_joins_proofs_Joins.{joined_all_grows}
use Rattle.ygg_sym_machine.specs.ygg_sym_runs_proofs_Definitions.{functions_mean}
use Rattle.ygg_sym_machine.specs.ygg_sym_runs_proofs_Grows.{functions_grow}
use Rattle.ygg_sym_machine.specs.ygg_sym_runs_proofs_SpecStops.{FallsTyped, SomeBlock, spec_stops_mean}
use Rattle.ygg_sym_spec.specs.Below.{signatures_of}
use Rattle.ygg_sym_spec.specs.Typed.{SpecBlockTyped, SpecTyped}
use Rattle.ygg_sym_spec.specs.Layers.{closed, terms_in}
use Rattle.ygg_sym_spec.specs.Machine.{spec_meaning}
use Rattle.ygg_sym_machine.specs.Stopping.{IsPower}
use Rattle.ygg_sym.specs.SpecFailing.{spec_power}
use Rattle.ygg_sym.specs.Growing.{cut_grows, loss_grows}
use Rattle.ygg_sym.specs.declared.spec_stops.SpecStops.{SpecStops}

some_block : (defs : List Def) (m : ClosedLayer) (b : Block) (args : List Declared) → SpecBlockTyped defs m b args →
    SomeBlock (with_definitions defs []) m b args
some_block defs m b args t =
    let typed = t.block in
    record {
      shape = typed.shape;
      typed = record {
        scope = typed.scope;
        defs_is = typed.defs_is;
        without_errors = typed.without_errors;
        kept = typed.kept;
        agrees = typed.agrees;
      };
    }

falls_typed : (defs : List Def) (m : ClosedLayer) → SpecTyped defs m → FallsTyped (with_definitions defs []) m
falls_typed defs m t = record {
  crash = some_block defs m m.layer.crash [] t.crash;
  spec = λ name o there. let p = t.operations name o there in some_block defs m o.spec o.arguments p.spec;
  on_crash = λ name o there b has. let p = t.operations name o there in some_block defs m b o.arguments (p.on_crash b has);
}

pub spec_keeps_power : (m : SpecStops) → IsPower (spec_meaning m.machine) (spec_power m)
spec_keeps_power m = record {
  least = omega arith;
  cut_grows = λ kinds q s nodes. cut_grows kinds (((m.machine).layer).defs.now) (closed (m.machine).layer) m.last q s nodes;
  cut_stands = λ serves kinds inputs v q s nodes fit shaped p h.
      let l = (m.machine).layer in
      let defs = l.defs.now in
      let typed = serves.typed in
      let means = spec_stops_mean inputs v kinds (with_definitions defs []) (closed l) (terms_in kinds l) (functions_grow kinds (reverse defs))
      (functions_mean inputs v kinds defs serves.sound) (falls_typed defs (closed l) typed) (signatures_of (l.layer.now).operations) typed.sees m.stop m.last in
      let r = means.cut_is q s nodes fit shaped p h in r.has;
  lose_grows = λ kinds s nodes. loss_grows kinds (((m.machine).layer).defs.now) (closed (m.machine).layer) m.last s nodes;
  lose_stands = λ serves kinds inputs v s nodes p h.
      let l = (m.machine).layer in
      let defs = l.defs.now in
      let typed = serves.typed in
      let means = spec_stops_mean inputs v kinds (with_definitions defs []) (closed l) (terms_in kinds l) (functions_grow kinds (reverse defs))
      (functions_mean inputs v kinds defs serves.sound) (falls_typed defs (closed l) typed) (signatures_of (l.layer.now).operations) typed.sees m.stop m.last in
      let r = means.lose_is s nodes p h in r.has;
  join_grows = λ kinds t a b nodes. joined_all_grows kinds t a b nodes;
  join_stands = λ serves kinds inputs v t a b nodes w p q h.
      let l = (m.machine).layer in
      let defs = l.defs.now in
      let typed = serves.typed in
      let means = spec_stops_mean inputs v kinds (with_definitions defs []) (closed l) (terms_in kinds l) (functions_grow kinds (reverse defs))
      (functions_mean inputs v kinds defs serves.sound) (falls_typed defs (closed l) typed) (signatures_of (l.layer.now).operations) typed.sees m.stop m.last in
      let r = means.merge_is t a b nodes w p q h in r.has;
}
