-- The specification of a layer over terms does what it means.
use Rattle.std.specs.Prelude.{[], reverse, refl}
use Rattle.ygg_sym_runs.specs.ygg_type_rules.Definitions.{with_definitions}
use Rattle.ygg_sym_runs.proofs.Definitions.{functions_mean}
use Rattle.ygg_sym_runs.proofs.Grows.{functions_grow}
use Rattle.ygg_sym_runs.specs.Lower.{IsLower}
use Rattle.ygg_sym_runs.specs.Specs.{input_pick}
use Rattle.ygg_sym_runs.specs.Laws.{picked_by}
use Rattle.ygg_sym_runs.proofs.SpecMeans.{spec_means}
use Rattle.ygg_sym_runs.proofs.Specs.{input_pick_means}
use Rattle.ygg_sym_runs.specs.Below.{signatures_of}
use Rattle.ygg_sym_spec.specs.Layers.{closed, terms_in}
use Rattle.ygg_sym_spec.specs.Machine.{spec_meaning}
use Rattle.ygg_sym_spec.specs.declared.machine.SymSpec.{SymSpec}

pub spec_keeps : (m : SymSpec) → IsLower (spec_meaning m)
spec_keeps m = record {
  means = λ serves kinds inputs v.
      let defs = m.layer.defs.now in
      let typed = serves.typed in
      spec_means inputs v kinds (with_definitions defs []) (closed m.layer) (terms_in kinds m.layer) (functions_grow kinds (reverse defs))
      (functions_mean inputs v kinds defs serves.sound) (signatures_of (m.layer.layer.now).operations) typed.sees typed.blocks (input_pick kinds m.first)
      (picked_by inputs m.first) (input_pick_means inputs v kinds m.first);
  space = λ kinds name. refl;
}
