-- Whole recoveries over terms are worth those with the picks that the inputs name.
use Rattle.std.proofs.Common.{◌≡◌, ℕ, true, List, [], refl, sym, subst}
use Rattle.std.specs.Prelude.{Option}
use Rattle.ygg_value.specs.declared.shape.Shape.{Shape}
use Rattle.ygg_syntax.specs.declared.tree.Def.{Def}
use Rattle.ygg_oblige_laws.specs.ygg_meaning.Layer.{ClosedLayer, BlockRuns}
use Rattle.ygg_oblige_laws.specs.ygg_meaning.Machine.{on, based}
use Rattle.ygg_oblige_laws.specs.ygg_meaning.Obligations.{Schedule, IsRead}
use Rattle.ygg_oblige_laws.specs.ygg_meaning.Refines.{Below, machine_below}
use Rattle.ygg_oblige_laws.specs.ygg_meaning.Shapes.{zeros_of}
use Rattle.ygg_oblige_laws.specs.ygg_meaning.Violates.{Recovers}
use Rattle.ygg_oblige_laws.specs.ygg_rules.declared.rule.RuleKind.{RuleKind}
use Rattle.ygg_oblige_laws.specs.ygg_bank_proofs_Meaning.{fits_fewer}
use Rattle.ygg_oblige_laws.specs.ygg_bank.Values.{Inputs, Values, Fits}
use Rattle.ygg_oblige_laws.specs.ygg_bank.declared.node.Node.{Node}
use Rattle.ygg_oblige_laws.specs.ygg_shape_cells.declared.terms.SymValue.{SymValue}
use Rattle.ygg_oblige_laws.specs.ygg_sym_runs.Meaning.{answer_worth}
use Rattle.ygg_oblige_laws.specs.ygg_sym_runs.Laws.{picked_by}
use Rattle.ygg_oblige_laws.specs.ygg_sym_runs.Lows.{LowShaped, low_worth}
use Rattle.ygg_oblige_laws.specs.ygg_sym_laws.Below.{zeros_made}
use Rattle.ygg_oblige_laws.specs.ygg_sym_laws.Means.{terms_of, WholeMeans}
use Rattle.ygg_sym_laws.specs.Fronts.{run_picks}
use Rattle.ygg_sym_laws.specs.Named.{RunNamed}
use Rattle.ygg_oblige_laws.specs.LayerTerms.{ShapesKept}
use Rattle.ygg_oblige_laws.specs.Terms.{ran, recovered}
use Rattle.ygg_oblige_laws.specs.Steps.{end_worth}
use Rattle.ygg_oblige_laws.proofs.Schedules.{reads, wakes_below}
use Rattle.ygg_oblige_laws.proofs.Wholes.{woken, woken_gives}
use Rattle.ygg_oblige_laws.specs.Parts.{PartsMean}
use Rattle.ygg_oblige_laws.specs.Schedules.{woken_picks}

module _ (kinds : List RuleKind) (defs : List Def) (G : Below) (L : ClosedLayer) (parts : PartsMean kinds defs G L) (inputs : Inputs) (v : Values)
    (shape : Option Shape) (whole : WholeMeans kinds defs G L L.layer.recover L.layer.memory [] shape) (shapes : ShapesKept L.layer.memory)
    (named : RunNamed kinds defs G L L.layer.recover L.layer.memory []) (first : ℕ) (low : List SymValue) (at : List Node) (low_are : LowShaped at L.low low)
    (fit : Fits inputs v (recovered kinds (terms_of kinds defs) L G first low at).nodes) where
  -- the recovery from what the terms are worth
  pub recovery_named :
      let end = (recovered kinds (terms_of kinds defs) L G first low at).value in
      BlockRuns L (machine_below G) L.layer.recover [] (on (zeros_of L.layer.memory) (based (low_worth v L.low low)))
      (woken_picks G L inputs first (low_worth v L.low low)) (answer_worth v end.answer) (end_worth v L end true).to
  recovery_named =
      let z = zeros_made kinds L.layer.memory at in
      let r = ran kinds (terms_of kinds defs) L G first L.layer.recover z.value [] [] low z.nodes in
      let hz = fits_fewer inputs v z.nodes r.nodes (whole.grows first (woken z.value low) z.nodes) fit in
      let zs = woken_gives kinds defs G L parts inputs v shape whole shapes low at low_are hz in
      let w = named inputs v first (woken z.value low) z.nodes zs.begins fit in
      let base = low_worth v L.low low in
      subst (λ m. BlockRuns L (machine_below G) L.layer.recover [] (on m (based base)) (run_picks G L L.layer.recover m [] base (picked_by inputs first))
      (answer_worth v r.value.answer) (end_worth v L r.value true).to) zs.zeros_are w.run

  -- is the schedule's, where the schedule has just its picks
  pub recovers_named : (x : Schedule) → x.wake ≡ woken_picks G L inputs first (low_worth v L.low low) →
      Recovers L (machine_below G) x (low_worth v L.low low) (end_worth v L (recovered kinds (terms_of kinds defs) L G first low at).value true).to
  recovers_named x e =
      let picks = woken_picks G L inputs first (low_worth v L.low low) in
      record {
        taken = picks;
        run = record {
          lower = based (low_worth v L.low low);
          first = [];
          second = picks;
          wakes = wakes_below G (low_worth v L.low low);
          next = (answer_worth v (recovered kinds (terms_of kinds defs) L G first low at).value.answer, recovery_named);
          takes = refl;
        };
        read = subst (λ p. IsRead p picks) (sym e) (reads picks);
      }
