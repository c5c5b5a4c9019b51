-- Power loss between operations over terms, and the state below at its start.
use Rattle.std.proofs.Common.{◌≡◌, ℕ, true, List, [], sym, ap, subst}
use Rattle.ygg_syntax.specs.declared.tree.Def.{Def}
use Rattle.ygg_syntax.specs.declared.tree.Layer.{Layer}
use Rattle.ygg_sym_laws.specs.ygg_type_rules.TypeErrors.{none}
use Rattle.ygg_sym_laws.specs.ygg_type_rules.Definitions.{definitions_errors}
use Rattle.ygg_sym_laws.specs.ygg_meaning.Environments.{Env}
use Rattle.ygg_sym_laws.specs.ygg_meaning.Layer.{ClosedLayer}
use Rattle.ygg_sym_laws.specs.ygg_meaning.Machine.{State, based}
use Rattle.ygg_sym_laws.specs.ygg_meaning.Meaning.{Functions}
use Rattle.ygg_sym_laws.specs.ygg_meaning.Refines.{Below, OnDisk, OnSpec, machine_below}
use Rattle.ygg_sym_laws.specs.ygg_rules.declared.rule.RuleKind.{RuleKind}
use Rattle.ygg_sym_laws.specs.ygg_bank_proofs_Meaning.{fits_fewer}
use Rattle.ygg_sym_laws.specs.ygg_bank.Values.{Inputs, Values, Fits}
use Rattle.ygg_sym_laws.specs.ygg_bank.declared.node.Node.{Node}
use Rattle.ygg_sym_laws.specs.ygg_shape_cells.declared.terms.SymValue.{SymValue}
use Rattle.ygg_sym_laws.specs.ygg_sym_runs.Laws.{picked_by}
use Rattle.ygg_sym_laws.specs.ygg_sym_runs.Lows.{LowShaped, low_worth}
use Rattle.ygg_sym_laws.specs.ygg_sym_runs_proofs_Lows.{low_fits}
use Rattle.ygg_sym_laws.specs.Below.{lows_on, lost_made}
use Rattle.ygg_sym_laws.specs.Means.{terms_of, StartMeans}
use Rattle.ygg_sym_laws.specs.Typed.{BelowTyped}
use Rattle.ygg_sym_laws.proofs.Start.{disk_start}
use Rattle.ygg_sym_laws.proofs.AnyLayer.{spec_start}
use Rattle.ygg_sym_laws.specs.Fronts.{lose_on, loss_picks, low_at_start}
use Rattle.ygg_sym_laws.proofs.NamedRuns.{losses, starts}
use Rattle.ygg_sym_laws.proofs.Beginning.{layer_on}
use Rattle.ygg_sym_laws.proofs.Machines.{stops_mean}
use Rattle.ygg_sym_laws.specs.SymLaws.{OverTyped, StartIsNamed}
use Rattle.ygg_sym_laws.specs.Named.{LossNamed}

-- what power loss leaves over terms, and that the nodes only grow
record Lost (kinds : List RuleKind) (defs : List Def) (G : Below) (inputs : Inputs) (v : Values) (last : ℕ) (low : List SymValue) (nodes : List Node) :
    Type 0 where
  fits : Fits inputs v nodes
  is : low_worth v (lows_on G) (lost_made kinds (terms_of kinds defs) G last low nodes).value
      ≡ lose_on G (picked_by inputs last) (based (low_worth v (lows_on G) low))

module _ (kinds : List RuleKind) (defs : List Def) (sound : none (definitions_errors defs [] []) ≡ true) where
  lost_there : (G : Below) → BelowTyped defs G → (inputs : Inputs) (v : Values) (last : ℕ) (low : List SymValue) (nodes : List Node) →
      LowShaped nodes (lows_on G) low → Fits inputs v (lost_made kinds (terms_of kinds defs) G last low nodes).nodes → Lost kinds defs G inputs v last low nodes
  lost_there (OnDisk d) typed inputs v last low nodes shaped h =
      let s = stops_mean kinds defs sound inputs v (OnDisk d) typed 0 last in
      record { fits = h; is = (s.lose_is low nodes shaped h).is }
  lost_there (OnSpec m) typed inputs v last low nodes shaped h =
      let s = stops_mean kinds defs sound inputs v (OnSpec m) typed 0 last in
      record {
        fits = fits_fewer inputs v nodes (lost_made kinds (terms_of kinds defs) (OnSpec m) last low nodes).nodes (s.lose_grows low nodes) h;
        is = (s.lose_is low nodes shaped h).is;
      }

  pub loss_named : (G : Below) → BelowTyped defs G → (functions : Functions) (layer : Layer) → LossNamed kinds defs G (layer_on G functions layer)
  loss_named G typed functions layer inputs v last low nodes shaped h =
      let l = lost_there G typed inputs v last low nodes shaped h in
      let before = low_worth v (lows_on G) low in
      let loses = losses defs G before typed (low_fits inputs v nodes (lows_on G) low l.fits shaped) (picked_by inputs last) in
      record {
        is = l.is;
        loses = subst (λ (e : Env). (machine_below G).Loses (based before) (loss_picks G (picked_by inputs last) before) e) (sym l.is) loses;
      }

start_means : (kinds : List RuleKind) (defs : List Def) (G : Below) (L : ClosedLayer) → OverTyped defs G L → StartMeans kinds defs G L
start_means kinds defs (OnDisk d) L over = disk_start kinds defs d L over.below over.low_is
start_means kinds defs (OnSpec m) L over = spec_start kinds defs m L over.definitions over.below over.low_is

pub start_named : StartIsNamed
start_named kinds defs G L over inputs v nodes h =
    let means = start_means kinds defs G L over in
    sym (ap (λ (s : State Env). s.base) (means.back (based (low_at_start G)) [] (starts defs G over.below) inputs v nodes h))
