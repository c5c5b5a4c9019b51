-- The disk and the layer below as the machine that a layer's blocks are run on.
use Rattle.std.proofs.Common.{◌≡◌, ℕ, List, [], IsTrue, sym, ap, ◌∙◌, subst}
use Rattle.ygg_syntax.specs.declared.tree.Def.{Def}
use Rattle.ygg_syntax.specs.declared.tree.DiskText.{DiskText}
use Rattle.ygg_sym_spec.specs.ygg_type_rules.TypeErrors.{none}
use Rattle.ygg_sym_spec.specs.ygg_type_rules.Definitions.{definitions_errors}
use Rattle.ygg_sym_spec.specs.ygg_rules.declared.rule.RuleKind.{RuleKind}
use Rattle.ygg_sym_spec.specs.ygg_bank.declared.node.Node.{Node}
use Rattle.ygg_sym_spec.specs.ygg_shape_cells.declared.terms.SymValue.{SymValue}
use Rattle.ygg_sym_spec.specs.ygg_sym_runs.Lower.{SingleFrom, Stands}
use Rattle.ygg_sym_machine.specs.ygg_sym_runs.Lows.{LowShaped}
use Rattle.ygg_sym_machine.specs.ygg_sym_runs.SpecCuts.{spec_stops}
use Rattle.ygg_sym_machine.specs.ygg_sym_runs.Specs.{input_pick, sym_spec}
use Rattle.ygg_sym_machine.specs.Means.{disk_meaning}
use Rattle.ygg_sym_machine.specs.ygg_sym_runs.Below.{lows_on, machine_on, signatures_on, space_on, stops_on}
use Rattle.ygg_sym_machine.specs.ygg_sym_runs.Means.{terms_of}
use Rattle.ygg_sym_machine.specs.ygg_sym_runs.Typed.{BelowTyped, SpecTyped}
use Rattle.ygg_sym.specs.Stopping as stopping
use Rattle.ygg_sym.specs.DiskFailing.{disk_power}
use Rattle.ygg_sym.specs.Layers.{SpecServes, closed, terms_in}
use Rattle.ygg_sym.specs.Machine.{spec_meaning}
use Rattle.ygg_sym.specs.SymLayer.{SymLayer}
use Rattle.ygg_sym.specs.SpecFailing.{spec_power}
use Rattle.ygg_sym.specs.Sites.{BelowFits, below_in}
use Rattle.ygg_sym_spec.specs.declared.below.SymBelow.{SymBelow}
use Rattle.ygg_sym_spec.specs.declared.below.SymBelow.TheVariants.{Disk, Layer}

-- the layer below is in order
pub spec_serves : (l m : SymLayer) → BelowFits l (Layer m) → SpecServes m
spec_serves l m fits = record {
  sound = subst (λ (ds : List Def). IsTrue (none (definitions_errors ds [] []))) (sym fits.same) fits.sound;
  typed = subst (λ (ds : List Def). SpecTyped ds (closed m)) (sym fits.same) fits.typed;
}

module _ (l : SymLayer) (g : SymBelow) (fits : BelowFits l g) where
  module _ (d : DiskText) (e : g ≡ Disk d) (first : ℕ) where
    -- the disk stands
    pub disk_stands : (nodes : List Node) (low : List SymValue) → LowShaped nodes l.low.now low → SingleFrom first nodes →
        Stands (disk_meaning (record { disk = d; first = first })) nodes low
    disk_stands nodes low h single = record {
      serves = subst (λ (z : SymBelow). BelowTyped l.defs.now (below_in z)) e fits.typed;
      has = subst (λ ds. LowShaped nodes ds low) (fits.low_is ∙ ap (λ (z : SymBelow). lows_on (below_in z)) e) h;
      single = single;
    }

    pub disk_lower : (disk_meaning (record { disk = d; first = first })).lower ≡ signatures_on (below_in g)
    disk_lower = ap (λ (z : SymBelow). signatures_on (below_in z)) (sym e)

    module _ (kinds : List RuleKind) where
      pub disk_same : (disk_meaning (record { disk = d; first = first })).machine kinds ≡ machine_on kinds (terms_in kinds l) (below_in g) first
      disk_same = ap (λ (z : SymBelow). machine_on kinds (terms_in kinds l) (below_in z) first) (sym e)

      pub disk_space : ((disk_meaning (record { disk = d; first = first })).machine kinds).space ≡ space_on (below_in g)
      disk_space = ap (λ (z : SymBelow). space_on (below_in z)) (sym e)

      pub disk_stops_same : (stop last : ℕ) →
          stopping.stops_on (disk_meaning (record { disk = d; first = first }))
          (disk_power (record { machine = record { disk = d; first = first }; stop = stop; last = last })) kinds
          ≡ stops_on kinds (terms_in kinds l) (below_in g) stop last
      disk_stops_same stop last = ap (λ (z : SymBelow). stops_on kinds (terms_in kinds l) (below_in z) stop last) (sym e)

  module _ (m : SymLayer) (e : g ≡ Layer m) (first : ℕ) where
    -- the layer below stands
    pub spec_stands : (nodes : List Node) (low : List SymValue) → LowShaped nodes l.low.now low → SingleFrom first nodes →
        Stands (spec_meaning (record { layer = m; first = first })) nodes low
    spec_stands nodes low h single = record {
      serves = spec_serves l m (subst (BelowFits l) e fits);
      has = subst (λ ds. LowShaped nodes ds low) (fits.low_is ∙ ap (λ (z : SymBelow). lows_on (below_in z)) e) h;
      single = single;
    }

    pub spec_lower : (spec_meaning (record { layer = m; first = first })).lower ≡ signatures_on (below_in g)
    spec_lower = ap (λ (z : SymBelow). signatures_on (below_in z)) (sym e)

    -- it has the file's definitions
    pub spec_defs : m.defs.now ≡ l.defs.now
    spec_defs = (subst (BelowFits l) e fits).same

    module _ (kinds : List RuleKind) where
      pub spec_same : (spec_meaning (record { layer = m; first = first })).machine kinds ≡ machine_on kinds (terms_in kinds l) (below_in g) first
      spec_same =
          ap (λ (ds : List Def). sym_spec kinds (terms_of kinds ds) (closed m) (input_pick kinds first)) spec_defs
          ∙ ap (λ (z : SymBelow). machine_on kinds (terms_in kinds l) (below_in z) first) (sym e)

      pub spec_space : ((spec_meaning (record { layer = m; first = first })).machine kinds).space ≡ space_on (below_in g)
      spec_space = ap (λ (z : SymBelow). space_on (below_in z)) (sym e)

      pub spec_stops_same : (stop last : ℕ) →
          stopping.stops_on (spec_meaning (record { layer = m; first = first }))
          (spec_power (record { machine = record { layer = m; first = first }; stop = stop; last = last })) kinds
          ≡ stops_on kinds (terms_in kinds l) (below_in g) stop last
      spec_stops_same stop last =
          ap (λ (ds : List Def). spec_stops kinds (terms_of kinds ds) (closed m) stop last) spec_defs
          ∙ ap (λ (z : SymBelow). stops_on kinds (terms_in kinds l) (below_in z) stop last) (sym e)
