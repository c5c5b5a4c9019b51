-- What power loss leaves, and what there is at the start, whatever a layer is specified over.
use Rattle.std.proofs.Common.{◌≡◌, ℕ, List, OnOk, IfOk, Ok, Err, Result, sym, ap, ◌∙◌, subst}
use Rattle.ygg_syntax.specs.declared.tree.Declared.{Declared}
use Rattle.ygg_syntax.specs.declared.tree.Def.{Def}
use Rattle.ygg_syntax.specs.declared.tree.DiskText.{DiskText}
use Rattle.ygg_sym_spec.specs.ygg_rules.declared.rule.RuleKind.{RuleKind}
use Rattle.ygg_sym_spec.specs.ygg_bank.Makes.{Out}
use Rattle.ygg_sym_spec.specs.ygg_bank.Nodes.{IsBank}
use Rattle.ygg_sym_spec.specs.ygg_bank.Values.{value_of}
use Rattle.ygg_sym_spec.specs.ygg_bank.declared.node.Node.{Node}
use Rattle.ygg_sym_spec.proofs.of_ygg_shape.Answered.{no_inputs, some_fit}
use Rattle.ygg_sym_spec.specs.ygg_shape_cells.declared.terms.SymValue.{SymValue}
use Rattle.ygg_sym_spec.specs.ygg_sym_runs.Lower.{KeepsSingle}
use Rattle.ygg_sym_machine.specs.ygg_sym_runs.Cuts.{disk_loses}
use Rattle.ygg_sym_machine.specs.ygg_sym_runs.Lows.{LowShaped}
use Rattle.ygg_sym_machine.specs.ygg_sym_runs.SpecCuts.{crash_made}
use Rattle.ygg_sym_machine.specs.ygg_sym_runs.Specs.{input_pick}
use Rattle.ygg_sym_machine.specs.ygg_sym_runs.Below.{lost_made, lows_at_start, lows_on, start_made, zeros_made}
use Rattle.ygg_sym_machine.specs.ygg_sym_runs.Means.{LossMeans, terms_of}
use Rattle.ygg_sym_laws.proofs.Loss.{disk_loss}
use Rattle.ygg_sym_laws.proofs.AnyLayer.{spec_loss}
use Rattle.ygg_sym.specs.Layers.{closed, crash_of, terms_in}
use Rattle.ygg_sym.specs.SymLayer.{SymLayer}
use Rattle.ygg_sym.specs.SymPicks.TheVariants as picks
use Rattle.ygg_sym.specs.Sites.{BelowFits, below_in}
use Rattle.ygg_sym_spec.specs.declared.below.SymBelow.{SymBelow}
use Rattle.ygg_sym_spec.specs.declared.below.SymBelow.TheVariants.{Disk, Layer}
use Rattle.ygg_sym.proofs.Carried.{on_value}

-- power loss means what it should
loss_on : (kinds : List RuleKind) (l : SymLayer) (g : SymBelow) → BelowFits l g → LossMeans kinds l.defs.now (below_in g) (closed l)
loss_on kinds l (Disk d) fits = disk_loss kinds l.defs.now d (closed l) fits.typed fits.low_is
loss_on kinds l (Layer m) fits = spec_loss kinds l.defs.now (closed m) (closed l) fits.sound fits.typed fits.low_is

-- no node came
pub none_single : {A E : Type 0} (nodes : List Node) (r : Result A E) → OnOk r (KeepsSingle nodes nodes)
none_single nodes (Ok x) = λ first h. h
none_single nodes (Err x) = tt

module _ (kinds : List RuleKind) (l : SymLayer) (g : SymBelow) (fits : BelowFits l g) (nodes : List Node) where
  module _ (last : ℕ) (low : List SymValue) where
    abbrev lost_of : Out (List SymValue)
    lost_of = lost_made kinds (terms_in kinds l) (below_in g) last low nodes

    -- what is left stands
    pub lost_shape : {E : Type 0} (new : List Node) (r : Result (List SymValue) E) → LowShaped nodes l.low.now low → OnOk r (new ≡ lost_of.nodes) →
        IfOk r (λ xs. xs ≡ lost_of.value) → IsBank new → IfOk r (LowShaped new l.low.now)
    lost_shape new r h e f bank =
        on_value (λ ns xs. LowShaped ns l.low.now xs) lost_of new r e f bank
        (λ b. (loss_on kinds l g fits).after no_inputs (value_of no_inputs lost_of.nodes) last low nodes h (some_fit lost_of.nodes b))

    -- of the disk
    pub disk_lost_nodes : {A E : Type 0} (d : DiskText) (r : Result A E) → g ≡ Disk d → OnOk r (nodes ≡ lost_of.nodes)
    disk_lost_nodes d (Ok x) e = ap (λ (z : SymBelow). (lost_made kinds (terms_in kinds l) (below_in z) last low nodes).nodes) (sym e)
    disk_lost_nodes d (Err x) e = tt

    pub disk_lost_form : {E : Type 0} (d : DiskText) (r : Result (List SymValue) E) → g ≡ Disk d → IfOk r (λ xs. xs ≡ disk_loses d.kind low) →
        IfOk r (λ xs. xs ≡ lost_of.value)
    disk_lost_form d r e f =
        subst (λ (z : SymBelow). IfOk r (λ xs. xs ≡ (lost_made kinds (terms_in kinds l) (below_in z) last low nodes).value)) (sym e) f

    -- and of the layer below
    pub spec_lost : (m : SymLayer) → g ≡ Layer m → crash_of kinds m (picks.Inputs last) low nodes ≡ lost_of
    spec_lost m e =
        ap (λ (ds : List Def). crash_made kinds (terms_of kinds ds) (closed m) (input_pick kinds last) low nodes) ((subst (BelowFits l) e fits).same)
        ∙ ap (λ (z : SymBelow). lost_made kinds (terms_in kinds l) (below_in z) last low nodes) (sym e)

  -- the disk at its start
  pub disk_begun : (d : DiskText) → g ≡ Disk d → zeros_made kinds l.low.now nodes ≡ lows_at_start kinds (terms_in kinds l) (below_in g) nodes
  disk_begun d e =
      ap (λ (ds : List Declared). zeros_made kinds ds nodes) (fits.low_is ∙ ap (λ (z : SymBelow). lows_on (below_in z)) e)
      ∙ ap (λ (z : SymBelow). lows_at_start kinds (terms_in kinds l) (below_in z) nodes) (sym e)

  -- the layer below at its start
  pub spec_begun : (m : SymLayer) → g ≡ Layer m →
      start_made kinds (terms_in kinds m) (closed m) nodes ≡ lows_at_start kinds (terms_in kinds l) (below_in g) nodes
  spec_begun m e =
      ap (λ (ds : List Def). start_made kinds (terms_of kinds ds) (closed m) nodes) ((subst (BelowFits l) e fits).same)
      ∙ ap (λ (z : SymBelow). lows_at_start kinds (terms_in kinds l) (below_in z) nodes) (sym e)

-- the variables of what a layer is specified over
pub lows_are : (l : SymLayer) (g h : SymBelow) → BelowFits l g → g ≡ h → l.low.now ≡ lows_on (below_in h)
lows_are l g h fits e = fits.low_is ∙ ap (λ (z : SymBelow). lows_on (below_in z)) e
