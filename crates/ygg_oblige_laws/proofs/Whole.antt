-- The laws without premises: what typing gives, runs over terms on the disk and on specifications, and the parts put together.
use Rattle.std.proofs.Common.{List, [], ◌∷◌}
use Rattle.std.specs.Prelude.{All, slice_index_or}
use Rattle.ygg_syntax.specs.declared.grammar.BlockKind.TheVariants.{Impl}
use Rattle.ygg_syntax.specs.declared.tree.Block.{Block}
use Rattle.ygg_syntax.specs.declared.tree.Declared.{Declared}
use Rattle.ygg_syntax.specs.declared.tree.Def.{Def}
use Rattle.ygg_syntax.specs.declared.tree.DiskText.{DiskText}
use Rattle.ygg_syntax.specs.declared.tree.Tick.{Tick}
use Rattle.ygg_sym_laws.specs.ygg_meaning.Layer.{ClosedLayer}
use Rattle.ygg_sym_laws.specs.ygg_meaning.Refines.{Below, OnDisk, OnSpec}
use Rattle.ygg_sym_laws.specs.ygg_meaning.Stack.{Layers, below_of, layers_of}
use Rattle.ygg_sym_laws.specs.ygg_rules.declared.rule.RuleKind.{RuleKind}
use Rattle.ygg_sym_laws.specs.Below.{signatures_on}
use Rattle.ygg_sym_laws.specs.Means.{LossMeans, StartMeans, WholeMeans, FallMeans}
use Rattle.ygg_sym_laws.specs.Typed.{BlockTyped}
use Rattle.ygg_sym_laws.proofs.DiskFalls.{disk_falls}
use Rattle.ygg_sym_laws.proofs.Loss.{disk_loss}
use Rattle.ygg_sym_laws.proofs.Start.{disk_start}
use Rattle.ygg_sym_laws.proofs.DiskWhole.{disk_whole}
use Rattle.ygg_oblige_laws.proofs.AnyLayer.{spec_falls, spec_loss, spec_start, spec_whole}
use Rattle.ygg_oblige_laws.specs.LayerTerms.{OperationFits, LayerTyped}
use Rattle.ygg_oblige_laws.proofs.Compares.{comparing_means}
use Rattle.ygg_oblige_laws.proofs.Fresh.{fresh_means}
use Rattle.ygg_oblige_laws.proofs.Glued.{glued_means}
use Rattle.ygg_oblige_laws.proofs.Starting.{states_mean}
use Rattle.ygg_oblige_laws.proofs.Steps.{steps_mean}
use Rattle.ygg_oblige_laws.proofs.Files.{typed_layers}
use Rattle.ygg_oblige_laws.specs.TypedLayers.{LayersTyped}
use Rattle.ygg_oblige_laws.proofs.Layered.{PartsMeanSo, layer_means, layer_below}
use Rattle.ygg_oblige_laws.proofs.Layered as layered
use Rattle.ygg_oblige_laws.specs.LayerMeans.{OperationMeans, TickMeans, LayerMeans}
use Rattle.ygg_oblige_laws.specs.Layers.{LayersKnown}
use Rattle.ygg_oblige_laws.specs.Laws.{LayerTermsMean, LayerInputs, FileTermsMean}

whole_on : (kinds : List RuleKind) (defs : List Def) (G : Below) (L : ClosedLayer) (b : Block) (args : List Declared) → LayerTyped defs G L →
    (t : BlockTyped defs L Impl (signatures_on G) b L.layer.memory args) → WholeMeans kinds defs G L b L.layer.memory args t.shape
whole_on kinds defs (OnDisk d) L b args typed t = disk_whole kinds defs d L b L.layer.memory args typed.definitions typed.below typed.functions typed.low_is t
whole_on kinds defs (OnSpec m) L b args typed t = spec_whole kinds defs m L b L.layer.memory args typed.definitions typed.below typed.functions typed.low_is t

falls_on : (kinds : List RuleKind) (defs : List Def) (G : Below) (L : ClosedLayer) (b : Block) (args : List Declared) → LayerTyped defs G L →
    BlockTyped defs L Impl (signatures_on G) b L.layer.memory args → FallMeans kinds defs G L b L.layer.memory args
falls_on kinds defs (OnDisk d) L b args typed t = disk_falls kinds defs d L b L.layer.memory args typed.definitions typed.below typed.functions typed.low_is t
falls_on kinds defs (OnSpec m) L b args typed t = spec_falls kinds defs m L b L.layer.memory args typed.definitions typed.below typed.functions typed.low_is t

loss_on : (kinds : List RuleKind) (defs : List Def) (G : Below) (L : ClosedLayer) → LayerTyped defs G L → LossMeans kinds defs G L
loss_on kinds defs (OnDisk d) L typed = disk_loss kinds defs d L typed.below typed.low_is
loss_on kinds defs (OnSpec m) L typed = spec_loss kinds defs m L typed.definitions typed.below typed.low_is

start_on : (kinds : List RuleKind) (defs : List Def) (G : Below) (L : ClosedLayer) → LayerTyped defs G L → StartMeans kinds defs G L
start_on kinds defs (OnDisk d) L typed = disk_start kinds defs d L typed.below typed.low_is
start_on kinds defs (OnSpec m) L typed = spec_start kinds defs m L typed.definitions typed.below typed.low_is

each : {X : Type 0} (P Q : X → Type 0) (xs : List X) → ((x : X) → P x → Q x) → All P xs → All Q xs
each P Q xs f h k d l = f (slice_index_or xs k d) (h k d l)

-- all runs of a layer without a type error mean what they should
pub means_typed : (kinds : List RuleKind) (defs : List Def) (G : Below) (L : ClosedLayer) → LayerTyped defs G L → LayerMeans kinds defs G L
means_typed kinds defs G L typed = record {
  format_shape = typed.format_typed.shape;
  format_whole = whole_on kinds defs G L L.layer.format [] typed typed.format_typed;
  recover_shape = typed.recover_typed.shape;
  recover_whole = whole_on kinds defs G L L.layer.recover [] typed typed.recover_typed;
  recover_falls = falls_on kinds defs G L L.layer.recover [] typed typed.recover_typed;
  operations = each (OperationFits defs G L) (OperationMeans kinds defs G L) L.layer.operations
      (λ o f. record {
        shape = f.implementation.shape;
        answers = f.answers;
        whole = whole_on kinds defs G L o.implementation o.arguments typed f.implementation;
        falls = falls_on kinds defs G L o.implementation o.arguments typed f.implementation;
      }) typed.operations_typed;
  ticks = each (λ (t : Tick). BlockTyped defs L Impl (signatures_on G) t.body L.layer.memory []) (TickMeans kinds defs G L) L.layer.ticks
      (λ t b. record { shape = b.shape; whole = whole_on kinds defs G L t.body [] typed b; falls = falls_on kinds defs G L t.body [] typed b })
      typed.ticks_typed;
  loss = loss_on kinds defs G L typed;
  start = start_on kinds defs G L typed;
}

parts_mean : PartsMeanSo
parts_mean kinds defs G L typed = record {
  fresh = fresh_means;
  glue = glued_means;
  comparing = comparing_means kinds;
  states = states_mean kinds defs G L typed;
  steps = steps_mean kinds defs G L typed;
}

layers_known : (kinds : List RuleKind) (defs : List Def) (disk : DiskText) (ls : Layers) → LayersTyped defs disk ls → LayersKnown kinds defs disk ls
layers_known kinds defs disk [] t = tt
layers_known kinds defs disk (L ∷ lower) t =
    (record { typed = t.0; means = means_typed kinds defs (below_of disk lower) L t.0 }, layers_known kinds defs disk lower t.1)

pub layer_terms_mean : LayerTermsMean
layer_terms_mean kinds defs G L number before final typed free g bank =
    layer_means kinds defs G L (parts_mean kinds defs G L typed) typed (means_typed kinds defs G L typed) number before free final bank g

pub layer_inputs : LayerInputs
layer_inputs kinds defs G L number before typed free =
    layer_below kinds defs G L (parts_mean kinds defs G L typed) typed (means_typed kinds defs G L typed) number before free

pub file_terms_mean : FileTermsMean
file_terms_mean kinds file derived typed bank =
    layered.file_means parts_mean kinds file (layers_known kinds file.defs file.disk (layers_of file) (typed_layers file derived typed)) bank
