-- The laws of runs over terms on whatever a layer is specified over, and of picks and constants.
use Rattle.std.proofs.Common.{◌≡◌, ◌==◌, ℕ, true, List, ◌∷◌, [], Option, Some, None, ap}
use Rattle.ygg_value.specs.Words.{word}
use Rattle.ygg_value.specs.declared.word.Word as number
use Rattle.ygg_syntax.specs.declared.grammar.BlockKind.TheVariants.{Impl}
use Rattle.ygg_syntax.specs.declared.tree.Block.{Block}
use Rattle.ygg_syntax.specs.declared.tree.Declared.{Declared}
use Rattle.ygg_syntax.specs.declared.tree.Def.{Def}
use Rattle.ygg_meaning.specs.Layer.{ClosedLayer}
use Rattle.ygg_meaning.specs.Machine.{Picks}
use Rattle.ygg_meaning.specs.Refines.{Below, OnDisk, OnSpec}
use Rattle.ygg_rules.specs.declared.rule.RuleKind.{RuleKind}
use Rattle.ygg_bank.specs.Making.{made}
use Rattle.ygg_bank.specs.Values.{Inputs, Values, Fits}
use Rattle.ygg_bank.specs.declared.node.Node.{Node}
use Rattle.ygg_bank.specs.declared.node.Node.TheVariants.{Const}
use Rattle.ygg_sym_runs.specs.Meaning.{is_set}
use Rattle.ygg_sym_runs.proofs.Specs.{PickMeans, given_pick_means, input_pick_means}
use Rattle.ygg_sym_laws.specs.Below.{signatures_on}
use Rattle.ygg_sym_laws.specs.Means.{LossMeans, WholeMeans, FallMeans}
use Rattle.ygg_sym_laws.specs.Typed.{BlockTyped}
use Rattle.ygg_sym_laws.proofs.DiskFalls.{disk_falls}
use Rattle.ygg_sym_laws.proofs.Loss.{disk_loss}
use Rattle.ygg_sym_laws.proofs.DiskWhole.{disk_whole}
use Rattle.ygg_sym_laws.proofs.AnyLayer.{spec_falls, spec_loss, spec_whole}
use Rattle.ygg_sym_laws.specs.SymLaws.{OverTyped}
use Rattle.ygg_sym_bodies.specs.Runs.{pick_made}
use Rattle.ygg_sym_bodies.specs.Worths.{bits_named}

pub whole_means : (kinds : List RuleKind) (defs : List Def) (G : Below) (L : ClosedLayer) (b : Block) (vars args : List Declared) → OverTyped defs G L →
    (t : BlockTyped defs L Impl (signatures_on G) b vars args) → WholeMeans kinds defs G L b vars args t.shape
whole_means kinds defs (OnDisk d) L b vars args o t = disk_whole kinds defs d L b vars args o.definitions o.below o.functions o.low_is t
whole_means kinds defs (OnSpec m) L b vars args o t = spec_whole kinds defs m L b vars args o.definitions o.below o.functions o.low_is t

pub fall_means : (kinds : List RuleKind) (defs : List Def) (G : Below) (L : ClosedLayer) (b : Block) (vars args : List Declared) → OverTyped defs G L →
    BlockTyped defs L Impl (signatures_on G) b vars args → FallMeans kinds defs G L b vars args
fall_means kinds defs (OnDisk d) L b vars args o t = disk_falls kinds defs d L b vars args o.definitions o.below o.functions o.low_is t
fall_means kinds defs (OnSpec m) L b vars args o t = spec_falls kinds defs m L b vars args o.definitions o.below o.functions o.low_is t

pub loss_means : (kinds : List RuleKind) (defs : List Def) (G : Below) (L : ClosedLayer) → OverTyped defs G L → LossMeans kinds defs G L
loss_means kinds defs (OnDisk d) L o = disk_loss kinds defs d L o.below o.low_is
loss_means kinds defs (OnSpec m) L o = spec_loss kinds defs m L o.definitions o.below o.low_is

module _ (inputs : Inputs) (v : Values) (kinds : List RuleKind) where
  -- the pick of each place is worth the bit that is named for it
  pub picks_mean : (given : Option Picks) (first : ℕ) → PickMeans inputs v (pick_made kinds given first) (bits_named inputs given first)
  picks_mean (Some given) first = given_pick_means inputs v kinds given
  picks_mean None first = input_pick_means inputs v kinds first

  -- the constant is worth 1
  pub one_is_set : (nodes : List Node) → let out = made kinds (Const (word 1 1)) nodes in Fits inputs v out.nodes → is_set v out.value ≡ true
  one_is_set nodes h = ap (λ (w : number.Word). w.bits == 1) ((given_pick_means inputs v kinds (true ∷ [])).is 0 nodes h)
