-- The laws for each layer over the specification.
use Rattle.std.proofs.Common.{List, sym, subst}
use Rattle.ygg_syntax.specs.declared.grammar.BlockKind.TheVariants.{Impl}
use Rattle.ygg_syntax.specs.declared.tree.Declared.{Declared}
use Rattle.ygg_sym_laws.specs.ygg_meaning.Layer.{ClosedLayer}
use Rattle.ygg_sym_laws.specs.ygg_meaning.Refines.{OnSpec}
use Rattle.ygg_sym_laws.specs.Below.{signatures_of}
use Rattle.ygg_sym_laws.specs.Typed.{BlockTyped}
use Rattle.ygg_sym_laws.specs.Means.{LossMeans, StartMeans, WholeMeans, FallMeans}
use Rattle.ygg_sym_laws.specs.SpecLaws.{FallsOnSpec, LossOnSpec, StartOnSpec, WholeOnSpec}
use Rattle.ygg_sym_laws.proofs.SpecWhole.{whole_means}
use Rattle.ygg_sym_laws.proofs.FallsOnSpec.{fall_means}
use Rattle.ygg_sym_laws.proofs.Starts.{loss_means, start_means}

-- the layer with these variables of the base below
abbrev over : ClosedLayer → List Declared → ClosedLayer
over L low = record { functions = L.functions; layer = L.layer; low = low }

pub spec_whole : WholeOnSpec
spec_whole kinds defs m L b vars args sound spec same low_is typed =
    subst (λ (ds : List Declared). (t : BlockTyped defs (over L ds) Impl (signatures_of m.layer.operations) b vars args) →
    WholeMeans kinds defs (OnSpec m) (over L ds) b vars args t.shape) (sym low_is)
    (λ t. whole_means kinds defs sound m spec L.functions L.layer same b vars args t) typed

pub spec_falls : FallsOnSpec
spec_falls kinds defs m L b vars args sound spec same low_is typed =
    subst (λ (ds : List Declared). BlockTyped defs (over L ds) Impl (signatures_of m.layer.operations) b vars args →
    FallMeans kinds defs (OnSpec m) (over L ds) b vars args) (sym low_is)
    (λ t. fall_means kinds defs sound m spec L.functions L.layer same b vars args t) typed

pub spec_loss : LossOnSpec
spec_loss kinds defs m L sound spec low_is =
    subst (λ (ds : List Declared). LossMeans kinds defs (OnSpec m) (over L ds)) (sym low_is) (loss_means kinds defs sound m spec L.functions L.layer)

pub spec_start : StartOnSpec
spec_start kinds defs m L sound spec low_is =
    subst (λ (ds : List Declared). StartMeans kinds defs (OnSpec m) (over L ds)) (sym low_is) (start_means kinds defs sound m spec L.functions L.layer)
