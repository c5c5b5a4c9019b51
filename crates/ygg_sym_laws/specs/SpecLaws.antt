-- What runs over terms on the specification of the layer below are worth: in each environment some run on it, and each run on it in some environment.
use Rattle.std.specs.Prelude.{◌≡◌, IsTrue, List, []}
use Rattle.ygg_syntax.specs.declared.grammar.BlockKind.TheVariants.{Impl}
use Rattle.ygg_syntax.specs.declared.tree.Declared.{Declared}
use Rattle.ygg_syntax.specs.declared.tree.Def.{Def}
use Rattle.ygg_syntax.specs.declared.tree.Block.{Block}
use Rattle.ygg_sym_laws.specs.ygg_type_rules.TypeErrors.{none}
use Rattle.ygg_sym_laws.specs.ygg_type_rules.Definitions.{definitions_errors}
use Rattle.ygg_sym_laws.specs.ygg_meaning.Meaning.{functions_of}
use Rattle.ygg_sym_laws.specs.ygg_meaning.Layer.{ClosedLayer}
use Rattle.ygg_sym_laws.specs.ygg_meaning.Refines.{OnSpec}
use Rattle.ygg_sym_laws.specs.ygg_rules.declared.rule.RuleKind.{RuleKind}
use Rattle.ygg_sym_laws.specs.Below.{signatures_of}
use Rattle.ygg_sym_laws.specs.Typed.{BlockTyped, SpecTyped}
use Rattle.ygg_sym_laws.specs.Means.{LossMeans, StartMeans, WholeMeans, FallMeans}

-- whole runs of a block without a type error
abbrev pub WholeOnSpec : Type 0
WholeOnSpec =
    (kinds : List RuleKind) (defs : List Def) (m L : ClosedLayer) (b : Block) (vars args : List Declared) →
    IsTrue (none (definitions_errors defs [] [])) → SpecTyped defs m → L.functions ≡ functions_of defs → L.low ≡ m.layer.state →
    (typed : BlockTyped defs L Impl (signatures_of m.layer.operations) b vars args) → WholeMeans kinds defs (OnSpec m) L b vars args typed.shape

-- such runs that power cuts
abbrev pub FallsOnSpec : Type 0
FallsOnSpec =
    (kinds : List RuleKind) (defs : List Def) (m L : ClosedLayer) (b : Block) (vars args : List Declared) →
    IsTrue (none (definitions_errors defs [] [])) → SpecTyped defs m → L.functions ≡ functions_of defs → L.low ≡ m.layer.state →
    BlockTyped defs L Impl (signatures_of m.layer.operations) b vars args → FallMeans kinds defs (OnSpec m) L b vars args

-- power loss between operations
abbrev pub LossOnSpec : Type 0
LossOnSpec =
    (kinds : List RuleKind) (defs : List Def) (m L : ClosedLayer) → IsTrue (none (definitions_errors defs [] [])) → SpecTyped defs m →
    L.low ≡ m.layer.state → LossMeans kinds defs (OnSpec m) L

-- the specification at its start
abbrev pub StartOnSpec : Type 0
StartOnSpec =
    (kinds : List RuleKind) (defs : List Def) (m L : ClosedLayer) → IsTrue (none (definitions_errors defs [] [])) → SpecTyped defs m →
    L.low ≡ m.layer.state → StartMeans kinds defs (OnSpec m) L
