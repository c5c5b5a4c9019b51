-- What runs over terms on a disk are worth: in each environment some run on the disk, and each run on the disk in some environment.
use Rattle.std.specs.Prelude.{◌≡◌, IsTrue, List, []}
use Rattle.ygg_syntax.specs.declared.grammar.BlockKind.TheVariants.{Impl}
use Rattle.ygg_syntax.specs.declared.tree.Declared.{Declared}
use Rattle.ygg_syntax.specs.declared.tree.Def.{Def}
use Rattle.ygg_syntax.specs.declared.tree.Block.{Block}
use Rattle.ygg_syntax.specs.declared.tree.DiskText.{DiskText}
use Rattle.ygg_sym_laws.specs.ygg_type_rules.TypeErrors.{none}
use Rattle.ygg_sym_laws.specs.ygg_type_rules.Definitions.{definitions_errors}
use Rattle.ygg_sym_laws.specs.ygg_type_rules.Files.{disk_operations}
use Rattle.ygg_sym_laws.specs.ygg_meaning.Meaning.{functions_of}
use Rattle.ygg_sym_laws.specs.ygg_meaning.Layer.{ClosedLayer}
use Rattle.ygg_sym_laws.specs.ygg_meaning.Refines.{OnDisk}
use Rattle.ygg_sym_laws.specs.ygg_meaning.Stack.{tables_of}
use Rattle.ygg_sym_laws.specs.ygg_rules.declared.rule.RuleKind.{RuleKind}
use Rattle.ygg_sym_laws.specs.Typed.{BlockTyped, BelowTyped}
use Rattle.ygg_sym_laws.specs.Means.{LossMeans, StartMeans, WholeMeans, FallMeans}

-- whole runs of a block without a type error
abbrev pub DiskWhole : Type 0
DiskWhole =
    (kinds : List RuleKind) (defs : List Def) (d : DiskText) (L : ClosedLayer) (b : Block) (vars args : List Declared) →
    IsTrue (none (definitions_errors defs [] [])) → BelowTyped defs (OnDisk d) → L.functions ≡ functions_of defs → L.low ≡ tables_of d →
    (typed : BlockTyped defs L Impl (disk_operations d) b vars args) → WholeMeans kinds defs (OnDisk d) L b vars args typed.shape

-- such runs that power cuts
abbrev pub DiskFalls : Type 0
DiskFalls =
    (kinds : List RuleKind) (defs : List Def) (d : DiskText) (L : ClosedLayer) (b : Block) (vars args : List Declared) →
    IsTrue (none (definitions_errors defs [] [])) → BelowTyped defs (OnDisk d) → L.functions ≡ functions_of defs → L.low ≡ tables_of d →
    BlockTyped defs L Impl (disk_operations d) b vars args → FallMeans kinds defs (OnDisk d) L b vars args

-- power loss between operations
abbrev pub DiskLoss : Type 0
DiskLoss =
    (kinds : List RuleKind) (defs : List Def) (d : DiskText) (L : ClosedLayer) → BelowTyped defs (OnDisk d) → L.low ≡ tables_of d →
    LossMeans kinds defs (OnDisk d) L

-- the disk at its start
abbrev pub DiskStart : Type 0
DiskStart =
    (kinds : List RuleKind) (defs : List Def) (d : DiskText) (L : ClosedLayer) → BelowTyped defs (OnDisk d) → L.low ≡ tables_of d →
    StartMeans kinds defs (OnDisk d) L
