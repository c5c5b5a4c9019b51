-- Runs over terms of typed blocks are worth the runs with the picks that the environment names by place.
use Rattle.std.specs.Prelude.{◌≡◌, IsTrue, List, []}
use Rattle.ygg_syntax.specs.declared.grammar.BlockKind.TheVariants.{Impl}
use Rattle.ygg_syntax.specs.declared.tree.Block.{Block}
use Rattle.ygg_syntax.specs.declared.tree.Declared.{Declared}
use Rattle.ygg_syntax.specs.declared.tree.Def.{Def}
use Rattle.ygg_sym_laws.specs.ygg_type_rules.Definitions.{definitions_errors}
use Rattle.ygg_sym_laws.specs.ygg_type_rules.TypeErrors.{none}
use Rattle.ygg_sym_laws.specs.ygg_meaning.Layer.{ClosedLayer}
use Rattle.ygg_sym_laws.specs.ygg_meaning.Meaning.{functions_of}
use Rattle.ygg_sym_laws.specs.ygg_meaning.Refines.{Below}
use Rattle.ygg_sym_laws.specs.ygg_rules.declared.rule.RuleKind.{RuleKind}
use Rattle.ygg_sym_laws.specs.Below.{lows_on, signatures_on}
use Rattle.ygg_sym_laws.specs.Typed.{BlockTyped, BelowTyped}
use Rattle.ygg_sym_laws.specs.Named.{LossNamed, StartNamed, RunNamed, FallNamed}

-- what a layer is specified over, and the file's definitions, without a type error
pub record OverTyped (defs : List Def) (G : Below) (L : ClosedLayer) : Type 0 where
  pub definitions : IsTrue (none (definitions_errors defs [] []))
  pub functions : L.functions ≡ functions_of defs
  pub below : BelowTyped defs G
  pub low_is : L.low ≡ lows_on G

-- whole runs
abbrev pub RunsAreNamed : Type 0
RunsAreNamed =
    (kinds : List RuleKind) (defs : List Def) (G : Below) (L : ClosedLayer) (b : Block) (vars args : List Declared) → OverTyped defs G L →
    BlockTyped defs L Impl (signatures_on G) b vars args → RunNamed kinds defs G L b vars args

-- runs that power cuts
abbrev pub FallsAreNamed : Type 0
FallsAreNamed =
    (kinds : List RuleKind) (defs : List Def) (G : Below) (L : ClosedLayer) (b : Block) (vars args : List Declared) → OverTyped defs G L →
    BlockTyped defs L Impl (signatures_on G) b vars args → FallNamed kinds defs G L b vars args

-- power loss between operations
abbrev pub LossIsNamed : Type 0
LossIsNamed = (kinds : List RuleKind) (defs : List Def) (G : Below) (L : ClosedLayer) → OverTyped defs G L → LossNamed kinds defs G L

-- the start
abbrev pub StartIsNamed : Type 0
StartIsNamed = (kinds : List RuleKind) (defs : List Def) (G : Below) (L : ClosedLayer) → OverTyped defs G L → StartNamed kinds defs G L
