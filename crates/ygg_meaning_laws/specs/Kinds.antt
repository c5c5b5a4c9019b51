-- Which blocks may choose, which may call the machine below, and which give an answer.
use Rattle.std.specs.Prelude.{Bool, true, false, ◌&&◌, List, [], ◌∷◌, map, Option, Some, None}
use Rattle.std.specs.List.{list_all}
use Rattle.ygg_syntax.specs.declared.grammar.BlockKind.{BlockKind}
use Rattle.ygg_syntax.specs.declared.grammar.BlockKind.TheVariants.{Plain, Spec, Impl}
use Rattle.ygg_syntax.specs.declared.tree.TypeText.{TypeText}
use Rattle.ygg_syntax.specs.declared.tree.Expr.{Expr}
use Rattle.ygg_syntax.specs.declared.tree.Source.{Source}
use Rattle.ygg_syntax.specs.declared.tree.Source.TheVariants as source
use Rattle.ygg_syntax.specs.declared.tree.Stmt.{Stmt}
use Rattle.ygg_syntax.specs.declared.tree.Block.{Block}
use Rattle.ygg_syntax.specs.declared.tree.Stmt.TheOpen.{Stmt-F, Block-F}
use Rattle.ygg_syntax.specs.declared.tree.Stmt.TheFolds.{fold-Stmt}
use Rattle.ygg_syntax.specs.declared.tree.Operation.{Operation}
use Rattle.ygg_syntax.specs.declared.tree.Tick.{Tick}
use Rattle.ygg_syntax.specs.declared.tree.Layer.{Layer}
use Rattle.ygg_syntax.specs.declared.tree.File.{File}

-- whether blocks of the kind may choose: those of a specification alone
abbrev pub may_choose : BlockKind → Bool
may_choose Plain = false
may_choose Spec = true
may_choose Impl = false

-- whether blocks of the kind may call the machine below: those of an implementation alone
abbrev pub may_call : BlockKind → Bool
may_call Plain = false
may_call Spec = false
may_call Impl = true

-- whether a right side may stand in a block of the kind
abbrev pub source_keeps : BlockKind → Source → Bool
source_keeps kind (source.Value e) = true
source_keeps kind (source.Choose at) = may_choose kind
source_keeps kind (source.Call at f es) = may_call kind

-- whether all of some statements may stand in a block of the kind
abbrev pub all_keep : List (BlockKind → Bool) → BlockKind → Bool
all_keep [] kind = true
all_keep (s ∷ ss) kind = s kind && all_keep ss kind

-- whether a statement may, where what is said of the statements and blocks inside stands in their places
abbrev pub node_keeps : Stmt-F (BlockKind → Bool) (BlockKind → Bool) → BlockKind → Bool
node_keeps (Stmt-F.Let x from) kind = source_keeps kind from
node_keeps (Stmt-F.Assign x indices from) kind = source_keeps kind from
node_keeps (Stmt-F.If test first second) kind = first kind && second kind
node_keeps (Stmt-F.For x w n each) kind = each kind
node_keeps (Stmt-F.Call f es) kind = may_call kind

-- whether the statements of a block inside another may
abbrev pub node_all_keep : Block-F (BlockKind → Bool) (BlockKind → Bool) → BlockKind → Bool
node_all_keep b = all_keep b.statements

-- whether a statement may stand in a block of the kind
abbrev pub stmt_keeps : Stmt → BlockKind → Bool
stmt_keeps = fold-Stmt (BlockKind → Bool) (BlockKind → Bool) node_keeps node_all_keep

-- whether a block makes no choice and no call but those of its kind
abbrev pub keeps : BlockKind → Block → Bool
keeps kind b = all_keep (map stmt_keeps b.statements) kind

-- whether a block returns something exactly where a type is declared for it
abbrev pub returns_declared : Option TypeText → Option Expr → Bool
returns_declared None None = true
returns_declared (Some t) (Some e) = true
returns_declared _ _ = false

-- whether a block for a crash keeps its kind, if there is one
abbrev pub on_crash_keeps : Option Block → Bool
on_crash_keeps None = true
on_crash_keeps (Some b) = keeps Spec b

-- whether the blocks of an operation keep their kinds, and return something exactly where the operation gives an answer
abbrev pub operation_keeps : Operation → Bool
operation_keeps o =
    keeps Spec o.spec && returns_declared o.answer o.spec.answer && on_crash_keeps o.on_crash
    && keeps Impl o.implementation && returns_declared o.answer o.implementation.answer

-- whether the block of a background step keeps its kind
abbrev pub tick_keeps : Tick → Bool
tick_keeps t = keeps Impl t.body

-- whether all blocks of a layer keep their kinds
abbrev pub layer_keeps : Layer → Bool
layer_keeps l =
    keeps Plain l.start && keeps Impl l.format && list_all operation_keeps l.operations && keeps Spec l.crash
    && list_all tick_keeps l.ticks && keeps Impl l.recover

-- whether all blocks of a file keep their kinds
abbrev pub file_keeps : File → Bool
file_keeps f = list_all layer_keeps f.layers
