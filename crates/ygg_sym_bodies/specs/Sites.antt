-- A block of a file with all that it is run over.
use Rattle.std.specs.Prelude.{Bool, IsTrue, List, Option, Some, None}
use Rattle.ygg_syntax.specs.declared.tree.Block.{Block}
use Rattle.ygg_syntax.specs.declared.tree.Declared.{Declared}
use Rattle.ygg_syntax.specs.declared.tree.Def.{Def}
use Rattle.ygg_syntax.specs.declared.tree.File.{File}
use Rattle.ygg_syntax.specs.declared.tree.Layer.{Layer}
use Rattle.ygg_meaning.specs.Layer.{ClosedLayer}
use Rattle.ygg_meaning.specs.Machine.{Picks}
use Rattle.ygg_meaning.specs.Refines.{Below}
use Rattle.ygg_meaning_laws.specs.Kinds.{may_call, may_choose}
use Rattle.ygg_bank.specs.declared.node.Node.{Node}
use Rattle.ygg_sym_runs.specs.Lows.{LowShaped}
use Rattle.ygg_eval.specs.Bodies.{IsBlock, arguments_in, kind_of, variables_in}
use Rattle.ygg_eval.specs.Layers.{below_at, closed_at}
use Rattle.ygg_eval.specs.declared.body.Body.{Body}
use Rattle.ygg_eval.specs.declared.body.Part.{Part}
use Rattle.ygg_sym_bodies.specs.declared.state.SymState.{SymState}

-- a block of a layer: the file's definitions, what the layer is specified over, the variables and the arguments that the block sees, and whether it may
-- call what is below; else it runs on no machine
pub record Site : Type 0 where
  pub defs : List Def
  pub below : Below
  pub layer : ClosedLayer
  pub block : Block
  pub vars : List Declared
  pub args : List Declared
  pub calls : Bool

-- a block of a file
abbrev pub site_of : File → Body → Layer → Block → Site
site_of f body l b = record {
  defs = f.defs;
  below = below_at f body.layer;
  layer = closed_at f body.layer l;
  block = b;
  vars = variables_in l body.part;
  args = arguments_in l body.part body.number;
  calls = may_call (kind_of body.part);
}

-- what holds of a block of a file
abbrev pub AtBlock : File → Body → (Site → Type 0) → Type 0
AtBlock f body P = (l : Layer) (b : Block) → IsBlock f body l b → P (site_of f body l b)

-- terms of the declared shapes stand among the nodes
pub record IsShaped (s : Site) (nodes : List Node) (st : SymState) : Type 0 where
  pub vars : LowShaped nodes s.vars st.vars
  pub args : LowShaped nodes s.args st.args
  pub low : LowShaped nodes (s.layer).low st.low

-- the block exists, and the terms have the declared shapes
pub record IsRunnable (f : File) (body : Body) (nodes : List Node) (from : SymState) : Type 0 where
  pub layer : Layer
  pub block : Block
  pub is : IsBlock f body layer block
  pub shaped : IsShaped (site_of f body layer block) nodes from

-- picks are handed in only for a block that may choose
abbrev pub MayHave : Part → Option Picks → Type 0
MayHave part None = Unit {0}
MayHave part (Some picks) = IsTrue (may_choose (kind_of part))
