-- An obligation of a file with its inputs, in code.
use Rattle.std.specs.Prelude.{◌≡◌, IsTrue, List, slice_get, Some}
use Rattle.ygg_value.specs.declared.row.Value.{Value}
use Rattle.ygg_syntax.specs.declared.grammar.BlockKind.TheVariants as kind
use Rattle.ygg_syntax.specs.declared.tree.File.{File}
use Rattle.ygg_replay.specs.ygg_meaning.Environments.{Env, bind}
use Rattle.ygg_replay.specs.ygg_meaning.Layer.{ClosedLayer}
use Rattle.ygg_replay.specs.ygg_meaning.Obligations.{Obligation}
use Rattle.ygg_replay.specs.ygg_meaning.Refines.{Below}
use Rattle.ygg_replay.specs.ygg_meaning.Shapes.{values_fit}
use Rattle.ygg_eval_places.specs.ygg_bank.Values.{Inputs}
use Rattle.ygg_oblige_schedule.specs.ygg_eval.Bodies.{IsRunnable, kind_of}
use Rattle.ygg_oblige_schedule.specs.ygg_eval.Layers.{below_at, closed_at, variables_at}
use Rattle.ygg_oblige_schedule.specs.ygg_eval.declared.body.Body.{Body}
use Rattle.ygg_oblige_given.specs.ygg_oblige_laws.LayerTerms.{ShapesKept}
use Rattle.ygg_oblige_given.specs.ygg_oblige_laws.Numbers.{Numbers}
use Rattle.ygg_oblige_given.specs.Tables.{inputs_in}
use Rattle.ygg_oblige_given.specs.Numbering.{numbers_in}
use Rattle.ygg_oblige_list.specs.InCode as code
use Rattle.ygg_oblige_schedule.specs.declared.site.Site.{Site}
use Rattle.ygg_oblige_schedule.specs.declared.reader.FirstBlock.{FirstBlock}
use Rattle.ygg_oblige_schedule.specs.declared.reader.EnvironmentReader.{EnvironmentReader}

-- the obligation of a site
abbrev pub obligation_here : Site → Obligation
obligation_here s = code.obligation_of s.obligation

module _ (r : EnvironmentReader) where
  -- the file
  abbrev pub file_of : File
  file_of = r.typed.now.file

  -- what the layer is specified over
  abbrev pub below_of : Below
  below_of = below_at file_of r.site.place

  -- the layer
  abbrev pub layer_of : ClosedLayer
  layer_of = closed_at file_of r.site.place r.site.layer.now

  -- the obligation
  abbrev pub obligation_of : Obligation
  obligation_of = obligation_here r.site

  -- what the inputs are
  abbrev pub inputs_of : Inputs
  inputs_of = inputs_in r.table.now

  -- the obligation's own inputs
  abbrev pub numbers_of : Numbers
  numbers_of = numbers_in r.site.numbers

  -- a block of the layer
  abbrev pub body_of : FirstBlock → Body
  body_of b = record { layer = r.site.place; part = b.part; number = b.number }

  -- the layer is one of the file, and the shapes of its variables keep the limits
  pub record IsHere : Type 0 where
    pub here : slice_get file_of.layers r.site.place ≡ Some r.site.layer.now
    pub low_is : r.site.low.now ≡ variables_at file_of r.site.place
    pub state_kept : ShapesKept r.site.layer.now.state
    pub memory_kept : ShapesKept r.site.layer.now.memory
    pub low_kept : ShapesKept r.site.low.now

  -- values for the variables below
  abbrev pub LowFits : List Value → Type 0
  LowFits low = IsTrue (values_fit (variables_at file_of r.site.place) low)

  -- the variables below with these values
  abbrev pub low_env : List Value → Env
  low_env low = bind (variables_at file_of r.site.place) low

  -- a block of an implementation that can be run with these arguments and this memory
  pub record CanRun (b : FirstBlock) (args memory : List Value) : Type 0 where
    pub kind : kind_of b.part ≡ kind.Impl
    pub block : IsRunnable file_of (body_of b) args memory
