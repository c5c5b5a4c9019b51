-- What a whole run is to the history that left the image, and what it leaves there.
use Rattle.std.specs.Prelude.{◌≡◌, true, List, ◌++◌, take, codes}
use Rattle.ygg_base.specs.declared.geometry.Geometry.{Geometry}
use Rattle.ygg_run_image.specs.ygg_base.Devices.{Image}
use Rattle.ygg_value.specs.Number.{Grid}
use Rattle.ygg_value.specs.declared.row.Value.TheVariants.{Table}
use Rattle.ygg_syntax.specs.declared.tree.File.{File}
use Rattle.ygg_run_commands.specs.ygg_type.Typed.{geometry_of}
use Rattle.ygg_run_commands.specs.ygg_meaning.Environments.{Env, look_up}
use Rattle.ygg_run_commands.specs.ygg_meaning.Machine.{State}
use Rattle.ygg_run_commands.specs.ygg_meaning.Stack.{BottomOf, FileRefines}
use Rattle.ygg_run_commands.specs.ygg_meaning.History.{Entry, History, Allows}
use Rattle.ygg_run_commands.specs.ygg_meaning.Left.{Left}
use Rattle.ygg_run_image.specs.Image.{block_bytes, image, rows_in}
use Rattle.ygg_run_image.specs.Laws.{AreBlocks, AreRows}

-- The entries are a history of the bottom implementation, to a state whose disk shows these rows. If each layer refines its specification, the topmost
-- specification allows it.
pub record LeadsTo (f : File) (es : List Entry) (rows : Grid) : Type 0 where
  pub state : State Env
  pub history : History (BottomOf f) es state
  pub allows : FileRefines f → Allows f es state
  pub shows : look_up (codes "view") state.base ≡ Table rows

-- The first block that is read of an image stays, and is that which is left when power fails; both lists hold rows of the disk.
pub record KeepsImage (g : Geometry) (before now : Image) : Type 0 where
  pub view_first : take (block_bytes g) now.view ≡ take (block_bytes g) before.view
  pub stable_first : take (block_bytes g) now.stable ≡ take (block_bytes g) before.view
  pub view_rows : AreBlocks g now.view
  pub stable_rows : AreBlocks g now.stable

-- What a whole run with these entries makes of an accepted image. Whatever entries could have left its rows, the run extends them, and the image holds the rows
-- that they lead to. Its first block stays; so where it was the sealed image of rows, it is that of those rows.
pub record HasRun (f : File) (es : List Entry) (before now : Image) : Type 0 where
  pub was : AreBlocks (geometry_of f.disk) before.view
  pub stays : KeepsImage (geometry_of f.disk) before now
  pub extends : (left : List Entry) → Left f left (rows_in (geometry_of f.disk) before.view) → LeadsTo f (left ++ es) (rows_in (geometry_of f.disk) now.view)
  pub sealed : (rows : Grid) → AreRows (geometry_of f.disk) rows → before.view ≡ image (geometry_of f.disk) true rows →
      (rows_in (geometry_of f.disk) before.view ≡ rows) × (now.view ≡ image (geometry_of f.disk) true (rows_in (geometry_of f.disk) now.view))
