-- The steps of a disk whose tables are kept as values.
use Rattle.std.specs.Prelude.{◌≡◌, List, [], ◌∷◌}
use Rattle.ygg_value.specs.Number.{Number, Digits, Grid}
use Rattle.ygg_value.specs.declared.row.Value.{Value}
use Rattle.ygg_value.specs.declared.row.Value.TheVariants.{Word, Row, Table}
use Rattle.ygg_base.specs.declared.geometry.Geometry.{Geometry}
use Rattle.ygg_base.specs.declared.geometry.DiskKind.{DiskKind}
use Rattle.ygg_base.specs.declared.geometry.DiskKind.TheVariants.{Sync, Async}
use Rattle.ygg_eval.specs.ygg_disk.Disk as disk
use Rattle.ygg_eval.specs.ygg_disk.Size.{HasSize, IsRowOf}
use Rattle.ygg_eval.specs.ygg_disk.declared.power.Power.{Power}
use Rattle.ygg_eval.specs.ygg_meaning.Machine.{Picks}
use Rattle.ygg_eval.specs.ygg_disk.Kinds.{model_of}
use Rattle.ygg_eval.specs.Taken.{TakesOnly}

-- a table of the size, and an address
pub record IsReadable (g : Geometry) (table at : Value) : Type 0 where
  pub grid : Grid
  pub is_table : table ≡ Table grid
  pub size : HasSize g grid
  pub address : Number
  pub is_address : at ≡ Word address

-- a table, an address, and a row of the table's size
pub record IsWritable (table at row : Value) : Type 0 where
  pub grid : Grid
  pub is_table : table ≡ Table grid
  pub address : Number
  pub is_address : at ≡ Word address
  pub digits : Digits
  pub is_row : row ≡ Row digits
  pub size : IsRowOf grid digits

-- the tables of a disk of the kind as values, in the order of their names
abbrev pub values_of : (kind : DiskKind) → (model_of kind).State → List Value
values_of Sync view = Table view ∷ []
values_of Async d = Table d.view ∷ Table d.stable ∷ []

-- the row has the size of those of each table
abbrev pub IsRowOfAll : (kind : DiskKind) → (model_of kind).State → Digits → Type 0
IsRowOfAll Sync view row = IsRowOf view row
IsRowOfAll Async d row = IsRowOf d.view row × IsRowOf d.stable row

-- the tables of a disk of the kind
pub record AreTables (kind : DiskKind) (values : List Value) : Type 0 where
  pub disk : (model_of kind).State
  pub are : values ≡ values_of kind disk

-- the tables of a disk of the kind, an address, and a row of the tables' size
pub record AreWritable (kind : DiskKind) (values : List Value) (at row : Value) : Type 0 where
  pub disk : (model_of kind).State
  pub are : values ≡ values_of kind disk
  pub address : Number
  pub is_address : at ≡ Word address
  pub digits : Digits
  pub is_row : row ≡ Row digits
  pub size : IsRowOfAll kind disk digits

-- a whole call, which took the next picks
pub record Made (kind : DiskKind) (call : disk.Call) (reply : disk.Reply) (values values' : List Value) (power power' : Power) : Type 0 where
  pub from : (model_of kind).State
  pub to : (model_of kind).State
  pub from_are : values ≡ values_of kind from
  pub to_are : values' ≡ values_of kind to
  pub picks : Picks
  pub step : (model_of kind).Calls from call picks reply to
  pub takes : TakesOnly picks power power'

-- power failed within a call, which took the next picks
pub record Cut (kind : DiskKind) (call : disk.Call) (values values' : List Value) (power power' : Power) : Type 0 where
  pub from : (model_of kind).State
  pub to : (model_of kind).State
  pub from_are : values ≡ values_of kind from
  pub to_are : values' ≡ values_of kind to
  pub picks : Picks
  pub step : (model_of kind).Falls from call picks to
  pub takes : TakesOnly picks power power'

-- power failed between calls
pub record Lost (kind : DiskKind) (values values' : List Value) : Type 0 where
  pub from : (model_of kind).State
  pub from_are : values ≡ values_of kind from
  pub to_are : values' ≡ values_of kind ((model_of kind).lost from)
