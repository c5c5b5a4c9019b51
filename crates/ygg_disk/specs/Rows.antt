-- Rows of a disk's size.
use Rattle.std.specs.Prelude.{◌≡◌, length}
use Rattle.ygg_value.specs.Number.{Digits}
use Rattle.ygg_base.specs.declared.geometry.Geometry.{Geometry}

-- the row has the size of the disk's rows
pub record IsDiskRow (g : Geometry) (r : Digits) : Type 0 where
  pub width : r.width ≡ g.width
  pub words : length r.words ≡ g.words
