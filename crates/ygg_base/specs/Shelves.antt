-- What a library in memory has open.
use Rattle.std.specs.Prelude.{◌-◌, Some, length, drop}
use Rattle.ygg_base.specs.declared.shelf.Place.{Place}
use Rattle.ygg_base.specs.Outside.{Reading}

-- the file that is being read, from its place on: it may give all that is left
abbrev pub reading_at : Place → Reading
reading_at p = record { rest = Some (drop p.given p.bytes); room = length p.bytes - p.given }
