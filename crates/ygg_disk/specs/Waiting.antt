-- Pending writes as the disk in memory keeps them, the oldest first.
use Rattle.std.specs.Prelude.{◌≡◌, ℕ, map, ◌==◌, if◌then◌else◌, List, [], ◌∷◌, ◌++◌, Option, Some, None}
use Rattle.ygg_value.specs.Number.{Digits, Grid}
use Rattle.ygg_value.specs.Values.{table_read}
use Rattle.ygg_base.specs.declared.geometry.Geometry.{Geometry}
use Rattle.ygg_disk.specs.Pending.{applied}
use Rattle.ygg_disk.specs.Size.{HasSize}
use Rattle.ygg_disk.specs.Marked.{MarkedWrite}
use Rattle.ygg_disk.specs.declared.waiting.Waiting.{Waiting}

-- a pending write with its mark
abbrev pub mark_of : Waiting → MarkedWrite
mark_of w = record { write = record { at = w.at.bits; row = w.row }; kept = w.kept }

-- the pending writes, the newest first
abbrev pub marked : List Waiting → List MarkedWrite
marked [] = []
marked (w ∷ ws) = marked ws ++ mark_of w ∷ []

-- the row of the newest write at a place
abbrev pub newest_at : ℕ → List MarkedWrite → Option Digits
newest_at at [] = None
newest_at at (w ∷ before) = if w.write.at == at then Some w.write.row else newest_at at before

-- what is read at a place: the row that was found among the pending writes, or else the stable one
abbrev pub seen_at : Grid → ℕ → Option Digits → Digits
seen_at stable at None = table_read stable at
seen_at stable at (Some row) = row

-- on every disk of this size a read through these writes sees what was found, or else the stable row
abbrev pub SeenThrough : Geometry → List MarkedWrite → ℕ → Option Digits → Type 0
SeenThrough g writes at found =
    (stable : Grid) → HasSize g stable → table_read (applied (map (λ (w : MarkedWrite). w.write) writes) stable) at ≡ seen_at stable at found
