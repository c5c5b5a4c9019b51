-- What becomes of a call on a disk in memory, and what it leaves of `power`.
use Rattle.std.specs.Prelude.{◌≡◌, Bool, true, false, List, Option, Some, None, Result, Ok, Err}
use Rattle.ygg_list.specs.declared.memory.NoMemory.{NoMemory}
use Rattle.ygg_value.specs.Number.{Number}
use Rattle.ygg_disk.specs.Disk as disk
use Rattle.ygg_disk.specs.Power.{IsNamed, Begun}
use Rattle.ygg_disk.specs.declared.fate.Fate.{Fate}
use Rattle.ygg_disk.specs.declared.fate.Fate.TheVariants.{Whole, Within, Before}
use Rattle.ygg_disk.specs.declared.power.Power.{Power}

-- a read at a place, or a flush, which has none
abbrev pub call_at : Option Number → disk.Call
call_at (Some at) = disk.Read at.bits
call_at None = disk.Flush

-- the place of a row, if there is one, is a word of 8 digits
abbrev pub IsAddress : Option Number → Type 0
IsAddress (Some at) = at.width ≡ 8
IsAddress None = Unit {0}

-- power doesn't fail at the next call, or fails within it or before it, as the fuse says
abbrev pub IsFate : Power → Fate → Type 0
IsFate p Whole = IsNamed p → ⊥
IsFate p Within = p.fuse ≡ Some (record { within = true; call = p.passed })
IsFate p Before = p.fuse ≡ Some (record { within = false; call = p.passed })

-- what a call leaves of `power`, by what became of it, where it takes the first picks if it is whole, and the second if power fails within it
abbrev pub Begins : disk.Call → List Bool → List Bool → Power → Power → Result Fate NoMemory → Type 0
Begins call whole within p p' (Ok Whole) = IsFate p Whole × Begun true false call whole p p'
Begins call whole within p p' (Ok Within) = IsFate p Within × Begun true true call within p p'
Begins call whole within p p' (Ok Before) = IsFate p Before × (p' ≡ p)
Begins call whole within p p' (Err e) = p' ≡ p
