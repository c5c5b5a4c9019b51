-- What holds of the texts of schedules.
use Rattle.std.specs.Prelude.{◌≡◌, ℕ, List, map, Ok}
use Rattle.ygg_syntax.specs.declared.tree.Declared.{Declared}
use Rattle.ygg_syntax.specs.declared.tree.Layer.{Layer}
use Rattle.ygg_syntax.specs.declared.tree.File.{File}
use Rattle.ygg_meaning.specs.Obligations.{Obligation}
use Rattle.ygg_meaning.specs.Claims.{Claim, claims_of}
use Rattle.ygg_sched.specs.declared.schedule.Schedule.{Schedule}
use Rattle.ygg_sched.specs.Sites.{Site, sites_of}
use Rattle.ygg_sched.specs.Fitting.{IsScheduleOf, IsPlain}
use Rattle.ygg_sched.specs.Reading.{schedule_of}
use Rattle.ygg_sched.specs.Printing.{text_of}

-- the text of a schedule of the file is read as this schedule, where its names may stand in lines
abbrev pub PrintedIsRead : Type 0
PrintedIsRead = (f : File) (x : Schedule) (of : IsScheduleOf f x) → IsPlain of.site x.name → schedule_of f (text_of f x) ≡ Ok x

-- what is read is a schedule of the file
abbrev pub ReadFits : Type 0
ReadFits = (f : File) (text : List ℕ) (x : Schedule) → schedule_of f text ≡ Ok x → IsScheduleOf f x

-- the layer, the variables below and the obligation, whatever the place
abbrev pub asked_at : Site → Layer × List Declared × Obligation
asked_at s = (s.layer, s.low, s.obligation)

-- the same of a claim
abbrev pub asked_of : Claim → Layer × List Declared × Obligation
asked_of c = (c.layer.layer, c.layer.low, c.obligation)

-- the obligations that a schedule may name are those of the file, in order
abbrev pub SitesAreClaims : Type 0
SitesAreClaims = (f : File) → map asked_at (sites_of f) ≡ map asked_of (claims_of f)
