-- A schedule names one run.
use Rattle.std.specs.Prelude.{◌≡◌, Option}
use Rattle.ygg_meaning_laws.specs.Layer.{ClosedLayer}
use Rattle.ygg_meaning_laws.specs.Spec.{Outcome}
use Rattle.ygg_meaning_laws.specs.Obligations.{Obligation, Schedule}
use Rattle.ygg_meaning_laws.specs.Refines.{Below, machine_below}
use Rattle.ygg_meaning_laws.specs.Violates.{End, Reached, passes}
use Rattle.ygg_meaning_laws.specs.Replayed.{Replayed, Replays}

-- whichever runs have the schedule's picks, the conclusion is the same
abbrev pub OneConclusion : Type 0
OneConclusion =
    (below : Below) (L : ClosedLayer) (o : Obligation) (x : Schedule) (end other : End) →
    Reached L (machine_below below) o x end → Reached L (machine_below below) o x other → (out : Option Outcome) → passes L o end out ≡ passes L o other out

-- a schedule cannot be replayed in two ways
abbrev pub OneReplay : Type 0
OneReplay =
    (below : Below) (L : ClosedLayer) (o : Obligation) (x : Schedule) (r other : Replayed) →
    Replays L (machine_below below) o x r → Replays L (machine_below below) o x other → r ≡ other
