-- What a schedule of a file shows of the obligation that it names.
use Rattle.std.specs.Prelude.{◌≡◌, ℕ, Bool, List, Option, Some}
use Rattle.std.specs.List.{find}
use Rattle.std.specs.Option.{option_map}
use Rattle.std.specs.Str.{bytes_eq}
use Rattle.ygg_syntax.specs.declared.tree.File.{File}
use Rattle.ygg_replay.specs.ygg_meaning.Environments.{bind}
use Rattle.ygg_replay.specs.ygg_meaning.Obligations.{name_of}
use Rattle.ygg_replay.specs.ygg_meaning.Obligations as meaning
use Rattle.ygg_replay.specs.ygg_meaning.Refines.{machine_below}
use Rattle.ygg_replay.specs.ygg_meaning.Replayed.{Replayed, Replays}
use Rattle.ygg_replay.specs.ygg_meaning.Claims.{Claim, claims_of}
use Rattle.ygg_replay.specs.ygg_sched.declared.schedule.Schedule.{Schedule}
use Rattle.ygg_replay.specs.ygg_sched.Fitting.{halt_meant}

-- whether it is the name of the obligation
abbrev pub is_name : List ℕ → Claim → Bool
is_name name c = bytes_eq (name_of c.layer.layer.name.text c.obligation) name

-- the first obligation of a file that has this name
abbrev pub claim_named : File → List ℕ → Option Claim
claim_named f name = find (is_name name) (claims_of f)

-- The schedule that is meant: variables by their names, arguments in their order.
abbrev pub meant : Claim → Schedule → meaning.Schedule
meant c x = record {
  state = bind c.layer.layer.state x.state;
  memory = bind c.layer.layer.memory x.memory;
  low = bind c.layer.low x.low;
  args = x.args;
  stop = option_map halt_meant x.stop;
  picks = x.picks;
  wake = x.wake;
  other = x.other;
}

-- the schedule shows this of the first obligation of the file that has the name which it gives
pub record ShowsOf (f : File) (x : Schedule) (answer : Replayed) : Type 0 where
  pub claim : Claim
  pub named : claim_named f x.name ≡ Some claim
  pub replays : Replays claim.layer (machine_below claim.below) claim.obligation (meant claim x) answer
