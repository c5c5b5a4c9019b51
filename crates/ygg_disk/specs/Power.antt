-- Picks, the count of whole calls, and the events of calls that began.
use Rattle.std.specs.Prelude.{
  ◌≡◌,
  ℕ,
  ◌+◌,
  ◌-◌,
  ◌^◌,
  min,
  Bool,
  true,
  false,
  if◌then◌else◌,
  List,
  [],
  ◌∷◌,
  ◌++◌,
  length,
  slice_get,
  unwrap_or,
  nat_lt,
  Option,
  Some,
  None,
  IsSomeAnd,
  MatchBool,
}
use Rattle.std.specs.Bool.{OnTrue}
use Rattle.std.specs.Option.{option_map}
use Rattle.ygg_value.specs.Words.{word}
use Rattle.ygg_disk.specs.Disk.{Call, Read, Write, Flush}
use Rattle.ygg_disk.specs.declared.power.Picks.{Picks}
use Rattle.ygg_disk.specs.declared.power.Power.{Power}
use Rattle.ygg_disk.specs.declared.turn.Did.TheVariants as did
use Rattle.ygg_disk.specs.declared.turn.Event.{Event}

-- the next pick: the bit at `next`, or `past` past the end
abbrev pub pick_of : Picks → Bool
pick_of p = unwrap_or (slice_get p.bits p.next) p.past

-- the picks after one was taken: `next` rises by one, and stays past the end
abbrev pub after_pick : Picks → Picks
after_pick p = record p { next = if nat_lt p.next (length p.bits) then p.next + 1 else p.next }

-- these are the next picks, in turn
abbrev pub Takes : List Bool → Picks → Picks → Type 0
Takes [] before after = after ≡ before
Takes (pick ∷ picks) before after = (pick ≡ pick_of before) × Takes picks (after_pick before) after

-- these are the next picks, in turn, which are not taken yet
abbrev pub AreNext : List Bool → Picks → Type 0
AreNext [] p = Unit {0}
AreNext (pick ∷ picks) p = (pick ≡ pick_of p) × AreNext picks (after_pick p)

-- one more, or the greatest number of 64 digits
abbrev pub counted : ℕ → ℕ
counted n = min (n + 1) (2 ^ 64 - 1)

-- the fuse names the call that comes next
abbrev pub IsNamed : Power → Type 0
IsNamed p = IsSomeAnd p.fuse (λ f. f.call ≡ p.passed)

-- the event of a call on the one disk or the first of two, with these picks
abbrev pub event_of : Call → Bool → List Bool → Event
event_of (Read at) cut picks = record { second = false; at = Some (word 8 at); did = did.Read; cut = cut; picks = picks }
event_of (Write at row) cut picks = record { second = false; at = Some (word 8 at); did = did.Write row; cut = cut; picks = picks }
event_of Flush cut picks = record { second = false; at = None; did = did.Flush; cut = cut; picks = picks }

-- the events with one more, where they are wanted
abbrev pub noted : Call → Bool → List Bool → Option (List Event) → Option (List Event)
noted call cut picks events = option_map (λ es. es ++ event_of call cut picks ∷ []) events

-- what the event of a call shows, whole or cut by power: the picks that it took, and the one bit 1 for a whole write that took none
abbrev pub shown : Bool → Call → List Bool → List Bool
shown false (Write at row) [] = true ∷ []
shown cut call picks = picks

-- What a call that began leaves of `power`. Where the call follows `power`, it took the next picks and its event shows
-- them; else no pick is used up, and the event has some picks. A call that power cut isn't counted.
pub record Begun (follows cut : Bool) (call : Call) (taken : List Bool) (before after : Power) : Type 0 where
  pub picks : MatchBool follows (Takes taken before.picks after.picks) (after.picks ≡ before.picks)
  pub fuse : after.fuse ≡ before.fuse
  pub passed : after.passed ≡ (if cut then before.passed else counted before.passed)
  pub events : (seen : List Bool) × (after.events ≡ noted call cut seen before.events) × OnTrue follows (seen ≡ shown cut call taken)

-- what a call that failed leaves of `power`: it began, took no pick and isn't counted, and its event has some picks
pub record BegunInVain (call : Call) (before after : Power) : Type 0 where
  pub picks : after.picks ≡ before.picks
  pub fuse : after.fuse ≡ before.fuse
  pub passed : after.passed ≡ before.passed
  pub events : (seen : List Bool) × (after.events ≡ noted call false seen before.events)
