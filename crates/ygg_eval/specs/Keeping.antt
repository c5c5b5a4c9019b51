-- The specification of a layer, the disk, and a machine without memory keep what a machine below a layer keeps. These are proofs that stand
-- among the specifications, since the machines give them as the values of their field `keeps`.
use Rattle.std.specs.Prelude.{ℕ, ◌≤◌, Bool, true, List, [], ◌∷◌, ◌++◌, Option, Some, None}
use Rattle.std.proofs.Common.{refl, sym, ap, ◌∙◌, subst}
use Rattle.std.proofs.Math.Nat.{le_refl}
use Rattle.ygg_value.specs.declared.row.Value.{Value}
use Rattle.ygg_syntax.specs.declared.tree.File.{File}
use Rattle.ygg_eval.specs.ygg_disk.Power.{Takes, after_pick}
use Rattle.ygg_eval.specs.ygg_disk.declared.power.Picks.{Picks as Source}
use Rattle.ygg_eval.specs.ygg_disk.declared.power.Power.{Power}
use Rattle.ygg_eval.specs.ygg_meaning.Environments.{Name}
use Rattle.ygg_eval.specs.ygg_meaning.Progress.{Answer}
use Rattle.ygg_eval.specs.ygg_meaning.Machine.{Picks, based}
use Rattle.ygg_eval.specs.Lower.{Standing, Ending, Whole, Down, Failed, Starved, Outage, Happened, Lacking, Cause, PowerLoss, GivenUp, Passes, KeepsInCall}
use Rattle.ygg_eval.specs.Lower.{KeepsInFall, KeepsInLoss, IsLower}
use Rattle.ygg_eval.specs.Layers.{machine_at}
use Rattle.ygg_eval.specs.Taken.{TakesOnly}
use Rattle.ygg_eval.specs.Kept.{Kept, Calls, Falls, Loses, TakesBy, named_in, machine_by, spec_meaning, silent_meaning}

-- where only picks were taken, power stands where it stood
picks_pass : (picks : Picks) (before after : Power) → TakesOnly picks before after → Passes before after
picks_pass picks before after t = record {
  fuse = ap (λ (p : Power). p.fuse) t.others;
  later = subst (λ (n : ℕ). before.passed ≤ n) (sym (ap (λ (p : Power). p.passed) t.others)) (le_refl before.passed);
  unreached = λ f is h. subst (λ (n : ℕ). n ≤ f.call) (sym (ap (λ (p : Power). p.passed) t.others)) h;
}

-- a whole call is one whatever the machine's falls are
whole_by : (cause : Cause) (file : File) (k k' : Kept) (name : Name) (args : List Value) (picks : Picks) (answer : Answer) →
    (machine_at file k.number).Calls (based (named_in file k)) name args picks answer (based (named_in file k')) →
    (machine_by cause file k.number).Calls (based (named_in file k)) name args picks answer (based (named_in file k'))
whole_by PowerLoss file k k' name args picks answer h = h
whole_by GivenUp file k k' name args picks answer h = h

calls_kept : (file : File) (from to : Standing Kept) (name : Name) (args : List Value) (ending : Ending) → Calls file from name args ending to →
    KeepsInCall spec_meaning file from to name args ending
calls_kept file from to name args (Whole answer) h = record {
  goes_on = record { number = h.number; later = le_refl 0 };
  steps = record {
    notes = h.picks;
    step = λ cause. whole_by cause file from.machine to.machine name args h.picks answer h.step;
    leaves = h.takes;
  };
  power = picks_pass h.picks from.power to.power h.takes;
}
calls_kept file from to name args Down h = absurd h
calls_kept file from to name args Failed h = absurd h
calls_kept file from to name args Starved h =
    record { goes_on = record { number = h; later = le_refl 0 }; steps = record { notes = []; within = true; step = tt; leaves = tt }; power = tt }

falls_kept : (file : File) (from to : Standing Kept) (name : Name) (args : List Value) (outage : Outage) → Falls file from name args outage to →
    KeepsInFall spec_meaning file from to name args outage
falls_kept file from to name args Happened h = record {
  goes_on = record { number = h.number; later = le_refl 0 };
  steps = record { notes = h.picks; within = true; step = h.step; leaves = h.takes };
}
falls_kept file from to name args Lacking h =
    record { goes_on = record { number = h; later = le_refl 0 }; steps = record { notes = []; within = true; step = tt; leaves = tt } }

loses_kept : (file : File) (from to : Standing Kept) (outage : Outage) → Loses file from outage to → KeepsInLoss spec_meaning file from to outage
loses_kept file from to Happened h =
    record { goes_on = record { number = h.number; later = le_refl 0 }; steps = record { notes = h.picks; step = h.step; leaves = h.takes } }
loses_kept file from to Lacking h =
    record { goes_on = record { number = h; later = le_refl 0 }; steps = record { notes = []; step = tt; leaves = tt } }

-- picks that are taken in turn
pub takes_more : (first second : List Bool) (a b c : Source) → Takes first a b → Takes second b c → Takes (first ++ second) a c
takes_more [] second a b c t u = subst (λ s. Takes second s c) t u
takes_more (pick ∷ first) second a b c (e, t) u = (e, takes_more first second (after_pick a) b c t u)

-- one step after another
pub takes_both : (first second : List Bool) (a b c : Power) → TakesOnly first a b → TakesOnly second b c → TakesOnly (first ++ second) a c
takes_both first second a b c t u = record {
  picks = takes_more first second a.picks b.picks c.picks t.picks u.picks;
  others = u.others ∙ ap (λ (p : Power). record p { picks = c.picks }) t.others;
}

-- the same after whole steps, however the second ended
takes_then : (how : Option Cause) (first second : List Bool) (a b c : Power) → TakesOnly first a b → TakesBy how second b c →
    TakesBy how (first ++ second) a c
takes_then None first second a b c t u = takes_both first second a b c t u
takes_then (Some PowerLoss) first second a b c t u = takes_both first second a b c t u
takes_then (Some GivenUp) first second a b c t u = tt

-- the specification of a layer, or the disk, is a machine below a layer
pub spec_keeps : IsLower spec_meaning
spec_keeps = record {
  calls = calls_kept;
  falls = falls_kept;
  loses = loses_kept;
  rests = λ file s. tt;
  leaves_rest = λ file at. tt;
  leaves_none = λ file at. record { picks = refl; others = refl };
  leaves_both = λ how file from at to first second t u. takes_then how first second from.power at.power to.power t u;
}

-- a call that found no memory
abbrev IsStarved : Ending → Type 0
IsStarved (Whole answer) = ⊥
IsStarved Down = ⊥
IsStarved Failed = ⊥
IsStarved Starved = Unit {0}

-- power that found no memory to fail
abbrev IsLacking : Outage → Type 0
IsLacking Happened = ⊥
IsLacking Lacking = Unit {0}

module _ {S : Type 0} where
  silent_calls : (file : File) (from to : Standing S) (name : Name) (args : List Value) (ending : Ending) → IsStarved ending →
      KeepsInCall silent_meaning file from to name args ending
  silent_calls file from to name args (Whole answer) h = absurd h
  silent_calls file from to name args Down h = absurd h
  silent_calls file from to name args Failed h = absurd h
  silent_calls file from to name args Starved h =
      record { goes_on = record { number = refl; later = le_refl 0 }; steps = record { notes = []; within = true; step = tt; leaves = tt }; power = tt }

  silent_falls : (file : File) (from to : Standing S) (name : Name) (args : List Value) (outage : Outage) → IsLacking outage →
      KeepsInFall silent_meaning file from to name args outage
  silent_falls file from to name args Happened h = absurd h
  silent_falls file from to name args Lacking h =
      record { goes_on = record { number = refl; later = le_refl 0 }; steps = record { notes = []; within = true; step = tt; leaves = tt } }

  silent_loses : (file : File) (from to : Standing S) (outage : Outage) → IsLacking outage → KeepsInLoss silent_meaning file from to outage
  silent_loses file from to Happened h = absurd h
  silent_loses file from to Lacking h =
      record { goes_on = record { number = refl; later = le_refl 0 }; steps = record { notes = []; step = tt; leaves = tt } }

  -- a machine without memory is one below a layer
  pub silent_keeps : IsLower (silent_meaning {S = S})
  silent_keeps = record {
    calls = λ file from to name args ending h. silent_calls file from to name args ending (subst IsStarved (sym h) tt);
    falls = λ file from to name args outage h. silent_falls file from to name args outage (subst IsLacking (sym h) tt);
    loses = λ file from to outage h. silent_loses file from to outage (subst IsLacking (sym h) tt);
    rests = λ file s. tt;
    leaves_rest = λ file at. tt;
    leaves_none = λ file at. tt;
    leaves_both = λ how file from at to first second t u. tt;
  }
