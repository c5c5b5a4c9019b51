-- A ground keeps what a machine below a layer keeps, and what a tower does. These are proofs that stand among the specifications, since the ground
-- gives them as the values of its fields `keeps` and `stacks`.
use Rattle.std.specs.Prelude.{
  ◌≡◌,
  ℕ,
  ◌+◌,
  ◌-◌,
  ◌<◌,
  ◌≤◌,
  ◌^◌,
  ◌⊎◌,
  Bool,
  true,
  false,
  List,
  [],
  ◌∷◌,
  ◌++◌,
  Option,
  Some,
  None,
  IsSomeAnd,
  MatchBool,
  Result,
  Ok,
  Err,
}
use Rattle.std.proofs.Common.{inl, inr, refl, sym, ap, ◌∙◌, subst, arith, append_assoc}
use Rattle.std.proofs.Math.Nat.{le_refl, le-min, min-le_left}
use Rattle.ygg_list.specs.declared.memory.NoMemory.{NoMemory}
use Rattle.ygg_value.specs.declared.row.Value.{Value}
use Rattle.ygg_value.specs.declared.row.Value.TheVariants as value
use Rattle.ygg_syntax.specs.declared.tree.File.{File}
use Rattle.ygg_eval.specs.ygg_disk.Disk as disk
use Rattle.ygg_eval.specs.ygg_disk.Ground as ground
use Rattle.ygg_eval.specs.ygg_disk.Fate.{IsFate}
use Rattle.ygg_eval.specs.ygg_disk.Power.{IsNamed, Begun, BegunInVain, counted}
use Rattle.ygg_eval.specs.ygg_disk.declared.fate.Fate.TheVariants as fate
use Rattle.ygg_eval.specs.ygg_disk.declared.power.Fuse.{Fuse}
use Rattle.ygg_eval.specs.ygg_disk.declared.power.Picks.{Picks}
use Rattle.ygg_eval.specs.ygg_disk.declared.power.Power.{Power}
use Rattle.ygg_eval.specs.ygg_disk.declared.turn.Event.{Event}
use Rattle.ygg_eval.specs.ygg_disk.declared.turn.Turn.{Turn}
use Rattle.ygg_eval.specs.ygg_disk.declared.turn.Turn.TheVariants as turn
use Rattle.ygg_eval.specs.ygg_meaning.Environments.{Name}
use Rattle.ygg_eval.specs.ygg_meaning.DiskMachine.{disk_call, answer_to}
use Rattle.ygg_eval.specs.ygg_meaning.Noted.{Note}
use Rattle.ygg_eval.specs.Lower.{
  Standing,
  Ending,
  Whole,
  Down,
  Failed,
  Starved,
  ending_of,
  Cause,
  PowerLoss,
  GivenUp,
  Passes,
  KeepsInCall,
  IsLower,
}
use Rattle.ygg_machine.specs.GroundSteps.{ground_calls}
use Rattle.ygg_machine.specs.Leaves.{LeaveWhole, LeaveBy}
use Rattle.ygg_machine.specs.Grounded.{CallsGround, ground_meaning}

-- the count of whole calls doesn't fall, and rises by one at most
counted_later : (n : ℕ) → n < 2 ^ 64 → n ≤ counted n
counted_later n h = le-min (omega arith) (omega arith)

counted_next : (n : ℕ) → counted n ≤ n + 1
counted_next n = min-le_left (n + 1) (2 ^ 64 - 1)

-- where power is as before, it passes nothing
passes_same : (before after : Power) → after.fuse ≡ before.fuse → after.passed ≡ before.passed → Passes before after
passes_same before after fuse passed = record {
  fuse = fuse;
  later = subst (λ (n : ℕ). before.passed ≤ n) (sym passed) (le_refl before.passed);
  unreached = λ f is h. subst (λ (n : ℕ). n ≤ f.call) (sym passed) h;
}

-- a fuse that isn't named names another call
other_call : (p : Power) (f : Fuse) → ¬ IsNamed p → p.fuse ≡ Some f → ¬ (f.call ≡ p.passed)
other_call p f unnamed is e = unnamed (subst (λ (o : Option Fuse). IsSomeAnd o (λ g. g.call ≡ p.passed)) (sym is) e)

-- a fuse that is named names the call that comes next
named_call : (p : Power) (f : Fuse) → p.fuse ≡ Some f → IsNamed p → f.call ≡ p.passed
named_call p f is h = subst (λ (o : Option Fuse). IsSomeAnd o (λ g. g.call ≡ p.passed)) is h

-- a whole call of which the fuse named none
passes_whole : (before after : Power) → after.fuse ≡ before.fuse → after.passed ≡ counted before.passed → before.passed < 2 ^ 64 → ¬ IsNamed before →
    Passes before after
passes_whole before after fuse passed counts unnamed = record {
  fuse = fuse;
  later = subst (λ (n : ℕ). before.passed ≤ n) (sym passed) (counted_later before.passed counts);
  unreached = λ f is h.
      let next = counted_next before.passed in
      let other = other_call before f unnamed is in
      subst (λ (n : ℕ). n ≤ f.call) (sym passed) (le_next before.passed f.call (counted before.passed) next h other);
}
  where
    le_next : (n call after : ℕ) → after ≤ n + 1 → n ≤ call → ¬ (call ≡ n) → after ≤ call
    le_next n call after a h other = omega arith

-- the same fuse and count name the same call
named_after : (before after : Power) → after.fuse ≡ before.fuse → after.passed ≡ before.passed → IsNamed before → IsNamed after
named_after before after fuse passed h =
    subst (λ (n : ℕ). IsSomeAnd after.fuse (λ f. f.call ≡ n)) (sym passed) (subst (λ (o : Option Fuse). IsSomeAnd o (λ f. f.call ≡ before.passed))
    (sym fuse) h)

named_before : (before after : Power) → after.fuse ≡ before.fuse → after.passed ≡ before.passed → IsNamed after → IsNamed before
named_before before after fuse passed h = named_after after before (sym fuse) (sym passed) h

-- power fails within a call or before it, as the fuse says
abbrev Burns : {S : Type 0} → ground.Meaning S → disk.Call → S → S → Power → Power → Type 0
Burns G call before after power power' =
    (f : Fuse) × (power.fuse ≡ Some f)
    × MatchBool f.within (ground.Cut G call before after power power') (ground.Stopped G before after power power')

fuse_burns : {S : Type 0} (G : ground.Meaning S) (call : disk.Call) (before after : S) (picks : Picks) (fuse : Option Fuse) (passed : ℕ)
    (events : Option (List Event)) (power' : Power) →
    ground.Down G call before after (record { picks = picks; fuse = fuse; passed = passed; events = events }) power' →
    Burns G call before after (record { picks = picks; fuse = fuse; passed = passed; events = events }) power'
fuse_burns G call before after picks None passed events power' d = absurd d
fuse_burns G call before after picks (Some f) passed events power' d = (f, refl, d)

module _ {S : Type 0} (G : ground.Meaning S) where
  -- what calls leave of power after whole ones
  leave_both : (first second : List Note) (a b c : Power) → LeaveWhole G first a b → LeaveWhole G second b c → LeaveWhole G (first ++ second) a c
  leave_both [] second a b c x y = subst (λ (p : Power). LeaveWhole G second p c) x y
  leave_both (n ∷ ns) second a b c (whole, unnamed, next, begun, x) y = (whole, unnamed, next, begun, leave_both ns second next b c x y)

  after_both : (first notes whole rest : List Note) → notes ≡ whole ++ rest → first ++ notes ≡ (first ++ whole) ++ rest
  after_both first notes whole rest is = ap (λ (ns : List Note). first ++ ns) is ∙ sym (append_assoc first whole rest)

  -- how calls end that power cuts: within a last one, or before it
  abbrev LastCut : Bool → List Note → List Note → Power → Power → Type 0
  LastCut within notes whole at after =
      MatchBool within ((last : Note) × (last.cut ≡ true) × (notes ≡ whole ++ last ∷ []) × Begun G.follows true last.call last.picks at after)
      ((notes ≡ whole) × (after ≡ at))

  last_cut : (within : Bool) (first notes whole : List Note) (at after : Power) → LastCut within notes whole at after →
      LastCut within (first ++ notes) (first ++ whole) at after
  last_cut true first notes whole at after (last, cut, is, begun) = (last, cut, after_both first notes whole (last ∷ []) is, begun)
  last_cut false first notes whole at after (is, same) = (ap (λ (ns : List Note). first ++ ns) is, same)

  -- how calls end that are given up: with a last one that failed, or without
  abbrev LastInPart : List Note → List Note → Power → Power → Type 0
  LastInPart notes whole at after =
      ((notes ≡ whole) × (after ≡ at))
      ⊎ ((call : disk.Call) × (notes ≡ whole ++ record { call = call; cut = true; picks = [] } ∷ []) × ¬ IsNamed at × BegunInVain call at after)

  last_in_part : (first notes whole : List Note) (at after : Power) → LastInPart notes whole at after → LastInPart (first ++ notes) (first ++ whole) at after
  last_in_part first notes whole at after (inl (is, same)) = inl (ap (λ (ns : List Note). first ++ ns) is, same)
  last_in_part first notes whole at after (inr (call, is, unnamed, vain)) =
      inr (call, after_both first notes whole (record { call = call; cut = true; picks = [] } ∷ []) is, unnamed, vain)

  leave_then : (how : Option Cause) (first second : List Note) (a b c : Power) → LeaveWhole G first a b → LeaveBy G how second b c →
      LeaveBy G how (first ++ second) a c
  leave_then None first second a b c x y = leave_both first second a b c x y
  leave_then (Some PowerLoss) first second a b c x y = record {
    whole = first ++ y.whole;
    at = y.at;
    leaves = leave_both first y.whole a b y.at x y.leaves;
    fuse = y.fuse;
    set = y.set;
    named = y.named;
    last = last_cut y.fuse.within first second y.whole y.at c y.last;
  }
  leave_then (Some GivenUp) first second a b c x y = record {
    whole = first ++ y.whole;
    at = y.at;
    leaves = leave_both first y.whole a b y.at x y.leaves;
    last = last_in_part first second y.whole y.at c y.last;
  }

  module _ (file : File) (from to : Standing S) (name : Name) (args : List Value) (call : disk.Call) (is : disk_call name args ≡ Some call)
      (later : G.faults from.machine ≤ G.faults to.machine) (counts : from.power.passed < 2 ^ 64) where
    abbrev Keeps : Ending → Type 0
    Keeps ending = KeepsInCall (ground_meaning G) file from to name args ending

    step_by : (cause : Cause) (reply : disk.Reply) (w : ground.Whole G call reply from.machine to.machine from.power to.power) →
        (ground_calls G cause).Calls from.machine call (record { call = call; cut = false; picks = w.picks } ∷ []) reply to.machine
    step_by PowerLoss reply w = (w.picks, refl, w.step, w.told)
    step_by GivenUp reply w = (w.picks, refl, w.step, w.told)

    whole : (reply : disk.Reply) → ground.Whole G call reply from.machine to.machine from.power to.power → ¬ IsNamed from.power → Keeps
        (Whole (answer_to reply))
    whole reply w unnamed = record {
      goes_on = record { number = refl; later = later };
      steps = record {
        notes = record { call = call; cut = false; picks = w.picks } ∷ [];
        step = λ cause. (from.machine, to.machine, call, reply, is, refl, step_by cause reply w, refl, refl);
        leaves = (refl, unnamed, to.power, w.leaves, refl);
      };
      power = passes_whole from.power to.power w.leaves.fuse w.leaves.passed counts unnamed;
    }

    cut : ground.Cut G call from.machine to.machine from.power to.power → IsNamed from.power → IsFate from.power fate.Within → Keeps Down
    cut c named within = record {
      goes_on = record { number = refl; later = later };
      steps = record {
        notes = record { call = call; cut = true; picks = c.picks } ∷ [];
        within = true;
        step = (from.machine, call, is, refl, (c.picks, refl, c.step, c.told));
        leaves = record {
          whole = [];
          at = from.power;
          leaves = refl;
          fuse = record { within = true; call = from.power.passed };
          set = within;
          named = refl;
          last = (record { call = call; cut = true; picks = c.picks }, refl, refl, c.leaves);
        };
      };
      power = (passes_same from.power to.power c.leaves.fuse c.leaves.passed, named_after from.power to.power c.leaves.fuse c.leaves.passed named);
    }

    stopped : ground.Stopped G from.machine to.machine from.power to.power → IsNamed from.power → IsFate from.power fate.Before → Keeps Down
    stopped s named before = record {
      goes_on = record { number = refl; later = later };
      steps = record {
        notes = [];
        within = false;
        step = (from.machine, refl, refl, s.lost);
        leaves = record {
          whole = [];
          at = from.power;
          leaves = refl;
          fuse = record { within = false; call = from.power.passed };
          set = before;
          named = refl;
          last = (refl, s.leaves);
        };
      };
      power = (
        passes_same from.power to.power (ap (λ (p : Power). p.fuse) s.leaves) (ap (λ (p : Power). p.passed) s.leaves),
        subst IsNamed (sym s.leaves) named,
      );
    }

    down : ground.Down G call from.machine to.machine from.power to.power → IsNamed from.power → Keeps Down
    down d named = by_fuse (fuse_burns G call from.machine to.machine from.power.picks from.power.fuse from.power.passed from.power.events to.power d)
      where
        by_within : (within : Bool) → from.power.fuse ≡ Some (record { within = within; call = from.power.passed }) →
            MatchBool within (ground.Cut G call from.machine to.machine from.power to.power)
            (ground.Stopped G from.machine to.machine from.power to.power) → Keeps Down
        by_within true is c = cut c named is
        by_within false is s = stopped s named is

        by_fuse : Burns G call from.machine to.machine from.power to.power → Keeps Down
        by_fuse (f, is, b) = by_within f.within (is ∙ ap (λ (n : ℕ). Some (record { within = f.within; call = n })) (named_call from.power f is named)) b

    failed : ground.Failed G call from.machine to.machine from.power to.power → ¬ IsNamed from.power → Keeps Failed
    failed f unnamed = record {
      goes_on = record { number = refl; later = later };
      steps = (
        record {
          notes = record { call = call; cut = true; picks = [] } ∷ [];
          within = true;
          step = (from.machine, call, is, refl, (inr refl, f.breaks));
          leaves = record { whole = []; at = from.power; leaves = refl; last = inr (call, refl, unnamed, f.leaves) };
        },
        f.cause,
      );
      power = (
        passes_same from.power to.power f.leaves.fuse f.leaves.passed,
        λ h. unnamed (named_before from.power to.power f.leaves.fuse f.leaves.passed h),
      );
    }

    starved : ground.Starved G call from.machine to.machine from.power to.power → Keeps Starved
    starved s = record {
      goes_on = record { number = refl; later = later };
      steps = record {
        notes = [];
        within = true;
        step = (from.machine, call, is, refl, (inl refl, s.breaks));
        leaves = record { whole = []; at = from.power; leaves = refl; last = inl (refl, s.leaves) };
      };
      power = tt;
    }

    by_result : (result : Result Turn NoMemory) → ground.Turns G call from.machine to.machine from.power to.power result →
        ground.IsDownWhereNamed from.power result → Keeps (ending_of result)
    by_result (Ok turn.Done) t d = whole None t (λ named. absurd (no_turn (d.1 named)))
      where
        no_turn : turn.Done ≡ turn.Down → ⊥
        no_turn e = cc
    by_result (Ok (turn.Answer (value.Row row))) t d = whole (Some row) t (λ named. absurd (no_turn (d.1 named)))
      where
        no_turn : turn.Answer (value.Row row) ≡ turn.Down → ⊥
        no_turn e = cc
    by_result (Ok (turn.Answer (value.Word w))) t d = absurd t
    by_result (Ok (turn.Answer (value.Table w))) t d = absurd t
    by_result (Ok turn.Down) t d = down t (d.0 refl)
    by_result (Ok turn.Failed) t d = failed t (λ named. absurd (no_turn (d.1 named)))
      where
        no_turn : turn.Failed ≡ turn.Down → ⊥
        no_turn e = cc
    by_result (Err e) t d = starved t

  calls_kept : (file : File) (from to : Standing S) (name : Name) (args : List Value) (ending : Ending) → CallsGround G from name args ending to →
      KeepsInCall (ground_meaning G) file from to name args ending
  calls_kept file from to name args ending h =
      subst (KeepsInCall (ground_meaning G) file from to name args) (sym h.ends)
      (by_result file from to name args h.call h.is h.later h.counts h.result h.turns h.down)

  -- a ground is a machine below a layer
  pub ground_keeps : IsLower (ground_meaning G)
  ground_keeps = record {
    calls = calls_kept;
    falls = λ file from to name args outage h. absurd h;
    loses = λ file from to outage h. absurd h;
    rests = λ file s. (s, refl, refl, refl);
    leaves_rest = λ file at. record { whole = []; at = at.power; leaves = refl; last = inl (refl, refl) };
    leaves_none = λ file at. refl;
    leaves_both = λ how file from at to first second a b. leave_then how first second from.power at.power to.power a b;
  }
