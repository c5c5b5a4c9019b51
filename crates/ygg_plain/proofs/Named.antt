-- A schedule that fits the obligation at a place may be replayed; what stands in the place of the one that an environment names violates the obligation where
-- that does.
use Rattle.std.proofs.Common.{◌≡◌, ℕ, true, false, List, Option, Some, None, refl, sym, ap, subst, ◌∙◌, arith}
use Rattle.std.specs.Prelude.{slice_get}
use Rattle.ygg_syntax.specs.declared.tree.Declared.{Declared}
use Rattle.ygg_syntax.specs.declared.tree.Layer.{Layer}
use Rattle.ygg_syntax.specs.declared.tree.File.{File}
use Rattle.ygg_rules.specs.declared.rule.RuleKind.{RuleKind}
use Rattle.ygg_oblige.specs.ygg_bank.Values.{Inputs}
use Rattle.ygg_replay.specs.ygg_meaning.Claims.{Claim, ClaimViolated, claims_of}
use Rattle.ygg_replay.specs.ygg_meaning.Obligations.{Obligation, Init, CallOf, CutOf, TickOf, CutTickOf, Idle, Again}
use Rattle.ygg_replay.specs.ygg_eval.Layers.{below_at, closed_at, variables_at}
use Rattle.ygg_replay.specs.ygg_sched.Cases.{obligation_at}
use Rattle.ygg_replay.specs.ygg_sched.Fitting.{IsAt, StopsOnlyIf}
use Rattle.ygg_replay.specs.ygg_sched.Laws.{asked_of}
use Rattle.ygg_replay.specs.ygg_sched.Sites.{Site, has_stop}
use Rattle.ygg_replay.specs.ygg_sched.declared.case.Case.{Case}
use Rattle.ygg_replay.specs.ygg_sched.declared.schedule.Halt.{Halt}
use Rattle.ygg_replay.specs.ygg_sched.declared.schedule.Schedule.{Schedule}
use Rattle.ygg_replay.specs.Schedules.{IsAsked, schedule_fits}
use Rattle.ygg_replay.proofs.Values.{schedule_fit}
use Rattle.ygg_oblige_schedule.specs.Fitted.{FitsAt, IsFitted}
use Rattle.ygg_oblige_reading.specs.Cases.{IsCaseAt}
use Rattle.ygg_oblige_reading.specs.Meant.{IsNamed, meant}
use Rattle.ygg_plain.specs.Plain.{IsPlainOf, IsViolated, ViolatesAsNamed}

some_is : {A : Type 0} (o : Option A) (a b : A) → o ≡ Some a → o ≡ Some b → a ≡ b
some_is o a b e f = let same : Some a ≡ Some b = sym e ∙ f in cc

-- no stop, and one before the first call
no_stop : StopsOnlyIf false None
no_stop = record { there = refl; bounded = tt }

one_stop : StopsOnlyIf true (Some (record { within = false; event = 0 }))
one_stop = record { there = refl; bounded = omega arith }

module _ (f : File) (place : ℕ) (l : Layer) (x : Schedule) where
  abbrev site_of : Obligation → Site
  site_of o = record { place = place; layer = l; low = variables_at f place; obligation = o }

  -- with another stop
  abbrev stopping : Option Halt → Schedule
  stopping stop = record x { stop = stop }

  at : (o : Obligation) (stop : Option Halt) → StopsOnlyIf (has_stop o) stop → FitsAt (site_of o) x → IsAt (site_of o) (stopping stop)
  at o stop s h = record {
    state = h.state;
    memory = h.memory;
    low = h.low;
    args = h.args;
    stop = s;
    wake = h.wake;
    other = h.other;
  }

  fit : (o : Obligation) → FitsAt (site_of o) x → schedule_fits f place l x o ≡ true
  fit Init h = refl
  fit (CallOf o) h = schedule_fit f place l (variables_at f place) (stopping None) refl (CallOf o) (at (CallOf o) None no_stop h)
  fit (CutOf o) h = schedule_fit f place l (variables_at f place) (stopping (Some _)) refl (CutOf o) (at (CutOf o) (Some _) one_stop h)
  fit (TickOf t) h = schedule_fit f place l (variables_at f place) (stopping None) refl (TickOf t) (at (TickOf t) None no_stop h)
  fit (CutTickOf t) h = schedule_fit f place l (variables_at f place) (stopping (Some _)) refl (CutTickOf t) (at (CutTickOf t) (Some _) one_stop h)
  fit Idle h = schedule_fit f place l (variables_at f place) (stopping None) refl Idle (at Idle None no_stop h)
  fit Again h = schedule_fit f place l (variables_at f place) (stopping (Some _)) refl Again (at Again (Some _) one_stop h)

module _ (f : File) (place : ℕ) (c : Case) (is : IsCaseAt f place c) where
  abbrev claim : Claim
  claim = record { layer = closed_at f c.layer is.layer; below = below_at f c.layer; obligation = is.obligation }

  -- it may be replayed
  pub asked : (x : Schedule) → IsFitted f place x → IsAsked f c x
  asked x h =
      let same : h.claim ≡ claim = some_is (slice_get (claims_of f) place) h.claim claim h.claim_there is.claim in
      let here : FitsAt (record { place = c.layer; layer = is.layer; low = variables_at f c.layer; obligation = is.obligation }) x =
      subst (λ (a : Layer × List Declared × Obligation). FitsAt (record { place = c.layer; layer = a.0; low = a.1; obligation = a.2 }) x)
      (h.asked ∙ ap asked_of same) (moved h.site h.fits) in
      record { layer = is.layer; here = is.here; obligation = is.obligation; is = is.is; fit = fit f c.layer is.layer x is.obligation here }
    where
      -- the place of a layer counts for nothing there
      moved : (s : Site) → FitsAt s x → FitsAt (record { place = c.layer; layer = s.layer; low = s.low; obligation = s.obligation }) x
      moved s k = record { state = k.state; memory = k.memory; low = k.low; args = k.args; stop = k.stop; wake = k.wake; other = k.other }

  -- what violates the obligation of the claim violates it by its places, and the other way round
  violated_so : (x : Schedule) → ClaimViolated claim (meant claim x) → IsViolated f c x
  violated_so x v l o here at =
      let layer : is.layer ≡ l = some_is (slice_get f.layers c.layer) is.layer l is.here here in
      let there : obligation_at is.layer c.kind c.number ≡ Some o = ap (λ (k : Layer). obligation_at k c.kind c.number) layer ∙ at in
      let obligation : is.obligation ≡ o = some_is (obligation_at is.layer c.kind c.number) is.obligation o is.is there in
      subst (λ (k : Layer × Obligation).
      (let d : Claim = record { layer = closed_at f c.layer k.0; below = below_at f c.layer; obligation = k.1 } in ClaimViolated d (meant d x)))
      (ap (λ (k : Layer). (k, is.obligation)) layer ∙ ap (λ (p : Obligation). (l, p)) obligation) v

  -- what stands in the place of the schedule that is named
  pub stands_in : (kinds : List RuleKind) (inputs : Inputs) (x y : Schedule) → IsNamed kinds f inputs place x → IsPlainOf f c x y →
      ViolatesAsNamed kinds f inputs place y
  stands_in kinds inputs x y n plain = record { named = meant n.claim x; is_named = n.names; violates = violates }
    where
      own : n.claim ≡ claim
      own = some_is (slice_get (claims_of f) place) n.claim claim n.there is.claim

      violates : (d : Claim) → slice_get (claims_of f) place ≡ Some d → ClaimViolated d (meant n.claim x) → ClaimViolated d (meant d y)
      violates d there v =
          let same : claim ≡ d = some_is (slice_get (claims_of f) place) claim d is.claim there in
          let first : ClaimViolated claim (meant claim x) =
          subst (λ (k : Claim). ClaimViolated claim (meant k x)) own (subst (λ (k : Claim). ClaimViolated k (meant n.claim x)) (sym same) v) in
          subst (λ (k : Claim). ClaimViolated k (meant k y)) same (plain.violated (violated_so x first) is.layer is.obligation is.here is.is)

  -- and fits it
  pub still_fitted : (x y : Schedule) → IsFitted f place x → IsPlainOf f c x y → IsFitted f place y
  still_fitted x y h plain = record {
    site = h.site;
    there = h.there;
    claim = h.claim;
    claim_there = h.claim_there;
    asked = h.asked;
    name = plain.name ∙ h.name;
    fits = plain.fits h.site h.fits;
  }
