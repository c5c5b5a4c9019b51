-- A schedule of a file is one that may be replayed, and what its replay shows is said of the obligation that it names.
use Rattle.std.proofs.Common.{◌≡◌, ℕ, true, List, slice_get, Option, Some, Result, Ok, Err, IfOk, sym, ap, subst, ◌∙◌}
use Rattle.ygg_syntax.specs.declared.tree.File.{File}
use Rattle.ygg_replay.specs.ygg_meaning.Replayed.{Replays}
use Rattle.ygg_replay.specs.ygg_eval.Layers.{closed_at, machine_at}
use Rattle.ygg_replay.specs.ygg_sched.declared.case.Case.{Case}
use Rattle.ygg_replay.specs.ygg_sched.declared.schedule.Schedule.{Schedule}
use Rattle.ygg_replay.specs.ygg_sched.Cases.{IsFirstNamed, IsCaseNamed}
use Rattle.ygg_replay.specs.ygg_sched.Sites.{Site}
use Rattle.ygg_replay.specs.ygg_sched.Fitting.{IsAt, IsScheduleOf}
use Rattle.ygg_replay.specs.declared.schedule.Replayed.{Replayed}
use Rattle.ygg_replay.specs.Schedules.{IsAsked, IsShown, meant, schedule_fits, shown_by}
use Rattle.ygg_replay.specs.Shown.{ShowsOf}
use Rattle.ygg_replay.proofs.Places.{claim_at, claim_is, stands}
use Rattle.ygg_replay.proofs.Values.{schedule_fit}

same_site : (s other : Site) → Some s ≡ Some other → s ≡ other
same_site s other h = cc

-- what is found under the schedule's name
pub first_is : (f file : File) (x : Schedule) (name : List ℕ) (found : Option Case) (c : Case) → file ≡ f → name ≡ x.name → found ≡ Some c →
    IsCaseNamed file name found → IsFirstNamed f x.name c
first_is f file x name found c same_file same_name is named =
    subst (λ (g : File). IsFirstNamed g x.name c) same_file
    (subst (λ (n : List ℕ). IsFirstNamed file n c) same_name (subst (λ (o : Option Case). IsCaseNamed file name o) is named))

-- what holds of a value, where there is one, gives another fact of it
pub if_ok : {T E : Type 0} (P Q : T → Type 0) (r : Result T E) → IfOk r P → ((x : T) → P x → Q x) → IfOk r Q
if_ok P Q (Ok x) h f = f x h
if_ok P Q (Err e) h f = tt

module _ (f : File) (x : Schedule) (of : IsScheduleOf f x) (c : Case) (first : IsFirstNamed f x.name c) where
  abbrev s : Site
  s = first.site

  fits : IsAt s x
  fits = subst (λ (k : Site). IsAt k x) (same_site of.site s (sym of.named ∙ first.named)) of.fits

  here : slice_get f.layers c.layer ≡ Some s.layer
  here = ap (slice_get f.layers) first.is.place ∙ (stands f x.name s first.named).here

  fit : schedule_fits f c.layer s.layer x s.obligation ≡ true
  fit = ap (λ (place : ℕ). schedule_fits f place s.layer x s.obligation) first.is.place
      ∙ schedule_fit f s.place s.layer s.low x (stands f x.name s first.named).low s.obligation fits

  -- it may be replayed
  pub asked : IsAsked f c x
  asked = record { layer = s.layer; here = here; obligation = s.obligation; is = first.is.obligation; fit = fit }

  -- what its replay shows
  pub shows : (answer : Replayed) → IsShown f c x answer → ShowsOf f x (shown_by answer)
  shows answer shown = record {
    claim = claim_at f s;
    named = claim_is f x.name s first.named;
    replays = subst (λ (place : ℕ). Replays (closed_at f place s.layer) (machine_at f place) s.obligation (meant f place s.layer x) (shown_by answer))
        first.is.place (shown s.layer s.obligation here first.is.obligation);
  }
