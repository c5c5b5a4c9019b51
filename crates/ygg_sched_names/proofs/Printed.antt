-- The text of a schedule that fits its obligation and violates it is read as this schedule, and shows the obligation's name.
use Rattle.std.proofs.Common.{◌≡◌, ℕ, List, Some, is_some, inr, refl, sym, ap, subst, ◌∙◌}
use Rattle.ygg_base.specs.declared.status.Status.TheVariants.{Refuted}
use Rattle.ygg_syntax.specs.Files.{IsDerived}
use Rattle.ygg_syntax.specs.declared.tree.File.{File}
use Rattle.ygg_accept.specs.ygg_type_rules.Files.{IsTyped}
use Rattle.ygg_replay.specs.ygg_meaning.Refines.{machine_below}
use Rattle.ygg_replay.specs.ygg_meaning.Replayed.{Shows}
use Rattle.ygg_replay.specs.ygg_meaning.Claims.{Claim}
use Rattle.ygg_oblige_laws.specs.Meaning.{claim_name}
use Rattle.ygg_replay.specs.ygg_report.Lines.{shows_line}
use Rattle.ygg_replay.specs.ygg_sched.Fitting.{IsScheduleOf, IsPlain}
use Rattle.ygg_replay.specs.ygg_sched.Laws.{asked_at, asked_of}
use Rattle.ygg_replay.specs.ygg_sched.Printing.{text_of}
use Rattle.ygg_replay.specs.ygg_sched.Sites.{Site, site_named, has_stop}
use Rattle.ygg_replay.specs.ygg_sched.declared.schedule.Schedule.{Schedule}
use Rattle.ygg_replay.proofs.of_ygg_sched.TextsAgain.{printed_is_read}
use Rattle.ygg_replay.specs.Ending.{Replaying}
use Rattle.ygg_replay.specs.Shown.{claim_named}
use Rattle.ygg_sched_names.specs.Names.{HasNames}
use Rattle.ygg_sched_names.specs.Violating.{IsViolating}
use Rattle.ygg_sched_names.proofs.Asked.{Asked, asked_name, named_is, site_named_is}
use Rattle.ygg_sched_names.proofs.Good.{all_good, plain_at}
use Rattle.ygg_sched_names.proofs.Stops.{stop_there}

same_claim : (c d : Claim) → Some c ≡ Some d → c ≡ d
same_claim c d h = cc

module _ (f : File) (typed : IsTyped f) (named : HasNames f) (derived : ∥ IsDerived f ∥₁) where
  pub shown : (place : ℕ) (x : Schedule) → IsViolating f place x → Replaying f (text_of f x) Refuted (shows_line x.name)
  shown place x v =
      let c = v.claim in
      let s : Site = v.fitted.site in
      let fits = v.fitted.fits in
      let asks : asked_at s ≡ asked_of c =
      v.fitted.asked ∙ ap asked_of (same_claim v.fitted.claim c (sym v.fitted.claim_there ∙ v.there)) in
      let same : s.obligation ≡ c.obligation = ap (λ (a : Asked). a.2) asks in
      let title : x.name ≡ claim_name c = v.fitted.name ∙ ap asked_name asks in
      let stop : is_some x.stop ≡ has_stop s.obligation =
      stop_there c.layer (machine_below c.below) x v.violated.end c.obligation v.violated.meets.reached
      (λ e. fits.stop (ap has_stop same ∙ e)) ∙ sym (ap has_stop same) in
      let of : IsScheduleOf f x = record {
        site = s;
        named = ap (site_named f) v.fitted.name ∙ site_named_is f typed named place s v.fitted.there;
        fits = record {
          state = fits.state;
          memory = fits.memory;
          low = fits.low;
          args = fits.args;
          stop = record { there = stop; bounded = v.bounded };
          wake = fits.wake;
          other = fits.other;
        };
      } in
      let plain : IsPlain s x.name =
      subst (λ (n : List ℕ). IsPlain s n) (sym v.fitted.name) (plain_at f (all_good f derived typed named) place s v.fitted.there) in
      inr (record {
        schedule = x;
        read = printed_is_read f x of plain;
        answer = Shows;
        shown = record { claim = c; named = ap (claim_named f) title ∙ named_is f typed named place c v.there; replays = v.violated };
        status_is = refl;
        text_is = refl;
      })
