-- The layer's own specification as a machine that is asked.
use Rattle.std.proofs.Common.{◌≡◌, ℕ, suc, ◌≤◌, true, List, length, slice_get, Some, refl, sym, ap, ◌∙◌, subst, arith}
use Rattle.std.proofs.lemmas.Option.{slice_get_within}
use Rattle.ygg_value.specs.declared.row.Value.{Value}
use Rattle.ygg_syntax.specs.declared.tree.Operation.{Operation}
use Rattle.ygg_syntax.specs.Files.{IsDerivable}
use Rattle.ygg_sched.specs.ygg_type_rules.TypeErrors.{none}
use Rattle.ygg_sched.specs.ygg_type_rules.Files.{type_errors_of}
use Rattle.ygg_sched.specs.ygg_disk.declared.power.Power.{Power}
use Rattle.ygg_sched.specs.ygg_meaning.Machine.{Picks}
use Rattle.ygg_sched.specs.ygg_meaning.Progress.{Answer}
use Rattle.ygg_sched.specs.ygg_meaning.Obligations.{call_picks, crash_picks, fall_picks}
use Rattle.ygg_sched.specs.ygg_meaning.Spec.{call_outcome, chosen, crash_outcome, fall_outcome}
use Rattle.ygg_eval.specs.Layers.{signatures_at}
use Rattle.ygg_eval.specs.Lower.{Serves, IsCallable, Called, Fell, Happened, Whole}
use Rattle.ygg_eval.specs.Kept.{Kept, spec_meaning, Loses}
use Rattle.ygg_eval.proofs.OnSpec.{fits_at}
use Rattle.ygg_replay.specs.declared.site.ReplaySite.{ReplaySite}
use Rattle.ygg_replay.specs.Runs.{fresh}
use Rattle.ygg_replay.specs.Sites.{IsHere, closed_in, vars_at, VarsFit}
use Rattle.ygg_replay.specs.Steps.{EndsIn, EndsSomehow, HasOperation, own_machine}
use Rattle.ygg_replay.proofs.Specified.{callable, called_gave, fell_dropped, lost_so}
use Rattle.ygg_replay.proofs.Stepped.{called_ends, dropped_ends, lost_ends}

module _ (s : ReplaySite) (here : IsHere s) (state : List Value) (fit : VarsFit s state) (k : Kept) (own : k ≡ own_machine s state) (power : Power) where
  pub own_serves : Serves spec_meaning s.typed.now.file k.number (record { machine = k; power = power })
  own_serves =
      let within = slice_get_within (s.typed.now.file).layers s.place s.layer.now here in
      let there : suc s.place ≤ length (s.typed.now.file).layers = omega (arith, within) in
      subst (λ (k : Kept). Serves spec_meaning s.typed.now.file k.number (record { machine = k; power = power })) (sym own)
      (record {
        numbered = refl;
        fits = record { there = there; fit = fits_at s.typed.now.file s.place s.layer.now state here fit };
        fuse = λ h. refl;
      })

  module _ (fine : none (type_errors_of s.typed.now.file) ≡ true) (number : ℕ) (args : List Value) where
    pub own_callable : HasOperation s number args → IsCallable (signatures_at s.typed.now.file k.number) number args
    own_callable h = subst (λ (k : Kept). IsCallable (signatures_at s.typed.now.file k.number) number args) (sym own)
        (callable s.typed.now.file fine s.place s.layer.now number h.operation args here h.is h.fit)

    module _ (derivable : ∥ IsDerivable s.typed.now.file ∥₁) (picks : Picks) (fresh_is : power ≡ fresh picks) (k' : Kept) (power' : Power) where
      pub own_called : HasOperation s number args → (answer : Answer) →
          Called spec_meaning s.typed.now.file (signatures_at s.typed.now.file k.number) number args (Whole answer) (record { machine = k; power = power })
          (record { machine = k'; power = power' }) → Serves spec_meaning s.typed.now.file k.number (record { machine = k'; power = power' }) →
          (o : Operation) → slice_get s.layer.now.operations number ≡ Some o → length picks ≡ call_picks o →
          EndsIn s (call_outcome (closed_in s) o (vars_at s state) args (chosen picks)) answer k'.values
      own_called h answer called serves o there all =
          let numbered : k'.number ≡ suc s.place = serves.numbered ∙ ap (λ (k : Kept). k.number) own in
          let f = subst (λ (k : Kept). Called spec_meaning s.typed.now.file (signatures_at s.typed.now.file k.number) number args (Whole answer)
          (record { machine = k; power = power }) (record { machine = k'; power = power' })) own called in
          called_ends s here fine derivable state power power' picks fresh_is k' numbered serves.fits number o args there answer
          (called_gave s.typed.now.file fine s.place state power power' k' number args answer
          (callable s.typed.now.file fine s.place s.layer.now number h.operation args here h.is h.fit) f s.layer.now o here there) all

      pub own_fell : HasOperation s number args →
          Fell spec_meaning s.typed.now.file (signatures_at s.typed.now.file k.number) number args Happened (record { machine = k; power = power })
          (record { machine = k'; power = power' }) → Serves spec_meaning s.typed.now.file k.number (record { machine = k'; power = power' }) →
          (o : Operation) → slice_get s.layer.now.operations number ≡ Some o → length picks ≡ fall_picks s.layer.now o →
          EndsSomehow s (fall_outcome (closed_in s) o (vars_at s state) args picks) k'.values
      own_fell h fell serves o there all =
          let numbered : k'.number ≡ suc s.place = serves.numbered ∙ ap (λ (k : Kept). k.number) own in
          let f = subst (λ (k : Kept). Fell spec_meaning s.typed.now.file (signatures_at s.typed.now.file k.number) number args Happened
          (record { machine = k; power = power }) (record { machine = k'; power = power' })) own fell in
          dropped_ends s here fine derivable state power power' picks fresh_is k' numbered serves.fits number o args there
          (fell_dropped s.typed.now.file fine s.place state power power' k' number args
          (callable s.typed.now.file fine s.place s.layer.now number h.operation args here h.is h.fit) f s.layer.now o here there) all

  module _ (fine : none (type_errors_of s.typed.now.file) ≡ true) (derivable : ∥ IsDerivable s.typed.now.file ∥₁) (picks : Picks)
      (fresh_is : power ≡ fresh picks) (k' : Kept) (power' : Power) where
    pub own_lost : Loses s.typed.now.file (record { machine = k; power = power }) Happened (record { machine = k'; power = power' }) →
        Serves spec_meaning s.typed.now.file k.number (record { machine = k'; power = power' }) → length picks ≡ crash_picks s.layer.now →
        EndsSomehow s (crash_outcome (closed_in s) (vars_at s state) (chosen picks)) k'.values
    own_lost lost serves all =
        let numbered : k'.number ≡ suc s.place = serves.numbered ∙ ap (λ (k : Kept). k.number) own in
        let l = subst (λ (k : Kept). Loses s.typed.now.file (record { machine = k; power = power }) Happened (record { machine = k'; power = power' }))
        own lost in
        lost_ends s here fine derivable state power power' picks fresh_is k' numbered serves.fits
        (lost_so s.typed.now.file fine s.place state power power' k' l s.layer.now here) all
