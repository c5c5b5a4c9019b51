-- What is said of the obligation that is asked, of each that it may be.
use Rattle.std.proofs.Common.{◌≡◌, ℕ, false, [], Option, unwrap_or, ap, subst}
use Rattle.std.specs.Option.{option_map}
use Rattle.ygg_sched.specs.ygg_meaning.Machine.{Picks}
use Rattle.ygg_sched.specs.ygg_meaning.Obligations.{Obligation}
use Rattle.ygg_sched.specs.ygg_meaning.Violates.{most}
use Rattle.ygg_replay_search.specs.Searching.{IsFirstAfter}
use Rattle.ygg_replay.specs.declared.site.ReplaySite.{ReplaySite}
use Rattle.ygg_replay.specs.declared.conclusion.Trial.{Trial}
use Rattle.ygg_replay.specs.Passing.{IsOf, most_asked, passing, passing_asked}
use Rattle.ygg_replay.specs.Sites.{closed_in}

module _ (s : ReplaySite) (t : Trial) (o : Obligation) (is : IsOf s t.case o) where
  pub most_is : most_asked s t ≡ most (closed_in s) o
  most_is = ap (λ x. unwrap_or (option_map (most (closed_in s)) x) 0) is

  pub passes_is : (picks : Picks) → passing_asked s t picks ≡ passing s t o picks
  passes_is picks = ap (λ x. unwrap_or (option_map (λ o. passing s t o picks) x) false) is

  pub first_is : (found : Option Picks) → IsFirstAfter (most_asked s t) (passing_asked s t) [] found →
      IsFirstAfter (most (closed_in s) o) (passing s t o) [] found
  first_is found h =
      subst (λ (x : Option Obligation). IsFirstAfter (unwrap_or (option_map (most (closed_in s)) x) 0)
      (λ picks. unwrap_or (option_map (λ o. passing s t o picks) x) false) [] found) is h
