-- Why nothing is fetched by a name, and what a command does that stops for it.
use Rattle.std.proofs.Common.{◌≡◌, ◌<◌, ℕ, zero, suc, List, [], ◌∷◌, Option, Some, None, length, inr, refl, sym, ap, arith}
use Rattle.std.specs.Prelude.{IfSome}
use Rattle.ygg_base.specs.declared.failure.Refusal.{Refusal}
use Rattle.ygg_base.specs.declared.lists.Held.{Held}
use Rattle.ygg_base.specs.declared.outside.Fetch.TheVariants.{TooLarge}
use Rattle.ygg_base.specs.declared.reason.Reason.TheVariants as reason
use Rattle.ygg_base.specs.declared.status.Status.{Status}
use Rattle.ygg_base.specs.declared.status.Status.TheVariants as status
use Rattle.ygg_base.specs.Outside.{bytes_of, FitsFile}
use Rattle.ygg_base.specs.Reason.{refusal_at}
use Rattle.ygg_report.specs.Lines.{refused_line}
use Rattle.ygg_top_command.specs.declared.stopping.CommandStop.{CommandStop}
use Rattle.ygg_top_command.specs.declared.stopping.CommandStop.TheVariants.{Refused, LibraryFailed, NoMemory}
use Rattle.ygg_top_command.specs.Fetched.{IsUnread, IsNoFile, IsBudgetless}
use Rattle.ygg_top_command.specs.Refusing.{RefusesUnread, RefusesFile}
use Rattle.ygg_top_command.specs.Reports.{MayStop}
use Rattle.ygg_top_command.specs.Standing.{DoesWith, DoesWithin}

some_longer : (n : ℕ) → (bytes : List ℕ) × (n < length bytes)
some_longer zero = (0 ∷ [], omega arith)
some_longer (suc n) = let shorter = some_longer n in (0 ∷ shorter.0, omega (arith, shorter.1))

module _ (files : Option (List Held)) (name : List ℕ) (LibraryRose : Type 0) where
  -- why no text is fetched where the library says that it is too large: it holds such a file, or may hold one
  pub too_large : (most place : ℕ) (at : Refusal) → at ≡ refusal_at reason.TooLarge 0 place →
      IfSome files (λ held. FitsFile (bytes_of held name) most TooLarge) → IsUnread most place files name LibraryRose (Refused at)
  too_large most place at same told = stands files told
    where
      stands : (files : Option (List Held)) → IfSome files (λ held. FitsFile (bytes_of held name) most TooLarge) →
          IsUnread most place files name LibraryRose (Refused at)
      stands None told = let long = some_longer most in (Some long.0, tt, (long.1, same))
      stands (Some held) told = (Some told.0, sym told.1, (told.2, same))

  module _ (Does : Option (List ℕ) → Status → List ℕ → Type 0) where
    -- a command of a text that isn't fetched
    pub unread_stop : (most place : ℕ) (stop : CommandStop) →
        ((stored : Option (List ℕ)) (r : Refusal) → RefusesUnread most place stored r → Does stored status.Refused (refused_line r)) →
        IsUnread most place files name LibraryRose stop → MayStop (DoesWith Does files name) LibraryRose stop
    unread_stop most place (Refused r) does unread = (unread.0, unread.1, does unread.0 r unread.2)
    unread_stop most place LibraryFailed does unread = unread
    unread_stop most place NoMemory does unread = tt

    -- a command of a layer file where there is none
    pub file_stop : (stop : CommandStop) →
        ((stored : Option (List ℕ)) (r : Refusal) → RefusesFile stored r → Does stored status.Refused (refused_line r)) →
        IsNoFile files name LibraryRose stop → MayStop (DoesWith Does files name) LibraryRose stop
    file_stop (Refused r) does none = (none.0, none.1, does none.0 r none.2)
    file_stop LibraryFailed does none = none
    file_stop NoMemory does none = tt

  -- a command with a word for the budget that is none
  pub budget_stop : (Does : ℕ → Option (List ℕ) → Status → List ℕ → Type 0) (word : List ℕ) (stop : CommandStop) → IsBudgetless word stop →
      MayStop (DoesWithin Does files name word) LibraryRose stop
  budget_stop Does word (Refused r) none = inr (none.0, (refl, ap refused_line none.1))
  budget_stop Does word LibraryFailed none = absurd none
  budget_stop Does word NoMemory none = tt
