-- What a command does with what stands under a name.
use Rattle.std.specs.Prelude.{◌≡◌, ◌⊎◌, ℕ, List, Option, Some, None}
use Rattle.ygg_base.specs.declared.failure.Refusal.{Refusal}
use Rattle.ygg_base.specs.declared.lists.Held.{Held}
use Rattle.ygg_base.specs.declared.status.Status.{Status}
use Rattle.ygg_base.specs.declared.status.Status.TheVariants.{Refused}
use Rattle.ygg_base.specs.declared.reason.Reason.TheVariants as reason
use Rattle.ygg_base.specs.Outside.{bytes_of}
use Rattle.ygg_base.specs.Reason.{refusal_at}
use Rattle.ygg_report.specs.Lines.{refused_line}
use Rattle.ygg_top_command.specs.Words.{IsBudget, IsNoBudget}

-- what stands under the name in a library: the told file, or any where the library tells none
abbrev pub Stands : Option (List Held) → List ℕ → Option (List ℕ) → Type 0
Stands None name stored = Unit {0}
Stands (Some files) name stored = stored ≡ bytes_of files name

-- a command does this with what stands under the name
abbrev pub DoesWith : (Option (List ℕ) → Status → List ℕ → Type 0) → Option (List Held) → List ℕ → Status → List ℕ → Type 0
DoesWith Does files name status text = (stored : Option (List ℕ)) × Stands files name stored × Does stored status text

-- the refusal, as status and line
abbrev pub IsRefused : Refusal → Status → List ℕ → Type 0
IsRefused r status text = (status ≡ Refused) × (text ≡ refused_line r)

-- a command of a name with a word for the budget, where `Does` says what it does within one: a word that is no budget is refused 72 at `0:2`, before
-- anything is looked at
abbrev pub DoesWithin : (ℕ → Option (List ℕ) → Status → List ℕ → Type 0) → Option (List Held) → (name word : List ℕ) → Status → List ℕ → Type 0
DoesWithin Does files name word status text =
    ((budget : ℕ) × IsBudget word budget × DoesWith (Does budget) files name status text)
    ⊎ (IsNoBudget word × IsRefused (refusal_at reason.Number 0 2) status text)
