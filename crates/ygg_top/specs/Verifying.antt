-- How `verify` and `demo` end.
use Rattle.std.specs.Prelude.{◌≡◌, ◌⊎◌, ℕ, ◌<◌, List, Option, Some}
use Rattle.ygg_base.specs.declared.failure.Refusal.{Refusal}
use Rattle.ygg_base.specs.declared.reason.Reason.TheVariants as reason
use Rattle.ygg_base.specs.Reason.{refusal_at}
use Rattle.ygg_base.specs.declared.status.Status.{Status}
use Rattle.ygg_base.specs.declared.status.Status.TheVariants.{Refused, Fault, NoMemory}
use Rattle.ygg_syntax.specs.declared.tree.File.{File}
use Rattle.ygg_top.specs.ygg_report.Lines.{refused_line}
use Rattle.ygg_top.specs.ygg_report.Putting.{Adds, IsCutOf}
use Rattle.ygg_oblige_reading.specs.ygg_rules.declared.rule.RuleKind.{RuleKind}
use Rattle.ygg_yard.specs.Laws.{HoldsAll}
use Rattle.ygg_yard.specs.Texts.{made}
use Rattle.ygg_top.specs.ygg_top_command.declared.stopping.CommandStop.{CommandStop}
use Rattle.ygg_top.specs.ygg_top_command.declared.stopping.CommandStop.TheVariants as stop
use Rattle.ygg_top.specs.ygg_top_command.Words.{IsNumber, IsNoNumber}
use Rattle.ygg_top.specs.ygg_top_command.Refusing.{IsLayerFile, RefusesFile}
use Rattle.ygg_top.specs.ygg_top_command.Standing.{IsRefused}
use Rattle.ygg_top.specs.Verdict.{ByVerdicts, Verified, Counted}

-- `verify` within a budget of what stands under the name, under a book of these kinds: it is refused, or it is a layer file without a fault, and there
-- are verdicts on it
abbrev pub Verifies : List RuleKind → ℕ → Option (List ℕ) → Status → List ℕ → Type 0
Verifies kinds budget stored Refused text = (r : Refusal) × RefusesFile stored r × (text ≡ refused_line r)
Verifies kinds budget stored Fault text = ⊥
Verifies kinds budget stored NoMemory text = ⊥
Verifies kinds budget stored status text = (bytes : List ℕ) × (f : File) × (stored ≡ Some bytes) × IsLayerFile bytes f × Verified kinds f budget status text

-- the most operations of a file that `demo` makes
abbrev pub most_operations : ℕ
most_operations = 64

-- `demo` of a number under a book of these kinds: the text that is made for it is a layer file without a fault, and there are verdicts on it, none of which is
-- that an obligation fails
abbrev pub DemosMade : List RuleKind → ℕ → Status → List ℕ → Type 0
DemosMade kinds number status text = (f : File) × IsLayerFile (made number) f × Counted kinds number f status text

-- `demo` of a word: a word that is no number from 1 to 64 is refused 72 at `0:1`
abbrev pub Demos : List RuleKind → List ℕ → Status → List ℕ → Type 0
Demos kinds word status text =
    ((number : ℕ) × IsNumber most_operations word number × DemosMade kinds number status text)
    ⊎ (IsNoNumber most_operations word × IsRefused (refusal_at reason.Number 0 1) status text)

-- A file is to be verified within a budget, and however that ends, it is this that the command does.
abbrev pub VerifyingIs : List RuleKind → File → ℕ → (Status → List ℕ → Type 0) → Type 0
VerifyingIs kinds f budget Does = (0 < budget) × ((status : Status) (text : List ℕ) → Verified kinds f budget status text → Does status text)

-- a front of the text of a list of verdicts on the file that is true for the budget
abbrev pub IsCutVerdict : List RuleKind → File → ℕ → List ℕ → Type 0
IsCutVerdict kinds f budget = IsCutOf (ByVerdicts kinds f budget)

-- verifying a file is what the command does, and this is a front of the text of a list of verdicts on it that is true for the budget
pub record IsCutRun (kinds : List RuleKind) (Does : Status → List ℕ → Type 0) (front : List ℕ) : Type 0 where
  pub file : File
  pub budget : ℕ
  pub does : VerifyingIs kinds file budget Does
  pub cut : IsCutVerdict kinds file budget front

-- What the sink has taken by the end of verifying a file: the text of a list of verdicts, or a front of one where the sink failed or no memory was left.
abbrev pub Streams : List RuleKind → File → ℕ → Option (List ℕ) → Option (List ℕ) → (SinkRose : Type 0) → Status → Type 0
Streams kinds f budget before now SinkRose Fault = SinkRose × (front : List ℕ) × IsCutVerdict kinds f budget front × Adds before front now
Streams kinds f budget before now SinkRose NoMemory = (now ≡ before) ⊎ ((front : List ℕ) × IsCutVerdict kinds f budget front × Adds before front now)
Streams kinds f budget before now SinkRose Refused = ⊥
Streams kinds f budget before now SinkRose status = (text : List ℕ) × Verified kinds f budget status text × Adds before text now

-- the layer file that is made for a number, whose obligations all hold
pub record IsMadeFor (number : ℕ) (f : File) : Type 0 where
  pub file : IsLayerFile (made number) f
  pub hold : HoldsAll number f

-- why there is no number of operations where a word, the first after the command's, is to be one
abbrev pub IsNumberless : List ℕ → CommandStop → Type 0
IsNumberless word (stop.Refused r) = IsNoNumber most_operations word × (r ≡ refusal_at reason.Number 0 1)
IsNumberless word stop.LibraryFailed = ⊥
IsNumberless word stop.NoMemory = Unit {0}
