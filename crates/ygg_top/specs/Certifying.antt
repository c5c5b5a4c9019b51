-- How `certify` ends.
use Rattle.std.specs.Prelude.{◌≡◌, ◌⊎◌, ℕ, ◌<◌, List, Option, Some}
use Rattle.ygg_base.specs.declared.failure.Refusal.{Refusal}
use Rattle.ygg_base.specs.declared.status.Status.{Status}
use Rattle.ygg_base.specs.declared.status.Status.TheVariants.{Done, Refused, Fault, NoMemory}
use Rattle.ygg_syntax.specs.declared.tree.File.{File}
use Rattle.ygg_top.specs.ygg_rules.declared.rule.RuleKind.{RuleKind}
use Rattle.ygg_certify.specs.ygg_report.Putting.{IsCutOf, IsPutSo}
use Rattle.ygg_certify.specs.Certifying.{IsCertificate}
use Rattle.ygg_top.specs.ygg_top_command.Refusing.{IsLayerFile, RefusesFile}
use Rattle.ygg_top.specs.ygg_top_command.Standing.{IsRefused}
use Rattle.ygg_top.specs.Verdict.{Verified}
use Rattle.ygg_top.specs.Again.{IsCheckedAgain}

-- How `certify` ends for a layer file within a budget, under a book of these kinds, and its text: where all is done, a certificate of the file alone, which
-- `check` accepts, and else what `verify` prints of it.
abbrev pub CertifiesFile : List RuleKind → File → ℕ → Status → List ℕ → Type 0
CertifiesFile kinds f budget Done text = IsCertificate kinds f text × IsCheckedAgain kinds f text
CertifiesFile kinds f budget Refused text = ⊥
CertifiesFile kinds f budget Fault text = ⊥
CertifiesFile kinds f budget NoMemory text = ⊥
CertifiesFile kinds f budget status text = Verified kinds f budget status text

-- `certify` within a budget of what stands under the name: it is refused, or it is a layer file without a fault
abbrev pub Certified : List RuleKind → ℕ → Option (List ℕ) → Status → List ℕ → Type 0
Certified kinds budget stored status text =
    ((r : Refusal) × RefusesFile stored r × IsRefused r status text)
    ⊎ ((bytes : List ℕ) × (f : File) × (stored ≡ Some bytes) × IsLayerFile bytes f × CertifiesFile kinds f budget status text)

-- A file is to be certified within a budget, and however that ends, it is this that the command does.
abbrev pub CertifyingIs : List RuleKind → File → ℕ → (Status → List ℕ → Type 0) → Type 0
CertifyingIs kinds f budget Does = (0 < budget) × ((status : Status) (text : List ℕ) → CertifiesFile kinds f budget status text → Does status text)

-- a front of a certificate of the file, or of what `verify` prints of it
abbrev pub IsCutCertificate : List RuleKind → File → ℕ → List ℕ → Type 0
IsCutCertificate kinds f budget = IsCutOf (CertifiesFile kinds f budget)

-- certifying a file is what the command does, and this is a front of what that prints
pub record IsCutCertifying (kinds : List RuleKind) (Does : Status → List ℕ → Type 0) (front : List ℕ) : Type 0 where
  pub file : File
  pub budget : ℕ
  pub does : CertifyingIs kinds file budget Does
  pub cut : IsCutCertificate kinds file budget front

-- what is put at once: a text with its status, whole or cut short with a fault; or nothing, since no memory was left
abbrev pub PutsOnce : (Status → List ℕ → Type 0) → Option (List ℕ) → Option (List ℕ) → (SinkRose : Type 0) → Status → Type 0
PutsOnce Ended before now SinkRose result =
    ((status : Status) × (text : List ℕ) × Ended status text × IsPutSo before now text status SinkRose result)
    ⊎ ((result ≡ NoMemory) × (now ≡ before))
