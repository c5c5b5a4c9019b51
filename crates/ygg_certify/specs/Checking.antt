-- What `check` says of a text as the certificate of a layer file.
use Rattle.std.specs.Prelude.{◌≡◌, ◌⊎◌, ℕ, ◌≤◌, List, ◌++◌, length, codes, Option, None, Some, IfSome}
use Rattle.std.specs.Fmt.{decimal}
use Rattle.ygg_base.specs.declared.failure.Refusal.{Refusal}
use Rattle.ygg_base.specs.declared.status.Status.{Status}
use Rattle.ygg_base.specs.declared.status.Status.TheVariants.{Done, Refuted, Refused}
use Rattle.ygg_base.specs.Outside.{Reading}
use Rattle.ygg_syntax.specs.declared.tree.File.{File}
use Rattle.ygg_certify.specs.ygg_rules.declared.rule.RuleKind.{RuleKind}
use Rattle.ygg_certify.specs.ygg_meaning.Claims.{claims_of}
use Rattle.ygg_report.specs.Lines.{ended, refused_line}
use Rattle.ygg_cert.specs.Judging.{IsWhole, IsBadAt, IsWrongAt, IsCutAt}
use Rattle.ygg_certify.specs.FileGoals.{goals_of, IsRight}

-- the line of a certificate for so many obligations
abbrev pub checked_line : ℕ → List ℕ
checked_line count = ended (codes "checked " ++ decimal count)

-- the line of a log at fault, that of the obligation of this name, by the clause of this number or, with 0, because no empty clause is held at its end
abbrev pub bad_line : List ℕ → ℕ → List ℕ
bad_line name number = ended (codes "bad " ++ name ++ codes " " ++ decimal number)

-- The text is a certificate of the file, for as many obligations as the line says, which are all of the file's. Each layer then refines its specification, and
-- every history is allowed.
pub record IsChecked (kinds : List RuleKind) (f : File) (bytes text : List ℕ) : Type 0 where
  pub count : ℕ
  pub whole : IsWhole (goals_of kinds f) bytes count
  pub all : count ≡ length (claims_of f)
  pub right : IsRight f
  pub text_is : text ≡ checked_line count

-- in the text the log of an obligation is at fault, which the line names
pub record IsBad (kinds : List RuleKind) (f : File) (bytes text : List ℕ) : Type 0 where
  pub name : List ℕ
  pub number : ℕ
  pub bad : IsBadAt (goals_of kinds f) bytes name number
  pub text_is : text ≡ bad_line name number

-- the text is refused, before any log at fault
pub record IsRefused (kinds : List RuleKind) (f : File) (bytes text : List ℕ) : Type 0 where
  pub refusal : Refusal
  pub refuses : IsWrongAt (goals_of kinds f) bytes refusal ⊎ IsCutAt (goals_of kinds f) bytes refusal
  pub text_is : text ≡ refused_line refusal

-- how `check` ends for a file and a text, and what it prints
abbrev pub Checks : List RuleKind → File → List ℕ → Status → List ℕ → Type 0
Checks kinds f bytes Done text = IsChecked kinds f bytes text
Checks kinds f bytes Refuted text = IsBad kinds f bytes text
Checks kinds f bytes Refused text = IsRefused kinds f bytes text
Checks kinds f bytes status text = ⊥

-- How `check` ends for a layer file and an open file, and what it prints: so it ends for the bytes that were read, which are no more than the file may give,
-- and, where its bytes from the position on are told, for all of these, whether or not all were read.
pub record ChecksFile (kinds : List RuleKind) (f : File) (certificate : Reading) (status : Status) (text : List ℕ) : Type 0 where
  pub read : List ℕ
  pub few : length read ≤ certificate.room
  pub said : Checks kinds f read status text
  pub whole : IfSome certificate.rest (λ all. Checks kinds f all status text)

-- the same of what is open
abbrev pub ChecksOpen : List RuleKind → File → Option Reading → Status → List ℕ → Type 0
ChecksOpen kinds f None status text = ⊥
ChecksOpen kinds f (Some certificate) status text = ChecksFile kinds f certificate status text
