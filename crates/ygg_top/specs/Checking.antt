-- How `check` ends.
use Rattle.std.specs.Prelude.{◌≡◌, ◌⊎◌, ℕ, ◌≤◌, List, length, Option, None, Some, IfSome}
use Rattle.ygg_base.specs.declared.failure.Refusal.{Refusal}
use Rattle.ygg_base.specs.declared.lists.Held.{Held}
use Rattle.ygg_base.specs.declared.status.Status.{Status}
use Rattle.ygg_base.specs.Outside.{Reading, bytes_of}
use Rattle.ygg_syntax.specs.declared.tree.File.{File}
use Rattle.ygg_top.specs.ygg_rules.declared.rule.RuleKind.{RuleKind}
use Rattle.ygg_certify.specs.Checking.{Checks}
use Rattle.ygg_top.specs.ygg_top_command.Refusing.{IsLayerFile, RefusesFile, RefusesUnread}
use Rattle.ygg_top.specs.ygg_top_command.Standing.{DoesWith, IsRefused}

-- the most bytes of a certificate
abbrev pub most_certificate_bytes : ℕ
most_certificate_bytes = 67108864

-- `check` for a layer file, under a book of these kinds, of what stands under the certificate's name, the second word after the command's: it is refused
-- unread, or its text is checked
abbrev pub ChecksStored : List RuleKind → File → Option (List ℕ) → Status → List ℕ → Type 0
ChecksStored kinds f stored status text =
    ((r : Refusal) × RefusesUnread most_certificate_bytes 2 stored r × IsRefused r status text)
    ⊎ ((bytes : List ℕ) × (stored ≡ Some bytes) × (length bytes ≤ most_certificate_bytes) × Checks kinds f bytes status text)

-- the same of what stands under the file's name: it is refused, before the certificate is looked at, or it is a layer file without a fault
abbrev pub ChecksFor : List RuleKind → Option (List Held) → (certificate : List ℕ) → Option (List ℕ) → Status → List ℕ → Type 0
ChecksFor kinds files certificate stored status text =
    ((r : Refusal) × RefusesFile stored r × IsRefused r status text)
    ⊎ ((bytes : List ℕ) × (f : File) × (stored ≡ Some bytes) × IsLayerFile bytes f × DoesWith (ChecksStored kinds f) files certificate status text)

-- `check` of a file's name and a certificate's name
abbrev pub ChecksNamed : List RuleKind → Option (List Held) → (file certificate : List ℕ) → Status → List ℕ → Type 0
ChecksNamed kinds files file certificate = DoesWith (ChecksFor kinds files certificate) files file

-- what the library has open is the file of that name, of at most so many bytes, at its beginning, where it tells its files
abbrev pub OpensNamed : (most : ℕ) → Option (List Held) → List ℕ → Option Reading → Type 0
OpensNamed most files name None = ⊥
OpensNamed most files name (Some r) =
    (r.room ≤ most) × IfSome files (λ held. (bytes : List ℕ) × (bytes_of held name ≡ Some bytes) × (length bytes ≤ most) × (r.rest ≡ Some bytes))
