-- A certificate that is printed, handed to `check`.
use Rattle.std.specs.Prelude.{◌≡◌, ℕ, ◌≤◌, List, length, Some}
use Rattle.ygg_base.specs.declared.lists.Held.{Held}
use Rattle.ygg_base.specs.declared.status.Status.{Status}
use Rattle.ygg_base.specs.declared.status.Status.TheVariants.{Done}
use Rattle.ygg_base.specs.Outside.{bytes_of}
use Rattle.ygg_syntax.specs.declared.tree.File.{File}
use Rattle.ygg_top.specs.ygg_rules.declared.rule.RuleKind.{RuleKind}
use Rattle.ygg_top.specs.ygg_meaning.Claims.{claims_of}
use Rattle.ygg_certify.specs.Checking.{checked_line}
use Rattle.ygg_top.specs.ygg_top_command.Refusing.{IsLayerFile}
use Rattle.ygg_top.specs.Checking.{ChecksNamed, most_certificate_bytes}

-- `check` of a file's name and a certificate's name in this library, under a book of these kinds, ends with all done, and says that so many obligations are
-- checked
abbrev pub OnlyChecks : List RuleKind → List Held → (file certificate : List ℕ) → ℕ → Type 0
OnlyChecks kinds files file certificate count =
    (status : Status) (line : List ℕ) → ChecksNamed kinds (Some files) file certificate status line → (status ≡ Done) × (line ≡ checked_line count)

-- Where the text has at most as many bytes as are read of a certificate, it is so in every library in which a text of the layer file stands under the one name,
-- and this text under the other, for all obligations of the file.
abbrev pub IsCheckedAgain : List RuleKind → File → (text : List ℕ) → Type 0
IsCheckedAgain kinds f text =
    length text ≤ most_certificate_bytes → (bytes : List ℕ) → IsLayerFile bytes f → (files : List Held) (file certificate : List ℕ) →
    bytes_of files file ≡ Some bytes → bytes_of files certificate ≡ Some text → OnlyChecks kinds files file certificate (length (claims_of f))
