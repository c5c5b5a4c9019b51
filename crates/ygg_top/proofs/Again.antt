-- A certificate that is printed, handed to `check`.
use Rattle.std.proofs.Common.{◌≡◌, ℕ, List, Option, Some, length, inl, inr, refl, sym, ap, subst, ◌∙◌, arith}
use Rattle.ygg_base.specs.declared.status.Status.{Status}
use Rattle.ygg_base.specs.declared.status.Status.TheVariants.{Done, Refuted, Refused, Undecided, Fault, NoMemory}
use Rattle.ygg_syntax.specs.declared.tree.File.{File}
use Rattle.ygg_top.specs.ygg_rules.declared.rule.RuleKind.{RuleKind}
use Rattle.ygg_top.specs.ygg_meaning.Claims.{claims_of}
use Rattle.ygg_certify.specs.ygg_cert.declared.verdict.CertEnd.{CertEnd}
use Rattle.ygg_certify.specs.ygg_cert.declared.verdict.CertEnd.TheVariants as cert
use Rattle.ygg_certify.specs.ygg_cert.Judging.{IsWhole, Judges}
use Rattle.ygg_certify.specs.ygg_cert.Laws.{JudgedOnce}
use Rattle.ygg_certify.specs.FileGoals.{goals_of}
use Rattle.ygg_certify.specs.Checking.{Checks, checked_line}
use Rattle.ygg_top.specs.ygg_top_command.Refusing.{IsLayerFile}
use Rattle.ygg_top.proofs.Shown.{file_stands, one_file, same_bytes}
use Rattle.ygg_top.specs.Checking.{ChecksStored, ChecksFor}
use Rattle.ygg_top.specs.Again.{IsCheckedAgain}

module _ (once : JudgedOnce) (kinds : List RuleKind) (f : File) (text : List ℕ) (count : ℕ) (whole : IsWhole (goals_of kinds f) text count) where
  -- nothing else is said of the text
  not_else : (end : CertEnd) → (end ≡ cert.Memory → ⊥) → Judges (goals_of kinds f) text end → cert.Checked count ≡ end
  not_else end some judged = once (goals_of kinds f) text (cert.Checked count) end (λ e. absurd (cc e)) some whole judged

  -- so `check` says of it that it is checked
  only : (status : Status) (line : List ℕ) → Checks kinds f text status line → (status ≡ Done) × (line ≡ checked_line (length (claims_of f)))
  only Done line checks = (refl, checks.text_is ∙ ap checked_line checks.all)
  only Refuted line checks =
      let other = not_else (cert.Bad checks.name checks.number) (λ e. absurd (cc e)) checks.bad in absurd (cc other)
  only Refused line checks =
      let other = not_else (cert.Refused checks.refusal) (λ e. absurd (cc e)) checks.refuses in absurd (cc other)
  only Undecided line checks = absurd checks
  only Fault line checks = absurd checks
  only NoMemory line checks = absurd checks

  -- in each library in which it stands beside the file
  pub checked_again : IsCheckedAgain kinds f text
  checked_again small bytes is files file certificate at_file at_certificate status line does =
      by_file (subst (λ (o : Option (List ℕ)). ChecksFor kinds (Some files) certificate o status line) (does.1 ∙ at_file) does.2)
    where
      by_text : (found : List ℕ) → found ≡ text → Checks kinds f found status line → (status ≡ Done) × (line ≡ checked_line (length (claims_of f)))
      by_text found same checks = only status line (subst (λ (bs : List ℕ). Checks kinds f bs status line) same checks)

      by_certificate : ChecksStored kinds f (Some text) status line → (status ≡ Done) × (line ≡ checked_line (length (claims_of f)))
      by_certificate (inl unread) = let large = unread.1.0 in absurd (omega (arith, large, small))
      by_certificate (inr read) = by_text read.0 (same_bytes read.0 text (sym read.1)) read.3

      by_layers : (g : File) → g ≡ f → (kept : Option (List ℕ)) → kept ≡ Some text → ChecksStored kinds g kept status line →
          (status ≡ Done) × (line ≡ checked_line (length (claims_of f)))
      by_layers g same kept stands stored =
          by_certificate (subst (λ (h : File). ChecksStored kinds h (Some text) status line) same
          (subst (λ (o : Option (List ℕ)). ChecksStored kinds g o status line) stands stored))

      by_file : ChecksFor kinds (Some files) certificate (Some bytes) status line → (status ≡ Done) × (line ≡ checked_line (length (claims_of f)))
      by_file (inl refused) = absurd (file_stands bytes f refused.0 is refused.1)
      by_file (inr read) =
          let other : read.0 ≡ bytes = same_bytes read.0 bytes (sym read.2) in
          let again : IsLayerFile bytes read.1 = subst (λ (bs : List ℕ). IsLayerFile bs read.1) other read.3 in
          by_layers read.1 (one_file bytes f read.1 is again) read.4.0 (read.4.1 ∙ at_certificate) read.4.2
