-- How `certify` ends, and what the sink has taken by then.
use Rattle.std.proofs.Common.{◌≡◌, inl, inr, ◌≤◌, ◌<◌, ℕ, List, Option, Some, refl, sym, subst, arith}
use Rattle.ygg_base.specs.declared.lists.Held.{Held}
use Rattle.ygg_base.specs.declared.status.Status.{Status}
use Rattle.ygg_base.specs.declared.status.Status.TheVariants.{Done, Refuted, Refused, Undecided, Fault, NoMemory}
use Rattle.ygg_base.specs.Outside.{Rose}
use Rattle.ygg_syntax.specs.declared.tree.File.{File}
use Rattle.ygg_top.specs.ygg_rules.declared.rule.RuleKind.{RuleKind}
use Rattle.ygg_certify.specs.ygg_report.Putting.{Adds, IsCutOf, IsPutSo, Puts}
use Rattle.ygg_certify.specs.ygg_cert.Laws.{JudgedOnce}
use Rattle.ygg_certify.specs.Certifying.{Certifies}
use Rattle.ygg_top.specs.ygg_top_command.Fetched.{StandsFile}
use Rattle.ygg_top.specs.ygg_top_command.Reports.{Told}
use Rattle.ygg_top.specs.ygg_top_command.Standing.{DoesWith, DoesWithin}
use Rattle.ygg_top.specs.ygg_top_command.Words.{IsBudget}
use Rattle.ygg_top.proofs.of_ygg_top_command.Telling.{puts_told, told_to}
use Rattle.ygg_top.specs.Certifying.{CertifiesFile, Certified, IsCutCertificate, IsCutCertifying, PutsOnce}
use Rattle.ygg_top.proofs.Again.{checked_again}

module _ (once : JudgedOnce) (kinds : List RuleKind) (f : File) (budget : ℕ) where
  abbrev Ended : Status → List ℕ → Type 0
  Ended = CertifiesFile kinds f budget

  -- a certificate of the file is one that `check` accepts
  certificate_ends : (status : Status) (text : List ℕ) → Certifies kinds f status text → Ended status text
  certificate_ends status text is =
      subst (λ (s : Status). Ended s text) (sym is.0) (is.1, checked_again once kinds f text _ is.1.checked)

  certificate_cut : (front : List ℕ) → IsCutOf (Certifies kinds f) front → IsCutOf Ended front
  certificate_cut front c = (c.0, c.1, certificate_ends c.0 c.1 c.2, c.3)

  -- a certificate that was put
  pub certificate_put : (before now : Option (List ℕ)) (SinkRose : Type 0) (result : Status) →
      Puts (Certifies kinds f) (IsCutOf (Certifies kinds f)) before now SinkRose result → Puts Ended (IsCutOf Ended) before now SinkRose result
  certificate_put before now SinkRose Done s = (s.0, certificate_ends Done s.0 s.1, s.2)
  certificate_put before now SinkRose Refuted s = (s.0, certificate_ends Refuted s.0 s.1, s.2)
  certificate_put before now SinkRose Undecided s = (s.0, certificate_ends Undecided s.0 s.1, s.2)
  certificate_put before now SinkRose Refused s = absurd s
  certificate_put before now SinkRose Fault s = (s.0, s.1, certificate_cut s.1 s.2, s.3)
  certificate_put before now SinkRose NoMemory (inl same) = inl same
  certificate_put before now SinkRose NoMemory (inr s) = inr (s.0, certificate_cut s.0 s.1, s.2)

module _ (kinds : List RuleKind) (f : File) (budget : ℕ) where
  abbrev Ending : Status → List ℕ → Type 0
  Ending = CertifiesFile kinds f budget

  module _ (before now : Option (List ℕ)) (SinkRose : Type 0) where
    whole : (status : Status) (text : List ℕ) → Ending status text → Adds before text now → Puts Ending (IsCutOf Ending) before now SinkRose status
    whole Done text is adds = (text, is, adds)
    whole Refuted text is adds = (text, is, adds)
    whole Undecided text is adds = (text, is, adds)
    whole Refused text is adds = absurd is
    whole Fault text is adds = absurd is
    whole NoMemory text is adds = absurd is

    put_so : (status : Status) (text : List ℕ) (result : Status) → Ending status text → IsPutSo before now text status SinkRose result →
        Puts Ending (IsCutOf Ending) before now SinkRose result
    put_so status text result is (inl put) =
        subst (λ (s : Status). Puts Ending (IsCutOf Ending) before now SinkRose s) (sym put.0) (whole status text is put.1)
    put_so status text result is (inr fault) =
        subst (λ (s : Status). Puts Ending (IsCutOf Ending) before now SinkRose s) (sym fault.0)
        (fault.1, fault.2, (status, text, is, fault.3), fault.4)

    once_put : (result : Status) → PutsOnce Ending before now SinkRose result → Puts Ending (IsCutOf Ending) before now SinkRose result
    once_put result (inl put) = put_so put.0 put.1 result put.2 put.3
    once_put result (inr want) = subst (λ (s : Status). Puts Ending (IsCutOf Ending) before now SinkRose s) (sym want.0) (inl want.1)

  since : (before now : Option (List ℕ)) (Later Since : Type 0) (result : Status) → (Later → Since) → PutsOnce Ending before now Later result →
      PutsOnce Ending before now Since result
  since before now Later Since result to (inl put) = inl (put.0, put.1, put.2, rises put.3)
    where
      rises : IsPutSo before now put.1 put.0 Later result → IsPutSo before now put.1 put.0 Since result
      rises (inl is_whole) = inl is_whole
      rises (inr fault) = inr (fault.0, to fault.1, fault.2, fault.3, fault.4)
  since before now Later Since result to (inr want) = inr want

  -- what was left open, put after nothing was
  pub opened_put : (before middle now : Option (List ℕ)) (a b c : ℕ) (result : Status) → middle ≡ before → a ≤ b →
      PutsOnce Ending middle now (Rose b c) result → Puts Ending (IsCutOf Ending) before now (Rose a c) result
  opened_put before middle now a b c result same l put =
      once_put before now (Rose a c) result
      (since before now (Rose b c) (Rose a c) result (λ r. omega (arith, l, r))
      (subst (λ (m : Option (List ℕ)). PutsOnce Ending m now (Rose b c) result) same put))

-- a front of what one command prints, and so of another
cut_to : (kinds : List RuleKind) (Does Other : Status → List ℕ → Type 0) (front : List ℕ) →
    ((status : Status) (text : List ℕ) → Does status text → Other status text) → IsCutCertifying kinds Does front → IsCutCertifying kinds Other front
cut_to kinds Does Other front to cut = record {
  file = cut.file;
  budget = cut.budget;
  does = (cut.does.0, λ status text ended. to status text (cut.does.1 status text ended));
  cut = cut.cut;
}

module _ (kinds : List RuleKind) (files : Option (List Held)) (name : List ℕ) (before now : Option (List ℕ)) (LibraryRose SinkRose : Type 0)
    (result : Status) where
  -- the file that stands there is certified
  pub file_told : (f : File) (budget : ℕ) → 0 < budget → StandsFile files name f →
      Puts (CertifiesFile kinds f budget) (IsCutCertificate kinds f budget) before now SinkRose result →
      Told (DoesWith (Certified kinds budget) files name) (IsCutCertifying kinds (DoesWith (Certified kinds budget) files name)) before now LibraryRose SinkRose
      result
  file_told f budget positive stands put =
      puts_told (DoesWith (Certified kinds budget) files name) (IsCutCertifying kinds (DoesWith (Certified kinds budget) files name)) before now LibraryRose
      SinkRose result (CertifiesFile kinds f budget) (IsCutCertificate kinds f budget) ends
      (λ front cut. record { file = f; budget = budget; does = (positive, ends); cut = cut }) put
    where
      ends : (status : Status) (text : List ℕ) → CertifiesFile kinds f budget status text → DoesWith (Certified kinds budget) files name status text
      ends status text ended = (Some stands.0, stands.1, inr (stands.0, f, refl, stands.2, ended))

  -- it is certified within the budget that a word is
  pub within_told : (word : List ℕ) (budget : ℕ) → IsBudget word budget →
      Told (DoesWith (Certified kinds budget) files name) (IsCutCertifying kinds (DoesWith (Certified kinds budget) files name)) before now LibraryRose SinkRose
      result →
      Told (DoesWithin (Certified kinds) files name word) (IsCutCertifying kinds (DoesWithin (Certified kinds) files name word)) before now LibraryRose SinkRose
      result
  within_told word budget is told =
      let Does = DoesWith (Certified kinds budget) files name in
      let Other = DoesWithin (Certified kinds) files name word in
      let to : (status : Status) (text : List ℕ) → Does status text → Other status text = λ status text does. inl (budget, is, does) in
      told_to Does Other (IsCutCertifying kinds Does) (IsCutCertifying kinds Other) before now LibraryRose LibraryRose SinkRose result to
      (λ front cut. cut_to kinds Does Other front to cut) (λ rose. rose) told
