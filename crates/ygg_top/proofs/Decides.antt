-- From what was found of one obligation to what `decide` does.
use Rattle.std.proofs.Common.{◌≡◌, ℕ, Bool, true, false, if◌then◌else◌, List, [], ◌∷◌, ◌++◌, Option, Some, None, inl, inr, refl, sym, ap, ◌∙◌, subst}
use Rattle.std.proofs.lemmas.List.{append-nil}
use Rattle.std.specs.Prelude.{MatchOption, slice_get}
use Rattle.ygg_base.specs.declared.failure.Refusal.{Refusal}
use Rattle.ygg_base.specs.declared.lists.Held.{Held}
use Rattle.ygg_base.specs.declared.reason.Reason.TheVariants as reason
use Rattle.ygg_base.specs.declared.status.Status.{Status}
use Rattle.ygg_base.specs.declared.status.Status.TheVariants.{Done, Refuted, Refused, Undecided}
use Rattle.ygg_base.specs.Reason.{refusal_at}
use Rattle.ygg_syntax.specs.declared.tree.File.{File}
use Rattle.ygg_oblige_reading.specs.ygg_rules.declared.rule.RuleKind.{RuleKind}
use Rattle.ygg_yard.specs.ygg_meaning.Claims.{Claim, claims_of}
use Rattle.ygg_certify.specs.ygg_bank.Nodes.{IsBank}
use Rattle.ygg_certify.specs.ygg_bank.declared.env.Given.{Given}
use Rattle.ygg_certify.specs.ygg_bank.declared.node.Id.{Id}
use Rattle.ygg_certify.specs.ygg_bank.declared.node.Node.{Node}
use Rattle.ygg_certify.specs.ygg_oblige_laws.Terms.{file_made}
use Rattle.ygg_certify.specs.ygg_oblige_laws.Meaning.{AreTermsOf, claim_name}
use Rattle.ygg_certify.proofs.Deciding.{never_zero_holds}
use Rattle.ygg_oblige_reading.specs.Obligations.{terms_in, names_in}
use Rattle.ygg_oblige_reading.specs.Obligation.{Obligation}
use Rattle.ygg_top.specs.ygg_report.Lines.{refused_line, verdict_line}
use Rattle.ygg_top.specs.ygg_report.declared.verdict.Verdict as report
use Rattle.ygg_top.specs.ygg_report.declared.verdict.Verdict.TheVariants as reports
use Rattle.ygg_top.specs.ygg_top_command.declared.stopping.CommandStop.{CommandStop}
use Rattle.ygg_top.specs.ygg_top_command.declared.stopping.CommandStop.TheVariants as stop
use Rattle.ygg_top.specs.ygg_top_command.Fetched.{StandsFile}
use Rattle.ygg_top.specs.ygg_top_command.Refusing.{RefusesFile}
use Rattle.ygg_top.specs.ygg_top_command.Reports.{IsDoneWith, MayStop}
use Rattle.ygg_top.specs.ygg_top_command.Words.{IsBudget}
use Rattle.ygg_top.specs.Deciding.{Decides, DecidesStored, DecidesNamed, DecidesWithin, IsDecided, IsDecision, IsThirdBudgetless, status_found}
use Rattle.ygg_top.specs.Findings.{IsFound, IsKept, IsRefutingBy, IsZeroAt}
use Rattle.ygg_top.specs.Printed.{IsNamed}
use Rattle.ygg_top.specs.Verdict.{Verdict, Holds, Fails, Spent, IsTrue, IsViolation, IsRefutation, first_refuted, lines_of, refutation, status_by}
use Rattle.ygg_top.specs.Verdict.{any_failed, any_spent}
use Rattle.ygg_top.proofs.Judging.{names_of}
use Rattle.ygg_top.proofs.Placed.{IsAt, is_at}
use Rattle.ygg_top.proofs.Reporting.{refutes, same_claim, violating}
use Rattle.ygg_top.proofs.Shown.{OnReplays}
use Rattle.ygg_top.proofs.Verdicts.{Proper}

module _ (kinds : List RuleKind) (f : File) (budget : ℕ) (p : Proper f) (q : OnReplays) (bank : IsBank (file_made kinds f []).nodes) (all : List Obligation)
    (terms_are : terms_in all ≡ (file_made kinds f []).value) (names_are : names_in all ≡ names_of (claims_of f))
    (mean : AreTermsOf (file_made kinds f []).nodes (claims_of f) (terms_in all)) (place : ℕ) (o : Obligation) (there : slice_get all place ≡ Some o) where
  abbrev nodes : List Node
  nodes = (file_made kinds f []).nodes

  abbrev cs : List Claim
  cs = claims_of f

  -- the obligation that it is
  it : IsAt nodes cs (terms_in all) place o.name o.term
  it = is_at nodes cs all place o o.name names_are mean there refl

  -- a true verdict on it
  by_verdict : (v : Verdict) (status : Status) (text : List ℕ) → IsTrue nodes budget it.claim o.term v → status ≡ status_by (v ∷ []) →
      text ≡ lines_of budget (it.claim ∷ []) (v ∷ []) ++ first_refuted f (it.claim ∷ []) (v ∷ []) →
      (status ≡ Refuted → IsRefutation f cs (first_refuted f (it.claim ∷ []) (v ∷ []))) → IsDecision kinds f budget o.name status text
  by_verdict v status text is_true s t refuted = record {
    place = place;
    claim = it.claim;
    term = o.term;
    stands = it.stands;
    named = it.named;
    means = ap (λ (ts : List Id). slice_get ts place) (sym terms_are) ∙ it.means;
    verdict = v;
    is_true = is_true;
    status_is = s;
    text_is = t;
    refuted = refuted;
  }

  -- its line, and what stands behind it
  text_is : (w : report.Verdict) (last first text : List ℕ) → text ≡ verdict_line w o.name ++ last → last ≡ first →
      text ≡ (verdict_line w (claim_name it.claim) ++ []) ++ first
  text_is w last first text t same =
      t ∙ ap (λ (ls : List ℕ). verdict_line w o.name ++ ls) same ∙ ap (λ (n : List ℕ). verdict_line w n ++ first) (sym it.named)
      ∙ ap (λ (ls : List ℕ). ls ++ first) (sym (append-nil (verdict_line w (claim_name it.claim))))

  not_refuted : (status other : Status) (P : Type 0) → status ≡ other → (other ≡ Refuted → ⊥) → status ≡ Refuted → P
  not_refuted status other P s differs r = absurd (differs (sym s ∙ r))

  found_fails : (env : List Given) (last : List ℕ) (status : Status) (text : List ℕ) → IsKept nodes o.term reports.Fails (Some env) →
      IsRefutingBy kinds f o.name place env last → status ≡ Refuted → text ≡ verdict_line reports.Fails o.name ++ last →
      IsDecision kinds f budget o.name status text
  found_fails env last status text kept e s t =
      let z : IsZeroAt nodes all place env = record { obligation = o; there = there; zero = kept } in
      let same : e.fitted.claim ≡ it.claim = same_claim (slice_get cs place) e.fitted.claim it.claim e.fitted.claim_there it.stands in
      let is_true : IsViolation it.claim e.schedule =
      subst (λ (c : Claim). IsViolation c e.schedule) same
      (violating kinds f budget p q bank all terms_are names_are mean o.name last place env z e) in
      let named : o.name ≡ claim_name e.fitted.claim = sym it.named ∙ ap claim_name (sym same) in
      let printed : last ≡ refutation f (claim_name it.claim) e.schedule =
      e.text_is ∙ ap (λ (n : List ℕ). refutation f n e.schedule) (sym it.named) in
      let refuted : IsRefutation f cs last = refutes kinds f budget p q bank all terms_are names_are mean o.name last place env z e named in
      by_verdict (Fails e.schedule) status text is_true s
      (text_is reports.Fails last (refutation f (claim_name it.claim) e.schedule) text t printed)
      (λ d. subst (IsRefutation f cs) printed refuted)

  found_so : (found : report.Verdict) (env : Option (List Given)) (last : List ℕ) (status : Status) (text : List ℕ) → IsFound nodes o.term budget found →
      IsKept nodes o.term found env → MatchOption env (last ≡ []) (λ e. IsRefutingBy kinds f o.name place e last) → status ≡ status_found found env →
      text ≡ verdict_line found o.name ++ last → IsDecision kinds f budget o.name status text
  found_so reports.Holds None last status text g k e s t =
      by_verdict Holds status text (never_zero_holds nodes it.claim o.term bank it.is g) s (text_is reports.Holds last [] text t e)
      (not_refuted status Done (IsRefutation f cs []) s (λ h. absurd (cc h)))
  found_so reports.Holds (Some env) last status text g k e s t = absurd (cc k)
  found_so reports.Fails None last status text g k e s t = absurd k
  found_so reports.Fails (Some env) last status text g k e s t = found_fails env last status text k e s t
  found_so (reports.Spent count) None last status text g k e s t =
      by_verdict Spent status text g.1 s
      (text_is (reports.Spent budget) last [] text (t ∙ ap (λ (n : ℕ). verdict_line (reports.Spent n) o.name ++ last) g.0) e)
      (not_refuted status Undecided (IsRefutation f cs []) s (λ h. absurd (cc h)))
  found_so (reports.Spent count) (Some env) last status text g k e s t = absurd (cc k)

  pub decided : (end : Status × List ℕ) → IsDecided kinds f nodes budget o.name o.term place end → IsDecision kinds f budget o.name end.0 end.1
  decided end d = found_so d.found d.env d.last end.0 end.1 d.is_found d.kept d.last_is d.status_is d.text_is

-- the same over nodes and a name that are those of the file and the obligation
pub decided_in : (kinds : List RuleKind) (f : File) (budget : ℕ) (p : Proper f) (q : OnReplays) (nodes : List Node) (all : List Obligation) →
    nodes ≡ (file_made kinds f []).nodes → IsBank nodes → terms_in all ≡ (file_made kinds f []).value → names_in all ≡ names_of (claims_of f) →
    AreTermsOf nodes (claims_of f) (terms_in all) → (place : ℕ) (o : Obligation) (name : List ℕ) → slice_get all place ≡ Some o → o.name ≡ name →
    (end : Status × List ℕ) → IsDecided kinds f nodes budget o.name o.term place end → IsDecision kinds f budget name end.0 end.1
decided_in kinds f budget p q nodes all same bank terms names mean place o name there called end d =
    subst (λ (n : List ℕ). IsDecision kinds f budget n end.0 end.1) called
    (decided kinds f budget p q (subst IsBank same bank) all terms names (subst (λ (ns : List Node). AreTermsOf ns (claims_of f) (terms_in all)) same mean)
    place o there end (subst (λ (ns : List Node). IsDecided kinds f ns budget o.name o.term place end) same d))

ended : (fails spends : Bool) → IsDoneWith (if fails then Refuted else if spends then Undecided else Done)
ended true spends = tt
ended false true = tt
ended false false = tt

-- a decision is a whole end
pub decision_ends : (kinds : List RuleKind) (f : File) (budget : ℕ) (name : List ℕ) (status : Status) (text : List ℕ) →
    IsDecision kinds f budget name status text → IsDoneWith status
decision_ends kinds f budget name status text d =
    subst IsDoneWith (sym d.status_is) (ended (any_failed (d.verdict ∷ [])) (any_spent (d.verdict ∷ [])))

-- a name that none has
pub unnamed : (kinds : List RuleKind) (f : File) (budget : ℕ) (name : List ℕ) (at : Refusal) → (IsNamed f name → ⊥) →
    at ≡ refusal_at reason.NoObligation 0 2 → Decides kinds f budget name Refused (refused_line at)
unnamed kinds f budget name at none same = inl (none, (refl, ap refused_line same))

-- a layer file that is refused
pub file_refused : (kinds : List RuleKind) (budget : ℕ) (name : List ℕ) (stored : Option (List ℕ)) (r : Refusal) → RefusesFile stored r →
    DecidesStored kinds budget name stored Refused (refused_line r)
file_refused kinds budget name stored r refuses = inl (r, refuses, (refl, refl))

-- one that is read
pub file_read : (kinds : List RuleKind) (budget : ℕ) (files : Option (List Held)) (file name : List ℕ) (f : File) → StandsFile files file f →
    (status : Status) (text : List ℕ) → Decides kinds f budget name status text → DecidesNamed kinds budget files file name status text
file_read kinds budget files file name f stands status text does = (Some stands.0, stands.1, inr (stands.0, f, refl, stands.2, does))

-- a word for the budget that is none
pub budget_stop : (kinds : List RuleKind) (files : Option (List Held)) (file name word : List ℕ) (LibraryRose : Type 0) (why : CommandStop) →
    IsThirdBudgetless word why → MayStop (DecidesWithin kinds files file name word) LibraryRose why
budget_stop kinds files file name word LibraryRose (stop.Refused r) none = inr (none.0, (refl, ap refused_line none.1))
budget_stop kinds files file name word LibraryRose stop.LibraryFailed none = absurd none
budget_stop kinds files file name word LibraryRose stop.NoMemory none = tt

-- one that is a budget
pub budget_read : (kinds : List RuleKind) (files : Option (List Held)) (file name word : List ℕ) (budget : ℕ) → IsBudget word budget → (status : Status)
    (text : List ℕ) → DecidesNamed kinds budget files file name status text → DecidesWithin kinds files file name word status text
budget_read kinds files file name word budget is status text does = inl (budget, is, does)
