-- From what certifying leaves open to what `verify` prints of it.
use Rattle.std.proofs.Common.{◌≡◌, ◌⊎◌, inl, inr, ◌<◌, ◌+◌, ℕ, suc, Bool, true, false, ◌||◌, if◌then◌else◌, refl, sym, ap, ◌∙◌, subst, arith}
use Rattle.std.proofs.Common.{List, [], ◌∷◌, ◌++◌, map, length, drop, get_or, append_assoc, Option, Some, None}
use Rattle.std.specs.Prelude.{All, MatchOption, IfSome, is_some, option_map}
use Rattle.std.proofs.lemmas.List.{drop_more, length-map}
use Rattle.std.proofs.lemmas.List.Concat.{flat_map-cons}
use Rattle.std.proofs.lemmas.List.Elements.{All-nil, All-cons}
use Rattle.ygg_base.specs.declared.status.Status.{Status}
use Rattle.ygg_base.specs.declared.status.Status.TheVariants.{Done, Refuted, Undecided}
use Rattle.ygg_syntax.specs.declared.tree.File.{File}
use Rattle.ygg_top.specs.ygg_rules.declared.rule.RuleKind.{RuleKind}
use Rattle.ygg_top.specs.ygg_meaning.Claims.{Claim, claims_of}
use Rattle.ygg_certify.specs.ygg_bank.Nodes.{IsBank}
use Rattle.ygg_certify.specs.ygg_bank.declared.node.Id.{Id}
use Rattle.ygg_certify.specs.ygg_bank.declared.node.Node.{Node}
use Rattle.ygg_certify.specs.ygg_cnf.declared.lit.Lit.{Lit}
use Rattle.ygg_certify.specs.ygg_cnf.declared.log.Step.{Step}
use Rattle.ygg_certify.specs.ygg_cnf.Literals.{SatisfiesAll}
use Rattle.ygg_certify.specs.ygg_cnf.Logs.{Refutes}
use Rattle.ygg_certify.specs.ygg_gates.Groups.{translated}
use Rattle.ygg_certify.specs.ygg_gates.Laws.{SatisfiableExactly}
use Rattle.ygg_certify.specs.ygg_decide.Deciding.{IsNeverZero}
use Rattle.ygg_certify.specs.ygg_oblige_laws.Terms.{file_made}
use Rattle.ygg_certify.specs.ygg_oblige_laws.Meaning.{IsTermOf, AreTermsOf, claim_name}
use Rattle.ygg_certify.specs.ygg_report.Lines.{undecided_line, verified_line}
use Rattle.ygg_certify.specs.ygg_report.Tallies.{finds_spent}
use Rattle.ygg_certify.specs.ygg_report.declared.verdict.Verdict as report
use Rattle.ygg_certify.specs.declared.finding.Outcome.{Outcome}
use Rattle.ygg_certify.specs.declared.finding.Outcome.TheVariants.{Holds, Fails, Spent}
use Rattle.ygg_certify.specs.declared.finding.Finding.{Finding}
use Rattle.ygg_certify.specs.Findings.{IsOutcome, HasLog, IsHeld}
use Rattle.ygg_certify.specs.Certifying.{AreFound, IsOpen}
use Rattle.ygg_top.specs.declared.verdict.Refutation.{Refutation}
use Rattle.ygg_top.specs.Verdict.{Verified}
use Rattle.ygg_top.specs.Findings as verdicts
use Rattle.ygg_top.specs.Findings.{Init, Obligation, names_in, terms_in}
use Rattle.ygg_top.specs.Findings.{IsZeroAt, IsFirst, IsFitting, IsReported, IsRefuting, IsEnd, found_lines, any_of, first_failed}
use Rattle.ygg_top.proofs.Judging.{names_of}
use Rattle.ygg_top.proofs.Verdicts.{Proper}
use Rattle.ygg_top.proofs.Shown.{OnReplays}
use Rattle.ygg_top.proofs.Reporting.{kept_fits, ended_so}
use Rattle.ygg_top.specs.Certifying.{CertifiesFile}
use Rattle.ygg_top.specs.CertifiedFindings.{
  reported_of,
  env_of,
  has_spent,
  line_of,
  lines_found,
  names_found,
  refutation_or,
  refutation_from,
  any_spent_on,
  summary_of,
}

-- the laws on logs that refute a term's clauses
pub record OnLogs : Type 0 where
  pub sound : (clauses : List (List Lit)) (log : List Step) (value : ℕ → Bool) → Refutes clauses log → SatisfiesAll value clauses → ⊥
  pub exact : SatisfiableExactly

-- the lines from a place on
pub lines_from : (budget : ℕ) (fs : List Finding) (i : ℕ) (f : Finding) (text longer one : List ℕ) → i < length fs → f ≡ get_or fs i f →
    text ++ lines_found budget (drop i fs) ≡ lines_found budget fs → one ≡ line_of budget f → longer ≡ text ++ one →
    longer ++ lines_found budget (drop (i + 1) fs) ≡ lines_found budget fs
lines_from budget fs i f text longer one within here so_far is more =
    let rest = lines_found budget (drop (i + 1) fs) in
    let begins : lines_found budget (drop i fs) ≡ line_of budget f ++ rest =
    ap (lines_found budget) (drop_more fs i f within) ∙ flat_map-cons (line_of budget) (get_or fs i f) (drop (i + 1) fs)
    ∙ ap (λ (x : Finding). line_of budget x ++ rest) (sym here) in
    ap (λ (ls : List ℕ). ls ++ rest) (more ∙ ap (λ (ls : List ℕ). text ++ ls) is) ∙ append_assoc text (line_of budget f) rest
    ∙ ap (λ (ls : List ℕ). text ++ ls) (sym begins) ∙ so_far

-- the first refutation from a place on
pub refuted_from : (fs : List Finding) (i : ℕ) (f : Finding) → i < length fs → f ≡ get_or fs i f →
    refutation_from 0 fs ≡ refutation_from i (drop i fs) → refutation_from 0 fs ≡ refutation_or (env_of f.outcome) i (refutation_from (i + 1) (drop (i + 1) fs))
refuted_from fs i f within here so_far =
    so_far ∙ ap (refutation_from i) (drop_more fs i f within)
    ∙ ap (λ (x : Finding). refutation_or (env_of x.outcome) i (refutation_from (i + 1) (drop (i + 1) fs))) (sym here)

-- where none fails and not all hold, the budget was spent on one
spent_one : (place : ℕ) (fs : List Finding) → refutation_from place fs ≡ None → (All IsHeld fs → ⊥) → any_spent_on fs ≡ true
spent_one place [] none still = absurd (still (All-nil IsHeld))
spent_one place (f ∷ fs) none still =
    by f.outcome none (λ log held. still (All-cons IsHeld f fs log held)) (λ others open_others. spent_one (place + 1) fs others open_others)
  where
    by : (x : Outcome) → refutation_or (env_of x) place (refutation_from (place + 1) fs) ≡ None → (HasLog x → All IsHeld fs → ⊥) →
        (refutation_from (place + 1) fs ≡ None → (All IsHeld fs → ⊥) → any_spent_on fs ≡ true) → (has_spent x || any_spent_on fs) ≡ true
    by (Holds log) n h rest = rest n (λ held. h tt held)
    by (Fails env) n h rest = absurd (cc n)
    by Spent n h rest = refl

module _ (kinds : List RuleKind) (f : File) (fs : List Finding) (text : List ℕ) where
  -- what is printed last where one fails
  pub some_end : (r : Refutation) → refutation_from 0 fs ≡ Some r → IsRefuting kinds f (names_found fs) r text →
      IsEnd kinds f (names_found fs) (summary_of fs) Refuted text
  some_end r e is = record {
    status_is = sym (ap (λ (o : Option Refutation). if is_some o then Refuted else if any_spent_on fs then Undecided else Done) e);
    text_is =
        subst (λ (o : Option Refutation). MatchOption o (text ≡ (if any_spent_on fs then undecided_line else verified_line (length (names_found fs))))
        (λ k. IsRefuting kinds f (names_found fs) k text)) (sym e) is;
  }

  -- and where none does
  pub none_end : refutation_from 0 fs ≡ None → (All IsHeld fs → ⊥) → text ≡ undecided_line → IsEnd kinds f (names_found fs) (summary_of fs) Undecided text
  none_end e still is =
      let spent = spent_one 0 fs e still in
      record {
        status_is =
            sym (ap (λ (o : Option Refutation). if is_some o then Refuted else if any_spent_on fs then Undecided else Done) e
            ∙ ap (λ b. if b then Undecided else Done) spent);
        text_is =
            subst (λ (o : Option Refutation). MatchOption o (text ≡ (if any_spent_on fs then undecided_line else verified_line (length (names_found fs))))
            (λ k. IsRefuting kinds f (names_found fs) k text)) (sym e)
            (is ∙ sym (ap (λ b. if b then undecided_line else verified_line (length (names_found fs))) spent));
      }

-- the status of what is left open
two_ends : (o : Option Refutation) (b : Bool) (s : Status) → s ≡ (if is_some o then Refuted else if b then Undecided else Done) → (o ≡ None → b ≡ true) →
    (s ≡ Refuted) ⊎ (s ≡ Undecided)
two_ends (Some r) b s e spent = inl e
two_ends None true s e spent = inr e
two_ends None false s e spent = absurd (let h = spent refl in cc h)

-- obligations with the names of these and the terms
abbrev obligations_by : List Claim → List Id → List Obligation
obligations_by (c ∷ cs) (t ∷ ts) = record { name = claim_name c; layer = 0; kind = Init; number = 0; place = 0; term = t } ∷ obligations_by cs ts
obligations_by _ _ = []

-- what is reported of each
abbrev reported_all : ℕ → List Finding → List report.Verdict
reported_all budget = map (λ (f : Finding). reported_of budget f.outcome)

module _ (nodes : List Node) (budget : ℕ) (bank : IsBank nodes) (laws : OnLogs) where
  terms_by : (cs : List Claim) (ts : List Id) → AreTermsOf nodes cs ts → terms_in (obligations_by cs ts) ≡ ts
  terms_by [] [] mean = refl
  terms_by [] (t ∷ ts) mean = absurd mean
  terms_by (c ∷ cs) [] mean = absurd mean
  terms_by (c ∷ cs) (t ∷ ts) mean = ap (λ (us : List Id). t ∷ us) (terms_by cs ts mean.1)

  names_by : (cs : List Claim) (ts : List Id) → AreTermsOf nodes cs ts → names_in (obligations_by cs ts) ≡ names_of cs
  names_by [] [] mean = refl
  names_by [] (t ∷ ts) mean = absurd mean
  names_by (c ∷ cs) [] mean = absurd mean
  names_by (c ∷ cs) (t ∷ ts) mean = ap (λ (ns : List (List ℕ)). claim_name c ∷ ns) (names_by cs ts mean.1)

  -- what was found has the names
  names_are : (names : List (List ℕ)) (ts : List Id) (fs : List Finding) → AreFound nodes budget names ts fs → names_found fs ≡ names
  names_are [] [] [] found = refl
  names_are [] [] (f ∷ fs) found = absurd found
  names_are [] (t ∷ ts) fs found = absurd found
  names_are (n ∷ names) [] fs found = absurd found
  names_are (n ∷ names) (t ∷ ts) [] found = absurd found
  names_are (n ∷ names) (t ∷ ts) (f ∷ fs) found =
      ap (λ (m : List ℕ). m ∷ names_found fs) found.0.named ∙ ap (λ (ns : List (List ℕ)). n ∷ ns) (names_are names ts fs found.1)

  -- a true verdict
  found_one : (c : Claim) (t : Id) (x : Outcome) → IsTermOf nodes c t → IsOutcome nodes t budget x → verdicts.IsFound nodes t budget (reported_of budget x)
  found_one c t (Holds log) term is = never
    where
      never : IsNeverZero nodes t
      never env zero = let s = (laws.exact nodes t bank term.wide).1 (env, zero) in laws.sound (translated nodes t).clauses log s.0 is.0 s.1
  found_one c t (Fails env) term is = (env, is)
  found_one c t Spent term is = (refl, is)

  found_all : (cs : List Claim) (ts : List Id) (fs : List Finding) → AreTermsOf nodes cs ts → AreFound nodes budget (map claim_name cs) ts fs →
      verdicts.AreFound nodes budget ts (reported_all budget fs)
  found_all [] [] [] mean found = tt
  found_all [] [] (f ∷ fs) mean found = absurd found
  found_all [] (t ∷ ts) fs mean found = absurd mean
  found_all (c ∷ cs) [] fs mean found = absurd mean
  found_all (c ∷ cs) (t ∷ ts) [] mean found = absurd found
  found_all (c ∷ cs) (t ∷ ts) (f ∷ fs) mean found = (found_one c t f.outcome mean.0 found.0.found, found_all cs ts fs mean.1 found.1)

  -- the first refutation from a place on is one of the first obligation that was found to fail
  abbrev IsFrom : ℕ → List Obligation → Option ℕ → Option Refutation → Type 0
  IsFrom place os None None = Unit {0}
  IsFrom place os (Some n) (Some r) = (r.place ≡ place + n) × IsZeroAt nodes os n r.env
  IsFrom place os None (Some r) = ⊥
  IsFrom place os (Some n) None = ⊥

  later : (place : ℕ) (o : Obligation) (os : List Obligation) (n : Option ℕ) (known : Option Refutation) → IsFrom (place + 1) os n known →
      IsFrom place (o ∷ os) (option_map suc n) known
  later place o os None None is = tt
  later place o os (Some n) (Some r) is =
      ((let e = is.0 in omega (arith, e)), record { obligation = is.1.obligation; there = is.1.there; zero = is.1.zero })
  later place o os None (Some r) is = absurd is
  later place o os (Some n) None is = absurd is

  first_from : (place : ℕ) (cs : List Claim) (ts : List Id) (fs : List Finding) → AreTermsOf nodes cs ts → AreFound nodes budget (map claim_name cs) ts fs →
      IsFrom place (obligations_by cs ts) (first_failed (reported_all budget fs)) (refutation_from place fs)
  first_from place [] [] [] mean found = tt
  first_from place [] [] (f ∷ fs) mean found = absurd found
  first_from place [] (t ∷ ts) fs mean found = absurd mean
  first_from place (c ∷ cs) [] fs mean found = absurd mean
  first_from place (c ∷ cs) (t ∷ ts) [] mean found = absurd found
  first_from place (c ∷ cs) (t ∷ ts) (f ∷ fs) mean found = by f.outcome found.0.found (first_from (place + 1) cs ts fs mean.1 found.1)
    where
      o : Obligation
      o = record { name = claim_name c; layer = 0; kind = Init; number = 0; place = 0; term = t }

      os : List Obligation
      os = obligations_by cs ts

      by : (x : Outcome) → IsOutcome nodes t budget x → IsFrom (place + 1) os (first_failed (reported_all budget fs)) (refutation_from (place + 1) fs) →
          IsFrom place (o ∷ os) (first_failed (reported_of budget x ∷ reported_all budget fs)) (refutation_or (env_of x) place (refutation_from (place + 1) fs))
      by (Holds log) is rest = later place o os (first_failed (reported_all budget fs)) (refutation_from (place + 1) fs) rest
      by (Fails env) is rest = (omega arith, record { obligation = o; there = refl; zero = is })
      by Spent is rest = later place o os (first_failed (reported_all budget fs)) (refutation_from (place + 1) fs) rest

  from_first : (os : List Obligation) (n : Option ℕ) (known : Option Refutation) → IsFrom 0 os n known → IsFirst nodes os n known
  from_first os None None is = tt
  from_first os (Some n) (Some r) is = ((let e = is.0 in omega (arith, e)), is.1)
  from_first os None (Some r) is = absurd is
  from_first os (Some n) None is = absurd is

  spent_all : (fs : List Finding) → any_spent_on fs ≡ any_of finds_spent (reported_all budget fs)
  spent_all [] = refl
  spent_all (f ∷ fs) = by f.outcome (spent_all fs)
    where
      by : (x : Outcome) → any_spent_on fs ≡ any_of finds_spent (reported_all budget fs) →
          (has_spent x || any_spent_on fs) ≡ (finds_spent (reported_of budget x) || any_of finds_spent (reported_all budget fs))
      by (Holds log) rest = rest
      by (Fails env) rest = rest
      by Spent rest = refl

  -- the lines are those of the verdicts
  lines_by : (fs : List Finding) → found_lines (names_found fs) (reported_all budget fs) ≡ lines_found budget fs
  lines_by [] = refl
  lines_by (f ∷ fs) = ap (λ (ls : List ℕ). line_of budget f ++ ls) (lines_by fs) ∙ sym (flat_map-cons (line_of budget) f fs)

  each_found : (cs : List Claim) (ts : List Id) (fs : List Finding) → AreTermsOf nodes cs ts → AreFound nodes budget (map claim_name cs) ts fs →
      length (reported_all budget fs) ≡ length (obligations_by cs ts)
  each_found [] [] [] mean found = refl
  each_found [] [] (f ∷ fs) mean found = absurd found
  each_found [] (t ∷ ts) fs mean found = absurd mean
  each_found (c ∷ cs) [] fs mean found = absurd mean
  each_found (c ∷ cs) (t ∷ ts) [] mean found = absurd found
  each_found (c ∷ cs) (t ∷ ts) (f ∷ fs) mean found = ap suc (each_found cs ts fs mean.1 found.1)

-- what is left open of a file
module _ (kinds : List RuleKind) (f : File) (budget : ℕ) (p : Proper f) (q : OnReplays) (laws : OnLogs) (fs : List Finding)
    (still : IsOpen kinds f budget fs) where
  abbrev nodes : List Node
  nodes = (file_made kinds f []).nodes

  abbrev cs : List Claim
  cs = claims_of f

  abbrev terms : List Id
  terms = (file_made kinds f []).value

  abbrev all : List Obligation
  all = obligations_by cs terms

  terms_are : terms_in all ≡ terms
  terms_are = terms_by nodes budget still.bank laws cs terms still.mean

  names_all : names_in all ≡ names_of cs
  names_all = names_by nodes budget still.bank laws cs terms still.mean

  mean : AreTermsOf nodes cs (terms_in all)
  mean = subst (λ (ts : List Id). AreTermsOf nodes cs ts) (sym terms_are) still.mean

  first : IsFirst nodes all (first_failed (reported_all budget fs)) (refutation_from 0 fs)
  first =
      from_first nodes budget still.bank laws all (first_failed (reported_all budget fs)) (refutation_from 0 fs)
      (first_from nodes budget still.bank laws 0 cs terms fs still.mean still.found)

  abbrev reported : IsReported nodes budget all None None (length all) (summary_of fs)
  reported = record {
    found = reported_all budget fs;
    counted = each_found nodes budget still.bank laws cs terms fs still.mean still.found;
    are =
        subst (λ (ts : List Id). verdicts.AreFound nodes budget ts (reported_all budget fs)) (sym terms_are)
        (found_all nodes budget still.bank laws cs terms fs still.mean still.found);
    put = tt;
    failed = first;
    spent = spent_all nodes budget still.bank laws fs;
  }

  -- there are as many as the file has obligations
  pub as_many_found : length fs ≡ length cs
  as_many_found =
      sym (length-map fs (λ (x : Finding). x.name)) ∙ ap length (names_are nodes budget still.bank laws (map claim_name cs) terms fs still.found)
      ∙ length-map cs claim_name

  -- the environment of the first refutation gives each input a word of its width
  pub found_fits : IfSome (refutation_from 0 fs) (IsFitting kinds f)
  found_fits = kept_fits kinds f nodes all (first_failed (reported_all budget fs)) (refutation_from 0 fs) first still.bank refl

  -- what is printed is what `verify` prints
  pub opened_so : (status : Status) (last : List ℕ) → IsEnd kinds f (names_found fs) (summary_of fs) status last →
      CertifiesFile kinds f budget status (lines_found budget fs ++ last)
  opened_so status last end = to (two_ends (refutation_from 0 fs) (any_spent_on fs) status end.status_is (λ none. spent_one 0 fs none still.open_one))
    where
      names_same : names_found fs ≡ names_in all
      names_same = names_are nodes budget still.bank laws (map claim_name cs) terms fs still.found ∙ sym names_all

      lines_same : found_lines (names_in all) (reported_all budget fs) ≡ lines_found budget fs
      lines_same =
          ap (λ (ns : List (List ℕ)). found_lines ns (reported_all budget fs)) (sym names_same) ∙ lines_by nodes budget still.bank laws fs

      verified : Verified kinds f budget status (lines_found budget fs ++ last)
      verified =
          subst (λ (ls : List ℕ). Verified kinds f budget status (ls ++ last)) lines_same
          (ended_so kinds f budget p q still.bank all terms_are names_all mean None None (summary_of fs) reported status last
          (subst (λ (ns : List (List ℕ)). IsEnd kinds f ns (summary_of fs) status last) names_same end))

      to : (status ≡ Refuted) ⊎ (status ≡ Undecided) → CertifiesFile kinds f budget status (lines_found budget fs ++ last)
      to (inl e) =
          subst (λ (s : Status). CertifiesFile kinds f budget s (lines_found budget fs ++ last)) (sym e)
          (subst (λ (s : Status). Verified kinds f budget s (lines_found budget fs ++ last)) e verified)
      to (inr e) =
          subst (λ (s : Status). CertifiesFile kinds f budget s (lines_found budget fs ++ last)) (sym e)
          (subst (λ (s : Status). Verified kinds f budget s (lines_found budget fs ++ last)) e verified)
