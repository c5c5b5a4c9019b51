-- From what is found of all obligations to the line that counts it.
use Rattle.std.proofs.Common.{
  ◌≡◌,
  ℕ,
  zero,
  suc,
  ◌+◌,
  ◌*◌,
  Bool,
  true,
  false,
  ◌||◌,
  if◌then◌else◌,
  cond,
  List,
  [],
  ◌∷◌,
  length,
  All,
  Option,
  Some,
  None,
  refl,
  sym,
  ap,
  ◌∙◌,
  subst,
  arith,
}
use Rattle.std.specs.Prelude.{is_some, option_map, nat_lt}
use Rattle.std.specs.List.{count_by}
use Rattle.std.proofs.lemmas.List.{length-map}
use Rattle.std.proofs.lemmas.List.Elements.{All-head, All-tail}
use Rattle.std.proofs.lemmas.List.Sums.{sum_by-cons}
use Rattle.std.proofs.lemmas.Bool.{lt-ltb}
use Rattle.ygg_base.specs.declared.status.Status.TheVariants.{Done, Refuted, Undecided}
use Rattle.ygg_syntax.specs.declared.tree.File.{File}
use Rattle.ygg_oblige_reading.specs.ygg_rules.declared.rule.RuleKind.{RuleKind}
use Rattle.ygg_yard.specs.ygg_meaning.Claims.{Claim, ClaimHolds, claims_of}
use Rattle.ygg_yard.specs.ygg_meaning.Stack.{FileRefines}
use Rattle.ygg_certify.specs.ygg_bank.Nodes.{IsBank}
use Rattle.ygg_certify.specs.ygg_bank.declared.node.Id.{Id}
use Rattle.ygg_certify.specs.ygg_bank.declared.node.Node.{Node}
use Rattle.ygg_certify.specs.ygg_oblige_laws.Terms.{file_made}
use Rattle.ygg_certify.specs.ygg_oblige_laws.Meaning.{AreTermsOf}
use Rattle.ygg_oblige_reading.specs.Obligations.{terms_in}
use Rattle.ygg_oblige_reading.specs.Obligation.{Obligation}
use Rattle.ygg_top.specs.ygg_report.Lines.{demo_line}
use Rattle.ygg_top.specs.ygg_report.Tallies.{finds_held, finds_failed, finds_spent, tally_of}
use Rattle.ygg_top.specs.ygg_report.declared.verdict.Tally.{Tally}
use Rattle.ygg_top.specs.ygg_report.declared.verdict.Verdict as report
use Rattle.ygg_top.specs.ygg_report.declared.verdict.Verdict.TheVariants as reports
use Rattle.ygg_sched_names.specs.ygg_replay.Shown.{meant}
use Rattle.ygg_yard.specs.Laws.{HoldsAll}
use Rattle.ygg_top.specs.ygg_top_command.Words.{usual_budget}
use Rattle.ygg_top.specs.Verdict.{Verdict, Holds, Fails, Spent, reported, Counted, AreTrue, any_failed, any_spent, demo_tally}
use Rattle.ygg_top.specs.Findings.{AreFound, any_of, first_failed, status_of_counts}
use Rattle.ygg_top.proofs.Judging.{Whole, whole}
use Rattle.ygg_top.proofs.Verdicts.{Proper}
use Rattle.ygg_top.proofs.Reporting.{writes_in}

counted_more : (b : Bool) (n : ℕ) (c : Bool) → nat_lt 0 n ≡ c → nat_lt 0 (cond b 1 0 + n) ≡ (b || c)
counted_more true n c e = lt-ltb 0 (1 + n) (omega arith)
counted_more false n c e = let same : 0 + n ≡ n = omega arith in ap (nat_lt 0) same ∙ e

-- some are counted where there are some
some_counted : (test : report.Verdict → Bool) (vs : List report.Verdict) → nat_lt 0 (count_by test vs) ≡ any_of test vs
some_counted test [] = refl
some_counted test (v ∷ vs) =
    ap (nat_lt 0) (sum_by-cons (λ (x : report.Verdict). cond (test x) 1 0) v vs)
    ∙ counted_more (test v) (count_by test vs) (any_of test vs) (some_counted test vs)

some_mapped : (o : Option ℕ) → is_some (option_map suc o) ≡ is_some o
some_mapped None = refl
some_mapped (Some n) = refl

-- there is a first that fails where some fail
first_of_some : (vs : List report.Verdict) → any_of finds_failed vs ≡ is_some (first_failed vs)
first_of_some [] = refl
first_of_some (reports.Fails ∷ vs) = refl
first_of_some (reports.Holds ∷ vs) = first_of_some vs ∙ sym (some_mapped (first_failed vs))
first_of_some (reports.Spent count ∷ vs) = first_of_some vs ∙ sym (some_mapped (first_failed vs))

-- each is counted as one of three kinds
each_counted : (vs : List report.Verdict) → count_by finds_held vs + count_by finds_failed vs + count_by finds_spent vs ≡ length vs
each_counted [] = refl
each_counted (v ∷ vs) =
    let held = sum_by-cons (λ (x : report.Verdict). cond (finds_held x) 1 0) v vs in
    let failed = sum_by-cons (λ (x : report.Verdict). cond (finds_failed x) 1 0) v vs in
    let spent = sum_by-cons (λ (x : report.Verdict). cond (finds_spent x) 1 0) v vs in
    let one = one_kind v in
    let more = each_counted vs in omega (arith, held, failed, spent, one, more)
  where
    one_kind : (v : report.Verdict) → cond (finds_held v) 1 0 + cond (finds_failed v) 1 0 + cond (finds_spent v) 1 0 ≡ 1
    one_kind reports.Holds = refl
    one_kind reports.Fails = refl
    one_kind (reports.Spent count) = refl

-- what is not more than 0 is 0
none : (n : ℕ) → nat_lt 0 n ≡ false → n ≡ 0
none zero e = refl
none (suc n) e = let some = lt-ltb 0 (suc n) (omega arith) in absurd (cc (some, e))

-- counts
abbrev tally_with : (obligations holds fails spent : ℕ) → Tally
tally_with obligations holds fails spent = record { obligations = obligations; holds = holds; fails = fails; spent = spent }

-- counts of so many verdicts, none of which fails
counts_are : (obligations holds fails spent number : ℕ) → obligations ≡ 2 * number + 3 → fails ≡ 0 →
    tally_with obligations holds fails spent ≡ demo_tally number holds spent
counts_are obligations holds fails spent number all zero_is =
    ap (λ n. tally_with n holds fails spent) all ∙ ap (λ n. tally_with (2 * number + 3) holds n spent) zero_is

-- where all obligations hold, no true verdict is that one fails
none_fails : (nodes : List Node) (budget : ℕ) (cs : List Claim) (ts : List Id) (vs : List Verdict) → All ClaimHolds cs → AreTrue nodes budget cs ts vs →
    any_failed vs ≡ false
none_fails nodes budget [] [] [] hold t = refl
none_fails nodes budget (c ∷ cs) (t ∷ ts) (Holds ∷ vs) hold all = none_fails nodes budget cs ts vs (All-tail ClaimHolds c cs hold) all.1
none_fails nodes budget (c ∷ cs) (t ∷ ts) (Spent ∷ vs) hold all = none_fails nodes budget cs ts vs (All-tail ClaimHolds c cs hold) all.1
none_fails nodes budget (c ∷ cs) (t ∷ ts) (Fails x ∷ vs) hold all = absurd (All-head ClaimHolds c cs hold (meant c x) all.0.violated)
none_fails nodes budget [] [] (v ∷ vs) hold all = absurd all
none_fails nodes budget [] (t ∷ ts) vs hold all = absurd all
none_fails nodes budget (c ∷ cs) [] vs hold all = absurd all
none_fails nodes budget (c ∷ cs) (t ∷ ts) [] hold all = absurd all

-- there are as many true verdicts as obligations
as_many : (nodes : List Node) (budget : ℕ) (cs : List Claim) (ts : List Id) (vs : List Verdict) → AreTrue nodes budget cs ts vs → length vs ≡ length cs
as_many nodes budget [] [] [] t = refl
as_many nodes budget (c ∷ cs) (t ∷ ts) (v ∷ vs) all = ap suc (as_many nodes budget cs ts vs all.1)
as_many nodes budget [] [] (v ∷ vs) all = absurd all
as_many nodes budget [] (t ∷ ts) vs all = absurd all
as_many nodes budget (c ∷ cs) [] vs all = absurd all
as_many nodes budget (c ∷ cs) (t ∷ ts) [] all = absurd all

module _ (kinds : List RuleKind) (f : File) (number : ℕ) (p : Proper f) (hold : HoldsAll number f) where
  -- what is found of all obligations of a file is counted
  counted : (all : List Obligation) (vs : List report.Verdict) → IsBank (file_made kinds f []).nodes → terms_in all ≡ (file_made kinds f []).value →
      AreTermsOf (file_made kinds f []).nodes (claims_of f) (terms_in all) → AreFound (file_made kinds f []).nodes usual_budget (terms_in all) vs →
      length vs ≡ length all → Counted kinds number f (status_of_counts (tally_of vs)) (demo_line number (tally_of vs))
  counted all vs bank terms mean found each = record {
    hold = hold;
    refines = refines;
    allowed = p.histories f p.derived p.typed refines;
    verdicts = w.verdicts;
    are_true = are_true;
    holds = count_by finds_held vs;
    spent = count_by finds_spent vs;
    each = (let every = each_counted vs in omega (arith, every, many, no_fails));
    tally_is = ap tally_of w.says ∙ tally_is;
    status_is =
        ap (λ b. if b then Refuted else if nat_lt 0 (count_by finds_spent vs) then Undecided else Done) (ap (nat_lt 0) no_fails)
        ∙ ap (λ b. if b then Undecided else Done) spent_is;
    text_is = ap (demo_line number) tally_is;
  } where
    nodes : List Node
    nodes = (file_made kinds f []).nodes

    w : Whole (file_made kinds f []).nodes usual_budget bank (claims_of f) (terms_in all) vs
    w =
        whole (file_made kinds f []).nodes usual_budget bank (claims_of f) (terms_in all) vs mean (writes_in kinds f p all bank terms mean) found
        (each ∙ sym (length-map all (λ (o : Obligation). o.term)))

    are_true : AreTrue (file_made kinds f []).nodes usual_budget (claims_of f) (file_made kinds f []).value w.verdicts
    are_true = subst (λ (ts : List Id). AreTrue (file_made kinds f []).nodes usual_budget (claims_of f) ts w.verdicts) terms w.are_true

    failed_is : nat_lt 0 (count_by finds_failed vs) ≡ any_failed w.verdicts
    failed_is = some_counted finds_failed vs ∙ first_of_some vs ∙ sym w.failed

    spent_is : nat_lt 0 (count_by finds_spent vs) ≡ any_spent w.verdicts
    spent_is = some_counted finds_spent vs ∙ sym w.spent

    refines : FileRefines f
    refines = (p.by_list f).0 hold.hold

    no_fails : count_by finds_failed vs ≡ 0
    no_fails =
        none (count_by finds_failed vs)
        (failed_is ∙ none_fails (file_made kinds f []).nodes usual_budget (claims_of f) (file_made kinds f []).value w.verdicts hold.hold are_true)

    many : length vs ≡ 2 * number + 3
    many =
        sym (ap length w.says) ∙ length-map w.verdicts (reported usual_budget)
        ∙ as_many (file_made kinds f []).nodes usual_budget (claims_of f) (file_made kinds f []).value w.verdicts are_true ∙ hold.counted

    tally_is : tally_of vs ≡ demo_tally number (count_by finds_held vs) (count_by finds_spent vs)
    tally_is = counts_are (length vs) (count_by finds_held vs) (count_by finds_failed vs) (count_by finds_spent vs) number many no_fails

-- the same over nodes and obligations that are those of the file
pub counted_in : (kinds : List RuleKind) (f : File) (number : ℕ) (p : Proper f) (hold : HoldsAll number f) (nodes : List Node) (made all : List Obligation)
    (vs : List report.Verdict) → nodes ≡ (file_made kinds f []).nodes → IsBank nodes → all ≡ made → terms_in made ≡ (file_made kinds f []).value →
    AreTermsOf nodes (claims_of f) (terms_in made) → AreFound nodes usual_budget (terms_in all) vs → length vs ≡ length all →
    Counted kinds number f (status_of_counts (tally_of vs)) (demo_line number (tally_of vs))
counted_in kinds f number p hold nodes made all vs same bank is terms mean found each =
    let mean_all = subst (λ (os : List Obligation). AreTermsOf nodes (claims_of f) (terms_in os)) (sym is) mean in
    counted kinds f number p hold all vs (subst IsBank same bank) (ap terms_in is ∙ terms)
    (subst (λ (ns : List Node). AreTermsOf ns (claims_of f) (terms_in all)) same mean_all)
    (subst (λ (ns : List Node). AreFound ns usual_budget (terms_in all) vs) same found) each
