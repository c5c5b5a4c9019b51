-- From what is found of obligations' terms to verdicts on the obligations.
use Rattle.std.proofs.Common.{
  ◌≡◌,
  ◌⊎◌,
  inl,
  inr,
  ℕ,
  suc,
  false,
  ◌||◌,
  List,
  [],
  ◌∷◌,
  ◌++◌,
  map,
  length,
  Option,
  Some,
  None,
  refl,
  sym,
  ap,
  ◌∙◌,
  append_assoc,
  arith,
}
use Rattle.std.specs.Prelude.{option_map, is_some, get_or, slice_get}
use Rattle.ygg_yard.specs.ygg_meaning.Obligations as meaning
use Rattle.ygg_syntax.specs.declared.tree.File.{File}
use Rattle.ygg_yard.specs.ygg_meaning.Claims.{Claim, ClaimHolds, ClaimViolated}
use Rattle.ygg_certify.specs.ygg_bank.Nodes.{IsBank}
use Rattle.ygg_certify.specs.ygg_bank.Values.{inputs_of}
use Rattle.ygg_certify.specs.ygg_bank.declared.node.Id.{Id}
use Rattle.ygg_certify.specs.ygg_bank.declared.node.Node.{Node}
use Rattle.ygg_certify.specs.ygg_oblige_laws.Meaning.{IsTermOf, AreTermsOf, claim_name}
use Rattle.ygg_certify.proofs.Deciding.{never_zero_holds, each_is_decided}
use Rattle.ygg_top.specs.ygg_report.Lines.{verdict_line}
use Rattle.ygg_top.specs.ygg_report.Tallies.{finds_failed, finds_spent}
use Rattle.ygg_top.specs.ygg_report.declared.verdict.Verdict as report
use Rattle.ygg_top.specs.ygg_report.declared.verdict.Verdict.TheVariants as reports
use Rattle.ygg_top.specs.Verdict.{
  Verdict,
  Holds,
  Fails,
  Spent,
  reported,
  is_failed,
  is_spent,
  IsTrue,
  AreTrue,
  any_failed,
  any_spent,
  lines_of,
  first_refuted,
  refutation,
  IsViolation,
}
use Rattle.ygg_oblige_reading.specs.ygg_sched.declared.schedule.Schedule.{Schedule}
use Rattle.ygg_top.specs.Findings.{IsFound, AreFound, found_lines, any_of, first_failed}
use Rattle.ygg_top.proofs.Written.{Writes, AllWrite}

-- names of obligations
abbrev pub names_of : List Claim → List (List ℕ)
names_of = map claim_name

module _ (nodes : List Node) (budget : ℕ) (bank : IsBank nodes) where
  -- a true verdict that says what was found
  record Judged (c : Claim) (term : Id) (v : report.Verdict) : Type 0 where
    it : Verdict
    is_true : IsTrue nodes budget c term it
    says : reported budget it ≡ v
    failed : is_failed it ≡ finds_failed v
    spent : is_spent it ≡ finds_spent v

  judged : (c : Claim) (term : Id) (v : report.Verdict) → IsTermOf nodes c term → Writes nodes c term → IsFound nodes term budget v → Judged c term v
  judged c term reports.Holds t w f = record { it = Holds; is_true = never_zero_holds nodes c term bank t f; says = refl; failed = refl; spent = refl }
  judged c term reports.Fails t w f =
      let x = w (record { inputs = inputs_of f.0; fit = f.1.numbers; is_zero = f.1.zero }) in
      record { it = Fails x.0; is_true = x.1; says = refl; failed = refl; spent = refl }
  judged c term (reports.Spent count) t w f =
      record { it = Spent; is_true = f.1; says = ap (λ n. reports.Spent n) (sym f.0); failed = refl; spent = refl }

  -- some true verdict
  record Some_ (c : Claim) (term : Id) : Type 0 where
    it : Verdict
    is_true : IsTrue nodes budget c term it

  some_verdict : (c : Claim) (term : Id) → IsTermOf nodes c term → Writes nodes c term → Some_ c term
  some_verdict c term t w = at (each_is_decided nodes c term bank t) where
    at : ClaimHolds c ⊎ ((x : meaning.Schedule) × ClaimViolated c x) → Some_ c term
    at (inl holds) = record { it = Holds; is_true = holds }
    at (inr violated) = let x = w (t.shown violated.0 violated.1) in record { it = Fails x.0; is_true = x.1 }

  -- true verdicts on all obligations, whose first lines say what was found
  pub record Completed (cs : List Claim) (terms : List Id) (vs : List report.Verdict) : Type 0 where
    pub verdicts : List Verdict
    pub are_true : AreTrue nodes budget cs terms verdicts
    pub rest : List ℕ
    pub lines : lines_of budget cs verdicts ≡ found_lines (names_of cs) vs ++ rest

  pub completed : (cs : List Claim) (terms : List Id) (vs : List report.Verdict) → AreTermsOf nodes cs terms → AllWrite nodes cs terms →
      AreFound nodes budget terms vs → Completed cs terms vs
  completed [] [] [] t w f = record { verdicts = []; are_true = tt; rest = []; lines = refl }
  completed [] [] (v ∷ vs) t w f = absurd f
  completed [] (t ∷ ts) vs all w f = absurd all
  completed (c ∷ cs) [] vs all w f = absurd all
  completed (c ∷ cs) (t ∷ ts) [] all w f =
      let one = some_verdict c t all.0 w.0 in
      let more = completed cs ts [] all.1 w.1 tt in
      record {
        verdicts = one.it ∷ more.verdicts;
        are_true = (one.is_true, more.are_true);
        rest = lines_of budget (c ∷ cs) (one.it ∷ more.verdicts);
        lines = refl;
      }
  completed (c ∷ cs) (t ∷ ts) (v ∷ vs) all w f =
      let one = judged c t v all.0 w.0 f.0 in
      let more = completed cs ts vs all.1 w.1 f.1 in
      let name = claim_name c in
      let line = verdict_line v name in
      record {
        verdicts = one.it ∷ more.verdicts;
        are_true = (one.is_true, more.are_true);
        rest = more.rest;
        lines =
            ap (λ (x : report.Verdict). verdict_line x name ++ lines_of budget cs more.verdicts) one.says
            ∙ ap (λ (ls : List ℕ). line ++ ls) more.lines ∙ sym (append_assoc line (found_lines (names_of cs) vs) more.rest);
      }

  -- true verdicts on all obligations that say what was found of all
  pub record Whole (cs : List Claim) (terms : List Id) (vs : List report.Verdict) : Type 0 where
    pub verdicts : List Verdict
    pub are_true : AreTrue nodes budget cs terms verdicts
    pub says : map (reported budget) verdicts ≡ vs
    pub lines : lines_of budget cs verdicts ≡ found_lines (names_of cs) vs
    pub failed : any_failed verdicts ≡ is_some (first_failed vs)
    pub spent : any_spent verdicts ≡ any_of finds_spent vs

  some_mapped : (o : Option ℕ) → is_some (option_map suc o) ≡ is_some o
  some_mapped None = refl
  some_mapped (Some n) = refl

  not_failed : (c : Claim) (cs : List Claim) (it : Verdict) (its : List Verdict) (o : Option ℕ) → is_failed it ≡ false → any_failed its ≡ is_some o →
      any_failed (it ∷ its) ≡ is_some (option_map suc o)
  not_failed c cs it its o e f = ap (λ b. b || any_failed its) e ∙ f ∙ sym (some_mapped o)

  -- one more obligation before others
  step : (c : Claim) (cs : List Claim) (t : Id) (ts : List Id) (v : report.Verdict) (vs : List report.Verdict) → Judged c t v → Whole cs ts vs →
      Whole (c ∷ cs) (t ∷ ts) (v ∷ vs)
  step c cs t ts v vs one more = record {
    verdicts = one.it ∷ more.verdicts;
    are_true = (one.is_true, more.are_true);
    says =
        ap (λ (x : report.Verdict). x ∷ map (reported budget) more.verdicts) one.says
        ∙ ap (λ (xs : List report.Verdict). v ∷ xs) more.says;
    lines =
        ap (λ (x : report.Verdict). verdict_line x (claim_name c) ++ lines_of budget cs more.verdicts) one.says
        ∙ ap (λ (ls : List ℕ). verdict_line v (claim_name c) ++ ls) more.lines;
    failed = failed v one.failed;
    spent = ap (λ b. b || any_spent more.verdicts) one.spent ∙ ap (λ b. finds_spent v || b) more.spent;
  } where
    failed : (v : report.Verdict) → is_failed one.it ≡ finds_failed v → any_failed (one.it ∷ more.verdicts) ≡ is_some (first_failed (v ∷ vs))
    failed reports.Fails e = ap (λ b. b || any_failed more.verdicts) e
    failed reports.Holds e = not_failed c cs one.it more.verdicts (first_failed vs) e more.failed
    failed (reports.Spent count) e = not_failed c cs one.it more.verdicts (first_failed vs) e more.failed

  pub whole : (cs : List Claim) (terms : List Id) (vs : List report.Verdict) → AreTermsOf nodes cs terms → AllWrite nodes cs terms →
      AreFound nodes budget terms vs → length vs ≡ length terms → Whole cs terms vs
  whole [] [] [] t w f l = record { verdicts = []; are_true = tt; says = refl; lines = refl; failed = refl; spent = refl }
  whole [] [] (v ∷ vs) t w f l = absurd f
  whole [] (t ∷ ts) vs all w f l = absurd all
  whole (c ∷ cs) [] vs all w f l = absurd all
  whole (c ∷ cs) (t ∷ ts) [] all w f l = absurd (omega (arith, l))
  whole (c ∷ cs) (t ∷ ts) (v ∷ vs) all w f l =
      step c cs t ts v vs (judged c t v all.0 w.0 f.0) (whole cs ts vs all.1 w.1 f.1 (omega (arith, l)))

  -- the same where a schedule violates the first that fails
  module _ (f : File) (x : Schedule) where
    -- the schedule violates the first that fails
    abbrev pub ViolatesFirst : List Claim → List report.Verdict → Type 0
    ViolatesFirst cs vs = (place : ℕ) (c : Claim) → first_failed vs ≡ Some place → slice_get cs place ≡ Some c → IsViolation c x

    -- what is printed of the first that fails has this schedule
    abbrev pub PrintsFirst : List Claim → Option ℕ → List Verdict → Type 0
    PrintsFirst cs failed verdicts = (place : ℕ) → failed ≡ Some place → first_refuted f cs verdicts ≡ refutation f (get_or (names_of cs) place []) x

    pub record First (cs : List Claim) (terms : List Id) (vs : List report.Verdict) : Type 0 where
      pub all : Whole cs terms vs
      pub first : PrintsFirst cs (first_failed vs) all.verdicts

    -- an obligation that doesn't fail is passed over
    passed : (c : Claim) (cs : List Claim) (it : Verdict) (its : List Verdict) → is_failed it ≡ false →
        first_refuted f (c ∷ cs) (it ∷ its) ≡ first_refuted f cs its
    passed c cs Holds its e = refl
    passed c cs (Fails y) its e = absurd (cc e)
    passed c cs Spent its e = refl

    first_later : (c : Claim) (cs : List Claim) (it : Verdict) (its : List Verdict) (o : Option ℕ) → is_failed it ≡ false → PrintsFirst cs o its →
        PrintsFirst (c ∷ cs) (option_map suc o) (it ∷ its)
    first_later c cs it its None e g place h = absurd (cc h)
    first_later c cs it its (Some p) e g place h =
        let same : suc p ≡ place = cc h in
        passed c cs it its e ∙ g p refl ∙ ap (λ n. refutation f (get_or (names_of (c ∷ cs)) n []) x) same

    first_here : (c : Claim) (cs : List Claim) (its : List Verdict) → PrintsFirst (c ∷ cs) (Some 0) (Fails x ∷ its)
    first_here c cs its place h =
        let same : 0 ≡ place = cc h in
        ap (λ n. refutation f (get_or (names_of (c ∷ cs)) n []) x) same

    -- one more that doesn't fail
    first_step : (c : Claim) (cs : List Claim) (t : Id) (ts : List Id) (v : report.Verdict) (vs : List report.Verdict) → finds_failed v ≡ false →
        first_failed (v ∷ vs) ≡ option_map suc (first_failed vs) → Judged c t v → First cs ts vs → First (c ∷ cs) (t ∷ ts) (v ∷ vs)
    unfolding step
    first_step c cs t ts v vs not later one more = record {
      all = step c cs t ts v vs one more.all;
      first = λ place e. first_later c cs one.it more.all.verdicts (first_failed vs) (one.failed ∙ not) more.first place (sym later ∙ e);
    }

    pub first_whole : (cs : List Claim) (terms : List Id) (vs : List report.Verdict) → AreTermsOf nodes cs terms → AllWrite nodes cs terms →
        AreFound nodes budget terms vs → length vs ≡ length terms → ViolatesFirst cs vs → First cs terms vs
    unfolding step whole
    first_whole [] [] [] t w g l h = record { all = whole [] [] [] t w g l; first = λ place e. absurd (cc e) }
    first_whole [] [] (v ∷ vs) t w g l h = absurd g
    first_whole [] (t ∷ ts) vs all w g l h = absurd all
    first_whole (c ∷ cs) [] vs all w g l h = absurd all
    first_whole (c ∷ cs) (t ∷ ts) [] all w g l h = absurd (omega (arith, l))
    first_whole (c ∷ cs) (t ∷ ts) (reports.Fails ∷ vs) all w g l h =
        let one : Judged c t reports.Fails = record { it = Fails x; is_true = h 0 c refl refl; says = refl; failed = refl; spent = refl } in
        let more = whole cs ts vs all.1 w.1 g.1 (omega (arith, l)) in
        record { all = step c cs t ts reports.Fails vs one more; first = first_here c cs more.verdicts }
    first_whole (c ∷ cs) (t ∷ ts) (reports.Holds ∷ vs) all w g l h =
        first_step c cs t ts reports.Holds vs refl refl (judged c t reports.Holds all.0 w.0 g.0)
        (first_whole cs ts vs all.1 w.1 g.1 (omega (arith, l)) (λ place d e. h (suc place) d (ap (option_map suc) e)))
    first_whole (c ∷ cs) (t ∷ ts) (reports.Spent count ∷ vs) all w g l h =
        first_step c cs t ts (reports.Spent count) vs refl refl (judged c t (reports.Spent count) all.0 w.0 g.0)
        (first_whole cs ts vs all.1 w.1 g.1 (omega (arith, l)) (λ place d e. h (suc place) d (ap (option_map suc) e)))
