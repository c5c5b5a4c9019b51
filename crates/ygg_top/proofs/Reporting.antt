-- From obligations that are reported one after another to what the sink has taken of `verify`.
use Rattle.std.proofs.Common.{
  ◌≡◌,
  ◌≤◌,
  inl,
  inr,
  ℕ,
  zero,
  suc,
  ◌+◌,
  Bool,
  true,
  false,
  ◌||◌,
  ◌&&◌,
  if◌then◌else◌,
  List,
  [],
  ◌∷◌,
  ◌++◌,
  length,
  Option,
  Some,
  None,
  is_none,
  Result,
  Ok,
  Err,
  IfOk,
  refl,
  sym,
  ap,
  ◌∙◌,
  subst,
  append_assoc,
  arith,
}
use Rattle.std.specs.Prelude.{◌<◌, IfSome, MatchOption, get_or, slice_get, option_map, is_some}
use Rattle.std.proofs.lemmas.Option.{slice_get-map, slice_get_within}
use Rattle.std.proofs.lemmas.List.{length-map, length-append, append-nil}
use Rattle.ygg_base.specs.declared.status.Status.{Status}
use Rattle.ygg_base.specs.declared.status.Status.TheVariants.{Done, Refuted, Refused, Undecided, Fault, NoMemory}
use Rattle.ygg_base.specs.Outside.{Rose}
use Rattle.ygg_syntax.specs.declared.tree.File.{File}
use Rattle.ygg_oblige_reading.specs.ygg_rules.declared.rule.RuleKind.{RuleKind}
use Rattle.ygg_yard.specs.ygg_meaning.Claims.{Claim, ClaimViolated, claims_of}
use Rattle.std.proofs.lemmas.List.Elements.{All-nil, All-cons}
use Rattle.ygg_certify.specs.ygg_bank.Nodes.{IsBank, HasWidth}
use Rattle.ygg_certify.specs.ygg_bank.Values.{InputsFit, inputs_of}
use Rattle.ygg_certify.specs.ygg_bank.declared.env.Given.{Given}
use Rattle.ygg_certify.specs.ygg_bank.declared.node.Id.{Id}
use Rattle.ygg_certify.specs.ygg_bank.declared.node.Node.{Node}
use Rattle.ygg_certify.specs.ygg_oblige_laws.Terms.{file_made}
use Rattle.ygg_certify.specs.ygg_oblige_laws.Meaning.{AreTermsOf, claim_name}
use Rattle.ygg_oblige_reading.specs.Obligations.{ArePlaced, terms_in, names_in}
use Rattle.ygg_oblige_reading.specs.Obligation.{Obligation}
use Rattle.ygg_top.specs.ygg_report.Lines.{verdict_line, verified_line, undecided_line, shows_line}
use Rattle.ygg_top.specs.ygg_report.Tallies.{finds_failed, finds_spent}
use Rattle.ygg_top.specs.ygg_report.declared.verdict.Verdict as report
use Rattle.ygg_top.specs.ygg_report.declared.verdict.Verdict.TheVariants as reports
use Rattle.ygg_oblige_reading.specs.ygg_sched.Printing.{text_of}
use Rattle.ygg_yard.specs.ygg_meaning.Stack.{layers_of}
use Rattle.ygg_yard.specs.ygg_meaning.Obligations as meaning
use Rattle.ygg_certify.specs.ygg_sym_laws.Means.{terms_of}
use Rattle.ygg_sched_names.proofs.Asked.{asked_name}
use Rattle.ygg_sched_names.specs.ObligeSchedulesLaws.{AllExact}
use Rattle.ygg_sched_names.specs.Schedules.{all_schedules}
use Rattle.ygg_sched_names.specs.ygg_replay.Shown.{meant}
use Rattle.ygg_sched_names.specs.ygg_replay.Ending.{Replaying}
use Rattle.ygg_top.specs.declared.verdict.Refutation.{Refutation}
use Rattle.ygg_top.specs.declared.verdict.Summary.{Summary}
use Rattle.ygg_top.specs.Verdict.{
  ByVerdicts,
  Verified,
  AreTrue,
  IsViolation,
  IsRefutation,
  text_by,
  status_by,
  last_lines,
  lines_of,
  any_failed,
  any_spent,
  first_refuted,
  refutation,
}
use Rattle.ygg_top.specs.ygg_report.Putting.{Adds, IsFront, IsPutSo, Puts}
use Rattle.ygg_top.specs.Showing.{IsShownAgain}
use Rattle.ygg_top.specs.Verifying.{IsCutVerdict, Streams}
use Rattle.ygg_top.specs.Findings.{
  IsFound,
  IsKept,
  AreFound,
  found_lines,
  any_of,
  first_failed,
  first_kept,
  AreDigits,
  AreMadeIn,
  IsFitting,
  IsZeroAt,
  IsFirst,
  IsRefuting,
  IsRefutingBy,
  IsEnd,
  IsUnreported,
  IsReported,
  IsStopped,
  IsFinished,
  IsConcluded,
  EndsWith,
  status_of,
}
use Rattle.ygg_top.proofs.of_ygg_report.Fronts.{adds_more, adds_none, front_after, front_first, front_longer}
use Rattle.ygg_top.proofs.of_ygg_report.Printing.{put_whole}
use Rattle.ygg_top.proofs.Judging.{names_of, completed, Whole, whole, ViolatesFirst, first_whole}
use Rattle.ygg_top.proofs.Written.{AllWrite, file_writes, shown_at}
use Rattle.ygg_top.proofs.Shown.{OnReplays, shown_again}
use Rattle.ygg_top.proofs.Verdicts.{Proper, none_failed, verified}

-- one more is found, of the next term
pub found_more : (nodes : List Node) (budget : ℕ) (all : List Obligation) (vs : List report.Verdict) (next : Obligation) (v : report.Verdict) →
    AreFound nodes budget (terms_in all) vs → slice_get all (length vs) ≡ Some next → IsFound nodes next.term budget v →
    AreFound nodes budget (terms_in all) (vs ++ v ∷ [])
found_more nodes budget [] [] next v f e g = absurd (cc)
found_more nodes budget (o ∷ all) [] next v f e g =
    let same : next ≡ o = cc in (subst (λ (x : Obligation). IsFound nodes x.term budget v) same g, tt)
found_more nodes budget [] (w ∷ vs) next v f e g = absurd f
found_more nodes budget (o ∷ all) (w ∷ vs) next v f e g = (f.0, found_more nodes budget all vs next v f.1 e g)

-- nothing found gives no lines
pub no_lines : (names : List (List ℕ)) → found_lines names [] ≡ []
no_lines [] = refl
no_lines (name ∷ names) = refl

-- one more that is found gives one line more
pub lines_more : (all : List Obligation) (vs : List report.Verdict) (next : Obligation) (v : report.Verdict) → slice_get all (length vs) ≡ Some next →
    found_lines (names_in all) (vs ++ v ∷ []) ≡ found_lines (names_in all) vs ++ verdict_line v next.name
lines_more [] [] next v e = absurd (cc)
lines_more (o ∷ all) [] next v e =
    let same : next ≡ o = cc in
    ap (λ (ls : List ℕ). verdict_line v o.name ++ ls) (no_lines (names_in all)) ∙ append-nil (verdict_line v o.name)
    ∙ ap (λ (x : Obligation). verdict_line v x.name) (sym same)
lines_more [] (w ∷ vs) next v e = absurd (cc)
lines_more (o ∷ all) (w ∷ vs) next v e =
    ap (λ (ls : List ℕ). verdict_line w o.name ++ ls) (lines_more all vs next v e)
    ∙ sym (append_assoc (verdict_line w o.name) (found_lines (names_in all) vs) (verdict_line v next.name))

mapped : (o : Option ℕ) (b : Bool) (n : ℕ) →
    option_map suc (if is_none o && b then Some n else o) ≡ (if is_none (option_map suc o) && b then Some (suc n) else option_map suc o)
mapped None true n = refl
mapped None false n = refl
mapped (Some k) b n = refl

or_none : (b : Bool) → (b || false) ≡ b
or_none true = refl
or_none false = refl

or_assoc : (a b c : Bool) → (a || (b || c)) ≡ ((a || b) || c)
or_assoc true b c = refl
or_assoc false b c = refl

-- which is the first that fails, with one more
first_more : (vs : List report.Verdict) (v : report.Verdict) →
    first_failed (vs ++ v ∷ []) ≡ (if is_none (first_failed vs) && finds_failed v then Some (length vs) else first_failed vs)
first_more [] reports.Fails = refl
first_more [] reports.Holds = refl
first_more [] (reports.Spent count) = refl
first_more (reports.Fails ∷ vs) v = refl
first_more (reports.Holds ∷ vs) v = ap (option_map suc) (first_more vs v) ∙ mapped (first_failed vs) (finds_failed v) (length vs)
first_more (reports.Spent count ∷ vs) v = ap (option_map suc) (first_more vs v) ∙ mapped (first_failed vs) (finds_failed v) (length vs)

spent_more : (vs : List report.Verdict) (v : report.Verdict) → any_of finds_spent (vs ++ v ∷ []) ≡ (any_of finds_spent vs || finds_spent v)
spent_more [] v = or_none (finds_spent v)
spent_more (w ∷ vs) v = ap (λ b. finds_spent w || b) (spent_more vs v) ∙ or_assoc (finds_spent w) (any_of finds_spent vs) (finds_spent v)

-- the first refutation, with one more obligation
kept_more : (nodes : List Node) (all : List Obligation) (o : Option ℕ) (known : Option Refutation) (place : ℕ) (next : Obligation) (v : report.Verdict)
    (env : Option (List Given)) → IsFirst nodes all o known → slice_get all place ≡ Some next → IsKept nodes next.term v env →
    IsFirst nodes all (if is_none o && finds_failed v then Some place else o) (first_kept known env place)
kept_more nodes all (Some p) (Some r) place next v env first at kept = first
kept_more nodes all (Some p) None place next v env first at kept = absurd first
kept_more nodes all None (Some r) place next v env first at kept = absurd first
kept_more nodes all None None place next reports.Fails (Some env) first at kept = (refl, record { obligation = next; there = at; zero = kept })
kept_more nodes all None None place next reports.Fails None first at kept = absurd kept
kept_more nodes all None None place next reports.Holds None first at kept = tt
kept_more nodes all None None place next reports.Holds (Some env) first at kept = absurd (cc kept)
kept_more nodes all None None place next (reports.Spent count) None first at kept = tt
kept_more nodes all None None place next (reports.Spent count) (Some env) first at kept = absurd (cc kept)

-- there is a refutation just where one fails
kept_some : (nodes : List Node) (all : List Obligation) (o : Option ℕ) (known : Option Refutation) → IsFirst nodes all o known → is_some known ≡ is_some o
kept_some nodes all (Some p) (Some r) first = refl
kept_some nodes all (Some p) None first = absurd first
kept_some nodes all None (Some r) first = absurd first
kept_some nodes all None None first = refl

-- the refutation that is kept
kept_is : (nodes : List Node) (all : List Obligation) (o : Option ℕ) (r : Refutation) → IsFirst nodes all o (Some r) →
    (o ≡ Some r.place) × IsZeroAt nodes all r.place r.env
kept_is nodes all (Some p) r first =
    (ap (λ n. Some n) (sym first.0), subst (λ n. IsZeroAt nodes all n r.env) (sym first.0) first.1)
kept_is nodes all None r first = absurd first

-- it is one of an obligation of the list
pub kept_there : (nodes : List Node) (all : List Obligation) (o : Option ℕ) (known : Option Refutation) → IsFirst nodes all o known →
    IfSome known (λ r. r.place < length all)
kept_there nodes all o None first = tt
kept_there nodes all o (Some r) first = let z = (kept_is nodes all o r first).1 in slice_get_within all r.place z.obligation z.there

-- and gives each input of the file's terms a word of its width, where these are in the bank
pub kept_fits : (kinds : List RuleKind) (f : File) (nodes : List Node) (all : List Obligation) (o : Option ℕ) (known : Option Refutation) →
    IsFirst nodes all o known → IsBank nodes → nodes ≡ (file_made kinds f []).nodes → IfSome known (IsFitting kinds f)
kept_fits kinds f nodes all o None first bank same = tt
kept_fits kinds f nodes all o (Some r) first bank same = record {
  bank = subst IsBank same bank;
  numbers = subst (λ (ns : List Node). InputsFit (inputs_of r.env) ns) same (kept_is nodes all o r first).1.zero.numbers;
}

-- nothing is reported yet
pub none_reported : (nodes : List Node) (budget : ℕ) (all : List Obligation) (before : Option (List ℕ)) (summary : Summary) → summary.refuted ≡ None →
    summary.spent ≡ false → IsReported nodes budget all before before 0 summary
none_reported nodes budget all before summary r s = record {
  found = [];
  counted = refl;
  are = tt;
  put = subst (λ (ls : List ℕ). Adds before ls before)
      (sym (no_lines (names_in all))) (adds_none before);
  failed = subst (λ (k : Option Refutation). IsFirst nodes all None k) (sym r) tt;
  spent = s;
}

-- one more obligation is reported
pub one_reported : (nodes : List Node) (budget : ℕ) (all : List Obligation) (before middle now : Option (List ℕ)) (count : ℕ) (summary more : Summary)
    (next : Obligation) (v : report.Verdict) (env : Option (List Given)) → IsReported nodes budget all before middle count summary →
    slice_get all count ≡ Some next → IsFound nodes next.term budget v → IsKept nodes next.term v env → Adds middle (verdict_line v next.name) now →
    more.refuted ≡ first_kept summary.refuted env count → more.spent ≡ (summary.spent || finds_spent v) →
    IsReported nodes budget all before now (count + 1) more
one_reported nodes budget all before middle now count summary more next v env r at found kept put refuted spent =
    let there : slice_get all (length r.found) ≡ Some next = ap (slice_get all) r.counted ∙ at in
    let text = found_lines (names_in all) r.found in
    let line = verdict_line v next.name in
    let longer : length (r.found ++ v ∷ []) ≡ count + 1 =
    length-append r.found (v ∷ []) ∙ (let e = r.counted in omega (arith, e)) in
    let failed : first_failed (r.found ++ v ∷ []) ≡ (if is_none (first_failed r.found) && finds_failed v then Some count else first_failed r.found) =
    first_more r.found v ∙ ap (λ n. if is_none (first_failed r.found) && finds_failed v then Some n else first_failed r.found) r.counted in
    record {
      found = r.found ++ v ∷ [];
      counted = longer;
      are = found_more nodes budget all r.found next v r.are there found;
      put = subst (λ (ls : List ℕ). Adds before ls now) (sym (lines_more all r.found next v there)) (adds_more before middle now text line r.put put);
      failed =
          subst (λ (k : Option Refutation). IsFirst nodes all (first_failed (r.found ++ v ∷ [])) k) (sym refuted)
          (subst (λ (o : Option ℕ). IsFirst nodes all o (first_kept summary.refuted env count)) (sym failed)
          (kept_more nodes all (first_failed r.found) summary.refuted count next v env r.failed at kept));
      spent = spent ∙ ap (λ b. b || finds_spent v) r.spent ∙ sym (spent_more r.found v);
    }

-- the terms of obligations are single digits
pub digits_of : (nodes : List Node) (cs : List Claim) (all : List Obligation) → AreTermsOf nodes cs (terms_in all) → AreDigits nodes all
digits_of nodes [] [] t = All-nil (λ (o : Obligation). HasWidth nodes o.term 1)
digits_of nodes [] (o ∷ all) t = absurd t
digits_of nodes (c ∷ cs) [] t = absurd t
digits_of nodes (c ∷ cs) (o ∷ all) t = All-cons (λ (o : Obligation). HasWidth nodes o.term 1) o all t.0.wide (digits_of nodes cs all t.1)

-- a count that rose since later rose since before
rose_since : (a b c : ℕ) → a ≤ b → Rose b c → Rose a c
rose_since a b c l r = omega (arith, l, r)

-- what is printed last was put, whole or in part, seen from before
pub put_end : (kinds : List RuleKind) (f : File) (nodes : List Node) (budget : ℕ) (all : List Obligation) (before middle now : Option (List ℕ))
    (summary : Summary) (status : Status) (text written : List ℕ) (a b c : ℕ) (ended : Status) →
    IsReported nodes budget all before middle (length all) summary → IsEnd kinds f (names_in all) summary status text → written ≡ text → a ≤ b →
    IsPutSo middle now written status (Rose b c) ended → IsConcluded kinds f nodes budget all before now (Rose a c) ended
put_end kinds f nodes budget all before middle now summary status text written a b c ended reported is same l put =
    inl (record { middle = middle; summary = summary; reported = reported; last = inl (status, text, is, since put) })
  where
    since : IsPutSo middle now written status (Rose b c) ended → IsPutSo middle now text status (Rose a c) ended
    since (inl whole) = inl (whole.0, subst (λ (bs : List ℕ). Adds middle bs now) same whole.1)
    since (inr fault) = inr (fault.0, rose_since a b c l fault.1, fault.2, subst (λ (bs : List ℕ). IsFront fault.2 bs) same fault.3, fault.4)

-- no memory was left for what is printed last
pub no_end : (kinds : List RuleKind) (f : File) (nodes : List Node) (budget : ℕ) (all : List Obligation) (before middle : Option (List ℕ)) (summary : Summary)
    (SinkRose : Type 0) → IsReported nodes budget all before middle (length all) summary → IsConcluded kinds f nodes budget all before middle SinkRose NoMemory
no_end kinds f nodes budget all before middle summary SinkRose reported =
    inl (record { middle = middle; summary = summary; reported = reported; last = inr (refl, refl) })

-- an obligation that was not reported, seen from before
pub unreported_since : (nodes other : List Node) (term : Id) (name : List ℕ) (budget : ℕ) (middle now : Option (List ℕ)) (a b c : ℕ) (ended : Status) →
    other ≡ nodes → a ≤ b → IsUnreported other term name budget middle now (Rose b c) ended → IsUnreported nodes term name budget middle now (Rose a c) ended
unreported_since nodes other term name budget middle now a b c NoMemory same l u = u
unreported_since nodes other term name budget middle now a b c Fault same l u =
    (rose_since a b c l u.0, u.1, subst (λ (ns : List Node). IsFound ns term budget u.1) same u.2, u.3, u.4, u.5)
unreported_since nodes other term name budget middle now a b c Done same l u = absurd u
unreported_since nodes other term name budget middle now a b c Refuted same l u = absurd u
unreported_since nodes other term name budget middle now a b c Refused same l u = absurd u
unreported_since nodes other term name budget middle now a b c Undecided same l u = absurd u

-- each environment in which the term of one of a file's obligations is 0 has a schedule, as texts have it, that violates the obligation
pub writes_in : (kinds : List RuleKind) (f : File) (p : Proper f) (all : List Obligation) → IsBank (file_made kinds f []).nodes →
    terms_in all ≡ (file_made kinds f []).value → AreTermsOf (file_made kinds f []).nodes (claims_of f) (terms_in all) →
    AllWrite (file_made kinds f []).nodes (claims_of f) (terms_in all)
writes_in kinds f p all bank terms mean =
    let nodes = (file_made kinds f []).nodes in
    subst (λ (ts : List Id). AllWrite nodes (claims_of f) ts) (sym terms)
    (file_writes kinds f p.derived p.typed p.schedules bank (subst (λ (ts : List Id). AreTermsOf nodes (claims_of f) ts) terms mean))

pub same_claim : (o : Option Claim) (c d : Claim) → o ≡ Some c → o ≡ Some d → c ≡ d
same_claim o c d a b = let h : Some c ≡ Some d = sym a ∙ b in cc

-- the name of the obligation at a place
named_at : (cs : List Claim) (place : ℕ) (c : Claim) → slice_get cs place ≡ Some c → get_or (names_of cs) place [] ≡ claim_name c
named_at [] place c h = absurd (cc h)
named_at (d ∷ cs) zero c h = let same : d ≡ c = cc h in ap claim_name same
named_at (d ∷ cs) (suc place) c h = named_at cs place c h

same_place : (o : Option ℕ) (m n : ℕ) → o ≡ Some m → o ≡ Some n → m ≡ n
same_place o m n a b = let h : Some m ≡ Some n = sym a ∙ b in cc

module _ (kinds : List RuleKind) (f : File) (budget : ℕ) (p : Proper f) (q : OnReplays) (bank : IsBank (file_made kinds f []).nodes) (all : List Obligation)
    (terms_are : terms_in all ≡ (file_made kinds f []).value) (names_are : names_in all ≡ names_of (claims_of f))
    (mean : AreTermsOf (file_made kinds f []).nodes (claims_of f) (terms_in all)) where
  abbrev nodes : List Node
  nodes = (file_made kinds f []).nodes

  abbrev cs : List Claim
  cs = claims_of f

  abbrev names : List (List ℕ)
  names = names_in all

  writes : AllWrite nodes cs (terms_in all)
  writes = writes_in kinds f p all bank terms_are mean

  -- the schedule that an environment names for an obligation whose term is 0 in it violates the obligation
  shown : (place : ℕ) (env : List Given) → IsZeroAt nodes all place env → (c : Claim) (x : meaning.Schedule) → slice_get cs place ≡ Some c →
      slice_get (all_schedules kinds (terms_of kinds f.defs) f.disk (inputs_of env) (layers_of f)) place ≡ Some x → ClaimViolated c x
  shown place env z c x there named =
      let schedules = all_schedules kinds (terms_of kinds f.defs) f.disk (inputs_of env) (layers_of f) in
      let all_shown = p.schedules kinds f p.derived p.typed bank (inputs_of env) z.zero.numbers in
      let term : slice_get (terms_in all) place ≡ Some z.obligation.term =
      slice_get-map (λ (o : Obligation). o.term) all place ∙ ap (option_map (λ (o : Obligation). o.term)) z.there in
      shown_at (inputs_of env) nodes cs (terms_in all) schedules
      (subst (λ (ts : List Id). AllExact (inputs_of env) nodes cs ts schedules) (sym terms_are) all_shown) place c z.obligation.term x there term named
      z.zero.zero

  -- the schedule that is printed of an obligation whose term is 0 in an environment
  module _ (name text : List ℕ) (place : ℕ) (env : List Given) (z : IsZeroAt nodes all place env) (e : IsRefutingBy kinds f name place env text) where
    -- the obligation
    abbrev pub claim : Claim
    claim = e.fitted.claim

    violated : ClaimViolated claim (meant claim e.schedule)
    violated = let v = e.violates in v.violates claim e.fitted.claim_there (shown place env z claim v.named e.fitted.claim_there v.is_named)

    -- its name
    pub called : e.schedule.name ≡ claim_name claim
    called = e.fitted.name ∙ ap asked_name e.fitted.asked

    pub violating : IsViolation claim e.schedule
    violating = record { name = called; violated = violated }

    -- it is shown by `replay`
    again : IsShownAgain f (claim_name claim) (text_of f e.schedule)
    again =
        let x = e.schedule in
        shown_again f (claim_name claim) (text_of f x) q.one_ending
        (λ bytes tokens accepted. subst (λ (title : List ℕ). Replaying f (text_of f x) Refuted (shows_line title)) called
        (q.printed bytes tokens f accepted place x (record {
          claim = claim;
          there = e.fitted.claim_there;
          fitted = e.fitted;
          bounded = e.bounded;
          violated = violated;
        })))

    -- and is what is printed of a refutation
    pub refutes : name ≡ claim_name e.fitted.claim → IsRefutation f cs text
    refutes named = record {
      place = place;
      claim = e.fitted.claim;
      there = e.fitted.claim_there;
      schedule = e.schedule;
      violating = violating;
      text_is = e.text_is ∙ ap (λ (title : List ℕ). refutation f title e.schedule) named;
      shown = again;
    }

  -- a status and a text that are those of true verdicts
  abbrev Ended : Status → List ℕ → Type 0
  Ended status text = Verified kinds f budget status text

  -- what was found of the first obligations is a front of the text of true verdicts
  cut : (vs : List report.Verdict) → AreFound nodes budget (terms_in all) vs → (front : List ℕ) → IsFront front (found_lines names vs) →
      IsCutVerdict kinds f budget front
  cut vs found front is =
      let c = completed nodes budget bank cs (terms_in all) vs mean writes found in
      let last = last_lines f cs c.verdicts in
      let text = text_by f budget cs c.verdicts in
      let lines : lines_of budget cs c.verdicts ≡ found_lines names vs ++ c.rest =
      c.lines ∙ ap (λ (ns : List (List ℕ)). found_lines ns vs ++ c.rest) (sym names_are) in
      let begins : IsFront front (lines_of budget cs c.verdicts) =
      subst (λ (ls : List ℕ). IsFront front ls) (sym lines) (front_longer front (found_lines names vs) c.rest is) in
      let is_true = subst (λ (ts : List Id). AreTrue nodes budget cs ts c.verdicts) terms_are c.are_true in
      let by : ByVerdicts kinds f budget (status_by c.verdicts) text =
      record { verdicts = c.verdicts; are_true = is_true; status_is = refl; text_is = refl } in
      (status_by c.verdicts, text, by, front_longer front (lines_of budget cs c.verdicts) last begins)

  -- what is put of an obligation that was not reported
  stopped : (before now : Option (List ℕ)) (SinkRose : Type 0) (ended : Status) → IsStopped nodes budget all before now SinkRose ended →
      Streams kinds f budget before now SinkRose ended
  stopped before now SinkRose NoMemory s =
      let r = s.reported in
      let text = found_lines names r.found in
      inr (
        text,
        cut r.found r.are text (subst (λ (ls : List ℕ). IsFront text ls) (append-nil text) (front_first text [])),
        subst (λ (b : Option (List ℕ)). Adds before text b) (sym s.unreported) r.put,
      )
  stopped before now SinkRose Fault s =
      let r = s.reported in
      let u = s.unreported in
      let text = found_lines names r.found in
      let line = verdict_line u.1 s.next.name in
      let there : slice_get all (length r.found) ≡ Some s.next = ap (slice_get all) r.counted ∙ s.is in
      let more = found_more nodes budget all r.found s.next u.1 r.are there u.2 in
      let lines = lines_more all r.found s.next u.1 there in
      let begins : IsFront (text ++ u.3) (found_lines names (r.found ++ u.1 ∷ [])) =
      subst (λ (ls : List ℕ). IsFront (text ++ u.3) ls) (sym lines) (front_after text u.3 line u.4) in
      (u.0, text ++ u.3, cut (r.found ++ u.1 ∷ []) more (text ++ u.3) begins, adds_more before s.middle now text u.3 r.put u.5)
  stopped before now SinkRose Done s = absurd s.unreported
  stopped before now SinkRose Refuted s = absurd s.unreported
  stopped before now SinkRose Refused s = absurd s.unreported
  stopped before now SinkRose Undecided s = absurd s.unreported

  -- the text of what is printed last, after the lines of what was found of all
  module _ (before middle : Option (List ℕ)) (summary : Summary) (r : IsReported nodes budget all before middle (length all) summary) where
    abbrev vs : List report.Verdict
    vs = r.found

    each : length vs ≡ length (terms_in all)
    each = r.counted ∙ sym (length-map all (λ (o : Obligation). o.term))

    -- what the status is
    status_is : (w : Whole nodes budget bank cs (terms_in all) vs) → status_of summary ≡ status_by w.verdicts
    status_is w =
        let failed : is_some summary.refuted ≡ any_failed w.verdicts = kept_some nodes all (first_failed vs) summary.refuted r.failed ∙ sym w.failed in
        let spent : summary.spent ≡ any_spent w.verdicts = r.spent ∙ sym w.spent in
        ap (λ b. if b then Refuted else if summary.spent then Undecided else Done) failed
        ∙ ap (λ b. if any_failed w.verdicts then Refuted else if b then Undecided else Done) spent

    -- verdicts that give what is printed last
    ended_by : (w : Whole nodes budget bank cs (terms_in all) vs) (status : Status) (text : List ℕ) → status ≡ status_of summary →
        text ≡ last_lines f cs w.verdicts → (status ≡ Refuted → IsRefutation f cs text) → Ended status (found_lines names vs ++ text)
    ended_by w status text s e refuted =
        let lines : found_lines names vs ≡ lines_of budget cs w.verdicts = ap (λ (ns : List (List ℕ)). found_lines ns vs) names_are ∙ sym w.lines in
        let by : ByVerdicts kinds f budget status (found_lines names vs ++ text) = record {
          verdicts = w.verdicts;
          are_true = subst (λ (ts : List Id). AreTrue nodes budget cs ts w.verdicts) terms_are w.are_true;
          status_is = s ∙ status_is w;
          text_is = ap (λ (ls : List ℕ). ls ++ text) lines ∙ ap (λ (l : List ℕ). lines_of budget cs w.verdicts ++ l) e;
        } in
        verified kinds f budget p status (found_lines names vs ++ text) by (λ d. subst (λ (l : List ℕ). IsRefutation f cs l) e (refuted d))

    -- where none fails
    none_ended : (status : Status) (text : List ℕ) → status ≡ status_of summary → summary.refuted ≡ None →
        text ≡ (if summary.spent then undecided_line else verified_line (length names)) → Ended status (found_lines names vs ++ text)
    none_ended status text s none e =
        let w = whole nodes budget bank cs (terms_in all) vs mean writes r.are each in
        let failed : any_failed w.verdicts ≡ false =
        w.failed ∙ sym (kept_some nodes all (first_failed vs) summary.refuted r.failed) ∙ ap (λ (k : Option Refutation). is_some k) none in
        let spent : summary.spent ≡ any_spent w.verdicts = r.spent ∙ sym w.spent in
        let count : length names ≡ length cs = ap length names_are ∙ length-map cs claim_name in
        ended_by w status text s (
        e ∙ ap (λ b. if b then undecided_line else verified_line (length names)) spent
        ∙ ap (λ n. if any_spent w.verdicts then undecided_line else verified_line n) count
        ∙ sym (ap (λ b. if b then first_refuted f cs w.verdicts else if any_spent w.verdicts then undecided_line else verified_line (length cs)) failed)
        ) (λ d. absurd (none_failed (any_failed w.verdicts) (any_spent w.verdicts) failed (sym (status_is w) ∙ sym s ∙ d)))

    -- where one fails, the schedule of it that is printed
    module _ (text : List ℕ) (k : Refutation) (some : summary.refuted ≡ Some k) (e : IsRefuting kinds f names k text) where
      kept : (first_failed vs ≡ Some k.place) × IsZeroAt nodes all k.place k.env
      kept = kept_is nodes all (first_failed vs) k (subst (λ (o : Option Refutation). IsFirst nodes all (first_failed vs) o) some r.failed)

      abbrev name : List ℕ
      name = get_or names k.place []

      -- the name is that of the obligation
      name_is : name ≡ claim_name e.fitted.claim
      name_is = ap (λ (ns : List (List ℕ)). get_or ns k.place []) names_are ∙ named_at cs k.place e.fitted.claim e.fitted.claim_there

      some_ended : (status : Status) → status ≡ status_of summary → Ended status (found_lines names vs ++ text)
      some_ended status s =
          let x = e.schedule in
          let violates : ViolatesFirst nodes budget bank f x cs vs =
          λ place c failed there.
          let same = same_place (first_failed vs) k.place place kept.0 failed in
          let own = e.fitted.claim in
          let here : slice_get cs place ≡ Some own = subst (λ m. slice_get cs m ≡ Some own) same e.fitted.claim_there in
          subst (λ (d : Claim). IsViolation d x) (same_claim (slice_get cs place) own c here there)
          (violating name text k.place k.env kept.1 e) in
          let first = first_whole nodes budget bank f x cs (terms_in all) vs mean writes r.are each violates in
          let w = first.all in
          let failed : any_failed w.verdicts ≡ true = w.failed ∙ ap (λ (o : Option ℕ). is_some o) kept.0 in
          ended_by w status text s (
          e.text_is ∙ ap (λ (ns : List (List ℕ)). refutation f (get_or ns k.place []) x) names_are ∙ sym (first.first k.place kept.0)
          ∙ sym (ap (λ b. if b then first_refuted f cs w.verdicts else if any_spent w.verdicts then undecided_line else verified_line (length cs)) failed)
          ) (λ d. refutes name text k.place k.env kept.1 e name_is)

    by_summary : (status : Status) (text : List ℕ) (o : Option Refutation) → status ≡ status_of summary → summary.refuted ≡ o →
        MatchOption o (text ≡ (if summary.spent then undecided_line else verified_line (length names))) (λ k. IsRefuting kinds f names k text) →
        Ended status (found_lines names vs ++ text)
    by_summary status text None s is last = none_ended status text s is last
    by_summary status text (Some k) s is last = some_ended text k is last status s

    pub ended_so : (status : Status) (text : List ℕ) → IsEnd kinds f names summary status text → Ended status (found_lines names vs ++ text)
    ended_so status text e = by_summary status text summary.refuted e.status_is refl e.text_is

  -- what is put of a text that a list of verdicts determines
  streams : (before now : Option (List ℕ)) (SinkRose : Type 0) (ended : Status) → Puts Ended (IsCutVerdict kinds f budget) before now SinkRose ended →
      Streams kinds f budget before now SinkRose ended
  streams before now SinkRose Done s = s
  streams before now SinkRose Refuted s = s
  streams before now SinkRose Refused s = s
  streams before now SinkRose Undecided s = s
  streams before now SinkRose Fault s = let c = s.2 in (s.0, s.1, (c.0, c.1, c.2.by, c.3), s.3)
  streams before now SinkRose NoMemory s = s

  -- what is put where all obligations were reported
  finished : (before now : Option (List ℕ)) (SinkRose : Type 0) (ended : Status) → IsFinished kinds f nodes budget all before now SinkRose ended →
      Streams kinds f budget before now SinkRose ended
  finished before now SinkRose ended s = at s.last where
    lines : List ℕ
    lines = found_lines names s.reported.found

    put_case : (status : Status) (text : List ℕ) → IsEnd kinds f names s.summary status text → IsPutSo s.middle now text status SinkRose ended →
        Streams kinds f budget before now SinkRose ended
    put_case status text e (inl put) =
        streams before now SinkRose ended (
        put_whole Ended (IsCutVerdict kinds f budget) before now SinkRose (is_some s.summary.refuted) s.summary.spent ended (lines ++ text)
        (put.0 ∙ e.status_is)
        (subst (λ (x : Status). Ended x (lines ++ text)) (sym put.0) (ended_so before s.middle s.summary s.reported status text e))
        (adds_more before s.middle now lines text s.reported.put put.1)
        )
    put_case status text e (inr fault) =
        subst (λ (x : Status). Streams kinds f budget before now SinkRose x) (sym fault.0) (
          fault.1,
          lines ++ fault.2,
          (status, lines ++ text, (ended_so before s.middle s.summary s.reported status text e).by, front_after lines fault.2 text fault.3),
          adds_more before s.middle now lines fault.2 s.reported.put fault.4,
        )

    memory_case : ended ≡ NoMemory → now ≡ s.middle → Streams kinds f budget before now SinkRose ended
    memory_case same stays =
        subst (λ (x : Status). Streams kinds f budget before now SinkRose x) (sym same)
        (inr (
          lines,
          cut s.reported.found s.reported.are lines (subst (λ (ls : List ℕ). IsFront lines ls) (append-nil lines) (front_first lines [])),
          subst (λ (b : Option (List ℕ)). Adds before lines b) (sym stays) s.reported.put,
        ))

    at : EndsWith kinds f names s.summary s.middle now SinkRose ended → Streams kinds f budget before now SinkRose ended
    at (inl put) = put_case put.0 put.1 put.2 put.3
    at (inr memory) = memory_case memory.0 memory.1

  -- what is put of a file's verdicts
  pub concluded : (before now : Option (List ℕ)) (SinkRose : Type 0) (ended : Status) → IsConcluded kinds f nodes budget all before now SinkRose ended →
      Streams kinds f budget before now SinkRose ended
  concluded before now SinkRose ended (inl s) = finished before now SinkRose ended s
  concluded before now SinkRose ended (inr s) = stopped before now SinkRose ended s

-- the same over nodes and obligations that are those of the file
pub concluded_in : (kinds : List RuleKind) (f : File) (budget : ℕ) (p : Proper f) (q : OnReplays) (nodes : List Node) (made all : List Obligation) →
    nodes ≡ (file_made kinds f []).nodes → IsBank nodes → all ≡ made → terms_in made ≡ (file_made kinds f []).value →
    names_in made ≡ names_of (claims_of f) → AreTermsOf nodes (claims_of f) (terms_in made) → (before now : Option (List ℕ)) (SinkRose : Type 0)
    (ended : Status) → IsConcluded kinds f nodes budget all before now SinkRose ended → Streams kinds f budget before now SinkRose ended
concluded_in kinds f budget p q nodes made all same bank is terms names mean before now SinkRose ended told =
    let term_is : terms_in all ≡ (file_made kinds f []).value = ap terms_in is ∙ terms in
    let name_is : names_in all ≡ names_of (claims_of f) = ap names_in is ∙ names in
    let mean_all = subst (λ (os : List Obligation). AreTermsOf nodes (claims_of f) (terms_in os)) (sym is) mean in
    concluded kinds f budget p q (subst IsBank same bank) all term_is name_is
    (subst (λ (ns : List Node). AreTermsOf ns (claims_of f) (terms_in all)) same mean_all) before now SinkRose ended
    (subst (λ (ns : List Node). IsConcluded kinds f ns budget all before now SinkRose ended) same told)

-- what holds of a value that is answered, in other words
pub answered : {T E : Type 0} {P Q : T → Type 0} (r : Result T E) → IfOk r P → ((t : T) → P t → Q t) → IfOk r Q
answered (Ok t) p f = f t p
answered (Err e) p f = tt

-- the obligations are the file's, over nodes and a list that are those
pub made_in : (kinds : List RuleKind) (f : File) (nodes : List Node) (made all : List Obligation) → nodes ≡ (file_made kinds f []).nodes → IsBank nodes →
    all ≡ made → terms_in made ≡ (file_made kinds f []).value → ArePlaced made → AreMadeIn kinds f nodes all
made_in kinds f nodes made all same bank is terms placed = record {
  bank = bank;
  nodes_are = same;
  terms_are = ap terms_in is ∙ terms;
  placed = subst ArePlaced (sym is) placed;
}

-- there are as many obligations as the file has
pub as_many : (cs : List Claim) (made all : List Obligation) → all ≡ made → names_in made ≡ names_of cs → length all ≡ length cs
as_many cs made all is names =
    ap length is ∙ sym (length-map made (λ (o : Obligation). o.name)) ∙ ap length names ∙ length-map cs claim_name
