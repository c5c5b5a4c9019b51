-- A text is judged in one way only.
use Rattle.std.proofs.Common.{◌≡◌, ℕ, suc, ◌+◌, ◌<◌, List, [], ◌∷◌, ◌++◌, length, refl, sym, ap, subst, ◌∙◌, append_assoc, arith, ◌⊎◌, inl, inr}
use Rattle.std.specs.Prelude.{Contains}
use Rattle.std.proofs.lemmas.List.{append-nil, append_cancel_left, length-append}
use Rattle.ygg_cnf.specs.declared.log.Step.{Step}
use Rattle.ygg_cnf.specs.declared.log.Step.TheVariants.{Added}
use Rattle.ygg_cnf.specs.Logs.{clause_of}
use Rattle.ygg_cnf.specs.Lines.{step_line}
use Rattle.ygg_cnf.proofs.Decoding.{same_step}
use Rattle.ygg_base.specs.declared.failure.Refusal.{Refusal}
use Rattle.ygg_cert.specs.declared.item.Goal.{Goal}
use Rattle.ygg_cert.specs.declared.verdict.CertEnd.{CertEnd}
use Rattle.ygg_cert.specs.declared.verdict.CertEnd.TheVariants as cert
use Rattle.ygg_cert.specs.Texts.{closing_line}
use Rattle.ygg_cert.specs.Places.{Place, Start, Between, Within, End, MayStand, IsLineOf, IsDerived, IsBad, Leads, GoesOn}
use Rattle.ygg_cert.specs.Judging.{joined, LeadBy, Reaches, Judges, wrong_after, short_after}

-- the line after a log is the line of no step
no_step : (step : Step) (ps qs : List ℕ) → closing_line ++ ps ≡ step_line step ++ qs → ⊥
no_step (Added clause chain) ps qs is = differ 101 99 _ _ is (omega arith)
  where
    differ : (a b : ℕ) (xs ys : List ℕ) → a ∷ xs ≡ b ∷ ys → b < a → ⊥
    differ a b xs ys same less = let head : a ≡ b = cc in omega arith

-- two equal lines before others
cut_same : (x y ps qs : List ℕ) → x ≡ y → x ++ ps ≡ y ++ qs → (x ≡ y) × (ps ≡ qs)
cut_same x y ps qs same is = (same, append_cancel_left y ps qs (ap (λ (z : List ℕ). z ++ ps) (sym same) ∙ is))

-- two lines that may stand at a place and begin one text
same_line : (place : Place) (x y ps qs : List ℕ) → MayStand place x → MayStand place y → x ++ ps ≡ y ++ qs → (x ≡ y) × (ps ≡ qs)
same_line (Start goals) x y ps qs one two is = cut_same x y ps qs (one ∙ sym two) is
same_line (Between []) x y ps qs one two is = cut_same x y ps qs (one ∙ sym two) is
same_line (Between (g ∷ gs)) x y ps qs one two is = cut_same x y ps qs (one ∙ sym two) is
same_line (Within name held goals) x y ps qs one two is = by_lines one two
  where
    by_lines : (x ≡ closing_line) ⊎ ((step : Step) × IsLineOf step x) → (y ≡ closing_line) ⊎ ((step : Step) × IsLineOf step y) → (x ≡ y) × (ps ≡ qs)
    by_lines (inl a) (inl b) = cut_same x y ps qs (a ∙ sym b) is
    by_lines (inl a) (inr (t, b)) =
        absurd (no_step t ps qs (sym (ap (λ (z : List ℕ). z ++ ps) a) ∙ is ∙ ap (λ (z : List ℕ). z ++ qs) b.is))
    by_lines (inr (s, a)) (inl b) =
        absurd (no_step s qs ps (sym (ap (λ (z : List ℕ). z ++ qs) b) ∙ sym is ∙ ap (λ (z : List ℕ). z ++ ps) a.is))
    by_lines (inr (s, a)) (inr (t, b)) =
        let same = same_step s t ps qs a.may b.may (sym (ap (λ (z : List ℕ). z ++ ps) a.is) ∙ is ∙ ap (λ (z : List ℕ). z ++ qs) b.is) in
        cut_same x y ps qs (a.is ∙ ap step_line same.0 ∙ sym b.is) is
same_line End x y ps qs one two is = absurd one

-- a line that leads on, and one at fault in a log, may stand there
leads_may : (place : Place) (line : List ℕ) (to : Place) → Leads place line to → MayStand place line
leads_may (Start goals) line to leads = leads.0
leads_may (Between []) line to leads = leads.0
leads_may (Between (g ∷ gs)) line to leads = leads.0
leads_may (Within name held goals) line to (inl closes) = inl closes.0
leads_may (Within name held goals) line to (inr (step, adds)) = inr (step, adds.0)
leads_may End line to leads = absurd leads

bad_may : (place : Place) (line name : List ℕ) (number : ℕ) → IsBad place line name number → MayStand place line
bad_may (Within n held goals) line name number (named, inl closes) = inl closes.0
bad_may (Within n held goals) line name number (named, inr (step, adds)) = inr (step, adds.0)
bad_may (Start goals) line name number bad = absurd bad
bad_may (Between goals) line name number bad = absurd bad
bad_may End line name number bad = absurd bad

-- one line is not the line of two steps, nor both that of a step and that after a log
one_step : (line : List ℕ) (s t : Step) → IsLineOf s line → IsLineOf t line → s ≡ t
one_step line s t a b = (same_step s t [] [] a.may b.may (ap (λ (x : List ℕ). x ++ []) (sym a.is ∙ b.is))).0

not_both : {A : Type 0} (line : List ℕ) (s : Step) → line ≡ closing_line → IsLineOf s line → A
not_both line s a b = absurd (no_step s [] [] (ap (λ (x : List ℕ). x ++ []) (sym a ∙ b.is)))

-- a line leads to one place
leads_once : (place : Place) (line : List ℕ) (to other : Place) → Leads place line to → Leads place line other → to ≡ other
leads_once (Start goals) line to other one two = one.1 ∙ sym two.1
leads_once (Between []) line to other one two = one.1 ∙ sym two.1
leads_once (Between (g ∷ gs)) line to other one two = one.1 ∙ sym two.1
leads_once (Within name held goals) line to other (inl a) (inl b) = a.2 ∙ sym b.2
leads_once (Within name held goals) line to other (inl a) (inr (t, b)) = not_both line t a.0 b.0
leads_once (Within name held goals) line to other (inr (s, a)) (inl b) = not_both line s b.0 a.0
leads_once (Within name held goals) line to other (inr (s, a)) (inr (t, b)) =
    a.2 ∙ ap (λ (x : Step). Within name (held ++ clause_of x ∷ []) goals) (one_step line s t a.0 b.0) ∙ sym b.2
leads_once End line to other one two = absurd one

-- a line at fault leads nowhere, and is at fault in one way
bad_leads : (place : Place) (line name : List ℕ) (number : ℕ) (to : Place) → IsBad place line name number → Leads place line to → ⊥
bad_leads (Within n held goals) line name number to (named, inl a) (inl b) = a.1 b.1
bad_leads (Within n held goals) line name number to (named, inl a) (inr (t, b)) = not_both line t a.0 b.0
bad_leads (Within n held goals) line name number to (named, inr (s, a)) (inl b) = not_both line s b.0 a.0
bad_leads (Within n held goals) line name number to (named, inr (s, a)) (inr (t, b)) =
    a.1 (subst (λ (x : Step). IsDerived held x) (sym (one_step line s t a.0 b.0)) b.1)
bad_leads (Start goals) line name number to bad leads = absurd bad
bad_leads (Between goals) line name number to bad leads = absurd bad
bad_leads End line name number to bad leads = absurd bad

bad_once : (place : Place) (line name other : List ℕ) (m n : ℕ) → IsBad place line name m → IsBad place line other n → cert.Bad name m ≡ cert.Bad other n
bad_once (Within o held goals) line name other m n one two =
    ap (λ (x : List ℕ). cert.Bad x m) (one.0 ∙ sym two.0) ∙ ap (λ (k : ℕ). cert.Bad other k) (number one.1 two.1)
  where
    Fault : ℕ → Type 0
    Fault k =
        ((line ≡ closing_line) × (Contains held [] → ⊥) × (k ≡ 0))
        ⊎ ((step : Step) × (IsLineOf step line × (IsDerived held step → ⊥) × (k ≡ length held + 1)))

    number : Fault m → Fault n → m ≡ n
    number (inl a) (inl b) = a.2 ∙ sym b.2
    number (inl a) (inr (t, b)) = not_both line t a.0 b.0
    number (inr (s, a)) (inl b) = not_both line s b.0 a.0
    number (inr (s, a)) (inr (t, b)) = a.2 ∙ sym b.2
bad_once (Start goals) line name other m n one two = absurd one
bad_once (Between goals) line name other m n one two = absurd one
bad_once End line name other m n one two = absurd one

-- bytes that begin with a line that may stand there go on
may_goes_on : (place : Place) (bytes line others : List ℕ) → MayStand place line → bytes ≡ line ++ others → GoesOn place bytes
may_goes_on (Start goals) bytes line others may is = record { line = line; more = []; others = others; may = may; is = append-nil bytes ∙ is }
may_goes_on (Between goals) bytes line others may is = record { line = line; more = []; others = others; may = may; is = append-nil bytes ∙ is }
may_goes_on (Within name held goals) bytes line others may is =
    record { line = line; more = []; others = others; may = may; is = append-nil bytes ∙ is }
may_goes_on End bytes line others may is = absurd may

-- so does a front of a line that may stand there
cut_goes_on : (place : Place) (bytes : List ℕ) (next : ℕ) (more : List ℕ) → MayStand place (bytes ++ next ∷ more) → GoesOn place bytes
cut_goes_on (Start goals) bytes next more may =
    record { line = bytes ++ next ∷ more; more = next ∷ more; others = []; may = may; is = sym (append-nil (bytes ++ next ∷ more)) }
cut_goes_on (Between goals) bytes next more may =
    record { line = bytes ++ next ∷ more; more = next ∷ more; others = []; may = may; is = sym (append-nil (bytes ++ next ∷ more)) }
cut_goes_on (Within name held goals) bytes next more may =
    record { line = bytes ++ next ∷ more; more = next ∷ more; others = []; may = may; is = sym (append-nil (bytes ++ next ∷ more)) }
cut_goes_on End bytes next more may = absurd may

-- a front of a line begins with no line
cut_short : (place : Place) (bytes : List ℕ) (next : ℕ) (more line others : List ℕ) → MayStand place (bytes ++ next ∷ more) → MayStand place line →
    bytes ≡ line ++ others → ⊥
cut_short place bytes next more line others may one is =
    let same =
    same_line place line (bytes ++ next ∷ more) (others ++ next ∷ more) [] one may
    (sym (append_assoc line others (next ∷ more)) ∙ ap (λ (x : List ℕ). x ++ next ∷ more) (sym is) ∙ sym (append-nil (bytes ++ next ∷ more))) in
    let short : length bytes ≡ length line + length others = ap length is ∙ length-append line others in
    let long : length line ≡ length bytes + suc (length more) = ap length same.0 ∙ length-append bytes (next ∷ more) in
    omega arith

-- a judgement at a place where so many lines lead, and this follows them
abbrev Ends : List Goal → Place → ℕ → List ℕ → CertEnd → Type 0
Ends goals place count rest (cert.Checked checked) = (place ≡ End) × (rest ≡ []) × (checked ≡ length goals)
Ends goals place count rest (cert.Bad name number) =
    (line : List ℕ) × ((others : List ℕ) × ((rest ≡ line ++ others) × IsBad place line name number))
Ends goals place count rest (cert.Refused refusal) =
    ((GoesOn place rest → ⊥) × (refusal ≡ wrong_after count))
    ⊎ ((next : ℕ) × ((more : List ℕ) × (MayStand place (rest ++ next ∷ more) × (refusal ≡ short_after count (length rest)))))
Ends goals place count rest cert.Memory = ⊥

-- a judgement, with the place that it is made at
record Made (goals : List Goal) (text : List ℕ) (end : CertEnd) : Type 0 where
  place : Place
  count : ℕ
  rest : List ℕ
  reaches : Reaches goals text place count rest
  ends : Ends goals place count rest end

made : (goals : List Goal) (text : List ℕ) (end : CertEnd) → (end ≡ cert.Memory → ⊥) → Judges goals text end → Made goals text end
made goals text (cert.Checked checked) some judged =
    record { place = End; count = judged.count; rest = []; reaches = judged.reaches; ends = (refl, refl, judged.all) }
made goals text (cert.Bad name number) some judged = record {
  place = judged.place;
  count = judged.count;
  rest = judged.line ++ judged.others;
  reaches = judged.reaches;
  ends = (judged.line, (judged.others, (refl, judged.bad)));
}
made goals text (cert.Refused refusal) some (inl judged) = record {
  place = judged.place;
  count = judged.count;
  rest = judged.rest;
  reaches = judged.reaches;
  ends = inl (judged.wrong, judged.is);
}
made goals text (cert.Refused refusal) some (inr judged) = record {
  place = judged.place;
  count = judged.count;
  rest = judged.rest;
  reaches = judged.reaches;
  ends = inr (judged.next, (judged.more, (judged.may, judged.is)));
}
made goals text cert.Memory some judged = absurd (some refl)

-- a line that leads on follows
record Further (place : Place) (rest : List ℕ) : Type 0 where
  line : List ℕ
  others : List ℕ
  to : Place
  leads : Leads place line to
  is : rest ≡ line ++ others

-- a judgement is made where no line leads on
no_further : (goals : List Goal) (place : Place) (count : ℕ) (rest : List ℕ) (end : CertEnd) → Ends goals place count rest end → Further place rest → ⊥
no_further goals place count rest (cert.Checked checked) (here, none, all) further =
    absurd (subst (λ (p : Place). Leads p further.line further.to) here further.leads)
no_further goals place count rest (cert.Bad name number) (line, (others, (is, bad))) further =
    let same =
    same_line place line further.line others further.others (bad_may place line name number bad) (leads_may place further.line further.to further.leads)
    (sym is ∙ further.is) in
    bad_leads place line name number further.to bad (subst (λ (x : List ℕ). Leads place x further.to) (sym same.0) further.leads)
no_further goals place count rest (cert.Refused refusal) (inl (wrong, is)) further =
    wrong (may_goes_on place rest further.line further.others (leads_may place further.line further.to further.leads) further.is)
no_further goals place count rest (cert.Refused refusal) (inr (next, (more, (may, is)))) further =
    cut_short place rest next more further.line further.others may (leads_may place further.line further.to further.leads) further.is
no_further goals place count rest cert.Memory ends further = absurd ends

-- at one place one judgement is made
ends_once : (goals : List Goal) (place : Place) (count : ℕ) (rest : List ℕ) (a b : CertEnd) → Ends goals place count rest a →
    Ends goals place count rest b → a ≡ b
ends_once goals place count rest (cert.Checked m) (cert.Checked n) one two = ap (λ (k : ℕ). cert.Checked k) (one.2 ∙ sym two.2)
ends_once goals place count rest (cert.Checked m) (cert.Bad name number) one (line, (others, (is, bad))) =
    absurd (subst (λ (p : Place). IsBad p line name number) one.0 bad)
ends_once goals place count rest (cert.Checked m) (cert.Refused refusal) one (inl (wrong, is)) =
    absurd (wrong (subst (λ (p : Place). GoesOn p rest) (sym one.0) one.1))
ends_once goals place count rest (cert.Checked m) (cert.Refused refusal) one (inr (next, (more, (may, is)))) =
    absurd (subst (λ (p : Place). MayStand p (rest ++ next ∷ more)) one.0 may)
ends_once goals place count rest (cert.Bad name number) (cert.Checked n) (line, (others, (is, bad))) two =
    absurd (subst (λ (p : Place). IsBad p line name number) two.0 bad)
ends_once goals place count rest (cert.Bad name number) (cert.Bad other n) (line, (others, (is, bad))) (l, (o, (e, also))) =
    let same = same_line place line l others o (bad_may place line name number bad) (bad_may place l other n also) (sym is ∙ e) in
    bad_once place line name other number n bad (subst (λ (x : List ℕ). IsBad place x other n) (sym same.0) also)
ends_once goals place count rest (cert.Bad name number) (cert.Refused refusal) (line, (others, (is, bad))) (inl (wrong, e)) =
    absurd (wrong (may_goes_on place rest line others (bad_may place line name number bad) is))
ends_once goals place count rest (cert.Bad name number) (cert.Refused refusal) (line, (others, (is, bad))) (inr (next, (more, (may, e)))) =
    absurd (cut_short place rest next more line others may (bad_may place line name number bad) is)
ends_once goals place count rest (cert.Refused refusal) (cert.Checked n) (inl (wrong, is)) two =
    absurd (wrong (subst (λ (p : Place). GoesOn p rest) (sym two.0) two.1))
ends_once goals place count rest (cert.Refused refusal) (cert.Checked n) (inr (next, (more, (may, is)))) two =
    absurd (subst (λ (p : Place). MayStand p (rest ++ next ∷ more)) two.0 may)
ends_once goals place count rest (cert.Refused refusal) (cert.Bad name number) (inl (wrong, e)) (line, (others, (is, bad))) =
    absurd (wrong (may_goes_on place rest line others (bad_may place line name number bad) is))
ends_once goals place count rest (cert.Refused refusal) (cert.Bad name number) (inr (next, (more, (may, e)))) (line, (others, (is, bad))) =
    absurd (cut_short place rest next more line others may (bad_may place line name number bad) is)
ends_once goals place count rest (cert.Refused refusal) (cert.Refused other) (inl (wrong, is)) (inl (also, e)) =
    ap (λ (r : Refusal). cert.Refused r) (is ∙ sym e)
ends_once goals place count rest (cert.Refused refusal) (cert.Refused other) (inl (wrong, is)) (inr (next, (more, (may, e)))) =
    absurd (wrong (cut_goes_on place rest next more may))
ends_once goals place count rest (cert.Refused refusal) (cert.Refused other) (inr (next, (more, (may, is)))) (inl (wrong, e)) =
    absurd (wrong (cut_goes_on place rest next more may))
ends_once goals place count rest (cert.Refused refusal) (cert.Refused other) (inr (next, (more, (may, is)))) (inr (n, (m, (also, e)))) =
    ap (λ (r : Refusal). cert.Refused r) (is ∙ sym e)
ends_once goals place count rest (cert.Checked m) cert.Memory one two = absurd two
ends_once goals place count rest (cert.Bad name number) cert.Memory one two = absurd two
ends_once goals place count rest (cert.Refused refusal) cert.Memory one two = absurd two
ends_once goals place count rest cert.Memory b one two = absurd one

-- two places that lines of one text lead to from one place are one, or a line leads on from one of them
abbrev Compared : Place → Place → List (List ℕ) → List (List ℕ) → List ℕ → List ℕ → Type 0
Compared p q xs ys t u = ((length xs ≡ length ys) × (p ≡ q) × (t ≡ u)) ⊎ (Further p t ⊎ Further q u)

compared : (from p q : Place) (xs ys : List (List ℕ)) (t u : List ℕ) → LeadBy from xs p → LeadBy from ys q → joined xs ++ t ≡ joined ys ++ u
    → Compared p q xs ys t u
compared from p q [] [] t u one two is = inl (refl, sym one ∙ two, is)
compared from p q [] (y ∷ ys) t u one (next, (leads, others)) is =
    inr (inl (record {
      line = y;
      others = joined ys ++ u;
      to = next;
      leads = subst (λ (r : Place). Leads r y next) one leads;
      is = is ∙ append_assoc y (joined ys) u;
    }))
compared from p q (x ∷ xs) [] t u (next, (leads, others)) two is =
    inr (inr (record {
      line = x;
      others = joined xs ++ t;
      to = next;
      leads = subst (λ (r : Place). Leads r x next) two leads;
      is = sym is ∙ append_assoc x (joined xs) t;
    }))
compared from p q (x ∷ xs) (y ∷ ys) t u (a, (first, rest)) (b, (second, others)) is = by_rest (compared b p q xs ys t u rest_b others same.1)
  where
    same : (x ≡ y) × (joined xs ++ t ≡ joined ys ++ u)
    same =
        same_line from x y (joined xs ++ t) (joined ys ++ u) (leads_may from x a first) (leads_may from y b second)
        (sym (append_assoc x (joined xs) t) ∙ is ∙ append_assoc y (joined ys) u)

    rest_b : LeadBy b xs p
    rest_b =
        subst (λ (r : Place). LeadBy r xs p) (leads_once from y a b (subst (λ (l : List ℕ). Leads from l a) same.0 first) second) rest

    by_rest : Compared p q xs ys t u → Compared p q (x ∷ xs) (y ∷ ys) t u
    by_rest (inl (count, here, left)) = inl (ap (λ (n : ℕ). suc n) count, here, left)
    by_rest (inr further) = inr further

pub judged_once : (goals : List Goal) (text : List ℕ) (a b : CertEnd) → (a ≡ cert.Memory → ⊥) → (b ≡ cert.Memory → ⊥) →
    Judges goals text a → Judges goals text b
    → a ≡ b
judged_once goals text a b some_a some_b one two = by_places (made goals text a some_a one) (made goals text b some_b two)
  where
    by_places : Made goals text a → Made goals text b → a ≡ b
    by_places m n =
        by_compared (compared (Start goals) m.place n.place m.reaches.lines n.reaches.lines m.rest n.rest m.reaches.lead n.reaches.lead
        (sym m.reaches.is ∙ n.reaches.is))
      where
        by_compared : Compared m.place n.place m.reaches.lines n.reaches.lines m.rest n.rest → a ≡ b
        by_compared (inl (count, here, left)) =
            let counts : n.count ≡ m.count = sym n.reaches.counted ∙ sym count ∙ m.reaches.counted in
            let ends : Ends goals m.place m.count m.rest b =
            subst (λ (p : Place). Ends goals p m.count m.rest b) (sym here)
            (subst (λ (r : List ℕ). Ends goals n.place m.count r b) (sym left)
            (subst (λ (k : ℕ). Ends goals n.place k n.rest b) counts n.ends)) in
            ends_once goals m.place m.count m.rest a b m.ends ends
        by_compared (inr (inl further)) = absurd (no_further goals m.place m.count m.rest a m.ends further)
        by_compared (inr (inr further)) = absurd (no_further goals n.place n.count n.rest b n.ends further)
