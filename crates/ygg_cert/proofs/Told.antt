-- What a reader of certificates says.
use Rattle.std.proofs.Common.{◌≡◌, ℕ, ◌+◌, List, [], ◌∷◌, ◌++◌, length, drop, refl, sym, ap, subst, inl, inr}
use Rattle.std.specs.Prelude.{codes}
use Rattle.ygg_cnf.proofs.Ending.{can_end}
use Rattle.ygg_base.specs.declared.failure.Refusal.{Refusal}
use Rattle.ygg_cert.specs.declared.item.Goal.{Goal}
use Rattle.ygg_cert.specs.declared.expected.Expected.{Expected}
use Rattle.ygg_cert.specs.declared.verdict.CertEnd.{CertEnd}
use Rattle.ygg_cert.specs.declared.verdict.CertEnd.TheVariants as cert
use Rattle.ygg_cert.specs.declared.verdict.Fed.TheVariants as fed
use Rattle.ygg_cert.specs.declared.log.LogReading.{LogReading}
use Rattle.ygg_cert.specs.declared.log.LogLine.{LogLine}
use Rattle.ygg_cert.specs.declared.log.LogLine.TheVariants as line
use Rattle.ygg_cert.specs.declared.phase.Phase.{Phase}
use Rattle.ygg_cert.specs.declared.phase.Phase.TheVariants as phase
use Rattle.ygg_cert.specs.declared.reading.Reading.{Reading}
use Rattle.ygg_cert.specs.Texts.{first_line, goal_line, last_line}
use Rattle.ygg_cert.specs.Places.{Place, Start, Between, Within, End, MayStand}
use Rattle.ygg_cert.specs.Judging.{Reaches, IsWhole, IsWrongAt, IsCutAt, Judges, SoFar, wrong_after, short_after}
use Rattle.ygg_cert.specs.Matching.{IsMatching}
use Rattle.ygg_cert.specs.Standing.{IsLogAt, IsOpening, IsOn, IsFed}
use Rattle.ygg_cert.specs.Telling.{IsChecked, IsRefusal, Tells, fed_of}

-- bytes that can be continued to a line that may stand at the place
abbrev IsFront : Place → List ℕ → Type 0
IsFront place bytes = (next : ℕ) × ((more : List ℕ) × MayStand place (bytes ++ next ∷ more))

-- a text that ends within a line of a log, or before one
line_cut : (log : LogReading) (gs : List Goal) (bytes : List ℕ) → IsLogAt bytes log → IsFront (Within log.name log.checker gs) bytes
line_cut log gs bytes at = by_line log.at refl
  where
    by_line : (l : LogLine) → log.at ≡ l → IsFront (Within log.name log.checker gs) bytes
    by_line line.Begin is =
        let l = rw is at at.line in
        (101, (10 ∷ [], inl (ap (λ (x : List ℕ). x ++ 101 ∷ 10 ∷ []) l.0)))
    by_line line.Closing is =
        let l : bytes ≡ codes "e" = rw is at at.line in
        (10, ([], inl (ap (λ (x : List ℕ). x ++ 10 ∷ []) l)))
    by_line line.Step is =
        let l = rw is at at.line in
        let end = can_end bytes log.step l.0 in
        (end.next, (end.others, inr (end.step, record { may = end.may; is = end.is })))

-- within another line, or before it
exact_cut : (place : Place) (line bytes : List ℕ) (e : Expected) → IsMatching line bytes e → MayStand place line → IsFront place bytes
exact_cut place line bytes e m may = (m.next, (m.rest, subst (λ (x : List ℕ). MayStand place x) m.is may))

first_cut : (goals : List Goal) (place : Place) (bytes : List ℕ) (e : Expected) → place ≡ Start goals → IsMatching first_line bytes e → IsFront place bytes
first_cut goals place bytes e here m = exact_cut place first_line bytes e m (subst (λ (p : Place). MayStand p first_line) (sym here) refl)

opening_cut : (goals : List Goal) (place : Place) (bytes : List ℕ) (e : Expected) (log : LogReading) (passed : ℕ) →
    IsOpening goals place bytes (record { phase = phase.Opening; line = e; log = log; passed = passed })
    → IsFront place bytes
opening_cut goals place bytes e log passed was =
    exact_cut place (goal_line was.goal) bytes e was.line (subst (λ (p : Place). MayStand p (goal_line was.goal)) (sym was.here) refl)

last_cut : (place : Place) (bytes : List ℕ) (e : Expected) → place ≡ Between [] → IsMatching last_line bytes e → IsFront place bytes
last_cut place bytes e here m = exact_cut place last_line bytes e m (subst (λ (p : Place). MayStand p last_line) (sym here) refl)

log_cut : (goals : List Goal) (place : Place) (bytes : List ℕ) (log : LogReading) (passed : ℕ) →
    place ≡ Within log.name log.checker (drop (passed + 1) goals) → IsLogAt bytes log
    → IsFront place bytes
log_cut goals place bytes log passed here at =
    subst (λ (p : Place). IsFront p bytes) (sym here) (line_cut log (drop (passed + 1) goals) bytes at)

-- a text that ends too early
cut_at : (goals : List Goal) (text : List ℕ) (r : Reading) (on : IsOn goals text r) → IsFront on.place on.bytes →
    IsCutAt goals text (short_after r.lines r.column)
cut_at goals text r on cut = record {
  place = on.place;
  count = r.lines;
  rest = on.bytes;
  next = cut.0;
  more = cut.1.0;
  reaches = on.reaches;
  may = cut.1.1;
  is = ap (short_after r.lines) on.column;
}

-- a text that ends after its last line
on_whole : (goals : List Goal) (text : List ℕ) (r : Reading) (on : IsOn goals text r) → on.place ≡ End → on.bytes ≡ [] → r.next.passed ≡ length goals
    → IsWhole goals text r.next.passed
on_whole goals text r on here none all = record {
  count = r.lines;
  reaches =
      subst (λ (x : List ℕ). Reaches goals text End r.lines x) none
      (subst (λ (x : Place). Reaches goals text x r.lines on.bytes) here on.reaches);
  all = all;
}

-- what is said of the bytes so far
so_far_by : (goals : List Goal) (text : List ℕ) (p : Phase) (line : Expected) (log : LogReading) (passed lines column : ℕ) →
    IsFed goals text (record { next = record { phase = p; line = line; log = log; passed = passed }; lines = lines; column = column })
    → SoFar goals text (fed_of p)
so_far_by goals text phase.First line log passed lines column was =
    inr (short_after lines column, cut_at goals text _ was (first_cut goals was.place was.bytes line was.at.0 was.at.1))
so_far_by goals text phase.Opening line log passed lines column was =
    inr (short_after lines column, cut_at goals text _ was (opening_cut goals was.place was.bytes line log passed was.at))
so_far_by goals text phase.Log line log passed lines column was =
    inr (short_after lines column, cut_at goals text _ was (log_cut goals was.place was.bytes log passed was.at.0 was.at.1))
so_far_by goals text phase.Last line log passed lines column was =
    inr (short_after lines column, cut_at goals text _ was (last_cut was.place was.bytes line was.at.0 was.at.1))
so_far_by goals text phase.End line log passed lines column was = inl (passed, on_whole goals text _ was was.at.0 was.at.1 was.at.2)
so_far_by goals text (phase.Bad number) line log passed lines column was = (cert.Bad log.name number, was)
so_far_by goals text phase.Wrong line log passed lines column was = (cert.Refused (wrong_after lines), was)
so_far_by goals text phase.GivenUp line log passed lines column was = tt

pub fed_so_far : (goals : List Goal) (text : List ℕ) (r : Reading) → IsFed goals text r → SoFar goals text (fed_of r.next.phase)
fed_so_far goals text r was = so_far_by goals text r.next.phase r.next.line r.next.log r.next.passed r.lines r.column was

-- what is said of a text that is refused, or whole
refused_cut : (goals : List Goal) (text : List ℕ) (refusal : Refusal) (end : CertEnd) → IsCutAt goals text refusal → IsRefusal refusal end →
    Judges goals text end
refused_cut goals text refusal (cert.Checked count) cut says = absurd says
refused_cut goals text refusal (cert.Bad name number) cut says = absurd says
refused_cut goals text refusal (cert.Refused said) cut says = inr (subst (λ (x : Refusal). IsCutAt goals text x) (sym says) cut)
refused_cut goals text refusal cert.Memory cut says = tt

refused_wrong : (goals : List Goal) (text : List ℕ) (refusal : Refusal) (end : CertEnd) → IsWrongAt goals text refusal → IsRefusal refusal end
    → Judges goals text end
refused_wrong goals text refusal (cert.Checked count) wrong says = absurd says
refused_wrong goals text refusal (cert.Bad name number) wrong says = absurd says
refused_wrong goals text refusal (cert.Refused said) wrong says = inl (subst (λ (x : Refusal). IsWrongAt goals text x) (sym says) wrong)
refused_wrong goals text refusal cert.Memory wrong says = tt

whole_judged : (goals : List Goal) (text : List ℕ) (passed : ℕ) (end : CertEnd) → IsWhole goals text passed → IsChecked passed end → Judges goals text end
whole_judged goals text passed (cert.Checked count) whole says = subst (λ (n : ℕ). IsWhole goals text n) (sym says) whole
whole_judged goals text passed (cert.Bad name number) whole says = absurd says
whole_judged goals text passed (cert.Refused said) whole says = absurd says
whole_judged goals text passed cert.Memory whole says = tt

-- what is said of a text of which all is read
judged_by : (goals : List Goal) (text : List ℕ) (p : Phase) (line : Expected) (log : LogReading) (passed lines column : ℕ) (end : CertEnd) →
    Tells p log.name passed lines column end →
    IsFed goals text (record { next = record { phase = p; line = line; log = log; passed = passed }; lines = lines; column = column })
    → Judges goals text end
judged_by goals text phase.First line log passed lines column end says was =
    refused_cut goals text (short_after lines column) end (cut_at goals text _ was (first_cut goals was.place was.bytes line was.at.0 was.at.1)) says
judged_by goals text phase.Opening line log passed lines column end says was =
    refused_cut goals text (short_after lines column) end (cut_at goals text _ was (opening_cut goals was.place was.bytes line log passed was.at)) says
judged_by goals text phase.Log line log passed lines column end says was =
    refused_cut goals text (short_after lines column) end (cut_at goals text _ was (log_cut goals was.place was.bytes log passed was.at.0 was.at.1)) says
judged_by goals text phase.Last line log passed lines column end says was =
    refused_cut goals text (short_after lines column) end (cut_at goals text _ was (last_cut was.place was.bytes line was.at.0 was.at.1)) says
judged_by goals text phase.End line log passed lines column end says was =
    whole_judged goals text passed end (on_whole goals text _ was was.at.0 was.at.1 was.at.2) says
judged_by goals text (phase.Bad number) line log passed lines column end says was = subst (λ (x : CertEnd). Judges goals text x) (sym says) was
judged_by goals text phase.Wrong line log passed lines column end says was = refused_wrong goals text (wrong_after lines) end was says
judged_by goals text phase.GivenUp line log passed lines column end says was = subst (λ (x : CertEnd). Judges goals text x) (sym says) tt

pub told_judged : (goals : List Goal) (text : List ℕ) (r : Reading) (end : CertEnd) →
    Tells r.next.phase r.next.log.name r.next.passed r.lines r.column end → IsFed goals text r
    → Judges goals text end
told_judged goals text r end says was =
    judged_by goals text r.next.phase r.next.line r.next.log r.next.passed r.lines r.column end says was

-- where no memory was left, no more is said
pub told_lost : (p : Phase) (name : List ℕ) (passed lines column : ℕ) (end : CertEnd) → Tells p name passed lines column end → fed_of p ≡ fed.Memory
    → end ≡ cert.Memory
told_lost phase.First name passed lines column end says lost = absurd cc
told_lost phase.Opening name passed lines column end says lost = absurd cc
told_lost phase.Log name passed lines column end says lost = absurd cc
told_lost phase.Last name passed lines column end says lost = absurd cc
told_lost phase.End name passed lines column end says lost = absurd cc
told_lost (phase.Bad number) name passed lines column end says lost = absurd cc
told_lost phase.Wrong name passed lines column end says lost = absurd cc
told_lost phase.GivenUp name passed lines column end says lost = says
