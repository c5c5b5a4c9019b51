-- The replay of a text ends in one way.
use Rattle.std.proofs.Common.{◌≡◌, ℕ, List, Some, Ok, Err, inl, inr, refl, sym, ap, subst, ◌∙◌}
use Rattle.ygg_base.specs.declared.failure.Refusal.{Refusal}
use Rattle.ygg_base.specs.declared.status.Status.{Status}
use Rattle.ygg_base.specs.declared.status.Status.TheVariants.{Refuted, Refused}
use Rattle.ygg_syntax.specs.declared.tree.File.{File}
use Rattle.ygg_replay.specs.ygg_meaning.Replayed.{Replayed, Replays, Shows, Hypothesis, Passes}
use Rattle.ygg_replay.specs.ygg_meaning.Refines.{machine_below}
use Rattle.ygg_replay.specs.ygg_meaning.Claims.{Claim}
use Rattle.ygg_replay.proofs.of_ygg_meaning_laws.OneReplay.{one_replay}
use Rattle.ygg_replay.specs.ygg_report.Lines.{refused_line}
use Rattle.ygg_replay.specs.ygg_sched.declared.schedule.Schedule.{Schedule}
use Rattle.ygg_replay.specs.ygg_sched.Lines.{Read}
use Rattle.ygg_replay.specs.ygg_sched.Reading.{schedule_of}
use Rattle.ygg_replay.specs.Shown.{ShowsOf, meant}
use Rattle.ygg_replay.specs.Ending.{Replaying, status_of, line_of}
use Rattle.ygg_replay.specs.Laws.{OneEnding, Violated, RefutedExactly}

-- no text is read and refused
not_both : (r : Read Schedule) (x : Schedule) (refusal : Refusal) → r ≡ Ok x → r ≡ Err refusal → ⊥
not_both r x refusal a b = let h : Ok x ≡ Err refusal = sym a ∙ b in absurd (cc)

same_schedule : (r : Read Schedule) (x y : Schedule) → r ≡ Ok x → r ≡ Ok y → x ≡ y
same_schedule r x y a b = let h : Ok x ≡ Ok y = sym a ∙ b in cc

same_refusal : (r : Read Schedule) (x y : Refusal) → r ≡ Err x → r ≡ Err y → x ≡ y
same_refusal r x y a b = let h : Err x ≡ Err y = sym a ∙ b in cc

same_claim : (c d : Claim) → Some c ≡ Some d → c ≡ d
same_claim c d h = cc

-- a schedule shows one thing
one_shown : (f : File) (x : Schedule) (r s : Replayed) → ShowsOf f x r → ShowsOf f x s → r ≡ s
one_shown f x r s a b =
    let same = same_claim b.claim a.claim (sym b.named ∙ a.named) in
    one_replay a.claim.below a.claim.layer a.claim.obligation (meant a.claim x) r s a.replays
    (subst (λ (c : Claim). Replays c.layer (machine_below c.below) c.obligation (meant c x) s) same b.replays)

pub one_ending : OneEnding
one_ending f bytes status other text line (inl a) (inl b) = (
  a.status_is ∙ sym b.status_is,
  a.text_is ∙ ap refused_line (same_refusal (schedule_of f bytes) a.refusal b.refusal a.refused b.refused) ∙ sym b.text_is,
)
one_ending f bytes status other text line (inl a) (inr b) = absurd (not_both (schedule_of f bytes) b.schedule a.refusal b.read a.refused)
one_ending f bytes status other text line (inr a) (inl b) = absurd (not_both (schedule_of f bytes) a.schedule b.refusal a.read b.refused)
one_ending f bytes status other text line (inr a) (inr b) =
    let x = same_schedule (schedule_of f bytes) b.schedule a.schedule b.read a.read in
    let answer = one_shown f a.schedule a.answer b.answer a.shown (subst (λ (y : Schedule). ShowsOf f y b.answer) x b.shown) in (
      a.status_is ∙ ap status_of answer ∙ sym b.status_is,
      a.text_is ∙ ap (line_of a.schedule.name) answer ∙ ap (λ (y : Schedule). line_of y.name b.answer) (sym x) ∙ sym b.text_is,
    )

-- only a violation is a refutation
shows_of : (answer : Replayed) → Refuted ≡ status_of answer → answer ≡ Shows
shows_of Shows h = refl
shows_of (Hypothesis number) h = absurd (cc)
shows_of (Passes picks) h = absurd (cc)

to_violated : (f : File) (bytes : List ℕ) (status : Status) (text : List ℕ) → Replaying f bytes status text → status ≡ Refuted → Violated f bytes
to_violated f bytes status text (inl a) is = let h : Refuted ≡ Refused = sym is ∙ a.status_is in absurd (cc)
to_violated f bytes status text (inr a) is =
    let shown = subst (λ (r : Replayed). ShowsOf f a.schedule r) (shows_of a.answer (sym is ∙ a.status_is)) a.shown in
    record { schedule = a.schedule; read = a.read; claim = shown.claim; named = shown.named; violated = shown.replays }

from_violated : (f : File) (bytes : List ℕ) (status : Status) (text : List ℕ) → Replaying f bytes status text → Violated f bytes → status ≡ Refuted
from_violated f bytes status text (inl a) v = absurd (not_both (schedule_of f bytes) v.schedule a.refusal v.read a.refused)
from_violated f bytes status text (inr a) v =
    let x = same_schedule (schedule_of f bytes) v.schedule a.schedule v.read a.read in
    let shown : ShowsOf f v.schedule Shows = record { claim = v.claim; named = v.named; replays = v.violated } in
    a.status_is ∙ ap status_of (one_shown f a.schedule a.answer Shows a.shown (subst (λ (y : Schedule). ShowsOf f y Shows) x shown))

pub refuted_exactly : RefutedExactly
refuted_exactly f bytes status text h = (to_violated f bytes status text h, from_violated f bytes status text h)
