-- What disk calls leave of `power`: the picks that are left, how many were counted, and the events that show them.
use Rattle.std.proofs.Common.{◌≡◌, ◌≤◌, ℕ, zero, suc, ◌+◌, ◌-◌, ◌^◌, Bool, true, false, if◌then◌else◌, List, []}
use Rattle.std.proofs.Common.{◌∷◌, ◌++◌, length, drop, nat_lt, Option, Some, refl, sym, ap, ◌∙◌, subst, append_assoc, arith}
use Rattle.std.proofs.lemmas.Bool.{ltb-false}
use Rattle.std.proofs.lemmas.List.{append-nil}
use Rattle.std.proofs.lemmas.List.Elements.{All-head, All-tail}
use Rattle.ygg_run_play.specs.ygg_disk.Power.{pick_of, after_pick, Takes, noted, event_of, shown, counted}
use Rattle.ygg_run_play.specs.ygg_disk.declared.power.Picks.{Picks as Source}
use Rattle.ygg_run_play.specs.ygg_disk.declared.power.Power.{Power}
use Rattle.ygg_run_play.specs.ygg_disk.declared.turn.Event.{Event}
use Rattle.ygg_run_play.specs.ygg_meaning.Machine.{Picks}
use Rattle.ygg_run_play.specs.ygg_meaning.Noted.{Note, picks_in}
use Rattle.ygg_run_play.specs.ygg_meaning_laws.Acts.{next_of, later, Taken}
use Rattle.ygg_run_play.proofs.of_ygg_meaning_laws.Taking.{taken_append}
use Rattle.ygg_run_play.specs.Lines.{events_of}
use Rattle.ygg_run_play.specs.Scene.{Leave, AreWhole}
use Rattle.ygg_run_play.specs.Doing.{left_of}

-- the picks from one on that have not been taken
abbrev source : Picks → ℕ → Bool → Source
source bits next past = record { bits = bits; next = next; past = past }

next_is : (bits : Picks) (n : ℕ) (past : Bool) → pick_of (source bits n past) ≡ next_of past (drop n bits)
next_is [] zero past = refl
next_is [] (suc n) past = refl
next_is (b ∷ bits) zero past = refl
next_is (b ∷ bits) (suc n) past = next_is bits n past

drop_later : (bits : Picks) (n : ℕ) → drop (suc n) bits ≡ later (drop n bits)
drop_later [] zero = refl
drop_later [] (suc n) = refl
drop_later (b ∷ bits) zero = refl
drop_later (b ∷ bits) (suc n) = drop_later bits n

drop_end : (bits : Picks) (n : ℕ) → length bits ≤ n → drop n bits ≡ later (drop n bits)
drop_end [] zero h = refl
drop_end [] (suc n) h = refl
drop_end (b ∷ bits) zero h = absurd (omega (arith, h))
drop_end (b ∷ bits) (suc n) h = drop_end bits n (omega (arith, h))

later_is : (bits : Picks) (n : ℕ) (past : Bool) → left_of (after_pick (source bits n past)) ≡ later (drop n bits)
later_is bits n past = by_more (nat_lt n (length bits)) refl
  where
    by_more : (more : Bool) → nat_lt n (length bits) ≡ more → drop (if more then n + 1 else n) bits ≡ later (drop n bits)
    by_more true h = let e : n + 1 ≡ suc n = omega arith in ap (λ k. drop k bits) e ∙ drop_later bits n
    by_more false h = drop_end bits n (ltb-false n (length bits) h)

-- the next picks, past whose end each is 1, are taken
takes_taken : (taken : Picks) (p after : Source) → p.past ≡ true → Takes taken p after →
    Taken true taken (left_of p) (left_of after) × (after.past ≡ true)
takes_taken [] p after past h = (ap left_of h, ap (λ (q : Source). q.past) h ∙ past)
takes_taken (t ∷ taken) p after past h =
    let more = takes_taken taken (after_pick p) after past h.1 in (
      (
        h.0 ∙ next_is p.bits p.next p.past ∙ ap (λ (b : Bool). next_of b (left_of p)) past,
        subst (λ (rest : Picks). Taken true taken rest (left_of after)) (later_is p.bits p.next p.past) more.0,
      ),
      more.1,
    )

pub leave_taken : (notes : List Note) (before after : Power) → before.picks.past ≡ true → Leave notes before after →
    Taken true (picks_in notes) (left_of before.picks) (left_of after.picks) × (after.picks.past ≡ true)
leave_taken [] before after past h = (ap (λ (p : Power). left_of p.picks) h, ap (λ (p : Power). p.picks.past) h ∙ past)
leave_taken (n ∷ ns) before after past (next, begun, rest) =
    let one = takes_taken n.picks before.picks next.picks past begun.picks in
    let more = leave_taken ns next after one.1 rest in
    (taken_append true n.picks (picks_in ns) (left_of before.picks) (left_of next.picks) (left_of after.picks) one.0 more.0, more.1)

pub leave_fuse : (notes : List Note) (before after : Power) → Leave notes before after → after.fuse ≡ before.fuse
leave_fuse [] before after h = ap (λ (p : Power). p.fuse) h
leave_fuse (n ∷ ns) before after (next, begun, rest) = leave_fuse ns next after rest ∙ begun.fuse

pub leave_events : (notes : List Note) (before after : Power) (events : List Event) → before.events ≡ Some events → Leave notes before after →
    after.events ≡ Some (events ++ events_of notes)
leave_events [] before after events is h = ap (λ (p : Power). p.events) h ∙ is ∙ ap (λ (es : List Event). Some es) (sym (append-nil events))
leave_events (n ∷ ns) before after events is (next, begun, rest) =
    let e = event_of n.call n.cut (shown n.cut n.call n.picks) in
    let seen = begun.events.0 in
    let shows : next.events ≡ Some (events ++ e ∷ []) =
    begun.events.1 ∙ ap (λ (es : Option (List Event)). noted n.call n.cut seen es) is
    ∙ ap (λ (s : List Bool). Some (events ++ event_of n.call n.cut s ∷ [])) begun.events.2 in
    leave_events ns next after (events ++ e ∷ []) shows rest ∙ ap (λ (es : List Event). Some es) (append_assoc events (e ∷ []) (events_of ns))

-- whole calls are counted, where the count doesn't stand at its end
pub leave_counted : (notes : List Note) (before after : Power) → AreWhole notes → before.passed + length notes ≤ 2 ^ 64 - 1 → Leave notes before after →
    after.passed ≡ before.passed + length notes
leave_counted [] before after whole fits h = let e : before.passed ≡ before.passed + 0 = omega arith in ap (λ (p : Power). p.passed) h ∙ e
leave_counted (n ∷ ns) before after whole fits (next, begun, rest) =
    let one : next.passed ≡ counted before.passed =
    begun.passed ∙ ap (λ (cut : Bool). if cut then before.passed else counted before.passed) (All-head (λ (m : Note). m.cut ≡ false) n ns whole) in
    let step : next.passed ≡ before.passed + 1 = omega (arith, one, fits) in
    let more = leave_counted ns next after (All-tail (λ (m : Note). m.cut ≡ false) n ns whole) (omega (arith, step, fits)) rest in
    omega (arith, more, step)

-- a call that power cut isn't counted
pub leave_cut : (n : Note) (before after : Power) → n.cut ≡ true → Leave (n ∷ []) before after → after.passed ≡ before.passed
leave_cut n before after cut (next, begun, rest) =
    ap (λ (p : Power). p.passed) rest ∙ begun.passed ∙ ap (λ (c : Bool). if c then before.passed else counted before.passed) cut

pub leave_split : (first second : List Note) (before after : Power) → Leave (first ++ second) before after →
    (middle : Power) × Leave first before middle × Leave second middle after
leave_split [] second before after h = (before, refl, h)
leave_split (n ∷ ns) second before after (next, begun, rest) =
    let (middle, first, last) = leave_split ns second next after rest in (middle, (next, begun, first), last)
