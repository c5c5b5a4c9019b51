-- Picks that a run takes from the front of a list.
use Rattle.std.proofs.Common.{◌≡◌, ℕ, zero, suc, ◌+◌, Bool, true, false, if◌then◌else◌, [], ◌∷◌, length, drop, nat_lt, ◌≤◌, refl, ap, ◌∙◌, subst, arith}
use Rattle.std.proofs.lemmas.Bool.{ltb-false}
use Rattle.ygg_sched.specs.ygg_disk.Power.{pick_of, after_pick, Takes}
use Rattle.ygg_sched.specs.ygg_disk.declared.power.Picks.{Picks as Source}
use Rattle.ygg_sched.specs.ygg_disk.declared.power.Power.{Power}
use Rattle.ygg_sched.specs.ygg_meaning.Machine.{Picks}
use Rattle.ygg_sched.specs.ygg_meaning.Obligations.{IsRead}
use Rattle.ygg_eval.specs.ygg_meaning_laws.Acts.{next_of, later, Taken}
use Rattle.ygg_eval.proofs.of_ygg_meaning_laws.Taking.{left_after, taken_read}
use Rattle.ygg_eval.specs.Taken.{TakesOnly}
use Rattle.ygg_replay.specs.Runs.{fresh}

-- the picks from one on that have not been taken
abbrev source : Picks → ℕ → Source
source bits next = record { bits = bits; next = next; past = false }

next_is : (bits : Picks) (n : ℕ) → pick_of (source bits n) ≡ next_of false (drop n bits)
next_is [] zero = refl
next_is [] (suc n) = refl
next_is (b ∷ bits) zero = refl
next_is (b ∷ bits) (suc n) = next_is bits n

drop_later : (bits : Picks) (n : ℕ) → drop (suc n) bits ≡ later (drop n bits)
drop_later [] zero = refl
drop_later [] (suc n) = refl
drop_later (b ∷ bits) zero = refl
drop_later (b ∷ bits) (suc n) = drop_later bits n

drop_end : (bits : Picks) (n : ℕ) → length bits ≤ n → drop n bits ≡ later (drop n bits)
drop_end [] zero h = refl
drop_end [] (suc n) h = refl
drop_end (b ∷ bits) zero h = absurd (omega (arith, h))
drop_end (b ∷ bits) (suc n) h = drop_end bits n (omega (arith, h))

later_is : (bits : Picks) (n : ℕ) → drop (after_pick (source bits n)).next bits ≡ later (drop n bits)
later_is bits n = by_more (nat_lt n (length bits)) refl
  where
    by_more : (more : Bool) → nat_lt n (length bits) ≡ more → drop (if more then n + 1 else n) bits ≡ later (drop n bits)
    by_more true h = let e : n + 1 ≡ suc n = omega arith in ap (λ k. drop k bits) e ∙ drop_later bits n
    by_more false h = drop_end bits n (ltb-false n (length bits) h)

takes_taken : (taken bits : Picks) (n : ℕ) (after : Source) → Takes taken (source bits n) after →
    Taken false taken (drop n bits) (left_after (length taken) (drop n bits))
takes_taken [] bits n after h = refl
takes_taken (t ∷ taken) bits n after h =
    let m = (after_pick (source bits n)).next in (
      h.0 ∙ next_is bits n,
      subst (λ rest. Taken false taken rest (left_after (length taken) rest)) (later_is bits n) (takes_taken taken bits m after h.1),
    )

-- what a run takes of these picks, it reads
pub reads : (picks taken : Picks) (power after : Power) → power ≡ fresh picks → TakesOnly taken power after → IsRead picks taken
reads picks taken power after is t =
    taken_read picks taken (left_after (length taken) picks)
    (takes_taken taken picks 0 after.picks (subst (λ (p : Power). Takes taken p.picks after.picks) is t.picks))
