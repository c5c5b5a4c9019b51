-- The next picks are taken one after another.
use Rattle.std.proofs.Common.{◌≡◌, ℕ, zero, suc, ◌+◌, Bool, List, [], ◌∷◌, length, refl, ap, ◌∙◌, arith}
use Rattle.ygg_disk.specs.Power.{after_pick, AreNext, Takes}
use Rattle.ygg_disk.specs.declared.power.Picks.{Picks}

-- the picks after so many were taken
abbrev pub after_picks : ℕ → Picks → Picks
after_picks zero p = p
after_picks (suc n) p = after_picks n (after_pick p)

-- one more is taken after so many
next_more : (n : ℕ) (p : Picks) → after_picks (suc n) p ≡ after_pick (after_picks n p)
next_more zero p = refl
next_more (suc n) p = next_more n (after_pick p)

pub after_more : (n : ℕ) (p : Picks) → after_picks (n + 1) p ≡ after_pick (after_picks n p)
after_more n p = let e : n + 1 ≡ suc n = omega arith in ap (λ k. after_picks k p) e ∙ next_more n p

-- where they are the next ones, they are taken by as many steps
pub all_taken : (picks : List Bool) (p : Picks) → AreNext picks p → Takes picks p (after_picks (length picks) p)
all_taken [] p h = refl
all_taken (pick ∷ picks) p (here, rest) = (here, all_taken picks (after_pick p) rest)
