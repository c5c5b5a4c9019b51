-- Marks that stand at places.
use Rattle.std.proofs.Common.{◌≡◌, ℕ, zero, suc, List, [], ◌∷◌, ◌++◌, map, refl, ap, ◌∙◌}
use Rattle.ygg_base.specs.declared.token.Mark.{Mark}
use Rattle.ygg_base.specs.declared.token.Token.{Token}
use Rattle.ygg_syntax.specs.declared.tree.Place.{Place}
use Rattle.ygg_syntax.specs.Reading.{token}

-- the tokens of these marks, each at the place of its number
abbrev pub stand : (ℕ → Place) → List Mark → List Token
stand at [] = []
stand at (m ∷ ms) = token m (at 0) ∷ stand (λ k. at (suc k)) ms

-- the places of what comes behind these marks
abbrev pub behind : List Mark → (ℕ → Place) → ℕ → Place
behind [] at = at
behind (m ∷ ms) at = behind ms (λ k. at (suc k))

pub stand_append : (at : ℕ → Place) (ms ns : List Mark) → stand at (ms ++ ns) ≡ stand at ms ++ stand (behind ms at) ns
stand_append at [] ns = refl
stand_append at (m ∷ ms) ns = ap (λ (ts : List Token). token m (at 0) ∷ ts) (stand_append (λ k. at (suc k)) ms ns)

-- a place, and those after it
abbrev from_first : Place → (ℕ → Place) → ℕ → Place
from_first first others zero = first
from_first first others (suc k) = others k

place_of : Token → Place
place_of t = record { line = t.line; column = t.column }

-- tokens with these marks stand at some places
pub standing : (ts : List Token) (ms : List Mark) → map (λ (t : Token). t.mark) ts ≡ ms → (at : ℕ → Place) × (ts ≡ stand at ms)
unfolding place_of
standing [] [] e = (λ k. record { line = 0; column = 0 }, refl)
standing [] (m ∷ ms) e = absurd (cc)
standing (t ∷ ts) [] e = absurd (cc)
standing (t ∷ ts) (m ∷ ms) e =
    let h : t.mark ≡ m = cc in
    let l : map (λ (t : Token). t.mark) ts ≡ ms = cc in
    let others = standing ts ms l in (
      from_first (place_of t) others.0,
      ap (λ (k : Mark). record { mark = k; line = t.line; column = t.column } ∷ ts) h
          ∙ ap (λ (us : List Token). token m (place_of t) ∷ us) others.1,
    )
