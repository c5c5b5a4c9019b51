-- Taking picks from a list.
use Rattle.std.proofs.Common.{◌≡◌, ℕ, zero, suc, Bool, false, [], ◌∷◌, ◌++◌, length, take, replicate, refl, sym, ap, ◌∙◌, subst, ◌+◌, arith}
use Rattle.ygg_meaning_laws.specs.Machine.{Picks}
use Rattle.ygg_meaning_laws.specs.Obligations.{IsRead}
use Rattle.ygg_meaning_laws.specs.Acts.{next_of, later, Taken}

-- two lists are taken one after the other
pub taken_append : (past : Bool) (a b picks mid left : Picks) → Taken past a picks mid → Taken past b mid left → Taken past (a ++ b) picks left
taken_append past [] b picks mid left h g = subst (λ z. Taken past b z left) h g
taken_append past (t ∷ a) b picks mid left h g = (h.0, taken_append past a b (later picks) mid left h.1 g)

-- where two lists are taken one after the other
pub record Split (past : Bool) (a b picks left : Picks) : Type 0 where
  pub mid : Picks
  pub first : Taken past a picks mid
  pub second : Taken past b mid left

pub taken_split : (past : Bool) (a b picks left : Picks) → Taken past (a ++ b) picks left → Split past a b picks left
taken_split past [] b picks left h = record { mid = picks; first = refl; second = h }
taken_split past (t ∷ a) b picks left h =
    let s = taken_split past a b (later picks) left h.1 in record { mid = s.mid; first = (h.0, s.first); second = s.second }

-- what is left after so many picks
abbrev pub left_after : ℕ → Picks → Picks
left_after zero picks = picks
left_after (suc n) picks = left_after n (later picks)

-- the next so many picks
abbrev pub front : Bool → ℕ → Picks → Picks
front past zero picks = []
front past (suc n) picks = next_of past picks ∷ front past n (later picks)

front_is : (past : Bool) (n m k : ℕ) → m ≡ n + k → (picks : Picks) → take n (picks ++ replicate m past) ≡ front past n picks
front_is past zero m k e picks = refl
front_is past (suc n) zero k e [] = absurd (omega (arith, e))
front_is past (suc n) (suc m) k e [] = ap (λ z. past ∷ z) (front_is past n m k (omega (arith, e)) [])
front_is past (suc n) m k e (p ∷ picks) = ap (λ z. p ∷ z) (front_is past n m (k + 1) (omega (arith, e)) picks)

taken_front : (past : Bool) (picks taken : Picks) → taken ≡ front past (length taken) picks → Taken past taken picks (left_after (length taken) picks)
taken_front past picks [] h = refl
taken_front past picks (t ∷ taken) h = (first_is h, taken_front past (later picks) taken (rest_is h))
  where
    first_is : t ∷ taken ≡ next_of past picks ∷ front past (length taken) (later picks) → t ≡ next_of past picks
    first_is e = cc

    rest_is : t ∷ taken ≡ next_of past picks ∷ front past (length taken) (later picks) → taken ≡ front past (length taken) (later picks)
    rest_is e = cc

front_taken : (past : Bool) (picks taken left : Picks) → Taken past taken picks left → taken ≡ front past (length taken) picks
front_taken past picks [] left h = refl
front_taken past picks (t ∷ taken) left h =
    ap (λ z. z ∷ taken) h.0 ∙ ap (λ z. next_of past picks ∷ z) (front_taken past (later picks) taken left h.1)

-- a run reads a list where it takes its next picks
pub read_taken : (picks taken : Picks) → IsRead picks taken → Taken false taken picks (left_after (length taken) picks)
read_taken picks taken h = taken_front false picks taken (h ∙ front_is false (length taken) (length taken) 0 (omega arith) picks)

pub taken_read : (picks taken left : Picks) → Taken false taken picks left → IsRead picks taken
taken_read picks taken left h = front_taken false picks taken left h ∙ sym (front_is false (length taken) (length taken) 0 (omega arith) picks)
