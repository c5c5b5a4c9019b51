-- How many literals a set has, as they come in and go out.
use Rattle.std.proofs.Common.{◌≡◌, ℕ, zero, suc, ◌<◌, ◌≤◌, ◌+◌, ◌*◌, Bool, true, false, cond, List, [], ◌∷◌, length, get_or, set, refl, sym, subst, arith}
use Rattle.ygg_cnf.specs.declared.lit.Lit.{Lit}
use Rattle.ygg_cnf_set.specs.LiteralSet.{code_of, Fits, IsSetOf}
use Rattle.ygg_chain.specs.Counts.{trues}

pub one_more : (bs : List Bool) (i : ℕ) → i < length bs → get_or bs i false ≡ false → trues (set bs i true) ≡ trues bs + 1
one_more [] i l e = absurd (omega (arith, l))
one_more (b ∷ bs) zero l e = rw e (omega arith)
one_more (b ∷ bs) (suc i) l e = let more = one_more bs i (omega (arith, l)) e in omega (arith, more)

pub one_less : (bs : List Bool) (i : ℕ) → i < length bs → get_or bs i false ≡ true → trues bs ≡ trues (set bs i false) + 1
one_less [] i l e = absurd (omega (arith, l))
one_less (b ∷ bs) zero l e = rw e (omega arith)
one_less (b ∷ bs) (suc i) l e = let less = one_less bs i (omega (arith, l)) e in omega (arith, less)

at_most_one : (b : Bool) → cond b 1 0 ≤ 1
at_most_one true = omega arith
at_most_one false = omega arith

pub trues_within : (bs : List Bool) → trues bs ≤ length bs
trues_within [] = omega arith
trues_within (b ∷ bs) = let rest = trues_within bs in let one = at_most_one b in omega (arith, rest, one)

-- where none is counted, none is true
pub none_true : (bs : List Bool) (i : ℕ) → trues bs ≡ 0 → get_or bs i false ≡ true → ⊥
none_true [] i e is = cc
none_true (true ∷ bs) i e is = omega (arith, e)
none_true (false ∷ bs) zero e is = cc
none_true (false ∷ bs) (suc i) e is = none_true bs i (omega (arith, e)) is

-- and where none is true, none is counted
none_counted : (bs : List Bool) → ((i : ℕ) → get_or bs i false ≡ true → ⊥) → trues bs ≡ 0
none_counted [] none = refl
none_counted (true ∷ bs) none = absurd (none 0 refl)
none_counted (false ∷ bs) none = let rest = none_counted bs (λ i. none (suc i)) in omega (arith, rest)

-- each place is that of a literal
literal_of : (place : ℕ) → (x : Lit) × (code_of x ≡ place)
literal_of zero = (record { var = 0; negated = false }, refl)
literal_of (suc zero) = (record { var = 0; negated = true }, refl)
literal_of (suc (suc place)) =
    let (x, is) = literal_of place in (record { var = x.var + 1; negated = x.negated }, omega (arith, is))

pub empty_counted : (seen : List Bool) → IsSetOf seen (λ _. ⊥) → 0 ≡ trues seen
empty_counted seen clear =
    sym (none_counted seen (λ i is.
    let (x, at) = literal_of i in (clear x).0 (subst (λ (k : ℕ). get_or seen k false ≡ true) (sym at) is)))

code_within : (room : ℕ) (x : Lit) → Fits room x → code_of x < room
code_within room x h = elim x.negated as (λ b. 2 * x.var + cond b 1 0 < room) [ true ↦ h | false ↦ omega (arith, h) ]

pub place_within : (seen : List Bool) (x : Lit) (place : ℕ) → Fits (length seen) x → place ≡ code_of x → place < length seen
place_within seen x place fits is = rw is (code_within (length seen) x fits)
