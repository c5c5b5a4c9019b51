-- The patterns of gates are patterns, and make the gates' clauses.
use Rattle.std.proofs.Common.{◌≡◌, ◌≢◌, ◌<◌, ℕ, [], ◌∷◌, map, All, refl, arith}
use Rattle.std.proofs.lemmas.List.Elements.{All-cons, All-nil}
use Rattle.ygg_cnf.specs.declared.lit.Lit.{Lit}
use Rattle.ygg_cnf.specs.declared.pattern.Pattern.{Pattern}
use Rattle.ygg_cnf.specs.declared.pattern.PatternLit.{PatternLit}
use Rattle.ygg_cnf.specs.Literals.{once}
use Rattle.ygg_cnf.specs.Patterns.{IsPattern, made}
use Rattle.ygg_gates.specs.Clauses.{gate_clauses}
use Rattle.ygg_gates.specs.declared.gate.Gate.TheVariants as gate
use Rattle.ygg_blast.specs.Rows.{pair, triple, plain, complemented, and_rows, xor_rows, mux_rows}

pair_is : (count : ℕ) (a b : PatternLit) → a.place < count → b.place < count → b.place ≢ a.place → IsPattern count (pair a b)
pair_is count a b l m n = record { one = l; two = m; apart = n; third = tt }

triple_is : (count : ℕ) (a b c : PatternLit) → a.place < count → b.place < count → c.place < count
    → b.place ≢ a.place → c.place ≢ a.place → c.place ≢ b.place → IsPattern count (triple a b c)
triple_is count a b c l m k n p q = record { one = l; two = m; apart = n; third = (k, (p, q)) }

all_three : (P : Pattern → Type 0) (a b c : Pattern) → P a → P b → P c → All P (a ∷ b ∷ c ∷ [])
all_three P a b c k l m = All-cons P a (b ∷ c ∷ []) k (All-cons P b (c ∷ []) l (All-cons P c [] m (All-nil P)))

all_four : (P : Pattern → Type 0) (a b c d : Pattern) → P a → P b → P c → P d → All P (a ∷ b ∷ c ∷ d ∷ [])
all_four P a b c d k l m n = All-cons P a (b ∷ c ∷ d ∷ []) k (all_three P b c d l m n)

pub and_are : All (IsPattern 3) and_rows
and_are =
    all_three (IsPattern 3) (pair (complemented 0) (plain 1)) (pair (complemented 0) (plain 2)) (triple (plain 0) (complemented 1) (complemented 2))
    (pair_is 3 (complemented 0) (plain 1) (omega arith) (omega arith) (omega arith))
    (pair_is 3 (complemented 0) (plain 2) (omega arith) (omega arith) (omega arith))
    (triple_is 3 (plain 0) (complemented 1) (complemented 2) (omega arith) (omega arith) (omega arith) (omega arith) (omega arith) (omega arith))

-- a row of the first three literals of a block
first_three : (count : ℕ) → 2 < count → (a b c : PatternLit) → a.place ≡ 0 → b.place ≡ 1 → c.place ≡ 2 → IsPattern count (triple a b c)
first_three count l a b c e f g =
    triple_is count a b c (omega (arith, l, e)) (omega (arith, l, f)) (omega (arith, l, g))
    (omega (arith, e, f)) (omega (arith, e, g)) (omega (arith, f, g))

-- a row of the first two literals of a block of four, and the last
first_and_last : (a b c : PatternLit) → a.place ≡ 0 → b.place ≡ 1 → c.place ≡ 3 → IsPattern 4 (triple a b c)
first_and_last a b c e f g =
    triple_is 4 a b c (omega (arith, e)) (omega (arith, f)) (omega (arith, g)) (omega (arith, e, f)) (omega (arith, e, g)) (omega (arith, f, g))

pub xor_are : All (IsPattern 3) xor_rows
xor_are =
    all_four (IsPattern 3) (triple (complemented 0) (plain 1) (plain 2)) (triple (complemented 0) (complemented 1) (complemented 2))
    (triple (plain 0) (complemented 1) (plain 2)) (triple (plain 0) (plain 1) (complemented 2))
    (first_three 3 (omega arith) (complemented 0) (plain 1) (plain 2) refl refl refl)
    (first_three 3 (omega arith) (complemented 0) (complemented 1) (complemented 2) refl refl refl)
    (first_three 3 (omega arith) (plain 0) (complemented 1) (plain 2) refl refl refl)
    (first_three 3 (omega arith) (plain 0) (plain 1) (complemented 2) refl refl refl)

pub mux_are : All (IsPattern 4) mux_rows
mux_are =
    all_four (IsPattern 4) (triple (complemented 0) (complemented 1) (plain 2)) (triple (plain 0) (complemented 1) (complemented 2))
    (triple (complemented 0) (plain 1) (plain 3)) (triple (plain 0) (plain 1) (complemented 3))
    (first_three 4 (omega arith) (complemented 0) (complemented 1) (plain 2) refl refl refl)
    (first_three 4 (omega arith) (plain 0) (complemented 1) (complemented 2) refl refl refl)
    (first_and_last (complemented 0) (plain 1) (plain 3) refl refl refl)
    (first_and_last (plain 0) (plain 1) (complemented 3) refl refl refl)

pub and_make : (o a b : Lit) → map once (map (made (o ∷ a ∷ b ∷ [])) and_rows) ≡ gate_clauses o (gate.And a b)
and_make o a b = refl

pub xor_make : (o a b : Lit) → map once (map (made (o ∷ a ∷ b ∷ [])) xor_rows) ≡ gate_clauses o (gate.Xor a b)
xor_make o a b = refl

pub mux_make : (o c a b : Lit) → map once (map (made (o ∷ c ∷ a ∷ b ∷ [])) mux_rows) ≡ gate_clauses o (gate.Mux c a b)
mux_make o c a b = refl
