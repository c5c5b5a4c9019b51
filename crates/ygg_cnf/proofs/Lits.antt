-- Literals as values, and true ones.
use Rattle.std.proofs.Common.{◌≡◌, ◌≢◌, ℕ, Bool, true, false, not, ◌&&◌, eqb, ◌⊎◌, inl, inr, ⊎_elim, refl, sym, ap, ◌∙◌, arith, Contains, List}
use Rattle.std.specs.Bool.{beq}
use Rattle.std.proofs.lemmas.Bool.{cases_eq, false≢true}
use Rattle.ygg_cnf.specs.declared.lit.Lit.{Lit}
use Rattle.ygg_cnf.specs.Literals.{complement, Satisfies, SatisfiesClause}

pub same_lit : (x y : Lit) → x.var ≡ y.var → x.negated ≡ y.negated → x ≡ y
same_lit x y e f = grind arith

bool_cases : (a b : Bool) → (a ≡ b) ⊎ (a ≢ b)
bool_cases true true = inl refl
bool_cases true false = inr (λ e. false≢true (sym e))
bool_cases false true = inr false≢true
bool_cases false false = inl refl

-- literals are told apart
pub lit_cases : (x y : Lit) → (x ≡ y) ⊎ (x ≢ y)
lit_cases x y =
    ⊎_elim (λ e. ⊎_elim (λ f. inl (same_lit x y e f)) (λ n. inr (λ q. n (ap (λ z. z.negated) q))) (bool_cases x.negated y.negated))
    (λ n. inr (λ q. n (ap (λ z. z.var) q))) (cases_eq x.var y.var)

pub complement_twice : (x : Lit) → complement (complement x) ≡ x
complement_twice x = same_lit (complement (complement x)) x refl (elim x.negated as (λ b. not (not b) ≡ b) [ true ↦ refl | false ↦ refl ])

-- a literal and its complement aren't both true
pub not_both : (value : ℕ → Bool) (x : Lit) → Satisfies value x → Satisfies value (complement x) → ⊥
not_both value x p q =
    elim x.negated as (λ b. value x.var ≡ not b → value x.var ≡ not (not b) → ⊥) [
      | true ↦ λ p q. false≢true (sym p ∙ q)
      | false ↦ λ p q. false≢true (sym q ∙ p)
    ] p q

pub satisfied_by : (value : ℕ → Bool) (clause : List Lit) (x : Lit) → Contains clause x → Satisfies value x → SatisfiesClause value clause
satisfied_by value clause x (place, within, is) true' = (place, x, within, is, true')

-- what the derived comparison answers
pub same_from_ne : (x y : Lit) (b : Bool) → b ≡ not (eqb x.var y.var && beq x.negated y.negated) → b ≡ false → x ≡ y
same_from_ne x y b e f = grind arith

pub differ_from_ne : (x y : Lit) (b : Bool) → b ≡ not (eqb x.var y.var && beq x.negated y.negated) → b ≡ true → x ≢ y
differ_from_ne x y b e f = grind arith

-- a literal or its complement is true
pub one_of_both : (value : ℕ → Bool) (x : Lit) → Satisfies value x ⊎ Satisfies value (complement x)
one_of_both value x =
    elim (value x.var) as (λ b. (b ≡ not x.negated) ⊎ (b ≡ not (not x.negated))) [
      | true ↦ elim x.negated as (λ b. (true ≡ not b) ⊎ (true ≡ not (not b))) [ true ↦ inr refl | false ↦ inl refl ]
      | false ↦ elim x.negated as (λ b. (false ≡ not b) ⊎ (false ≡ not (not b))) [ true ↦ inl refl | false ↦ inr refl ]
    ]
