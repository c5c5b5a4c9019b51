-- Assigned variables as a test, and how many numbers fail a test.
use Rattle.std.proofs.Common.{List, [], ◌∷◌, cond, eqb, ◌+◌, ◌≡◌, ◌≢◌, ℕ, zero, suc, ◌<◌, Bool, true, false, ⊎_elim, sym, subst, arith, refl}
use Rattle.std.proofs.lemmas.Bool.{cases_eq}
use Rattle.ygg_watch.specs.declared.entry.Entry.{Entry}

-- whether a variable is assigned, as a test
abbrev pub is_assigned : List Entry → ℕ → Bool
is_assigned [] var = false
is_assigned (e ∷ es) var = cond (eqb e.lit.var var) true (is_assigned es var)

-- how many numbers below n fail the test
abbrev pub failing : (ℕ → Bool) → ℕ → ℕ
failing test zero = 0
failing test (suc n) = cond (test n) 0 1 + failing test n

failing_same : (f g : ℕ → Bool) (n : ℕ) → ((w : ℕ) → w < n → g w ≡ f w) → failing g n ≡ failing f n
failing_same f g zero h = refl
failing_same f g (suc n) h =
    let e : g n ≡ f n = h n (omega arith) in
    let r : failing g n ≡ failing f n = failing_same f g n (λ w l. h w (omega arith)) in rw (e, r) refl

pub failing_one : (f g : ℕ → Bool) (n v : ℕ) → v < n → f v ≡ false → g v ≡ true → ((w : ℕ) → w ≢ v → g w ≡ f w) → suc (failing g n) ≡ failing f n
failing_one f g zero v l u t h = absurd (omega arith)
failing_one f g (suc n) v l u t h =
    ⊎_elim
    (λ e. let a : f n ≡ false = subst (λ w. f w ≡ false) e u in let b : g n ≡ true = subst (λ w. g w ≡ true) e t in
    let r : failing g n ≡ failing f n = failing_same f g n (λ w k. h w (let below : w < n = k in omega (arith, below))) in rw (a, b, r) (omega arith))
    (λ d. let k : v < n = omega arith in let r : suc (failing g n) ≡ failing f n = failing_one f g n v k u t h in
    let e : g n ≡ f n = h n (λ q. d (sym q)) in rw e (omega (arith, r)))
    (cases_eq v n)
