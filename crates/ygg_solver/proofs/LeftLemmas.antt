-- The number of unassigned variables falls as literals are assigned.
use Rattle.std.proofs.Common.{◌≡◌, ℕ, zero, suc, ◌<◌, ◌≤◌, ◌+◌, Bool, true, false, cond, List, [], ◌∷◌, ◌++◌, ⊎_elim, subst, arith, refl, eqb, append_assoc}
use Rattle.std.proofs.lemmas.Bool.{false≢true, cases_Bool, cases_eq, eq-eqb}
use Rattle.ygg_cnf.specs.declared.lit.Lit.{Lit}
use Rattle.ygg_watch.specs.Propagation.{Propagation, decided, Spreads, Implies}
use Rattle.ygg_watch.specs.Trail.{IsAssigned}
use Rattle.ygg_watch.proofs.CountLemmas.{is_assigned, failing}
use Rattle.ygg_watch.specs.declared.entry.Entry.{Entry}
use Rattle.ygg_watch.proofs.TrailLemmas.{not_assigned}
use Rattle.ygg_watch.proofs.PropagationLemmas.{append-nil}

-- the number of unassigned variables
unfoldable pub left : Propagation → ℕ
left p = failing (is_assigned p.trail) p.variable_count

-- a test that passes where another does fails no more often
pub failing_le : (f g : ℕ → Bool) (n : ℕ) → ((v : ℕ) → f v ≡ true → g v ≡ true) → failing g n ≤ failing f n
failing_le f g zero h = omega arith
failing_le f g (suc n) h =
    let r = failing_le f g n h in
    ⊎_elim (λ t. rw (t, h n t) (omega (arith, r)))
    (λ u. rw u (elim (g n) as (λ b. cond b 0 1 + failing g n ≤ 1 + failing f n) [ true ↦ omega (arith, r) | false ↦ omega (arith, r) ])) (cases_Bool (f n))

-- and less often where it passes once more
pub failing_lt : (f g : ℕ → Bool) (n v : ℕ) → ((w : ℕ) → f w ≡ true → g w ≡ true) → v < n → f v ≡ false → g v ≡ true → failing g n < failing f n
failing_lt f g zero v h l u t = absurd (omega arith)
failing_lt f g (suc n) v h l u t =
    ⊎_elim
    (λ e. let a : f n ≡ false = subst (λ w. f w ≡ false) e u in let b : g n ≡ true = subst (λ w. g w ≡ true) e t in
    rw (a, b) (let r = failing_le f g n h in omega (arith, r)))
    (λ d. let r = failing_lt f g n v h (omega arith) u t in
    ⊎_elim (λ y. rw (y, h n y) (omega (arith, r)))
    (λ z. rw z (elim (g n) as (λ b. cond b 0 1 + failing g n < 1 + failing f n) [ true ↦ omega (arith, r) | false ↦ omega (arith, r) ])) (cases_Bool (f n)))
    (cases_eq v n)

assigned_push : (trail : List Entry) (e : Entry) (v : ℕ) → is_assigned trail v ≡ true → is_assigned (trail ++ e ∷ []) v ≡ true
assigned_push [] e v h = absurd (false≢true h)
assigned_push (d ∷ trail) e v h =
    ⊎_elim (λ t. rw t refl) (λ u. rw u (assigned_push trail e v (rw u at h))) (cases_Bool (eqb d.lit.var v))

pub assigned_last : (trail : List Entry) (e : Entry) → is_assigned (trail ++ e ∷ []) e.lit.var ≡ true
assigned_last [] e = rw (eq-eqb e.lit.var e.lit.var refl) refl
assigned_last (d ∷ trail) e =
    ⊎_elim (λ t. rw t refl) (λ u. rw u (assigned_last trail e)) (cases_Bool (eqb d.lit.var e.lit.var))

pub left_decided : (p : Propagation) (x : Lit) → x.var < p.variable_count → (IsAssigned p.trail x.var → ⊥) → left (decided p x) < left p
unfolding left
left_decided p x l n =
    failing_lt (is_assigned p.trail) (is_assigned (decided p x).trail) p.variable_count x.var
    (λ w. assigned_push p.trail _ w) l (not_assigned p.trail x.var n) (assigned_last p.trail _)

pub left_implied : (p : Propagation) (added : List Entry) → Implies p added → left (record p { trail = p.trail ++ added }) ≤ left p
unfolding left
left_implied p [] i = rw append-nil (omega arith)
left_implied p (e ∷ es) i =
    let p1 : Propagation = record p { trail = p.trail ++ e ∷ [] } in
    let rest : left (record p { trail = (p.trail ++ e ∷ []) ++ es }) ≤ left p1 = left_implied p1 es i.1 in
    let one : left p1 ≤ left p = failing_le (is_assigned p.trail) (is_assigned p1.trail) p.variable_count (λ v. assigned_push p.trail e v) in
    subst (λ (t : List Entry). left (record p { trail = t }) ≤ left p) (append_assoc p.trail (e ∷ []) es) (omega (arith, rest, one))

pub left_spreads : (old new : Propagation) → Spreads old new → left new ≤ left old
left_spreads old new (added, (i, e)) = rw e (left_implied old added i)
