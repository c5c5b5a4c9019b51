-- The bits that a table keeps.
use Rattle.std.proofs.Common.{
  ◌≡◌,
  ◌≢◌,
  ◌<◌,
  ◌≤◌,
  ℕ,
  zero,
  suc,
  ◌+◌,
  ◌-◌,
  ◌^◌,
  ◌==◌,
  true,
  false,
  cond,
  Some,
  None,
  List,
  [],
  ◌∷◌,
  ◌++◌,
  length,
  get_or,
  replicate,
  ⊎_elim,
  refl,
  sym,
  subst,
  ap,
  ◌∙◌,
  append_assoc,
  arith,
}
use Rattle.std.proofs.lemmas.Bool.{cases_lt, eq-eqb, ne_eqb}
use Rattle.std.proofs.lemmas.List.{append-nil, get_or_append_left, get_or_push, length_push}
use Rattle.std.specs.Map.{lookup}
use Rattle.indexmap.specs.IndexMap.{insert_entry}
use Rattle.ygg_cnf.specs.declared.lit.Lit.{Lit}
use Rattle.ygg_blast.specs.Table.{bits_in, all_bits, AreBelow}

abbrev pub Entries : Type 0
Entries = List (ℕ × List Lit)

pub count_is : (count : ℕ) (es : Entries) → length (all_bits count es) ≡ count
count_is zero es = refl
count_is (suc n) es = length_push (all_bits n es) (bits_in es n) ∙ ap (λ k. k + 1) (count_is n es) ∙ (let s : n + 1 ≡ suc n = omega arith in s)

-- nothing is kept for places past those that are
pub none_past : (count : ℕ) (es : Entries) (p : ℕ) → AreBelow count es → count ≤ p → bits_in es p ≡ []
none_past count [] p h l = refl
none_past count (e ∷ es) p h l =
    let d : p ≢ e.0 = (let q = h.0 in λ f. omega (arith, q, l, f)) in
    rw (ne_eqb p e.0 d) (none_past count es p h.1 l)

get_below : (count : ℕ) (es : Entries) (p : ℕ) → p < count → get_or (all_bits count es) p [] ≡ bits_in es p
get_below zero es p l = absurd (omega (arith, l))
get_below (suc n) es p l =
    ⊎_elim
    (λ (k : p < n). get_or_append_left (all_bits n es) (bits_in es n ∷ []) [] p (let c = count_is n es in omega (arith, c, k)) ∙ get_below n es p k)
    (λ (k : n ≤ p).
    let s : p ≡ n = omega (arith, l, k) in
    get_or_push (all_bits n es) (bits_in es n) [] p (count_is n es ∙ sym s) ∙ ap (bits_in es) (sym s))
    (cases_lt p n)

get_past : {A : Type 0} (xs : List A) (p : ℕ) (d : A) → length xs ≤ p → get_or xs p d ≡ d
get_past [] p d l = nothing p where
  nothing : (p : ℕ) → get_or [] p d ≡ d
  nothing zero = refl
  nothing (suc q) = refl
get_past (x ∷ xs) zero d l = absurd (omega (arith, l))
get_past (x ∷ xs) (suc p) d l = get_past xs p d (omega (arith, l))

-- the bits at a place are those that are kept for it
at_place : (count : ℕ) (es : Entries) (p : ℕ) → AreBelow count es → get_or (all_bits count es) p [] ≡ bits_in es p
at_place count es p h =
    ⊎_elim (λ (l : p < count). get_below count es p l)
    (λ (l : count ≤ p). get_past (all_bits count es) p [] (let c = count_is count es in omega (arith, c, l)) ∙ sym (none_past count es p h l))
    (cases_lt p count)

found_bits : (es : Entries) (p : ℕ) (d : List Lit) → lookup (λ k. p == k) es ≡ Some d → bits_in es p ≡ d
found_bits [] p d e = absurd (cc e)
found_bits (x ∷ es) p d e =
    (elim (p == x.0) as (λ b. cond b (Some x.1) (lookup (λ k. p == k) es) ≡ Some d → cond b x.1 (bits_in es p) ≡ d) [
      | true ↦ (λ f. let g : Some x.1 ≡ Some d = f in cc)
      | false ↦ found_bits es p d
    ]) e

no_bits : (es : Entries) (p : ℕ) → lookup (λ k. p == k) es ≡ None → bits_in es p ≡ []
no_bits [] p e = refl
no_bits (x ∷ es) p e =
    (elim (p == x.0) as (λ b. cond b (Some x.1) (lookup (λ k. p == k) es) ≡ None → cond b x.1 (bits_in es p) ≡ []) [
      | true ↦ (λ f. absurd (cc f))
      | false ↦ no_bits es p
    ]) e

pub at_some : (now : List (List Lit)) (count : ℕ) (es : Entries) (p : ℕ) (d : List Lit) → now ≡ all_bits count es → AreBelow count es →
    lookup (λ k. p == k) es ≡ Some d → d ≡ get_or now p []
at_some now count es p d v h e = sym (ap (λ z. get_or z p []) v ∙ at_place count es p h ∙ found_bits es p d e)

pub at_none : (now : List (List Lit)) (count : ℕ) (es : Entries) (p : ℕ) → now ≡ all_bits count es → AreBelow count es →
    lookup (λ k. p == k) es ≡ None → [] ≡ get_or now p []
at_none now count es p v h e = sym (ap (λ z. get_or z p []) v ∙ at_place count es p h ∙ no_bits es p e)

pub below_more : (n m : ℕ) (es : Entries) → n ≤ m → AreBelow n es → AreBelow m es
below_more n m [] l h = tt
below_more n m (e ∷ es) l h = ((let q = h.0 in omega (arith, q, l)), below_more n m es l h.1)

-- going on without bits
skipped : (k count : ℕ) (es : Entries) → AreBelow count es → all_bits (count + k) es ≡ all_bits count es ++ replicate k []
skipped zero count es h = ap (λ n. all_bits n es) (let s : count + 0 ≡ count = omega arith in s) ∙ sym (append-nil (all_bits count es))
skipped (suc k) count es h =
    let one : all_bits (suc count) es ≡ all_bits count es ++ [] ∷ [] = ap (λ d. all_bits count es ++ d ∷ []) (none_past count es count h (omega arith)) in
    ap (λ n. all_bits n es) (let s : count + suc k ≡ suc count + k = omega arith in s)
    ∙ skipped k (suc count) es (below_more count (suc count) es (omega arith) h)
    ∙ ap (λ z. z ++ replicate k []) one ∙ append_assoc (all_bits count es) ([] ∷ []) (replicate k [])

pub skips : (now : List (List Lit)) (count place : ℕ) (es : Entries) → now ≡ all_bits count es → AreBelow count es → length now ≤ place →
    all_bits place es ≡ now ++ replicate (place - length now) []
skips now count place es v h l =
    let c : length now ≡ count = ap (λ z. length z) v ∙ count_is count es in
    let s : place ≡ count + (place - length now) = omega (arith, c, l) in
    ap (λ n. all_bits n es) s ∙ skipped (place - length now) count es h ∙ ap (λ z. z ++ replicate (place - length now) []) (sym v)

pub skips_below : (now : List (List Lit)) (count place : ℕ) (es : Entries) → now ≡ all_bits count es → AreBelow count es → length now ≤ place →
    AreBelow place es
skips_below now count place es v h l = let c : length now ≡ count = ap (λ z. length z) v ∙ count_is count es in
    below_more count place es (omega (arith, c, l)) h

-- one more entry, for a place past all
added : (count k : ℕ) (es : Entries) (d : List Lit) → AreBelow k es → k ≤ count → insert_entry (λ a b. a == b) es count d ≡ es ++ (count, d) ∷ []
added count k [] d h l = refl
added count k (e ∷ es) d h l =
    let n : count ≢ e.0 = (let q = h.0 in λ f. omega (arith, q, l, f)) in
    rw (ne_eqb count e.0 n) (ap (λ z. e ∷ z) (added count k es d h.1 l))

in_added : (es : Entries) (count p : ℕ) (d : List Lit) → p ≢ count → bits_in (es ++ (count, d) ∷ []) p ≡ bits_in es p
in_added [] count p d n = rw (ne_eqb p count n) refl
in_added (e ∷ es) count p d n = ap (λ z. cond (p == e.0) e.1 z) (in_added es count p d n)

own_added : (es : Entries) (count k : ℕ) (d : List Lit) → AreBelow k es → k ≤ count → bits_in (es ++ (count, d) ∷ []) count ≡ d
own_added [] count k d h l = rw (eq-eqb count count refl) refl
own_added (e ∷ es) count k d h l =
    let n : count ≢ e.0 = (let q = h.0 in λ f. omega (arith, q, l, f)) in
    rw (ne_eqb count e.0 n) (own_added es count k d h.1 l)

all_added : (n count : ℕ) (es : Entries) (d : List Lit) → n ≤ count → all_bits n (es ++ (count, d) ∷ []) ≡ all_bits n es
all_added zero count es d l = refl
all_added (suc n) count es d l =
    let other : n ≢ count = (λ f. omega (arith, l, f)) in
    ap (λ z. z ++ bits_in (es ++ (count, d) ∷ []) n ∷ []) (all_added n count es d (omega (arith, l)))
    ∙ ap (λ z. all_bits n es ++ z ∷ []) (in_added es count n d other)

pub pushes : (now : List (List Lit)) (count : ℕ) (es new : Entries) (d : List Lit) → now ≡ all_bits count es → AreBelow count es →
    new ≡ insert_entry (λ a b. a == b) es count d →
    all_bits (count + 1) new ≡ now ++ d ∷ []
pushes now count es new d v h e =
    let is : new ≡ es ++ (count, d) ∷ [] = e ∙ added count count es d h (omega arith) in
    let s : count + 1 ≡ suc count = omega arith in
    ap (λ n. all_bits n new) s ∙ ap (all_bits (suc count)) is
    ∙ ap (λ z. z ++ bits_in (es ++ (count, d) ∷ []) count ∷ []) (all_added count count es d (omega arith))
    ∙ ap (λ z. all_bits count es ++ z ∷ []) (own_added es count count d h (omega arith)) ∙ ap (λ z. z ++ d ∷ []) (sym v)

below_added : (count : ℕ) (es : Entries) (d : List Lit) → AreBelow count es → AreBelow count es → AreBelow (count + 1) (es ++ (count, d) ∷ [])
below_added count es d h k = go count es d (below_more count (count + 1) es (omega arith) h) where
  go : (count : ℕ) (es : Entries) (d : List Lit) → AreBelow (count + 1) es → AreBelow (count + 1) (es ++ (count, d) ∷ [])
  go count [] d h = (omega arith, tt)
  go count (e ∷ es) d h = (h.0, go count es d h.1)

pub pushes_below : (count : ℕ) (es new : Entries) (d : List Lit) → AreBelow count es → new ≡ insert_entry (λ a b. a == b) es count d → AreBelow (count + 1) new
pushes_below count es new d h e = subst (AreBelow (count + 1)) (sym (e ∙ added count count es d h (omega arith))) (below_added count es d h h)

pub few : (now : List (List Lit)) (count : ℕ) (es : Entries) → now ≡ all_bits count es → length now + 1 < 2 ^ 64 → count + 1 < 2 ^ 64
few now count es v l = let c : length now ≡ count = ap (λ z. length z) v ∙ count_is count es in omega (arith, c, l)
