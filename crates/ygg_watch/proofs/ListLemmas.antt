-- Lists of watches last.
use Rattle.std.proofs.Common.{
  ◌≡◌,
  ◌≢◌,
  ℕ,
  zero,
  suc,
  ◌<◌,
  ◌≤◌,
  ◌+◌,
  ◌-◌,
  ◌*◌,
  ◌%◌,
  ◌/◌,
  Bool,
  true,
  false,
  cond,
  eqb,
  List,
  [],
  ◌∷◌,
  length,
  get_or,
  set,
  inl,
  inr,
  ⊎_elim,
  sym,
  subst,
  ap,
  ◌∙◌,
  arith,
  refl,
  get_or-set_same,
  get_or-set_other,
  length-set,
}
use Rattle.std.proofs.lemmas.Bool.{cases_eq, eq-eqb, ne_eqb}
use Rattle.ygg_cnf_set.specs.LiteralSet.{code_of}
use Rattle.ygg_cnf.specs.declared.lit.Lit.{Lit}
use Rattle.ygg_watch.proofs.CountLemmas.{failing_one}
use Rattle.ygg_watch.proofs.CountLemmas.{failing}
use Rattle.ygg_watch.specs.Lists.{sibling, no_lit, lit_of, IsLinked, IsOwn, Among, IsOnce, IsPath, IsList, IsLists, IsPending}

pub sibling_even : (n : ℕ) → n % 2 ≡ 0 → sibling n ≡ n + 1
sibling_even n e = rw (eq-eqb (n % 2) 0 e) refl

pub sibling_odd : (n : ℕ) → n % 2 ≢ 0 → sibling n ≡ n - 1
sibling_odd n d = rw (ne_eqb (n % 2) 0 d) refl

pub sibling_twice : (n : ℕ) → sibling (sibling n) ≡ n
sibling_twice n =
    ⊎_elim
    (λ e. let d : (n + 1) % 2 ≢ 0 = omega arith in ap sibling (sibling_even n e) ∙ (sibling_odd (n + 1) d ∙ omega arith))
    (λ d. let e : (n - 1) % 2 ≡ 0 = omega arith in ap sibling (sibling_odd n d) ∙ (sibling_even (n - 1) e ∙ omega arith))
    (cases_eq (n % 2) 0)

pub sibling_half : (n : ℕ) → sibling n / 2 ≡ n / 2
sibling_half n =
    ⊎_elim (λ e. ap (λ m. m / 2) (sibling_even n e) ∙ omega arith) (λ d. ap (λ m. m / 2) (sibling_odd n d) ∙ omega arith) (cases_eq (n % 2) 0)

pub sibling_differs : (n : ℕ) → sibling n ≢ n
sibling_differs n s =
    ⊎_elim (λ e. let k = sibling_even n e in omega (arith, k, s)) (λ d. let k = sibling_odd n d in omega (arith, k, s, d)) (cases_eq (n % 2) 0)

pub sibling_first : (k : ℕ) → sibling (2 * k) ≡ 2 * k + 1
sibling_first k = sibling_even (2 * k) (omega arith)

pub sibling_second : (k : ℕ) → sibling (2 * k + 1) ≡ 2 * k
sibling_second k = sibling_odd (2 * k + 1) (omega arith) ∙ omega arith

-- a node below an even number has its sibling there
pub sibling_within : (n m : ℕ) → n < 2 * m → sibling n < 2 * m
sibling_within n m l =
    ⊎_elim (λ e. let k = sibling_even n e in omega (arith, k, l, e)) (λ d. let k = sibling_odd n d in omega (arith, k, l)) (cases_eq (n % 2) 0)

pub path_same : (next : List ℕ) (m v at : ℕ) (xs : List ℕ) → IsPath next at xs → (Among xs m → ⊥) → IsPath (set next m v) at xs
path_same next m v at [] p gone = p
path_same next m v at (x ∷ xs) (e, p) gone = (
  e,
  subst (λ n. IsPath (set next m v) n xs) (sym (get_or-set_other next m x v 0 (λ q. gone (inl q))))
      (path_same next m v (get_or next x 0) xs p (λ a. gone (inr a))),
)

-- the node goes first in the list of its literal
pub lists_linked : (next : List ℕ) (watched : List Lit) (firsts rest : List ℕ) (node c : ℕ) → IsLists next watched firsts (node ∷ rest) → IsOwn watched c node
    → c < length firsts → node < length next → (Among rest node → ⊥) → IsLists (set next node (get_or firsts c 0)) watched (set firsts c (node + 1)) rest
lists_linked next watched firsts rest node c ls own within variable_count gone d l =
    let first : ℕ = get_or firsts c 0 in
    ⊎_elim
    (λ e. subst (λ b. IsList (set next node first) watched rest (get_or (set firsts c (node + 1)) b 0) b) (sym e)
    (let one : IsList next watched (node ∷ rest) first c = ls c within in
    let start : get_or (set firsts c (node + 1)) c 0 ≡ suc node = get_or-set_same firsts c (node + 1) 0 within ∙ omega arith in
    let out : Among one.nodes node → ⊥ = λ a. one.apart node a (inl refl) in
    record {
      nodes = node ∷ one.nodes;
      path = (
        start,
        subst (λ n. IsPath (set next node first) n one.nodes) (sym (get_or-set_same next node first 0 variable_count))
            (path_same next node first first one.nodes one.path out),
      );
      once = (out, one.once);
      own = λ n a. ⊎_elim (λ q. subst (IsOwn watched c) q own) (one.own n) a;
      apart = λ n a r. ⊎_elim (λ q. gone (subst (Among rest) (sym q) r)) (λ b. one.apart n b (inr r)) a;
      whole = λ n o none. ⊎_elim (λ q. inl q) (λ q. inr (one.whole n o (λ p. ⊎_elim q none p))) (cases_eq node n);
    }))
    (λ e. let one : IsList next watched (node ∷ rest) (get_or firsts d 0) d = ls d (simp length-set at l) in
    record {
      nodes = one.nodes;
      path = subst (λ n. IsPath (set next node first) n one.nodes) (sym (get_or-set_other firsts c d (node + 1) 0 e))
          (path_same next node first (get_or firsts d 0) one.nodes one.path (λ a. one.apart node a (inl refl)));
      once = one.once;
      own = one.own;
      apart = λ n a r. one.apart n a (inr r);
      whole = λ n o none. one.whole n o (λ p. ⊎_elim (λ q. e (sym o.1.1 ∙ (ap (λ m. code_of (lit_of watched m)) (sym q) ∙ own.1.1))) none p);
    })
    (cases_eq d c)

-- another literal at one node
lit_same : (watched : List Lit) (node n : ℕ) (y : Lit) → n ≢ node → lit_of (set watched node y) n ≡ lit_of watched n
lit_same watched node n y d = get_or-set_other watched node n y no_lit d

pub own_moved : (watched : List Lit) (node n d : ℕ) (y : Lit) → node < length watched → n ≢ node → y ≢ lit_of watched (sibling node) →
    IsOwn watched d n → IsOwn (set watched node y) d n
own_moved watched node n d y l gone differs (w, (linked, code)) =
    let same : lit_of (set watched node y) n ≡ lit_of watched n = lit_same watched node n y gone in (
      rw length-set w,
      (
        λ e. ⊎_elim
            (λ s. let is : n ≡ sibling node = sym (sibling_twice n) ∙ ap sibling s in
            differs (sym (get_or-set_same watched node y no_lit l) ∙ (ap (lit_of (set watched node y)) (sym s) ∙ (sym e ∙ (same ∙ ap (lit_of watched) is)))))
            (λ s. linked (sym same ∙ (e ∙ lit_same watched node (sibling n) y s)))
            (cases_eq (sibling n) node),
        ap code_of same ∙ code,
      ),
    )

pub own_before : (watched : List Lit) (node n d : ℕ) (y : Lit) → node < length watched → n ≢ node → IsLinked watched node →
    IsOwn (set watched node y) d n → IsOwn watched d n
own_before watched node n d y l gone here (w, (linked, code)) =
    let same : lit_of (set watched node y) n ≡ lit_of watched n = lit_same watched node n y gone in (
      simp length-set at w,
      (
        λ e. ⊎_elim
            (λ s. let is : n ≡ sibling node = sym (sibling_twice n) ∙ ap sibling s in
            here (ap (lit_of watched) (sym s) ∙ (sym e ∙ ap (lit_of watched) is)))
            (λ s. linked (same ∙ (e ∙ sym (lit_same watched node (sibling n) y s))))
            (cases_eq (sibling n) node),
        sym (ap code_of same) ∙ code,
      ),
    )

pub lists_moved : (next : List ℕ) (watched : List Lit) (firsts rest : List ℕ) (node : ℕ) (y : Lit) → IsLists next watched firsts (node ∷ rest) →
    node < length watched
    → IsLinked watched node → y ≢ lit_of watched (sibling node) → IsLists next (set watched node y) firsts (node ∷ rest)
lists_moved next watched firsts rest node y ls l linked differs d w =
    let one : IsList next watched (node ∷ rest) (get_or firsts d 0) d = ls d w in
    record {
      nodes = one.nodes;
      path = one.path;
      once = one.once;
      own = λ n a. own_moved watched node n d y l (λ q. one.apart n a (inl (sym q))) differs (one.own n a);
      apart = one.apart;
      whole = λ n o none. one.whole n (own_before watched node n d y l (λ q. none (inl (sym q))) linked o) none;
    }

-- the list of a literal is taken away
pub lists_taken : (next : List ℕ) (watched : List Lit) (firsts : List ℕ) (c : ℕ) → IsLists next watched firsts [] → c < length firsts
    → (rest : List ℕ) × (IsPending next watched (get_or firsts c 0) c rest × IsLists next watched (set firsts c 0) rest)
lists_taken next watched firsts c ls within =
    let one : IsList next watched [] (get_or firsts c 0) c = ls c within in (
      one.nodes,
      (
        record { path = one.path; once = one.once; own = one.own },
        λ d l. ⊎_elim
            (λ e. subst (λ b. IsList next watched one.nodes (get_or (set firsts c 0) b 0) b) (sym e)
            (record {
              nodes = [];
              path = get_or-set_same firsts c 0 0 within;
              once = tt;
              own = λ n a. absurd a;
              apart = λ n a. absurd a;
              whole = λ n o none. none (one.whole n o (λ a. a));
            }))
            (λ e. let other : IsList next watched [] (get_or firsts d 0) d = ls d (simp length-set at l) in
            record {
              nodes = other.nodes;
              path = subst (λ n. IsPath next n other.nodes) (sym (get_or-set_other firsts c d 0 0 e)) other.path;
              once = other.once;
              own = other.own;
              apart = λ n a b. e (sym (other.own n a).1.1 ∙ (one.own n b).1.1);
              whole = λ n o none. other.whole n o (λ a. a);
            })
            (cases_eq d c),
      ),
    )

-- the first pending node
pub pending_first : (next : List ℕ) (watched : List Lit) (at c x : ℕ) (rest : List ℕ) → IsPending next watched at c (x ∷ rest)
    → (at ≡ suc x) × (IsOwn watched c x × ((Among rest x → ⊥) × IsPending next watched (get_or next x 0) c rest))
pending_first next watched at c x rest p =
    (p.path.0, (p.own x (inl refl), (p.once.0, record { path = p.path.1; once = p.once.1; own = λ n a. p.own n (inr a) })))

pub pending_linked : (next : List ℕ) (watched : List Lit) (at c node v : ℕ) (rest : List ℕ) → IsPending next watched at c rest → (Among rest node → ⊥)
    → IsPending (set next node v) watched at c rest
pending_linked next watched at c node v rest p gone = record { path = path_same next node v at rest p.path gone; once = p.once; own = p.own }

pub pending_moved : (next : List ℕ) (watched : List Lit) (at c node : ℕ) (y : Lit) (rest : List ℕ) → IsPending next watched at c rest →
    (Among rest node → ⊥) → node < length watched
    → y ≢ lit_of watched (sibling node) → IsPending next (set watched node y) at c rest
pending_moved next watched at c node y rest p gone l differs = record {
  path = p.path;
  once = p.once;
  own = λ n a. own_moved watched node n c y l (λ q. gone (subst (Among rest) q a)) differs (p.own n a);
}

-- a clause is watched for the first time
pub lists_attached : (next : List ℕ) (watched : List Lit) (firsts : List ℕ) (k : ℕ) (x y : Lit) → IsLists next watched firsts [] → 2 * k + 1 < length watched
    → lit_of watched (2 * k) ≡ lit_of watched (2 * k + 1) → IsLists next (set (set watched (2 * k) x) (2 * k + 1) y) firsts ((2 * k) ∷ (2 * k + 1) ∷ [])
lists_attached next watched firsts k x y ls l same d w =
    let one : IsList next watched [] (get_or firsts d 0) d = ls d w in
    let a0 : ℕ = 2 * k in let a1 : ℕ = 2 * k + 1 in
    let pair : (n : ℕ) → IsLinked watched n → (n ≢ a0) × (n ≢ a1) = λ n h. (
      (λ q. h (ap (lit_of watched) q ∙ (same ∙ ap (lit_of watched) (sym (ap sibling q ∙ sibling_first k))))),
      (λ q. h (ap (lit_of watched) q ∙ (sym same ∙ ap (lit_of watched) (sym (ap sibling q ∙ sibling_second k))))),
    ) in
    let other : (n : ℕ) → n ≢ a0 → n ≢ a1 → (sibling n ≢ a0) × (sibling n ≢ a1) = λ n d0 d1.
    ((λ q. d1 (sym (sibling_twice n) ∙ (ap sibling q ∙ sibling_first k))), (λ q. d0 (sym (sibling_twice n) ∙ (ap sibling q ∙ sibling_second k)))) in
    let still : (n : ℕ) → n ≢ a0 → n ≢ a1 → lit_of (set (set watched a0 x) a1 y) n ≡ lit_of watched n = λ n d0 d1.
    get_or-set_other (set watched a0 x) a1 n y no_lit d1 ∙ get_or-set_other watched a0 n x no_lit d0 in
    let size : length (set (set watched a0 x) a1 y) ≡ length watched = length-set (set watched a0 x) a1 y ∙ length-set watched a0 x in
    let forth : (n : ℕ) → n ≢ a0 → n ≢ a1 → IsOwn watched d n → IsOwn (set (set watched a0 x) a1 y) d n = λ n d0 d1 o.
    let s = other n d0 d1 in let here = still n d0 d1 in let there = still (sibling n) s.0 s.1 in
    (let h = o.0 in omega (arith, size, h), ((λ e. o.1.0 (sym here ∙ (e ∙ there))), ap code_of here ∙ o.1.1)) in
    let back : (n : ℕ) → n ≢ a0 → n ≢ a1 → IsOwn (set (set watched a0 x) a1 y) d n → IsOwn watched d n = λ n d0 d1 o.
    let s = other n d0 d1 in let here = still n d0 d1 in let there = still (sibling n) s.0 s.1 in
    (let h = o.0 in omega (arith, size, h), ((λ e. o.1.0 (here ∙ (e ∙ sym there))), sym (ap code_of here) ∙ o.1.1)) in
    record {
      nodes = one.nodes;
      path = one.path;
      once = one.once;
      own = λ n a. let o = one.own n a in let p = pair n o.1.0 in forth n p.0 p.1 o;
      apart = λ n a r. let o = one.own n a in let p = pair n o.1.0 in ⊎_elim (λ q. p.0 (sym q)) (λ r1. ⊎_elim (λ q. p.1 (sym q)) (λ z. z) r1) r;
      whole = λ n o none. one.whole n (back n (λ q. none (inl (sym q))) (λ q. none (inr (inl (sym q)))) o) (λ z. z);
    }

-- a list without repetition of numbers below a bound is no longer than it
among : List ℕ → ℕ → Bool
among [] n = false
among (x ∷ xs) n = cond (eqb x n) true (among xs n)

not_among : (xs : List ℕ) (n : ℕ) → (Among xs n → ⊥) → among xs n ≡ false
unfolding among
not_among [] n gone = refl
not_among (x ∷ xs) n gone = rw (ne_eqb x n (λ q. gone (inl q))) (not_among xs n (λ a. gone (inr a)))

none_among : (m : ℕ) → failing (among []) m ≡ m
unfolding among
none_among zero = refl
none_among (suc n) = let r = none_among n in omega (arith, r)

counted : (xs : List ℕ) (m : ℕ) → IsOnce xs → ((n : ℕ) → Among xs n → n < m) → length xs + failing (among xs) m ≡ m
unfolding among
counted [] m once below = let r = none_among m in omega (arith, r)
counted (x ∷ xs) m (gone, once) below =
    let r : length xs + failing (among xs) m ≡ m = counted xs m once (λ n a. below n (inr a)) in
    let one : suc (failing (among (x ∷ xs)) m) ≡ failing (among xs) m
    = failing_one (among xs) (among (x ∷ xs)) m x (below x (inl refl)) (not_among xs x gone) (rw (eq-eqb x x refl) refl)
    (λ w n. let d : x ≢ w = λ q. n (sym q) in rw (ne_eqb x w d) refl) in
    omega (arith, r, one)

pub once_within : (xs : List ℕ) (m : ℕ) → IsOnce xs → ((n : ℕ) → Among xs n → n < m) → length xs ≤ m
once_within xs m once below = let r = counted xs m once below in omega (arith, r)

-- the number of nodes that a number leads to, up to a bound
pub walk : ℕ → List ℕ → ℕ → ℕ
walk zero next at = 0
walk (suc f) next zero = 0
walk (suc f) next (suc x) = suc (walk f next (get_or next x 0))

walk_zero : (f : ℕ) (next : List ℕ) → walk f next 0 ≡ 0
unfolding walk
walk_zero zero next = refl
walk_zero (suc f) next = refl

walk_is : (f : ℕ) (next : List ℕ) (at : ℕ) (xs : List ℕ) → IsPath next at xs → length xs ≤ f → walk f next at ≡ length xs
unfolding walk
walk_is f next at [] p l = ap (walk f next) p ∙ walk_zero f next
walk_is zero next at (x ∷ xs) p l = absurd (omega arith)
walk_is (suc f) next at (x ∷ xs) (e, p) l = ap (walk (suc f) next) e ∙ ap suc (walk_is f next (get_or next x 0) xs p (omega arith))

pub walk_pending : (next : List ℕ) (watched : List Lit) (at c : ℕ) (rest : List ℕ) → length watched ≡ length next → IsPending next watched at c rest →
    walk (length next) next at ≡ length rest
walk_pending next watched at c rest size p =
    walk_is (length next) next at rest p.path (once_within rest (length next) p.once (λ n a. let o = (p.own n a).0 in omega (arith, o, size)))

-- where a node is pending, the number gives it
pub pending_split : (next : List ℕ) (watched : List Lit) (at c : ℕ) (rest : List ℕ) → IsPending next watched at c rest → at ≢ 0 → (xs : List ℕ)
    × (rest ≡ (at - 1) ∷ xs)
pending_split next watched at c [] p d = absurd (d p.path)
pending_split next watched at c (x ∷ xs) p d = (xs, ap (λ n. n ∷ xs) (let e = p.path.0 in omega (arith, e)))

pub node_within : (next : List ℕ) (watched : List Lit) (at c : ℕ) (rest : List ℕ) → IsPending next watched at c rest → at ≢ 0 → at - 1 < length watched
node_within next watched at c rest p d =
    let (xs, e) = pending_split next watched at c rest p d in
    let q : IsPending next watched at c ((at - 1) ∷ xs) = subst (IsPending next watched at c) e p in
    (pending_first next watched at c (at - 1) xs q).1.0.0

-- a step of putting back
pub put_step : (next : List ℕ) (watched : List Lit) (firsts : List ℕ) (at c : ℕ) (rest : List ℕ) → IsPending next watched at c rest →
    IsLists next watched firsts rest → at ≢ 0
    → length watched ≡ length next → c < length firsts
    → (xs : List ℕ) × ((length rest ≡ suc (length xs)) × (IsPending (set next (at - 1) (get_or firsts c 0)) watched (get_or next (at - 1) 0) c xs
    × IsLists (set next (at - 1) (get_or firsts c 0)) watched (set firsts c (at - 1 + 1)) xs))
put_step next watched firsts at c rest p ls d size within =
    let (xs, e) = pending_split next watched at c rest p d in
    let node : ℕ = at - 1 in
    let q : IsPending next watched at c (node ∷ xs) = subst (IsPending next watched at c) e p in
    let l : IsLists next watched firsts (node ∷ xs) = subst (IsLists next watched firsts) e ls in
    let f = pending_first next watched at c node xs q in (
      xs,
      (
        ap (λ (z : List ℕ). length z) e,
        (
          pending_linked next watched (get_or next node 0) c node (get_or firsts c 0) xs f.1.1.1 f.1.1.0,
          lists_linked next watched firsts xs node c l f.1.0 within (let o = f.1.0.0 in omega (arith, o, size)) f.1.1.0,
        ),
      ),
    )

pub none_pending : (next : List ℕ) (watched : List Lit) (at c : ℕ) (rest : List ℕ) → IsPending next watched at c rest → at ≡ 0 → rest ≡ []
none_pending next watched at c [] p e = refl
none_pending next watched at c (x ∷ xs) p e = absurd (let s = p.path.0 in omega (arith, s, e))

pub put_end : (next : List ℕ) (watched : List Lit) (firsts : List ℕ) (at c : ℕ) → (rest : List ℕ)
    × (IsPending next watched at c rest × IsLists next watched firsts rest) → at ≡ 0
    → IsLists next watched firsts []
put_end next watched firsts at c (rest, (p, ls)) e = subst (IsLists next watched firsts) (none_pending next watched at c rest p e) ls
