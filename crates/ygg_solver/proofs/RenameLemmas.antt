-- Chains, teaching clauses and logs under other names of the variables.
use Rattle.std.proofs.Common.{◌≡◌, ℕ, zero, suc, List, [], ◌∷◌, ◌++◌, map, Contains, ◌↔◌, inl, inr, ⊎_elim, sym, subst, ap, ◌∙◌, arith, All, refl}
use Rattle.std.specs.Prelude.{option_map}
use Rattle.std.proofs.lemmas.Option.{slice_get-map}
use Rattle.std.proofs.lemmas.List.{map-append, length-map}
use Rattle.std.proofs.lemmas.List.Elements.{All-head, All-tail, All-cons}
use Rattle.ygg_cnf.specs.declared.lit.Lit.{Lit}
use Rattle.ygg_cnf.specs.declared.log.Step.{Step}
use Rattle.ygg_cnf.specs.declared.log.Step.TheVariants.{Added}
use Rattle.ygg_cnf.specs.Literals.{complement}
use Rattle.ygg_cnf.specs.Derivations.{IsPivot, Resolvent, Resolves, DerivesClause, HasClause}
use Rattle.ygg_cnf.specs.Logs.{clause_of, Derives, Refutes, IsOpen, Teaches, EachTeaches, SpentLog}
use Rattle.ygg_chain.proofs.PlaceLemmas.{contains_map, contains_of_map}

-- no two literals get one name, and complements get complements
pub record IsRenaming (r : Lit → Lit) : Type 0 where
  pub once : (x y : Lit) → r x ≡ r y → x ≡ y
  pub turns : (x : Lit) → r (complement x) ≡ complement (r x)

-- y is the name of a literal of the set
abbrev pub Image : (Lit → Lit) → (Lit → Type 0) → Lit → Type 0
Image r set y = (x : Lit) × (set x × (r x ≡ y))

-- the entry with its clause's literals renamed
abbrev pub renamed_step : (Lit → Lit) → Step → Step
renamed_step r (Added clause chain) = Added (map r clause) chain

has_renamed : (r : Lit → Lit) (clauses : List (List Lit)) (id : ℕ) (clause : List Lit) → HasClause clauses id clause →
    HasClause (map (map r) clauses) id (map r clause)
has_renamed r clauses zero clause h = h
has_renamed r clauses (suc i) clause h = slice_get-map (map r) clauses i ∙ ap (option_map (map r)) h

pivot_renamed : (r : Lit → Lit) (k : IsRenaming r) (set named : Lit → Type 0) (next : List Lit) (x : Lit) → ((y : Lit) → named y ↔ Image r set y)
    → IsPivot set next x → IsPivot named (map r next) (r x)
pivot_renamed r k set named next x e p = record {
  here = (e (r x)).1 (x, (p.here, refl));
  there = subst (Contains (map r next)) (k.turns x) (contains_map r next (complement x) p.there);
  only = λ y n c.
      let (z, (s, w)) = (e y).0 n in
      let (u, (d, v)) = contains_of_map r next (complement y) c in
      let same : u ≡ complement z = k.once u (complement z) (v ∙ (ap complement (sym w) ∙ sym (k.turns z))) in
      let one : z ≡ x = p.only z s (subst (Contains next) same d) in
      sym w ∙ ap r one;
}

resolvent_renamed : (r : Lit → Lit) (k : IsRenaming r) (set named : Lit → Type 0) (next : List Lit) (x : Lit) → ((y : Lit) → named y ↔ Image r set y)
    → (y : Lit) → Resolvent named (map r next) (r x) y ↔ Image r (Resolvent set next x) y
resolvent_renamed r k set named next x e y = (
  (λ t. ⊎_elim
      (λ a. let (z, (s, w)) = (e y).0 a.0 in (z, (inl (s, λ q. a.1 (sym w ∙ ap r q)), w)))
      (λ b. let (z, (d, w)) = contains_of_map r next y b.0 in (z, (inr (d, λ q. b.1 (sym w ∙ (ap r q ∙ k.turns x))), w))) t),
  (λ (z, (t, w)). ⊎_elim
      (λ a. inl ((e y).1 (z, (a.0, w)), λ q. a.1 (k.once z x (w ∙ q))))
      (λ b. inr (subst (Contains (map r next)) w (contains_map r next z b.0), λ q. b.1 (k.once z (complement x) (w ∙ (q ∙ sym (k.turns x)))))) t),
)

resolves_renamed : (r : Lit → Lit) (k : IsRenaming r) (clauses : List (List Lit)) (set named : Lit → Type 0) (ids : List ℕ) (clause : List Lit)
    → ((y : Lit) → named y ↔ Image r set y) → Resolves (HasClause clauses) set ids clause → Resolves (HasClause (map (map r) clauses)) named ids (map r clause)
resolves_renamed r k clauses set named [] clause e h = λ y. (
  (λ n. let (z, (s, w)) = (e y).0 n in subst (Contains (map r clause)) w (contains_map r clause z ((h z).0 s))),
  (λ c. let (z, (d, w)) = contains_of_map r clause y c in (e y).1 (z, ((h z).1 d, w))),
)
resolves_renamed r k clauses set named (id ∷ ids) clause e (next, (at, (x, (p, h)))) = (
  map r next,
  (
    has_renamed r clauses id next at,
    (
      r x,
      (
        pivot_renamed r k set named next x e p,
        resolves_renamed r k clauses (Resolvent set next x) (Resolvent named (map r next) (r x)) ids clause (resolvent_renamed r k set named next x e) h,
      ),
    ),
  ),
)

pub derives_renamed : (r : Lit → Lit) (k : IsRenaming r) (clauses : List (List Lit)) (chain : List ℕ) (clause : List Lit)
    → DerivesClause (HasClause clauses) chain clause → DerivesClause (HasClause (map (map r) clauses)) chain (map r clause)
derives_renamed r k clauses [] clause d = d
derives_renamed r k clauses (id ∷ ids) clause (first, (at, h)) = (
  map r first,
  (
    has_renamed r clauses id first at,
    resolves_renamed r k clauses (Contains first) (Contains (map r first)) ids clause
        (λ y. (contains_of_map r first y, (λ (z, (d, w)). subst (Contains (map r first)) w (contains_map r first z d)))) h,
  ),
)

more_renamed : (r : Lit → Lit) (clauses : List (List Lit)) (clause : List Lit) → map (map r) (clauses ++ clause ∷ []) ≡ map (map r) clauses ++ map r clause ∷ []
more_renamed r clauses clause = map-append (map r) clauses (clause ∷ [])

pub log_renamed : (r : Lit → Lit) (k : IsRenaming r) (clauses : List (List Lit)) (log : List Step) → Derives clauses log →
    Derives (map (map r) clauses) (map (renamed_step r) log)
log_renamed r k clauses [] d = tt
log_renamed r k clauses (Added clause chain ∷ log) d = (
  derives_renamed r k clauses chain clause d.0,
  subst (λ (l : List (List Lit)). Derives l (map (renamed_step r) log)) (more_renamed r clauses clause) (log_renamed r k (clauses ++ clause ∷ []) log d.1),
)

member_back : (r : Lit → Lit) → IsRenaming r → (xs : List Lit) (x : Lit) → Contains (map r xs) (r x) → Contains xs x
member_back r k xs x c = let (z, (d, w)) = contains_of_map r xs (r x) c in subst (Contains xs) (k.once z x w) d

not_back : (r : Lit → Lit) → IsRenaming r → (xs : List Lit) (x : Lit) → (Contains xs (complement x) → ⊥) → Contains (map r xs) (complement (r x)) → ⊥
not_back r k xs x n c = n (member_back r k xs (complement x) (subst (Contains (map r xs)) (sym (k.turns x)) c))

open_renamed : (r : Lit → Lit) → IsRenaming r → (set clause : List Lit) → IsOpen set clause → IsOpen (map r set) (map r clause)
open_renamed r k set clause o =
    ⊎_elim
    (λ (i, x, l, e, t). let c = contains_map r clause x (i, l, e) in inl (c.0, r x, c.1, c.2, contains_map r set x t))
    (λ (x, (y, (cx, cy, d, nx, ny))). inr (
      r x,
      (
        r y,
        (
          contains_map r clause x cx,
          contains_map r clause y cy,
          (λ q. d (k.once x y q)),
          not_back r k set x nx,
          not_back r k set y ny,
        ),
      ),
    ))
    o

opens_renamed : (r : Lit → Lit) → IsRenaming r → (set : List Lit) (clauses : List (List Lit)) → All (IsOpen set) clauses →
    All (IsOpen (map r set)) (map (map r) clauses)
opens_renamed r k set [] a = λ i d l. absurd (omega (arith, l))
opens_renamed r k set (c ∷ cs) a =
    All-cons (IsOpen (map r set)) (map r c) (map (map r) cs) (open_renamed r k set c (All-head (IsOpen set) c cs a))
    (opens_renamed r k set cs (All-tail (IsOpen set) c cs a))

pub teaches_renamed : (r : Lit → Lit) → IsRenaming r → (clauses : List (List Lit)) (clause : List Lit) → Teaches clauses clause →
    Teaches (map (map r) clauses) (map r clause)
teaches_renamed r k clauses clause (set, (x, t)) = (
  map r set,
  (
    r x,
    record {
      consistent = λ y c d.
          let (z, (s, w)) = contains_of_map r set y c in
          let (u, (q, v)) = contains_of_map r set (complement y) d in
          let same : u ≡ complement z = k.once u (complement z) (v ∙ (ap complement (sym w) ∙ sym (k.turns z))) in
          t.consistent z s (subst (Contains set) same q);
      here = contains_map r clause x t.here;
      others = λ y c d.
          let (z, (s, w)) = contains_of_map r clause y c in
          let o : Contains set (complement z) = t.others z s (λ q. d (sym w ∙ ap r q)) in
          subst (Contains (map r set)) (k.turns z ∙ ap complement w) (contains_map r set (complement z) o);
      undecided = ((λ c. t.undecided.0 (member_back r k set x c)), not_back r k set x t.undecided.1);
      opens = opens_renamed r k set clauses t.opens;
    },
  ),
)

pub each_renamed : (r : Lit → Lit) → IsRenaming r → (clauses : List (List Lit)) (log : List Step) → EachTeaches clauses log →
    EachTeaches (map (map r) clauses) (map (renamed_step r) log)
each_renamed r k clauses [] d = tt
each_renamed r k clauses (Added clause chain ∷ log) d = (
  teaches_renamed r k clauses clause d.0,
  subst (λ (l : List (List Lit)). EachTeaches l (map (renamed_step r) log)) (more_renamed r clauses clause) (each_renamed r k (clauses ++ clause ∷ []) log d.1),
)

empty_renamed : (r : Lit → Lit) (step : Step) → clause_of step ≡ [] → clause_of (renamed_step r step) ≡ []
empty_renamed r (Added clause chain) e = ap (map r) e

pub refutes_renamed : (r : Lit → Lit) → IsRenaming r → (clauses : List (List Lit)) (log : List Step) → Refutes clauses log →
    Refutes (map (map r) clauses) (map (renamed_step r) log)
refutes_renamed r k clauses log f = record {
  derives = log_renamed r k clauses log f.derives;
  empty = ⊎_elim (λ c. inl (contains_map (map r) clauses [] c))
      (λ (rest, (step, (e, n))). inr (
        map (renamed_step r) rest,
        (renamed_step r step, (ap (map (renamed_step r)) e ∙ map-append (renamed_step r) rest (step ∷ []), empty_renamed r step n)),
      )) f.empty;
}

pub spent_renamed : (r : Lit → Lit) → IsRenaming r → (clauses : List (List Lit)) (log : List Step) (budget : ℕ) → SpentLog clauses log budget →
    SpentLog (map (map r) clauses) (map (renamed_step r) log) budget
spent_renamed r k clauses log budget s = record {
  derives = log_renamed r k clauses log s.derives;
  count = length-map log (renamed_step r) ∙ s.count;
  teach = each_renamed r k clauses log s.teach;
}
