-- A gate's clauses are true exactly where its variable has the gate's value.
use Rattle.std.proofs.Common.{
  ◌≡◌,
  ◌<◌,
  ℕ,
  zero,
  suc,
  Bool,
  true,
  false,
  not,
  cond,
  ◌&&◌,
  ◌||◌,
  ◌⊎◌,
  List,
  [],
  ◌∷◌,
  ◌++◌,
  length,
  get_or,
  map,
  Contains,
  ⊎_elim,
  sym,
  subst,
  ap,
  ◌∙◌,
  arith,
  refl,
  inl,
  inr,
}
use Rattle.std.proofs.lemmas.Bool.{false≢true}
use Rattle.std.proofs.lemmas.List.Elements.{All-nil, All-cons, All-head, All-tail}
use Rattle.ygg_cnf.specs.declared.lit.Lit.{Lit}
use Rattle.ygg_cnf.specs.Literals.{complement, once, IsSameSet, SatisfiesClause, SatisfiesAll}
use Rattle.ygg_cnf.proofs.Once.{once_is_same}
use Rattle.ygg_gates.specs.Circuits.{literal}
use Rattle.ygg_gates.specs.Clauses.{gate_rows, gate_clauses, clauses_from}
use Rattle.ygg_gates.specs.declared.gate.Gate.{Gate}
use Rattle.ygg_gates.specs.declared.gate.Gate.TheVariants.{Free, And, Xor, Mux}

-- the value of a literal
abbrev pub value_of : (ℕ → Bool) → Lit → Bool
value_of v x = cond x.negated (not (v x.var)) (v x.var)

-- true where just one of them is
abbrev pub differ : Bool → Bool → Bool
differ a b = cond a (not b) b

-- the value of a gate, where a free variable has its own
abbrev pub gate_value : (ℕ → Bool) → Bool → Gate → Bool
gate_value v own Free = own
gate_value v own (And a b) = value_of v a && value_of v b
gate_value v own (Xor a b) = differ (value_of v a) (value_of v b)
gate_value v own (Mux c a b) = cond (value_of v c) (value_of v a) (value_of v b)

-- the variables from this one on have the values of these gates
abbrev pub Follows : (ℕ → Bool) → ℕ → List Gate → Type 0
Follows v n [] = Unit {0}
Follows v n (g ∷ gs) = (v n ≡ gate_value v (v n) g) × Follows v (suc n) gs

-- the clause as a test
abbrev pub clause_true : (ℕ → Bool) → List Lit → Bool
clause_true v [] = false
clause_true v (x ∷ xs) = value_of v x || clause_true v xs

abbrev pub all_true : (ℕ → Bool) → List (List Lit) → Bool
all_true v [] = true
all_true v (c ∷ cs) = clause_true v c && all_true v cs

twice : (b : Bool) → b ≡ not (not b)
twice true = refl
twice false = refl

pub value_of-complement : (v : ℕ → Bool) (x : Lit) → value_of v (complement x) ≡ not (value_of v x)
value_of-complement v x =
    elim x.negated as (λ b. cond (not b) (not (v x.var)) (v x.var) ≡ not (cond b (not (v x.var)) (v x.var)))
    [ true ↦ twice (v x.var) | false ↦ refl ]

and_table : (o a b : Bool) → ((not o || (a || false)) && ((not o || (b || false)) && ((o || (not a || (not b || false))) && true))) ≡ not (differ o (a && b))
and_table true true true = refl
and_table true true false = refl
and_table true false b = refl
and_table false true true = refl
and_table false true false = refl
and_table false false b = refl

xor_table : (o a b : Bool) → ((not o || (a || (b || false)))
    && ((not o || (not a || (not b || false))) && ((o || (not a || (b || false))) && ((o || (a || (not b || false))) && true)))) ≡ not (differ o (differ a b))
xor_table true true true = refl
xor_table true true false = refl
xor_table true false true = refl
xor_table true false false = refl
xor_table false true true = refl
xor_table false true false = refl
xor_table false false true = refl
xor_table false false false = refl

mux_table : (o c a b : Bool) → ((not o || (not c || (a || false)))
    && ((o || (not c || (not a || false))) && ((not o || (c || (b || false))) && ((o || (c || (not b || false))) && true)))) ≡ not (differ o (cond c a b))
mux_table true true true b = refl
mux_table true true false b = refl
mux_table true false a true = refl
mux_table true false a false = refl
mux_table false true true b = refl
mux_table false true false b = refl
mux_table false false a true = refl
mux_table false false a false = refl

own_table : (o : Bool) → true ≡ not (differ o o)
own_table true = refl
own_table false = refl

-- the rows of a gate, as one test
rows_test : (v : ℕ → Bool) (n : ℕ) (g : Gate) → all_true v (gate_rows (literal n) g) ≡ not (differ (v n) (gate_value v (v n) g))
rows_test v n Free = own_table (v n)
rows_test v n (And a b) = rw (value_of-complement v a, value_of-complement v b) (and_table (v n) (value_of v a) (value_of v b))
rows_test v n (Xor a b) = simp (value_of-complement v a, value_of-complement v b) (xor_table (v n) (value_of v a) (value_of v b))
rows_test v n (Mux c a b) =
    simp (value_of-complement v a, value_of-complement v b, value_of-complement v c) (mux_table (v n) (value_of v c) (value_of v a) (value_of v b))

same_from_test : (a b : Bool) → not (differ a b) ≡ true → a ≡ b
same_from_test true true h = refl
same_from_test true false h = absurd (false≢true h)
same_from_test false true h = absurd (false≢true h)
same_from_test false false h = refl

test_from_same : (a : Bool) → not (differ a a) ≡ true
test_from_same true = refl
test_from_same false = refl

pub and_left : (a b : Bool) → (a && b) ≡ true → a ≡ true
and_left true b h = refl
and_left false b h = h

pub and_right : (a b : Bool) → (a && b) ≡ true → b ≡ true
and_right true b h = h
and_right false b h = absurd (false≢true h)

pub and_both : (a b : Bool) → a ≡ true → b ≡ true → (a && b) ≡ true
and_both true b h k = k
and_both false b h k = h

pub all_true-append : (v : ℕ → Bool) (cs ds : List (List Lit)) → all_true v (cs ++ ds) ≡ (all_true v cs && all_true v ds)
all_true-append v [] ds = refl
all_true-append v (c ∷ cs) ds =
    elim (clause_true v c) as (λ b. (b && all_true v (cs ++ ds)) ≡ ((b && all_true v cs) && all_true v ds))
    [ true ↦ all_true-append v cs ds | false ↦ refl ]

-- the test of clauses is that they are satisfied
true_literal_is : (a n : Bool) → cond n (not a) a ≡ true → a ≡ not n
true_literal_is true true h = absurd (false≢true h)
true_literal_is true false h = refl
true_literal_is false true h = refl
true_literal_is false false h = absurd (false≢true h)

literal_is_true : (a n : Bool) → a ≡ not n → cond n (not a) a ≡ true
literal_is_true true true h = absurd (false≢true (sym h))
literal_is_true true false h = refl
literal_is_true false true h = refl
literal_is_true false false h = absurd (false≢true h)

pub or_cases : (a b : Bool) → (a || b) ≡ true → (a ≡ true) ⊎ (b ≡ true)
or_cases true b h = inl refl
or_cases false b h = inr h

pub or_first : (a b : Bool) → a ≡ true → (a || b) ≡ true
or_first true b h = refl
or_first false b h = absurd (false≢true h)

pub or_second : (a b : Bool) → b ≡ true → (a || b) ≡ true
or_second true b h = refl
or_second false b h = h

-- some item at a place is true
later : (v : ℕ → Bool) (y : Lit) (c : List Lit) → SatisfiesClause v c → SatisfiesClause v (y ∷ c)
later v y c h = (suc h.0, h.1, (let l = h.2 in omega arith), h.3, h.4)

clause_satisfied : (v : ℕ → Bool) (c : List Lit) → clause_true v c ≡ true → SatisfiesClause v c
clause_satisfied v [] h = absurd (false≢true h)
clause_satisfied v (x ∷ c) h =
    ⊎_elim (λ (e : value_of v x ≡ true). (0, x, omega arith, refl, true_literal_is (v x.var) x.negated e))
    (λ (e : clause_true v c ≡ true). later v x c (clause_satisfied v c e)) (or_cases (value_of v x) (clause_true v c) h)

at_place : (v : ℕ → Bool) (c : List Lit) (k : ℕ) (x : Lit) → k < length c → get_or c k x ≡ x → value_of v x ≡ true → clause_true v c ≡ true
at_place v [] k x l e t = absurd (omega arith)
at_place v (y ∷ c) zero x l e t = or_first (value_of v y) (clause_true v c) (ap (value_of v) e ∙ t)
at_place v (y ∷ c) (suc k) x l e t = or_second (value_of v y) (clause_true v c) (at_place v c k x (omega arith) e t)

satisfied_clause : (v : ℕ → Bool) (c : List Lit) → SatisfiesClause v c → clause_true v c ≡ true
satisfied_clause v c h = at_place v c h.0 h.1 h.2 h.3 (literal_is_true (v h.1.var) h.1.negated h.4)

-- clauses with the same literals are true together
true_as_set : (v : ℕ → Bool) (a b : List Lit) → IsSameSet a b → clause_true v a ≡ true → clause_true v b ≡ true
true_as_set v a b same h =
    let s : SatisfiesClause v a = clause_satisfied v a h in
    let there : Contains b s.1 = (same s.1).0 (s.0, s.2, s.3) in
    satisfied_clause v b (there.0, s.1, there.1, there.2, s.4)

same_tests : (a b : Bool) → (a ≡ true → b ≡ true) → (b ≡ true → a ≡ true) → a ≡ b
same_tests true b f g = sym (f refl)
same_tests false true f g = g refl
same_tests false false f g = refl

-- keeping each literal once changes no clause's truth
once_true : (v : ℕ → Bool) (c : List Lit) → clause_true v (once c) ≡ clause_true v c
once_true v c =
    same_tests (clause_true v (once c)) (clause_true v c) (true_as_set v (once c) c (once_is_same c))
    (true_as_set v c (once c) (λ x. let same = once_is_same c x in (same.1, same.0)))

each_once_true : (v : ℕ → Bool) (cs : List (List Lit)) → all_true v (map once cs) ≡ all_true v cs
each_once_true v [] = refl
each_once_true v (c ∷ cs) = ap (λ b. b && all_true v (map once cs)) (once_true v c) ∙ ap (λ b. clause_true v c && b) (each_once_true v cs)

-- the clauses of a gate, as one test
gate_test : (v : ℕ → Bool) (n : ℕ) (g : Gate) → all_true v (gate_clauses (literal n) g) ≡ not (differ (v n) (gate_value v (v n) g))
gate_test v n g = each_once_true v (gate_rows (literal n) g) ∙ rows_test v n g

-- the clauses of gates are true exactly where the variables have the gates' values
pub follows_from : (v : ℕ → Bool) (n : ℕ) (gs : List Gate) → all_true v (clauses_from n gs) ≡ true → Follows v n gs
follows_from v n [] h = tt
follows_from v n (g ∷ gs) h =
    let k = sym (all_true-append v (gate_clauses (literal n) g) (clauses_from (suc n) gs)) ∙ h in (
      same_from_test (v n) (gate_value v (v n) g) (sym (gate_test v n g) ∙ and_left _ _ k),
      follows_from v (suc n) gs (and_right _ _ k),
    )

pub true_from_follows : (v : ℕ → Bool) (n : ℕ) (gs : List Gate) → Follows v n gs → all_true v (clauses_from n gs) ≡ true
true_from_follows v n [] f = refl
true_from_follows v n (g ∷ gs) (e, f) =
    all_true-append v (gate_clauses (literal n) g) (clauses_from (suc n) gs)
    ∙ and_both _ _ (gate_test v n g ∙ subst (λ b. not (differ (v n) b) ≡ true) e (test_from_same (v n))) (true_from_follows v (suc n) gs f)

pub satisfied : (v : ℕ → Bool) (cs : List (List Lit)) → all_true v cs ≡ true → SatisfiesAll v cs
satisfied v [] h = All-nil (SatisfiesClause v)
satisfied v (c ∷ cs) h = All-cons (SatisfiesClause v) c cs (clause_satisfied v c (and_left _ _ h)) (satisfied v cs (and_right _ _ h))

pub satisfies : (v : ℕ → Bool) (cs : List (List Lit)) → SatisfiesAll v cs → all_true v cs ≡ true
satisfies v [] h = refl
satisfies v (c ∷ cs) h = and_both _ _ (satisfied_clause v c (All-head (SatisfiesClause v) c cs h)) (satisfies v cs (All-tail (SatisfiesClause v) c cs h))
