-- Whether clauses can be satisfied: the literals of each clause are tried in turn, and a variable keeps the value that it was given.
use Rattle.std.proofs.Common.{
  ◌≡◌,
  ◌==◌,
  ◌<◌,
  ◌⊎◌,
  inl,
  inr,
  ℕ,
  zero,
  suc,
  Bool,
  true,
  false,
  not,
  if◌then◌else◌,
  List,
  [],
  ◌∷◌,
  All,
  Option,
  Some,
  None,
  refl,
  sym,
  ap,
  subst,
  ◌∙◌,
  arith,
}
use Rattle.std.specs.Prelude.{Any, length, unwrap_or}
use Rattle.std.proofs.lemmas.Bool.Decides.{nat_tests}
use Rattle.std.proofs.lemmas.List.Elements.{All-nil, All-cons, All-head, All-tail}
use Rattle.ygg_decide.specs.ygg_cnf.declared.lit.Lit.{Lit}
use Rattle.ygg_decide.specs.ygg_cnf.Literals.{Satisfies, SatisfiesClause, SatisfiesAll}

any_here : (P : Lit → Type 0) (x : Lit) (xs : List Lit) → P x → Any P (x ∷ xs)
any_here P x xs p = (zero, x, omega arith, refl, p)

any_there : (P : Lit → Type 0) (x : Lit) (xs : List Lit) → Any P xs → Any P (x ∷ xs)
any_there P x xs (k, y, within, is, p) = (suc k, y, omega arith, is, p)

any_cases : (P : Lit → Type 0) (x : Lit) (xs : List Lit) → Any P (x ∷ xs) → P x ⊎ Any P xs
any_cases P x xs (zero, y, within, is, p) = inl (subst P (sym is) p)
any_cases P x xs (suc k, y, within, is, p) = inr (k, y, omega arith, is, p)

none_in : (P : Lit → Type 0) → Any P [] → ⊥
none_in P (k, y, within, is, p) = absurd (omega arith)

-- values that some variables were given
abbrev Given : Type 0
Given = ℕ → Option Bool

-- truth values that keep to them
abbrev Keeps : Given → (ℕ → Bool) → Type 0
Keeps given value = (n : ℕ) (b : Bool) → given n ≡ Some b → value n ≡ b

-- one more variable is given a value
abbrev with_value : Given → ℕ → Bool → Given
with_value given x b n = if n == x then Some b else given n

-- truth values that satisfy a clause and others, or none do that keep to what is given
record Found (given : Given) (Sat : (ℕ → Bool) → Type 0) : Type 0 where
  value : ℕ → Bool
  keeps : Keeps given value
  satisfies : Sat value

abbrev None_ : Given → ((ℕ → Bool) → Type 0) → Type 0
None_ given Sat = (value : ℕ → Bool) → Keeps given value → Sat value → ⊥

abbrev Decision : Given → ((ℕ → Bool) → Type 0) → Type 0
Decision given Sat = Found given Sat ⊎ None_ given Sat

-- a clause that has a true literal among these, and the clauses after it
abbrev Both : List Lit → List (List Lit) → (ℕ → Bool) → Type 0
Both xs cs value = SatisfiesClause value xs × SatisfiesAll value cs

given_here : (given : Given) (x : ℕ) (b : Bool) → with_value given x b x ≡ Some b
given_here given x b = let t : (x == x) ≡ true = grind (arith, nat_tests) in ap (λ z. if z then Some b else given x) t

-- what keeps to a new value of a variable that had none keeps to the old ones
keeps_less : (given : Given) (x : ℕ) (b : Bool) (value : ℕ → Bool) → given x ≡ None → Keeps (with_value given x b) value → Keeps given value
keeps_less given x b value none keeps n c e = at (n == x) refl where
  at : (t : Bool) → (n == x) ≡ t → value n ≡ c
  at true t =
      let same : n ≡ x = grind (arith, nat_tests) in
      let f : given n ≡ None = ap given same ∙ none in absurd (cc)
  at false t = keeps n c (ap (λ z. if z then Some b else given n) t ∙ e)

keeps_more : (given : Given) (x : ℕ) (b : Bool) (value : ℕ → Bool) → value x ≡ b → Keeps given value → Keeps (with_value given x b) value
keeps_more given x b value is keeps n c e = at (n == x) refl where
  at : (t : Bool) → (n == x) ≡ t → value n ≡ c
  at true t =
      let same : n ≡ x = grind (arith, nat_tests) in
      let f : Some b ≡ Some c = sym (ap (λ z. if z then Some b else given n) t) ∙ e in
      let g : b ≡ c = cc in ap value same ∙ is ∙ g
  at false t = keeps n c (sym (ap (λ z. if z then Some b else given n) t) ∙ e)

-- one of the other literals, with what follows
from_rest : (given : Given) (x : Lit) (xs : List Lit) (cs : List (List Lit)) → Decision given (Both xs cs) →
    ((value : ℕ → Bool) → Keeps given value → Satisfies value x → SatisfiesAll value cs → ⊥) → Decision given (Both (x ∷ xs) cs)
from_rest given x xs cs (inl f) never =
    inl (record { value = f.value; keeps = f.keeps; satisfies = (any_there (Satisfies f.value) x xs f.satisfies.0, f.satisfies.1) })
from_rest given x xs cs (inr none) never = inr (λ value keeps both. go value keeps both.1 (any_cases (Satisfies value) x xs both.0)) where
  go : (value : ℕ → Bool) → Keeps given value → SatisfiesAll value cs → Satisfies value x ⊎ SatisfiesClause value xs → ⊥
  go value keeps rest (inl here) = never value keeps here rest
  go value keeps rest (inr there) = none value keeps (there, rest)

-- a literal that is true already
when_true : (given : Given) (x : Lit) (xs : List Lit) (cs : List (List Lit)) → given x.var ≡ Some (not x.negated) →
    Decision given (λ value. SatisfiesAll value cs) →
    Decision given (Both (x ∷ xs) cs)
when_true given x xs cs e (inl f) =
    inl (record { value = f.value; keeps = f.keeps; satisfies = (any_here (Satisfies f.value) x xs (f.keeps x.var (not x.negated) e), f.satisfies) })
when_true given x xs cs e (inr none) = inr (λ value keeps both. none value keeps both.1)

-- a literal of a variable that has no value yet
when_open : (given : Given) (x : Lit) (xs : List Lit) (cs : List (List Lit)) → given x.var ≡ None →
    Decision (with_value given x.var (not x.negated)) (λ value. SatisfiesAll value cs) → Decision given (Both xs cs) → Decision given (Both (x ∷ xs) cs)
when_open given x xs cs e (inl f) rest =
    let b = not x.negated in
    inl (record {
      value = f.value;
      keeps = keeps_less given x.var b f.value e f.keeps;
      satisfies = (any_here (Satisfies f.value) x xs (f.keeps x.var b (given_here given x.var b)), f.satisfies);
    })
when_open given x xs cs e (inr none) rest =
    from_rest given x xs cs rest (λ value keeps here all. none value (keeps_more given x.var (not x.negated) value here keeps) all)

not_both : (a b : Bool) → (a ≡ b → ⊥) → a ≡ not b
not_both true true f = absurd (f refl)
not_both true false f = refl
not_both false true f = refl
not_both false false f = absurd (f refl)

same_or_not : (a b : Bool) → (a ≡ b) ⊎ (a ≡ b → ⊥)
same_or_not true true = inl refl
same_or_not true false = inr (λ e. absurd (cc e))
same_or_not false true = inr (λ e. absurd (cc e))
same_or_not false false = inl refl

-- the literals in turn, where the clauses after can be decided whatever is given
tried : (cs : List (List Lit)) → ((given : Given) → Decision given (λ value. SatisfiesAll value cs)) → (xs : List Lit) (given : Given) →
    Decision given (Both xs cs)
tried cs rest [] given = inr (λ value keeps both. none_in (Satisfies value) both.0)
tried cs rest (x ∷ xs) given = by (given x.var) refl (tried cs rest xs given) where
  by : (o : Option Bool) → given x.var ≡ o → Decision given (Both xs cs) → Decision given (Both (x ∷ xs) cs)
  by None e others = when_open given x xs cs e (rest (with_value given x.var (not x.negated))) others
  by (Some b) e others = known (same_or_not b (not x.negated)) where
    known : (b ≡ not x.negated) ⊎ (b ≡ not x.negated → ⊥) → Decision given (Both (x ∷ xs) cs)
    known (inl same) = when_true given x xs cs (e ∙ ap (λ z. Some z) same) (rest given)
    known (inr differs) = from_rest given x xs cs others (λ value keeps here all. differs (sym (keeps x.var b e) ∙ here))

both_all : (c : List Lit) (cs : List (List Lit)) (given : Given) → Decision given (Both c cs) → Decision given (λ value. SatisfiesAll value (c ∷ cs))
both_all c cs given (inl f) =
    inl (record { value = f.value; keeps = f.keeps; satisfies = All-cons (SatisfiesClause f.value) c cs f.satisfies.0 f.satisfies.1 })
both_all c cs given (inr none) =
    inr (λ value keeps all. none value keeps (All-head (SatisfiesClause value) c cs all, All-tail (SatisfiesClause value) c cs all))

decided : (cs : List (List Lit)) (given : Given) → Decision given (λ value. SatisfiesAll value cs)
decided [] given =
    inl (record {
      value = λ n. unwrap_or (given n) false;
      keeps = λ n b e. ap (λ (o : Option Bool). unwrap_or o false) e;
      satisfies = All-nil (SatisfiesClause (λ n. unwrap_or (given n) false));
    })
decided (c ∷ cs) given = both_all c cs given (tried cs (decided cs) c given)

-- clauses can be satisfied, or they can't
pub satisfiable : (cs : List (List Lit)) → ((value : ℕ → Bool) × SatisfiesAll value cs) ⊎ ((value : ℕ → Bool) → SatisfiesAll value cs → ⊥)
satisfiable cs = at (decided cs (λ n. None)) where
  at : Decision (λ n. None) (λ value. SatisfiesAll value cs) → ((value : ℕ → Bool) × SatisfiesAll value cs) ⊎ ((value : ℕ → Bool) → SatisfiesAll value cs → ⊥)
  at (inl f) = inl (f.value, f.satisfies)
  at (inr none) = inr (λ value all. none value (λ n b e. absurd (cc)) all)
