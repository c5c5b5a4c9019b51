-- What is proved of each step that makes gates.
use Rattle.std.proofs.Common.{
  ◌≡◌,
  ◌≤◌,
  ℕ,
  Bool,
  true,
  false,
  not,
  ◌&&◌,
  ◌||◌,
  List,
  [],
  ◌∷◌,
  ◌++◌,
  length,
  sym,
  subst,
  ap,
  ◌∙◌,
  arith,
  refl,
  append_assoc,
  length-append,
}
use Rattle.std.proofs.lemmas.List.{append-nil}
use Rattle.ygg_cnf.specs.Literals.{complement}
use Rattle.ygg_cnf.specs.declared.lit.Lit.{Lit}
use Rattle.ygg_gates.specs.Circuits.{Out, pure, next_variable, placed, either}
use Rattle.ygg_gates.specs.declared.gate.Gate.{Gate}
use Rattle.ygg_gates.specs.declared.gate.Gate.TheVariants.{And}
use Rattle.ygg_gates.proofs.Truths.{value_of, gate_value, Follows, value_of-complement}
use Rattle.ygg_gates.proofs.Following.{Below, ReadsBelow, Closed, closed_push, Extended, chosen, follows_front, follows_last}

-- gates, and perhaps more after them
pub record Grows (old new : List Gate) : Type 0 where
  pub more : List Gate
  pub is : new ≡ old ++ more

pub grows_both : (a b c : List Gate) → Grows a b → Grows b c → Grows a c
grows_both a b c g h = record { more = g.more ++ h.more; is = h.is ∙ ap (λ z. z ++ h.more) g.is ∙ append_assoc a g.more h.more }

pub grows_self : (a : List Gate) → Grows a a
grows_self a = record { more = []; is = sym (append-nil a) }

pub grows_length : (a b : List Gate) → Grows a b → next_variable a ≤ next_variable b
grows_length a b g = omega (arith, ap length g.is, length-append a g.more)

pub follows_before : (v : ℕ → Bool) (a b : List Gate) → Grows a b → Follows v 2 b → Follows v 2 a
follows_before v a b g f = follows_front v 2 a g.more (subst (Follows v 2) g.is f)

-- what a step makes: gates after the old ones, that read no variable past them; values for them where there are values for the old
-- ones; an answer over variables that there are; and what the answer means under values that follow the gates
pub record Good (A : Type 0) (W : ℕ → A → Type 0) (M : (ℕ → Bool) → A → Type 0) (old : List Gate) (out : Out A) : Type 0 where
  pub grows : Grows old out.gates
  pub closed : Closed old → Closed out.gates
  pub extends : Closed old → (v : ℕ → Bool) → Follows v 2 old → Extended v old out.gates
  pub within : W (next_variable out.gates) out.value
  pub means : (v : ℕ → Bool) → v 1 ≡ true → Follows v 2 out.gates → M v out.value

-- values for more gates, and for more after those
both_extended : (v : ℕ → Bool) (a b c : List Gate) → Grows a b → (e : Extended v a b) → Extended e.it b c → Extended v a c
both_extended v a b c g e f = record {
  it = f.it;
  same = λ k l. e.same k l ∙ f.same k (let m = grows_length a b g in omega (arith, m));
  follows = f.follows;
}

-- a step, another after it, and an answer from what both answered
pub follow : {A B C : Type 0} {W : ℕ → A → Type 0} {M : (ℕ → Bool) → A → Type 0} {X : ℕ → B → Type 0} {N : (ℕ → Bool) → B → Type 0}
    (Y : ℕ → C → Type 0) (K : (ℕ → Bool) → C → Type 0)
    (old : List Gate) (one : Out A) (two : Out B) (c : C) →
    Good A W M old one → Good B X N one.gates two →
    (next_variable one.gates ≤ next_variable two.gates → W (next_variable one.gates) one.value → X (next_variable two.gates) two.value →
    Y (next_variable two.gates) c) →
    ((v : ℕ → Bool) → v 1 ≡ true → M v one.value → N v two.value → K v c) → Good C Y K old (record { value = c; gates = two.gates })
follow Y K old one two c g h w m = record {
  grows = grows_both old one.gates two.gates g.grows h.grows;
  closed = λ c. h.closed (g.closed c);
  extends = λ c v f. let e = g.extends c v f in both_extended v old one.gates two.gates g.grows e (h.extends (g.closed c) e.it e.follows);
  within = w (grows_length one.gates two.gates h.grows) g.within h.within;
  means = λ v t f. m v t (g.means v t (follows_before v one.gates two.gates h.grows f)) (h.means v t f);
}

-- an answer from what a step answered
pub changed : {A C : Type 0} {W : ℕ → A → Type 0} {M : (ℕ → Bool) → A → Type 0} (Y : ℕ → C → Type 0) (K : (ℕ → Bool) → C → Type 0) (old : List Gate)
    (one : Out A) (c : C) →
    Good A W M old one → (W (next_variable one.gates) one.value → Y (next_variable one.gates) c) → ((v : ℕ → Bool) → v 1 ≡ true → M v one.value → K v c) →
    Good C Y K old (record { value = c; gates = one.gates })
changed Y K old one c g w m = record {
  grows = g.grows;
  closed = g.closed;
  extends = g.extends;
  within = w g.within;
  means = λ v t f. m v t (g.means v t f);
}

-- the end, which adds no gates
pub done : {A : Type 0} (W : ℕ → A → Type 0) (M : (ℕ → Bool) → A → Type 0) (old : List Gate) (a : A) → W (next_variable old) a →
    ((v : ℕ → Bool) → v 1 ≡ true → M v a) → Good A W M old (pure a old)
done W M old a w m = record {
  grows = grows_self old;
  closed = λ c. c;
  extends = λ c v f. record { it = v; same = λ k l. refl; follows = f };
  within = w;
  means = λ v t f. m v t;
}

-- a gate's variable has the gate's value
abbrev pub IsGate : Gate → (ℕ → Bool) → Lit → Type 0
IsGate g v x = value_of v x ≡ gate_value v (value_of v x) g

pub placed_good : (g : Gate) (old : List Gate) → ReadsBelow (next_variable old) g → Good Lit Below (IsGate g) old (placed g old)
placed_good g old r = record {
  grows = record { more = g ∷ []; is = refl };
  closed = closed_push old g r;
  extends = λ c v f. (chosen v (v (next_variable old)) g old r c f).extended;
  within = let e = length-append old (g ∷ []) in omega (arith, e);
  means = λ v t f. follows_last v 2 (next_variable old) old g (omega arith) f;
}

or_table : (a b : Bool) → not (not a && not b) ≡ (a || b)
or_table true b = refl
or_table false true = refl
or_table false false = refl

-- OR of two literals
pub either_good : (a b : Lit) (old : List Gate) → Below (next_variable old) a → Below (next_variable old) b →
    Good Lit Below (λ v x. value_of v x ≡ (value_of v a || value_of v b)) old (either a b old)
either_good a b old p q =
    let g : Gate = And (complement a) (complement b) in
    let o : Out Lit = placed g old in
    changed Below (λ v x. value_of v x ≡ (value_of v a || value_of v b)) old o (complement o.value) (placed_good g old (p, q)) (λ w. w)
    (λ v t e.
    value_of-complement v o.value ∙ ap not (e ∙ ap (λ z. z && value_of v (complement b)) (value_of-complement v a)
    ∙ ap (λ z. not (value_of v a) && z) (value_of-complement v b))
    ∙ or_table (value_of v a) (value_of v b))
