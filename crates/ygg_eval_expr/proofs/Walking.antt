-- Quantifiers number by number.
use Rattle.std.proofs.Common.{
  ◌≡◌,
  ℕ,
  zero,
  suc,
  ◌+◌,
  ◌<◌,
  ◌⊎◌,
  inl,
  inr,
  Bool,
  true,
  false,
  not,
  List,
  [],
  ◌∷◌,
  ◌++◌,
  length,
  refl,
  sym,
  ap,
  ◌∙◌,
  arith,
  add-one,
  append_assoc,
}
use Rattle.std.specs.Prelude.{◌&&◌, ◌||◌, slice_set}
use Rattle.std.proofs.Math.Seq.{set-append_seam}
use Rattle.std.proofs.lemmas.Bool.{cases_lt}
use Rattle.std.proofs.Math.Bool.{beq}
use Rattle.std.proofs.lemmas.List.{length-map, map-append}
use Rattle.ygg_value.specs.Words.{word}
use Rattle.ygg_value.specs.declared.row.Value.{Value}
use Rattle.ygg_value.specs.declared.row.Value.TheVariants.{Word}
use Rattle.ygg_syntax.specs.declared.tree.Def.{Def}
use Rattle.ygg_syntax.specs.declared.tree.Quantifier.{Quantifier}
use Rattle.ygg_syntax.specs.declared.tree.Quantifier.TheVariants.{All, Any}
use Rattle.ygg_meaning_laws.specs.Environments.{Env}
use Rattle.ygg_meaning_laws.specs.Meaning.{all_below, any_below, quantified}
use Rattle.ygg_eval_expr.specs.declared.held.Binding.{Binding}
use Rattle.ygg_eval_expr.specs.Held.{env_of, held_value}
use Rattle.ygg_eval_expr.specs.Known.{Known, is_all, with_number}

-- what is known inside quantifiers
abbrev pub inside : List Def → Env → Env → Env → Known
inside defs own numbers low = record { defs = defs; own = own ++ numbers; low = low }

-- names with values, and one more
pub record EndsIn (before now : Env) : Type 0 where
  pub last : List ℕ × Value
  pub is : now ≡ before ++ last ∷ []

-- a name with its value
abbrev named : Binding → (List ℕ × Value)
named b = (b.name.now, held_value b.held)

-- another binding at a place
env_set : (xs : List Binding) (at : ℕ) (b : Binding) → env_of (slice_set xs at b) ≡ slice_set (env_of xs) at (named b)
env_set [] at b = refl
env_set (x ∷ xs) zero b = refl
env_set (x ∷ xs) (suc at) b = ap (λ e. named x ∷ e) (env_set xs at b)

-- the last binding replaced by another one
last_set : (before now new : List Binding) (at : ℕ) (b : Binding) → at ≡ length before → EndsIn (env_of before) (env_of now) →
    new ≡ slice_set now at b → env_of new ≡ env_of before ++ (b.name.now, held_value b.held) ∷ []
last_set before now new at b e ends write =
    ap env_of write ∙ env_set now at b ∙ ap (λ xs. slice_set xs at (named b)) ends.is
    ∙ ap (λ n. slice_set (env_of before ++ ends.last ∷ []) n (named b)) (e ∙ sym (length-map before named))
    ∙ set-append_seam (env_of before) ends.last [] (named b)

pub last_replaced : (before now : List Binding) (at : ℕ) (b : Binding) → at ≡ length before → EndsIn (env_of before) (env_of now) →
    EndsIn (env_of before) (env_of (slice_set now at b))
last_replaced before now at b e ends = record { last = named b; is = last_set before now (slice_set now at b) at b e ends refl }

-- a binding put after others with the same names and values
pub last_pushed : (before others new : List Binding) (b : Binding) → env_of others ≡ env_of before → new ≡ others ++ b ∷ [] →
    EndsIn (env_of before) (env_of new)
last_pushed before others new b same push = record { last = named b; is = ap env_of push ∙ map-append named others (b ∷ []) ∙ ap (λ e. e ++ named b ∷ []) same }

-- what is known at a number
pub at_number : (defs : List Def) (own low : Env) (before now new : List Binding) (at : ℕ) (b : Binding) (name : List ℕ) (w i : ℕ) →
    at ≡ length before → EndsIn (env_of before) (env_of now) → new ≡ slice_set now at b
    → b.name.now ≡ name → held_value b.held ≡ Word (word w i) → inside defs own (env_of new) low ≡ with_number (inside defs own (env_of before) low) name w i
at_number defs own low before now new at b name w i e ends write called valued =
    let pair : List ℕ → Value → (List ℕ × Value) = λ n v. (n, v) in
    let here : pair b.name.now (held_value b.held) ≡ pair name (Word (word w i)) = ap (λ n. pair n (held_value b.held)) called ∙ ap (pair name) valued in
    ap (λ (o : Env). record { defs = defs; own = o; low = low })
    (ap (λ xs. own ++ xs) (last_set before now new at b e ends write ∙ ap (λ b. env_of before ++ b ∷ []) here)
    ∙ sym (append_assoc own (env_of before) (pair name (Word (word w i)) ∷ [])))

-- a quantifier over no numbers, over one more, and once a number decides it
pub none_tested : (which : Quantifier) (test : ℕ → Bool) → is_all which ≡ quantified which 0 test
none_tested All test = refl
none_tested Any test = refl

pub one_tested : (which : Quantifier) (i : ℕ) (test : ℕ → Bool) → is_all which ≡ quantified which i test → test i ≡ is_all which →
    is_all which ≡ quantified which (i + 1) test
one_tested which i test h e = go which h e ∙ ap (λ n. quantified which n test) (sym (add-one i))
  where
    go : (which : Quantifier) → is_all which ≡ quantified which i test → test i ≡ is_all which → is_all which ≡ quantified which (suc i) test
    go All h e = sym (ap (λ b. b && test i) (sym h) ∙ e)
    go Any h e = sym (ap (λ b. b || test i) (sym h) ∙ e)

less_or_last : (i n : ℕ) → i < suc n → (i < n) ⊎ (i ≡ n)
less_or_last i n h = elim (cases_lt i n) [ inl l ↦ inl l | inr m ↦ inr (omega arith) ]

all_fails : (b : Bool) (x : Bool) → x ≡ false → false ≡ (b && x)
all_fails true x h = sym h
all_fails false x h = refl

any_holds : (b : Bool) (x : Bool) → x ≡ true → true ≡ (b || x)
any_holds true x h = refl
any_holds false x h = sym h

decided : (which : Quantifier) (n i : ℕ) (test : ℕ → Bool) → i < n → test i ≡ not (is_all which) → not (is_all which) ≡ quantified which n test
decided which zero i test h e = absurd (omega arith)
decided All (suc n) i test h e = elim (less_or_last i n h) [
  | inl l ↦ ap (λ b. b && test n) (decided All n i test l e)
  | inr s ↦ all_fails (all_below n test) (test n) (ap test (sym s) ∙ e)
]
decided Any (suc n) i test h e = elim (less_or_last i n h) [
  | inl l ↦ ap (λ b. b || test n) (decided Any n i test l e)
  | inr s ↦ any_holds (any_below n test) (test n) (ap test (sym s) ∙ e)
]

-- a number that decides it
pub stopped : (which : Quantifier) (n i : ℕ) (test : ℕ → Bool) (found all : Bool) → i < n → found ≡ test i → all ≡ is_all which → found ≡ not all →
    found ≡ quantified which n test
stopped which n i test found all h f a d = d ∙ ap not a ∙ decided which n i test h (sym f ∙ d ∙ ap not a)

-- tests that differ, and tests that agree
pub differ : (a b : Bool) → not (beq a b) ≡ true → a ≡ not b
differ true true h = absurd (cc)
differ true false h = refl
differ false true h = refl
differ false false h = absurd (cc)

pub agree : (a b : Bool) → not (beq a b) ≡ false → a ≡ b
agree true true h = refl
agree true false h = absurd (cc)
agree false true h = absurd (cc)
agree false false h = refl
