-- Steps that make gates, one after another.
use Rattle.std.specs.Prelude.{ℕ, ◌+◌, false, List, [], ◌∷◌, ◌++◌, length, map}
use Rattle.ygg_cnf.specs.Literals.{complement}
use Rattle.ygg_cnf.specs.declared.lit.Lit.{Lit}
use Rattle.ygg_gates.specs.declared.gate.Gate.{Gate}
use Rattle.ygg_gates.specs.declared.gate.Gate.TheVariants.{And}

-- what a step answers, and the gates after it
pub record Out (A : Type 0) : Type 0 where
  pub value : A
  pub gates : List Gate

-- a step that may add gates at the end
abbrev pub Make : Type 0 → Type 0
Make A = List Gate → Out A

-- the step that adds no gates
abbrev pub pure : {A : Type 0} → A → Make A
pure a gates = record { value = a; gates = gates }

-- what goes on from a step that was made
abbrev pub goes_on : {A B : Type 0} → Out A → (A → Make B) → Out B
goes_on out next = next out.value out.gates

-- one step, and then another that sees what the first answered
abbrev pub and_make : {A B : Type 0} → Make A → (A → Make B) → Make B
and_make first next gates = goes_on (first gates) next

-- the literal of a variable
abbrev pub literal : ℕ → Lit
literal variable = record { var = variable; negated = false }

-- variable 1, which is true
abbrev pub true_literal : Lit
true_literal = literal 1

-- its complement
abbrev pub false_literal : Lit
false_literal = complement true_literal

-- the variable that the next gate gives a value; those of gates are numbered on from 2
abbrev pub next_variable : List Gate → ℕ
next_variable gates = length gates + 2

-- one more gate, and the literal of its variable
abbrev pub placed : Gate → Make Lit
placed g gates = record { value = literal (next_variable gates); gates = gates ++ g ∷ [] }

-- OR of two literals: the complement of AND of their complements
abbrev pub either : Lit → Lit → Make Lit
either a b = and_make (placed (And (complement a) (complement b))) (λ o. pure (complement o))

-- the complement of each bit
abbrev pub complements : List Lit → List Lit
complements = map complement
