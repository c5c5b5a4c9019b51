-- The value of an expression.
use Rattle.std.specs.Prelude.{ℕ, zero, suc, Bool, true, false, ◌==◌, ◌&&◌, ◌||◌, if◌then◌else◌, List, [], ◌∷◌, ◌++◌, map, replicate, reverse}
use Rattle.std.specs.Str.{bytes_eq}
use Rattle.ygg_value.specs.Number.{Digits}
use Rattle.ygg_value.specs.Words.{word, not_of, resized}
use Rattle.ygg_value.specs.Values.{word_in, digit, apply_value, part_of}
use Rattle.ygg_value.specs.declared.row.Value.{Value}
use Rattle.ygg_value.specs.declared.row.Value.TheVariants.{Word, Row}
use Rattle.ygg_syntax.specs.declared.tree.Def.{Def}
use Rattle.ygg_syntax.specs.declared.tree.Quantifier.{Quantifier}
use Rattle.ygg_syntax.specs.declared.tree.Quantifier.TheVariants.{All, Any}
use Rattle.ygg_syntax.specs.declared.tree.Expr.{Expr}
use Rattle.ygg_syntax.specs.declared.tree.Expr.TheOpen.{Expr-F}
use Rattle.ygg_syntax.specs.declared.tree.Expr.TheFolds.{fold-Expr}
use Rattle.ygg_meaning.specs.Environments.{Name, Env, nothing, look_up, bind}

-- the names that an expression sees: its own, and behind `low` those of the machine below
pub record Scope : Type 0 where
  pub own : Env
  pub low : Env

-- what a file's definitions give for a name and arguments
abbrev pub Functions : Type 0
Functions = Name → List Value → Value

-- whether the test passes at every number below n
abbrev pub all_below : ℕ → (ℕ → Bool) → Bool
all_below zero test = true
all_below (suc n) test = all_below n test && test n

-- whether the test passes at some number below n
abbrev pub any_below : ℕ → (ℕ → Bool) → Bool
any_below zero test = false
any_below (suc n) test = any_below n test || test n

-- whether the test passes at every number below n, or at some
abbrev pub quantified : Quantifier → ℕ → (ℕ → Bool) → Bool
quantified All n test = all_below n test
quantified Any n test = any_below n test

-- whether a value is a word of 1
abbrev pub is_one : Value → Bool
is_one v = (word_in v).bits == 1

-- the scope with one more name, whose value is a word
abbrev pub with_number : Scope → Name → ℕ → ℕ → Scope
with_number scope name width i = record scope { own = scope.own ++ (name, Word (word width i)) ∷ [] }

-- a row of these words, with the width of the first
abbrev pub row_of : List Value → Digits
row_of [] = record { width = 0; words = [] }
row_of (v ∷ vs) = record { width = (word_in v).width; words = map (λ w. (word_in w).bits) (v ∷ vs) }

-- a row of as many words as n says, each of them this one
abbrev pub filled : ℕ → Value → Digits
filled n v = record { width = (word_in v).width; words = replicate n (word_in v).bits }

-- the value of an expression, where in the parts' places stand their values in each scope
abbrev pub node_value : Functions → Expr-F (Scope → Value) → Scope → Value
node_value functions (Expr-F.Constant n w) scope = Word (word w.value n.value)
node_value functions (Expr-F.Low at x) scope = look_up x.text scope.low
node_value functions (Expr-F.Variable x) scope = look_up x.text scope.own
node_value functions (Expr-F.Apply f arguments) scope = functions f.text (map (λ (argument : Scope → Value). argument scope) arguments)
node_value functions (Expr-F.Binary first a op at b) scope = apply_value op (a scope) (b scope)
node_value functions (Expr-F.Not first a) scope = Word (not_of (word_in (a scope)))
node_value functions (Expr-F.At a bracket i) scope = part_of (a scope) (word_in (i scope)).bits
node_value functions (Expr-F.Pick first test a b) scope = if is_one (test scope) then a scope else b scope
node_value functions (Expr-F.Resize first a w) scope = Word (resized (word_in (a scope)) w.value)
node_value functions (Expr-F.Fill first n a) scope = Row (filled n.value (a scope))
node_value functions (Expr-F.Row first parts) scope = Row (row_of (map (λ (part : Scope → Value). part scope) parts))
node_value functions (Expr-F.Quantified first which x w n test) scope =
    digit (quantified which n.value (λ i. is_one (test (with_number scope x.text w.value i))))

-- the value of an expression in a scope
abbrev pub value_with : Functions → Expr → Scope → Value
value_with functions = fold-Expr (Scope → Value) (node_value functions)

-- what definitions give, the last of them first; each sees its parameters and the definitions before it
abbrev pub functions_from : List Def → Functions
functions_from [] name args = nothing
functions_from (d ∷ before) name args =
    if bytes_eq d.name.text name
    then value_with (functions_from before) d.body (record { own = bind d.parameters args; low = [] })
    else functions_from before name args

-- what the definitions of a file give
abbrev pub functions_of : List Def → Functions
functions_of defs = functions_from (reverse defs)
