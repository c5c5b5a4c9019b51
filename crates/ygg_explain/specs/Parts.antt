-- The parts of a formula, and why a false one is.
use Rattle.std.specs.Prelude.{◌≡◌, ℕ, ◌<◌, Bool, true, false, List, [], ◌∷◌, ◌++◌, length, codes, Option, Some, None}
use denote.Ref.{Bor}
use Rattle.std.specs.Fmt.{decimal}
use Rattle.ygg_value.specs.Values.{same_value, part_of}
use Rattle.ygg_value.specs.declared.operation.Op.{Op}
use Rattle.ygg_value.specs.declared.operation.Op.TheVariants as op
use Rattle.ygg_value.specs.declared.row.Value.{Value}
use Rattle.ygg_value.specs.declared.row.Value.TheVariants.{Table}
use Rattle.ygg_syntax.specs.declared.tree.Place.{Place}
use Rattle.ygg_syntax.specs.declared.tree.Expr.{Expr}
use Rattle.ygg_syntax.specs.declared.tree.Expr.TheVariants as expr
use Rattle.ygg_syntax.specs.declared.tree.Expr.TheOpen.{Expr-F}
use Rattle.ygg_syntax.specs.declared.tree.Expr.TheFolds.{fold-Expr}
use Rattle.ygg_eval.specs.ygg_meaning.Meaning.{Functions, Scope, value_with, is_one}
use Rattle.ygg_sched.specs.Printing.{line_of}
use Rattle.ygg_explain.specs.Lines.{place_text, both_text}

-- where an opened expression begins, where its parts begin there
abbrev pub node_place : Expr-F Place → Place
node_place (Expr-F.Constant v w) = v.place
node_place (Expr-F.Low at x) = at
node_place (Expr-F.Variable x) = x.place
node_place (Expr-F.Apply f arguments) = f.place
node_place (Expr-F.Binary first a o at b) = first
node_place (Expr-F.Not first a) = first
node_place (Expr-F.At a bracket i) = a
node_place (Expr-F.Pick first test a b) = first
node_place (Expr-F.Resize first a w) = first
node_place (Expr-F.Fill first m a) = first
node_place (Expr-F.Row first parts) = first
node_place (Expr-F.Quantified first which x w n test) = first

-- where an expression begins: at its first token
abbrev pub place_of : Expr → Place
place_of = fold-Expr Place node_place

-- whether an operation is `&`
abbrev pub is_and : Op → Bool
is_and op.And = true
is_and _ = false

-- whether an operation compares two values
abbrev pub compares : Op → Bool
compares op.Eq = true
compares op.Ne = true
compares op.Lt = true
compares op.Le = true
compares op.Gt = true
compares op.Ge = true
compares _ = false

-- whether an expression is `(A OP B)` for an operation that passes this test
abbrev pub node_joins : {A : Type 0} → (Op → Bool) → Expr-F A → Bool
node_joins test (Expr-F.Binary first a o at b) = test o
node_joins test _ = false

-- whether an expression is `(A & B)`
abbrev pub is_conjunction : Expr → Bool
is_conjunction = fold-Expr Bool (node_joins is_and)

-- whether an expression compares two values
abbrev pub is_comparison : Expr → Bool
is_comparison = fold-Expr Bool (node_joins compares)

-- two tables are the same in the rows before a place
abbrev pub AreSameBefore : Value → Value → ℕ → Type 0
AreSameBefore v w at = (i : ℕ) → i < at → same_value (part_of v i) (part_of w i) ≡ true

-- whether both values are tables
abbrev pub are_tables : Value → Value → Bool
are_tables (Table t) (Table u) = true
are_tables _ _ = false

-- how many rows a table has
abbrev pub rows_of : Value → ℕ
rows_of (Table t) = length t.rows
rows_of _ = 0

-- what is told of the sides of a comparison: of two tables the first row in which they differ, and its values; of other values both
pub data AreSides (v w : Value) : List ℕ → Type 0 where
  differ : (at : ℕ) → are_tables v w ≡ true → at < rows_of v → AreSameBefore v w at → same_value (part_of v at) (part_of w at) ≡ false →
      AreSides v w (codes " row " ++ decimal at ++ both_text (part_of v at) (part_of w at))
  alike : are_tables v w ≡ true → AreSameBefore v w (rows_of v) → AreSides v w []
  values : are_tables v w ≡ false → AreSides v w (both_text v w)

-- whether an expression is 1
abbrev pub is_true : Functions → Scope → Expr → Bool
is_true functions s e = is_one (value_with functions e s)

-- why an expression is false: the two sides of a comparison, and nothing of any other
pub data IsWhy (functions : Functions) (s : Scope) (e : Expr) : List ℕ → Type 0 where
  compared : {sides : List ℕ} (first at : Place) (o : Op) (a b : Expr) → e ≡ expr.Binary first a o at b → compares o ≡ true →
      AreSides (value_with functions a s) (value_with functions b s) sides → IsWhy functions s e sides
  uncompared : is_comparison e ≡ false → IsWhy functions s e []

-- the words before the reason
abbrev pub part_words : List ℕ → List ℕ → Expr → List ℕ
part_words word which e = word ++ which ++ codes " " ++ place_text (place_of e)

-- the line of a part that is true, where true ones are wanted
abbrev pub true_line : Bool → List ℕ → Expr → List ℕ
true_line false which e = []
true_line true which e = line_of (part_words (codes "true ") which e)

module _ (functions : Functions) (s : Scope) (wanted : Bool) (which : List ℕ) where
  -- the line of a part
  pub data IsPart (e : Expr) : List ℕ → Type 0 where
    holds : is_true functions s e ≡ true → IsPart e (true_line wanted which e)
    fails : {why : List ℕ} → is_true functions s e ≡ false → IsWhy functions s e why → IsPart e (line_of (part_words (codes "false ") which e ++ why))

  -- the lines of a formula's parts: those of A and those of B where it is `(A & B)`, and else its own
  pub data AreParts : Expr → List ℕ → Type 0 where
    both : {e : Expr} {x y : List ℕ} (first at : Place) (a b : Expr) → e ≡ expr.Binary first a op.And at b → AreParts a x → AreParts b y →
        AreParts e (x ++ y)
    itself : {e : Expr} {x : List ℕ} → is_conjunction e ≡ false → IsPart e x → AreParts e x

  -- the lines of the parts of several formulas
  pub data AreAllParts : List Expr → List ℕ → Type 0 where
    none : AreAllParts [] []
    more : {e : Expr} {es : List Expr} {x y : List ℕ} → AreParts e x → AreAllParts es y → AreAllParts (e ∷ es) (x ++ y)

-- the two sides of an expression that is `(A & B)`, where it is one
abbrev pub IsConjunction : Expr → Option (Bor Expr × Bor Expr) → Type 0
IsConjunction e None = is_conjunction e ≡ false
IsConjunction e (Some sides) = (first at : Place) × (e ≡ expr.Binary first sides.0.now op.And at sides.1.now)

-- the two sides of an expression that compares, where it does
abbrev pub IsComparison : Expr → Option (Bor Expr × Bor Expr) → Type 0
IsComparison e None = is_comparison e ≡ false
IsComparison e (Some sides) = (first at : Place) × (o : Op) × (e ≡ expr.Binary first sides.0.now o at sides.1.now) × (compares o ≡ true)

-- text with a text like this behind it
pub record Adds (Is : List ℕ → Type 0) (before after : List ℕ) : Type 0 where
  pub text : List ℕ
  pub like : Is text
  pub added : after ≡ before ++ text
