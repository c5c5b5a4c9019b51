-- The terms of an expression.
use Rattle.std.specs.Prelude.{ℕ, zero, suc, if◌then◌else◌, List, [], ◌∷◌, ◌++◌, map, replicate}
use Rattle.std.specs.Str.{bytes_eq}
use Rattle.ygg_value.specs.Words.{word}
use Rattle.ygg_value.specs.declared.operation.Op.{Op}
use Rattle.ygg_value.specs.declared.operation.Op.TheVariants as op
use Rattle.ygg_syntax.specs.declared.tree.Def.{Def}
use Rattle.ygg_syntax.specs.declared.tree.Quantifier.{Quantifier}
use Rattle.ygg_syntax.specs.declared.tree.Quantifier.TheVariants.{All, Any}
use Rattle.ygg_syntax.specs.declared.tree.Expr.{Expr}
use Rattle.ygg_syntax.specs.declared.tree.Expr.TheOpen.{Expr-F}
use Rattle.ygg_syntax.specs.declared.tree.Expr.TheFolds.{fold-Expr}
use Rattle.ygg_eval_expr.specs.ygg_meaning_laws.Environments.{Name}
use Rattle.ygg_shape.specs.ygg_rules.declared.rule.RuleKind.{RuleKind}
use Rattle.ygg_shape.specs.ygg_bank.Makes.{Make, pure, and_make}
use Rattle.ygg_shape.specs.ygg_bank.Making.{id, made}
use Rattle.ygg_shape.specs.ygg_bank.declared.node.Id.{Id}
use Rattle.ygg_shape.specs.ygg_bank.declared.node.Node.{Node}
use Rattle.ygg_shape.specs.ygg_bank.declared.node.Node.TheVariants as node
use Rattle.ygg_shape.specs.ygg_shape_cells.Making.{merged, selected}
use Rattle.ygg_shape.specs.Comparing.{compared}
use Rattle.ygg_shape.specs.ygg_shape_cells.declared.terms.SymValue.{SymValue}
use Rattle.ygg_shape.specs.ygg_shape_cells.declared.terms.SymValue.TheVariants.{Word, Row, Table}
use Rattle.ygg_shape_nodes.specs.Making.{made_small}
use Rattle.ygg_sym_runs.specs.Names.{SymScope, no_term, sym_look_up, sym_bind}
use Rattle.ygg_shape.specs.RowPlaces.{word_selected}

-- what definitions make of a name and the values of arguments
abbrev pub SymFunctions : Type 0
SymFunctions = Name → List SymValue → Make SymValue

-- what an expression makes in a scope
abbrev pub Making : Type 0
Making = SymScope → Make SymValue

-- the term that a value is; a row or a table, which no typed file has there, counts as the first term
abbrev pub id_in : SymValue → Id
id_in (Word a) = a
id_in (Row row) = id 0
id_in (Table table) = id 0

-- the steps in turn, each in the scope, and the list of what they answer
abbrev pub all_made : List Making → SymScope → Make (List SymValue)
all_made [] scope = pure []
all_made (m ∷ ms) scope = and_make (m scope) (λ x. and_make (all_made ms scope) (λ xs. pure (x ∷ xs)))

module _ (kinds : List RuleKind) where
  -- a word
  abbrev pub word_made : Node → Make SymValue
  word_made n = and_make (made kinds n) (λ a. pure (Word a))

  -- a word, by the rules on nodes
  abbrev pub small_made : Node → Make SymValue
  small_made n = and_make (made_small kinds n) (λ a. pure (Word a))

  -- a number of this width
  abbrev pub number_made : ℕ → ℕ → Make SymValue
  number_made width number = word_made (node.Const (word width number))

  -- whether two values are equal
  abbrev pub equal_made : SymValue → SymValue → Make SymValue
  equal_made x y = and_make (compared kinds x y) (λ a. pure (Word a))

  -- whether they aren't
  abbrev pub unequal_made : SymValue → SymValue → Make SymValue
  unequal_made x y = and_make (compared kinds x y) (λ a. small_made (node.Not a))

  -- an operation on two values; only equality is asked of rows and tables
  abbrev pub applied : Op → SymValue → SymValue → Make SymValue
  applied op.Eq x y = equal_made x y
  applied op.Ne x y = unequal_made x y
  applied o x y = small_made (node.Bin o (id_in x) (id_in y))

  -- a word of a row, or a row of a table, at a place; a word, which no typed file takes apart, stays
  abbrev pub part_made : SymValue → Id → Make SymValue
  part_made (Word a) at = pure (Word a)
  part_made (Row row) at = and_make (word_selected kinds row at) (λ a. pure (Word a))
  part_made (Table table) at = and_make (selected kinds table at) (λ row. pure (Row row))

  -- tests at all numbers below n, joined to a digit by an operation, that of 0 first
  abbrev pub joined : Op → ℕ → ℕ → (ℕ → Make SymValue) → Make Id
  joined o start zero test = made kinds (node.Const (word 1 start))
  joined o start (suc n) test = and_make (joined o start n test) (λ a. and_make (test n) (λ x. made kinds (node.Bin o a (id_in x))))

  -- whether a test is 1 at every number below n, or at some
  abbrev pub quantified_made : Quantifier → ℕ → (ℕ → Make SymValue) → Make SymValue
  quantified_made All n test = and_make (joined op.And 1 n test) (λ a. pure (Word a))
  quantified_made Any n test = and_make (joined op.Or 0 n test) (λ a. pure (Word a))

  -- the scope with one more name
  abbrev pub with_name : SymScope → Name → SymValue → SymScope
  with_name scope name x = record scope { own = scope.own ++ (name, x) ∷ [] }

  -- a test in the scope with one more name, whose value is a number
  abbrev pub at_number : Making → SymScope → Name → ℕ → ℕ → Make SymValue
  at_number test scope name width number = and_make (number_made width number) (λ k. test (with_name scope name k))

  -- an expression, where in the parts' places stands what they make in each scope
  abbrev pub node_made : SymFunctions → Expr-F Making → Making
  node_made functions (Expr-F.Constant n w) scope = number_made w.value n.value
  node_made functions (Expr-F.Low at x) scope = pure (sym_look_up x.text scope.low)
  node_made functions (Expr-F.Variable x) scope = pure (sym_look_up x.text scope.own)
  node_made functions (Expr-F.Apply f arguments) scope = and_make (all_made arguments scope) (functions f.text)
  node_made functions (Expr-F.Binary first a o at b) scope = and_make (a scope) (λ x. and_make (b scope) (applied o x))
  node_made functions (Expr-F.Not first a) scope = and_make (a scope) (λ x. small_made (node.Not (id_in x)))
  node_made functions (Expr-F.At a bracket i) scope = and_make (a scope) (λ x. and_make (i scope) (λ k. part_made x (id_in k)))
  node_made functions (Expr-F.Pick first test a b) scope =
      and_make (test scope) (λ t. and_make (a scope) (λ x. and_make (b scope) (merged kinds (id_in t) x)))
  node_made functions (Expr-F.Resize first a w) scope = and_make (a scope) (λ x. small_made (node.Resize (id_in x) w.value))
  node_made functions (Expr-F.Fill first n a) scope = and_make (a scope) (λ x. pure (Row (replicate n.value (id_in x))))
  node_made functions (Expr-F.Row first parts) scope = and_make (all_made parts scope) (λ xs. pure (Row (map id_in xs)))
  node_made functions (Expr-F.Quantified first which x w n test) scope = quantified_made which n.value (at_number test scope x.text w.value)

  -- the terms of an expression in a scope
  abbrev pub sym_value : SymFunctions → Expr → Making
  sym_value functions = fold-Expr Making (node_made functions)

  -- what definitions make, the last of them first; each sees its parameters and the definitions before it
  abbrev pub sym_functions : List Def → SymFunctions
  sym_functions [] name args = pure no_term
  sym_functions (d ∷ before) name args =
      if bytes_eq d.name.text name
      then sym_value (sym_functions before) d.body (record { own = sym_bind d.parameters args; low = [] })
      else sym_functions before name args
