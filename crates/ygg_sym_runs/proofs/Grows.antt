-- The steps of an expression only add nodes after those that are there.
use Rattle.std.proofs.Common.{ℕ, List, map}
use Rattle.ygg_value.specs.declared.operation.Op.{Op}
use Rattle.ygg_syntax.specs.declared.tree.Def.{Def}
use Rattle.ygg_syntax.specs.declared.tree.Expr.{Expr}
use Rattle.ygg_eval_expr.specs.ygg_meaning_laws.Environments.{Name}
use Rattle.ygg_shape.specs.ygg_rules.declared.rule.RuleKind.{RuleKind}
use Rattle.ygg_shape.specs.ygg_bank_proofs_Made.{made_grows}
use Rattle.ygg_shape.specs.ygg_bank_proofs_Widths.{extends_self, extends_both}
use Rattle.ygg_shape.specs.ygg_bank.Makes.{Make}
use Rattle.ygg_shape.specs.ygg_bank.Nodes.{Extends}
use Rattle.ygg_shape.specs.ygg_bank.declared.node.Id.{Id}
use Rattle.ygg_shape.specs.ygg_bank.declared.node.Node.{Node}
use Rattle.ygg_shape.specs.ygg_shape_words_proofs_Keeps.{grows_stays}
use Rattle.ygg_shape.specs.ygg_shape_cells.declared.terms.SymValue.{SymValue}
use Rattle.ygg_shape_nodes.proofs.Made.{small_grows as nodes_grow}
use Rattle.ygg_sym_runs.specs.Names.{SymScope}
use Rattle.ygg_sym_runs.specs.Exprs.{SymFunctions, Making, all_made, word_made, small_made, applied, part_made, joined, at_number, sym_value, sym_functions}
use Rattle.ygg_sym_runs.specs.ExpressionMeaning.{Grows}
use Rattle.ygg_sym_runs.proofs.Keeps.{Keeps, part_keeps, applied_keeps, joined_keeps, at_number_keeps, value_keeps, all_keep, functions_keep}

-- a step that only adds nodes, in every scope
abbrev pub AlwaysGrows : Making → Type 0
AlwaysGrows m = (scope : SymScope) → Grows (m scope)

-- so do definitions
abbrev pub FunctionsGrow : SymFunctions → Type 0
FunctionsGrow functions = (name : Name) (xs : List SymValue) → Grows (functions name xs)

-- what only adds nodes adds them also after others
after : {A : Type 0} (m : Make A) → Grows m → (first : List Node) → Keeps (Extends first) m
after m g first nodes p = extends_both first nodes (m nodes).nodes p (g nodes)

module _ (kinds : List RuleKind) where
  pub word_grows : (n : Node) → Grows (word_made kinds n)
  word_grows n nodes = made_grows kinds n nodes

  pub small_grows : (n : Node) → Grows (small_made kinds n)
  small_grows n nodes = nodes_grow kinds n nodes

  pub part_grows : (x : SymValue) (at : Id) → Grows (part_made kinds x at)
  part_grows x at nodes = part_keeps kinds (Extends nodes) (grows_stays kinds nodes) x at nodes (extends_self nodes)

  pub applied_grows : (o : Op) (x y : SymValue) → Grows (applied kinds o x y)
  applied_grows o x y nodes = applied_keeps kinds (Extends nodes) (grows_stays kinds nodes) o x y nodes (extends_self nodes)

  pub joined_grows : (o : Op) (start n : ℕ) (test : ℕ → Make SymValue) → ((i : ℕ) → Grows (test i)) → Grows (joined kinds o start n test)
  joined_grows o start n test g nodes =
      joined_keeps kinds (Extends nodes) (grows_stays kinds nodes) o start n test (λ i. after (test i) (g i) nodes) nodes (extends_self nodes)

  pub at_number_grows : (m : Making) (scope : SymScope) (name : Name) (w i : ℕ) → AlwaysGrows m → Grows (at_number kinds m scope name w i)
  at_number_grows m scope name w i g nodes =
      at_number_keeps kinds (Extends nodes) (grows_stays kinds nodes) m scope name w i (λ s. after (m s) (g s) nodes) nodes (extends_self nodes)

  module _ (functions : SymFunctions) (grow : FunctionsGrow functions) where
    pub value_grows : (e : Expr) → AlwaysGrows (sym_value kinds functions e)
    value_grows e scope nodes =
        value_keeps kinds (Extends nodes) (grows_stays kinds nodes) functions (λ name xs. after (functions name xs) (grow name xs) nodes) e scope nodes
        (extends_self nodes)

    pub all_grow : (es : List Expr) (scope : SymScope) → Grows (all_made (map (sym_value kinds functions) es) scope)
    all_grow es scope nodes =
        all_keep kinds (Extends nodes) (grows_stays kinds nodes) functions (λ name xs. after (functions name xs) (grow name xs) nodes) es scope nodes
        (extends_self nodes)

  pub functions_grow : (defs : List Def) → FunctionsGrow (sym_functions kinds defs)
  functions_grow defs name xs nodes = functions_keep kinds (Extends nodes) (grows_stays kinds nodes) defs name xs nodes (extends_self nodes)
