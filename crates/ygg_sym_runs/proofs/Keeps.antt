-- What holds of nodes, and stays as nodes other than inputs are made, holds after the steps of an expression.
use Rattle.std.proofs.Common.{ℕ, zero, suc, Bool, true, false, if◌then◌else◌, List, [], ◌∷◌, map, sym, subst}
use Rattle.std.specs.Str.{bytes_eq}
use Rattle.ygg_value.specs.Words.{word}
use Rattle.ygg_value.specs.declared.operation.Op.{Op}
use Rattle.ygg_value.specs.declared.operation.Op.TheVariants as op
use Rattle.ygg_syntax.specs.declared.tree.Def.{Def}
use Rattle.ygg_syntax.specs.declared.tree.Quantifier.TheVariants.{All, Any}
use Rattle.ygg_syntax.specs.declared.tree.Expr.{Expr, map-Expr}
use Rattle.ygg_syntax.specs.declared.tree.Expr.TheOpen.{Expr-F}
use Rattle.ygg_syntax.specs.declared.tree.Expr.TheFolds.{ind-Expr, fold-roll-Expr}
use Rattle.ygg_eval_expr.specs.ygg_meaning_laws.Environments.{Name}
use Rattle.ygg_shape.specs.ygg_rules.declared.rule.RuleKind.{RuleKind}
use Rattle.ygg_shape.specs.ygg_bank.Makes.{Make}
use Rattle.ygg_shape.specs.ygg_bank.declared.node.Id.{Id}
use Rattle.ygg_shape.specs.ygg_bank.declared.node.Node.{Node}
use Rattle.ygg_shape.specs.ygg_bank.declared.node.Node.TheVariants as node
use Rattle.ygg_shape.specs.ygg_shape_words_proofs_Keeps.{Stays}
use Rattle.ygg_shape.specs.Comparing.{compared}
use Rattle.ygg_shape.specs.ygg_shape_cells.declared.terms.SymValue.{SymValue}
use Rattle.ygg_shape.specs.ygg_shape_cells.declared.terms.SymValue.TheVariants.{Word, Row, Table}
use Rattle.ygg_shape.specs.ygg_shape_cells_proofs_Keeps.{merged_keeps, selected_keeps}
use Rattle.ygg_shape.proofs.ComparedKeeps.{compared_keeps}
use Rattle.ygg_shape.specs.RowPlaces.{singles}
use Rattle.ygg_shape_nodes.proofs.Made.{small_keeps}
use Rattle.ygg_sym_runs.specs.Names.{SymScope, sym_bind}
use Rattle.ygg_sym_runs.specs.Exprs.{
  SymFunctions,
  Making,
  id_in,
  all_made,
  number_made,
  applied,
  part_made,
  joined,
  with_name,
  at_number,
  node_made,
  sym_value,
  sym_functions,
}

-- after the step holds what held before
abbrev pub Keeps : {A : Type 0} → (List Node → Type 0) → Make A → Type 0
Keeps P m = (nodes : List Node) → P nodes → P (m nodes).nodes

-- so it is in every scope
abbrev pub AlwaysKeeps : (List Node → Type 0) → Making → Type 0
AlwaysKeeps P m = (scope : SymScope) → Keeps P (m scope)

-- and of definitions
abbrev pub FunctionsKeep : (List Node → Type 0) → SymFunctions → Type 0
FunctionsKeep P functions = (name : Name) (xs : List SymValue) → Keeps P (functions name xs)

pub if_keeps : {A : Type 0} (P : List Node → Type 0) (c : Bool) (m n : Make A) → Keeps P m → Keeps P n → Keeps P (if c then m else n)
if_keeps P true m n p q = p
if_keeps P false m n p q = q

module _ (kinds : List RuleKind) (P : List Node → Type 0) (stays : Stays kinds P) where
  pub part_keeps : (x : SymValue) (at : Id) → Keeps P (part_made kinds x at)
  part_keeps (Word a) at nodes p = p
  part_keeps (Row row) at nodes p = selected_keeps kinds P stays (singles row) at nodes p
  part_keeps (Table table) at nodes p = selected_keeps kinds P stays table at nodes p

  unequal_keeps : (x y : SymValue) → Keeps P (applied kinds op.Ne x y)
  unequal_keeps x y nodes p =
      let o = compared kinds x y nodes in
      small_keeps kinds P stays (node.Not o.value) o.nodes tt (compared_keeps kinds P stays x y nodes p)

  pub applied_keeps : (o : Op) (x y : SymValue) → Keeps P (applied kinds o x y)
  applied_keeps op.Eq x y nodes p = compared_keeps kinds P stays x y nodes p
  applied_keeps op.Ne x y nodes p = unequal_keeps x y nodes p
  applied_keeps op.Add x y nodes p = small_keeps kinds P stays (node.Bin op.Add (id_in x) (id_in y)) nodes tt p
  applied_keeps op.Sub x y nodes p = small_keeps kinds P stays (node.Bin op.Sub (id_in x) (id_in y)) nodes tt p
  applied_keeps op.Mul x y nodes p = small_keeps kinds P stays (node.Bin op.Mul (id_in x) (id_in y)) nodes tt p
  applied_keeps op.And x y nodes p = small_keeps kinds P stays (node.Bin op.And (id_in x) (id_in y)) nodes tt p
  applied_keeps op.Or x y nodes p = small_keeps kinds P stays (node.Bin op.Or (id_in x) (id_in y)) nodes tt p
  applied_keeps op.Xor x y nodes p = small_keeps kinds P stays (node.Bin op.Xor (id_in x) (id_in y)) nodes tt p
  applied_keeps op.Shl x y nodes p = small_keeps kinds P stays (node.Bin op.Shl (id_in x) (id_in y)) nodes tt p
  applied_keeps op.Shr x y nodes p = small_keeps kinds P stays (node.Bin op.Shr (id_in x) (id_in y)) nodes tt p
  applied_keeps op.Lt x y nodes p = small_keeps kinds P stays (node.Bin op.Lt (id_in x) (id_in y)) nodes tt p
  applied_keeps op.Le x y nodes p = small_keeps kinds P stays (node.Bin op.Le (id_in x) (id_in y)) nodes tt p
  applied_keeps op.Gt x y nodes p = small_keeps kinds P stays (node.Bin op.Gt (id_in x) (id_in y)) nodes tt p
  applied_keeps op.Ge x y nodes p = small_keeps kinds P stays (node.Bin op.Ge (id_in x) (id_in y)) nodes tt p
  applied_keeps op.Imp x y nodes p = small_keeps kinds P stays (node.Bin op.Imp (id_in x) (id_in y)) nodes tt p

  pub joined_keeps : (o : Op) (start n : ℕ) (test : ℕ → Make SymValue) → ((i : ℕ) → Keeps P (test i)) → Keeps P (joined kinds o start n test)
  joined_keeps o start zero test g nodes p = stays (node.Const (word 1 start)) nodes tt p
  joined_keeps o start (suc n) test g nodes p =
      let a = joined kinds o start n test nodes in
      let x = test n a.nodes in
      stays (node.Bin o a.value (id_in x.value)) x.nodes tt (g n a.nodes (joined_keeps o start n test g nodes p))

  pub at_number_keeps : (m : Making) (scope : SymScope) (name : Name) (w i : ℕ) → AlwaysKeeps P m → Keeps P (at_number kinds m scope name w i)
  at_number_keeps m scope name w i g nodes p =
      let k = number_made kinds w i nodes in g (with_name kinds scope name k.value) k.nodes (stays (node.Const (word w i)) nodes tt p)

  module _ (functions : SymFunctions) (keep : FunctionsKeep P functions) where
    abbrev Shown : Type 0
    Shown = (e : Expr) × AlwaysKeeps P (sym_value kinds functions e)

    abbrev expr_in : Shown → Expr
    expr_in = λ s. s.0

    abbrev S : Expr → Making
    S = sym_value kinds functions

    abbrev makings : List Shown → List Making
    makings es = map S (map expr_in es)

    all_shown : (es : List Shown) (scope : SymScope) → Keeps P (all_made (makings es) scope)
    all_shown [] scope nodes p = p
    all_shown (e ∷ es) scope nodes p = all_shown es scope (S e.0 scope nodes).nodes (e.1 scope nodes p)

    node_keeps : (y : Expr-F Shown) → AlwaysKeeps P (node_made kinds functions (map-Expr Expr Making S (map-Expr Shown Expr expr_in y)))
    node_keeps (Expr-F.Constant n w) scope nodes p = stays (node.Const (word w.value n.value)) nodes tt p
    node_keeps (Expr-F.Low at x) scope nodes p = p
    node_keeps (Expr-F.Variable x) scope nodes p = p
    node_keeps (Expr-F.Apply f es) scope nodes p =
        let o = all_made (makings es) scope nodes in keep f.text o.value o.nodes (all_shown es scope nodes p)
    node_keeps (Expr-F.Binary first a o at b) scope nodes p =
        let x = S a.0 scope nodes in
        let y = S b.0 scope x.nodes in
        applied_keeps o x.value y.value y.nodes (b.1 scope x.nodes (a.1 scope nodes p))
    node_keeps (Expr-F.Not first a) scope nodes p =
        let x = S a.0 scope nodes in
        small_keeps kinds P stays (node.Not (id_in x.value)) x.nodes tt (a.1 scope nodes p)
    node_keeps (Expr-F.At a bracket i) scope nodes p =
        let x = S a.0 scope nodes in
        let k = S i.0 scope x.nodes in
        part_keeps x.value (id_in k.value) k.nodes (i.1 scope x.nodes (a.1 scope nodes p))
    node_keeps (Expr-F.Pick first c a b) scope nodes p =
        let t = S c.0 scope nodes in
        let x = S a.0 scope t.nodes in
        let y = S b.0 scope x.nodes in
        merged_keeps kinds P stays (id_in t.value) x.value y.value y.nodes (b.1 scope x.nodes (a.1 scope t.nodes (c.1 scope nodes p)))
    node_keeps (Expr-F.Resize first a w) scope nodes p =
        let x = S a.0 scope nodes in small_keeps kinds P stays (node.Resize (id_in x.value) w.value) x.nodes tt (a.1 scope nodes p)
    node_keeps (Expr-F.Fill first m a) scope nodes p = a.1 scope nodes p
    node_keeps (Expr-F.Row first es) scope nodes p = all_shown es scope nodes p
    node_keeps (Expr-F.Quantified first All x w n e) scope nodes p =
        joined_keeps op.And 1 n.value (at_number kinds (S e.0) scope x.text w.value) (λ i. at_number_keeps (S e.0) scope x.text w.value i e.1) nodes p
    node_keeps (Expr-F.Quantified first Any x w n e) scope nodes p =
        joined_keeps op.Or 0 n.value (at_number kinds (S e.0) scope x.text w.value) (λ i. at_number_keeps (S e.0) scope x.text w.value i e.1) nodes p

    pub value_keeps : (e : Expr) → AlwaysKeeps P (sym_value kinds functions e)
    value_keeps = ind-Expr (λ e. AlwaysKeeps P (S e))
        (λ x y is.
        subst (AlwaysKeeps P) (sym (fold-roll-Expr Making (node_made kinds functions) x))
        (subst (λ z. AlwaysKeeps P (node_made kinds functions (map-Expr Expr Making S z))) is (node_keeps y)))

    pub all_keep : (es : List Expr) (scope : SymScope) → Keeps P (all_made (map (sym_value kinds functions) es) scope)
    all_keep [] scope nodes p = p
    all_keep (e ∷ es) scope nodes p = all_keep es scope (S e scope nodes).nodes (value_keeps e scope nodes p)

  pub functions_keep : (defs : List Def) → FunctionsKeep P (sym_functions kinds defs)
  functions_keep [] name xs nodes p = p
  functions_keep (d ∷ before) name xs nodes p =
      if_keeps P (bytes_eq d.name.text name) (sym_value kinds (sym_functions kinds before) d.body (record { own = sym_bind d.parameters xs; low = [] }))
      (sym_functions kinds before name xs)
      (value_keeps (sym_functions kinds before) (functions_keep before) d.body (record { own = sym_bind d.parameters xs; low = [] }))
      (functions_keep before name xs) nodes p
