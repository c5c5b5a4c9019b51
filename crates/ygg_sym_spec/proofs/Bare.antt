-- What makes no call is typed alike without operations below.
use Rattle.std.proofs.Common.{◌≡◌, ℕ, Bool, true, false, not, if◌then◌else◌, List, [], ◌∷◌, map, Option, Some, None, refl, sym, ap, ◌∙◌, subst}
use Rattle.ygg_value.specs.declared.shape.Shape.{Shape}
use Rattle.ygg_value.specs.declared.shape.Shape.TheVariants.{Word}
use Rattle.ygg_base.specs.declared.reason.Reason.TheVariants as reason
use Rattle.ygg_syntax.specs.declared.grammar.BlockKind.{BlockKind}
use Rattle.ygg_syntax.specs.declared.grammar.BlockKind.TheVariants.{Spec}
use Rattle.ygg_syntax.specs.declared.tree.Name.{Name}
use Rattle.ygg_syntax.specs.declared.tree.Numeral.{Numeral}
use Rattle.ygg_syntax.specs.declared.tree.Index.{Index}
use Rattle.ygg_syntax.specs.declared.tree.Expr.{Expr, map-Expr}
use Rattle.ygg_syntax.specs.declared.tree.Expr.TheOpen.{Expr-F}
use Rattle.ygg_syntax.specs.declared.tree.Expr.TheFolds.{ind-Expr, fold-roll-Expr}
use Rattle.ygg_syntax.specs.declared.tree.Source.{Source}
use Rattle.ygg_syntax.specs.declared.tree.Source.TheVariants as source
use Rattle.ygg_syntax.specs.declared.tree.Stmt.{Stmt, roll-Stmt, map-Stmt}
use Rattle.ygg_syntax.specs.declared.tree.Block.{Block, roll-Block, map-Block, fold-Block}
use Rattle.ygg_syntax.specs.declared.tree.Stmt.TheOpen.{Stmt-F, Block-F}
use Rattle.ygg_syntax.specs.declared.tree.Stmt.TheFolds.{ind-Stmt, fold-roll-Stmt, fold-roll-Block}
use Rattle.ygg_sym_runs.specs.ygg_type_rules.Names.{has, look_up}
use Rattle.ygg_sym_runs.specs.ygg_type_rules.TypeErrors.{TypeErrors, both, unless}
use Rattle.ygg_sym_runs.specs.ygg_type_rules.Scopes.{Scope, is_taken, name_in, with_local}
use Rattle.ygg_sym_runs.specs.ygg_type_rules.Shapes.{word_shape}
use Rattle.ygg_sym_runs.specs.ygg_type_rules.Expressions.{
  Typing,
  Own,
  construct,
  parts_of,
  wanted,
  index_rule,
  number_errors,
  with_number,
  all_in,
  apply_rule,
  operator_rule,
  not_rule,
  pick_rule,
  resize_rule,
  fill_rule,
  row_rule,
  quantified_rule,
  node_typing,
  typing,
  expected_errors,
}
use Rattle.ygg_sym_runs.specs.ygg_type_rules.Statements.{
  Walked,
  source_typing,
  indexed,
  then_indexed,
  target_rule,
  place_rule,
  assignment_errors,
  in_order,
  return_errors,
  inside,
  node_walked,
  node_inside,
  walked,
  block_errors,
}
use Rattle.ygg_sym_runs.specs.ygg_meaning_laws.Kinds.{source_keeps, all_keep, node_keeps, node_all_keep, stmt_keeps, keeps}
use Rattle.ygg_sym_runs.specs.ygg_meaning_laws_proofs_Tests.{left as first_of, right as second_of}
use Rattle.ygg_sym_spec.specs.Bare.{bare}

-- an expression is typed alike
abbrev Alike : (Scope → Typing) → Type 0
Alike t = (scope : Scope) → t (bare scope) ≡ t scope

local_bare : (c : Bool) (scope more : Scope) → (if c then bare scope else bare more) ≡ bare (if c then scope else more)
local_bare true scope more = refl
local_bare false scope more = refl

with_local_bare : (x : List ℕ) (shape : Option Shape) (can : Bool) (scope : Scope) →
    with_local x shape can (bare scope) ≡ bare (with_local x shape can scope)
with_local_bare x shape can scope =
    local_bare (has x scope.variables) scope _

number_bare : (x : Name) (w : Numeral) (scope : Scope) → with_number x w (bare scope) ≡ bare (with_number x w scope)
number_bare x w scope = with_local_bare x.text (word_shape w.value) false scope

abbrev Shown : Type 0
Shown = (e : Expr) × Alike (typing e)

abbrev expr_in : Shown → Expr
expr_in = λ s. s.0

abbrev typed : List Shown → List (Scope → Typing)
typed es = map typing (map expr_in es)

all_shown : (es : List Shown) (scope : Scope) → all_in (bare scope) (typed es) ≡ all_in scope (typed es)
all_shown [] scope = refl
all_shown (e ∷ es) scope = ap (λ t. t ∷ all_in (bare scope) (typed es)) (e.1 scope) ∙ ap (λ ts. typing e.0 scope ∷ ts) (all_shown es scope)

number_shown : (e : Shown) (x : Name) (w : Numeral) (scope : Scope) → typing e.0 (with_number x w (bare scope)) ≡ typing e.0 (with_number x w scope)
number_shown e x w scope = ap (typing e.0) (number_bare x w scope) ∙ e.1 (with_number x w scope)

node_alike : (y : Expr-F Shown) → Alike (node_typing (map-Expr Expr (Scope → Typing) typing (map-Expr Shown Expr expr_in y)))
node_alike (Expr-F.Constant v w) scope = refl
node_alike (Expr-F.Low at x) scope = refl
node_alike (Expr-F.Variable x) scope = refl
node_alike (Expr-F.Apply f es) scope = ap (λ ts. construct f.place ts (apply_rule f (look_up f.text scope.defs) (parts_of ts))) (all_shown es scope)
node_alike (Expr-F.Binary first a op at b) scope =
    ap (λ (t : Typing). construct first (t ∷ typing b.0 (bare scope) ∷ []) (operator_rule op at t.part (typing b.0 (bare scope)).part)) (a.1 scope)
    ∙ ap (λ (t : Typing). construct first (typing a.0 scope ∷ t ∷ []) (operator_rule op at (typing a.0 scope).part t.part)) (b.1 scope)
node_alike (Expr-F.Not first a) scope = ap (λ (t : Typing). construct first (t ∷ []) (not_rule t.part)) (a.1 scope)
node_alike (Expr-F.At a bracket i) scope =
    ap (λ (t : Typing). construct t.part.place (t ∷ typing i.0 (bare scope) ∷ []) (index_rule t.part.shape bracket (typing i.0 (bare scope)).part)) (a.1 scope)
    ∙ ap (λ (t : Typing). construct (typing a.0 scope).part.place (typing a.0 scope ∷ t ∷ []) (index_rule (typing a.0 scope).part.shape bracket t.part))
    (i.1 scope)
node_alike (Expr-F.Pick first c a b) scope =
    ap (λ (t : Typing). construct first (t ∷ typing a.0 (bare scope) ∷ typing b.0 (bare scope) ∷ [])
    (pick_rule t.part (typing a.0 (bare scope)).part (typing b.0 (bare scope)).part)) (c.1 scope)
    ∙ ap (λ (t : Typing). construct first (typing c.0 scope ∷ t ∷ typing b.0 (bare scope) ∷ [])
    (pick_rule (typing c.0 scope).part t.part (typing b.0 (bare scope)).part)) (a.1 scope)
    ∙ ap (λ (t : Typing). construct first (typing c.0 scope ∷ typing a.0 scope ∷ t ∷ []) (pick_rule (typing c.0 scope).part (typing a.0 scope).part t.part))
    (b.1 scope)
node_alike (Expr-F.Resize first a w) scope = ap (λ (t : Typing). construct first (t ∷ []) (resize_rule t.part w)) (a.1 scope)
node_alike (Expr-F.Fill first m a) scope = ap (λ (t : Typing). construct first (t ∷ []) (fill_rule m t.part)) (a.1 scope)
node_alike (Expr-F.Row first es) scope = ap (λ ts. construct first ts (row_rule first (parts_of ts))) (all_shown es scope)
node_alike (Expr-F.Quantified first which x w n e) scope =
    ap (λ (t : Typing). construct first (t ∷ []) (quantified_rule (number_errors x (is_taken x.text scope) w n) t.part)) (number_shown e x w scope)

pub typing_alike : (e : Expr) → Alike (typing e)
typing_alike = ind-Expr (λ e. Alike (typing e))
    (λ x y is.
    subst Alike (sym (fold-roll-Expr (Scope → Typing) node_typing x))
    (subst (λ z. Alike (node_typing (map-Expr Expr (Scope → Typing) typing z))) is (node_alike y)))

source_alike : (from : Source) → source_keeps Spec from ≡ true → Alike (source_typing from)
source_alike (source.Value e) k scope = typing_alike e scope
source_alike (source.Choose at) k scope = refl
source_alike (source.Call at f es) k scope = absurd (cc)

-- what indices lead to after a part, whose own errors come first
abbrev then_so : TypeErrors → TypeErrors → Own → Own
then_so first second p = record { type_errors = both (both first second) p.type_errors; shape = p.shape }

indexed_alike : (is : List Index) (shape : Option Shape) (scope : Scope) → indexed is (bare scope) shape ≡ indexed is scope shape
indexed_alike [] shape scope = refl
indexed_alike (i ∷ is) shape scope =
    let o = index_rule shape i.bracket (typing i.at scope).part in
    ap (λ (t : Typing). then_indexed t (index_rule shape i.bracket t.part) (indexed is (bare scope))) (typing_alike i.at scope)
    ∙ ap (then_so (typing i.at scope).type_errors o.type_errors) (indexed_alike is o.shape scope)

place_alike : (x : Name) (is : List Index) (scope : Scope) → place_rule x is (bare scope) ≡ place_rule x is scope
place_alike x is scope =
    let target = target_rule x (name_in x.text scope) in
    ap (λ (p : Own). record { type_errors = both target.type_errors p.type_errors; shape = p.shape }) (indexed_alike is target.shape scope)

-- what a statement does without operations below
abbrev bare_walked : Walked → Walked
bare_walked w = record { type_errors = w.type_errors; scope = bare w.scope }

abbrev Walks : (BlockKind → Bool) → (Scope → Walked) → Type 0
Walks kept s = kept Spec ≡ true → (scope : Scope) → s (bare scope) ≡ bare_walked (s scope)

abbrev Errs : (BlockKind → Bool) → (Scope → TypeErrors) → Type 0
Errs kept b = kept Spec ≡ true → (scope : Scope) → b (bare scope) ≡ b scope

expected_alike : (e : Expr) (shape : Option Shape) (scope : Scope) → expected_errors e shape (bare scope) ≡ expected_errors e shape scope
expected_alike e shape scope = ap (λ (t : Typing). both t.type_errors (wanted t.part shape)) (typing_alike e scope)

return_alike : (answer : Option Expr) (shape : Option Shape) (scope : Scope) → return_errors answer shape (bare scope) ≡ return_errors answer shape scope
return_alike None shape scope = refl
return_alike (Some e) shape scope = expected_alike e shape scope

-- several statements
in_order_alike : (ss : List Stmt) → ((s : Stmt) → Walks (stmt_keeps s) (walked s)) → Walks (all_keep (map stmt_keeps ss)) (in_order (map walked ss))
in_order_alike [] each k scope = refl
in_order_alike (s ∷ ss) each k scope =
    let first = walked s scope in
    ap (λ (w : Walked). record {
      type_errors = both w.type_errors (in_order (map walked ss) w.scope).type_errors;
      scope = (in_order (map walked ss) w.scope).scope;
    }) (each s (first_of (stmt_keeps s Spec) _ k) scope)
    ∙ ap (λ (w : Walked). record { type_errors = both first.type_errors w.type_errors; scope = w.scope })
    (in_order_alike ss each (second_of (stmt_keeps s Spec) _ k) first.scope)

abbrev W' : Block → Scope → TypeErrors
W' = fold-Block (Scope → Walked) (Scope → TypeErrors) node_walked node_inside

abbrev K' : Block → BlockKind → Bool
K' = fold-Block (BlockKind → Bool) (BlockKind → Bool) node_keeps node_all_keep

abbrev S : Type 0
S = (s : Stmt) × Walks (stmt_keeps s) (walked s)

abbrev B : Type 0
B = (b : Block) × Errs (K' b) (W' b)

stmt_case : (y : Stmt-F S B) →
    Walks (node_keeps (map-Stmt Stmt Block (BlockKind → Bool) (BlockKind → Bool) stmt_keeps K' (map-Stmt S B Stmt Block (λ e. e.0) (λ e. e.0) y)))
    (node_walked (map-Stmt Stmt Block (Scope → Walked) (Scope → TypeErrors) walked W' (map-Stmt S B Stmt Block (λ e. e.0) (λ e. e.0) y)))
stmt_case (Stmt-F.Let x from) k scope =
    ap (λ (t : Typing). record {
      type_errors = both (unless (not (is_taken x.text scope)) reason.Twice x.place) t.type_errors;
      scope = with_local x.text t.part.shape true (bare scope);
    }) (source_alike from k scope)
    ∙ ap (λ z. record { type_errors = both (unless (not (is_taken x.text scope)) reason.Twice x.place) (source_typing from scope).type_errors; scope = z })
    (with_local_bare x.text (source_typing from scope).part.shape true scope)
stmt_case (Stmt-F.Assign x is from) k scope =
    ap (λ e. record { type_errors = e; scope = bare scope })
    (ap (λ (t : Typing). assignment_errors (place_rule x is (bare scope)) t) (source_alike from k scope)
    ∙ ap (λ (o : Own). assignment_errors o (source_typing from scope)) (place_alike x is scope))
stmt_case (Stmt-F.If test first second) k scope =
    ap (λ e. record { type_errors = e; scope = bare scope })
    (ap (λ e. both e (both (W' first.0 (bare scope)) (W' second.0 (bare scope)))) (expected_alike test (Some (Word 1)) scope)
    ∙ ap (λ e. both (expected_errors test (Some (Word 1)) scope) (both e (W' second.0 (bare scope)))) (first.1 (first_of (K' first.0 Spec) _ k) scope)
    ∙ ap (λ e. both (expected_errors test (Some (Word 1)) scope) (both (W' first.0 scope) e)) (second.1 (second_of (K' first.0 Spec) _ k) scope))
stmt_case (Stmt-F.For x w n each) k scope =
    ap (λ e. record { type_errors = both (number_errors x (is_taken x.text scope) w n) e; scope = bare scope })
    (ap (W' each.0) (number_bare x w scope) ∙ each.1 k (with_number x w scope))
stmt_case (Stmt-F.Call f es) k scope = absurd (cc)

turns_case : (ss : List S) → Walks (all_keep (map stmt_keeps (map (λ e. e.0) ss))) (in_order (map walked (map (λ e. e.0) ss)))
turns_case [] k scope = refl
turns_case (s ∷ ss) k scope =
    let first = walked s.0 scope in
    let rest = map (λ (e : S). e.0) ss in
    ap (λ (w : Walked). record {
      type_errors = both w.type_errors (in_order (map walked rest) w.scope).type_errors;
      scope = (in_order (map walked rest) w.scope).scope;
    }) (s.1 (first_of (stmt_keeps s.0 Spec) _ k) scope)
    ∙ ap (λ (w : Walked). record { type_errors = both first.type_errors w.type_errors; scope = w.scope })
    (turns_case ss (second_of (stmt_keeps s.0 Spec) _ k) first.scope)

inside_alike : (ss : List (Scope → Walked)) (kept : BlockKind → Bool) (answer : Option Expr) (shape : Option Shape) → Walks kept (in_order ss) →
    Errs kept (inside ss answer shape)
inside_alike ss kept answer shape h k scope =
    ap (λ (w : Walked). both w.type_errors (return_errors answer shape w.scope)) (h k scope)
    ∙ ap (λ e. both (in_order ss scope).type_errors e) (return_alike answer shape (in_order ss scope).scope)

block_case : (y : Block-F S B) →
    Errs (node_all_keep (map-Block Stmt Block (BlockKind → Bool) (BlockKind → Bool) stmt_keeps K' (map-Block S B Stmt Block (λ e. e.0) (λ e. e.0) y)))
    (node_inside (map-Block Stmt Block (Scope → Walked) (Scope → TypeErrors) walked W' (map-Block S B Stmt Block (λ e. e.0) (λ e. e.0) y)))
block_case y = inside_alike _ (all_keep (map stmt_keeps (map (λ e. e.0) y.statements))) y.answer None (turns_case y.statements)

pub walked_alike : (s : Stmt) → Walks (stmt_keeps s) (walked s)
walked_alike =
    ind-Stmt (λ s. Walks (stmt_keeps s) (walked s)) (λ b. Errs (K' b) (W' b))
    (λ x y is.
    subst (λ k. Walks k (walked (roll-Stmt x))) (sym (fold-roll-Stmt (BlockKind → Bool) (BlockKind → Bool) node_keeps node_all_keep x))
    (subst (λ r. Walks (node_keeps (map-Stmt Stmt Block (BlockKind → Bool) (BlockKind → Bool) stmt_keeps K' x)) r)
    (sym (fold-roll-Stmt (Scope → Walked) (Scope → TypeErrors) node_walked node_inside x))
    (subst (λ z. Walks (node_keeps (map-Stmt Stmt Block (BlockKind → Bool) (BlockKind → Bool) stmt_keeps K' z))
    (node_walked (map-Stmt Stmt Block (Scope → Walked) (Scope → TypeErrors) walked W' z))) is (stmt_case y))))
    (λ x y is.
    subst (λ k. Errs k (W' (roll-Block x))) (sym (fold-roll-Block (BlockKind → Bool) (BlockKind → Bool) node_keeps node_all_keep x))
    (subst (λ r. Errs (node_all_keep (map-Block Stmt Block (BlockKind → Bool) (BlockKind → Bool) stmt_keeps K' x)) r)
    (sym (fold-roll-Block (Scope → Walked) (Scope → TypeErrors) node_walked node_inside x))
    (subst (λ z. Errs (node_all_keep (map-Block Stmt Block (BlockKind → Bool) (BlockKind → Bool) stmt_keeps K' z))
    (node_inside (map-Block Stmt Block (Scope → Walked) (Scope → TypeErrors) walked W' z))) is (block_case y))))

-- a block of a specification has the same type errors without operations below
pub block_alike : (b : Block) (shape : Option Shape) → keeps Spec b ≡ true → (scope : Scope) → block_errors b shape (bare scope) ≡ block_errors b shape scope
block_alike b shape k scope =
    inside_alike (map walked b.statements) (all_keep (map stmt_keeps b.statements)) b.answer shape
    (λ h z. in_order_alike b.statements walked_alike h z) k scope
