-- Trees of different variants are not the same.
use Rattle.std.proofs.Common.{◌≡◌, ◌↔◌, List, false, true, refl, sym, ap, subst, ◌∙◌}
use Rattle.std.proofs.lemmas.Bool.{false≢true}
use Rattle.ygg_value.specs.declared.Op.{Op}
use Rattle.ygg_syntax.specs.declared.tree.Place.{Place}
use Rattle.ygg_syntax.specs.declared.tree.Name.{Name}
use Rattle.ygg_syntax.specs.declared.tree.Numeral.{Numeral}
use Rattle.ygg_syntax.specs.declared.tree.Quantifier.{Quantifier}
use Rattle.ygg_syntax.specs.declared.tree.Index.{Index}
use Rattle.ygg_syntax.specs.declared.tree.Source.{Source}
use Rattle.ygg_syntax.specs.declared.tree.Block.{Block}
use Rattle.ygg_syntax.specs.declared.tree.Expr.{Expr, roll-Expr, out-Expr, roll-out-Expr}
use Rattle.ygg_syntax.specs.declared.tree.Expr.TheVariants as expr
use Rattle.ygg_syntax.specs.declared.tree.Expr.TheOpen.{Expr-F}
use Rattle.ygg_syntax.specs.declared.tree.Stmt.{Stmt, roll-Stmt, out-Stmt, roll-out-Stmt}
use Rattle.ygg_syntax.specs.declared.tree.Stmt.TheVariants as stmt
use Rattle.ygg_syntax.specs.declared.tree.Stmt.TheOpen.{Stmt-F}
use Rattle.ygg_syntax.specs.Bare.{bare, bare_statement}
use Rattle.ygg_syntax.proofs.Sames.{opened, same_opened, opened_statement, same_opened_statement}

-- the variant of an expression
pub data Sort : Type 0 where
  is_constant : Sort
  is_low : Sort
  is_variable : Sort
  is_apply : Sort
  is_binary : Sort
  is_not : Sort
  is_at : Sort
  is_pick : Sort
  is_resize : Sort
  is_fill : Sort
  is_row : Sort
  is_quantified : Sort

abbrev pub sort : Expr-F Expr → Sort
sort (Expr-F.Constant v w) = is_constant
sort (Expr-F.Low at x) = is_low
sort (Expr-F.Variable x) = is_variable
sort (Expr-F.Apply f es) = is_apply
sort (Expr-F.Binary f a op at b) = is_binary
sort (Expr-F.Not f a) = is_not
sort (Expr-F.At a at b) = is_at
sort (Expr-F.Pick f a b c) = is_pick
sort (Expr-F.Resize f a w) = is_resize
sort (Expr-F.Fill f m a) = is_fill
sort (Expr-F.Row f es) = is_row
sort (Expr-F.Quantified f q x w n a) = is_quantified

-- without its places it has the same
sort_stays : (x : Expr-F Expr) → sort (opened x) ≡ sort x
sort_stays (Expr-F.Constant v w) = refl
sort_stays (Expr-F.Low at x) = refl
sort_stays (Expr-F.Variable x) = refl
sort_stays (Expr-F.Apply f es) = refl
sort_stays (Expr-F.Binary f a op at b) = refl
sort_stays (Expr-F.Not f a) = refl
sort_stays (Expr-F.At a at b) = refl
sort_stays (Expr-F.Pick f a b c) = refl
sort_stays (Expr-F.Resize f a w) = refl
sort_stays (Expr-F.Fill f m a) = refl
sort_stays (Expr-F.Row f es) = refl
sort_stays (Expr-F.Quantified f q x w n a) = refl

-- an expression of another variant
abbrev pub IsNot : Sort → Expr → Type 0
IsNot is_constant e = (v : Numeral) → (w : Numeral) → e ≡ expr.Constant v w → ⊥
IsNot is_low e = (at : Place) → (x : Name) → e ≡ expr.Low at x → ⊥
IsNot is_variable e = (x : Name) → e ≡ expr.Variable x → ⊥
IsNot is_apply e = (f : Name) → (es : List Expr) → e ≡ expr.Apply f es → ⊥
IsNot is_binary e = (f : Place) → (a : Expr) → (op : Op) → (at : Place) → (b : Expr) → e ≡ expr.Binary f a op at b → ⊥
IsNot is_not e = (f : Place) → (a : Expr) → e ≡ expr.Not f a → ⊥
IsNot is_at e = (a : Expr) → (at : Place) → (b : Expr) → e ≡ expr.At a at b → ⊥
IsNot is_pick e = (f : Place) → (a : Expr) → (b : Expr) → (c : Expr) → e ≡ expr.Pick f a b c → ⊥
IsNot is_resize e = (f : Place) → (a : Expr) → (w : Numeral) → e ≡ expr.Resize f a w → ⊥
IsNot is_fill e = (f : Place) → (m : Numeral) → (a : Expr) → e ≡ expr.Fill f m a → ⊥
IsNot is_row e = (f : Place) → (es : List Expr) → e ≡ expr.Row f es → ⊥
IsNot is_quantified e = (f : Place) → (q : Quantifier) → (x : Name) → (w : Numeral) → (n : Numeral) → (a : Expr) → e ≡ expr.Quantified f q x w n a → ⊥

has_one : (x : Expr-F Expr) → IsNot (sort x) (roll-Expr x) → ⊥
has_one (Expr-F.Constant v w) none = none v w (expr.rolls-Constant v w)
has_one (Expr-F.Low at x) none = none at x (expr.rolls-Low at x)
has_one (Expr-F.Variable x) none = none x (expr.rolls-Variable x)
has_one (Expr-F.Apply f es) none = none f es (expr.rolls-Apply f es)
has_one (Expr-F.Binary f a op at b) none = none f a op at b (expr.rolls-Binary f a op at b)
has_one (Expr-F.Not f a) none = none f a (expr.rolls-Not f a)
has_one (Expr-F.At a at b) none = none a at b (expr.rolls-At a at b)
has_one (Expr-F.Pick f a b c) none = none f a b c (expr.rolls-Pick f a b c)
has_one (Expr-F.Resize f a w) none = none f a w (expr.rolls-Resize f a w)
has_one (Expr-F.Fill f m a) none = none f m a (expr.rolls-Fill f m a)
has_one (Expr-F.Row f es) none = none f es (expr.rolls-Row f es)
has_one (Expr-F.Quantified f q x w n a) none = none f q x w n a (expr.rolls-Quantified f q x w n a)

pub apart : {a : Expr} (b : Expr) (x : Expr-F Expr) → a ≡ roll-Expr x → IsNot (sort x) b → (false ≡ true) ↔ (bare a ≡ bare b)
apart b x is none = (
  λ yes. absurd (false≢true yes),
  λ same.
      let whole = same_opened x (out-Expr b) is (sym (roll-out-Expr b)) in
      let sorts : sort x ≡ sort (out-Expr b) =
      sym (sort_stays x) ∙ ap sort (whole.1 same) ∙ sort_stays (out-Expr b) in
      let is_not = subst (λ e. IsNot (sort x) e) (sym (roll-out-Expr b)) none in
      absurd (has_one (out-Expr b) (subst (λ s. IsNot s (roll-Expr (out-Expr b))) sorts is_not)),
)

-- the variant of a statement
pub data StatementSort : Type 0 where
  statement_is_let : StatementSort
  statement_is_assign : StatementSort
  statement_is_if : StatementSort
  statement_is_for : StatementSort
  statement_is_call : StatementSort

abbrev pub statement_sort : Stmt-F Stmt Block → StatementSort
statement_sort (Stmt-F.Let x from) = statement_is_let
statement_sort (Stmt-F.Assign x is from) = statement_is_assign
statement_sort (Stmt-F.If a f g) = statement_is_if
statement_sort (Stmt-F.For x w n f) = statement_is_for
statement_sort (Stmt-F.Call f es) = statement_is_call

-- without its places it has the same
statement_sort_stays : (x : Stmt-F Stmt Block) → statement_sort (opened_statement x) ≡ statement_sort x
statement_sort_stays (Stmt-F.Let x from) = refl
statement_sort_stays (Stmt-F.Assign x is from) = refl
statement_sort_stays (Stmt-F.If a f g) = refl
statement_sort_stays (Stmt-F.For x w n f) = refl
statement_sort_stays (Stmt-F.Call f es) = refl

-- a statement of another variant
abbrev pub IsNotStatement : StatementSort → Stmt → Type 0
IsNotStatement statement_is_let e = (x : Name) → (from : Source) → e ≡ stmt.Let x from → ⊥
IsNotStatement statement_is_assign e = (x : Name) → (is : List Index) → (from : Source) → e ≡ stmt.Assign x is from → ⊥
IsNotStatement statement_is_if e = (a : Expr) → (f : Block) → (g : Block) → e ≡ stmt.If a f g → ⊥
IsNotStatement statement_is_for e = (x : Name) → (w : Numeral) → (n : Numeral) → (f : Block) → e ≡ stmt.For x w n f → ⊥
IsNotStatement statement_is_call e = (f : Name) → (es : List Expr) → e ≡ stmt.Call f es → ⊥

statement_has_one : (x : Stmt-F Stmt Block) → IsNotStatement (statement_sort x) (roll-Stmt x) → ⊥
statement_has_one (Stmt-F.Let x from) none = none x from (stmt.rolls-Let x from)
statement_has_one (Stmt-F.Assign x is from) none = none x is from (stmt.rolls-Assign x is from)
statement_has_one (Stmt-F.If a f g) none = none a f g (stmt.rolls-If a f g)
statement_has_one (Stmt-F.For x w n f) none = none x w n f (stmt.rolls-For x w n f)
statement_has_one (Stmt-F.Call f es) none = none f es (stmt.rolls-Call f es)

pub statement_apart : {a : Stmt} (b : Stmt) (x : Stmt-F Stmt Block) → a ≡ roll-Stmt x → IsNotStatement (statement_sort x) b
    → (false ≡ true) ↔ (bare_statement a ≡ bare_statement b)
statement_apart b x is none = (
  λ yes. absurd (false≢true yes),
  λ same.
      let whole = same_opened_statement x (out-Stmt b) is (sym (roll-out-Stmt b)) in
      let sorts : statement_sort x ≡ statement_sort (out-Stmt b) =
      sym (statement_sort_stays x) ∙ ap statement_sort (whole.1 same) ∙ statement_sort_stays (out-Stmt b) in
      let is_not = subst (λ e. IsNotStatement (statement_sort x) e) (sym (roll-out-Stmt b)) none in
      absurd (statement_has_one (out-Stmt b) (subst (λ s. IsNotStatement s (roll-Stmt (out-Stmt b))) sorts is_not)),
)
