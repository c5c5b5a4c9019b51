-- What is known of the parts of an expression without a type error, and of their values.
use Rattle.std.proofs.Common.{◌≡◌, ℕ, ◌<◌, ◌^◌, true, false, List, [], ◌∷◌, map, All, Some, sym, ap, ◌∙◌, subst}
use Rattle.std.proofs.lemmas.List.Elements.{All-cons, All-nil}
use Rattle.ygg_meaning.specs.Place.{Place}
use Rattle.ygg_meaning.specs.Name.{Name}
use Rattle.ygg_meaning.specs.Numeral.{Numeral}
use Rattle.ygg_meaning.specs.Quantifier.{Quantifier}
use Rattle.ygg_meaning.specs.Expr.{Expr}
use Rattle.ygg_meaning.specs.Expr.TheVariants as tree
use Rattle.ygg_meaning.specs.Expr.TheOpen.{Expr-F}
use Rattle.ygg_meaning.specs.Expr.TheFolds.{fold-roll-Expr}
use Rattle.ygg_value.specs.declared.operation.Op.{Op}
use Rattle.ygg_value.specs.declared.row.Value.{Value}
use Rattle.ygg_value.specs.Shapes.{shape_of}
use Rattle.ygg_value.specs.declared.shape.Shape.TheVariants.{Word}
use Rattle.ygg_type_rules.specs.Names.{look_up}
use Rattle.ygg_type_rules.specs.TypeErrors.{none}
use Rattle.ygg_type_rules.specs.Shapes.{is_word}
use Rattle.ygg_type_rules.specs.Scopes.{Scope, name_in, low_in, is_taken}
use Rattle.ygg_type_rules.specs.Expressions.{
  Typing,
  type_errors_in,
  parts_of,
  typings,
  wanted,
  node_typing,
  typing,
  with_number,
  name_rule,
  low_rule,
  apply_rule,
  operator_rule,
  not_rule,
  index_rule,
  pick_rule,
  resize_rule,
  fill_rule,
  row_rule,
  number_errors,
  quantified_rule,
}
use Rattle.ygg_meaning.specs.Meaning.{Functions, value_with}
use Rattle.ygg_meaning.specs.Meaning as meaning
use Rattle.ygg_meaning_laws.specs.Fitting.{HasShape, IsHeld}
use Rattle.ygg_meaning_laws.specs.Agrees.{Agrees}
use Rattle.ygg_meaning_laws.proofs.Tests.{left, right}
use Rattle.ygg_meaning_laws.proofs.Steps.{agrees_with_number}
use Rattle.ygg_meaning_laws.proofs.Rules.{
  ConstantParts,
  constant_parts,
  is_equality,
  Operands,
  operands,
  operator_without_errors,
  word_without_errors,
  IndexParts,
  index_parts,
  PickParts,
  pick_parts,
  ResizeParts,
  resize_parts,
  FillParts,
  fill_parts,
  NumberParts,
  number_parts,
  wanted_has,
}
use Rattle.ygg_meaning_laws.proofs.Lists.{AllHave, ApplyParts, apply_parts, RowParts, row_parts}
use Rattle.ygg_meaning_laws.proofs.Sounds.{one_none, two_none, three_none, variable_held, low_held, sound}

-- the expression has no type error
abbrev pub WithoutErrors : Expr → Scope → Type 0
WithoutErrors e scope = none (typing e scope).type_errors ≡ true

-- the expression has no type error, and its value has its shape
pub record HasValue (functions : Functions) (scope : Scope) (env : meaning.Scope) (e : Expr) : Type 0 where
  pub without_errors : WithoutErrors e scope
  pub has : HasShape (typing e scope).part.shape (value_with functions e env)

pub has_value : (functions : Functions) (scope : Scope) (env : meaning.Scope) (e : Expr) → Agrees functions scope env → WithoutErrors e scope →
    HasValue functions scope env e
has_value functions scope env e agrees h = record { without_errors = h; has = (sound functions e).gives scope env agrees h }

-- several expressions without a type error
abbrev pub values_in : Functions → List Expr → meaning.Scope → List Value
values_in functions es env = map (λ (e : Expr). value_with functions e env) es

abbrev pub AllWithoutErrors : List Expr → Scope → Type 0
AllWithoutErrors es scope = none (type_errors_in (typings es scope)) ≡ true

pub each_has : (functions : Functions) (scope : Scope) (env : meaning.Scope) (es : List Expr) → Agrees functions scope env → AllWithoutErrors es scope →
    All (HasValue functions scope env) es
each_has functions scope env [] agrees h = All-nil (HasValue functions scope env)
each_has functions scope env (e ∷ es) agrees h =
    let here = none (typing e scope).type_errors in
    let others = none (type_errors_in (typings es scope)) in
    All-cons (HasValue functions scope env) e es (has_value functions scope env e agrees (left here others h))
    (each_has functions scope env es agrees (right here others h))

pub all_have_shapes : (functions : Functions) (scope : Scope) (env : meaning.Scope) (es : List Expr) → Agrees functions scope env →
    AllWithoutErrors es scope → AllHave (parts_of (typings es scope)) (values_in functions es env)
all_have_shapes functions scope env [] agrees h = tt
all_have_shapes functions scope env (e ∷ es) agrees h =
    let here = none (typing e scope).type_errors in
    let others = none (type_errors_in (typings es scope)) in
    ((sound functions e).gives scope env agrees (left here others h), all_have_shapes functions scope env es agrees (right here others h))

-- what each construct is in a scope

abbrev Judge : Type 0
Judge = Scope → Typing

pub typed_constant : (v w : Numeral) → typing (tree.Constant v w) ≡ node_typing (Expr-F.Constant v w)
typed_constant v w = ap typing (sym (tree.rolls-Constant v w)) ∙ fold-roll-Expr Judge node_typing (Expr-F.Constant v w)

pub typed_low : (at : Place) (x : Name) → typing (tree.Low at x) ≡ node_typing (Expr-F.Low at x)
typed_low at x = ap typing (sym (tree.rolls-Low at x)) ∙ fold-roll-Expr Judge node_typing (Expr-F.Low at x)

pub typed_variable : (x : Name) → typing (tree.Variable x) ≡ node_typing (Expr-F.Variable x)
typed_variable x = ap typing (sym (tree.rolls-Variable x)) ∙ fold-roll-Expr Judge node_typing (Expr-F.Variable x)

pub typed_apply : (f : Name) (es : List Expr) → typing (tree.Apply f es) ≡ node_typing (Expr-F.Apply f (map typing es))
typed_apply f es = ap typing (sym (tree.rolls-Apply f es)) ∙ fold-roll-Expr Judge node_typing (Expr-F.Apply f es)

pub typed_binary : (first : Place) (a : Expr) (op : Op) (at : Place) (b : Expr) →
    typing (tree.Binary first a op at b) ≡ node_typing (Expr-F.Binary first (typing a) op at (typing b))
typed_binary first a op at b = ap typing (sym (tree.rolls-Binary first a op at b)) ∙ fold-roll-Expr Judge node_typing (Expr-F.Binary first a op at b)

pub typed_not : (first : Place) (a : Expr) → typing (tree.Not first a) ≡ node_typing (Expr-F.Not first (typing a))
typed_not first a = ap typing (sym (tree.rolls-Not first a)) ∙ fold-roll-Expr Judge node_typing (Expr-F.Not first a)

pub typed_at : (a : Expr) (bracket : Place) (i : Expr) → typing (tree.At a bracket i) ≡ node_typing (Expr-F.At (typing a) bracket (typing i))
typed_at a bracket i = ap typing (sym (tree.rolls-At a bracket i)) ∙ fold-roll-Expr Judge node_typing (Expr-F.At a bracket i)

pub typed_pick : (first : Place) (c a b : Expr) → typing (tree.Pick first c a b) ≡ node_typing (Expr-F.Pick first (typing c) (typing a) (typing b))
typed_pick first c a b = ap typing (sym (tree.rolls-Pick first c a b)) ∙ fold-roll-Expr Judge node_typing (Expr-F.Pick first c a b)

pub typed_resize : (first : Place) (a : Expr) (w : Numeral) → typing (tree.Resize first a w) ≡ node_typing (Expr-F.Resize first (typing a) w)
typed_resize first a w = ap typing (sym (tree.rolls-Resize first a w)) ∙ fold-roll-Expr Judge node_typing (Expr-F.Resize first a w)

pub typed_fill : (first : Place) (m : Numeral) (a : Expr) → typing (tree.Fill first m a) ≡ node_typing (Expr-F.Fill first m (typing a))
typed_fill first m a = ap typing (sym (tree.rolls-Fill first m a)) ∙ fold-roll-Expr Judge node_typing (Expr-F.Fill first m a)

pub typed_row : (first : Place) (es : List Expr) → typing (tree.Row first es) ≡ node_typing (Expr-F.Row first (map typing es))
typed_row first es = ap typing (sym (tree.rolls-Row first es)) ∙ fold-roll-Expr Judge node_typing (Expr-F.Row first es)

pub typed_quantified : (first : Place) (which : Quantifier) (x : Name) (w n : Numeral) (e : Expr) →
    typing (tree.Quantified first which x w n e) ≡ node_typing (Expr-F.Quantified first which x w n (typing e))
typed_quantified first which x w n e = ap typing (sym (tree.rolls-Quantified first which x w n e))
    ∙ fold-roll-Expr Judge node_typing (Expr-F.Quantified first which x w n e)

-- an expression without a type error is one as its construct says
opened : (e : Expr) (t : Judge) (scope : Scope) → typing e ≡ t → WithoutErrors e scope → none (t scope).type_errors ≡ true
opened e t scope is h = subst (λ (u : Judge). none (u scope).type_errors ≡ true) is h

-- the parts of each construct

pub constant_typed : (v w : Numeral) (scope : Scope) → WithoutErrors (tree.Constant v w) scope → ConstantParts v w
constant_typed v w scope h = constant_parts v w (opened (tree.Constant v w) (node_typing (Expr-F.Constant v w)) scope (typed_constant v w) h)

pub low_typed : (functions : Functions) (scope : Scope) (env : meaning.Scope) (at : Place) (x : Name) → Agrees functions scope env →
    WithoutErrors (tree.Low at x) scope → IsHeld x.text (low_rule x (low_in x.text scope)).shape env.low
low_typed functions scope env at x agrees h = low_held functions scope env x agrees
    (opened (tree.Low at x) (node_typing (Expr-F.Low at x)) scope (typed_low at x) h)

pub variable_typed : (functions : Functions) (scope : Scope) (env : meaning.Scope) (x : Name) → Agrees functions scope env →
    WithoutErrors (tree.Variable x) scope → IsHeld x.text (name_rule x (name_in x.text scope)).shape env.own
variable_typed functions scope env x agrees h = variable_held functions scope env x agrees
    (opened (tree.Variable x) (node_typing (Expr-F.Variable x)) scope (typed_variable x) h)

-- a definition at its arguments
pub record ApplyTyped (functions : Functions) (scope : Scope) (env : meaning.Scope) (f : Name) (es : List Expr) : Type 0 where
  pub each : All (HasValue functions scope env) es
  pub parts : ApplyParts scope.defs f.text (values_in functions es env)

pub apply_typed : (functions : Functions) (scope : Scope) (env : meaning.Scope) (f : Name) (es : List Expr) → Agrees functions scope env →
    WithoutErrors (tree.Apply f es) scope → ApplyTyped functions scope env f es
apply_typed functions scope env f es agrees h =
    let ps = parts_of (typings es scope) in
    let rule = none (apply_rule f (look_up f.text scope.defs) ps).type_errors in
    let n = opened (tree.Apply f es) (node_typing (Expr-F.Apply f (map typing es))) scope (typed_apply f es) h in
    let each = left (none (type_errors_in (typings es scope))) rule n in
    record {
      each = each_has functions scope env es agrees each;
      parts = apply_parts scope.defs f ps (values_in functions es env) (all_have_shapes functions scope env es agrees each)
          (right (none (type_errors_in (typings es scope))) rule n);
    }

-- an operator between two operands
pub record BinaryTyped (functions : Functions) (scope : Scope) (env : meaning.Scope) (a : Expr) (op : Op) (b : Expr) : Type 0 where
  pub left : HasValue functions scope env a
  pub right : HasValue functions scope env b
  pub operands : is_equality op ≡ false → Operands op (value_with functions a env) (value_with functions b env)

pub binary_typed : (functions : Functions) (scope : Scope) (env : meaning.Scope) (first : Place) (a : Expr) (op : Op) (at : Place) (b : Expr) →
    Agrees functions scope env → WithoutErrors (tree.Binary first a op at b) scope
    → BinaryTyped functions scope env a op b
binary_typed functions scope env first a op at b agrees h =
    let x = typing a scope in
    let y = typing b scope in
    let n = two_none x.type_errors y.type_errors (operator_rule op at x.part y.part).type_errors
    (opened (tree.Binary first a op at b) (node_typing (Expr-F.Binary first (typing a) op at (typing b))) scope (typed_binary first a op at b) h) in
    let l = has_value functions scope env a agrees n.0 in
    let r = has_value functions scope env b agrees n.1 in
    record {
      left = l;
      right = r;
      operands = operands op (value_with functions a env) (value_with functions b env)
          (operator_without_errors op at x.part y.part (value_with functions a env) (value_with functions b env) l.has r.has n.2);
    }

-- a part that is a word
pub record NotTyped (functions : Functions) (scope : Scope) (env : meaning.Scope) (a : Expr) : Type 0 where
  pub operand : HasValue functions scope env a
  pub word : is_word (shape_of (value_with functions a env)) ≡ true

pub not_typed : (functions : Functions) (scope : Scope) (env : meaning.Scope) (first : Place) (a : Expr) → Agrees functions scope env →
    WithoutErrors (tree.Not first a) scope → NotTyped functions scope env a
not_typed functions scope env first a agrees h =
    let x = typing a scope in
    let n = one_none x.type_errors (not_rule x.part).type_errors
    (opened (tree.Not first a) (node_typing (Expr-F.Not first (typing a))) scope (typed_not first a) h) in
    let l = has_value functions scope env a agrees n.0 in
    record { operand = l; word = word_without_errors x.part (value_with functions a env) l.has n.1 }

-- a part of a row or a table
pub record AtTyped (functions : Functions) (scope : Scope) (env : meaning.Scope) (a i : Expr) : Type 0 where
  pub whole : HasValue functions scope env a
  pub index : HasValue functions scope env i
  pub parts : IndexParts (value_with functions a env) (value_with functions i env)

pub at_typed : (functions : Functions) (scope : Scope) (env : meaning.Scope) (a : Expr) (bracket : Place) (i : Expr) → Agrees functions scope env →
    WithoutErrors (tree.At a bracket i) scope → AtTyped functions scope env a i
at_typed functions scope env a bracket i agrees h =
    let x = typing a scope in
    let y = typing i scope in
    let n = two_none x.type_errors y.type_errors (index_rule x.part.shape bracket y.part).type_errors
    (opened (tree.At a bracket i) (node_typing (Expr-F.At (typing a) bracket (typing i))) scope (typed_at a bracket i) h) in
    let l = has_value functions scope env a agrees n.0 in
    let r = has_value functions scope env i agrees n.1 in
    record { whole = l; index = r; parts = index_parts bracket x.part y.part (value_with functions a env) (value_with functions i env) l.has r.has n.2 }

-- one of two values of one shape
pub record PickTyped (functions : Functions) (scope : Scope) (env : meaning.Scope) (c a b : Expr) : Type 0 where
  pub test : HasValue functions scope env c
  pub first : HasValue functions scope env a
  pub second : HasValue functions scope env b
  pub parts : PickParts (value_with functions c env) (value_with functions a env) (value_with functions b env)

pub pick_typed : (functions : Functions) (scope : Scope) (env : meaning.Scope) (first : Place) (c a b : Expr) → Agrees functions scope env →
    WithoutErrors (tree.Pick first c a b) scope → PickTyped functions scope env c a b
pick_typed functions scope env first c a b agrees h =
    let t = typing c scope in
    let x = typing a scope in
    let y = typing b scope in
    let n = three_none t.type_errors x.type_errors y.type_errors (pick_rule t.part x.part y.part).type_errors
    (opened (tree.Pick first c a b) (node_typing (Expr-F.Pick first (typing c) (typing a) (typing b))) scope (typed_pick first c a b) h) in
    let p = has_value functions scope env c agrees n.0 in
    let q = has_value functions scope env a agrees n.1 in
    let r = has_value functions scope env b agrees n.2 in
    record {
      test = p;
      first = q;
      second = r;
      parts = pick_parts t.part x.part y.part (value_with functions c env) (value_with functions a env)
          (value_with functions b env) p.has q.has r.has n.3;
    }

-- a word of another width
pub record ResizeTyped (functions : Functions) (scope : Scope) (env : meaning.Scope) (a : Expr) (w : Numeral) : Type 0 where
  pub operand : HasValue functions scope env a
  pub parts : ResizeParts (value_with functions a env) w

pub resize_typed : (functions : Functions) (scope : Scope) (env : meaning.Scope) (first : Place) (a : Expr) (w : Numeral) → Agrees functions scope env
    → WithoutErrors (tree.Resize first a w) scope → ResizeTyped functions scope env a w
resize_typed functions scope env first a w agrees h =
    let x = typing a scope in
    let n = one_none x.type_errors (resize_rule x.part w).type_errors
    (opened (tree.Resize first a w) (node_typing (Expr-F.Resize first (typing a) w)) scope (typed_resize first a w) h) in
    let l = has_value functions scope env a agrees n.0 in
    record { operand = l; parts = resize_parts x.part w (value_with functions a env) l.has n.1 }

-- a row of equal words
pub record FillTyped (functions : Functions) (scope : Scope) (env : meaning.Scope) (m : Numeral) (a : Expr) : Type 0 where
  pub operand : HasValue functions scope env a
  pub parts : FillParts m (value_with functions a env)

pub fill_typed : (functions : Functions) (scope : Scope) (env : meaning.Scope) (first : Place) (m : Numeral) (a : Expr) → Agrees functions scope env →
    WithoutErrors (tree.Fill first m a) scope → FillTyped functions scope env m a
fill_typed functions scope env first m a agrees h =
    let x = typing a scope in
    let n = one_none x.type_errors (fill_rule m x.part).type_errors
    (opened (tree.Fill first m a) (node_typing (Expr-F.Fill first m (typing a))) scope (typed_fill first m a) h) in
    let l = has_value functions scope env a agrees n.0 in
    record { operand = l; parts = fill_parts m x.part (value_with functions a env) l.has n.1 }

-- a row of words
pub record RowTyped (functions : Functions) (scope : Scope) (env : meaning.Scope) (es : List Expr) : Type 0 where
  pub each : All (HasValue functions scope env) es
  pub parts : RowParts (values_in functions es env)

pub row_typed : (functions : Functions) (scope : Scope) (env : meaning.Scope) (first : Place) (es : List Expr) → Agrees functions scope env →
    WithoutErrors (tree.Row first es) scope → RowTyped functions scope env es
row_typed functions scope env first es agrees h =
    let ps = parts_of (typings es scope) in
    let rule = none (row_rule first ps).type_errors in
    let n = opened (tree.Row first es) (node_typing (Expr-F.Row first (map typing es))) scope (typed_row first es) h in
    let each = left (none (type_errors_in (typings es scope))) rule n in
    record {
      each = each_has functions scope env es agrees each;
      parts = row_parts first ps (values_in functions es env) (all_have_shapes functions scope env es agrees each)
          (right (none (type_errors_in (typings es scope))) rule n);
    }

-- a test at each number below a bound
pub record QuantifiedTyped (functions : Functions) (scope : Scope) (env : meaning.Scope) (x : Name) (w n : Numeral) (e : Expr) : Type 0 where
  pub number : NumberParts (is_taken x.text scope) w n
  pub without_errors : WithoutErrors e (with_number x w scope)
  pub agrees : (i : ℕ) → i < 2 ^ w.value → Agrees functions (with_number x w scope) (meaning.with_number env x.text w.value i)
  pub single : (i : ℕ) → i < 2 ^ w.value → shape_of (value_with functions e (meaning.with_number env x.text w.value i)) ≡ Word 1

pub quantified_typed : (functions : Functions) (scope : Scope) (env : meaning.Scope) (first : Place) (which : Quantifier) (x : Name) (w n : Numeral)
    (e : Expr) → Agrees functions scope env
    → WithoutErrors (tree.Quantified first which x w n e) scope → QuantifiedTyped functions scope env x w n e
quantified_typed functions scope env first which x w n e agrees h =
    let inner = with_number x w scope in
    let t = typing e inner in
    let number = number_errors x (is_taken x.text scope) w n in
    let m = one_none t.type_errors (quantified_rule number t.part).type_errors
    (opened (tree.Quantified first which x w n e) (node_typing (Expr-F.Quantified first which x w n (typing e))) scope
    (typed_quantified first which x w n e) h) in
    let single = none (wanted t.part (Some (Word 1))) in
    let parts = number_parts x (is_taken x.text scope) w n (left (none number) single m.1) in
    let inside : (i : ℕ) → i < 2 ^ w.value → Agrees functions inner (meaning.with_number env x.text w.value i) =
    λ i l. agrees_with_number functions scope env x w i agrees parts.free parts.fits l in
    record {
      number = parts;
      without_errors = m.0;
      agrees = inside;
      single = λ i l. wanted_has t.part (value_with functions e (meaning.with_number env x.text w.value i)) (Word 1)
          ((sound functions e).gives inner (meaning.with_number env x.text w.value i) (inside i l) m.0) (right (none number) single m.1);
    }
