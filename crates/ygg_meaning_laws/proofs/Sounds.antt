-- Expressions without type errors have values of their shapes.
use Rattle.std.proofs.Common.{◌≡◌, ℕ, true, List, [], ◌∷◌, map, Option, Some, None, refl, sym, subst}
use Rattle.std.specs.Prelude.{◌&&◌}
use Rattle.std.proofs.lemmas.Nat.{pow_pos}
use Rattle.ygg_meaning.specs.Name.{Name}
use Rattle.ygg_meaning.specs.Expr.{Expr, roll-Expr, map-Expr}
use Rattle.ygg_meaning.specs.Expr.TheOpen.{Expr-F}
use Rattle.ygg_meaning.specs.Expr.TheFolds.{ind-Expr, fold-roll-Expr}
use Rattle.ygg_value.specs.declared.row.Value.{Value}
use Rattle.ygg_value.specs.declared.shape.Shape.{Shape}
use Rattle.ygg_value.specs.declared.shape.Shape.TheVariants.{Word}
use Rattle.ygg_type_rules.specs.Names.{look_up}
use Rattle.ygg_type_rules.specs.declared.scope.Local.{Local}
use Rattle.ygg_type_rules.specs.TypeErrors.{TypeErrors, nothing, both, none}
use Rattle.ygg_type_rules.specs.Scopes.{Scope, name_in, low_in, is_taken}
use Rattle.ygg_type_rules.specs.Expressions.{
  Typing,
  type_errors_in,
  parts_of,
  all_in,
  wanted,
  node_typing,
  typing,
  with_number,
  name_rule,
  low_rule,
  apply_rule,
  operator_rule,
  not_rule,
  index_rule,
  pick_rule,
  resize_rule,
  fill_rule,
  row_rule,
  number_errors,
  quantified_rule,
}
use Rattle.ygg_meaning.specs.Environments as names
use Rattle.ygg_meaning.specs.Meaning.{Functions, node_value, value_with, is_one, quantified}
use Rattle.ygg_meaning.specs.Meaning as meaning
use Rattle.ygg_meaning_laws.specs.Fitting.{HasShape, IsHeld}
use Rattle.ygg_meaning_laws.specs.Agrees.{Agrees}
use Rattle.ygg_meaning_laws.proofs.Tests.{left, right}
use Rattle.ygg_meaning_laws.proofs.Names.{value_found}
use Rattle.ygg_meaning_laws.proofs.Steps.{agrees_with_number}
use Rattle.ygg_meaning_laws.proofs.Rules.{
  constant_sound,
  operator_sound,
  not_sound,
  index_sound,
  pick_sound,
  resize_sound,
  fill_sound,
  number_parts,
  quantified_sound,
}
use Rattle.ygg_meaning_laws.proofs.Lists.{AllHave, apply_sound, row_sound}

abbrev pub Judge : Type 0
Judge = Scope → Typing

abbrev pub Means : Type 0
Means = meaning.Scope → Value

-- where the first finds no type error the second gives a value of its shape
pub record Sound (functions : Functions) (t : Judge) (v : Means) : Type 0 where
  pub gives : (scope : Scope) (env : meaning.Scope) → Agrees functions scope env → none (t scope).type_errors ≡ true → HasShape (t scope).part.shape (v env)

-- the type errors of one, two and three parts, and of the rule over them
pub one_none : (a r : TypeErrors) → none (both (both a nothing) r) ≡ true → (none a ≡ true) × (none r ≡ true)
one_none a r h = (left (none a) true (left (none a && true) (none r) h), right (none a && true) (none r) h)

pub two_none : (a b r : TypeErrors) → none (both (both a (both b nothing)) r) ≡ true → (none a ≡ true) × (none b ≡ true) × (none r ≡ true)
two_none a b r h =
    let parts = left (none a && (none b && true)) (none r) h in
    (left (none a) (none b && true) parts, left (none b) true (right (none a) (none b && true) parts), right (none a && (none b && true)) (none r) h)

pub three_none : (a b c r : TypeErrors) → none (both (both a (both b (both c nothing))) r) ≡ true → (none a ≡ true) × (none b ≡ true) × (none c ≡ true)
    × (none r ≡ true)
three_none a b c r h =
    let parts = left (none a && (none b && (none c && true))) (none r) h in
    let others = right (none a) (none b && (none c && true)) parts in (
      left (none a) (none b && (none c && true)) parts,
      left (none b) (none c && true) others,
      left (none c) true (right (none b) (none c && true) others),
      right (none a && (none b && (none c && true))) (none r) h,
    )

-- a plain name without a type error is held
pub variable_held : (functions : Functions) (scope : Scope) (env : meaning.Scope) (x : Name) → Agrees functions scope env →
    none (name_rule x (name_in x.text scope)).type_errors ≡ true
    → IsHeld x.text (name_rule x (name_in x.text scope)).shape env.own
variable_held functions scope env x agrees h = cases (name_in x.text scope) refl h
  where
    cases : (o : Option Local) → name_in x.text scope ≡ o → none (name_rule x o).type_errors ≡ true → IsHeld x.text (name_rule x o).shape env.own
    cases None e h = absurd (cc)
    cases (Some l) e h = agrees.names x.text l e

-- a name behind `low` without a type error is held
pub low_held : (functions : Functions) (scope : Scope) (env : meaning.Scope) (x : Name) → Agrees functions scope env →
    none (low_rule x (low_in x.text scope)).type_errors ≡ true
    → IsHeld x.text (low_rule x (low_in x.text scope)).shape env.low
low_held functions scope env x agrees h = cases (low_in x.text scope) refl h
  where
    cases : (o : Option (Option Shape)) → low_in x.text scope ≡ o → none (low_rule x o).type_errors ≡ true → IsHeld x.text (low_rule x o).shape env.low
    cases None e h = absurd (cc)
    cases (Some known) e h = agrees.low x.text known e

-- what is held has its shape
pub held_has : (name : List ℕ) (known : Option Shape) (env : names.Env) → IsHeld name known env → HasShape known (names.look_up name env)
held_has name known env h = subst (λ v. HasShape known v) (sym (value_found name env h.value h.found)) h.has

-- an expression of which it is known
abbrev Shown : Functions → Type 0
Shown functions = (e : Expr) × Sound functions (typing e) (value_with functions e)

abbrev expr_in : (functions : Functions) → Shown functions → Expr
expr_in functions = λ s. s.0

abbrev typings_in : (functions : Functions) → Scope → List (Shown functions) → List Typing
typings_in functions scope es = all_in scope (map typing (map (expr_in functions) es))

abbrev values_in : (functions : Functions) → meaning.Scope → List (Shown functions) → List Value
values_in functions env es = map (λ (part : Means). part env) (map (value_with functions) (map (expr_in functions) es))

all_have : (functions : Functions) (scope : Scope) (env : meaning.Scope) → Agrees functions scope env → (es : List (Shown functions)) →
    none (type_errors_in (typings_in functions scope es)) ≡ true
    → AllHave (parts_of (typings_in functions scope es)) (values_in functions env es)
all_have functions scope env agrees [] h = tt
all_have functions scope env agrees (e ∷ es) h =
    let here = none (typing e.0 scope).type_errors in
    let others = none (type_errors_in (typings_in functions scope es)) in
    (e.1.gives scope env agrees (left here others h), all_have functions scope env agrees es (right here others h))

sound_node : (functions : Functions) (y : Expr-F (Shown functions))
    → Sound functions (node_typing (map-Expr Expr Judge typing (map-Expr (Shown functions) Expr (expr_in functions) y)))
    (node_value functions (map-Expr Expr Means (value_with functions) (map-Expr (Shown functions) Expr (expr_in functions) y)))
sound_node functions (Expr-F.Constant v w) = record { gives = λ scope env agrees h. constant_sound v w h }
sound_node functions (Expr-F.Low at x) = record {
  gives =
      λ scope env agrees h. held_has x.text (low_rule x (low_in x.text scope)).shape env.low (low_held functions scope env x agrees h);
}
sound_node functions (Expr-F.Variable x) = record {
  gives =
      λ scope env agrees h. held_has x.text (name_rule x (name_in x.text scope)).shape env.own (variable_held functions scope env x agrees h);
}
sound_node functions (Expr-F.Apply f es) = record {
  gives = λ scope env agrees h.
      let ps = parts_of (typings_in functions scope es) in
      let parts = none (type_errors_in (typings_in functions scope es)) in
      let rule = none (apply_rule f (look_up f.text scope.defs) ps).type_errors in
      apply_sound functions scope.defs f ps (values_in functions env es) (agrees.defs f.text)
      (all_have functions scope env agrees es (left parts rule h)) (right parts rule h);
}
sound_node functions (Expr-F.Binary first a op at b) = record {
  gives = λ scope env agrees h.
      let x = typing a.0 scope in
      let y = typing b.0 scope in
      let n = two_none x.type_errors y.type_errors (operator_rule op at x.part y.part).type_errors h in
      operator_sound op at x.part y.part (value_with functions a.0 env) (value_with functions b.0 env) (a.1.gives scope env agrees n.0)
      (b.1.gives scope env agrees n.1) n.2;
}
sound_node functions (Expr-F.Not first a) = record {
  gives = λ scope env agrees h.
      let x = typing a.0 scope in
      let n = one_none x.type_errors (not_rule x.part).type_errors h in
      not_sound x.part (value_with functions a.0 env) (a.1.gives scope env agrees n.0) n.1;
}
sound_node functions (Expr-F.At a bracket i) = record {
  gives = λ scope env agrees h.
      let x = typing a.0 scope in
      let y = typing i.0 scope in
      let n = two_none x.type_errors y.type_errors (index_rule x.part.shape bracket y.part).type_errors h in
      index_sound bracket x.part y.part (value_with functions a.0 env) (value_with functions i.0 env) (a.1.gives scope env agrees n.0)
      (i.1.gives scope env agrees n.1) n.2;
}
sound_node functions (Expr-F.Pick first c a b) = record {
  gives = λ scope env agrees h.
      let t = typing c.0 scope in
      let x = typing a.0 scope in
      let y = typing b.0 scope in
      let n = three_none t.type_errors x.type_errors y.type_errors (pick_rule t.part x.part y.part).type_errors h in
      pick_sound t.part x.part y.part (value_with functions c.0 env) (value_with functions a.0 env) (value_with functions b.0 env)
      (c.1.gives scope env agrees n.0) (a.1.gives scope env agrees n.1) (b.1.gives scope env agrees n.2) n.3;
}
sound_node functions (Expr-F.Resize first a w) = record {
  gives = λ scope env agrees h.
      let x = typing a.0 scope in
      let n = one_none x.type_errors (resize_rule x.part w).type_errors h in
      resize_sound x.part w (value_with functions a.0 env) (a.1.gives scope env agrees n.0) n.1;
}
sound_node functions (Expr-F.Fill first m a) = record {
  gives = λ scope env agrees h.
      let x = typing a.0 scope in
      let n = one_none x.type_errors (fill_rule m x.part).type_errors h in
      fill_sound m x.part (value_with functions a.0 env) (a.1.gives scope env agrees n.0) n.1;
}
sound_node functions (Expr-F.Row first es) = record {
  gives = λ scope env agrees h.
      let ps = parts_of (typings_in functions scope es) in
      let parts = none (type_errors_in (typings_in functions scope es)) in
      let rule = none (row_rule first ps).type_errors in
      row_sound first ps (values_in functions env es) (all_have functions scope env agrees es (left parts rule h)) (right parts rule h);
}
sound_node functions (Expr-F.Quantified first which x w n e) = record {
  gives = λ scope env agrees h.
      let inner = with_number x w scope in
      let t = typing e.0 inner in
      let number = number_errors x (is_taken x.text scope) w n in
      let m = one_none t.type_errors (quantified_rule number t.part).type_errors h in
      let parts = number_parts x (is_taken x.text scope) w n (left (none number) (none (wanted t.part (Some (Word 1)))) m.1) in
      let env' = meaning.with_number env x.text w.value 0 in
      let agrees' = agrees_with_number functions scope env x w 0 agrees parts.free parts.fits (pow_pos w.value) in
      quantified_sound number t.part (value_with functions e.0 env')
      (quantified which n.value (λ i. is_one (value_with functions e.0 (meaning.with_number env x.text w.value i)))) (e.1.gives inner env' agrees' m.0) m.1;
}

-- each expression is sound
pub sound : (functions : Functions) (e : Expr) → Sound functions (typing e) (value_with functions e)
sound functions = ind-Expr (λ e. Sound functions (typing e) (value_with functions e))
    (λ x y is.
    subst (λ t. Sound functions t (value_with functions (roll-Expr x))) (sym (fold-roll-Expr Judge node_typing x))
    (subst (λ v. Sound functions (node_typing (map-Expr Expr Judge typing x)) v) (sym (fold-roll-Expr Means (node_value functions) x))
    (subst (λ z. Sound functions (node_typing (map-Expr Expr Judge typing z)) (node_value functions (map-Expr Expr Means (value_with functions) z)))
    is (sound_node functions y))))
