-- The terms of an expression without a type error are worth its value, under one valuation of the nodes at the end.
use Rattle.std.proofs.Common.{
  ◌≡◌,
  ◌<◌,
  ◌≤◌,
  ◌^◌,
  ℕ,
  Bool,
  true,
  false,
  ◌&&◌,
  ◌||◌,
  if◌then◌else◌,
  List,
  [],
  ◌∷◌,
  ◌++◌,
  map,
  All,
  Option,
  Some,
  refl,
  sym,
  ap,
  ◌∙◌,
  subst,
  arith,
}
use Rattle.std.specs.Str.{bytes_eq}
use Rattle.std.proofs.lemmas.List.{map-append}
use Rattle.std.proofs.lemmas.List.Elements.{All-head, All-tail, All-cons, All-nil, All-append}
use Rattle.ygg_value.specs.Number.{IsWord}
use Rattle.ygg_value.specs.Words.{word, bit_of}
use Rattle.ygg_value.specs.Values.{digit}
use Rattle.ygg_value.specs.Shapes.{shape_of}
use Rattle.ygg_value.specs.declared.operation.Op.{Op}
use Rattle.ygg_value.specs.declared.operation.Op.TheVariants as op
use Rattle.ygg_value.specs.declared.row.Value.{Value}
use Rattle.ygg_value.specs.declared.row.Value.TheVariants as value
use Rattle.ygg_value.specs.declared.shape.Shape.{Shape}
use Rattle.ygg_value.specs.declared.shape.Shape.TheVariants as shape
use Rattle.ygg_syntax.specs.declared.tree.Place.{Place}
use Rattle.ygg_syntax.specs.declared.tree.Name as tree_name
use Rattle.ygg_syntax.specs.declared.tree.Numeral.{Numeral}
use Rattle.ygg_syntax.specs.declared.tree.Quantifier.{Quantifier}
use Rattle.ygg_syntax.specs.declared.tree.Quantifier.TheVariants as quantifier
use Rattle.ygg_syntax.specs.declared.tree.Expr.{Expr, roll-Expr, map-Expr}
use Rattle.ygg_syntax.specs.declared.tree.Expr.TheVariants as tree
use Rattle.ygg_syntax.specs.declared.tree.Expr.TheOpen.{Expr-F}
use Rattle.ygg_syntax.specs.declared.tree.Expr.TheFolds.{ind-Expr, fold-roll-Expr}
use Rattle.ygg_eval_expr.specs.ygg_type_rules.Names.{Named, look_up, has, added}
use Rattle.ygg_eval_expr.specs.ygg_meaning_laws.Signature.{Signature}
use Rattle.ygg_eval_expr.specs.ygg_meaning_laws.TypeErrors.{none}
use Rattle.ygg_eval_expr.specs.ygg_meaning_laws.Scopes.{Scope, name_in, low_in, with_local}
use Rattle.ygg_eval_expr.specs.ygg_meaning_laws.Shapes.{word_shape}
use Rattle.ygg_eval_expr.specs.ygg_meaning_laws.Expressions.{Typing, node_typing, typing, with_number, name_rule, low_rule, operator_rule}
use Rattle.ygg_eval_expr.specs.ygg_meaning_laws.Environments.{Name}
use Rattle.ygg_eval_expr.specs.ygg_meaning_laws.Environments as names
use Rattle.ygg_eval_expr.specs.ygg_meaning_laws.Meaning.{Functions, is_one, all_below, any_below, quantified, row_of, value_with}
use Rattle.ygg_eval_expr.specs.ygg_meaning_laws.Meaning as meaning
use Rattle.ygg_eval_expr.specs.ygg_meaning_laws.Fitting.{IsHeld, all_fit}
use Rattle.ygg_eval_expr.specs.ygg_meaning_laws.Agrees.{Agrees}
use Rattle.ygg_eval_expr.specs.ygg_meaning_laws_proofs_Names.{value_found}
use Rattle.ygg_eval_expr.specs.ygg_meaning_laws_proofs_Rules.{NumberParts, operator_without_errors}
use Rattle.ygg_eval_expr.specs.ygg_meaning_laws_proofs_Sounds.{two_none}
use Rattle.ygg_eval_expr.specs.ygg_meaning_laws_proofs_Parts.{
  WithoutErrors,
  HasValue,
  values_in,
  typed_constant,
  typed_low,
  typed_variable,
  typed_apply,
  typed_binary,
  typed_not,
  typed_at,
  typed_pick,
  typed_resize,
  typed_fill,
  typed_row,
  typed_quantified,
  constant_typed,
  low_typed,
  variable_typed,
  apply_typed,
  binary_typed,
  not_typed,
  at_typed,
  pick_typed,
  resize_typed,
  fill_typed,
  row_typed,
  quantified_typed,
}
use Rattle.ygg_shape.specs.ygg_rules.declared.rule.RuleKind.{RuleKind}
use Rattle.ygg_shape.specs.ygg_bank_proofs_Meaning.{fits_fewer}
use Rattle.ygg_shape.specs.ygg_bank_proofs_Widths.{width_is, stands}
use Rattle.ygg_shape.specs.ygg_bank.Nodes.{HasWidth, CanBin, Extends}
use Rattle.ygg_shape.specs.ygg_bank.Values.{Inputs, Values}
use Rattle.ygg_shape.specs.ygg_bank.declared.node.Id.{Id}
use Rattle.ygg_shape.specs.ygg_bank.declared.node.Node.{Node}
use Rattle.ygg_shape.specs.ygg_bank.declared.node.Node.TheVariants as node
use Rattle.ygg_shape.specs.ygg_shape_words_proofs_Terms.{and_digits, or_digits}
use Rattle.ygg_shape.specs.ygg_shape_words_proofs_Fit.{can_and}
use Rattle.ygg_shape.specs.ygg_shape_cells.Making.{merged}
use Rattle.ygg_shape.specs.ygg_shape_cells.Terms.{worth}
use Rattle.ygg_shape.specs.ygg_shape_cells.declared.terms.SymValue.{SymValue}
use Rattle.ygg_shape.specs.ygg_shape_cells.declared.terms.SymValue.TheVariants.{Row}
use Rattle.ygg_sym_runs.specs.Names.{SymEnv, SymScope, sym_look_up}
use Rattle.ygg_sym_runs.specs.Exprs.{SymFunctions, Making, id_in, all_made, small_made, number_made, applied}
use Rattle.ygg_sym_runs.specs.Exprs.{part_made, joined, quantified_made, with_name, at_number, node_made, sym_value}
use Rattle.ygg_sym_runs.specs.ExpressionMeaning.{SomeShape, EnvShaped, ScopeShaped, Gives, worths, scope_worth, IsWorth}
use Rattle.ygg_sym_runs.proofs.Shaped.{some_wider, scope_wider, word_worth}
use Rattle.ygg_shape.specs.ygg_shape_cells_proofs_Grows.{merged_grows}
use Rattle.ygg_sym_runs.proofs.Grows.{AlwaysGrows, FunctionsGrow, small_grows, word_grows, applied_grows, part_grows, at_number_grows, all_grow, value_grows}
use Rattle.ygg_sym_runs.proofs.ExpressionParts.{
  AllWorth,
  number_gives,
  applied_gives,
  not_gives,
  resized_gives,
  part_gives,
  pick_gives,
  fill_gives,
  row_gives,
  joined_gives,
}

abbrev pub Judge : Type 0
Judge = Scope → Typing

-- with one more name the definitions are the same
pub same_defs : (x : List ℕ) (known : Option Shape) (assignable : Bool) (scope : Scope) → (with_local x known assignable scope).defs ≡ scope.defs
same_defs x known assignable scope = cases (has x scope.variables)
  where
    new : Scope
    new = record scope { locals = added x (record { shape = known; assignable = assignable }) scope.locals }

    cases : (b : Bool) → (if b then scope else new).defs ≡ scope.defs
    cases true = refl
    cases false = refl

pub can_or : (nodes : List Node) (a b : Id) → HasWidth nodes a 1 → HasWidth nodes b 1 → CanBin nodes op.Or a b
can_or nodes a b p q = record { one = stands nodes a 1 p; two = stands nodes b 1 q; widths = width_is nodes a 1 p ∙ sym (width_is nodes b 1 q) }

module _ (inputs : Inputs) (v : Values) where
  -- a name that is held
  pub held_worth : (nodes : List Node) (name : List ℕ) (env : SymEnv) (want : Value) → look_up name (worths v env) ≡ Some want → EnvShaped nodes env →
      IsWorth v want nodes (sym_look_up name env)
  held_worth nodes name [] want e h = absurd (cc)
  held_worth nodes name (b ∷ env) want e h =
      cases (bytes_eq b.0 name) e (λ f. held_worth nodes name env want f (All-tail (λ (b : Name × SymValue). SomeShape nodes b.1) b env h))
    where
      cases : (c : Bool) → (if c then Some (worth v b.1) else look_up name (worths v env)) ≡ Some want →
          (look_up name (worths v env) ≡ Some want → IsWorth v want nodes (sym_look_up name env)) →
          IsWorth v want nodes (if c then b.1 else sym_look_up name env)
      cases true e later =
          let f : worth v b.1 ≡ want = cc in
          record { shaped = All-head (λ (b : Name × SymValue). SomeShape nodes b.1) b env h; is = f }
      cases false e later = later e

  pub worth_wider : (old new : List Node) (want : Value) (x : SymValue) → Extends old new → IsWorth v want old x → IsWorth v want new x
  worth_wider old new want x g h = record { shaped = some_wider old new x g h.shaped; is = h.is }

  held_is : (nodes : List Node) (name : List ℕ) (known : Option Shape) (env : SymEnv) → IsHeld name known (worths v env) → EnvShaped nodes env →
      IsWorth v (names.look_up name (worths v env)) nodes (sym_look_up name env)
  held_is nodes name known env h s =
      subst (λ w. IsWorth v w nodes (sym_look_up name env)) (sym (value_found name (worths v env) h.value h.found))
      (held_worth nodes name env h.value h.found s)

  module _ (kinds : List RuleKind) (defs : Named Signature) (functions : Functions) (terms : SymFunctions) (grow : FunctionsGrow terms) where
    -- definitions over terms give what they give over values
    pub record FunctionsMean : Type 0 where
      pub gives : (name : Name) (d : Signature) (xs : List SymValue) (wants : List Value) (nodes : List Node) → look_up name defs ≡ Some d →
          all_fit d.arguments wants ≡ true → AllWorth inputs v kinds wants nodes xs → Gives inputs v (terms name xs) nodes (IsWorth v (functions name wants))

    -- where the typing finds no type error the terms are worth the value
    pub record Means (m : Making) (t : Judge) (w : meaning.Scope → Value) : Type 0 where
      pub gives : (scope : Scope) (from : SymScope) (nodes : List Node) → scope.defs ≡ defs → Agrees functions scope (scope_worth v from) →
          none (t scope).type_errors ≡ true → ScopeShaped nodes from → Gives inputs v (m from) nodes (IsWorth v (w (scope_worth v from)))

    module _ (mean : FunctionsMean) where
      abbrev S : Expr → Making
      S = sym_value kinds terms

      abbrev V : Expr → meaning.Scope → Value
      V = value_with functions

      abbrev Shown : Type 0
      Shown = (e : Expr) × Means (S e) (typing e) (V e)

      abbrev expr_in : Shown → Expr
      expr_in = λ s. s.0

      grows : (e : Expr) → AlwaysGrows (S e)
      grows = value_grows kinds terms grow

      -- without a type error, in the words of a construct
      closed : (e : Expr) (t : Judge) (scope : Scope) → typing e ≡ t → none (t scope).type_errors ≡ true → WithoutErrors e scope
      closed e t scope is h = subst (λ (u : Judge). none (u scope).type_errors ≡ true) (sym is) h

      all_give : (es : List Shown) (scope : Scope) (from : SymScope) (nodes : List Node) → scope.defs ≡ defs → Agrees functions scope (scope_worth v from) →
          All (HasValue functions scope (scope_worth v from)) (map expr_in es) → ScopeShaped nodes from →
          Gives inputs v (all_made (map S (map expr_in es)) from) nodes (AllWorth inputs v kinds (values_in functions (map expr_in es) (scope_worth v from)))
      all_give [] scope from nodes d agrees each s h = record { shaped = All-nil (SomeShape nodes); is = refl }
      all_give (e ∷ es) scope from nodes d agrees each s h =
          let o = S e.0 from nodes in
          let r = all_made (map S (map expr_in es)) from o.nodes in
          let g = grows e.0 from nodes in
          let k = all_grow kinds terms grow (map expr_in es) from o.nodes in
          let env = scope_worth v from in
          let here = All-head (HasValue functions scope env) e.0 (map expr_in es) each in
          let p = e.1.gives scope from nodes d agrees here.without_errors s (fits_fewer inputs v o.nodes r.nodes k h) in
          let q = all_give es scope from o.nodes d agrees (All-tail (HasValue functions scope env) e.0 (map expr_in es) each)
          (scope_wider nodes o.nodes from g s) h in
          record {
            shaped = All-cons (SomeShape r.nodes) o.value r.value (some_wider o.nodes r.nodes o.value k p.shaped) q.shaped;
            is = ap (λ w. w ∷ map (worth v) r.value) p.is ∙ ap (λ ws. V e.0 env ∷ ws) q.is;
          }

      values_are : (es : List Expr) (env : meaning.Scope) → map (λ (a : meaning.Scope → Value). a env) (map V es) ≡ values_in functions es env
      values_are [] env = refl
      values_are (e ∷ es) env = ap (λ vs. V e env ∷ vs) (values_are es env)

      constant_means : (n w : Numeral) → Means (node_made kinds terms (Expr-F.Constant n w)) (node_typing (Expr-F.Constant n w))
          (meaning.node_value functions (Expr-F.Constant n w))
      constant_means n w = record {
        gives = λ scope from nodes d agrees e s h.
            let c = constant_typed n w scope (closed (tree.Constant n w) (node_typing (Expr-F.Constant n w)) scope (typed_constant n w) e) in
            number_gives inputs v kinds w.value n.value nodes (record { least = c.least; most = c.most; fits = c.below }) h;
      }

      apply_means : (f : tree_name.Name) (es : List Shown) → Means (node_made kinds terms (Expr-F.Apply f (map S (map expr_in es))))
          (node_typing (Expr-F.Apply f (map typing (map expr_in es)))) (meaning.node_value functions (Expr-F.Apply f (map V (map expr_in es))))
      apply_means f es = record {
        gives = λ scope from nodes d agrees e s h.
            let env = scope_worth v from in
            let bare = map expr_in es in
            let a = apply_typed functions scope env f bare agrees
            (closed (tree.Apply f bare) (node_typing (Expr-F.Apply f (map typing bare))) scope (typed_apply f bare) e) in
            let o = all_made (map S bare) from nodes in
            let r = terms f.text o.value o.nodes in
            let xs = all_give es scope from nodes d agrees a.each s (fits_fewer inputs v o.nodes r.nodes (grow f.text o.value o.nodes) h) in
            let parts = a.parts in
            let found = subst (λ z. look_up f.text z ≡ Some parts.definition) d parts.found in
            subst (λ ws. IsWorth v (functions f.text ws) r.nodes r.value) (sym (values_are bare env))
            (mean.gives f.text parts.definition o.value (values_in functions bare env) o.nodes found parts.fit xs h);
      }

      binary_means : (first : Place) (a : Shown) (o : Op) (at : Place) (b : Shown) → Means (node_made kinds terms (Expr-F.Binary first (S a.0) o at (S b.0)))
          (node_typing (Expr-F.Binary first (typing a.0) o at (typing b.0))) (meaning.node_value functions (Expr-F.Binary first (V a.0) o at (V b.0)))
      binary_means first a o at b = record {
        gives = λ scope from nodes d agrees e s h.
            let env = scope_worth v from in
            let one = typing a.0 scope in
            let two = typing b.0 scope in
            let n = two_none one.type_errors two.type_errors (operator_rule o at one.part two.part).type_errors e in
            let t = binary_typed functions scope env first a.0 o at b.0 agrees
            (closed (tree.Binary first a.0 o at b.0) (node_typing (Expr-F.Binary first (typing a.0) o at (typing b.0))) scope
            (typed_binary first a.0 o at b.0) e) in
            let l = t.left in
            let u = t.right in
            let x = S a.0 from nodes in
            let y = S b.0 from x.nodes in
            let r = applied kinds o x.value y.value y.nodes in
            let gx = grows a.0 from nodes in
            let gy = grows b.0 from x.nodes in
            let hy = fits_fewer inputs v y.nodes r.nodes (applied_grows kinds o x.value y.value y.nodes) h in
            let hx = fits_fewer inputs v x.nodes y.nodes gy hy in
            let p = a.1.gives scope from nodes d agrees l.without_errors s hx in
            let q = b.1.gives scope from x.nodes d agrees u.without_errors (scope_wider nodes x.nodes from gx s) hy in
            applied_gives inputs v kinds o x.value y.value (V a.0 env) (V b.0 env) y.nodes (worth_wider x.nodes y.nodes (V a.0 env) x.value gy p) q
            (operator_without_errors o at one.part two.part (V a.0 env) (V b.0 env) l.has u.has n.2) h;
      }

      not_means : (first : Place) (a : Shown) → Means (node_made kinds terms (Expr-F.Not first (S a.0))) (node_typing (Expr-F.Not first (typing a.0)))
          (meaning.node_value functions (Expr-F.Not first (V a.0)))
      not_means first a = record {
        gives = λ scope from nodes d agrees e s h.
            let env = scope_worth v from in
            let t = not_typed functions scope env first a.0 agrees
            (closed (tree.Not first a.0) (node_typing (Expr-F.Not first (typing a.0))) scope (typed_not first a.0) e) in
            let l = t.operand in
            let x = S a.0 from nodes in
            let r = small_made kinds (node.Not (id_in x.value)) x.nodes in
            let hx = fits_fewer inputs v x.nodes r.nodes (small_grows kinds (node.Not (id_in x.value)) x.nodes) h in
            not_gives inputs v kinds x.value (V a.0 env) x.nodes (a.1.gives scope from nodes d agrees l.without_errors s hx) t.word h;
      }

      at_means : (a : Shown) (bracket : Place) (i : Shown) → Means (node_made kinds terms (Expr-F.At (S a.0) bracket (S i.0)))
          (node_typing (Expr-F.At (typing a.0) bracket (typing i.0))) (meaning.node_value functions (Expr-F.At (V a.0) bracket (V i.0)))
      at_means a bracket i = record {
        gives = λ scope from nodes d agrees e s h.
            let env = scope_worth v from in
            let t = at_typed functions scope env a.0 bracket i.0 agrees
            (closed (tree.At a.0 bracket i.0) (node_typing (Expr-F.At (typing a.0) bracket (typing i.0))) scope (typed_at a.0 bracket i.0) e) in
            let l = t.whole in
            let u = t.index in
            let parts = t.parts in
            let x = S a.0 from nodes in
            let y = S i.0 from x.nodes in
            let r = part_made kinds x.value (id_in y.value) y.nodes in
            let gx = grows a.0 from nodes in
            let gy = grows i.0 from x.nodes in
            let hy = fits_fewer inputs v y.nodes r.nodes (part_grows kinds x.value (id_in y.value) y.nodes) h in
            let hx = fits_fewer inputs v x.nodes y.nodes gy hy in
            let p = a.1.gives scope from nodes d agrees l.without_errors s hx in
            let q = i.1.gives scope from x.nodes d agrees u.without_errors (scope_wider nodes x.nodes from gx s) hy in
            part_gives inputs v kinds x.value y.value (V a.0 env) (V i.0 env) y.nodes hy (worth_wider x.nodes y.nodes (V a.0 env) x.value gy p) q
            parts.parted parts.place h;
      }

      pick_means : (first : Place) (c a b : Shown) → Means (node_made kinds terms (Expr-F.Pick first (S c.0) (S a.0) (S b.0)))
          (node_typing (Expr-F.Pick first (typing c.0) (typing a.0) (typing b.0))) (meaning.node_value functions (Expr-F.Pick first (V c.0) (V a.0) (V b.0)))
      pick_means first c a b = record {
        gives = λ scope from nodes d agrees e s h.
            let env = scope_worth v from in
            let t = pick_typed functions scope env first c.0 a.0 b.0 agrees
            (closed (tree.Pick first c.0 a.0 b.0) (node_typing (Expr-F.Pick first (typing c.0) (typing a.0) (typing b.0))) scope
            (typed_pick first c.0 a.0 b.0) e) in
            let k = t.test in
            let l = t.first in
            let u = t.second in
            let z = S c.0 from nodes in
            let x = S a.0 from z.nodes in
            let y = S b.0 from x.nodes in
            let r = merged kinds (id_in z.value) x.value y.value y.nodes in
            let gz = grows c.0 from nodes in
            let gx = grows a.0 from z.nodes in
            let gy = grows b.0 from x.nodes in
            let hy = fits_fewer inputs v y.nodes r.nodes (merged_grows kinds (id_in z.value) x.value y.value y.nodes) h in
            let hx = fits_fewer inputs v x.nodes y.nodes gy hy in
            let hz = fits_fewer inputs v z.nodes x.nodes gx hx in
            let sz = scope_wider nodes z.nodes from gz s in
            let sx = scope_wider z.nodes x.nodes from gx sz in
            let o = c.1.gives scope from nodes d agrees k.without_errors s hz in
            let p = a.1.gives scope from z.nodes d agrees l.without_errors sz hx in
            let q = b.1.gives scope from x.nodes d agrees u.without_errors sx hy in
            pick_gives inputs v kinds z.value x.value y.value (V c.0 env) (V a.0 env) (V b.0 env) y.nodes hy
            (worth_wider x.nodes y.nodes (V c.0 env) z.value gy (worth_wider z.nodes x.nodes (V c.0 env) z.value gx o))
            (worth_wider x.nodes y.nodes (V a.0 env) x.value gy p) q t.parts h;
      }

      resize_means : (first : Place) (a : Shown) (w : Numeral) → Means (node_made kinds terms (Expr-F.Resize first (S a.0) w))
          (node_typing (Expr-F.Resize first (typing a.0) w)) (meaning.node_value functions (Expr-F.Resize first (V a.0) w))
      resize_means first a w = record {
        gives = λ scope from nodes d agrees e s h.
            let env = scope_worth v from in
            let t = resize_typed functions scope env first a.0 w agrees
            (closed (tree.Resize first a.0 w) (node_typing (Expr-F.Resize first (typing a.0) w)) scope (typed_resize first a.0 w) e) in
            let l = t.operand in
            let parts = t.parts in
            let x = S a.0 from nodes in
            let r = small_made kinds (node.Resize (id_in x.value) w.value) x.nodes in
            let hx = fits_fewer inputs v x.nodes r.nodes (small_grows kinds (node.Resize (id_in x.value) w.value) x.nodes) h in
            resized_gives inputs v kinds x.value (V a.0 env) w.value x.nodes
            (a.1.gives scope from nodes d agrees l.without_errors s hx) parts.word parts.width h;
      }

      fill_means : (first : Place) (m : Numeral) (a : Shown) → Means (node_made kinds terms (Expr-F.Fill first m (S a.0)))
          (node_typing (Expr-F.Fill first m (typing a.0))) (meaning.node_value functions (Expr-F.Fill first m (V a.0)))
      fill_means first m a = record {
        gives = λ scope from nodes d agrees e s h.
            let env = scope_worth v from in
            let t = fill_typed functions scope env first m a.0 agrees
            (closed (tree.Fill first m a.0) (node_typing (Expr-F.Fill first m (typing a.0))) scope (typed_fill first m a.0) e) in
            let l = t.operand in
            let parts = t.parts in
            let x = S a.0 from nodes in
            fill_gives inputs v kinds m.value x.value (V a.0 env) x.nodes h (a.1.gives scope from nodes d agrees l.without_errors s h) parts.word parts.count;
      }

      row_means : (first : Place) (es : List Shown) → Means (node_made kinds terms (Expr-F.Row first (map S (map expr_in es))))
          (node_typing (Expr-F.Row first (map typing (map expr_in es)))) (meaning.node_value functions (Expr-F.Row first (map V (map expr_in es))))
      row_means first es = record {
        gives = λ scope from nodes d agrees e s h.
            let env = scope_worth v from in
            let bare = map expr_in es in
            let t = row_typed functions scope env first bare agrees
            (closed (tree.Row first bare) (node_typing (Expr-F.Row first (map typing bare))) scope (typed_row first bare) e) in
            let o = all_made (map S bare) from nodes in
            let xs = all_give es scope from nodes d agrees t.each s h in
            subst (λ ws. IsWorth v (value.Row (row_of ws)) o.nodes (Row (map id_in o.value))) (sym (values_are bare env))
            (row_gives inputs v kinds (values_in functions bare env) o.value o.nodes h xs t.parts);
      }

      -- the test of a quantifier at a number
      number_means : (x : tree_name.Name) (w : Numeral) (e : Shown) (scope : Scope) (from : SymScope) (i : ℕ) (nodes : List Node) → scope.defs ≡ defs →
          IsWord (word w.value i) → WithoutErrors e.0 (with_number x w scope) →
          Agrees functions (with_number x w scope) (meaning.with_number (scope_worth v from) x.text w.value i) → ScopeShaped nodes from →
          Gives inputs v (at_number kinds (S e.0) from x.text w.value i) nodes (IsWorth v (V e.0 (meaning.with_number (scope_worth v from) x.text w.value i)))
      number_means x w e scope from i nodes d c n agrees s h =
          let k = number_made kinds w.value i nodes in
          let grown = with_name kinds from x.text k.value in
          let z = S e.0 grown k.nodes in
          let gk = word_grows kinds (node.Const (word w.value i)) nodes in
          let hk = fits_fewer inputs v k.nodes z.nodes (grows e.0 grown k.nodes) h in
          let p = number_gives inputs v kinds w.value i nodes c hk in
          let wide = scope_wider nodes k.nodes from gk s in
          let shaped : ScopeShaped k.nodes grown = record {
            own = All-append (λ (b : Name × SymValue). SomeShape k.nodes b.1) from.own ((x.text, k.value) ∷ []) wide.own
                (All-cons (λ (b : Name × SymValue). SomeShape k.nodes b.1) (x.text, k.value) [] p.shaped
                (All-nil (λ (b : Name × SymValue). SomeShape k.nodes b.1)));
            low = wide.low;
          } in
          let same : scope_worth v grown ≡ meaning.with_number (scope_worth v from) x.text w.value i =
          ap (λ own. record { own = own; low = worths v from.low })
          (map-append (λ (b : Name × SymValue). (b.0, worth v b.1)) from.own ((x.text, k.value) ∷ [])
          ∙ ap (λ y. worths v from.own ++ (x.text, y) ∷ []) p.is) in
          let defs_are = same_defs x.text (word_shape w.value) false scope ∙ d in
          let r = e.1.gives (with_number x w scope) grown k.nodes defs_are (subst (Agrees functions (with_number x w scope)) (sym same) agrees) n shaped h in
          subst (λ y. IsWorth v (V e.0 y) z.nodes z.value) same r

      quantified_means : (first : Place) (which : Quantifier) (x : tree_name.Name) (w n : Numeral) (e : Shown) →
          Means (node_made kinds terms (Expr-F.Quantified first which x w n (S e.0))) (node_typing (Expr-F.Quantified first which x w n (typing e.0)))
          (meaning.node_value functions (Expr-F.Quantified first which x w n (V e.0)))
      quantified_means first which x w n e = record {
        gives = λ scope from nodes d agrees n_e s h.
            let env = scope_worth v from in
            let t = quantified_typed functions scope env first which x w n e.0 agrees
            (closed (tree.Quantified first which x w n e.0) (node_typing (Expr-F.Quantified first which x w n (typing e.0))) scope
            (typed_quantified first which x w n e.0) n_e) in
            cases which scope from nodes (λ i. V e.0 (meaning.with_number env x.text w.value i))
            (λ i old l q. number_means x w e scope from i old d (number_is t.number l) t.without_errors (t.agrees i (below t.number l)) q)
            (λ i l. t.single i (below t.number l)) s h;
      }
        where
          below : {b : Bool} {i : ℕ} → NumberParts b w n → i < n.value → i < 2 ^ w.value
          below q l = let k = q.bound in omega (arith, k, l)

          number_is : {b : Bool} {i : ℕ} → NumberParts b w n → i < n.value → IsWord (word w.value i)
          number_is q l = let k = q.width in record { least = k.0; most = k.1; fits = below q l }

          cases : (which : Quantifier) (scope : Scope) (from : SymScope) (nodes : List Node) (t : ℕ → Value) →
              ((i : ℕ) (old : List Node) → i < n.value → ScopeShaped old from →
              Gives inputs v (at_number kinds (S e.0) from x.text w.value i) old (IsWorth v (t i))) →
              ((i : ℕ) → i < n.value → shape_of (t i) ≡ shape.Word 1) → ScopeShaped nodes from →
              Gives inputs v (quantified_made kinds which n.value (at_number kinds (S e.0) from x.text w.value)) nodes
              (IsWorth v (digit (quantified which n.value (λ i. is_one (t i)))))
          cases quantifier.All scope from nodes t each single s h =
              let test = at_number kinds (S e.0) from x.text w.value in
              let o = joined kinds op.And 1 n.value test nodes in
              let all : n.value ≤ n.value = omega arith in
              let m = joined_gives inputs v kinds op.And (λ a b. a && b) true and_digits (λ old a b. can_and old a b 1)
              (λ k. all_below k (λ i. is_one (t i))) t refl
              (λ i. refl) n.value test from (λ i. at_number_grows kinds (S e.0) from x.text w.value i (grows e.0)) each single n.value nodes all s h in
              word_worth inputs v o.nodes 1 (word 1 (bit_of (all_below n.value (λ i. is_one (t i))))) o.value h m
          cases quantifier.Any scope from nodes t each single s h =
              let test = at_number kinds (S e.0) from x.text w.value in
              let o = joined kinds op.Or 0 n.value test nodes in
              let all : n.value ≤ n.value = omega arith in
              let m = joined_gives inputs v kinds op.Or (λ a b. a || b) false or_digits can_or (λ k. any_below k (λ i. is_one (t i))) t refl
              (λ i. refl) n.value test from (λ i. at_number_grows kinds (S e.0) from x.text w.value i (grows e.0)) each single n.value nodes all s h in
              word_worth inputs v o.nodes 1 (word 1 (bit_of (any_below n.value (λ i. is_one (t i))))) o.value h m

      node_means : (y : Expr-F Shown) → Means (node_made kinds terms (map-Expr Expr Making S (map-Expr Shown Expr expr_in y)))
          (node_typing (map-Expr Expr Judge typing (map-Expr Shown Expr expr_in y)))
          (meaning.node_value functions (map-Expr Expr (meaning.Scope → Value) V (map-Expr Shown Expr expr_in y)))
      node_means (Expr-F.Constant n w) = constant_means n w
      node_means (Expr-F.Low at x) = record {
        gives = λ scope from nodes d agrees e s h.
            held_is nodes x.text (low_rule x (low_in x.text scope)).shape from.low (low_typed functions scope (scope_worth v from) at x agrees
            (closed (tree.Low at x) (node_typing (Expr-F.Low at x)) scope (typed_low at x) e)) s.low;
      }
      node_means (Expr-F.Variable x) = record {
        gives = λ scope from nodes d agrees e s h.
            held_is nodes x.text (name_rule x (name_in x.text scope)).shape from.own (variable_typed functions scope (scope_worth v from) x agrees
            (closed (tree.Variable x) (node_typing (Expr-F.Variable x)) scope (typed_variable x) e)) s.own;
      }
      node_means (Expr-F.Apply f es) = apply_means f es
      node_means (Expr-F.Binary first a o at b) = binary_means first a o at b
      node_means (Expr-F.Not first a) = not_means first a
      node_means (Expr-F.At a bracket i) = at_means a bracket i
      node_means (Expr-F.Pick first c a b) = pick_means first c a b
      node_means (Expr-F.Resize first a w) = resize_means first a w
      node_means (Expr-F.Fill first m a) = fill_means first m a
      node_means (Expr-F.Row first es) = row_means first es
      node_means (Expr-F.Quantified first which x w n e) = quantified_means first which x w n e

      pub value_means : (e : Expr) → Means (S e) (typing e) (V e)
      value_means = ind-Expr (λ e. Means (S e) (typing e) (V e))
          (λ x y is.
          subst (λ m. Means m (typing (roll-Expr x)) (V (roll-Expr x))) (sym (fold-roll-Expr Making (node_made kinds terms) x))
          (subst (λ t. Means (node_made kinds terms (map-Expr Expr Making S x)) t (V (roll-Expr x))) (sym (fold-roll-Expr Judge node_typing x))
          (subst (λ w. Means (node_made kinds terms (map-Expr Expr Making S x)) (node_typing (map-Expr Expr Judge typing x)) w)
          (sym (fold-roll-Expr (meaning.Scope → Value) (meaning.node_value functions) x))
          (subst (λ z. Means (node_made kinds terms (map-Expr Expr Making S z)) (node_typing (map-Expr Expr Judge typing z))
          (meaning.node_value functions (map-Expr Expr (meaning.Scope → Value) V z))) is (node_means y)))))
