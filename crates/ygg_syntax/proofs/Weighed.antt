-- An expression weighs one more than its parts.
use Rattle.std.proofs.Common.{◌≡◌, ℕ, zero, suc, refl, ◌+◌, ◌*◌, ◌<◌, ◌≤◌, List, take, get_or, sym, ap, ◌∙◌, arith}
use Rattle.std.proofs.lemmas.Option.{slice_get-get_or}
use denote.Ref.{Bor}
use Rattle.ygg_value.specs.declared.Op.{Op}
use Rattle.ygg_syntax.specs.declared.tree.Place.{Place}
use Rattle.ygg_syntax.specs.declared.tree.Name.{Name}
use Rattle.ygg_syntax.specs.declared.tree.Numeral.{Numeral}
use Rattle.ygg_syntax.specs.declared.tree.Quantifier.{Quantifier}
use Rattle.ygg_syntax.specs.declared.tree.Def.{Def}
use Rattle.ygg_syntax.specs.declared.weights.WeightSource.{WeightSource}
use Rattle.ygg_syntax.specs.declared.weights.WeightSource.TheVariants as source
use Rattle.ygg_syntax.specs.Definitions.{WeighsAsAt}
use Rattle.ygg_syntax.specs.WeightSources.{known_weights}
use Rattle.ygg_syntax.specs.declared.tree.Expr.{Expr, roll-Expr, map-Expr}
use Rattle.ygg_syntax.specs.declared.tree.Expr.TheVariants as expr
use Rattle.ygg_syntax.specs.declared.tree.Expr.TheOpen.{Expr-F}
use Rattle.ygg_syntax.specs.declared.tree.Expr.TheFolds.{fold-roll-Expr}
use Rattle.ygg_syntax.specs.Weights.{Weights, weights_of, weight_at, node_weight, expr_weight, exprs_weight}

module _ (ws : Weights) {e : Expr} where
  weighed : {built : Expr} (x : Expr-F Expr) → e ≡ built → roll-Expr x ≡ built → expr_weight ws e ≡ node_weight ws (map-Expr Expr ℕ (expr_weight ws) x)
  weighed x is rolls = ap (expr_weight ws) (is ∙ sym rolls) ∙ fold-roll-Expr ℕ (node_weight ws) x

  pub weighed_constant : (v w : Numeral) → e ≡ expr.Constant v w → expr_weight ws e ≡ 1
  weighed_constant v w is = weighed (Expr-F.Constant v w) is (expr.rolls-Constant v w)

  pub weighed_low : (at : Place) (x : Name) → e ≡ expr.Low at x → expr_weight ws e ≡ 1
  weighed_low at x is = weighed (Expr-F.Low at x) is (expr.rolls-Low at x)

  pub weighed_variable : (x : Name) → e ≡ expr.Variable x → expr_weight ws e ≡ 1
  weighed_variable x is = weighed (Expr-F.Variable x) is (expr.rolls-Variable x)

  pub weighed_apply : (f : Name) (es : List Expr) {xs : List Expr} {name : List ℕ} → e ≡ expr.Apply f es → xs ≡ es → name ≡ f.text →
      expr_weight ws e ≡ 1 + exprs_weight ws xs + weight_at ws name
  weighed_apply f es {xs} {name} is list named =
      weighed (Expr-F.Apply f es) is (expr.rolls-Apply f es)
      ∙ ap (λ (ys : List Expr). 1 + exprs_weight ws ys + weight_at ws f.text) (sym list)
      ∙ ap (λ (n : List ℕ). 1 + exprs_weight ws xs + weight_at ws n) (sym named)

  pub weighed_binary : (first : Place) (a : Expr) (op : Op) (at : Place) (b : Expr) {x y : Expr} → e ≡ expr.Binary first a op at b → x ≡ a → y ≡ b →
      expr_weight ws e ≡ 1 + expr_weight ws x + expr_weight ws y
  weighed_binary first a op at b {x} {y} is left right =
      weighed (Expr-F.Binary first a op at b) is (expr.rolls-Binary first a op at b)
      ∙ ap (λ (z : Expr). 1 + expr_weight ws z + expr_weight ws b) (sym left)
      ∙ ap (λ (z : Expr). 1 + expr_weight ws x + expr_weight ws z) (sym right)

  pub weighed_not : (first : Place) (a : Expr) {x : Expr} → e ≡ expr.Not first a → x ≡ a → expr_weight ws e ≡ 1 + expr_weight ws x
  weighed_not first a is part =
      weighed (Expr-F.Not first a) is (expr.rolls-Not first a) ∙ ap (λ (z : Expr). 1 + expr_weight ws z) (sym part)

  pub weighed_at : (a : Expr) (bracket : Place) (b : Expr) {x y : Expr} → e ≡ expr.At a bracket b → x ≡ a → y ≡ b →
      expr_weight ws e ≡ 1 + expr_weight ws x + expr_weight ws y
  weighed_at a bracket b {x} {y} is left right =
      weighed (Expr-F.At a bracket b) is (expr.rolls-At a bracket b)
      ∙ ap (λ (z : Expr). 1 + expr_weight ws z + expr_weight ws b) (sym left)
      ∙ ap (λ (z : Expr). 1 + expr_weight ws x + expr_weight ws z) (sym right)

  pub weighed_pick : (first : Place) (a b c : Expr) {x y z : Expr} → e ≡ expr.Pick first a b c → x ≡ a → y ≡ b → z ≡ c →
      expr_weight ws e ≡ 1 + expr_weight ws x + expr_weight ws y + expr_weight ws z
  weighed_pick first a b c {x} {y} {z} is test one other =
      weighed (Expr-F.Pick first a b c) is (expr.rolls-Pick first a b c)
      ∙ ap (λ (d : Expr). 1 + expr_weight ws d + expr_weight ws b + expr_weight ws c) (sym test)
      ∙ ap (λ (d : Expr). 1 + expr_weight ws x + expr_weight ws d + expr_weight ws c) (sym one)
      ∙ ap (λ (d : Expr). 1 + expr_weight ws x + expr_weight ws y + expr_weight ws d) (sym other)

  pub weighed_resize : (first : Place) (a : Expr) (w : Numeral) {x : Expr} → e ≡ expr.Resize first a w → x ≡ a → expr_weight ws e ≡ 1 + expr_weight ws x
  weighed_resize first a w is part =
      weighed (Expr-F.Resize first a w) is (expr.rolls-Resize first a w) ∙ ap (λ (z : Expr). 1 + expr_weight ws z) (sym part)

  pub weighed_fill : (first : Place) (m : Numeral) (a : Expr) {x : Expr} → e ≡ expr.Fill first m a → x ≡ a → expr_weight ws e ≡ 1 + expr_weight ws x
  weighed_fill first m a is part =
      weighed (Expr-F.Fill first m a) is (expr.rolls-Fill first m a) ∙ ap (λ (z : Expr). 1 + expr_weight ws z) (sym part)

  pub weighed_row : (first : Place) (es : List Expr) {xs : List Expr} → e ≡ expr.Row first es → xs ≡ es → expr_weight ws e ≡ 1 + exprs_weight ws xs
  weighed_row first es is list =
      weighed (Expr-F.Row first es) is (expr.rolls-Row first es) ∙ ap (λ (ys : List Expr). 1 + exprs_weight ws ys) (sym list)

  pub weighed_quantified : (first : Place) (which : Quantifier) (x : Name) (w n : Numeral) (a : Expr) {y : Expr} →
      e ≡ expr.Quantified first which x w n a → y ≡ a → expr_weight ws e ≡ 1 + n.value * (1 + expr_weight ws y)
  weighed_quantified first which x w n a is part =
      weighed (Expr-F.Quantified first which x w n a) is (expr.rolls-Quantified first which x w n a)
      ∙ ap (λ (z : Expr). 1 + n.value * (1 + expr_weight ws z)) (sym part)

module _ {t w : ℕ} (at : 2 * w ≡ t) where
  -- the measure falls to a part
  pub falls_by : (a : ℕ) → w ≡ 1 + a → 2 * a < t
  falls_by a is = omega (arith, at, is)

  pub falls_first : (a b : ℕ) → w ≡ 1 + a + b → 2 * a < t
  falls_first a b is = omega (arith, at, is)

  pub falls_second : (a b : ℕ) → w ≡ 1 + a + b → 2 * b < t
  falls_second a b is = omega (arith, at, is)

  pub falls_test : (a b c : ℕ) → w ≡ 1 + a + b + c → 2 * a < t
  falls_test a b c is = omega (arith, at, is)

  pub falls_yes : (a b c : ℕ) → w ≡ 1 + a + b + c → 2 * b < t
  falls_yes a b c is = omega (arith, at, is)

  pub falls_no : (a b c : ℕ) → w ≡ 1 + a + b + c → 2 * c < t
  falls_no a b c is = omega (arith, at, is)

  -- to a list of parts, or to a definition's name
  pub falls_row : (a : ℕ) → w ≡ 1 + a → 2 * a + 1 < t
  falls_row a is = omega (arith, at, is)

  pub falls_arguments : (a b : ℕ) → w ≡ 1 + a + b → 2 * a + 1 < t
  falls_arguments a b is = omega (arith, at, is)

  pub falls_name : (a b : ℕ) → w ≡ 1 + a + b → 2 * b + 1 < t
  falls_name a b is = omega (arith, at, is)

  -- to what is counted as often as this number says
  pub falls_often : (n a : ℕ) → (n ≡ 0 → ⊥) → w ≡ 1 + n * (1 + a) → 2 * a < t
  falls_often zero a some is = absurd (some refl)
  falls_often (suc n) a some is = let less : 1 + a ≤ suc n * (1 + a) = omega arith in omega (arith, at, is, less)

-- to an item of a list
pub falls_item : {t : ℕ} (w a : ℕ) → 2 * w + 1 ≡ t → a ≤ w → 2 * a < t
falls_item w a at part = omega (arith, at, part)

-- from a definition's name to its expression
pub falls_body : {t : ℕ} (w a : ℕ) → 2 * w + 1 ≡ t → w ≡ a → 2 * a < t
falls_body w a at is = omega (arith, at, is)

-- a definition's name weighs what its expression does
pub named : {known : WeightSource} {name : List ℕ} (defs : Bor (List Def)) (place : ℕ) (d : Def) → known ≡ source.Defs defs → WeighsAsAt defs.now name place →
    weight_at (known_weights known) name ≡ expr_weight (weights_of (take place defs.now)) (get_or defs.now place d).body
named {known} {name} defs place d is weighs =
    ap (λ (k : WeightSource). weight_at (known_weights k) name) is ∙ weighs.means (get_or defs.now place d) (slice_get-get_or defs.now place d weighs.within)

-- a name that has no definition weighs nothing
pub unnamed : {known : WeightSource} (name : List ℕ) (defs : Bor (List Def)) → known ≡ source.Defs defs → weight_at (weights_of defs.now) name ≡ 0 →
    weight_at (known_weights known) name ≡ 0
unnamed name defs is none = ap (λ (k : WeightSource). weight_at (known_weights k) name) is ∙ none
