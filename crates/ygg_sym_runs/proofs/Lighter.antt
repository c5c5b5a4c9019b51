-- Operands weigh less than the whole.
use Rattle.std.proofs.Common.{◌≡◌, ℕ, ◌+◌, ◌≤◌, ◌<◌, List, ◌∷◌, length, map, drop, get_or, sym, ap, ◌∙◌, arith}
use Rattle.std.specs.Prelude.{sum}
use Rattle.std.proofs.lemmas.Grind.{common_steps}
use Rattle.std.proofs.lemmas.List.{drop_more}
use Rattle.ygg_syntax.specs.declared.tree.Place.{Place}
use Rattle.ygg_syntax.specs.declared.tree.Numeral.{Numeral}
use Rattle.ygg_syntax.specs.declared.tree.Expr.{Expr}
use Rattle.ygg_syntax.specs.declared.tree.Expr.TheVariants as tree
use Rattle.ygg_syntax.specs.declared.tree.Expr.TheOpen.{Expr-F}
use Rattle.ygg_syntax.specs.declared.tree.Expr.TheFolds.{fold-roll-Expr}
use Rattle.ygg_value.specs.declared.operation.Op.{Op}
use Rattle.ygg_eval_expr.specs.ygg_syntax.Weights.{Weights, node_weight, expr_weight, exprs_weight}

sum_cons : (n : ℕ) (ns : List ℕ) → sum (n ∷ ns) ≡ n + sum ns
sum_cons n ns = grind (arith, common_steps)

module _ (ws : Weights) where
  abbrev weight : Expr → ℕ
  weight = expr_weight ws

  binary_weighs : (first : Place) (a : Expr) (o : Op) (at : Place) (b : Expr) → weight (tree.Binary first a o at b) ≡ 1 + weight a + weight b
  binary_weighs first a o at b =
      ap weight (sym (tree.rolls-Binary first a o at b)) ∙ fold-roll-Expr ℕ (node_weight ws) (Expr-F.Binary first a o at b)

  pub left_lighter : (e : Expr) (first : Place) (a : Expr) (o : Op) (at : Place) (b x : Expr) → e ≡ tree.Binary first a o at b → x ≡ a →
      weight x + 1 ≤ weight e
  left_lighter e first a o at b x is at_x =
      let whole = ap weight is ∙ binary_weighs first a o at b in
      let part = ap weight at_x in
      omega arith

  pub right_lighter : (e : Expr) (first : Place) (a : Expr) (o : Op) (at : Place) (b x : Expr) → e ≡ tree.Binary first a o at b → x ≡ b →
      weight x + 1 ≤ weight e
  right_lighter e first a o at b x is at_x =
      let whole = ap weight is ∙ binary_weighs first a o at b in
      let part = ap weight at_x in
      omega arith

  pub not_lighter : (e : Expr) (first : Place) (a x : Expr) → e ≡ tree.Not first a → x ≡ a → weight x + 1 ≤ weight e
  not_lighter e first a x is at_x =
      let whole = ap weight is ∙ ap weight (sym (tree.rolls-Not first a)) ∙ fold-roll-Expr ℕ (node_weight ws) (Expr-F.Not first a) in
      let part = ap weight at_x in
      omega arith

  pub whole_lighter : (e : Expr) (a : Expr) (bracket : Place) (i x : Expr) → e ≡ tree.At a bracket i → x ≡ a → weight x + 1 ≤ weight e
  whole_lighter e a bracket i x is at_x =
      let whole = ap weight is ∙ ap weight (sym (tree.rolls-At a bracket i)) ∙ fold-roll-Expr ℕ (node_weight ws) (Expr-F.At a bracket i) in
      let part = ap weight at_x in
      omega arith

  pub test_lighter : (e : Expr) (first : Place) (c a b x : Expr) → e ≡ tree.Pick first c a b → x ≡ c → weight x + 1 ≤ weight e
  test_lighter e first c a b x is at_x =
      let whole = ap weight is ∙ ap weight (sym (tree.rolls-Pick first c a b)) ∙ fold-roll-Expr ℕ (node_weight ws) (Expr-F.Pick first c a b) in
      let part = ap weight at_x in
      omega arith

  pub resized_lighter : (e : Expr) (first : Place) (a : Expr) (w : Numeral) (x : Expr) → e ≡ tree.Resize first a w → x ≡ a → weight x + 1 ≤ weight e
  resized_lighter e first a w x is at_x =
      let whole = ap weight is ∙ ap weight (sym (tree.rolls-Resize first a w)) ∙ fold-roll-Expr ℕ (node_weight ws) (Expr-F.Resize first a w) in
      let part = ap weight at_x in
      omega arith

  pub filled_lighter : (e : Expr) (first : Place) (m : Numeral) (a x : Expr) → e ≡ tree.Fill first m a → x ≡ a → weight x + 1 ≤ weight e
  filled_lighter e first m a x is at_x =
      let whole = ap weight is ∙ ap weight (sym (tree.rolls-Fill first m a)) ∙ fold-roll-Expr ℕ (node_weight ws) (Expr-F.Fill first m a) in
      let part = ap weight at_x in
      omega arith

  -- one of several is no heavier than it and those after it
  pub item_lighter : (es : List Expr) (i : ℕ) (x : Expr) → i < length es → x ≡ get_or es i x → weight x ≤ exprs_weight ws (drop i es)
  item_lighter es i x l is =
      let more = ap (exprs_weight ws) (drop_more es i x l) ∙ sum_cons (weight (get_or es i x)) (map weight (drop (i + 1) es)) in
      let same = ap weight is in
      omega arith
