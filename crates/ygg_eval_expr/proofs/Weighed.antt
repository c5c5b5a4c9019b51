-- Parts weigh less than the whole.
use Rattle.std.proofs.Common.{◌≡◌, ℕ, ◌+◌, ◌*◌, ◌<◌, ◌≤◌, List, [], ◌∷◌, length, map, drop, get_or, sym, ap, ◌∙◌, arith}
use Rattle.std.specs.Prelude.{sum}
use Rattle.std.proofs.lemmas.List.{drop_more}
use Rattle.std.proofs.lemmas.Grind.{common_steps}
use Rattle.ygg_syntax.specs.declared.tree.Place.{Place}
use Rattle.ygg_syntax.specs.declared.tree.Name.{Name}
use Rattle.ygg_syntax.specs.declared.tree.Numeral.{Numeral}
use Rattle.ygg_syntax.specs.declared.tree.Quantifier.{Quantifier}
use Rattle.ygg_syntax.specs.declared.tree.Expr.{Expr}
use Rattle.ygg_syntax.specs.declared.tree.Expr.TheVariants as tree
use Rattle.ygg_syntax.specs.declared.tree.Expr.TheOpen.{Expr-F}
use Rattle.ygg_syntax.specs.declared.tree.Expr.TheFolds.{fold-roll-Expr}
use Rattle.ygg_value.specs.declared.operation.Op.{Op}
use Rattle.ygg_meaning_laws.specs.ygg_syntax.Weights.{Weights, weights_of, weight_at, node_weight, expr_weight, exprs_weight}
use Rattle.ygg_eval_expr.specs.Known.{Known}
use Rattle.ygg_eval_expr.proofs.Knowing.{one_pass}

-- the weights of what is seen
abbrev pub weighing : Known → Weights
weighing k = weights_of k.defs

weighed_apply : (ws : Weights) (f : Name) (es : List Expr) → expr_weight ws (tree.Apply f es) ≡ 1 + exprs_weight ws es + weight_at ws f.text
weighed_apply ws f es = ap (expr_weight ws) (sym (tree.rolls-Apply f es)) ∙ fold-roll-Expr ℕ (node_weight ws) (Expr-F.Apply f es)

weighed_binary : (ws : Weights) (first : Place) (a : Expr) (op : Op) (at : Place) (b : Expr) →
    expr_weight ws (tree.Binary first a op at b) ≡ 1 + expr_weight ws a + expr_weight ws b
weighed_binary ws first a op at b =
    ap (expr_weight ws) (sym (tree.rolls-Binary first a op at b)) ∙ fold-roll-Expr ℕ (node_weight ws) (Expr-F.Binary first a op at b)

weighed_not : (ws : Weights) (first : Place) (a : Expr) → expr_weight ws (tree.Not first a) ≡ 1 + expr_weight ws a
weighed_not ws first a = ap (expr_weight ws) (sym (tree.rolls-Not first a)) ∙ fold-roll-Expr ℕ (node_weight ws) (Expr-F.Not first a)

weighed_at : (ws : Weights) (a : Expr) (bracket : Place) (i : Expr) → expr_weight ws (tree.At a bracket i) ≡ 1 + expr_weight ws a + expr_weight ws i
weighed_at ws a bracket i = ap (expr_weight ws) (sym (tree.rolls-At a bracket i)) ∙ fold-roll-Expr ℕ (node_weight ws) (Expr-F.At a bracket i)

weighed_pick : (ws : Weights) (first : Place) (c a b : Expr) →
    expr_weight ws (tree.Pick first c a b) ≡ 1 + expr_weight ws c + expr_weight ws a + expr_weight ws b
weighed_pick ws first c a b = ap (expr_weight ws) (sym (tree.rolls-Pick first c a b)) ∙ fold-roll-Expr ℕ (node_weight ws) (Expr-F.Pick first c a b)

weighed_resize : (ws : Weights) (first : Place) (a : Expr) (w : Numeral) → expr_weight ws (tree.Resize first a w) ≡ 1 + expr_weight ws a
weighed_resize ws first a w = ap (expr_weight ws) (sym (tree.rolls-Resize first a w)) ∙ fold-roll-Expr ℕ (node_weight ws) (Expr-F.Resize first a w)

weighed_fill : (ws : Weights) (first : Place) (m : Numeral) (a : Expr) → expr_weight ws (tree.Fill first m a) ≡ 1 + expr_weight ws a
weighed_fill ws first m a = ap (expr_weight ws) (sym (tree.rolls-Fill first m a)) ∙ fold-roll-Expr ℕ (node_weight ws) (Expr-F.Fill first m a)

weighed_row : (ws : Weights) (first : Place) (es : List Expr) → expr_weight ws (tree.Row first es) ≡ 1 + exprs_weight ws es
weighed_row ws first es = ap (expr_weight ws) (sym (tree.rolls-Row first es)) ∙ fold-roll-Expr ℕ (node_weight ws) (Expr-F.Row first es)

weighed_quantified : (ws : Weights) (first : Place) (which : Quantifier) (x : Name) (w n : Numeral) (e : Expr) →
    expr_weight ws (tree.Quantified first which x w n e) ≡ 1 + n.value * (1 + expr_weight ws e)
weighed_quantified ws first which x w n e =
    ap (expr_weight ws) (sym (tree.rolls-Quantified first which x w n e)) ∙ fold-roll-Expr ℕ (node_weight ws) (Expr-F.Quantified first which x w n e)

-- the whole and the part under other names
pub arguments_lighter : (k : Known) (e : Expr) (f : Name) (es xs : List Expr) → e ≡ tree.Apply f es → xs ≡ es →
    exprs_weight (weighing k) xs + 1 ≤ expr_weight (weighing k) e
arguments_lighter k e f es xs is at =
    let whole = ap (expr_weight (weighing k)) is ∙ weighed_apply (weighing k) f es in
    let part = ap (exprs_weight (weighing k)) at in
    omega arith

pub call_lighter : (k : Known) (e : Expr) (f : Name) (es : List Expr) (name : List ℕ) → e ≡ tree.Apply f es → name ≡ f.text →
    weight_at (weighing k) name + 1 ≤ expr_weight (weighing k) e
call_lighter k e f es name is named =
    let whole = ap (expr_weight (weighing k)) is ∙ weighed_apply (weighing k) f es in
    let part = ap (weight_at (weighing k)) named in
    omega arith

pub left_lighter : (k : Known) (e : Expr) (first : Place) (a : Expr) (op : Op) (sign : Place) (b : Expr) (x : Expr) → e ≡ tree.Binary first a op sign b →
    x ≡ a → expr_weight (weighing k) x + 1 ≤ expr_weight (weighing k) e
left_lighter k e first a op sign b x is at =
    let whole = ap (expr_weight (weighing k)) is ∙ weighed_binary (weighing k) first a op sign b in
    let part = ap (expr_weight (weighing k)) at in
    omega arith

pub right_lighter : (k : Known) (e : Expr) (first : Place) (a : Expr) (op : Op) (sign : Place) (b : Expr) (x : Expr) → e ≡ tree.Binary first a op sign b →
    x ≡ b → expr_weight (weighing k) x + 1 ≤ expr_weight (weighing k) e
right_lighter k e first a op sign b x is at =
    let whole = ap (expr_weight (weighing k)) is ∙ weighed_binary (weighing k) first a op sign b in
    let part = ap (expr_weight (weighing k)) at in
    omega arith

pub denied_lighter : (k : Known) (e : Expr) (first : Place) (a : Expr) (x : Expr) → e ≡ tree.Not first a → x ≡ a →
    expr_weight (weighing k) x + 1 ≤ expr_weight (weighing k) e
denied_lighter k e first a x is at =
    let whole = ap (expr_weight (weighing k)) is ∙ weighed_not (weighing k) first a in
    let part = ap (expr_weight (weighing k)) at in
    omega arith

pub whole_lighter : (k : Known) (e : Expr) (a : Expr) (bracket : Place) (i : Expr) (x : Expr) → e ≡ tree.At a bracket i → x ≡ a →
    expr_weight (weighing k) x + 1 ≤ expr_weight (weighing k) e
whole_lighter k e a bracket i x is at =
    let whole = ap (expr_weight (weighing k)) is ∙ weighed_at (weighing k) a bracket i in
    let part = ap (expr_weight (weighing k)) at in
    omega arith

pub index_lighter : (k : Known) (e a : Expr) (bracket : Place) (i j : Expr) → e ≡ tree.At a bracket i → j ≡ i →
    expr_weight (weighing k) j + 1 ≤ expr_weight (weighing k) e
index_lighter k e a bracket i j is at =
    let whole = ap (expr_weight (weighing k)) is ∙ weighed_at (weighing k) a bracket i in
    let part = ap (expr_weight (weighing k)) at in
    omega arith

pub test_lighter : (k : Known) (e : Expr) (first : Place) (c a b : Expr) (x : Expr) → e ≡ tree.Pick first c a b → x ≡ c →
    expr_weight (weighing k) x + 1 ≤ expr_weight (weighing k) e
test_lighter k e first c a b x is at =
    let whole = ap (expr_weight (weighing k)) is ∙ weighed_pick (weighing k) first c a b in
    let part = ap (expr_weight (weighing k)) at in
    omega arith

pub first_lighter : (k : Known) (e : Expr) (first : Place) (c a b x : Expr) → e ≡ tree.Pick first c a b → x ≡ a →
    expr_weight (weighing k) x + 1 ≤ expr_weight (weighing k) e
first_lighter k e first c a b x is at =
    let whole = ap (expr_weight (weighing k)) is ∙ weighed_pick (weighing k) first c a b in
    let part = ap (expr_weight (weighing k)) at in
    omega arith

pub second_lighter : (k : Known) (e : Expr) (first : Place) (c a b x : Expr) → e ≡ tree.Pick first c a b → x ≡ b →
    expr_weight (weighing k) x + 1 ≤ expr_weight (weighing k) e
second_lighter k e first c a b x is at =
    let whole = ap (expr_weight (weighing k)) is ∙ weighed_pick (weighing k) first c a b in
    let part = ap (expr_weight (weighing k)) at in
    omega arith

pub resized_lighter : (k : Known) (e : Expr) (first : Place) (a : Expr) (w : Numeral) (x : Expr) → e ≡ tree.Resize first a w → x ≡ a →
    expr_weight (weighing k) x + 1 ≤ expr_weight (weighing k) e
resized_lighter k e first a w x is at =
    let whole = ap (expr_weight (weighing k)) is ∙ weighed_resize (weighing k) first a w in
    let part = ap (expr_weight (weighing k)) at in
    omega arith

pub filled_lighter : (k : Known) (e : Expr) (first : Place) (m : Numeral) (a : Expr) (x : Expr) → e ≡ tree.Fill first m a → x ≡ a →
    expr_weight (weighing k) x + 1 ≤ expr_weight (weighing k) e
filled_lighter k e first m a x is at =
    let whole = ap (expr_weight (weighing k)) is ∙ weighed_fill (weighing k) first m a in
    let part = ap (expr_weight (weighing k)) at in
    omega arith

pub words_lighter : (k : Known) (e : Expr) (first : Place) (es xs : List Expr) → e ≡ tree.Row first es → xs ≡ es →
    exprs_weight (weighing k) xs + 1 ≤ expr_weight (weighing k) e
words_lighter k e first es xs is at =
    let whole = ap (expr_weight (weighing k)) is ∙ weighed_row (weighing k) first es in
    let part = ap (exprs_weight (weighing k)) at in
    omega arith

pub quantified_lighter : (k : Known) (e : Expr) (first : Place) (which : Quantifier) (x : Name) (w n : Numeral) (a b : Expr) →
    e ≡ tree.Quantified first which x w n a → b ≡ a → 1 ≤ n.value → expr_weight (weighing k) b + 2 ≤ expr_weight (weighing k) e
quantified_lighter k e first which x w n a b is at some =
    let whole = ap (expr_weight (weighing k)) is ∙ weighed_quantified (weighing k) first which x w n a in
    let part = ap (expr_weight (weighing k)) at in
    let pass = one_pass n.value (expr_weight (weighing k) a) some in
    omega arith

-- what is left of several parts gets lighter
sum_cons : (n : ℕ) (ns : List ℕ) → sum (n ∷ ns) ≡ n + sum ns
sum_cons n ns = grind (arith, common_steps)

pub rest_lighter : (ws : Weights) (es : List Expr) (i : ℕ) → i < length es → exprs_weight ws (drop (i + 1) es) ≤ exprs_weight ws (drop i es)
rest_lighter ws [] i h = absurd (omega arith)
rest_lighter ws (e ∷ es) i h =
    let more = ap (exprs_weight ws) (drop_more (e ∷ es) i e h)
    ∙ sum_cons (expr_weight ws (get_or (e ∷ es) i e)) (map (expr_weight ws) (drop (i + 1) (e ∷ es))) in
    omega arith

-- an expression weighs no more than those from it on
pub item_lighter : (ws : Weights) (es : List Expr) (i : ℕ) (e : Expr) → i < length es → e ≡ get_or es i e
    → expr_weight ws e ≤ exprs_weight ws (drop i es)
item_lighter ws es i e h is =
    let here = ap (expr_weight ws) is in
    let more = ap (exprs_weight ws) (drop_more es i e h)
    ∙ sum_cons (expr_weight ws (get_or es i e)) (map (expr_weight ws) (drop (i + 1) es)) in
    omega arith
