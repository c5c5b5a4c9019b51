-- The values of constructs, as their parts give them.
use Rattle.std.proofs.Common.{◌≡◌, cond, List, [], ◌∷◌, map, refl, sym, ap, ◌∙◌}
use Rattle.ygg_syntax.specs.declared.tree.Place.{Place}
use Rattle.ygg_syntax.specs.declared.tree.Name.{Name}
use Rattle.ygg_syntax.specs.declared.tree.Numeral.{Numeral}
use Rattle.ygg_syntax.specs.declared.tree.Quantifier.{Quantifier}
use Rattle.ygg_syntax.specs.declared.tree.Expr.{Expr}
use Rattle.ygg_syntax.specs.declared.tree.Expr.TheVariants as tree
use Rattle.ygg_syntax.specs.declared.tree.Expr.TheOpen.{Expr-F}
use Rattle.ygg_syntax.specs.declared.tree.Expr.TheFolds.{fold-roll-Expr}
use Rattle.ygg_value.specs.declared.operation.Op.{Op}
use Rattle.ygg_value.specs.declared.row.Value.{Value}
use Rattle.ygg_value.specs.declared.row.Value.TheVariants as value
use Rattle.ygg_value.specs.Words.{word, not_of, resized}
use Rattle.ygg_value.specs.Values.{word_in, digit, apply_value, part_of}
use Rattle.ygg_meaning_laws.specs.Environments.{look_up}
use Rattle.ygg_meaning_laws.specs.Meaning.{functions_of, node_value, value_with, is_one, quantified, row_of, filled}
use Rattle.ygg_meaning_laws.specs.Meaning as meaning
use Rattle.ygg_eval_expr.specs.Known.{Known, scope_in, value_in, with_number}

abbrev Means : Type 0
Means = meaning.Scope → Value

-- the values of several parts
each : (k : Known) (es : List Expr) → map (λ (part : Means). part (scope_in k)) (map (value_with (functions_of k.defs)) es) ≡ map (value_in k) es
each k [] = refl
each k (e ∷ es) = ap (λ vs. value_in k e ∷ vs) (each k es)

pub valued_constant : (k : Known) (v w : Numeral) → value_in k (tree.Constant v w) ≡ value.Word (word w.value v.value)
valued_constant k v w =
    ap (value_in k) (sym (tree.rolls-Constant v w))
    ∙ ap (λ (v : Means). v (scope_in k)) (fold-roll-Expr Means (node_value (functions_of k.defs)) (Expr-F.Constant v w))

pub valued_low : (k : Known) (at : Place) (x : Name) → value_in k (tree.Low at x) ≡ look_up x.text k.low
valued_low k at x =
    ap (value_in k) (sym (tree.rolls-Low at x))
    ∙ ap (λ (v : Means). v (scope_in k)) (fold-roll-Expr Means (node_value (functions_of k.defs)) (Expr-F.Low at x))

pub valued_variable : (k : Known) (x : Name) → value_in k (tree.Variable x) ≡ look_up x.text k.own
valued_variable k x =
    ap (value_in k) (sym (tree.rolls-Variable x))
    ∙ ap (λ (v : Means). v (scope_in k)) (fold-roll-Expr Means (node_value (functions_of k.defs)) (Expr-F.Variable x))

pub valued_apply : (k : Known) (f : Name) (es : List Expr) → value_in k (tree.Apply f es) ≡ functions_of k.defs f.text (map (value_in k) es)
valued_apply k f es =
    ap (value_in k) (sym (tree.rolls-Apply f es)) ∙ ap (λ (v : Means). v (scope_in k))
    (fold-roll-Expr Means (node_value (functions_of k.defs)) (Expr-F.Apply f es))
    ∙ ap (functions_of k.defs f.text) (each k es)

pub valued_binary : (k : Known) (first : Place) (a : Expr) (op : Op) (at : Place) (b : Expr) →
    value_in k (tree.Binary first a op at b) ≡ apply_value op (value_in k a) (value_in k b)
valued_binary k first a op at b =
    ap (value_in k) (sym (tree.rolls-Binary first a op at b))
    ∙ ap (λ (v : Means). v (scope_in k)) (fold-roll-Expr Means (node_value (functions_of k.defs)) (Expr-F.Binary first a op at b))

pub valued_not : (k : Known) (first : Place) (a : Expr) → value_in k (tree.Not first a) ≡ value.Word (not_of (word_in (value_in k a)))
valued_not k first a =
    ap (value_in k) (sym (tree.rolls-Not first a))
    ∙ ap (λ (v : Means). v (scope_in k)) (fold-roll-Expr Means (node_value (functions_of k.defs)) (Expr-F.Not first a))

pub valued_at : (k : Known) (a : Expr) (bracket : Place) (i : Expr) → value_in k (tree.At a bracket i) ≡ part_of (value_in k a) (word_in (value_in k i)).bits
valued_at k a bracket i =
    ap (value_in k) (sym (tree.rolls-At a bracket i)) ∙ ap (λ (v : Means). v (scope_in k))
    (fold-roll-Expr Means (node_value (functions_of k.defs)) (Expr-F.At a bracket i))

pub valued_pick : (k : Known) (first : Place) (c a b : Expr) → value_in k (tree.Pick first c a b) ≡ cond (is_one (value_in k c)) (value_in k a) (value_in k b)
valued_pick k first c a b =
    ap (value_in k) (sym (tree.rolls-Pick first c a b))
    ∙ ap (λ (v : Means). v (scope_in k)) (fold-roll-Expr Means (node_value (functions_of k.defs)) (Expr-F.Pick first c a b))

pub valued_resize : (k : Known) (first : Place) (a : Expr) (w : Numeral) →
    value_in k (tree.Resize first a w) ≡ value.Word (resized (word_in (value_in k a)) w.value)
valued_resize k first a w =
    ap (value_in k) (sym (tree.rolls-Resize first a w))
    ∙ ap (λ (v : Means). v (scope_in k)) (fold-roll-Expr Means (node_value (functions_of k.defs)) (Expr-F.Resize first a w))

pub valued_fill : (k : Known) (first : Place) (m : Numeral) (a : Expr) → value_in k (tree.Fill first m a) ≡ value.Row (filled m.value (value_in k a))
valued_fill k first m a =
    ap (value_in k) (sym (tree.rolls-Fill first m a)) ∙ ap (λ (v : Means). v (scope_in k))
    (fold-roll-Expr Means (node_value (functions_of k.defs)) (Expr-F.Fill first m a))

pub valued_row : (k : Known) (first : Place) (es : List Expr) → value_in k (tree.Row first es) ≡ value.Row (row_of (map (value_in k) es))
valued_row k first es =
    ap (value_in k) (sym (tree.rolls-Row first es)) ∙ ap (λ (v : Means). v (scope_in k))
    (fold-roll-Expr Means (node_value (functions_of k.defs)) (Expr-F.Row first es))
    ∙ ap (λ vs. value.Row (row_of vs)) (each k es)

pub valued_quantified : (k : Known) (first : Place) (which : Quantifier) (x : Name) (w n : Numeral) (e : Expr)
    → value_in k (tree.Quantified first which x w n e) ≡ digit (quantified which n.value (λ i. is_one (value_in (with_number k x.text w.value i) e)))
valued_quantified k first which x w n e =
    ap (value_in k) (sym (tree.rolls-Quantified first which x w n e))
    ∙ ap (λ (v : Means). v (scope_in k)) (fold-roll-Expr Means (node_value (functions_of k.defs)) (Expr-F.Quantified first which x w n e))
