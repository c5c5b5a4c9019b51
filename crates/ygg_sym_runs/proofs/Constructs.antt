-- The terms of constructs, as their parts make them.
use Rattle.std.proofs.Common.{◌≡◌, ◌+◌, ℕ, List, [], ◌∷◌, map, replicate, Result, Ok, Err, OnOk, IfOk, refl, sym, ap, ◌∙◌, subst}
use Rattle.ygg_syntax.specs.declared.tree.Place.{Place}
use Rattle.ygg_syntax.specs.declared.tree.Name.{Name}
use Rattle.ygg_syntax.specs.declared.tree.Numeral.{Numeral}
use Rattle.ygg_syntax.specs.declared.tree.Quantifier.{Quantifier}
use Rattle.ygg_syntax.specs.declared.tree.Quantifier.TheVariants as quantifier
use Rattle.ygg_syntax.specs.declared.tree.Expr.{Expr}
use Rattle.ygg_syntax.specs.declared.tree.Expr.TheVariants as tree
use Rattle.ygg_syntax.specs.declared.tree.Expr.TheOpen.{Expr-F}
use Rattle.ygg_syntax.specs.declared.tree.Expr.TheFolds.{fold-roll-Expr}
use Rattle.ygg_value.specs.Words.{word}
use Rattle.ygg_value.specs.declared.operation.Op.{Op}
use Rattle.ygg_shape.specs.ygg_rules.declared.rule.RuleKind.{RuleKind}
use Rattle.ygg_shape.specs.ygg_bank.Makes.{Make, Out, pure, and_make, goes_on}
use Rattle.ygg_shape.specs.ygg_bank.declared.node.Node.{Node}
use Rattle.ygg_shape.specs.ygg_bank.declared.node.Node.TheVariants as node
use Rattle.ygg_shape.specs.ygg_shape_cells.Lists.{each_from}
use Rattle.ygg_shape.specs.ygg_shape_cells.Making.{merged}
use Rattle.ygg_shape.specs.ygg_shape_cells.declared.terms.SymValue.{SymValue}
use Rattle.ygg_shape.specs.ygg_shape_cells.declared.terms.SymValue.TheVariants.{Word, Row}
use Rattle.ygg_sym_runs.specs.Names.{SymScope, sym_look_up}
use Rattle.ygg_sym_runs.specs.Exprs.{Making, id_in, all_made, word_made, small_made, applied, part_made, joined, quantified_made, node_made, sym_value}
use Rattle.ygg_sym_runs.specs.Seen.{SymKnown, terms_called, terms_in, joining, start_of, test_at}

-- what is answered with the nodes that one step leaves is answered with those of an equal one
pub nodes_as : {A E : Type 0} (r : Result A E) (new : List Node) (one two : Out A) → one ≡ two → OnOk r (new ≡ one.nodes) → OnOk r (new ≡ two.nodes)
nodes_as {A} {E} r new one two e h = subst (λ (z : Out A). OnOk r (new ≡ z.nodes)) e h

pub value_as : {A E : Type 0} (r : Result A E) (one two : Out A) → one ≡ two → IfOk r (λ x. x ≡ one.value) → IfOk r (λ x. x ≡ two.value)
value_as {A} {E} r one two e h = subst (λ (z : Out A). IfOk r (λ x. x ≡ z.value)) e h

-- a bank that a call left alone
pub always_ok : {A E : Type 0} (r : Result A E) (nodes : List Node) → OnOk r (nodes ≡ nodes)
always_ok (Ok x) nodes = refl
always_ok (Err x) nodes = tt

-- steps one after another
pub one_then : {A B : Type 0} (m : Make A) (f : A → Make B) (old mid : List Node) (x : A) → mid ≡ (m old).nodes → x ≡ (m old).value →
    f x mid ≡ and_make m f old
one_then m f old mid x e h = ap (λ z. f z mid) h ∙ ap (f (m old).value) e

-- what holds of what two steps leave
pub two_at : {A B : Type 0} (P : List Node → A → B → Type 0) (m : Make A) (n : Make B) (old mid last : List Node) (x : A) (y : B) → mid ≡ (m old).nodes →
    x ≡ (m old).value → last ≡ (n mid).nodes → y ≡ (n mid).value → P (n (m old).nodes).nodes (m old).value (n (m old).nodes).value → P last x y
two_at P m n old mid last x y e f g h p =
    let there = g ∙ ap (λ z. (n z).nodes) e in
    let second = h ∙ ap (λ z. (n z).value) e in
    subst (λ z. P z x y) (sym there) (subst (λ z. P (n (m old).nodes).nodes z y) (sym f) (subst (P (n (m old).nodes).nodes (m old).value) (sym second) p))

pub three_at : {A B C : Type 0} (P : List Node → A → B → C → Type 0) (l : Make A) (m : Make B) (n : Make C) (old mid late last : List Node)
    (x : A) (y : B) (z : C) → mid ≡ (l old).nodes → x ≡ (l old).value → late ≡ (m mid).nodes → y ≡ (m mid).value → last ≡ (n late).nodes → z ≡ (n late).value →
    P (n (m (l old).nodes).nodes).nodes (l old).value (m (l old).nodes).value (n (m (l old).nodes).nodes).value → P last x y z
three_at P l m n old mid late last x y z e f g h i j p =
    let first = l old in
    let second = m first.nodes in
    let third = n second.nodes in
    let late_is = g ∙ ap (λ k. (m k).nodes) e in
    let y_is = h ∙ ap (λ k. (m k).value) e in
    let last_is = i ∙ ap (λ k. (n k).nodes) late_is in
    let z_is = j ∙ ap (λ k. (n k).value) late_is in
    subst (λ k. P k x y z) (sym last_is) (subst (λ k. P third.nodes k y z) (sym f) (subst (λ k. P third.nodes first.value k z) (sym y_is)
    (subst (P third.nodes first.value second.value) (sym z_is) p)))

-- expressions one after another, as a step for each item
pub all_from : (m : Expr → Making) (scope : SymScope) (i : ℕ) (es : List Expr) (nodes : List Node) →
    each_from (λ n e. m e scope) i es nodes ≡ all_made (map m es) scope nodes
all_from m scope i [] nodes = refl
all_from m scope i (e ∷ es) nodes =
    let o = m e scope nodes in ap (λ (z : Out (List SymValue)). goes_on z (λ xs. pure (o.value ∷ xs))) (all_from m scope (i + 1) es o.nodes)

module _ (kinds : List RuleKind) (k : SymKnown) where
  abbrev T : Expr → Make SymValue
  T = terms_in kinds k

  abbrev pub makings : List Expr → List Making
  makings = map (sym_value kinds (terms_called kinds k.defs))

  pub constant_made : (e : Expr) (n w : Numeral) (nodes : List Node) → e ≡ tree.Constant n w →
      word_made kinds (node.Const (word w.value n.value)) nodes ≡ T e nodes
  constant_made e n w nodes is =
      sym (ap (λ x. T x nodes) (is ∙ sym (tree.rolls-Constant n w))
      ∙ ap (λ (m : Making). m k.scope nodes) (fold-roll-Expr Making (node_made kinds (terms_called kinds k.defs)) (Expr-F.Constant n w)))

  pub low_made : (e : Expr) (at : Place) (x : Name) (nodes : List Node) → e ≡ tree.Low at x →
      pure (sym_look_up x.text (k.scope).low) nodes ≡ T e nodes
  low_made e at x nodes is =
      sym (ap (λ x. T x nodes) (is ∙ sym (tree.rolls-Low at x))
      ∙ ap (λ (m : Making). m k.scope nodes) (fold-roll-Expr Making (node_made kinds (terms_called kinds k.defs)) (Expr-F.Low at x)))

  pub variable_made : (e : Expr) (x : Name) (nodes : List Node) → e ≡ tree.Variable x → pure (sym_look_up x.text (k.scope).own) nodes ≡ T e nodes
  variable_made e x nodes is =
      sym (ap (λ x. T x nodes) (is ∙ sym (tree.rolls-Variable x))
      ∙ ap (λ (m : Making). m k.scope nodes) (fold-roll-Expr Making (node_made kinds (terms_called kinds k.defs)) (Expr-F.Variable x)))

  pub apply_made : (e : Expr) (f : Name) (es : List Expr) (nodes : List Node) → e ≡ tree.Apply f es →
      and_make (all_made (makings es) k.scope) (terms_called kinds k.defs f.text) nodes ≡ T e nodes
  apply_made e f es nodes is =
      sym (ap (λ x. T x nodes) (is ∙ sym (tree.rolls-Apply f es))
      ∙ ap (λ (m : Making). m k.scope nodes) (fold-roll-Expr Making (node_made kinds (terms_called kinds k.defs)) (Expr-F.Apply f es)))

  pub binary_made : (e : Expr) (first : Place) (a : Expr) (o : Op) (at : Place) (b : Expr) (nodes : List Node) → e ≡ tree.Binary first a o at b →
      and_make (T a) (λ x. and_make (T b) (applied kinds o x)) nodes ≡ T e nodes
  binary_made e first a o at b nodes is =
      sym (ap (λ x. T x nodes) (is ∙ sym (tree.rolls-Binary first a o at b))
      ∙ ap (λ (m : Making). m k.scope nodes) (fold-roll-Expr Making (node_made kinds (terms_called kinds k.defs)) (Expr-F.Binary first a o at b)))

  pub not_made : (e : Expr) (first : Place) (a : Expr) (nodes : List Node) → e ≡ tree.Not first a →
      and_make (T a) (λ x. small_made kinds (node.Not (id_in x))) nodes ≡ T e nodes
  not_made e first a nodes is =
      sym (ap (λ x. T x nodes) (is ∙ sym (tree.rolls-Not first a))
      ∙ ap (λ (m : Making). m k.scope nodes) (fold-roll-Expr Making (node_made kinds (terms_called kinds k.defs)) (Expr-F.Not first a)))

  pub at_made : (e : Expr) (a : Expr) (bracket : Place) (i : Expr) (nodes : List Node) → e ≡ tree.At a bracket i →
      and_make (T a) (λ x. and_make (T i) (λ y. part_made kinds x (id_in y))) nodes ≡ T e nodes
  at_made e a bracket i nodes is =
      sym (ap (λ x. T x nodes) (is ∙ sym (tree.rolls-At a bracket i))
      ∙ ap (λ (m : Making). m k.scope nodes) (fold-roll-Expr Making (node_made kinds (terms_called kinds k.defs)) (Expr-F.At a bracket i)))

  pub pick_made : (e : Expr) (first : Place) (c a b : Expr) (nodes : List Node) → e ≡ tree.Pick first c a b →
      and_make (T c) (λ t. and_make (T a) (λ x. and_make (T b) (merged kinds (id_in t) x))) nodes ≡ T e nodes
  pick_made e first c a b nodes is =
      sym (ap (λ x. T x nodes) (is ∙ sym (tree.rolls-Pick first c a b))
      ∙ ap (λ (m : Making). m k.scope nodes) (fold-roll-Expr Making (node_made kinds (terms_called kinds k.defs)) (Expr-F.Pick first c a b)))

  pub resize_made : (e : Expr) (first : Place) (a : Expr) (w : Numeral) (nodes : List Node) → e ≡ tree.Resize first a w →
      and_make (T a) (λ x. small_made kinds (node.Resize (id_in x) w.value)) nodes ≡ T e nodes
  resize_made e first a w nodes is =
      sym (ap (λ x. T x nodes) (is ∙ sym (tree.rolls-Resize first a w))
      ∙ ap (λ (m : Making). m k.scope nodes) (fold-roll-Expr Making (node_made kinds (terms_called kinds k.defs)) (Expr-F.Resize first a w)))

  pub fill_made : (e : Expr) (first : Place) (n : Numeral) (a : Expr) (nodes : List Node) → e ≡ tree.Fill first n a →
      and_make (T a) (λ x. pure (Row (replicate n.value (id_in x)))) nodes ≡ T e nodes
  fill_made e first n a nodes is =
      sym (ap (λ x. T x nodes) (is ∙ sym (tree.rolls-Fill first n a))
      ∙ ap (λ (m : Making). m k.scope nodes) (fold-roll-Expr Making (node_made kinds (terms_called kinds k.defs)) (Expr-F.Fill first n a)))

  pub row_made : (e : Expr) (first : Place) (es : List Expr) (nodes : List Node) → e ≡ tree.Row first es →
      and_make (all_made (makings es) k.scope) (λ xs. pure (Row (map id_in xs))) nodes ≡ T e nodes
  row_made e first es nodes is =
      sym (ap (λ x. T x nodes) (is ∙ sym (tree.rolls-Row first es))
      ∙ ap (λ (m : Making). m k.scope nodes) (fold-roll-Expr Making (node_made kinds (terms_called kinds k.defs)) (Expr-F.Row first es)))

  -- the tests, whichever number of them is to pass
  either_made : (which : Quantifier) (n : ℕ) (test : ℕ → Make SymValue) (nodes : List Node) →
      and_make (joined kinds (joining which) (start_of which) n test) (λ a. pure (Word a)) nodes ≡ quantified_made kinds which n test nodes
  either_made quantifier.All n test nodes = refl
  either_made quantifier.Any n test nodes = refl

  pub quantified_is_made : (e : Expr) (first : Place) (which : Quantifier) (x : Name) (w n : Numeral) (a : Expr) (nodes : List Node) →
      e ≡ tree.Quantified first which x w n a →
      and_make (joined kinds (joining which) (start_of which) n.value (test_at kinds k x w a)) (λ a. pure (Word a)) nodes ≡ T e nodes
  quantified_is_made e first which x w n a nodes is =
      either_made which n.value (test_at kinds k x w a) nodes
      ∙ sym (ap (λ x. T x nodes) (is ∙ sym (tree.rolls-Quantified first which x w n a))
      ∙ ap (λ (m : Making). m k.scope nodes) (fold-roll-Expr Making (node_made kinds (terms_called kinds k.defs)) (Expr-F.Quantified first which x w n a)))
