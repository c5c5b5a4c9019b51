-- The marks of an expression are those of its parts, one behind the other.
use Rattle.std.proofs.Common.{◌≡◌, List, [], ◌∷◌, ◌++◌, map, sym, ap, ◌∙◌, append_assoc}
use Rattle.ygg_base.specs.declared.token.Keyword.{Keyword}
use Rattle.ygg_base.specs.declared.token.Keyword.TheVariants as word
use Rattle.ygg_base.specs.declared.token.Symbol.{Symbol}
use Rattle.ygg_base.specs.declared.token.Symbol.TheVariants as sign
use Rattle.ygg_base.specs.declared.token.Mark.{Mark}
use Rattle.ygg_base.specs.declared.token.Mark.TheVariants as mark
use Rattle.ygg_value.specs.declared.Op.{Op}
use Rattle.ygg_syntax.specs.declared.tree.Place.{Place}
use Rattle.ygg_syntax.specs.declared.tree.Name.{Name}
use Rattle.ygg_syntax.specs.declared.tree.Numeral.{Numeral}
use Rattle.ygg_syntax.specs.declared.tree.Quantifier.{Quantifier}
use Rattle.ygg_syntax.specs.declared.tree.Expr.{Expr, roll-Expr, map-Expr}
use Rattle.ygg_syntax.specs.declared.tree.Expr.TheVariants as expr
use Rattle.ygg_syntax.specs.declared.tree.Expr.TheOpen.{Expr-F}
use Rattle.ygg_syntax.specs.declared.tree.Expr.TheFolds.{fold-roll-Expr}
use Rattle.ygg_syntax.specs.Expressions.{operator_sign, quantifier_word}
use Rattle.ygg_print.specs.Printed.{printed, node_printed, bracketed}

-- an expression and the symbol after it
abbrev pub then : Expr → Symbol → List Mark
then e s = printed e ++ mark.Symbol s ∷ []

module _ {e : Expr} where
  -- those of an expression that is opened
  opened : (x : Expr-F Expr) → e ≡ roll-Expr x → node_printed (map-Expr Expr (List Mark) printed x) ≡ printed e
  opened x is = sym (ap printed is ∙ fold-roll-Expr (List Mark) node_printed x)

  pub constant : (v w : Numeral) → e ≡ expr.Constant v w → mark.Num v.value ∷ mark.Symbol sign.Colon ∷ mark.Num w.value ∷ [] ≡ printed e
  constant v w is = opened (Expr-F.Constant v w) (is ∙ sym (expr.rolls-Constant v w))

  pub low : (f : Place) (x : Name) → e ≡ expr.Low f x → mark.Keyword word.Low ∷ mark.Symbol sign.Dot ∷ mark.Name x.text ∷ [] ≡ printed e
  low f x is = opened (Expr-F.Low f x) (is ∙ sym (expr.rolls-Low f x))

  pub variable : (x : Name) → e ≡ expr.Variable x → mark.Name x.text ∷ [] ≡ printed e
  variable x is = opened (Expr-F.Variable x) (is ∙ sym (expr.rolls-Variable x))

  pub apply : (f : Name) (es ds : List Expr) → e ≡ expr.Apply f es → ds ≡ es → mark.Name f.text ∷ bracketed (map printed ds) ≡ printed e
  apply f es ds is same = rw same (opened (Expr-F.Apply f es) (is ∙ sym (expr.rolls-Apply f es)))

  pub row : (f : Place) (es ds : List Expr) → e ≡ expr.Row f es → ds ≡ es → mark.Keyword word.Row ∷ bracketed (map printed ds) ≡ printed e
  row f es ds is same = rw same (opened (Expr-F.Row f es) (is ∙ sym (expr.rolls-Row f es)))

  pub binary : (f at : Place) (op : Op) (a b : Expr) (s : Symbol) (y z : Expr) → e ≡ expr.Binary f a op at b → s ≡ operator_sign op → y ≡ a → z ≡ b
      → mark.Symbol sign.RoundOpen ∷ (then y s ++ then z sign.RoundClose) ≡ printed e
  binary f at op a b s y z is same left right =
      rw (same, left, right, append_assoc) (opened (Expr-F.Binary f a op at b) (is ∙ sym (expr.rolls-Binary f a op at b)))

  pub negation : (f : Place) (a y : Expr) → e ≡ expr.Not f a → y ≡ a → mark.Symbol sign.Tilde ∷ printed y ≡ printed e
  negation f a y is same = rw same (opened (Expr-F.Not f a) (is ∙ sym (expr.rolls-Not f a)))

  pub indexed : (f : Place) (a b y z : Expr) → e ≡ expr.At a f b → y ≡ a → z ≡ b → then y sign.SquareOpen ++ then z sign.SquareClose ≡ printed e
  indexed f a b y z is left right = rw (left, right, append_assoc) (opened (Expr-F.At a f b) (is ∙ sym (expr.rolls-At a f b)))

  pub pick : (f : Place) (a b d x y z : Expr) → e ≡ expr.Pick f a b d → x ≡ a → y ≡ b → z ≡ d
      → mark.Keyword word.Pick ∷ mark.Symbol sign.RoundOpen ∷ (then x sign.Comma ++ (then y sign.Comma ++ then z sign.RoundClose)) ≡ printed e
  pick f a b d x y z is test left right =
      rw (test, left, right, append_assoc, append_assoc) (opened (Expr-F.Pick f a b d) (is ∙ sym (expr.rolls-Pick f a b d)))

  pub resize : (f : Place) (a y : Expr) (w : Numeral) → e ≡ expr.Resize f a w → y ≡ a
      → mark.Keyword word.Resize ∷ mark.Symbol sign.RoundOpen ∷ (then y sign.Comma ++ mark.Num w.value ∷ mark.Symbol sign.RoundClose ∷ []) ≡ printed e
  resize f a y w is same = rw (same, append_assoc) (opened (Expr-F.Resize f a w) (is ∙ sym (expr.rolls-Resize f a w)))

  pub fill : (f : Place) (m : Numeral) (a y : Expr) → e ≡ expr.Fill f m a → y ≡ a
      → mark.Keyword word.Fill ∷ mark.Symbol sign.RoundOpen ∷ mark.Num m.value ∷ mark.Symbol sign.Comma ∷ then y sign.RoundClose ≡ printed e
  fill f m a y is same = rw same (opened (Expr-F.Fill f m a) (is ∙ sym (expr.rolls-Fill f m a)))

  pub quantified : (f : Place) (q : Quantifier) (x : Name) (w n : Numeral) (a y : Expr) (k : Keyword) → e ≡ expr.Quantified f q x w n a
      → k ≡ quantifier_word q → y ≡ a
      → mark.Keyword k ∷ mark.Symbol sign.RoundOpen ∷ mark.Name x.text ∷ mark.Symbol sign.Colon ∷ mark.Num w.value ∷ mark.Keyword word.Below
      ∷ mark.Num n.value ∷ mark.Symbol sign.Comma ∷ then y sign.RoundClose ≡ printed e
  quantified f q x w n a y k is same part =
      rw (same, part) (opened (Expr-F.Quantified f q x w n a) (is ∙ sym (expr.rolls-Quantified f q x w n a)))
