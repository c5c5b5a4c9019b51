-- The marks of an expression in its one canonical text.
use Rattle.std.specs.Prelude.{List, [], ◌∷◌, ◌++◌}
use Rattle.ygg_base.specs.declared.token.Keyword.TheVariants as word
use Rattle.ygg_base.specs.declared.token.Symbol.TheVariants as sign
use Rattle.ygg_base.specs.declared.token.Mark.{Mark}
use Rattle.ygg_base.specs.declared.token.Mark.TheVariants.{Name, Num, Keyword, Symbol}
use Rattle.ygg_syntax.specs.Expressions.{operator_sign, quantifier_word}
use Rattle.ygg_syntax.specs.declared.tree.Expr.{Expr}
use Rattle.ygg_syntax.specs.declared.tree.Expr.TheOpen.{Expr-F}
use Rattle.ygg_syntax.specs.declared.tree.Expr.TheFolds.{fold-Expr}

-- the marks of expressions, with a comma before each
abbrev pub more_printed : List (List Mark) → List Mark
more_printed [] = []
more_printed (e ∷ es) = Symbol sign.Comma ∷ (e ++ more_printed es)

-- the marks of expressions, with commas between them
abbrev pub list_printed : List (List Mark) → List Mark
list_printed [] = []
list_printed (e ∷ es) = e ++ more_printed es

-- the marks of expressions in their brackets
abbrev pub bracketed : List (List Mark) → List Mark
bracketed es = Symbol sign.RoundOpen ∷ (list_printed es ++ Symbol sign.RoundClose ∷ [])

-- the marks of an expression, where those of its parts stand in their places
abbrev pub node_printed : Expr-F (List Mark) → List Mark
node_printed (Expr-F.Constant v w) = Num v.value ∷ Symbol sign.Colon ∷ Num w.value ∷ []
node_printed (Expr-F.Low first x) = Keyword word.Low ∷ Symbol sign.Dot ∷ Name x.text ∷ []
node_printed (Expr-F.Variable x) = Name x.text ∷ []
node_printed (Expr-F.Apply f arguments) = Name f.text ∷ bracketed arguments
node_printed (Expr-F.Binary first a op at b) = Symbol sign.RoundOpen ∷ (a ++ Symbol (operator_sign op) ∷ (b ++ Symbol sign.RoundClose ∷ []))
node_printed (Expr-F.Not first a) = Symbol sign.Tilde ∷ a
node_printed (Expr-F.At a bracket i) = a ++ Symbol sign.SquareOpen ∷ (i ++ Symbol sign.SquareClose ∷ [])
node_printed (Expr-F.Pick first c a b) =
    Keyword word.Pick ∷ Symbol sign.RoundOpen ∷ (c ++ Symbol sign.Comma ∷ (a ++ Symbol sign.Comma ∷ (b ++ Symbol sign.RoundClose ∷ [])))
node_printed (Expr-F.Resize first a w) = Keyword word.Resize ∷ Symbol sign.RoundOpen ∷ (a ++ Symbol sign.Comma ∷ Num w.value ∷ Symbol sign.RoundClose ∷ [])
node_printed (Expr-F.Fill first m a) = Keyword word.Fill ∷ Symbol sign.RoundOpen ∷ Num m.value ∷ Symbol sign.Comma ∷ (a ++ Symbol sign.RoundClose ∷ [])
node_printed (Expr-F.Row first parts) = Keyword word.Row ∷ bracketed parts
node_printed (Expr-F.Quantified first which x w n e) =
    Keyword (quantifier_word which) ∷ Symbol sign.RoundOpen ∷ Name x.text ∷ Symbol sign.Colon ∷ Num w.value ∷ Keyword word.Below ∷ Num n.value
    ∷ Symbol sign.Comma
    ∷ (e ++ Symbol sign.RoundClose ∷ [])

-- the marks of an expression
abbrev pub printed : Expr → List Mark
printed = fold-Expr (List Mark) node_printed
