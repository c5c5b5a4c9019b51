-- What holds of the grammar of expressions.
use Rattle.std.specs.Prelude.{◌≡◌, false, List, Some}
use Rattle.ygg_base.specs.declared.token.Symbol.TheVariants as sign
use Rattle.ygg_base.specs.declared.token.Mark.TheVariants as mark
use Rattle.ygg_base.specs.declared.token.Token.{Token}
use Rattle.ygg_syntax.specs.Reading.{starts}
use Rattle.ygg_syntax.specs.declared.tree.Expr.{Expr}
use Rattle.ygg_syntax.specs.Expressions.{expr}
use Rattle.ygg_read.specs.ExpressionSteps.{GoesAsAtom}

-- where an expression derives and no arguments can follow it, the pending symbols take its tokens, and indices may come next
abbrev pub Complete : Type 0
Complete = (e : Expr) (from rest : List Token) → expr e from ≡ Some rest → starts (mark.Symbol sign.RoundOpen) rest ≡ false → GoesAsAtom from rest
