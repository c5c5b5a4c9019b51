-- Which tokens an expression is derived from, by the grammar
--   expr = "~" expr | atom {"[" expr "]"}
--   atom = NUM ":" NUM | "low" "." NAME
--        | NAME ["(" [expr {"," expr}] ")"]
--        | "(" expr OP expr ")"
--        | "pick" "(" expr "," expr "," expr ")"
--        | "resize" "(" expr "," NUM ")"
--        | "fill" "(" NUM "," expr ")"
--        | "row" "(" expr {"," expr} ")"
--        | ("all" | "any") "(" NAME ":" NUM "below" NUM "," expr ")"
-- Each rule is the list of what is read in turn. A token whose place the tree keeps is read at that place.
use Rattle.std.specs.Prelude.{Bool, true, false, if◌then◌else◌, List, [], ◌∷◌}
use Rattle.ygg_base.specs.declared.token.Keyword.{Keyword}
use Rattle.ygg_base.specs.declared.token.Keyword.TheVariants as word
use Rattle.ygg_base.specs.declared.token.Symbol.{Symbol}
use Rattle.ygg_base.specs.declared.token.Symbol.TheVariants as sign
use Rattle.ygg_base.specs.declared.token.Mark.TheVariants as mark
use Rattle.ygg_value.specs.declared.operation.Op.{Op}
use Rattle.ygg_value.specs.declared.operation.Op.TheVariants as op
use Rattle.ygg_syntax.specs.declared.tree.Name.{Name}
use Rattle.ygg_syntax.specs.declared.tree.Numeral.{Numeral}
use Rattle.ygg_syntax.specs.declared.tree.Quantifier.{Quantifier}
use Rattle.ygg_syntax.specs.declared.tree.Quantifier.TheVariants as quantifier
use Rattle.ygg_syntax.specs.declared.tree.Expr.{Expr}
use Rattle.ygg_syntax.specs.declared.tree.Expr.TheOpen.{Expr-F}
use Rattle.ygg_syntax.specs.declared.tree.Expr.TheFolds.{fold-Expr}
use Rattle.ygg_syntax.specs.Reading.{Reading, passes, takes, in_turn, impossible}

-- a keyword wherever it stands
abbrev pub keyword : Keyword → Reading
keyword k = passes (mark.Keyword k)

-- a symbol wherever it stands
abbrev pub symbol : Symbol → Reading
symbol s = passes (mark.Symbol s)

-- a name at its place
abbrev pub named : Name → Reading
named x = takes (mark.Name x.text) x.place

-- a number at its place
abbrev pub numbered : Numeral → Reading
numbered n = takes (mark.Num n.value) n.place

-- how an operation is written
abbrev pub operator_sign : Op → Symbol
operator_sign op.Add = sign.Plus
operator_sign op.Sub = sign.Minus
operator_sign op.Mul = sign.Star
operator_sign op.And = sign.Ampersand
operator_sign op.Or = sign.Bar
operator_sign op.Xor = sign.Caret
operator_sign op.Shl = sign.ShiftLeft
operator_sign op.Shr = sign.ShiftRight
operator_sign op.Eq = sign.Equal
operator_sign op.Ne = sign.NotEqual
operator_sign op.Lt = sign.Less
operator_sign op.Le = sign.LessOrEqual
operator_sign op.Gt = sign.Greater
operator_sign op.Ge = sign.GreaterOrEqual
operator_sign op.Imp = sign.Implies

-- the keyword of a quantifier
abbrev pub quantifier_word : Quantifier → Keyword
quantifier_word quantifier.All = word.All
quantifier_word quantifier.Any = word.Any

-- what an expression reads in turn, and whether an index may follow it
pub record Phrase : Type 0 where
  pub indexable : Bool
  pub parts : List Reading

-- an atom, or an atom with indices
abbrev pub atom : List Reading → Phrase
atom parts = record { indexable = true; parts = parts }

-- the whole expression
abbrev pub whole : Phrase → Reading
whole e = in_turn e.parts

-- an expression that an index follows
abbrev pub indexed : Phrase → Reading
indexed e = if e.indexable then whole e else impossible

-- expressions with a comma before each
abbrev pub more : List Phrase → List Reading
more [] = []
more (e ∷ es) = symbol sign.Comma ∷ whole e ∷ more es

-- one expression or more, with commas between them
abbrev pub some : List Phrase → Reading
some [] = impossible
some (e ∷ es) = in_turn (whole e ∷ more es)

-- expressions with commas between them, or none
abbrev pub any : List Phrase → Reading
any [] = in_turn []
any (e ∷ es) = some (e ∷ es)

-- the rules, with the phrases of the parts in their places
abbrev pub node_phrase : Expr-F Phrase → Phrase
node_phrase (Expr-F.Constant v w) = atom (numbered v ∷ symbol sign.Colon ∷ numbered w ∷ [])
node_phrase (Expr-F.Low first x) = atom (takes (mark.Keyword word.Low) first ∷ symbol sign.Dot ∷ named x ∷ [])
node_phrase (Expr-F.Variable x) = atom (named x ∷ [])
node_phrase (Expr-F.Apply f arguments) = atom (named f ∷ symbol sign.RoundOpen ∷ any arguments ∷ symbol sign.RoundClose ∷ [])
node_phrase (Expr-F.Binary first a op at b) =
    atom (takes (mark.Symbol sign.RoundOpen) first ∷ whole a ∷ takes (mark.Symbol (operator_sign op)) at ∷ whole b ∷ symbol sign.RoundClose ∷ [])
node_phrase (Expr-F.Not first a) = record { indexable = false; parts = takes (mark.Symbol sign.Tilde) first ∷ whole a ∷ [] }
node_phrase (Expr-F.At a bracket i) = atom (indexed a ∷ takes (mark.Symbol sign.SquareOpen) bracket ∷ whole i ∷ symbol sign.SquareClose ∷ [])
node_phrase (Expr-F.Pick first c a b) =
    atom (takes (mark.Keyword word.Pick) first ∷ symbol sign.RoundOpen ∷ whole c ∷ symbol sign.Comma ∷ whole a ∷ symbol sign.Comma ∷ whole b
    ∷ symbol sign.RoundClose ∷ [])
node_phrase (Expr-F.Resize first a w) =
    atom (takes (mark.Keyword word.Resize) first ∷ symbol sign.RoundOpen ∷ whole a ∷ symbol sign.Comma ∷ numbered w ∷ symbol sign.RoundClose ∷ [])
node_phrase (Expr-F.Fill first m a) =
    atom (takes (mark.Keyword word.Fill) first ∷ symbol sign.RoundOpen ∷ numbered m ∷ symbol sign.Comma ∷ whole a ∷ symbol sign.RoundClose ∷ [])
node_phrase (Expr-F.Row first parts) =
    atom (takes (mark.Keyword word.Row) first ∷ symbol sign.RoundOpen ∷ some parts ∷ symbol sign.RoundClose ∷ [])
node_phrase (Expr-F.Quantified first which x w n e) =
    atom (takes (mark.Keyword (quantifier_word which)) first ∷ symbol sign.RoundOpen ∷ named x ∷ symbol sign.Colon ∷ numbered w
    ∷ keyword word.Below ∷ numbered n ∷ symbol sign.Comma ∷ whole e ∷ symbol sign.RoundClose ∷ [])

-- what an expression reads
abbrev pub phrase : Expr → Phrase
phrase = fold-Expr Phrase node_phrase

-- the tokens of an expression
abbrev pub expr : Expr → Reading
expr e = whole (phrase e)
