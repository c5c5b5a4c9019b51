-- The bytes of tokens.
use Rattle.std.specs.Prelude.{ℕ, List, [], ◌∷◌, codes}
use Rattle.std.specs.Fmt.{decimal}
use Rattle.ygg_base.specs.declared.token.Keyword.{Keyword}
use Rattle.ygg_base.specs.declared.token.Keyword.TheVariants as word
use Rattle.ygg_base.specs.declared.token.Symbol.{Symbol}
use Rattle.ygg_base.specs.declared.token.Symbol.TheVariants as symbol
use Rattle.ygg_base.specs.declared.token.Mark.{Mark}
use Rattle.ygg_base.specs.declared.token.Mark.TheVariants as mark

-- how each keyword is spelled
abbrev pub keyword_bytes : Keyword → List ℕ
keyword_bytes word.Yggdrasil = codes "yggdrasil"
keyword_bytes word.Disk = codes "disk"
keyword_bytes word.Sync = codes "sync"
keyword_bytes word.Async = codes "async"
keyword_bytes word.Of = codes "of"
keyword_bytes word.Def = codes "def"
keyword_bytes word.Word = codes "word"
keyword_bytes word.Row = codes "row"
keyword_bytes word.Table = codes "table"
keyword_bytes word.Layer = codes "layer"
keyword_bytes word.State = codes "state"
keyword_bytes word.Start = codes "start"
keyword_bytes word.Memory = codes "memory"
keyword_bytes word.Format = codes "format"
keyword_bytes word.Op = codes "op"
keyword_bytes word.Crash = codes "crash"
keyword_bytes word.Tick = codes "tick"
keyword_bytes word.Recover = codes "recover"
keyword_bytes word.Relate = codes "relate"
keyword_bytes word.Always = codes "always"
keyword_bytes word.Settled = codes "settled"
keyword_bytes word.Maybe = codes "maybe"
keyword_bytes word.Spec = codes "spec"
keyword_bytes word.On = codes "on"
keyword_bytes word.Impl = codes "impl"
keyword_bytes word.Low = codes "low"
keyword_bytes word.Pick = codes "pick"
keyword_bytes word.Resize = codes "resize"
keyword_bytes word.Fill = codes "fill"
keyword_bytes word.All = codes "all"
keyword_bytes word.Any = codes "any"
keyword_bytes word.Below = codes "below"
keyword_bytes word.Return = codes "return"
keyword_bytes word.Let = codes "let"
keyword_bytes word.If = codes "if"
keyword_bytes word.Else = codes "else"
keyword_bytes word.For = codes "for"
keyword_bytes word.Call = codes "call"
keyword_bytes word.Choose = codes "choose"

-- how each symbol is spelled
abbrev pub symbol_bytes : Symbol → List ℕ
symbol_bytes symbol.BraceOpen = codes "{"
symbol_bytes symbol.BraceClose = codes "}"
symbol_bytes symbol.RoundOpen = codes "("
symbol_bytes symbol.RoundClose = codes ")"
symbol_bytes symbol.SquareOpen = codes "["
symbol_bytes symbol.SquareClose = codes "]"
symbol_bytes symbol.Semicolon = codes ";"
symbol_bytes symbol.Colon = codes ":"
symbol_bytes symbol.Comma = codes ","
symbol_bytes symbol.Dot = codes "."
symbol_bytes symbol.Assign = codes "="
symbol_bytes symbol.Equal = codes "=="
symbol_bytes symbol.NotEqual = codes "!="
symbol_bytes symbol.Less = codes "<"
symbol_bytes symbol.LessOrEqual = codes "<="
symbol_bytes symbol.Greater = codes ">"
symbol_bytes symbol.GreaterOrEqual = codes ">="
symbol_bytes symbol.Plus = codes "+"
symbol_bytes symbol.Minus = codes "-"
symbol_bytes symbol.Star = codes "*"
symbol_bytes symbol.Ampersand = codes "&"
symbol_bytes symbol.Bar = codes "|"
symbol_bytes symbol.Caret = codes "^"
symbol_bytes symbol.Tilde = codes "~"
symbol_bytes symbol.ShiftLeft = codes "<<"
symbol_bytes symbol.ShiftRight = codes ">>"
symbol_bytes symbol.Implies = codes "=>"
symbol_bytes symbol.Arrow = codes "->"

-- all keywords
abbrev pub keywords : List Keyword
keywords =
    word.Yggdrasil ∷ word.Disk ∷ word.Sync ∷ word.Async ∷ word.Of ∷ word.Def ∷ word.Word ∷ word.Row ∷ word.Table ∷ word.Layer ∷ word.State
    ∷ word.Start ∷ word.Memory ∷ word.Format ∷ word.Op ∷ word.Crash ∷ word.Tick ∷ word.Recover ∷ word.Relate ∷ word.Always ∷ word.Settled
    ∷ word.Maybe ∷ word.Spec ∷ word.On ∷ word.Impl ∷ word.Low ∷ word.Pick ∷ word.Resize ∷ word.Fill ∷ word.All ∷ word.Any ∷ word.Below
    ∷ word.Return ∷ word.Let ∷ word.If ∷ word.Else ∷ word.For ∷ word.Call ∷ word.Choose ∷ []

-- all symbols
abbrev pub symbols : List Symbol
symbols =
    symbol.BraceOpen ∷ symbol.BraceClose ∷ symbol.RoundOpen ∷ symbol.RoundClose ∷ symbol.SquareOpen ∷ symbol.SquareClose ∷ symbol.Semicolon
    ∷ symbol.Colon ∷ symbol.Comma ∷ symbol.Dot ∷ symbol.Assign ∷ symbol.Equal ∷ symbol.NotEqual ∷ symbol.Less ∷ symbol.LessOrEqual
    ∷ symbol.Greater ∷ symbol.GreaterOrEqual ∷ symbol.Plus ∷ symbol.Minus ∷ symbol.Star ∷ symbol.Ampersand ∷ symbol.Bar ∷ symbol.Caret
    ∷ symbol.Tilde ∷ symbol.ShiftLeft ∷ symbol.ShiftRight ∷ symbol.Implies ∷ symbol.Arrow ∷ []

-- how a token is written: a name as it is, a number in decimal digits
abbrev pub mark_bytes : Mark → List ℕ
mark_bytes (mark.Name text) = text
mark_bytes (mark.Num number) = decimal number
mark_bytes (mark.Keyword keyword) = keyword_bytes keyword
mark_bytes (mark.Symbol sign) = symbol_bytes sign
