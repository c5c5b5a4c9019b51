-- The marks of the tokens of a file that is made.
use Rattle.std.specs.Prelude.{ℕ, zero, suc, List, [], ◌∷◌, ◌++◌, codes}
use Rattle.ygg_base.specs.declared.token.Keyword.TheVariants as word
use Rattle.ygg_base.specs.declared.token.Symbol.TheVariants as sign
use Rattle.ygg_base.specs.declared.token.Mark.{Mark}
use Rattle.ygg_base.specs.declared.token.Mark.TheVariants.{Name, Num, Keyword, Symbol}
use Rattle.ygg_yard.specs.Trees.{put_name}

-- those before the operations
abbrev pub head_marks : ℕ → List Mark
head_marks count =
    Keyword word.Yggdrasil ∷ Num 1 ∷ Symbol sign.Semicolon
    ∷ Keyword word.Disk ∷ Keyword word.Sync ∷ Num count ∷ Keyword word.Of ∷ Num 1 ∷ Keyword word.Of ∷ Num 8 ∷ Symbol sign.Semicolon
    ∷ Keyword word.Layer ∷ Name (codes "cells") ∷ Symbol sign.BraceOpen
    ∷ Keyword word.State ∷ Name (codes "t") ∷ Symbol sign.Colon
    ∷ Keyword word.Table ∷ Num count ∷ Keyword word.Of ∷ Num 1 ∷ Keyword word.Of ∷ Num 8 ∷ Symbol sign.Semicolon ∷ []

-- those of the operation of a number
abbrev pub operation_marks : ℕ → List Mark
operation_marks number =
    Keyword word.Op ∷ Name (put_name number) ∷ Symbol sign.RoundOpen
    ∷ Name (codes "v") ∷ Symbol sign.Colon ∷ Keyword word.Word ∷ Num 8 ∷ Symbol sign.RoundClose
    ∷ Keyword word.Spec ∷ Symbol sign.BraceOpen
    ∷ Name (codes "t") ∷ Symbol sign.SquareOpen ∷ Num number ∷ Symbol sign.Colon ∷ Num 8 ∷ Symbol sign.SquareClose ∷ Symbol sign.Assign
    ∷ Keyword word.Row ∷ Symbol sign.RoundOpen ∷ Name (codes "v") ∷ Symbol sign.RoundClose ∷ Symbol sign.Semicolon ∷ Symbol sign.BraceClose
    ∷ Keyword word.Impl ∷ Symbol sign.BraceOpen
    ∷ Keyword word.Call ∷ Name (codes "write") ∷ Symbol sign.RoundOpen ∷ Num number ∷ Symbol sign.Colon ∷ Num 8 ∷ Symbol sign.Comma
    ∷ Keyword word.Row ∷ Symbol sign.RoundOpen ∷ Name (codes "v") ∷ Symbol sign.RoundClose ∷ Symbol sign.RoundClose ∷ Symbol sign.Semicolon
    ∷ Symbol sign.BraceClose ∷ []

-- those of the operations of the numbers below this one
abbrev pub operations_marks : ℕ → List Mark
operations_marks zero = []
operations_marks (suc number) = operations_marks number ++ operation_marks number

-- those after the operations
abbrev pub tail_marks : List Mark
tail_marks =
    Keyword word.Relate ∷ Symbol sign.RoundOpen ∷ Keyword word.Low ∷ Symbol sign.Dot ∷ Name (codes "view") ∷ Symbol sign.Equal ∷ Name (codes "t")
    ∷ Symbol sign.RoundClose ∷ Symbol sign.Semicolon ∷ Symbol sign.BraceClose ∷ []

-- all of them
abbrev pub made_marks : ℕ → List Mark
made_marks count = head_marks count ++ (operations_marks count ++ tail_marks)
