-- What holds of files and the tokens that they derive from.
use Rattle.std.specs.Prelude.{◌≡◌, Bool, true, false, List, [], ◌∷◌, map}
use Rattle.ygg_base.specs.declared.token.Keyword.{Keyword}
use Rattle.ygg_base.specs.declared.token.Keyword.TheVariants as word
use Rattle.ygg_base.specs.declared.token.Symbol.TheVariants as sign
use Rattle.ygg_base.specs.declared.token.Mark.{Mark}
use Rattle.ygg_base.specs.declared.token.Mark.TheVariants as mark
use Rattle.ygg_base.specs.declared.token.Token.{Token}
use Rattle.ygg_syntax.specs.declared.tree.File.{File}
use Rattle.ygg_syntax.specs.Files.{Derives}
use Rattle.ygg_print.specs.PrintedFiles.{file_printed}
use Rattle.ygg_syntax.specs.Bare.{bare_file}

-- two files that derive from the same tokens are equal, places included
abbrev pub OneFileDerives : Type 0
OneFileDerives = (tokens : List Token) (file other : File) → Derives tokens file → Derives tokens other → file ≡ other

-- whether the block after this keyword may be left out where nothing is in it
abbrev pub is_optional : Keyword → Bool
is_optional word.Start = true
is_optional word.Format = true
is_optional word.Crash = true
is_optional word.Recover = true
is_optional word.Else = true
is_optional _ = false

-- marks as they are written, and the same without some of the empty blocks that may be left out
pub data LeftOut : List Mark → List Mark → Type 0 where
  nothing : LeftOut [] []
  keeps : {m : Mark} {written printed : List Mark} → LeftOut written printed → LeftOut (m ∷ written) (m ∷ printed)
  leaves : {k : Keyword} {written printed : List Mark} → is_optional k ≡ true → LeftOut written printed
      → LeftOut (mark.Keyword k ∷ mark.Symbol sign.BraceOpen ∷ mark.Symbol sign.BraceClose ∷ written) printed

-- the printed marks of a file are those of the tokens that it derives from without some of the empty blocks that may be left out
abbrev pub DerivedMarks : Type 0
DerivedMarks = (tokens : List Token) (file : File) → Derives tokens file → LeftOut (map (λ (token : Token). token.mark) tokens) (file_printed file)

-- the tokens have these marks in order, wherever they stand
abbrev pub HaveMarks : List Token → List Mark → Type 0
HaveMarks tokens marks = map (λ (token : Token). token.mark) tokens ≡ marks

-- a file derives from the tokens, it is the same as this one but for places, and no other derives from them
pub record DerivesAs (tokens : List Token) (file : File) : Type 0 where
  pub read : File
  pub derives : Derives tokens read
  pub same : bare_file read ≡ bare_file file
  pub only : (other : File) → Derives tokens other → other ≡ read

-- where a file derives from some tokens, it derives but for places from all tokens that have its printed marks
abbrev pub PrintedDerives : Type 0
PrintedDerives = (tokens : List Token) (file : File) → Derives tokens file → (printed : List Token) → HaveMarks printed (file_printed file) →
    DerivesAs printed file

-- files that are the same but for places have the same printed marks
abbrev pub SamePrinted : Type 0
SamePrinted = (file other : File) → bare_file file ≡ bare_file other → file_printed file ≡ file_printed other
