-- The one canonical text of a layer file, and what its tokens derive.
use Rattle.std.specs.Prelude.{ℕ, List, map, Ok, Err}
use Rattle.std.specs.List.{All}
use Rattle.ygg_base.specs.declared.token.Token.{Token}
use Rattle.ygg_base.specs.Lexing.{Lexed, tokens_of}
use Rattle.ygg_syntax.specs.declared.tree.File.{File}
use Rattle.ygg_syntax.specs.Files.{Derives}
use Rattle.ygg_print.specs.PrintedFiles.{file_printed}
use Rattle.ygg_print.specs.Layout.{layout}
use Rattle.ygg_print.specs.TreeLaws.{IsMark}
use Rattle.ygg_print.specs.UniqueLaws.{DerivesAs}

-- the marks of the file in order, as they are laid out
abbrev pub canonical : File → List ℕ
canonical file = layout (file_printed file)

-- the tokens are such as texts have
abbrev pub AreOfLanguage : List Token → Type 0
AreOfLanguage tokens = All IsMark (map (λ (token : Token). token.mark) tokens)

-- there are tokens and no refusal. From them derives this file but for places, and no other
abbrev pub GivesAgain : Lexed → File → Type 0
GivesAgain (Ok found) file = DerivesAs found.items file
GivesAgain (Err refusal) file = ⊥

-- where the file derives from some tokens of the language, it derives but for places from the tokens of the text
abbrev pub IsReadAgain : List ℕ → File → Type 0
IsReadAgain text file = (source : List Token) → AreOfLanguage source → Derives source file → GivesAgain (tokens_of text) file
