-- The law of the texts of files that are made.
use Rattle.std.specs.Prelude.{◌≡◌, ℕ, ◌<◌, ◌^◌, Ok}
use Rattle.ygg_base.specs.declared.tokens.Tokens.{Tokens}
use Rattle.ygg_base.specs.Lexing.{tokens_of}
use Rattle.ygg_syntax.specs.Files.{Derives}
use Rattle.ygg_yard.specs.Texts.{made}
use Rattle.ygg_yard.specs.Trees.{Places, file_made}

-- the text for this number has these tokens, and from them derives the file with so many operations, at these places
pub record IsReadAt (count : ℕ) : Type 0 where
  pub tokens : Tokens
  pub spells : tokens_of (made count) ≡ Ok tokens
  pub at : Places
  pub derives : Derives tokens.items (file_made at count)

-- so it is of each number that a text can hold
abbrev pub MadeIsRead : Type 0
MadeIsRead = (count : ℕ) → count < 2 ^ 64 → IsReadAt count
