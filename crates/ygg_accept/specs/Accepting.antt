-- Which texts are layer files without a type error, and the first refusal of each other text.
use Rattle.std.specs.Prelude.{◌≡◌, ◌⊎◌, ℕ, List, Ok, Err}
use Rattle.ygg_base.specs.declared.failure.Refusal.{Refusal}
use Rattle.ygg_base.specs.declared.tokens.Tokens.{Tokens}
use Rattle.ygg_base.specs.Lexing.{tokens_of}
use Rattle.ygg_syntax.specs.declared.tree.File.{File}
use Rattle.ygg_syntax.specs.Files.{Derives}
use Rattle.ygg_read.specs.Refused.{IsRefusal}
use Rattle.ygg_type.specs.ygg_type_rules.Files.{IsTyped}
use Rattle.ygg_type.specs.Typed.{IsFirstTypeError}

-- the text has these tokens, from which this file derives and no other, and the file has no type error
pub record IsAccepted (text : List ℕ) (tokens : Tokens) (file : File) : Type 0 where
  pub spells : tokens_of text ≡ Ok tokens
  pub derives : Derives tokens.items file
  pub only : (other : File) → Derives tokens.items other → other ≡ file
  pub typed : IsTyped file

-- from these tokens a file derives and no other, and this is the refusal of its least type error
pub record IsMistyped (tokens : Tokens) (r : Refusal) : Type 0 where
  pub file : File
  pub derives : Derives tokens.items file
  pub only : (other : File) → Derives tokens.items other → other ≡ file
  pub first : IsFirstTypeError file r

-- the refusal of a text with these tokens: of the first that can't come, or of the least type error of the file that they are
abbrev pub RefusesTokens : Tokens → Refusal → Type 0
RefusesTokens tokens r = IsRefusal tokens r ⊎ IsMistyped tokens r

-- the refusal of a text: at a byte that begins no token, or of its tokens
abbrev pub RefusesLayers : List ℕ → Refusal → Type 0
RefusesLayers text r = (tokens_of text ≡ Err r) ⊎ ((tokens : Tokens) × (tokens_of text ≡ Ok tokens) × RefusesTokens tokens r)
