-- Where a file is refused.
use Rattle.std.specs.Prelude.{◌≡◌, ℕ, ◌-◌, [], ◌∷◌, length, slice_get, Option, Some, None}
use Rattle.ygg_base.specs.declared.failure.Refusal.{Refusal}
use Rattle.ygg_base.specs.declared.reason.Reason.TheVariants.{Syntax}
use Rattle.ygg_base.specs.Reason.{refusal_at}
use Rattle.ygg_base.specs.declared.token.Token.{Token}
use Rattle.ygg_base.specs.declared.tokens.Tokens.{Tokens}
use Rattle.ygg_syntax.specs.declared.tree.Place.{Place}
use Rattle.ygg_syntax.specs.declared.tree.File.{File}
use Rattle.ygg_syntax.specs.Files.{Derives}
use Rattle.ygg_syntax.specs.Pending.{file, outcome, stops}

-- the place of a token, or the end of the text where there is none
abbrev pub place_of : Tokens → Option Token → Place
place_of tokens None = record { line = tokens.line; column = tokens.column }
place_of tokens (Some t) = record { line = t.line; column = t.column }

-- the place where so many tokens are left
abbrev pub place_with : Tokens → ℕ → Place
place_with tokens left = place_of tokens (slice_get tokens.items (length tokens.items - left))

-- no file derives, and the refusal is at the first token that the pending symbols can't take, or at the end of the text
pub record IsRefusal (tokens : Tokens) (refusal : Refusal) : Type 0 where
  pub nothing : (tree : File) → Derives tokens.items tree → ⊥
  pub left : ℕ
  pub stopped : outcome (file ∷ []) tokens.items ≡ stops left
  pub at : refusal ≡ refusal_at Syntax (place_with tokens left).line (place_with tokens left).column
