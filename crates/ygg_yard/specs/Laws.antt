-- The law of the texts that are made.
use Rattle.std.specs.Prelude.{ℕ, ◌≤◌}
use Rattle.ygg_base.specs.declared.failure.Refusal.{Refusal}
use Rattle.ygg_base.specs.declared.tokens.Tokens.{Tokens}
use Rattle.ygg_syntax.specs.declared.tree.File.{File}
use Rattle.ygg_yard.specs.Texts.{made}
use Rattle.ygg_accept.specs.Accepting.{IsAccepted, RefusesLayers}
pub use Rattle.ygg_yard.specs.RefinesLaws.{HoldsAll}

-- the text for a number is accepted, is never refused, and each layer file that it is has two obligations for each operation and three more, which all hold
pub record IsSound (count : ℕ) : Type 0 where
  pub tokens : Tokens
  pub file : File
  pub accepted : IsAccepted (made count) tokens file
  pub never : (r : Refusal) → RefusesLayers (made count) r → ⊥
  pub sound : (tokens : Tokens) (f : File) → IsAccepted (made count) tokens f → HoldsAll count f

-- so it is of each number of operations that there may be
abbrev pub MadeIsSound : Type 0
MadeIsSound = (count : ℕ) → 1 ≤ count → count ≤ 64 → IsSound count
