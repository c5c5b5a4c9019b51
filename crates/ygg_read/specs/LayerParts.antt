-- The parts of a layer that are read on their own.
use Rattle.std.specs.Prelude.{◌≡◌, List, [], ◌∷◌, map}
use Rattle.ygg_base.specs.declared.token.Keyword.{Keyword}
use Rattle.ygg_base.specs.declared.token.Keyword.TheVariants as word
use Rattle.ygg_base.specs.declared.token.Symbol.TheVariants as sign
use Rattle.ygg_base.specs.declared.token.Mark.{Mark}
use Rattle.ygg_base.specs.declared.token.Mark.TheVariants as mark
use Rattle.ygg_base.specs.declared.token.Token.{Token}
use Rattle.ygg_syntax.specs.declared.tree.Place.{Place}
use Rattle.ygg_syntax.specs.Reading.{Reading, token, in_turn}
use Rattle.ygg_syntax.specs.Expressions.{symbol}
use Rattle.ygg_syntax.specs.Files.{claim}
use Rattle.ygg_syntax.specs.Pending.{Pending, Part, beginning, rest_of, repeated, expression, word_of, sign_of}
use Rattle.ygg_syntax.specs.Pending as pending
use Rattle.ygg_read.specs.ExpressionSteps.{Reads}
use Rattle.ygg_read.specs.declared.claims.LayerClaims.{LayerClaims}

-- what is read takes this mark, wherever it stands, and the tokens between
abbrev pub ReadsAfter : Mark → Reading → List Token → List Token → Type 0
ReadsAfter first r from rest = (at : Place) → Reads (r ∷ []) (token first at ∷ from) rest

-- what holds of each part that is this keyword and these symbols
abbrev pub ForRepeated : Keyword → List Pending → (Part → Type 0) → Type 0
ForRepeated keyword rest P = (p : Part) → beginning p ≡ mark.Keyword keyword → rest_of p ≡ rest → P p

-- what follows the keyword of a claim
abbrev pub rest_of_claim : List Pending
rest_of_claim = expression ∷ sign_of sign.Semicolon ∷ []

-- a layer from its relation on
abbrev pub claims_pending : List Pending
claims_pending = word_of word.Relate ∷ expression ∷ sign_of sign.Semicolon ∷ repeated pending.always ∷ repeated pending.settled
    ∷ repeated pending.maybe ∷ sign_of sign.BraceClose ∷ []

-- what that reads
abbrev pub claims_read : LayerClaims → List Reading
claims_read c =
    claim word.Relate c.relate ∷ in_turn (map (claim word.Always) c.always) ∷ in_turn (map (claim word.Settled) c.settled)
    ∷ in_turn (map (claim word.Maybe) c.maybe) ∷ symbol sign.BraceClose ∷ []
