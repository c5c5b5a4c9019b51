-- What reading of statements and blocks does.
use Rattle.std.specs.Prelude.{◌≡◌, Bool, true, false, List, [], ◌∷◌, map}
use Rattle.ygg_base.specs.declared.token.Keyword.{Keyword}
use Rattle.ygg_base.specs.declared.token.Mark.{Mark}
use Rattle.ygg_base.specs.declared.token.Mark.TheVariants as mark
use Rattle.ygg_base.specs.declared.token.Token.{Token}
use Rattle.ygg_syntax.specs.declared.grammar.BlockKind.{BlockKind}
use Rattle.ygg_syntax.specs.declared.tree.Place.{Place}
use Rattle.ygg_syntax.specs.declared.tree.Stmt.{Stmt}
use Rattle.ygg_syntax.specs.Reading.{Reading, token}
use Rattle.ygg_syntax.specs.Blocks.{statement}
use Rattle.ygg_syntax.specs.Pending.{Pending, Part, block, statements, beginning, rest_of, After, leaves, drops, refuses, after, outcome}
use Rattle.ygg_read.specs.ExpressionSteps.{Reads}

-- statements, one after another
abbrev pub statements_of : BlockKind → List Stmt → List Reading
statements_of kind ss = map (λ (s : BlockKind → Reading). s kind) (map statement ss)

-- the statement reads this mark, wherever it stands, and the tokens between
abbrev pub ReadsAfter : Mark → BlockKind → Stmt → List Token → List Token → Type 0
ReadsAfter first kind s from rest = (at : Place) → Reads (statement s kind ∷ []) (token first at ∷ from) rest

-- the pending statements take the tokens between, and statements may come next
abbrev pub GoesAsStatement : BlockKind → List Token → List Token → Type 0
GoesAsStatement kind from rest = (qs : List Pending) → outcome (statements kind ∷ qs) from ≡ outcome (statements kind ∷ qs) rest

-- what holds of each part that is this keyword and a block of this kind
abbrev pub ForPart : Keyword → BlockKind → (Part → Type 0) → Type 0
ForPart keyword kind P = (p : Part) → beginning p ≡ mark.Keyword keyword → rest_of p ≡ block kind ∷ [] → P p

-- whether the token is taken
abbrev pub takes_token : After → Bool
takes_token (leaves ps) = true
takes_token drops = false
takes_token refuses = false

-- whether a statement begins with the next token
abbrev pub begins : BlockKind → List Token → Bool
begins kind [] = false
begins kind (t ∷ ts) = takes_token (after (statements kind) t.mark)
