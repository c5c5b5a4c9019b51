-- What is read from the front of tokens. The grammar is stated by what each tree reads rather than by the tokens of a tree,
-- since a tree doesn't determine its tokens: those whose place it doesn't keep may stand anywhere.
use Rattle.std.specs.Prelude.{Bool, false, ◌==◌, ◌&&◌, if◌then◌else◌, List, [], ◌∷◌, Option, Some, None}
use Rattle.std.specs.Str.{bytes_eq}
use Rattle.ygg_base.specs.Spelling.{keyword_bytes, symbol_bytes}
use Rattle.ygg_base.specs.declared.token.Mark.{Mark}
use Rattle.ygg_base.specs.declared.token.Mark.TheVariants as mark
use Rattle.ygg_base.specs.declared.token.Token.{Token}
use Rattle.ygg_syntax.specs.declared.tree.Place.{Place}

-- what is left of tokens that begin with what is read, or nothing where they don't begin so
abbrev pub Reading : Type 0
Reading = List Token → Option (List Token)

-- a token of this mark at this place
abbrev pub token : Mark → Place → Token
token m at = record { mark = m; line = at.line; column = at.column }

-- whether the marks are equal
abbrev pub same_mark : Mark → Mark → Bool
same_mark (mark.Name s) (mark.Name t) = bytes_eq s t
same_mark (mark.Num m) (mark.Num n) = m == n
same_mark (mark.Keyword j) (mark.Keyword k) = bytes_eq (keyword_bytes j) (keyword_bytes k)
same_mark (mark.Symbol s) (mark.Symbol t) = bytes_eq (symbol_bytes s) (symbol_bytes t)
same_mark _ _ = false

-- whether the next token has this mark
abbrev pub starts : Mark → List Token → Bool
starts m [] = false
starts m (t ∷ ts) = same_mark m t.mark

-- a token of this mark, wherever it stands
abbrev pub passes : Mark → Reading
passes m [] = None
passes m (t ∷ ts) = if same_mark m t.mark then Some ts else None

-- a token of this mark at this place
abbrev pub takes : Mark → Place → Reading
takes m at [] = None
takes m at (t ∷ ts) = if same_mark m t.mark && (t.line == at.line && t.column == at.column) then Some ts else None

-- one after the other
unfoldable pub in_turn : List Reading → Reading
in_turn [] from = Some from
in_turn (r ∷ rs) from = elim (r from) [ None ↦ None | Some rest ↦ in_turn rs rest ]

-- what no tokens begin with
abbrev pub impossible : Reading
impossible from = None
