-- The canonical text of marks.
use Rattle.std.specs.Prelude.{ℕ, ◌+◌, ◌-◌, ◌*◌, Bool, true, false, not, ◌||◌, ◌&&◌, if◌then◌else◌, List, [], ◌∷◌, ◌++◌, replicate, Option, Some, None}
use Rattle.ygg_base.specs.declared.token.Keyword.TheVariants as word
use Rattle.ygg_base.specs.declared.token.Symbol.TheVariants as symbol
use Rattle.ygg_base.specs.declared.token.Mark.{Mark}
use Rattle.ygg_base.specs.declared.token.Mark.TheVariants as mark
use Rattle.ygg_base.specs.Spelling.{mark_bytes}

-- a `{`
abbrev pub is_brace_open : Mark → Bool
is_brace_open (mark.Symbol symbol.BraceOpen) = true
is_brace_open _ = false

-- a `}`
abbrev pub is_brace_close : Mark → Bool
is_brace_close (mark.Symbol symbol.BraceClose) = true
is_brace_close _ = false

-- a `;`
abbrev pub is_semicolon : Mark → Bool
is_semicolon (mark.Symbol symbol.Semicolon) = true
is_semicolon _ = false

-- a `(`
abbrev pub is_round_open : Mark → Bool
is_round_open (mark.Symbol symbol.RoundOpen) = true
is_round_open _ = false

-- a `:`
abbrev pub is_colon : Mark → Bool
is_colon (mark.Symbol symbol.Colon) = true
is_colon _ = false

-- a number
abbrev pub is_number : Mark → Bool
is_number (mark.Num number) = true
is_number _ = false

-- the first of these marks is such a one
abbrev pub is_next : (Mark → Bool) → List Mark → Bool
is_next is_such [] = false
is_next is_such (next ∷ others) = is_such next

-- `impl`, `else` and `on` stand in the line of the `}` before them
abbrev pub continues : Mark → Bool
continues (mark.Keyword word.Impl) = true
continues (mark.Keyword word.Else) = true
continues (mark.Keyword word.On) = true
continues _ = false

-- a line ends after `;`, after `{`, and after a `}` that isn't followed by `impl`, `else` or `on`
abbrev pub ends_line : Mark → List Mark → Bool
ends_line this others = is_semicolon this || (is_brace_open this || (is_brace_close this && not (is_next continues others)))

-- how many braces are open where a mark stands, of so many that were before it: a `}` closes its own first
abbrev pub depth_at : ℕ → Mark → ℕ
depth_at depth this = if is_brace_close this then depth - 1 else depth

-- how many braces are open after a mark
abbrev pub depth_after : ℕ → Mark → ℕ
depth_after depth this = if is_brace_open this then depth_at depth this + 1 else depth_at depth this

-- no space stands after `(`, `[`, `.` and `~`
abbrev pub joins_next : Mark → Bool
joins_next (mark.Symbol symbol.RoundOpen) = true
joins_next (mark.Symbol symbol.SquareOpen) = true
joins_next (mark.Symbol symbol.Dot) = true
joins_next (mark.Symbol symbol.Tilde) = true
joins_next _ = false

-- no space stands before `)`, `]`, `[`, `;`, `,` and `.`
abbrev pub joins_previous : Mark → Bool
joins_previous (mark.Symbol symbol.RoundClose) = true
joins_previous (mark.Symbol symbol.SquareClose) = true
joins_previous (mark.Symbol symbol.SquareOpen) = true
joins_previous (mark.Symbol symbol.Semicolon) = true
joins_previous (mark.Symbol symbol.Comma) = true
joins_previous (mark.Symbol symbol.Dot) = true
joins_previous _ = false

-- a name, `pick`, `resize`, `fill`, `row`, `all` and `any` take what stands in `(` and `)` after them
abbrev pub takes_arguments : Mark → Bool
takes_arguments (mark.Name text) = true
takes_arguments (mark.Keyword word.Pick) = true
takes_arguments (mark.Keyword word.Resize) = true
takes_arguments (mark.Keyword word.Fill) = true
takes_arguments (mark.Keyword word.Row) = true
takes_arguments (mark.Keyword word.All) = true
takes_arguments (mark.Keyword word.Any) = true
takes_arguments _ = false

-- no space stands between what takes arguments and its `(`
abbrev pub begins_arguments : Mark → Mark → Bool
begins_arguments previous this = takes_arguments previous && is_round_open this

-- no space stands on either side of a `:` that a number follows
abbrev pub joins_number : Mark → Mark → List Mark → Bool
joins_number previous this others = (is_colon previous && is_number this) || (is_colon this && is_next is_number others)

-- whether no space stands between two marks of a line, where others follow
abbrev pub is_joined : Mark → Mark → List Mark → Bool
is_joined previous this others =
    joins_next previous || (joins_previous this || (begins_arguments previous this || joins_number previous this others))

-- what stands before a mark: two spaces for each open brace where it begins its line, and one where another mark stands before it, unless they are joined
abbrev pub gap : ℕ → Option Mark → Mark → List Mark → List ℕ
gap depth None this others = replicate (2 * depth_at depth this) 32
gap depth (Some previous) this others = if is_joined previous this others then [] else 32 ∷ []

-- the line feed after a mark that ends its line
abbrev pub line_end : Mark → List Mark → List ℕ
line_end this others = if ends_line this others then 10 ∷ [] else []

-- the mark before the next one in its line
abbrev pub previous_after : Mark → List Mark → Option Mark
previous_after this others = if ends_line this others then None else Some this

-- a mark with what stands before it, and with its line's end
abbrev pub laid : ℕ → Option Mark → Mark → List Mark → List ℕ
laid depth previous this others = gap depth previous this others ++ (mark_bytes this ++ line_end this others)

-- the text of marks before which so many braces are open, and before which that mark stands in the line that has begun
abbrev pub layout_from : ℕ → Option Mark → List Mark → List ℕ
layout_from depth previous [] = []
layout_from depth previous (this ∷ others) =
    laid depth previous this others ++ layout_from (depth_after depth this) (previous_after this others) others

-- the canonical text of marks
abbrev pub layout : List Mark → List ℕ
layout marks = layout_from 0 None marks
