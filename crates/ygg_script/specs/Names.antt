-- The words of a script's lines.
use Rattle.std.specs.Prelude.{ℕ, Bool, false, not, ◌&&◌, if◌then◌else◌, List, [], ◌∷◌, Option, Some, None, is_some}
use Rattle.std.specs.List.{list_all}
use Rattle.ygg_base.specs.Lexing.{is_lower, is_name_byte, keyword_of}
use Rattle.ygg_sched.specs.Words.{is_empty, cut_at, parts}

-- a name of the layer language: a lower-case letter, then lower-case letters, digits and `_`, and no keyword
abbrev pub is_name : List ℕ → Bool
is_name [] = false
is_name (first ∷ others) = is_lower first && list_all is_name_byte others && not (is_some (keyword_of (first ∷ others)))

-- whether none of these words is empty
abbrev pub are_words : List (List ℕ) → Bool
are_words = list_all (λ word. not (is_empty word))

-- words of which the first is a name and no other is empty: the name and the others
abbrev pub name_first : List (List ℕ) → Option (List ℕ × List (List ℕ))
name_first [] = None
name_first (name ∷ values) = if is_name name && are_words values then Some (name, values) else None

-- the operation's name and the values that are written after `call `, with one space between each two
abbrev pub call_in : List ℕ → Option (List ℕ × List (List ℕ))
call_in bytes = name_first (parts 32 bytes)

-- two names, the second of them where there is one
abbrev pub two_names : List ℕ → Option (List ℕ) → Option (List ℕ × List ℕ)
two_names first None = None
two_names first (Some second) = if is_name first && is_name second then Some (first, second) else None

-- the names of a layer and of its background step that are written after `tick `, with a dot between them
abbrev pub tick_in : List ℕ → Option (List ℕ × List ℕ)
tick_in bytes = two_names (cut_at 46 bytes).0 (cut_at 46 bytes).1
