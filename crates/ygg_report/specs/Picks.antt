-- How picks are written.
use Rattle.std.specs.Prelude.{ℕ, Bool, List, [], ◌∷◌, if◌then◌else◌, codes}

-- the digit of a pick
abbrev pub pick_digit : Bool → ℕ
pick_digit pick = if pick then 49 else 48

-- the digits of picks
abbrev pub digits_text : List Bool → List ℕ
digits_text [] = []
digits_text (pick ∷ picks) = pick_digit pick ∷ digits_text picks

-- the word of picks: `-` for none, and else a digit for each
abbrev pub bits_text : List Bool → List ℕ
bits_text [] = codes "-"
bits_text (pick ∷ picks) = digits_text (pick ∷ picks)
