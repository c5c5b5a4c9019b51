-- The places within the line of a step: what stands before each of them, and what may come after it.
use Rattle.std.specs.Prelude.{◌≡◌, ℕ, List, [], ◌∷◌, ◌++◌, All, codes}
use Rattle.std.specs.Fmt.{decimal}
use Rattle.ygg_cnf.specs.declared.lit.Lit.{Lit}
use Rattle.ygg_cnf.specs.declared.log.Step.TheVariants.{Added}
use Rattle.ygg_cnf.specs.Lines.{literal_word, literal_words, number_words, step_line}
use Rattle.ygg_cnf.specs.declared.spot.Spot.{Spot}
use Rattle.ygg_cnf.specs.declared.spot.Spot.TheVariants as spot
use Rattle.ygg_cnf.specs.declared.spot.SpotTurn.{SpotTurn}
use Rattle.ygg_cnf.specs.declared.spot.SpotTurn.TheVariants as turn
use Rattle.ygg_cnf.specs.Steps.{IsNumber, IsLiteral}

-- the number whose digits are being read is one that a line may have
abbrev pub IsSpot : Spot → Type 0
IsSpot (spot.Variable negated number) = IsNumber number
IsSpot (spot.Digits number) = IsNumber number
IsSpot _ = Unit {0}

-- no literals are read before their place, and no numbers of clauses before theirs
abbrev pub IsBare : Spot → List Lit → List ℕ → Type 0
IsBare spot.Begin clause chain = (clause ≡ []) × (chain ≡ [])
IsBare spot.Opened clause chain = (clause ≡ []) × (chain ≡ [])
IsBare spot.Number clause chain = Unit {0}
IsBare (spot.Digits number) clause chain = Unit {0}
IsBare spot.End clause chain = Unit {0}
IsBare _ clause chain = chain ≡ []

-- the bytes of the line before the place, after these literals and numbers
abbrev pub front_of : Spot → List Lit → List ℕ → List ℕ
front_of spot.Begin clause chain = []
front_of spot.Opened clause chain = codes "c"
front_of spot.Literal clause chain = codes "c " ++ literal_words clause
front_of spot.Minus clause chain = codes "c " ++ literal_words clause ++ codes "-"
front_of (spot.Variable negated number) clause chain =
    codes "c " ++ literal_words clause ++ literal_word (record { var = number; negated = negated })
front_of spot.Middle clause chain = codes "c " ++ literal_words clause ++ codes "0"
front_of spot.Number clause chain = codes "c " ++ literal_words clause ++ codes "0 " ++ number_words chain
front_of (spot.Digits number) clause chain = codes "c " ++ literal_words clause ++ codes "0 " ++ number_words chain ++ decimal number
front_of spot.End clause chain = codes "c " ++ literal_words clause ++ codes "0 " ++ number_words chain ++ codes "0"

-- numbers, each with a space after it, and then these bytes
abbrev pub numbers_then : List ℕ → List ℕ → List ℕ
numbers_then [] after = after
numbers_then (n ∷ ns) after = decimal n ++ 32 ∷ numbers_then ns after

-- literals, each with a space after it, and then these bytes
abbrev pub literals_then : List Lit → List ℕ → List ℕ
literals_then [] after = after
literals_then (x ∷ xs) after = literal_word x ++ 32 ∷ literals_then xs after

-- the bytes begin with numbers, the last 0 and the line feed
pub record BeginsNumbers (bytes : List ℕ) : Type 0 where
  pub numbers : List ℕ
  pub others : List ℕ
  pub may : All IsNumber numbers
  pub is : bytes ≡ numbers_then numbers (48 ∷ 10 ∷ others)

-- the bytes begin with literals, and go on with the 0 after them and with numbers
pub record BeginsLiterals (bytes : List ℕ) : Type 0 where
  pub literals : List Lit
  pub after : List ℕ
  pub may : All IsLiteral literals
  pub rest : BeginsNumbers after
  pub is : bytes ≡ literals_then literals (48 ∷ 32 ∷ after)

-- the bytes begin with this one, and go on so
abbrev pub After : ℕ → (List ℕ → Type 0) → List ℕ → Type 0
After b Rest bytes = (rest : List ℕ) × ((bytes ≡ b ∷ rest) × Rest rest)

-- the bytes begin with the further digits of a number that has these digits first, and go on so after a space
pub record EndsNumber (digits : List ℕ) (Rest : List ℕ → Type 0) (bytes : List ℕ) : Type 0 where
  pub number : ℕ
  pub further : List ℕ
  pub rest : List ℕ
  pub may : IsNumber number
  pub digits_are : decimal number ≡ digits ++ further
  pub is : bytes ≡ further ++ 32 ∷ rest
  pub goes_on : Rest rest

-- the bytes go on from the place so that a line is read to its end
abbrev pub GoesOn : Spot → List ℕ → Type 0
GoesOn spot.Begin bytes = After 99 (After 32 BeginsLiterals) bytes
GoesOn spot.Opened bytes = After 32 BeginsLiterals bytes
GoesOn spot.Literal bytes = BeginsLiterals bytes
GoesOn spot.Minus bytes = EndsNumber [] BeginsLiterals bytes
GoesOn (spot.Variable negated number) bytes = EndsNumber (decimal number) BeginsLiterals bytes
GoesOn spot.Middle bytes = After 32 BeginsNumbers bytes
GoesOn spot.Number bytes = BeginsNumbers bytes
GoesOn (spot.Digits number) bytes = EndsNumber (decimal number) BeginsNumbers bytes
GoesOn spot.End bytes = After 10 (λ rest. Unit {0}) bytes

-- The byte leads from a place, after literals and numbers, to a place after others: what stands before the one and the byte stand before the other, and what
-- goes on from the one with this byte goes on from the other.
pub record Leads (from : Spot) (byte : ℕ) (to : Spot) (grow : List Lit → List Lit) (reach : List ℕ → List ℕ) : Type 0 where
  pub front : (clause : List Lit) (chain : List ℕ) → IsBare from clause chain →
      front_of to (grow clause) (reach chain) ≡ front_of from clause chain ++ byte ∷ []
  pub bare : (clause : List Lit) (chain : List ℕ) → IsBare from clause chain → IsBare to (grow clause) (reach chain)
  pub on : (bytes : List ℕ) → GoesOn from (byte ∷ bytes) → GoesOn to bytes
  pub is : IsSpot to

-- what the byte does at the place
abbrev pub Turns : Spot → ℕ → SpotTurn → Type 0
Turns from byte (turn.To to) = Leads from byte to (λ clause. clause) (λ chain. chain)
Turns from byte (turn.Literal x) = IsLiteral x × Leads from byte spot.Literal (λ clause. clause ++ x ∷ []) (λ chain. chain)
Turns from byte (turn.Number n) = IsNumber n × Leads from byte spot.Number (λ clause. clause) (λ chain. chain ++ n ∷ [])
Turns from byte turn.Whole = (clause : List Lit) (chain : List ℕ) → front_of from clause chain ++ byte ∷ [] ≡ step_line (Added clause chain)
Turns from byte turn.Wrong = (bytes : List ℕ) → GoesOn from (byte ∷ bytes) → ⊥
