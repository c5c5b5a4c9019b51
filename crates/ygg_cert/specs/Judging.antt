-- What is said of a text as a certificate for goals.
use Rattle.std.specs.Prelude.{◌≡◌, ℕ, ◌+◌, ◌==◌, if◌then◌else◌, List, [], ◌∷◌, ◌++◌, length, ◌⊎◌}
use Rattle.ygg_base.specs.declared.failure.Refusal.{Refusal}
use Rattle.ygg_cert.specs.declared.item.Goal.{Goal}
use Rattle.ygg_cert.specs.declared.verdict.CertEnd.{CertEnd}
use Rattle.ygg_cert.specs.declared.verdict.CertEnd.TheVariants as cert
use Rattle.ygg_cert.specs.declared.verdict.Fed.{Fed}
use Rattle.ygg_cert.specs.declared.verdict.Fed.TheVariants as fed
use Rattle.ygg_cert.specs.Places.{Place, Start, End, MayStand, IsBad, Leads, GoesOn}

-- lines, one after another
abbrev pub joined : List (List ℕ) → List ℕ
joined [] = []
joined (line ∷ lines) = line ++ joined lines

-- the lines lead from a place to a place, each to where the next one stands
abbrev pub LeadBy : Place → List (List ℕ) → Place → Type 0
LeadBy from [] to = from ≡ to
LeadBy from (line ∷ lines) to = (next : Place) × (Leads from line next × LeadBy next lines to)

-- the text begins with so many lines that lead to the place, and this follows them
pub record Reaches (goals : List Goal) (text : List ℕ) (place : Place) (count : ℕ) (rest : List ℕ) : Type 0 where
  pub lines : List (List ℕ)
  pub is : text ≡ joined lines ++ rest
  pub counted : length lines ≡ count
  pub lead : LeadBy (Start goals) lines place

-- the refusal of the line after so many, for another line than may stand there
abbrev pub wrong_after : ℕ → Refusal
wrong_after count = record { number = if count == 0 then 21 else 22; line = count + 1; column = 1 }

-- the refusal of a text that ends after so many lines and bytes
abbrev pub short_after : ℕ → ℕ → Refusal
short_after count bytes = record { number = 24; line = count + 1; column = bytes + 1 }

-- all lines lead on, the last one to the end
pub record IsWhole (goals : List Goal) (text : List ℕ) (checked : ℕ) : Type 0 where
  pub count : ℕ
  pub reaches : Reaches goals text End count []
  pub all : checked ≡ length goals

-- after lines that lead on comes one at fault in a log
pub record IsBadAt (goals : List Goal) (text : List ℕ) (name : List ℕ) (number : ℕ) : Type 0 where
  pub place : Place
  pub count : ℕ
  pub line : List ℕ
  pub others : List ℕ
  pub reaches : Reaches goals text place count (line ++ others)
  pub bad : IsBad place line name number

-- after lines that lead on comes what can't be continued to a line that may stand there
pub record IsWrongAt (goals : List Goal) (text : List ℕ) (refusal : Refusal) : Type 0 where
  pub place : Place
  pub count : ℕ
  pub rest : List ℕ
  pub reaches : Reaches goals text place count rest
  pub wrong : GoesOn place rest → ⊥
  pub is : refusal ≡ wrong_after count

-- after lines that lead on the text ends, within or before a line that may stand there
pub record IsCutAt (goals : List Goal) (text : List ℕ) (refusal : Refusal) : Type 0 where
  pub place : Place
  pub count : ℕ
  pub rest : List ℕ
  pub next : ℕ
  pub more : List ℕ
  pub reaches : Reaches goals text place count rest
  pub may : MayStand place (rest ++ next ∷ more)
  pub is : refusal ≡ short_after count (length rest)

-- what is said of a text, out of memory aside
abbrev pub Judges : List Goal → List ℕ → CertEnd → Type 0
Judges goals text (cert.Checked count) = IsWhole goals text count
Judges goals text (cert.Bad name number) = IsBadAt goals text name number
Judges goals text (cert.Refused refusal) = IsWrongAt goals text refusal ⊎ IsCutAt goals text refusal
Judges goals text cert.Memory = Unit {0}

-- the text holds a line at fault, which no further bytes mend
abbrev pub IsFaulty : List Goal → List ℕ → CertEnd → Type 0
IsFaulty goals text (cert.Bad name number) = IsBadAt goals text name number
IsFaulty goals text (cert.Refused refusal) = IsWrongAt goals text refusal
IsFaulty goals text _ = ⊥

-- what is said of the bytes so far, out of memory aside: that they hold a line at fault, or that they hold none
abbrev pub SoFar : List Goal → List ℕ → Fed → Type 0
SoFar goals text fed.More = ((count : ℕ) × IsWhole goals text count) ⊎ ((refusal : Refusal) × IsCutAt goals text refusal)
SoFar goals text fed.Over = (end : CertEnd) × IsFaulty goals text end
SoFar goals text fed.Memory = Unit {0}
