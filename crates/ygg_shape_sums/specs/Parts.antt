-- Sums of terms, each so many times, modulo 2 ^ 64.
use Rattle.std.specs.Prelude.{ℕ, ◌+◌, ◌%◌, ◌^◌, ◌==◌, nat_lt, if◌then◌else◌, List, [], ◌∷◌, All}
use Rattle.ygg_shape_words.specs.ygg_bank.Nodes.{HasWidth}
use Rattle.ygg_shape_words.specs.ygg_bank.declared.node.Id.{Id}
use Rattle.ygg_shape_words.specs.ygg_bank.declared.node.Node.{Node}
use Rattle.ygg_shape_sums.specs.declared.parts.Summand.{Summand}

-- a number, and terms, each so many times
pub record Sum : Type 0 where
  pub number : ℕ
  pub parts : List Summand

abbrev pub part : ℕ → Id → Summand
part times term = record { times = times; term = term }

-- a number and no terms
abbrev pub empty : ℕ → Sum
empty number = record { number = number; parts = [] }

-- a term is there so many times more, before those of later places
abbrev pub merged : Summand → List Summand → List Summand
merged p [] = p ∷ []
merged p (q ∷ qs) =
    if q.term.0 == p.term.0 then part ((q.times + p.times) % 2 ^ 64) q.term ∷ qs
    else if nat_lt p.term.0 q.term.0 then p ∷ q ∷ qs else q ∷ merged p qs

abbrev pub with_part : Summand → Sum → Sum
with_part p s = record { number = s.number; parts = merged p s.parts }

-- the number is so much more
abbrev pub with_number : ℕ → Sum → Sum
with_number n s = record { number = (s.number + n) % 2 ^ 64; parts = s.parts }

-- the terms are words of this width
abbrev pub PartsFit : List Node → ℕ → List Summand → Type 0
PartsFit nodes w = All (λ (p : Summand). HasWidth nodes p.term w)

-- the terms are words of one width
pub record PartsAlike (nodes : List Node) (ps : List Summand) : Type 0 where
  pub width : ℕ
  pub fit : PartsFit nodes width ps
