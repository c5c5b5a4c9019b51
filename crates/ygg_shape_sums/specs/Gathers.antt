-- A sum of terms that are no sums.
use Rattle.std.specs.Prelude.{ℕ, zero, suc, Bool, true, false, ◌*◌, ◌%◌, ◌^◌, ◌==◌, ◌||◌}
use Rattle.std.specs.Prelude.{nat_lt, not, if◌then◌else◌, Option, Some, None, List, [], ◌∷◌, ◌++◌, count_by, slice_get}
use Rattle.ygg_shape_words.specs.ygg_bank.declared.node.Id.{Id}
use Rattle.ygg_shape_words.specs.ygg_bank.declared.node.Node.{Node}
use Rattle.ygg_shape_words.specs.ygg_bank.declared.node.Node.TheVariants.{Pick}
use Rattle.ygg_shape_sums.specs.Parts.{Sum, part, empty, with_part, with_number}
use Rattle.ygg_shape_sums.specs.Readings.{read}
use Rattle.ygg_shape_sums.specs.declared.parts.Summand.{Summand}
use Rattle.ygg_shape_sums.specs.declared.reading.Fact.{Fact}
use Rattle.ygg_shape_sums.specs.declared.reading.Decomposition.{Decomposition}
use Rattle.ygg_shape_sums.specs.declared.reading.Decomposition.TheVariants as reading
use Rattle.ygg_shape_sums.specs.declared.gathering.TheConstants.{READ_LIMIT}

-- the terms that a part is made of
abbrev pub parts_of : Summand → Decomposition → List Summand
parts_of p (reading.Times m x n) = part ((p.times * m) % 2 ^ 64) x ∷ []
parts_of p (reading.Both x m y) = part p.times x ∷ part ((p.times * m) % 2 ^ 64) y ∷ []
parts_of p r = []

-- what else a part is made of, added to a sum
abbrev pub counted : Summand → Decomposition → Sum → Sum
counted p reading.Whole s = with_part p s
counted p (reading.Number n) s = with_number ((p.times * n) % 2 ^ 64) s
counted p (reading.Times m x n) s = with_number ((p.times * n) % 2 ^ 64) s
counted p (reading.Both x m y) s = s

-- the parts as they are, added to a sum
abbrev pub with_all : List Summand → Sum → Sum
with_all [] s = s
with_all (p ∷ ps) s = with_all ps (with_part p s)

-- the parts, and what they are made of, added to a sum; as many terms are read as the first number says
unfoldable pub gathered : ℕ → List Node → List Fact → List Summand → Sum → Sum
gathered zero nodes facts ps s = with_all ps s
gathered (suc fuel) nodes facts [] s = s
gathered (suc fuel) nodes facts (p ∷ ps) s =
    let r = read nodes facts (slice_get nodes p.term.0) in gathered fuel nodes facts (ps ++ parts_of p r) (counted p r s)

-- the sum, read
abbrev pub gathered_sum : List Node → List Fact → Sum → Sum
gathered_sum nodes facts s = gathered READ_LIMIT nodes facts s.parts (empty s.number)

-- whether a term is a sum or a difference
abbrev pub is_sum : Decomposition → Bool
is_sum (reading.Both x m y) = true
is_sum r = false

-- the words of a pick that is there at all
abbrev pub below : Summand → Option Node → List Summand
below p (Some (Pick t x y)) = if p.times == 0 then [] else part p.times x ∷ part p.times y ∷ []
below p n = []

-- whether a part is found, among these or what is below them; as many are looked at as the number says
unfoldable pub found_within : (Summand → Bool) → (Summand → List Summand) → ℕ → List Summand → Bool
found_within is next zero ps = false
found_within is next (suc fuel) [] = false
found_within is next (suc fuel) (p ∷ ps) = if is p then true else found_within is next fuel (ps ++ next p)

-- whether a part is a sum or a difference
abbrev pub is_sum_at : List Node → Summand → Bool
is_sum_at nodes p = is_sum (read nodes [] (slice_get nodes p.term.0))

-- the words of a part that is a pick and there at all
abbrev pub below_at : List Node → Summand → List Summand
below_at nodes p = below p (slice_get nodes p.term.0)

-- whether a sum or a difference is among the parts or below picks; as many are looked at as the first number says
abbrev pub has_sum : ℕ → List Node → List Summand → Bool
has_sum fuel nodes = found_within (is_sum_at nodes) (below_at nodes) fuel

-- the test of a pick
abbrev pub test_in : Option Node → Option Id
test_in (Some (Pick t x y)) = Some t
test_in n = None

-- the test of a part that is a pick, where it is there at all
abbrev pub test_at : List Node → Summand → Option Id
test_at nodes p = if p.times == 0 then None else test_in (slice_get nodes p.term.0)

abbrev pub first_id : Option Id → Option Id → Option Id
first_id (Some a) other = Some a
first_id None other = other

-- the test of the first pick among the parts
abbrev pub first_test : List Node → List Summand → Option Id
first_test nodes [] = None
first_test nodes (p ∷ ps) = first_id (test_at nodes p) (first_test nodes ps)

-- whether a sum that is to be split is one that `same` doesn't compare as well: three terms and more, or sums below picks
abbrev pub is_rich : List Node → List Summand → Bool
is_rich nodes ps = nat_lt 2 (count_by (λ (p : Summand). not (p.times == 0)) ps) || has_sum READ_LIMIT nodes ps
