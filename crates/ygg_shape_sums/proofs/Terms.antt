-- What holds of the terms of parts holds of the terms of a sum to which they are added.
use Rattle.std.proofs.Common.{◌==◌, ◌+◌, ◌%◌, ◌^◌, ℕ, zero, suc, Bool, true, false, if◌then◌else◌, List, [], ◌∷◌, ◌++◌, All, slice_get}
use Rattle.std.specs.Prelude.{nat_lt}
use Rattle.std.proofs.lemmas.List.Elements.{All-append, All-cons, All-head, All-nil, All-tail}
use Rattle.ygg_shape_words.specs.ygg_bank.declared.node.Id.{Id}
use Rattle.ygg_shape_words.specs.ygg_bank.declared.node.Node.{Node}
use Rattle.ygg_shape_sums.specs.Gathers.{parts_of, counted, with_all, gathered}
use Rattle.ygg_shape_sums.specs.Parts.{Sum, part, merged, with_part}
use Rattle.ygg_shape_sums.specs.Readings.{read}
use Rattle.ygg_shape_sums.specs.declared.parts.Summand.{Summand}
use Rattle.ygg_shape_sums.specs.declared.reading.Fact.{Fact}
use Rattle.ygg_shape_sums.specs.declared.reading.Decomposition.{Decomposition}
use Rattle.ygg_shape_sums.specs.declared.reading.Decomposition.TheVariants as reading

module _ (P : Id → Type 0) where
  -- it holds of the term of a part
  abbrev pub Of : Summand → Type 0
  Of p = P p.term

  pub one : (p : Summand) → Of p → All Of (p ∷ [])
  one p h = All-cons Of p [] h (All-nil Of)

  pub two : (p q : Summand) → Of p → Of q → All Of (p ∷ q ∷ [])
  two p q h i = All-cons Of p (q ∷ []) h (one q i)

  -- the words of a pick, where it is there at all
  pub sides : (p : Summand) (x y : Id) (c : Bool) → P x → P y → All Of (if c then [] else part p.times x ∷ part p.times y ∷ [])
  sides p x y true h i = All-nil Of
  sides p x y false h i = two (part p.times x) (part p.times y) h i

  merged_case : (p q : Summand) (qs rest : List Summand) (c d : Bool) → Of p → Of q → All Of qs → All Of rest →
      All Of (if c then part ((q.times + p.times) % 2 ^ 64) q.term ∷ qs else if d then p ∷ q ∷ qs else q ∷ rest)
  merged_case p q qs rest true d k h i j = All-cons Of (part ((q.times + p.times) % 2 ^ 64) q.term) qs h i
  merged_case p q qs rest false true k h i j = All-cons Of p (q ∷ qs) k (All-cons Of q qs h i)
  merged_case p q qs rest false false k h i j = All-cons Of q rest h j

  pub merged_all : (p : Summand) (ps : List Summand) → Of p → All Of ps → All Of (merged p ps)
  merged_all p [] h i = one p h
  merged_all p (q ∷ qs) h i =
      let t = All-tail Of q qs i in
      merged_case p q qs (merged p qs) (q.term.0 == p.term.0) (nat_lt p.term.0 q.term.0) h (All-head Of q qs i) t (merged_all p qs h t)

  counted_all : (p : Summand) (r : Decomposition) (s : Sum) → Of p → All Of s.parts → All Of (counted p r s).parts
  counted_all p reading.Whole s h i = merged_all p s.parts h i
  counted_all p (reading.Number n) s h i = i
  counted_all p (reading.Times m x n) s h i = i
  counted_all p (reading.Both x m y) s h i = i

  with_all_of : (ps : List Summand) (s : Sum) → All Of ps → All Of s.parts → All Of (with_all ps s).parts
  with_all_of [] s h i = i
  with_all_of (p ∷ ps) s h i = with_all_of ps (with_part p s) (All-tail Of p ps h) (merged_all p s.parts (All-head Of p ps h) i)

  -- where it holds of what a part is made of too, it holds of what is gathered
  pub gathered_all : (nodes : List Node) (facts : List Fact) →
      ((p : Summand) → Of p → All Of (parts_of p (read nodes facts (slice_get nodes p.term.0)))) → (fuel : ℕ) (ps : List Summand) (s : Sum) →
      All Of ps → All Of s.parts → All Of (gathered fuel nodes facts ps s).parts
  unfolding gathered
  gathered_all nodes facts on zero ps s h i = with_all_of ps s h i
  gathered_all nodes facts on (suc fuel) [] s h i = i
  gathered_all nodes facts on (suc fuel) (p ∷ ps) s h i =
      let r = read nodes facts (slice_get nodes p.term.0) in
      let own = All-head Of p ps h in
      gathered_all nodes facts on fuel (ps ++ parts_of p r) (counted p r s) (All-append Of ps (parts_of p r) (All-tail Of p ps h) (on p own))
      (counted_all p r s own i)
