-- The test that most of some pairs share.
use Rattle.std.specs.Prelude.{ℕ, Bool, ◌==◌, ◌-◌, ◌&&◌, nat_le, nat_lt, if◌then◌else◌, Option, Some, None, List, [], ◌∷◌, length, count_by, slice_get}
use Rattle.ygg_shape_words.specs.ygg_bank.Making.{id}
use Rattle.ygg_shape_words.specs.ygg_bank.declared.node.Id.{Id}
use Rattle.ygg_shape_words.specs.ygg_bank.declared.node.Node.{Node}
use Rattle.ygg_shape_words.specs.ygg_bank.declared.node.Node.TheVariants.{Pick}
use Rattle.ygg_shape_cells.specs.Pairs.{has_test}
use Rattle.ygg_shape_cells.specs.declared.pairs.Pair.{Pair}
use Rattle.ygg_shape_cells.specs.declared.sharing.Candidate.{Candidate}

abbrev pub candidate : Id → ℕ → Candidate
candidate test count = record { test = test; count = count }

-- the test of a node that is a pick
abbrev pub test_of : Option Node → Option Id
test_of (Some (Pick t x y)) = Some t
test_of n = None

-- how many pairs have the test
abbrev pub count : List Node → Id → List Pair → ℕ
count nodes t = count_by (has_test nodes t)

-- the candidate that more pairs have, of two the first
abbrev pub larger : Candidate → Candidate → Candidate
larger best new = if nat_lt best.count new.count then new else best

-- whether a test is that of a candidate which two pairs have
abbrev pub is_best : Candidate → Id → Bool
is_best best t = nat_lt 1 best.count && best.test.0 == t.0

-- the best so far, or a test that more pairs have; the best's own pairs aren't counted again
abbrev pub better_with : List Node → List Pair → Candidate → Option Id → Candidate
better_with nodes pairs best (Some t) = if is_best best t then best else larger best (candidate t (count nodes t pairs))
better_with nodes pairs best None = best

-- the best so far, or the test of this word
abbrev pub better : List Node → List Pair → Candidate → Id → Candidate
better nodes pairs best a = better_with nodes pairs best (test_of (slice_get nodes a.0))

-- the best so far, or a test of the pair's words
abbrev pub better_of : List Node → List Pair → Candidate → Pair → Candidate
better_of nodes pairs best p = better nodes pairs (better nodes pairs best p.one) p.two

-- the best so far, or a test of these pairs' words
abbrev pub best_of : List Node → List Pair → Candidate → List Pair → Candidate
best_of nodes pairs best [] = best
best_of nodes pairs best (p ∷ ps) = best_of nodes pairs (better_of nodes pairs best p) ps

-- the test that most pairs have, and of several the first; what one pair alone has counts as none
abbrev pub most_shared : List Node → List Pair → Candidate
most_shared nodes pairs = best_of nodes pairs (candidate (id 0) 1) pairs

-- the test that pairs are split on: that which most of them have, if two have it and at least half of all
abbrev pub shared : List Node → List Pair → Option Id
shared nodes pairs =
    let best = most_shared nodes pairs in if nat_lt 1 best.count && nat_le (length pairs - best.count) best.count then Some best.test else None
