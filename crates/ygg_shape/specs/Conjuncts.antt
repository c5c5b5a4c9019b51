-- The conjuncts of a term.
use Rattle.std.specs.Prelude.{
  ℕ,
  zero,
  suc,
  ◌+◌,
  Bool,
  true,
  false,
  if◌then◌else◌,
  Option,
  Some,
  None,
  List,
  [],
  ◌∷◌,
  ◌++◌,
  replicate,
  slice_get,
  slice_set,
  unwrap_or,
}
use Rattle.ygg_value.specs.declared.operation.Op.TheVariants.{And}
use Rattle.ygg_shape_cells.specs.ygg_bank.Making.{id}
use Rattle.ygg_shape_cells.specs.ygg_bank.declared.node.Id.{Id}
use Rattle.ygg_shape_cells.specs.ygg_bank.declared.node.Node.{Node}
use Rattle.ygg_shape_cells.specs.ygg_bank.declared.node.Node.TheVariants.{Bin}
use Rattle.ygg_shape_cells.specs.Pairs.{pair}
use Rattle.ygg_shape_cells.specs.declared.pairs.Pair.{Pair}

-- the two operands of a conjunction
abbrev pub operands_of : Option Node → Option Pair
operands_of (Some (Bin And a b)) = Some (pair a b)
operands_of n = None

-- the places of both marked too
abbrev pub marked : List Bool → Option Pair → List Bool
marked marks (Some both) = slice_set (slice_set marks both.one.0 true) both.two.0 true
marked marks None = marks

-- whether a place is marked
abbrev pub is_marked : List Bool → ℕ → Bool
is_marked marks place = unwrap_or (slice_get marks place) false

-- the marks after a place was seen: of a marked conjunction the operands are marked too
abbrev pub marks_after : List Node → ℕ → List Bool → List Bool
marks_after nodes place marks = if is_marked marks place then marked marks (operands_of (slice_get nodes place)) else marks

-- the term at a place that is marked
abbrev pub marked_at : List Bool → ℕ → List Id
marked_at marks place = if is_marked marks place then id place ∷ [] else []

-- the marked terms below a place, from the last one down
abbrev pub conjuncts_below : List Node → ℕ → List Bool → List Id
conjuncts_below nodes zero marks = []
conjuncts_below nodes (suc place) marks = marked_at marks place ++ conjuncts_below nodes place (marks_after nodes place marks)

-- the mark at a place alone
abbrev pub first_marks : ℕ → List Bool
first_marks place = slice_set (replicate (place + 1) false) place true

-- a term, and the operands of each conjunction among these, from the last one down: where the term is 1, each of them is
abbrev pub conjuncts_of : List Node → Id → List Id
conjuncts_of nodes a = conjuncts_below nodes (a.0 + 1) (first_marks a.0)
