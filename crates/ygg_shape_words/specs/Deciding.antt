-- Which value a test has where another one has a value.
use Rattle.std.specs.Prelude.{Bool, true, false, ◌==◌, if◌then◌else◌, Option, Some, None, List, slice_get}
use Rattle.ygg_value.specs.Number.{Number}
use Rattle.ygg_value.specs.Words.{resized}
use Rattle.ygg_value.specs.declared.operation.Op.TheVariants.{Eq}
use Rattle.ygg_bank.specs.Making.{known_in}
use Rattle.ygg_bank.specs.declared.node.Id.{Id}
use Rattle.ygg_bank.specs.declared.node.Node.{Node}
use Rattle.ygg_bank.specs.declared.node.Node.TheVariants.{Bin, Resize}

-- whether y is m where this node is k: where the node is digits of y, it isn't unless m has just these
abbrev pub of_digits : Number → Id → Number → Option Node → Option Bool
of_digits k y m (Some (Resize a w)) = if a.0 == y.0 then (if (resized m w).bits == k.bits then None else Some false) else None
of_digits k y m n = None

-- whether y is m where x is k, of two words that these nodes are: where y is digits of x, k has them
abbrev pub by_digits : Id → Number → Id → Number → Option Node → Option Node → Option Bool
by_digits x k y m one (Some (Resize a w)) =
    if a.0 == x.0 then (if (resized k w).bits == m.bits then Some true else Some false) else of_digits k y m one
by_digits x k y m one two = of_digits k y m one

-- whether y is m where x is k
abbrev pub by_number : List Node → Id → Number → Id → Number → Option Bool
by_number nodes x k y m =
    if x.0 == y.0 then (if k.bits == m.bits then Some true else Some false) else by_digits x k y m (slice_get nodes x.0) (slice_get nodes y.0)

-- the same of constants that are known, where both are
abbrev pub by_numbers : List Node → Id → Id → Option Number → Option Number → Option Bool
by_numbers nodes x y (Some k) (Some m) = by_number nodes x k y m
by_numbers nodes x y one two = None

-- which value the second test, which is this node, has where the first is 1
abbrev pub by_nodes : List Node → Option Node → Option Node → Option Bool
by_nodes nodes (Some (Bin Eq x k)) (Some (Bin Eq y m)) = by_numbers nodes x y (known_in (slice_get nodes k.0)) (known_in (slice_get nodes m.0))
by_nodes nodes n m = None

-- which value the second test has where the first has this value, where that decides it
abbrev pub decided : List Node → Id → Bool → Id → Option Bool
decided nodes t on u =
    if u.0 == t.0 then Some on else if on then by_nodes nodes (slice_get nodes t.0) (slice_get nodes u.0) else None
