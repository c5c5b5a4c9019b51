-- What terms are equal where a term is 1.
use Rattle.std.specs.Prelude.{Option, Some, None, List, slice_get}
use Rattle.std.specs.List.{filter_map}
use Rattle.ygg_value.specs.declared.operation.Op.TheVariants.{Eq}
use Rattle.ygg_shape_cells.specs.ygg_bank.declared.node.Id.{Id}
use Rattle.ygg_shape_cells.specs.ygg_bank.declared.node.Node.{Node}
use Rattle.ygg_shape_cells.specs.ygg_bank.declared.node.Node.TheVariants.{Input, Bin, Not}
use Rattle.ygg_shape_cells.specs.Pairs.{pair}
use Rattle.ygg_shape_cells.specs.declared.pairs.Pair.{Pair}
use Rattle.ygg_shape.specs.Conjuncts.{conjuncts_of}

-- two terms that are equal where a conjunct, at which this node stands, is 1; `one` and `none` are the constants of one digit
abbrev pub equation_of : Id → Id → Id → Option Node → Option Pair
equation_of one none c (Some (Input m w)) = Some (pair c one)
equation_of one none c (Some (Not a)) = Some (pair a none)
equation_of one none c (Some (Bin Eq a b)) = Some (pair a b)
equation_of one none c n = None

abbrev pub equation_at : List Node → Id → Id → Id → Option Pair
equation_at nodes one none c = equation_of one none c (slice_get nodes c.0)

-- the terms that are equal where all conjuncts are 1
abbrev pub equations : List Node → Id → Id → List Id → List Pair
equations nodes one none = filter_map (equation_at nodes one none)

-- the terms that are equal where a term is 1
abbrev pub equations_of : List Node → Id → Id → Id → List Pair
equations_of nodes one none a = equations nodes one none (conjuncts_of nodes a)
