-- What a hypothesis says of inputs.
use Rattle.std.specs.Prelude.{◌++◌, nat_lt, if◌then◌else◌, Option, Some, None, List, slice_get}
use Rattle.std.specs.List.{filter_map}
use Rattle.ygg_value.specs.Words.{word}
use Rattle.ygg_shape_cells.specs.ygg_rules.declared.rule.RuleKind.{RuleKind}
use Rattle.ygg_shape_cells.specs.ygg_bank.Makes.{Make, pure, and_make}
use Rattle.ygg_shape_cells.specs.ygg_bank.Making.{made}
use Rattle.ygg_shape_cells.specs.ygg_bank.declared.node.Id.{Id}
use Rattle.ygg_shape_cells.specs.ygg_bank.declared.node.Node.{Node}
use Rattle.ygg_shape_cells.specs.ygg_bank.declared.node.Node.TheVariants.{Input, Const}
use Rattle.ygg_shape_cells.specs.declared.pairs.Pair.{Pair}
use Rattle.ygg_shape.specs.Conjuncts.{conjuncts_of}
use Rattle.ygg_shape.specs.Equations.{equations}
use Rattle.ygg_shape.specs.Joins.{joins, joins_made}
use Rattle.ygg_shape.specs.declared.replacing.Replacement.{Replacement}

-- the term stands for the input
abbrev pub by : Id → Id → Option Replacement
by input term = Some (record { input = input; term = term })

-- of two equal terms, one of which is an input, the other stands for it; of two inputs, for the later one
abbrev pub equal_fact : Id → Id → Option Node → Option Node → Option Replacement
equal_fact a b (Some (Input m w)) (Some (Input n u)) = if nat_lt a.0 b.0 then by b a else by a b
equal_fact a b (Some (Input m w)) n = by a b
equal_fact a b m (Some (Input n u)) = by b a
equal_fact a b m n = None

abbrev pub fact_of : List Node → Pair → Option Replacement
fact_of nodes p = equal_fact p.one p.two (slice_get nodes p.one.0) (slice_get nodes p.two.0)

-- the same of all pairs
abbrev pub found : List Node → List Pair → List Replacement
found nodes = filter_map (fact_of nodes)

-- what conjuncts say of inputs: what they equate, and then what those say that are picks
abbrev pub facts_of : List RuleKind → Id → Id → List Id → Make (List Replacement)
facts_of kinds one none cs nodes =
    and_make (joins_made kinds (joins nodes one none cs)) (λ rs. pure (found nodes (equations nodes one none cs) ++ rs)) nodes

-- what a hypothesis says of inputs, by the constants of one digit
abbrev pub facts_in : List RuleKind → Id → Make (List Replacement)
facts_in kinds h =
    and_make (made kinds (Const (word 1 1))) (λ one. and_make (made kinds (Const (word 1 0)))
    (λ none nodes. facts_of kinds one none (conjuncts_of nodes h) nodes))
