-- What a conjunct that is a pick says of inputs.
use Rattle.std.specs.Prelude.{◌+◌, Option, Some, None, List, [], ◌∷◌, replicate, slice_get, slice_set}
use Rattle.std.specs.List.{cons_option, flat_map}
use Rattle.ygg_shape_cells.specs.ygg_rules.declared.rule.RuleKind.{RuleKind}
use Rattle.ygg_shape_cells.specs.ygg_bank.Makes.{Make, pure, and_make}
use Rattle.ygg_shape_cells.specs.ygg_bank.Nodes.{HasWidth}
use Rattle.ygg_shape_cells.specs.ygg_bank.declared.node.Id.{Id}
use Rattle.ygg_shape_cells.specs.ygg_bank.declared.node.Node.{Node}
use Rattle.ygg_shape_cells.specs.ygg_bank.declared.node.Node.TheVariants.{Input, Pick}
use Rattle.ygg_shape_cells.specs.ygg_shape_words.Forms.{WordsAlike}
use Rattle.ygg_shape_cells.specs.ygg_shape_words.Picking.{picked}
use Rattle.ygg_shape_cells.specs.declared.pairs.Pair.{Pair}
use Rattle.ygg_shape.specs.Equations.{equations_of}
use Rattle.ygg_shape.specs.declared.joins.Join.{Join}
use Rattle.ygg_shape.specs.declared.replacing.Replacement.{Replacement}

-- each of two equal terms noted at the place of the other
abbrev pub noted : List (Option Id) → Pair → List (Option Id)
noted partners p = slice_set (slice_set partners p.one.0 (Some p.two)) p.two.0 (Some p.one)

-- the same of all pairs
abbrev pub all_noted : List (Option Id) → List Pair → List (Option Id)
all_noted partners [] = partners
all_noted partners (p ∷ ps) = all_noted (noted partners p) ps

-- at each place up to a term's own, a term that is equal to the one there where that term is 1
abbrev pub partners_of : List Node → Id → Id → Id → List (Option Id)
partners_of nodes one none a = all_noted (replicate (a.0 + 1) None) (equations_of nodes one none a)

-- of an input, the term that it equals where the test is 1, and the one that it equals where the test is 0
abbrev pub join_of : Id → Id → Id → Option Node → Option (Option Id) → Option Join
join_of t x a (Some (Input m w)) (Some (Some b)) = Some (record { test = t; input = x; yes = a; no = b })
join_of t x a n b = None

abbrev pub join_at : List Node → Id → List (Option Id) → Id → Id → Option Join
join_at nodes t partners x a = join_of t x a (slice_get nodes x.0) (slice_get partners x.0)

-- the same of each of two terms that are equal where the test is 1
abbrev pub pair_joins : List Node → Id → List (Option Id) → Pair → List Join
pair_joins nodes t partners p = cons_option (join_at nodes t partners p.one p.two) (cons_option (join_at nodes t partners p.two p.one) [])

-- the inputs of which both words of a pick say what they are, each where it is 1
abbrev pub pick_joins : List Node → Id → Id → Option Node → List Join
pick_joins nodes one none (Some (Pick t y z)) = flat_map (pair_joins nodes t (partners_of nodes one none z)) (equations_of nodes one none y)
pick_joins nodes one none n = []

-- the same of all picks among these terms
abbrev pub joins_at : List Node → Id → Id → Id → List Join
joins_at nodes one none c = pick_joins nodes one none (slice_get nodes c.0)

abbrev pub joins : List Node → Id → Id → List Id → List Join
joins nodes one none = flat_map (joins_at nodes one none)

-- the test is a single digit, and both terms are as wide as the input
pub record JoinFits (nodes : List Node) (j : Join) : Type 0 where
  pub digit : HasWidth nodes j.test 1
  pub yes_fits : WordsAlike nodes j.input j.yes
  pub no_fits : WordsAlike nodes j.input j.no

-- the pick of the two terms, which stands for the input
abbrev pub join_made : List RuleKind → Join → Make Replacement
join_made kinds j = and_make (picked kinds j.test j.yes j.no) (λ term. pure (record { input = j.input; term = term }))

-- the same of all of them
abbrev pub joins_made : List RuleKind → List Join → Make (List Replacement)
joins_made kinds [] = pure []
joins_made kinds (j ∷ js) = and_make (join_made kinds j) (λ r. and_make (joins_made kinds js) (λ rs. pure (r ∷ rs)))
