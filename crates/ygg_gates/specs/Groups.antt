-- The gates of the nodes that a term reaches, and the clauses of the term.
use Rattle.std.specs.Prelude.{ℕ, ◌+◌, ◌==◌, ◌&&◌, ◌||◌, Bool, true, false, List, [], ◌∷◌, ◌++◌, length, take, get_or}
use Rattle.ygg_cnf.specs.Literals.{complement}
use Rattle.ygg_cnf.specs.declared.lit.Lit.{Lit}
use Rattle.ygg_bank.specs.Reaching.{has_child}
use Rattle.ygg_bank.specs.declared.node.Id.{Id}
use Rattle.ygg_bank.specs.declared.node.Node.{Node}
use Rattle.ygg_bank.specs.declared.node.Node.TheVariants as node
use Rattle.ygg_gates.specs.Circuits.{Make, pure, complements, false_literal, true_literal, next_variable}
use Rattle.ygg_gates.specs.Clauses.{clauses_from}
use Rattle.ygg_gates.specs.Rows.{free_bits, constant_bits, resized_bits, joined_each, operation}
use Rattle.ygg_gates.specs.declared.gate.Gate.{Gate}
use Rattle.ygg_gates.specs.declared.gate.Joint.TheVariants as joint
use Rattle.ygg_gates.specs.Sources.{Variables}

-- whether a term reaches a place by way of nodes, the first of which stands at this place: it reaches itself, and the children of
-- each of the nodes that it reaches
abbrev pub reaches_from : ℕ → List Node → ℕ → ℕ → Bool
reaches_from first [] term place = term == place
reaches_from first (n ∷ ns) term place =
    reaches_from (first + 1) ns term place || (reaches_from (first + 1) ns term first && has_child n place)

-- the nodes up to a term's own; since children stand before their node, it reaches no node after them
abbrev pub up_to : Id → List Node → List Node
up_to term nodes = take (term.0 + 1) nodes

-- whether a term reaches a place
abbrev pub reaches : List Node → Id → ℕ → Bool
reaches nodes term place = reaches_from 0 (up_to term nodes) term.0 place

-- the bits of a child, among those of all nodes before
abbrev pub bits_at : List (List Lit) → Id → List Lit
bits_at table a = get_or table a.0 []

-- the lowest bit
abbrev pub lowest : List Lit → Lit
lowest xs = get_or xs 0 false_literal

-- the bits of a node, from those of its children
abbrev pub node_bits : List (List Lit) → Node → Make (List Lit)
node_bits table (node.Input n w) = free_bits w
node_bits table (node.Const k) = pure (constant_bits k.width k.bits)
node_bits table (node.Bin o a b) = operation o (bits_at table a) (bits_at table b)
node_bits table (node.Not a) = pure (complements (bits_at table a))
node_bits table (node.Resize a w) = pure (resized_bits w (bits_at table a))
node_bits table (node.Pick t a b) = joined_each (joint.Pick (lowest (bits_at table t))) (bits_at table a) (bits_at table b)

-- the variables of a node that is an input, where this is the first of them
abbrev pub sources_of : ℕ → Node → List Variables
sources_of first (node.Input n w) = record { number = n; width = w; first = first } ∷ []
sources_of first _ = []

-- the bits of nodes, none where the term doesn't reach a node; the variables of the inputs among them; and the gates
pub record Circuit : Type 0 where
  pub table : List (List Lit)
  pub sources : List Variables
  pub gates : List Gate

-- a circuit of these parts
abbrev pub circuit : List (List Lit) → List Variables → List Gate → Circuit
circuit table sources gates = record { table = table; sources = sources; gates = gates }

-- with one more node: a group of gates, where the term reaches it
abbrev pub with_node : Bool → Node → Circuit → Circuit
with_node false n c = circuit (c.table ++ [] ∷ []) c.sources c.gates
with_node true n c =
    let out = node_bits c.table n c.gates in
    circuit (c.table ++ out.value ∷ []) (c.sources ++ sources_of (next_variable c.gates) n) out.gates

-- with these nodes, in the order of their numbers
abbrev pub with_nodes : (ℕ → Bool) → List Node → Circuit → Circuit
with_nodes reached [] c = c
with_nodes reached (n ∷ ns) c = with_nodes reached ns (with_node (reached (length c.table)) n c)

-- nothing yet
abbrev pub no_nodes : Circuit
no_nodes = circuit [] [] []

-- the bits, inputs and gates of all nodes that a term reaches
abbrev pub circuit_of : List Node → Id → Circuit
circuit_of nodes term = with_nodes (reaches nodes term) (up_to term nodes) no_nodes

-- the unit clause of variable 1, the clauses of a circuit's gates, and the unit clause of the complement of the term's literal
abbrev pub circuit_clauses : Circuit → Id → List (List Lit)
circuit_clauses c term =
    ((true_literal ∷ []) ∷ []) ++ clauses_from 2 c.gates ++ ((complement (lowest (bits_at c.table term)) ∷ []) ∷ [])

-- clauses, and the variables of the inputs that they speak of
pub record Translated : Type 0 where
  pub clauses : List (List Lit)
  pub sources : List Variables

-- the clauses of a term, satisfiable where the term is 0 in some environment, and the variables of the inputs that it reaches
abbrev pub translated : List Node → Id → Translated
translated nodes term =
    let c = circuit_of nodes term in
    record { clauses = circuit_clauses c term; sources = c.sources }
