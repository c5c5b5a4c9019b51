-- Values of nodes.
use Rattle.std.specs.Prelude.{ℕ, ◌≡◌, ◌<◌, ◌^◌, ◌==◌, true, if◌then◌else◌, Option, Some, None, List, [], ◌∷◌, ◌++◌, length, slice_get, get_or}
use Rattle.ygg_value.specs.Number.{Number, IsWord}
use Rattle.ygg_value.specs.Words.{word, apply_to, not_of, resized}
use Rattle.ygg_bank.specs.Nodes.{InOrder, HasWidth}
use Rattle.ygg_bank.specs.Making.{id}
use Rattle.ygg_bank.specs.Reaching.{has_child}
use Rattle.ygg_bank.specs.declared.env.Given.{Given}
use Rattle.ygg_bank.specs.declared.env.Given.TheVariants as given
use Rattle.ygg_bank.specs.declared.node.Id.{Id}
use Rattle.ygg_bank.specs.declared.node.Node.{Node}
use Rattle.ygg_bank.specs.declared.node.Node.TheVariants.{Input, Const, Bin, Not, Resize, Pick}

-- the number that each input has
abbrev pub Inputs : Type 0
Inputs = ℕ → ℕ

-- the word at each place
abbrev pub Values : Type 0
Values = ℕ → Number

-- a node's value, from those of its children
abbrev pub node_value : Inputs → Values → Node → Number
node_value inputs v (Input n w) = word w (inputs n)
node_value inputs v (Const k) = k
node_value inputs v (Bin op a b) = apply_to op (v a.0) (v b.0)
node_value inputs v (Not a) = not_of (v a.0)
node_value inputs v (Resize a w) = resized (v a.0) w
node_value inputs v (Pick t a b) = if (v t.0).bits == 1 then v a.0 else v b.0

-- the values of all places, where those of the first places are these; past the end, a single digit 0
abbrev pub reading : List Number → Values
reading values place = get_or values place (word 1 0)

-- the values of all nodes in order, where those of the nodes before them are these
abbrev pub values_after : Inputs → List Number → List Node → List Number
values_after inputs values [] = values
values_after inputs values (n ∷ ns) = values_after inputs (values ++ node_value inputs (reading values) n ∷ []) ns

-- the value of the node at a place
abbrev pub value_of : Inputs → List Node → Values
value_of inputs nodes = reading (values_after inputs [] nodes)

-- each input among the nodes has a number that fits its width
abbrev pub InputsFit : Inputs → List Node → Type 0
InputsFit inputs nodes = (place number w : ℕ) → slice_get nodes place ≡ Some (Input number w) → inputs number < 2 ^ w

-- words for all places under which each node has the value that its children give it
pub record Fits (inputs : Inputs) (v : Values) (nodes : List Node) : Type 0 where
  pub ordered : InOrder [] nodes
  pub words : (place : ℕ) → IsWord (v place)
  pub widths : (place w : ℕ) → HasWidth nodes (id place) w → (v place).width ≡ w
  pub values : (place : ℕ) (n : Node) → slice_get nodes place ≡ Some n → v place ≡ node_value inputs v n

-- what an environment gives for a number: what the first item with it gives
abbrev pub given_for : List Given → ℕ → Option Number
given_for [] number = None
given_for (given.Word n w ∷ rest) number = if n == number then Some w else given_for rest number

-- what is given for a number after one more item: what was given, or else the item's word, where it has the number
abbrev pub also_given : Option Number → Given → ℕ → Option Number
also_given (Some k) item number = Some k
also_given None (given.Word n w) number = if n == number then Some w else None

-- the number of a word that is given; 0 where none is
abbrev pub bits_or_zero : Option Number → ℕ
bits_or_zero None = 0
bits_or_zero (Some w) = w.bits

-- the numbers that an environment gives to inputs
abbrev pub inputs_of : List Given → Inputs
inputs_of env number = bits_or_zero (given_for env number)

-- each input among the nodes is given a word of its width, or none
abbrev pub EnvFits : List Given → List Node → Type 0
EnvFits env nodes = (place number w : ℕ) (k : Number) → slice_get nodes place ≡ Some (Input number w) → given_for env number ≡ Some k → k.width ≡ w

-- the node at a place has, in every environment, the value of this node over the nodes before
abbrev pub AnswersFor : List Node → Node → List Node → Id → Type 0
AnswersFor old n new answer = (inputs : Inputs) → InputsFit inputs new → value_of inputs new answer.0 ≡ node_value inputs (value_of inputs old) n

-- the nodes that were there have the values that they had, in every environment
abbrev pub KeepsValues : List Node → List Node → Type 0
KeepsValues old new = (inputs : Inputs) (place : ℕ) → place < length old → value_of inputs new place ≡ value_of inputs old place

-- the numbers of inputs for which these words are given
abbrev pub numbers_given : (ℕ → Option Number) → Inputs
numbers_given given number = bits_or_zero (given number)

-- where a word is given for an input among the nodes, it has the input's width
abbrev pub GivenFit : (ℕ → Option Number) → List Node → Type 0
GivenFit given nodes = (place number w : ℕ) (k : Number) → slice_get nodes place ≡ Some (Input number w) → given number ≡ Some k → k.width ≡ w

-- the values of the children of the node at a place are known
abbrev pub KnowsChildren : Inputs → List Node → ℕ → (ℕ → Option Number) → Type 0
KnowsChildren inputs nodes place known =
    (n : Node) (p : ℕ) → slice_get nodes place ≡ Some n → has_child n p ≡ true → known p ≡ Some (value_of inputs nodes p)
