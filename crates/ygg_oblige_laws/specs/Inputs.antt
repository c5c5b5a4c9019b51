-- Inputs for declared names: which nodes they are, what they give, and environments that are glued together of parts.
use Rattle.std.specs.Prelude.{
  ◌≡◌,
  ◌<◌,
  ◌≤◌,
  ◌+◌,
  ◌-◌,
  ◌^◌,
  ◌&&◌,
  ◌⊎◌,
  nat_lt,
  nat_le,
  ℕ,
  Bool,
  IsTrue,
  if◌then◌else◌,
  List,
  [],
  ◌∷◌,
  All,
  Some,
  slice_get,
}
use Rattle.ygg_value.specs.Words.{bit_of}
use Rattle.ygg_value.specs.declared.shape.Shape.{Shape}
use Rattle.ygg_value.specs.declared.shape.Shape.TheVariants.{Word, Row, Table}
use Rattle.ygg_syntax.specs.declared.tree.Declared.{Declared}
use Rattle.ygg_sym_laws.specs.ygg_meaning.Environments.{Env}
use Rattle.ygg_sym_laws.specs.ygg_meaning.Shapes.{shape_in, env_fits}
use Rattle.ygg_sym_laws.specs.ygg_rules.declared.rule.RuleKind.{RuleKind}
use Rattle.ygg_sym_laws.specs.ygg_bank.Inputs.{InputsBelow}
use Rattle.ygg_sym_laws.specs.ygg_bank.Nodes.{Extends, InOrder}
use Rattle.ygg_sym_laws.specs.ygg_bank.Values.{Inputs, InputsFit, Values}
use Rattle.ygg_sym_laws.specs.ygg_bank.declared.node.Node.{Node}
use Rattle.ygg_sym_laws.specs.ygg_bank.declared.node.Node.TheVariants.{Input}
use Rattle.ygg_sym_laws.specs.ygg_shape.Fresh.{words_of, given_value}
use Rattle.ygg_sym_laws.specs.ygg_sym_runs.ExpressionMeaning.{Grows, Gives}
use Rattle.ygg_sym_laws.specs.Means.{AreBits}
use Rattle.ygg_oblige_laws.specs.LayerTerms.{ShapesKept}
use Rattle.ygg_oblige_laws.specs.TermStates.{words_in, fresh_all}
use Rattle.ygg_oblige_laws.specs.Worth.{LowIs}

-- the declared names with the values that the inputs give, numbered on from a number
abbrev pub given_env : Inputs → ℕ → List Declared → Env
given_env inputs number [] = []
given_env inputs number (d ∷ ds) =
    (d.name.text, given_value inputs number (shape_in d.shape)) ∷ given_env inputs (number + words_of (shape_in d.shape)) ds

-- the width of the words of a shape
abbrev pub width_of : Shape → ℕ
width_of (Word w) = w
width_of (Row n w) = w
width_of (Table m n w) = w

-- the width of the word at a place among the words of declared names
abbrev pub word_width : List Declared → ℕ → ℕ
word_width [] i = 1
word_width (d ∷ ds) i =
    if nat_lt i (words_of (shape_in d.shape)) then width_of (shape_in d.shape) else word_width ds (i - words_of (shape_in d.shape))

-- so many inputs, from a number on, have these numbers
abbrev pub AreDigits : Inputs → ℕ → ℕ → (ℕ → ℕ) → Type 0
AreDigits inputs first count digits = (i : ℕ) → i < count → inputs (first + i) ≡ digits i

-- numbers of words that give an environment
pub record EnvDigits (ds : List Declared) (env : Env) : Type 0 where
  pub digits : ℕ → ℕ
  pub fit : (i : ℕ) → i < words_in ds → digits i < 2 ^ word_width ds i
  pub give : (inputs : Inputs) (number : ℕ) → AreDigits inputs number (words_in ds) digits → given_env inputs number ds ≡ env

-- an input of this number and width stands among the nodes
pub record InputAt (nodes : List Node) (number width : ℕ) : Type 0 where
  pub place : ℕ
  pub stands : slice_get nodes place ≡ Some (Input number width)

-- for each word of the declared names an input of its width stands among the nodes, numbered on from a number
abbrev pub InputsStand : ℕ → List Declared → List Node → Type 0
InputsStand number ds nodes = (i : ℕ) → i < words_in ds → InputAt nodes (number + i) (word_width ds i)

-- What fresh values of declared names are: which inputs stand for them, and what they are worth; each environment is given by some numbers.
pub record FreshMeans : Type 0 where
  pub gives : (inputs : Inputs) (v : Values) (kinds : List RuleKind) (number : ℕ) (ds : List Declared) (nodes : List Node) →
      ShapesKept ds → InputsBelow number nodes → Gives inputs v (fresh_all kinds number ds) nodes (LowIs v ds (given_env inputs number ds))
  pub fits : (inputs : Inputs) (v : Values) (kinds : List RuleKind) (number : ℕ) (ds : List Declared) (nodes : List Node) →
      ShapesKept ds → InputsBelow number nodes →
      Gives inputs v (fresh_all kinds number ds) nodes (λ new xs. IsTrue (env_fits ds (given_env inputs number ds)))
  pub stand : (kinds : List RuleKind) (number : ℕ) (ds : List Declared) (nodes : List Node) →
      InputsStand number ds (fresh_all kinds number ds nodes).nodes
  pub stay : (number : ℕ) (ds : List Declared) (old new : List Node) → Extends old new → InputsStand number ds old → InputsStand number ds new
  pub back : (ds : List Declared) (env : Env) → ShapesKept ds → IsTrue (env_fits ds env) → EnvDigits ds env
  pub grows : (kinds : List RuleKind) (number : ℕ) (ds : List Declared) → Grows (fresh_all kinds number ds)
  pub inputs_below : (kinds : List RuleKind) (number : ℕ) (ds : List Declared) (nodes : List Node) → InputsBelow number nodes →
      InputsBelow (number + words_in ds) (fresh_all kinds number ds nodes).nodes

-- so many inputs from a number on, and the numbers that they get
pub record Part : Type 0 where
  pub first : ℕ
  pub count : ℕ
  pub digits : ℕ → ℕ

-- whether an input is one of the part
abbrev pub is_within : Part → ℕ → Bool
is_within p number = nat_le p.first number && nat_lt number (p.first + p.count)

-- the inputs that parts give, of which the first that has a number counts; 0 elsewhere
abbrev pub glued : List Part → Inputs
glued [] number = 0
glued (p ∷ ps) number = if is_within p number then p.digits (number - p.first) else glued ps number

-- each part begins where the one before it has ended, or later
abbrev pub InTurn : ℕ → List Part → Type 0
InTurn from [] = Unit {0}
InTurn from (p ∷ ps) = (from ≤ p.first) × InTurn (p.first + p.count) ps

-- an input among the nodes, and a number that fits it
pub record InputTakes (nodes : List Node) (number digits : ℕ) : Type 0 where
  pub width : ℕ
  pub at : InputAt nodes number width
  pub fits : digits < 2 ^ width

-- each number of a part is a single digit, or there is an input among the nodes that it fits
abbrev pub PartFits : List Node → Part → Type 0
PartFits nodes p = (i : ℕ) → i < p.count → (p.digits i < 2) ⊎ InputTakes nodes (p.first + i) (p.digits i)

-- the words of declared names
abbrev pub env_part : ℕ → (ds : List Declared) (env : Env) → EnvDigits ds env → Part
env_part number ds env e = record { first = number; count = words_in ds; digits = e.digits }

-- bits
abbrev pub bits_part : ℕ → ℕ → (ℕ → Bool) → Part
bits_part first count bits = record { first = first; count = count; digits = λ i. bit_of (bits i) }

-- What is glued together of parts: each part has its numbers, and all of them fit the nodes.
pub record GluedMeans : Type 0 where
  pub digits : (from : ℕ) (parts : List Part) → InTurn from parts → All (λ (p : Part). AreDigits (glued parts) p.first p.count p.digits) parts
  -- each number of an input has one width among nodes in order: where the numbers of a part are to be wider than a digit, it is enough that some such
  -- input stands there
  pub fit : (nodes : List Node) (parts : List Part) → InOrder [] nodes → All (PartFits nodes) parts → InputsFit (glued parts) nodes
  pub env_fits : (nodes : List Node) (number : ℕ) (ds : List Declared) (env : Env) (e : EnvDigits ds env) → InputsStand number ds nodes →
      PartFits nodes (env_part number ds env e)
  pub bits_fit : (nodes : List Node) (first count : ℕ) (bits : ℕ → Bool) → PartFits nodes (bits_part first count bits)
  pub bits_are : (inputs : Inputs) (first count : ℕ) (bits : ℕ → Bool) → AreDigits inputs first count (λ i. bit_of (bits i)) → AreBits inputs first count bits
