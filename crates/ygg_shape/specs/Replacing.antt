-- Values with terms in the stead of inputs, and what they are worth under a hypothesis.
use Rattle.std.specs.Prelude.{◌≡◌, ◌==◌, if◌then◌else◌, List, [], ◌∷◌, All, map}
use Rattle.ygg_shape_cells.specs.ygg_bank.Values.{Inputs, InputsFit, value_of}
use Rattle.ygg_shape_cells.specs.ygg_bank.declared.node.Id.{Id}
use Rattle.ygg_shape_cells.specs.ygg_bank.declared.node.Node.{Node}
use Rattle.ygg_shape_cells.specs.Terms.{worth}
use Rattle.ygg_shape_cells.specs.declared.terms.SymValue.{SymValue}
use Rattle.ygg_shape_cells.specs.declared.terms.SymValue.TheVariants.{Word, Row, Table}
use Rattle.ygg_shape_cells.specs.ygg_shape_words.Forms.{WordsAlike}
use Rattle.ygg_shape.specs.declared.replacing.Replacement.{Replacement}

-- the term in the stead of a term; the term itself where there is none
abbrev pub replaced_word : List Replacement → Id → Id
replaced_word [] a = a
replaced_word (r ∷ rs) a = if r.input.0 == a.0 then r.term else replaced_word rs a

-- the row with terms in the stead of its inputs
abbrev pub replaced_row : List Replacement → List Id → List Id
replaced_row rs = map (replaced_word rs)

-- the value with terms in the stead of its inputs
abbrev pub replaced_value : List Replacement → SymValue → SymValue
replaced_value rs (Word a) = Word (replaced_word rs a)
replaced_value rs (Row row) = Row (replaced_row rs row)
replaced_value rs (Table table) = Table (map (replaced_row rs) table)

-- each term has its input's width
abbrev pub AreFit : List Node → List Replacement → Type 0
AreFit nodes = All (λ (r : Replacement). WordsAlike nodes r.input r.term)

-- in every environment in which the hypothesis is 1, each term has its input's value
abbrev pub AreTrueUnder : List Node → Id → List Replacement → Type 0
AreTrueUnder nodes hypothesis rs =
    (inputs : Inputs) → InputsFit inputs nodes → (value_of inputs nodes hypothesis.0).bits ≡ 1
    → All (λ (r : Replacement). value_of inputs nodes r.input.0 ≡ value_of inputs nodes r.term.0) rs

-- in every environment in which the hypothesis is 1, the second value is worth what the first is
abbrev pub KeepsUnder : List Node → Id → SymValue → SymValue → Type 0
KeepsUnder nodes hypothesis one two =
    (inputs : Inputs) → InputsFit inputs nodes → (value_of inputs nodes hypothesis.0).bits ≡ 1
    → worth (value_of inputs nodes) two ≡ worth (value_of inputs nodes) one
