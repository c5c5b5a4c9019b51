-- What a word at a width makes in a bank, under a book of these kinds.
use Rattle.std.specs.Prelude.{ℕ, ◌≡◌, ◌==◌, ◌||◌, nat_le, if◌then◌else◌, Option, Some, List, slice_get}
use Rattle.ygg_value.specs.Words.{resized}
use Rattle.ygg_rules.specs.declared.rule.RuleKind.{RuleKind}
use Rattle.ygg_bank.specs.Makes.{Make, pure}
use Rattle.ygg_bank.specs.Making.{made}
use Rattle.ygg_bank.specs.Nodes.{width_at, widths_of, Stands}
use Rattle.ygg_bank.specs.Values.{Inputs, InputsFit, value_of}
use Rattle.ygg_bank.specs.declared.node.Id.{Id}
use Rattle.ygg_bank.specs.declared.node.Node.{Node}
use Rattle.ygg_bank.specs.declared.node.Node.TheVariants.{Resize}
use Rattle.ygg_shape_words.specs.declared.resizing.Sizing.{Sizing}
use Rattle.ygg_shape_words.specs.declared.resizing.Sizing.TheVariants as sizing

-- how a node at a width is made: of x at u digits, x itself can be taken where no digit is lost in between that the width keeps
abbrev pub sizing_of : List Node → ℕ → Option Node → Sizing
sizing_of nodes w (Some (Resize x u)) = if nat_le w u || nat_le (width_at (widths_of nodes) x) u then sizing.Through x else sizing.Plain
sizing_of nodes w n = sizing.Plain

-- how a term at a width is made
abbrev pub sizing_at : List Node → Id → ℕ → Sizing
sizing_at nodes a w = if width_at (widths_of nodes) a == w then sizing.Itself else sizing_of nodes w (slice_get nodes a.0)

-- the word, made in this way
abbrev pub resized_as : List RuleKind → Id → ℕ → Sizing → Make Id
resized_as kinds a w sizing.Itself = pure a
resized_as kinds a w (sizing.Through x) = made kinds (Resize x w)
resized_as kinds a w sizing.Plain = made kinds (Resize a w)

-- a word at a width
abbrev pub resized_word : List RuleKind → Id → ℕ → Make Id
resized_word kinds a w nodes = resized_as kinds a w (sizing_at nodes a w) nodes

-- the term that is taken stands among the nodes
abbrev pub SizingFits : List Node → Sizing → Type 0
SizingFits nodes (sizing.Through x) = Stands nodes x
SizingFits nodes s = Unit {0}

-- in every environment the answer is the word at the width
abbrev pub IsResized : List Node → Id → ℕ → Id → Type 0
IsResized nodes a w answer =
    (inputs : Inputs) → InputsFit inputs nodes → value_of inputs nodes answer.0 ≡ resized (value_of inputs nodes a.0) w
