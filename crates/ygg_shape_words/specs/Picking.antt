-- What a pick between two words makes in a bank, under a book of these kinds.
use Rattle.std.specs.Prelude.{◌≡◌, Bool, true, false, ◌==◌, if◌then◌else◌, Option, Some, None, List, slice_get}
use Rattle.ygg_value.specs.Number.{Number}
use Rattle.ygg_value.specs.declared.operation.Op.TheVariants.{And, Or}
use Rattle.ygg_rules.specs.declared.rule.RuleKind.{RuleKind}
use Rattle.ygg_bank.specs.Makes.{Make, pure, and_make}
use Rattle.ygg_bank.specs.Making.{known_in, made}
use Rattle.ygg_bank.specs.Nodes.{width_at, widths_of}
use Rattle.ygg_bank.specs.Values.{Inputs, InputsFit, value_of}
use Rattle.ygg_bank.specs.declared.node.Id.{Id}
use Rattle.ygg_bank.specs.declared.node.Node.{Node}
use Rattle.ygg_bank.specs.declared.node.Node.TheVariants.{Bin, Not, Pick}
use Rattle.ygg_shape_words.specs.declared.picking.Choice.{Choice}
use Rattle.ygg_shape_words.specs.declared.picking.Choice.TheVariants as choice

-- how a pick is made: whether both words are one term, whether they are single digits, and which constants they are
abbrev pub choice_of : Bool → Bool → Option Number → Option Number → Choice
choice_of true digits one two = choice.One
choice_of false false one two = choice.Plain
choice_of false true (Some k) two = if k.bits == 1 then choice.YesIsOne else choice.YesIsZero
choice_of false true None (Some k) = if k.bits == 1 then choice.NoIsOne else choice.NoIsZero
choice_of false true None None = choice.Plain

-- how a pick between two nodes is made
abbrev pub choice_at : List Node → Id → Id → Choice
choice_at nodes a b = choice_of (a.0 == b.0) (width_at (widths_of nodes) a == 1) (known_in (slice_get nodes a.0)) (known_in (slice_get nodes b.0))

-- the pick, made in this way
abbrev pub picked_as : List RuleKind → Id → Id → Id → Choice → Make Id
picked_as kinds t a b choice.One = pure a
picked_as kinds t a b choice.YesIsOne = made kinds (Bin Or t b)
picked_as kinds t a b choice.YesIsZero = and_make (made kinds (Not t)) (λ n. made kinds (Bin And n b))
picked_as kinds t a b choice.NoIsOne = and_make (made kinds (Not t)) (λ n. made kinds (Bin Or n a))
picked_as kinds t a b choice.NoIsZero = made kinds (Bin And t a)
picked_as kinds t a b choice.Plain = made kinds (Pick t a b)

-- the first word where the test is 1, and else the second
abbrev pub picked : List RuleKind → Id → Id → Id → Make Id
picked kinds t a b nodes = picked_as kinds t a b (choice_at nodes a b) nodes

-- what a way to make a pick wants of the two words: that they are one, or single digits
abbrev pub ChoiceFits : List Node → Id → Id → Choice → Type 0
ChoiceFits nodes a b choice.One = a.0 ≡ b.0
ChoiceFits nodes a b choice.Plain = Unit {0}
ChoiceFits nodes a b _ = width_at (widths_of nodes) a ≡ 1

-- in every environment the answer is the first word where the test is 1, and else the second
abbrev pub IsPicked : List Node → Id → Id → Id → Id → Type 0
IsPicked nodes t a b answer =
    (inputs : Inputs) → InputsFit inputs nodes
    → value_of inputs nodes answer.0
    ≡ (if (value_of inputs nodes t.0).bits == 1 then value_of inputs nodes a.0 else value_of inputs nodes b.0)
