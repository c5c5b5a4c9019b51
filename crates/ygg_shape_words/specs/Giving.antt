-- What words are where a test is known: a pick whose own test is decided by it is one of its words, however deep it stands.
use Rattle.std.specs.Prelude.{ℕ, zero, suc, ◌-◌, ◌≡◌, ◌==◌, Bool, true, false, if◌then◌else◌, Option, Some, None, List, slice_get}
use Rattle.ygg_rules.specs.declared.rule.RuleKind.{RuleKind}
use Rattle.ygg_bank.specs.Makes.{Make, pure, and_make}
use Rattle.ygg_bank.specs.Nodes.{HasWidth}
use Rattle.ygg_bank.specs.Values.{Inputs, InputsFit, value_of}
use Rattle.ygg_bank.specs.declared.node.Id.{Id}
use Rattle.ygg_bank.specs.declared.node.Node.{Node}
use Rattle.ygg_bank.specs.declared.node.Node.TheVariants.{Pick}
use Rattle.ygg_shape_words.specs.Picking.{picked}
use Rattle.ygg_shape_words.specs.Deciding.{decided}
use Rattle.ygg_shape_words.specs.declared.giving.TheConstants.{GIVEN_LIMIT}
use Rattle.ygg_shape_words.specs.declared.giving.Further.{Further}
use Rattle.ygg_shape_words.specs.declared.giving.Further.TheVariants.{Whole, Side, Both}

-- a word, and how many picks may still be looked through
pub record Pruned : Type 0 where
  pub term : Id
  pub fuel : ℕ

-- how a pick goes on whose test has this value, if one is known
abbrev pub side_of : Option Bool → Id → Id → Id → Further
side_of (Some true) u x y = Side x
side_of (Some false) u x y = Side y
side_of None u x y = Both u x y

-- how a node goes on where a test has this value
abbrev pub way_of : List Node → Id → Bool → Option Node → Further
way_of nodes t on (Some (Pick u x y)) = side_of (decided nodes t on u) u x y
way_of nodes t on n = Whole

-- how a word goes on, while so many picks may be looked through
abbrev pub way_on : List Node → Id → Bool → ℕ → Id → Further
way_on nodes t on fuel a = if fuel == 0 then Whole else way_of nodes t on (slice_get nodes a.0)

-- a word that goes on like this, where smaller ones go on by the step
abbrev pub given_as : List RuleKind → (ℕ → Id → Make Pruned) → ℕ → Id → Further → Make Pruned
given_as kinds next fuel a Whole = pure (record { term = a; fuel = fuel })
given_as kinds next fuel a (Side b) = next (fuel - 1) b
given_as kinds next fuel a (Both u x y) =
    and_make (next (fuel - 1) x) (λ one. and_make (next one.fuel y) (λ two. and_make (picked kinds u one.term two.term)
    (λ r. pure (record { term = r; fuel = two.fuel }))))

-- a word where a test has this value, with so many picks one within another, and so many in all
unfoldable pub given_within : List RuleKind → Id → Bool → ℕ → ℕ → Id → Make Pruned
given_within kinds t on zero fuel a = pure (record { term = a; fuel = fuel })
given_within kinds t on (suc depth) fuel a = λ nodes. given_as kinds (given_within kinds t on depth) fuel a (way_on nodes t on fuel a) nodes

-- a word where a test has this value
abbrev pub given : List RuleKind → Id → Bool → Id → Make Id
given kinds t on a = and_make (given_within kinds t on GIVEN_LIMIT GIVEN_LIMIT a) (λ r. pure r.term)

-- a term has the width that another one had
abbrev pub SameWidth : List Node → Id → List Node → Id → Type 0
SameWidth old a new answer = (w : ℕ) → HasWidth old a w → HasWidth new answer w

-- what a form names stands among the nodes, and has the width of the word
abbrev pub FurtherFits : List Node → Id → Further → Type 0
FurtherFits nodes a Whole = Unit {0}
FurtherFits nodes a (Side b) = SameWidth nodes a nodes b
FurtherFits nodes a (Both u x y) = HasWidth nodes u 1 × SameWidth nodes a nodes x × SameWidth nodes a nodes y

-- in every environment in which the test has this value, the answer has the word's value
abbrev pub IsGiven : List Node → Id → Bool → Id → Id → Type 0
IsGiven nodes t on a answer =
    (inputs : Inputs) → InputsFit inputs nodes → ((value_of inputs nodes t.0).bits == 1) ≡ on
    → value_of inputs nodes answer.0 ≡ value_of inputs nodes a.0

-- the step answers this word, and leaves so many picks
pub record IsPruned (step : Make Pruned) (old new : List Node) (term : Id) (fuel : ℕ) : Type 0 where
  pub nodes : new ≡ (step old).nodes
  pub value : record { term = term; fuel = fuel } ≡ (step old).value
