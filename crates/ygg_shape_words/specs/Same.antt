-- What the equality of two words makes in a bank, under a book of these kinds.
use Rattle.std.specs.Prelude.{ℕ, zero, suc, ◌-◌, ◌≡◌, ◌==◌, ◌&&◌, if◌then◌else◌, Option, Some, None, List, [], ◌∷◌, ◌++◌, All, slice_get}
use Rattle.ygg_value.specs.Words.{word, bit_of}
use Rattle.ygg_value.specs.declared.operation.Op.TheVariants.{Eq, Or}
use Rattle.ygg_rules.specs.declared.rule.RuleKind.{RuleKind}
use Rattle.ygg_bank.specs.Makes.{Make, pure, and_make}
use Rattle.ygg_bank.specs.Making.{made}
use Rattle.ygg_bank.specs.Nodes.{HasWidth}
use Rattle.ygg_bank.specs.Values.{Inputs, InputsFit, value_of}
use Rattle.ygg_bank.specs.declared.node.Id.{Id}
use Rattle.ygg_bank.specs.declared.node.Node.{Node}
use Rattle.ygg_bank.specs.declared.node.Node.TheVariants.{Const, Bin}
use Rattle.ygg_shape_words.specs.Forms.{form_of}
use Rattle.ygg_shape_words.specs.Picking.{picked}
use Rattle.ygg_shape_words.specs.declared.comparing.TheConstants.{SPLIT_LIMIT}
use Rattle.ygg_shape_words.specs.declared.comparing.Compared.{Compared}
use Rattle.ygg_shape_words.specs.declared.forms.Form.{Form}
use Rattle.ygg_shape_words.specs.declared.forms.Form.TheVariants as form

-- how many pairs may still be split, and what is known of the pairs that were
pub record SoFar : Type 0 where
  pub fuel : ℕ
  pub known : List Compared

-- the term that says whether two words are equal, and how far it has come then
pub record Answer : Type 0 where
  pub term : Id
  pub so_far : SoFar

-- what is known of a pair, where anything is
abbrev pub known_for : List Compared → Id → Id → Option Id
known_for [] a b = None
known_for (k ∷ ks) a b = if k.one.0 == a.0 && k.two.0 == b.0 then Some k.answer else known_for ks a b

-- what is known of the pair, or else its form, for which some fuel has to be left
abbrev pub form_unless : Option Id → ℕ → Form → Form
form_unless (Some answer) fuel f = form.Known answer
form_unless None fuel f = if fuel == 0 then form.Plain else f

-- how the equality of two words goes on
abbrev pub form_at : SoFar → List Node → Id → Id → Form
form_at s nodes a b = if a.0 == b.0 then form.One else form_unless (known_for s.known a b) s.fuel
    (form_of nodes a b (slice_get nodes a.0) (slice_get nodes b.0))

-- one pair fewer may be split
abbrev pub spent : SoFar → SoFar
spent s = record { fuel = s.fuel - 1; known = s.known }

-- the pair has this answer from now on
abbrev pub learned : Id → Id → SoFar → Id → Answer
learned a b s answer = record { term = answer; so_far = record { fuel = s.fuel; known = s.known ++ record { one = a; two = b; answer = answer } ∷ [] } }

-- nothing is learned
abbrev pub as_is : SoFar → Id → Answer
as_is s answer = record { term = answer; so_far = s }

-- whether two words are equal, by this form, where smaller pairs are compared by the step
abbrev pub compared_as : List RuleKind → (SoFar → Id → Id → Make Answer) → SoFar → Id → Id → Form → Make Answer
compared_as kinds next s a b form.One = and_make (made kinds (Const (word 1 1))) (λ r. pure (as_is s r))
compared_as kinds next s a b form.Never = and_make (made kinds (Const (word 1 0))) (λ r. pure (as_is s r))
compared_as kinds next s a b (form.Known answer) = pure (as_is s answer)
compared_as kinds next s a b form.Plain = and_make (made kinds (Bin Eq a b)) (λ r. pure (as_is s r))
compared_as kinds next s a b (form.Split t x y p q) =
    and_make (next (spent s) x y) (λ one. and_make (next one.so_far p q)
    (λ two. and_make (picked kinds t one.term two.term) (λ r. pure (learned a b two.so_far r))))
compared_as kinds next s a b (form.Either x y p q) =
    and_make (next (spent s) x y) (λ one. and_make (next one.so_far p q)
    (λ two. and_make (made kinds (Bin Or one.term two.term)) (λ r. pure (learned a b two.so_far r))))
compared_as kinds next s a b (form.Against x k) =
    and_make (made kinds (Const k)) (λ c. and_make (next (spent s) x c) (λ one. pure (learned a b one.so_far one.term)))

-- whether two words are equal, with so many splits one within another
unfoldable pub same_within : List RuleKind → ℕ → SoFar → Id → Id → Make Answer
same_within kinds zero s a b = compared_as kinds (λ s a b. pure (as_is s a)) s a b form.Plain
same_within kinds (suc depth) s a b = λ nodes. compared_as kinds (same_within kinds depth) s a b (form_at s nodes a b) nodes

-- whether two words are equal
abbrev pub same_words : List RuleKind → Id → Id → Make Id
same_words kinds a b = and_make (same_within kinds SPLIT_LIMIT (record { fuel = SPLIT_LIMIT; known = [] }) a b) (λ answer. pure answer.term)

-- what is known of pairs are single digits
abbrev pub KnownFit : List Node → List Compared → Type 0
KnownFit nodes = All (λ (k : Compared). HasWidth nodes k.answer 1)

-- in every environment the answer is 1 where the two words are equal, and else 0
abbrev pub IsSame : List Node → Id → Id → Id → Type 0
IsSame nodes a b answer =
    (inputs : Inputs) → InputsFit inputs nodes
    → value_of inputs nodes answer.0 ≡ word 1 (bit_of ((value_of inputs nodes a.0).bits == (value_of inputs nodes b.0).bits))

-- the step answers this term, and leaves this so far
pub record IsAnswer (step : Make Answer) (old new : List Node) (term : Id) (so_far : SoFar) : Type 0 where
  pub nodes : new ≡ (step old).nodes
  pub value : record { term = term; so_far = so_far } ≡ (step old).value
