-- The machine that a run over terms stands on, and what its steps ask.
use Rattle.std.specs.Prelude.{◌≡◌, ◌≤◌, ◌^◌, ℕ, IsTrue, List, Option, Some, None, slice_get}
use Rattle.ygg_syntax.specs.declared.grammar.BlockKind.{BlockKind}
use Rattle.ygg_meaning_laws.specs.ygg_type_rules.Names.{Named}
use Rattle.ygg_meaning_laws.specs.ygg_type_rules.declared.scope.Signature.{Signature}
use Rattle.ygg_meaning_laws.specs.ygg_meaning.Environments.{Name}
use Rattle.ygg_meaning_laws.specs.ygg_meaning.Progress.{Question}
use Rattle.ygg_meaning_laws.specs.Questions.{question_fits}
use Rattle.ygg_sym_runs.specs.ygg_rules.declared.rule.RuleKind.{RuleKind}
use Rattle.ygg_sym_runs.specs.ygg_bank.Nodes.{HasWidth}
use Rattle.ygg_sym_runs.specs.ygg_bank.Values.{Inputs, Values, Fits}
use Rattle.ygg_sym_runs.specs.ygg_bank.declared.node.Id.{Id}
use Rattle.ygg_sym_runs.specs.ygg_bank.declared.node.Node.{Node}
use Rattle.ygg_sym_runs.specs.ygg_bank.declared.node.Node.TheVariants.{Input}
use Rattle.ygg_meaning_laws.specs.Direct.{Handled}
use Rattle.ygg_sym_runs.specs.Runs.{SymQuestion, SymMachine}
use Rattle.ygg_sym_runs.specs.Runs as runs
use Rattle.ygg_sym_runs.specs.Meaning.{Low, MachineMeans, QuestionShaped, question_worth}
use Rattle.ygg_sym_runs.specs.declared.question.Awaited as asked
use Rattle.ygg_sym_runs.specs.declared.question.Awaited.TheVariants.{Choice, Call}

-- each input among the nodes that has this number or a greater one is a single digit
abbrev pub SingleFrom : ℕ → List Node → Type 0
SingleFrom first nodes = (place number w : ℕ) → slice_get nodes place ≡ Some (Input number w) → first ≤ number → w ≡ 1

-- no other input came: where those from a number on were single digits, they still are
abbrev pub KeepsSingle : List Node → List Node → Type 0
KeepsSingle old new = (first : ℕ) → SingleFrom first old → SingleFrom first new

-- what a block waits for
abbrev pub question_of : asked.Awaited → SymQuestion
question_of Choice = runs.Choice
question_of (Call name args) = runs.Call name.now args.now

-- a number, where it is below 2^64
abbrev pub Counts : ℕ → Option ℕ → Type 0
Counts n (Some k) = k ≡ n
Counts n None = 2 ^ 64 ≤ n

-- what a machine over terms with states of S is, and what it means to the blocks that run on it
pub record SymMeaning (S : Type 0) : Type 1 where
  -- the states that its states are worth, and how
  pub Worth : Type 0
  pub low : Low S Worth
  -- the kind of the blocks that run on it, and the operations that they may call
  pub kind : BlockKind
  pub lower : Named Signature
  -- what it does, under a book of these kinds
  pub machine : List RuleKind → SymMachine S
  -- how many places a call has
  pub space : Name → ℕ
  -- what it does is worth this, in each environment
  pub direct : Inputs → Values → ℕ → Question → Worth → Handled Worth
  -- what it is made of is in order
  pub Serves : Type 0
  -- the inputs that it makes have this number or a greater one
  pub first : ℕ

-- a machine that is in order does what it means
pub record IsLower {S : Type 0} (M : SymMeaning S) : Type 0 where
  pub means : M.Serves → (kinds : List RuleKind) (inputs : Inputs) (v : Values) →
      MachineMeans inputs v M.low M.kind M.lower (M.machine kinds) (M.direct inputs v)
  pub space : (kinds : List RuleKind) (name : Name) → (M.machine kinds).space name ≡ M.space name

module _ {S : Type 0} (M : SymMeaning S) where
  -- the machine is in order, its state stands among the nodes, and its inputs may be made
  pub record Stands (nodes : List Node) (s : S) : Type 0 where
    pub serves : M.Serves
    pub has : M.low.Has nodes s
    pub single : SingleFrom M.first nodes

  -- a question may be asked: in each environment it fits the operations
  pub record CanAsk (nodes : List Node) (q : SymQuestion) (s : S) : Type 0 where
    pub stands : Stands nodes s
    pub shaped : QuestionShaped nodes q
    pub fits : (inputs : Inputs) (v : Values) → Fits inputs v nodes → IsTrue (question_fits M.kind M.lower (question_worth v q))

  -- two states may be merged by a test
  pub record CanMerge (nodes : List Node) (t : Id) (a b : S) : Type 0 where
    pub serves : M.Serves
    pub test : HasWidth nodes t 1
    pub first_has : M.low.Has nodes a
    pub second_has : M.low.Has nodes b
