-- Power that fails on a machine over terms: what its stops are made of, and what is asked of them.
use Rattle.std.specs.Prelude.{◌≤◌, ◌+◌, ℕ, IsTrue, List}
use Rattle.ygg_value.specs.declared.operation.Op.TheVariants.{Or}
use Rattle.ygg_sym_runs.specs.ygg_meaning_laws.Questions.{question_fits}
use Rattle.ygg_sym_runs.specs.ygg_rules.declared.rule.RuleKind.{RuleKind}
use Rattle.ygg_sym_runs.specs.ygg_bank.Makes.{Make}
use Rattle.ygg_sym_runs.specs.ygg_bank.Making.{made}
use Rattle.ygg_sym_runs.specs.ygg_bank.Nodes.{HasWidth}
use Rattle.ygg_sym_runs.specs.ygg_bank.declared.node.Id.{Id}
use Rattle.ygg_sym_runs.specs.ygg_bank.Values.{Inputs, Values, Fits}
use Rattle.ygg_sym_runs.specs.ygg_bank.declared.node.Node.{Node}
use Rattle.ygg_sym_runs.specs.ygg_bank.declared.node.Node.TheVariants.{Input, Bin}
use Rattle.ygg_sym_runs.specs.ygg_shape_words.Picking.{picked}
use Rattle.ygg_sym_runs.specs.ExpressionMeaning.{Grows, Gives}
use Rattle.ygg_sym_runs.specs.Runs.{SymQuestion}
use Rattle.ygg_sym_runs.specs.Meaning.{QuestionShaped, question_worth}
use Rattle.ygg_sym_runs.specs.Lower.{SymMeaning, SingleFrom}
use Rattle.ygg_sym_runs.specs.StopTerms.{Stops}

-- what power leaves of a machine over terms with states of S
pub record Power (S : Type 0) : Type 0 where
  -- where it fails within a question, and between questions
  pub cut : List RuleKind → SymQuestion → S → Make S
  pub lose : List RuleKind → S → Make S
  -- of what it leaves, one where a test is 1, and else another
  pub join : List RuleKind → Id → S → S → Make S
  -- the number of the first stop's input
  pub stop : ℕ
  -- the inputs of stops and failures have this number or a greater one
  pub first : ℕ

module _ {S : Type 0} (M : SymMeaning S) (K : Power S) where
  -- the stops of runs on the machine: one input for each, from a number on
  abbrev pub stops_on : List RuleKind → Stops S S
  stops_on kinds = record {
    bit = λ n. made kinds (Input (K.stop + n) 1);
    cut = K.cut kinds;
    lose = K.lose kinds;
    merge = K.join kinds;
    either = λ a b. made kinds (Bin Or a b);
    pick = picked kinds;
  }

  -- what power leaves stands among the nodes, as the machine's states do
  pub record IsPower : Type 0 where
    pub least : K.first ≤ K.stop
    pub cut_grows : (kinds : List RuleKind) (q : SymQuestion) (s : S) → Grows (K.cut kinds q s)
    pub cut_stands : M.Serves → (kinds : List RuleKind) (inputs : Inputs) (v : Values) (q : SymQuestion) (s : S) (nodes : List Node) →
        IsTrue (question_fits M.kind M.lower (question_worth v q)) → QuestionShaped nodes q → M.low.Has nodes s →
        Gives inputs v (K.cut kinds q s) nodes M.low.Has
    pub lose_grows : (kinds : List RuleKind) (s : S) → Grows (K.lose kinds s)
    pub lose_stands : M.Serves → (kinds : List RuleKind) (inputs : Inputs) (v : Values) (s : S) (nodes : List Node) → M.low.Has nodes s →
        Gives inputs v (K.lose kinds s) nodes M.low.Has
    pub join_grows : (kinds : List RuleKind) (t : Id) (a b : S) → Grows (K.join kinds t a b)
    pub join_stands : M.Serves → (kinds : List RuleKind) (inputs : Inputs) (v : Values) (t : Id) (a b : S) (nodes : List Node) → HasWidth nodes t 1 →
        M.low.Has nodes a → M.low.Has nodes b → Gives inputs v (K.join kinds t a b) nodes M.low.Has

  -- power may fail where a state stands among the nodes
  pub record CanLose (nodes : List Node) (s : S) : Type 0 where
    pub serves : M.Serves
    pub has : M.low.Has nodes s
    pub single : SingleFrom K.first nodes

  -- and within a question that may be asked there
  pub record CanCut (nodes : List Node) (q : SymQuestion) (s : S) : Type 0 where
    pub loses : CanLose nodes s
    pub shaped : QuestionShaped nodes q
    pub fits : (inputs : Inputs) (v : Values) → Fits inputs v nodes → IsTrue (question_fits M.kind M.lower (question_worth v q))
