-- What is asked of a machine over terms, and what a run over terms is then worth.
use Rattle.std.specs.Prelude.{◌≡◌, ◌==◌, ℕ, Bool, IsTrue, if◌then◌else◌, List, map, All, Option, Some, None}
use Rattle.ygg_syntax.specs.declared.grammar.BlockKind.{BlockKind}
use Rattle.ygg_meaning_laws.specs.ygg_type_rules.Names.{Named}
use Rattle.ygg_meaning_laws.specs.ygg_type_rules.declared.scope.Signature.{Signature}
use Rattle.ygg_meaning_laws.specs.ygg_type_rules.Scopes.{Scope}
use Rattle.ygg_meaning_laws.specs.ygg_meaning.Environments.{Env}
use Rattle.ygg_meaning_laws.specs.ygg_meaning.Meaning.{Functions}
use Rattle.ygg_meaning_laws.specs.ygg_meaning.Progress.{Question, Answer}
use Rattle.ygg_meaning_laws.specs.ygg_meaning.Progress as progress
use Rattle.ygg_meaning_laws.specs.Agrees.{Agrees}
use Rattle.ygg_meaning_laws.specs.Questions.{plain, answer_fits, question_fits, Follows}
use Rattle.ygg_sym_runs.specs.ygg_bank.Nodes.{HasWidth, Extends}
use Rattle.ygg_sym_runs.specs.ygg_bank.Values.{Inputs, Values}
use Rattle.ygg_sym_runs.specs.ygg_bank.declared.node.Id.{Id}
use Rattle.ygg_sym_runs.specs.ygg_bank.declared.node.Node.{Node}
use Rattle.ygg_sym_runs.specs.ygg_shape_cells.Terms.{worth}
use Rattle.ygg_sym_runs.specs.ygg_shape_cells.declared.terms.SymValue.{SymValue}
use Rattle.ygg_meaning_laws.specs.Direct.{Handled, Reached}
use Rattle.ygg_sym_runs.specs.ExpressionMeaning.{SomeShape, EnvShaped, Grows, Gives, worths}
use Rattle.ygg_sym_runs.specs.Runs.{SymQuestion, Choice, Call, SymHandled, SymState, SymMachine}

-- how terms stand for states of the machine below: what a state is worth, and that it stands among nodes, and among more nodes too
pub record Low (S L : Type 0) : Type 1 where
  pub value : Values → S → L
  pub Has : List Node → S → Type 0
  pub wider : (old new : List Node) (s : S) → Extends old new → Has old s → Has new s

-- the terms of an answer stand among the nodes, if there is one
abbrev pub AnswerShaped : List Node → Option SymValue → Type 0
AnswerShaped nodes None = Unit {0}
AnswerShaped nodes (Some x) = SomeShape nodes x

-- and those of a question's arguments
abbrev pub QuestionShaped : List Node → SymQuestion → Type 0
QuestionShaped nodes Choice = Unit {0}
QuestionShaped nodes (Call f xs) = All (SomeShape nodes) xs

module _ (v : Values) where
  -- what an answer is worth: the value, if there is one
  abbrev pub answer_worth : Option SymValue → Answer
  answer_worth None = None
  answer_worth (Some x) = Some (worth v x)

  -- what a question is worth: the same call, with what its arguments are worth
  abbrev pub question_worth : SymQuestion → Question
  question_worth Choice = progress.Choice
  question_worth (Call f xs) = progress.Call f (map (worth v) xs)

  -- whether the term is 1
  abbrev pub is_set : Id → Bool
  is_set t = (v t.0).bits == 1

module _ {S L : Type 0} (inputs : Inputs) (v : Values) (low : Low S L) where
  -- a state that is worth this
  pub record IsLow (want : L) (nodes : List Node) (s : S) : Type 0 where
    pub has : low.Has nodes s
    pub is : low.value v s ≡ want

  -- an answer that fits the question, and a state, that are worth these
  pub record IsHandled (lower : Named Signature) (q : Question) (want : Handled L) (nodes : List Node) (h : SymHandled S) : Type 0 where
    pub shaped : AnswerShaped nodes h.answer
    pub answer : answer_worth v h.answer ≡ want.answer
    pub fits : IsTrue (answer_fits lower q want.answer)
    pub has : low.Has nodes h.to
    pub is : low.value v h.to ≡ want.to

  -- A machine over terms does what a machine does that answers by a function, with whatever blocks of the kind may ask of these operations.
  pub record MachineMeans (kind : BlockKind) (lower : Named Signature) (M : SymMachine S) (machine : ℕ → Question → L → Handled L) : Type 0 where
    pub merge_grows : (t : Id) (a b : S) → Grows (M.merge t a b)
    pub merge : (t : Id) (a b : S) (nodes : List Node) → HasWidth nodes t 1 → low.Has nodes a → low.Has nodes b →
        Gives inputs v (M.merge t a b) nodes (IsLow (if is_set v t then low.value v a else low.value v b))
    pub handle_grows : (i : ℕ) (q : SymQuestion) (s : S) → Grows (M.handle i q s)
    pub handle : (i : ℕ) (q : SymQuestion) (s : S) (nodes : List Node) → IsTrue (question_fits kind lower (question_worth v q)) → QuestionShaped nodes q →
        low.Has nodes s → Gives inputs v (M.handle i q s) nodes (IsHandled lower (question_worth v q) (machine i (question_worth v q) (low.value v s)))

  -- What stands at the end of a run that began with these names: the direct run, whose names keep their shapes and agree with the scope.
  pub record RunIs (functions : Functions) (before : Env) (scope : Scope) (want : Reached L) (nodes : List Node) (z : SymState S) : Type 0 where
    pub shaped : EnvShaped nodes z.env
    pub has : low.Has nodes z.to
    pub is : worths v z.env ≡ want.env
    pub is_low : low.value v z.to ≡ want.to
    pub follows : Follows before want.env
    pub agrees : Agrees functions scope (plain want.env)
