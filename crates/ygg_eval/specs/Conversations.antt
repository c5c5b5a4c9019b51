-- What a block asks while it runs, and what it is answered: choices by picks, and calls by the machine below.
use Rattle.std.specs.Prelude.{◌≡◌, ℕ, ◌+◌, IsTrue, List, [], ◌∷◌, ◌++◌, map, Option, Some, None}
use Rattle.ygg_value.specs.Values.{digit}
use Rattle.ygg_syntax.specs.declared.grammar.BlockKind.{BlockKind}
use Rattle.ygg_syntax.specs.declared.tree.File.{File}
use Rattle.ygg_meaning_laws.specs.ygg_disk.Power.{pick_of, after_pick}
use Rattle.ygg_meaning_laws.specs.ygg_meaning.Progress.{Question, Choice, Call, Answer, Point, Waits, Goes, Progress, Asks, Ends, Stray}
use Rattle.ygg_meaning_laws.specs.Questions.{answer_fits, question_fits}
use Rattle.ygg_eval.specs.Layers.{signatures_at}
use Rattle.ygg_eval.specs.Lower.{Standing, Meaning, Whole}

-- what is asked for each list of answers, if anything is
abbrev pub Asking : Type 0
Asking = List Answer → Option Question

-- what a part of a block waits for
abbrev pub waited : Point → Option Question
waited (Waits q) = Some q
waited (Goes env left) = None

-- what a block asks
abbrev pub asked : Progress → Option Question
asked (Asks q) = Some q
asked (Ends env answer) = None
asked Stray = None

-- a choice is answered by the next pick, and a call by the machine below
abbrev pub Answers : {S : Type 0} → Meaning S → File → Standing S → Question → Answer → Standing S → Type 0
Answers M file from Choice a to = (a ≡ Some (digit (pick_of from.power.picks)))
    × (to ≡ record from { power = record from.power { picks = after_pick from.power.picks } })
Answers M file from (Call name args) a to = M.Calls file from name args (Whole a) to

-- one question and its answer, which fits it, where the machine below has this number
pub record Answered {S : Type 0} (M : Meaning S) (file : File) (number : ℕ) (from : Standing S) (q : Question) (a : Answer) (to : Standing S) : Type 0 where
  pub fit : IsTrue (answer_fits (signatures_at file number) q a)
  pub step : Answers M file from q a to

-- a question that a block of the kind may ask, and its answer
pub record Exchanged {S : Type 0} (M : Meaning S) (file : File) (kind : BlockKind) (number : ℕ) (from : Standing S) (q : Question) (a : Answer)
    (to : Standing S) : Type 0 where
  pub asks : IsTrue (question_fits kind (signatures_at file number) q)
  pub answered : Answered M file number from q a to

-- how one question and its answer lead from one standing to another
abbrev pub Exchanging : Type 0 → Type 1
Exchanging S = Standing S → Question → Answer → Standing S → Type 0

-- a question, its answer, and how the machine below stands after it
pub record Exchange (S : Type 0) : Type 0 where
  pub question : Question
  pub answer : Answer
  pub after : Standing S

-- the answers in order
abbrev pub answers_of : {S : Type 0} → List (Exchange S) → List Answer
answers_of {S} = map (λ (x : Exchange S). x.answer)

-- 1 for a call
abbrev pub one_call : Question → ℕ
one_call Choice = 0
one_call (Call name args) = 1

-- how many calls there are
abbrev pub calls_in : {S : Type 0} → List (Exchange S) → ℕ
calls_in [] = 0
calls_in (x ∷ xs) = one_call x.question + calls_in xs

-- after these answers the questions that follow are asked in turn, and are answered
abbrev pub Talks : {S : Type 0} → Exchanging S → Asking → List Answer → Standing S → List (Exchange S) → Standing S → Type 0
Talks answered asking told from [] to = from ≡ to
Talks answered asking told from (x ∷ xs) to =
    (asking told ≡ Some x.question) × answered from x.question x.answer x.after × Talks answered asking (told ++ x.answer ∷ []) x.after xs to

-- what was asked and answered from the beginning
pub record Conversation {S : Type 0} (answered : Exchanging S) (asking : Asking) (from at : Standing S) : Type 0 where
  pub exchanges : List (Exchange S)
  pub path : Talks answered asking [] from exchanges at
