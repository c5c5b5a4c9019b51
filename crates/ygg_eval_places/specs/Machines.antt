-- The machine on which a block is run by place.
use Rattle.std.specs.Prelude.{ℕ, IsTrue}
use Rattle.ygg_syntax.specs.declared.grammar.BlockKind.{BlockKind}
use Rattle.ygg_meaning_laws.specs.ygg_type_rules.Names.{Named}
use Rattle.ygg_meaning_laws.specs.ygg_type_rules.declared.scope.Signature.{Signature}
use Rattle.ygg_meaning_laws.specs.ygg_meaning.Environments.{Name}
use Rattle.ygg_meaning_laws.specs.ygg_meaning.Progress.{Question}
use Rattle.ygg_meaning_laws.specs.ygg_meaning.Progress as progress
use Rattle.ygg_meaning_laws.specs.Questions.{answer_fits, question_fits}
use Rattle.ygg_meaning_laws.specs.Direct.{Handled}
use Rattle.ygg_eval_places.specs.declared.places.Question as asked
use Rattle.ygg_eval_places.specs.declared.places.Question.TheVariants.{Choice, Call}

-- what a block waits for
abbrev pub question_of : asked.Question → Question
question_of Choice = progress.Choice
question_of (Call name args) = progress.Call name.now args.now

-- what a machine with states of S does
pub record PlaceMeaning (S : Type 0) : Type 1 where
  -- what its states are
  pub Is : Type 0
  pub state : S → Is
  -- the kind of the blocks that run on it, and the operations that they may call
  pub kind : BlockKind
  pub lower : Named Signature
  -- how many places a call has
  pub space : Name → ℕ
  -- what it answers at a place, and its state after that
  pub handle : ℕ → Question → Is → Handled Is
  -- what it is made of is in order
  pub Serves : Type 0
  -- the state is in order
  pub Good : Is → Type 0

-- the machine and its state are in order, and the question fits its operations
pub record CanAnswer {S : Type 0} (M : PlaceMeaning S) (q : Question) (s : M.Is) : Type 0 where
  pub serves : M.Serves
  pub good : M.Good s
  pub fits : IsTrue (question_fits M.kind M.lower q)

-- a machine that is in order gives answers that fit, and its state stays in order
pub record IsPlaces {S : Type 0} (M : PlaceMeaning S) : Type 0 where
  pub fits : (i : ℕ) (q : Question) (s : M.Is) → CanAnswer M q s → IsTrue (answer_fits M.lower q (M.handle i q s).answer)
  pub keeps : (i : ℕ) (q : Question) (s : M.Is) → CanAnswer M q s → M.Good (M.handle i q s).to
