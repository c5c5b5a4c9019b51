-- What a block may ask for, which answers fit, and what becomes of its names.
use Rattle.std.specs.Prelude.{◌≡◌, Bool, false, ◌&&◌, IsTrue, if◌then◌else◌, List, [], ◌∷◌, ◌++◌, is_none, Option, Some, None}
use Rattle.ygg_value.specs.declared.shape.Shape.{Shape}
use Rattle.ygg_value.specs.declared.shape.Shape.TheVariants.{Word}
use Rattle.ygg_syntax.specs.declared.grammar.BlockKind.{BlockKind}
use Rattle.ygg_meaning_laws.specs.ygg_type_rules.Names.{Named, look_up}
use Rattle.ygg_meaning_laws.specs.Signature.{Signature}
use Rattle.ygg_meaning.specs.Environments.{Env}
use Rattle.ygg_meaning.specs.Shapes.{fits}
use Rattle.ygg_meaning.specs.Meaning as meaning
use Rattle.ygg_meaning.specs.Progress.{Question, Choice, Call, Answer, Asks}
use Rattle.ygg_meaning.specs.Runs.{Dialogue}
use Rattle.ygg_meaning_laws.specs.Fitting.{fits_wanted, all_fit}
use Rattle.ygg_meaning_laws.specs.Kinds.{may_choose, may_call}

-- what the expressions of a block see: its names, and nothing of the machine below
abbrev pub plain : Env → meaning.Scope
plain env = record { own = env; low = [] }

-- whether there is a value, which has the shape that is wanted, if one is
abbrev pub answer_has : Option Shape → Answer → Bool
answer_has wanted None = false
answer_has wanted (Some v) = fits_wanted wanted v

-- whether an operation gives this: a value of its shape, or none where it gives no answer
abbrev pub gives : Signature → Answer → Bool
gives o a = if o.answers then answer_has o.answer a else is_none a

-- whether an answer fits a question, where the machine below has these operations: a choice is a word of width 1
abbrev pub answer_fits : Named Signature → Question → Answer → Bool
answer_fits lower Choice a = answer_has (Some (Word 1)) a
answer_fits lower (Call name args) a = elim (look_up name lower) [ None ↦ false | Some o ↦ gives o a ]

-- whether a block of the kind may ask this: a choice, or an operation of the machine below with arguments of its shapes
abbrev pub question_fits : BlockKind → Named Signature → Question → Bool
question_fits kind lower Choice = may_choose kind
question_fits kind lower (Call name args) = may_call kind && elim (look_up name lower) [ None ↦ false | Some o ↦ all_fit o.arguments args ]

-- each answer fits the question that the block asks after those before it
abbrev pub AnswersFit : Named Signature → Dialogue → List Answer → Type 0
AnswersFit lower block answers =
    (told more : List Answer) (a : Answer) (q : Question) → answers ≡ told ++ a ∷ more → block told ≡ Asks q → IsTrue (answer_fits lower q a)

-- each name of the first stands in its place in the second, with a value of whichever shape it had; more names may follow
abbrev pub Follows : Env → Env → Type 0
Follows [] after = Unit {0}
Follows (b ∷ before) [] = ⊥
Follows (b ∷ before) (c ∷ after) = (c.0 ≡ b.0) × ((s : Shape) → IsTrue (fits s b.1) → IsTrue (fits s c.1)) × Follows before after
