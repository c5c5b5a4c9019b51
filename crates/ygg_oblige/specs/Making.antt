-- A layer whose obligations' terms are made, in code.
use Rattle.std.specs.Prelude.{◌≡◌, ◌≤◌, ◌+◌, ℕ, IsTrue, List, [], Option}
use Rattle.ygg_syntax.specs.declared.grammar.BlockKind.TheVariants.{Impl}
use Rattle.ygg_syntax.specs.declared.tree.Block.{Block}
use Rattle.ygg_syntax.specs.declared.tree.Declared.{Declared}
use Rattle.ygg_oblige_parts.specs.ygg_meaning.Obligations.{Obligation, Init, CallOf, CutOf, TickOf, CutTickOf, Idle, Again}
use Rattle.ygg_oblige_parts.specs.ygg_meaning_laws.Blocks.{is_returned}
use Rattle.ygg_oblige_parts.specs.ygg_bank.Inputs.{InputsBelow}
use Rattle.ygg_oblige_parts.specs.ygg_bank.Nodes.{HasWidth}
use Rattle.ygg_oblige_parts.specs.ygg_bank.Values.{Values}
use Rattle.ygg_oblige_parts.specs.ygg_bank.declared.node.Id.{Id}
use Rattle.ygg_oblige_parts.specs.ygg_bank.declared.node.Node.{Node}
use Rattle.ygg_oblige_parts.specs.ygg_shape_cells.declared.terms.SymValue.{SymValue}
use Rattle.ygg_oblige_parts.specs.ygg_sym_runs.Lower.{SingleFrom}
use Rattle.ygg_oblige_parts.specs.ygg_sym_runs.Meaning.{AnswerShaped, answer_worth}
use Rattle.ygg_oblige_parts.specs.ygg_sym_runs.Lows.{LowShaped}
use Rattle.ygg_oblige_laws.specs.ygg_sym_runs.Below.{signatures_on}
use Rattle.ygg_oblige_laws.specs.ygg_sym_runs.Typed.{BlockTyped}
use Rattle.ygg_oblige_parts.specs.Layers.{closed}
use Rattle.ygg_oblige_parts.specs.SymLayer.{SymLayer}
use Rattle.ygg_oblige_parts.specs.Sites.{SameDefs, below_in}
use Rattle.ygg_sym.specs.ygg_sym_spec.declared.below.SymBelow.{SymBelow}
use Rattle.ygg_sym.specs.declared.runs.SymEnd.{SymEnd}
use Rattle.ygg_oblige_parts.specs.ygg_oblige_laws.LayerTerms.{ShapesKept}
use Rattle.ygg_oblige_parts.specs.ygg_oblige_laws.Numbers.{Numbers, arguments_of, block_of}
use Rattle.ygg_oblige_parts.specs.ygg_oblige_laws.TermStates.{Starting, words_in}
use Rattle.ygg_oblige_parts.specs.ObligePiecesSteps.{AnswerKept, HasStep, ObligationTyped, variables_of}
use Rattle.ygg_oblige_parts.specs.Makers.{LayerFits, StartingShaped}
use Rattle.ygg_oblige_parts.specs.Passing.{answered}

-- the layer has no type error on what it is specified over, which has the same definitions
pub record SiteFits (l : SymLayer) (g : SymBelow) : Type 0 where
  pub layer : LayerFits l g
  pub same : SameDefs l g

-- the background step that an obligation speaks of has no type error
abbrev pub TickFits : SymLayer → SymBelow → Obligation → Type 0
TickFits l g Init = Unit {0}
TickFits l g (CallOf o) = Unit {0}
TickFits l g (CutOf o) = Unit {0}
TickFits l g (TickOf t) = BlockTyped l.defs.now (closed l) Impl (signatures_on (below_in g)) t.body (l.layer.now).memory []
TickFits l g (CutTickOf t) = BlockTyped l.defs.now (closed l) Impl (signatures_on (below_in g)) t.body (l.layer.now).memory []
TickFits l g Idle = Unit {0}
TickFits l g Again = Unit {0}

-- a block over arguments has no type error, and answers as the obligation asks
pub record BlockFits (l : SymLayer) (g : SymBelow) (o : Obligation) (b : Block) (arguments : List Declared) : Type 0 where
  pub typed : BlockTyped l.defs.now (closed l) Impl (signatures_on (below_in g)) b (l.layer.now).memory arguments
  pub kept : (v : Values) (answer : Option SymValue) → IsTrue (is_returned b.answer typed.shape (answer_worth v answer)) → AnswerKept v o (answered answer)

-- the obligation speaks of no answer
abbrev pub SpeaksOfNoAnswer : Obligation → Type 0
SpeaksOfNoAnswer o = (v : Values) (answer : Option SymValue) → AnswerKept v o (answered answer)

-- what a whole run leaves has the declared shapes
pub record EndShaped (l : SymLayer) (nodes : List Node) (e : SymEnd) : Type 0 where
  pub memory : LowShaped nodes (l.layer.now).memory e.memory
  pub low : LowShaped nodes l.low.now e.low
  pub answer : AnswerShaped nodes e.answer

-- the inputs of an obligation after those of its arguments come after the run's first pick
pub record AfterRun (n : Numbers) : Type 0 where
  pub stop : n.run ≤ n.stop
  pub last : n.run ≤ n.last
  pub wake : n.run ≤ n.wake
  pub other : n.run ≤ n.other

-- A whole recovery can be run: the state below has the declared shapes, and inputs from the first pick on are single digits.
pub record CanRecover (l : SymLayer) (g : SymBelow) (nodes : List Node) (first : ℕ) (low : List SymValue) : Type 0 where
  pub site : SiteFits l g
  pub low_are : LowShaped nodes l.low.now low
  pub single : SingleFrom first nodes

-- The obligation's step can be asked after a recovery: it speaks of no answer, and what it begins with and what power left have the declared shapes.
pub record CanWake (l : SymLayer) (g : SymBelow) (nodes : List Node) (o : Obligation) (first : ℕ) (hypothesis : Id) (vars args fallen : List SymValue)
    : Type 0 where
  pub recovers : CanRecover l g nodes first fallen
  pub typed : ObligationTyped l.defs.now (below_in g) (closed l) o
  pub has : HasStep o
  pub silent : SpeaksOfNoAnswer o
  pub hypothesis_is : HasWidth nodes hypothesis 1
  pub vars_are : LowShaped nodes (variables_of (closed l) o) vars
  pub args_are : LowShaped nodes (arguments_of o) args

-- The obligation's block can be run: the states that obligations begin with and arguments have the declared shapes, and inputs from that of the run's
-- first pick on are single digits.
pub record CanOblige (l : SymLayer) (g : SymBelow) (nodes : List Node) (o : Obligation) (n : Numbers) (S : Starting) (args : List SymValue) : Type 0 where
  pub site : SiteFits l g
  pub typed : ObligationTyped l.defs.now (below_in g) (closed l) o
  pub has : HasStep o
  pub block : BlockFits l g o (block_of (closed l) o) (arguments_of o)
  pub starting : StartingShaped (closed l) nodes S
  pub vars_are : LowShaped nodes (variables_of (closed l) o) S.from.vars
  pub args_are : LowShaped nodes (arguments_of o) args
  pub single : SingleFrom n.run nodes
  pub after : AfterRun n

-- The obligation's block can be run over fresh arguments: inputs are below the first of them, and all of them have numbers.
pub record CanBegin (l : SymLayer) (g : SymBelow) (nodes : List Node) (o : Obligation) (n : Numbers) (S : Starting) : Type 0 where
  pub site : SiteFits l g
  pub typed : ObligationTyped l.defs.now (below_in g) (closed l) o
  pub has : HasStep o
  pub block : BlockFits l g o (block_of (closed l) o) (arguments_of o)
  pub starting : StartingShaped (closed l) nodes S
  pub variables : variables_of (closed l) o ≡ (l.layer.now).state
  pub kept : ShapesKept (arguments_of o)
  pub free : InputsBelow n.args nodes
  pub run : n.run ≡ n.args + words_in (arguments_of o)
  pub after : AfterRun n
