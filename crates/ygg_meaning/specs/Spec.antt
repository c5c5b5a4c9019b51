-- The machine of a layer's specification.
use Rattle.std.specs.Prelude.{◌≡◌, Bool, IsTrue, if◌then◌else◌, List, [], ◌∷◌, ◌++◌, map, length, take, Option, Some, None}
use Rattle.ygg_value.specs.Values.{digit}
use Rattle.ygg_value.specs.declared.row.Value.{Value}
use Rattle.ygg_syntax.specs.declared.tree.Block.{Block}
use Rattle.ygg_syntax.specs.declared.tree.Operation.{Operation}
use Rattle.ygg_meaning.specs.Environments.{Name, Env, bind}
use Rattle.ygg_meaning.specs.Shapes.{values_fit, env_fits, zeros_of}
use Rattle.ygg_meaning.specs.Progress.{Eval, Answer, Point, Waits, Goes, in_turn, run_of, answer_of}
use Rattle.ygg_meaning.specs.Machine.{Picks, State, based, Machine}
use Rattle.ygg_meaning.specs.Layer.{ClosedLayer, eval_of, operation_of}

-- what blocks of a specification end in: the variables, an answer, and the answers to choices that are left
pub record Outcome : Type 0 where
  pub vars : Env
  pub answer : Answer
  pub left : List Answer

-- each choice is answered by a pick, as a word of width 1
abbrev pub chosen : Picks → List Answer
chosen = map (λ pick. Some (digit pick))

-- the outcome of a block that has got to a point; none where it waits for more picks
abbrev pub outcome_at : Eval → Block → Env → Point → Option Outcome
outcome_at eval b vars (Waits q) = None
outcome_at eval b vars (Goes env left) = Some (record { vars = take (length vars) env; answer = answer_of eval b.answer env; left = left })

-- a block over variables and arguments, which takes its picks from the front
abbrev pub block_outcome : ClosedLayer → Block → Env → Env → List Answer → Option Outcome
block_outcome L b vars args answers =
    outcome_at (eval_of L) b vars (in_turn (map (run_of (eval_of L)) b.statements) (vars ++ args) answers)

-- another block goes on with the variables and the picks that are left
abbrev pub then_block : ClosedLayer → Block → Option Outcome → Option Outcome
then_block L b None = None
then_block L b (Some o) = block_outcome L b o.vars [] o.left

-- the `crash` block
abbrev pub crash_outcome : ClosedLayer → Env → List Answer → Option Outcome
crash_outcome L vars answers = block_outcome L L.layer.crash vars [] answers

-- the `spec` block of an operation
abbrev pub call_outcome : ClosedLayer → Operation → Env → List Value → List Answer → Option Outcome
call_outcome L o vars args answers = block_outcome L o.spec vars (bind o.arguments args) answers

-- one pick says whether the operation has happened wholly; then comes the `crash` block
abbrev pub maybe_call : ClosedLayer → Operation → Env → List Value → Picks → Option Outcome
maybe_call L o vars args [] = None
maybe_call L o vars args (happened ∷ picks) =
    if happened then then_block L L.layer.crash (call_outcome L o vars args (chosen picks)) else crash_outcome L vars (chosen picks)

-- an operation that power has cut: its own `on crash` block and then the `crash` block, or without one all of it or nothing
abbrev pub fall_with : ClosedLayer → Operation → Option Block → Env → List Value → Picks → Option Outcome
fall_with L o None vars args picks = maybe_call L o vars args picks
fall_with L o (Some b) vars args picks = then_block L L.layer.crash (block_outcome L b vars (bind o.arguments args) (chosen picks))

-- an operation that power has cut
abbrev pub fall_outcome : ClosedLayer → Operation → Env → List Value → Picks → Option Outcome
fall_outcome L o = fall_with L o o.on_crash

-- variables of zeros that the `start` block, which has no choices, has changed
abbrev pub start_outcome : ClosedLayer → Option Outcome
start_outcome L = block_outcome L L.layer.start (zeros_of L.layer.state) [] []

-- a whole operation from variables of the declared shapes, with exactly these picks
pub record SpecCalls (L : ClosedLayer) (from : State Env) (name : Name) (args : List Value) (picks : Picks) (answer : Answer) (to : State Env) : Type 0 where
  pub operation : Operation
  pub is : operation_of L name ≡ Some operation
  pub fit : IsTrue (values_fit operation.arguments args)
  pub vars : Env
  pub from_is : from ≡ based vars
  pub shaped : IsTrue (env_fits L.layer.state vars)
  pub vars' : Env
  pub gives : call_outcome L operation vars args (chosen picks) ≡ Some (record { vars = vars'; answer = answer; left = [] })
  pub to_is : to ≡ based vars'

-- an operation that power has cut, from variables of the declared shapes, with exactly these picks
pub record SpecFalls (L : ClosedLayer) (from : State Env) (name : Name) (args : List Value) (picks : Picks) (fallen : Env) : Type 0 where
  pub operation : Operation
  pub is : operation_of L name ≡ Some operation
  pub fit : IsTrue (values_fit operation.arguments args)
  pub vars : Env
  pub from_is : from ≡ based vars
  pub shaped : IsTrue (env_fits L.layer.state vars)
  pub answer : Answer
  pub gives : fall_outcome L operation vars args picks ≡ Some (record { vars = fallen; answer = answer; left = [] })

-- power loss between operations, from variables of the declared shapes, with exactly these picks
pub record SpecLoses (L : ClosedLayer) (from : State Env) (picks : Picks) (fallen : Env) : Type 0 where
  pub vars : Env
  pub from_is : from ≡ based vars
  pub shaped : IsTrue (env_fits L.layer.state vars)
  pub answer : Answer
  pub gives : crash_outcome L vars (chosen picks) ≡ Some (record { vars = fallen; answer = answer; left = [] })

-- the start state
pub record SpecStarts (L : ClosedLayer) (to : State Env) : Type 0 where
  pub vars : Env
  pub answer : Answer
  pub gives : start_outcome L ≡ Some (record { vars = vars; answer = answer; left = [] })
  pub to_is : to ≡ based vars

-- The machine of a layer's specification. It does not see background steps, and a recovery changes nothing.
abbrev pub Spec : ClosedLayer → Machine Env Bool
Spec L = record {
  Starts = λ s picks. (picks ≡ []) × SpecStarts L s;
  Calls = SpecCalls L;
  Falls = SpecFalls L;
  Ticks = λ s name picks s'. (picks ≡ []) × (s' ≡ s);
  TickFalls = λ s name picks f. SpecLoses L s picks f;
  Loses = SpecLoses L;
  Wakes = λ f picks s. (picks ≡ []) × (s ≡ based f);
  WakeFalls = λ f picks f'. ⊥;
}
