-- A layer's specification as a function of picks.
use Rattle.std.specs.Prelude.{Bool, if◌then◌else◌, List, [], ◌∷◌, ◌++◌, length, take, Option, Some, None}
use Rattle.ygg_value.specs.declared.row.Value.{Value}
use Rattle.ygg_syntax.specs.declared.tree.Block.{Block}
use Rattle.ygg_syntax.specs.declared.tree.Operation.{Operation}
use Rattle.ygg_meaning_laws.specs.Environments.{Env, bind}
use Rattle.ygg_meaning_laws.specs.Progress.{Answer, answer_of}
use Rattle.ygg_meaning_laws.specs.Machine.{Picks, State, based}
use Rattle.ygg_meaning_laws.specs.Layer.{ClosedLayer, eval_of, operation_of}
use Rattle.ygg_meaning_laws.specs.Direct.{Reached, direct_run}
use Rattle.ygg_meaning_laws.specs.Acts.{next_of, later, Did, Fell, Acts}
use Rattle.ygg_meaning_laws.specs.Places.{Held, from_front, choosing}

-- what blocks of a specification end in: the variables, an answer, the picks that were taken and those that are left
pub record Ran : Type 0 where
  pub vars : Env
  pub answer : Answer
  pub taken : Picks
  pub left : Picks

module _ (past : Bool) (L : ClosedLayer) where
  -- the statements of a block over variables and arguments, each choice taking the next pick
  abbrev pub chooses : Block → Env → Env → Picks → Reached (Held Picks)
  chooses b vars args picks = direct_run (eval_of L) (λ f. 1) (from_front (choosing past)) b (vars ++ args) (record { at = []; left = picks })

  -- what the block ends in
  abbrev pub ran_by : Block → Env → Reached (Held Picks) → Ran
  ran_by b vars r = record { vars = take (length vars) r.env; answer = answer_of (eval_of L) b.answer r.env; taken = r.to.at; left = r.to.left }

  -- a block over variables and arguments
  abbrev pub block_ran : Block → Env → Env → Picks → Ran
  block_ran b vars args picks = ran_by b vars (chooses b vars args picks)

  -- the `crash` block goes on with the variables and the picks that are left
  abbrev pub then_crash : Ran → Ran
  then_crash r = let c = block_ran L.layer.crash r.vars [] r.left in record { vars = c.vars; answer = c.answer; taken = r.taken ++ c.taken; left = c.left }

  -- an operation that power has cut: its own `on crash` block, or one pick that says whether it has happened wholly; then comes the `crash` block
  abbrev pub fall_ran : Operation → Option Block → Env → List Value → Picks → Ran
  fall_ran o (Some b) vars args picks = then_crash (block_ran b vars (bind o.arguments args) picks)
  fall_ran o None vars args picks =
      let r = if next_of past picks then then_crash (block_ran o.spec vars (bind o.arguments args) (later picks)) else block_ran L.layer.crash vars []
      (later picks) in
      record { vars = r.vars; answer = r.answer; taken = next_of past picks ∷ r.taken; left = r.left }

  -- a call that has ended so
  abbrev pub did_so : Ran → Did Env Bool
  did_so r = record { answer = r.answer; to = based r.vars; notes = r.taken; left = r.left }

  -- power loss that has ended so
  abbrev pub fell_so : Ran → Fell Env Bool
  fell_so r = record { base = r.vars; notes = r.taken; left = r.left }

  -- an operation of the layer; what is none does nothing
  abbrev pub spec_does : State Env → Option Operation → List Value → Picks → Did Env Bool
  spec_does s None args picks = record { answer = None; to = s; notes = []; left = picks }
  spec_does s (Some o) args picks = did_so (block_ran o.spec s.base (bind o.arguments args) picks)

  -- power fails within an operation
  abbrev pub spec_drops : State Env → Option Operation → List Value → Picks → Fell Env Bool
  spec_drops s None args picks = record { base = s.base; notes = []; left = picks }
  spec_drops s (Some o) args picks = fell_so (fall_ran o o.on_crash s.base args picks)

  -- the specification of a layer as a function of picks
  abbrev pub spec_acts : Acts Env Bool
  spec_acts = record {
    calls = λ s name args picks. spec_does s (operation_of L name) args picks;
    falls = λ s name args picks. spec_drops s (operation_of L name) args picks;
    loses = λ s picks. fell_so (block_ran L.layer.crash s.base [] picks);
  }
