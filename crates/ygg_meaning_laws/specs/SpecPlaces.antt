-- What a specification does with picks by place in the unrolled text.
use Rattle.std.specs.Prelude.{◌↔◌, Bool, IsTrue, if◌then◌else◌, List, [], Option, Some, None}
use Rattle.ygg_value.specs.declared.row.Value.{Value}
use Rattle.ygg_syntax.specs.declared.grammar.BlockKind.TheVariants.{Spec}
use Rattle.ygg_syntax.specs.Choices.{choices_of}
use Rattle.ygg_syntax.specs.declared.tree.Block.{Block}
use Rattle.ygg_syntax.specs.declared.tree.Operation.{Operation}
use Rattle.ygg_meaning_laws.specs.Environments.{Env, bind}
use Rattle.ygg_meaning_laws.specs.Machine.{Picks}
use Rattle.ygg_meaning_laws.specs.Layer.{ClosedLayer}
use Rattle.ygg_meaning_laws.specs.Spec.{Outcome, start_outcome}
use Rattle.ygg_meaning_laws.specs.Obligations.{Obligation, Init, CallOf, CutOf, TickOf, CutTickOf, Idle, Again, Schedule, NoPicksPass}
use Rattle.ygg_meaning_laws.specs.Violates.{End, most, passes, spec_after}
use Rattle.ygg_meaning_laws.specs.Kinds.{keeps, on_crash_keeps}
use Rattle.ygg_meaning_laws.specs.Acts.{next_of, later}
use Rattle.ygg_meaning_laws.specs.Places.{left_after, Result, outcome_by_place}

module _ (past : Bool) (L : ClosedLayer) where
  -- the `crash` block
  abbrev pub crash_by_place : Env → Picks → Result
  crash_by_place vars picks = outcome_by_place past L L.layer.crash vars [] picks

  -- a block and then the `crash` block, whose places come after all of the block's
  abbrev pub then_by_place : Block → Env → Env → Picks → Result
  then_by_place b vars args picks = crash_by_place (outcome_by_place past L b vars args picks).vars (left_after (choices_of b) picks)

  -- an operation that power has cut: the places of its blocks stand one after the other, whether it has happened or not
  abbrev pub fall_by_place : Operation → Option Block → Env → List Value → Picks → Result
  fall_by_place o (Some b) vars args picks = then_by_place b vars (bind o.arguments args) picks
  fall_by_place o None vars args picks =
      if next_of past picks then then_by_place o.spec vars (bind o.arguments args) (later picks)
      else crash_by_place vars (left_after (choices_of o.spec) (later picks))

  -- it is the outcome of a step of the specification
  abbrev pub as_outcome : Result → Option Outcome
  as_outcome r = Some (record { vars = r.vars; answer = r.answer; left = [] })

  -- how the specification's step ends with these picks by place
  abbrev pub spec_by_place : Obligation → Schedule → Picks → Option Outcome
  spec_by_place Init x picks = start_outcome L
  spec_by_place (CallOf o) x picks = as_outcome (outcome_by_place past L o.spec x.state (bind o.arguments x.args) picks)
  spec_by_place (CutOf o) x picks = as_outcome (fall_by_place o o.on_crash x.state x.args picks)
  spec_by_place (TickOf t) x picks = Some (record { vars = x.state; answer = None; left = [] })
  spec_by_place (CutTickOf t) x picks = as_outcome (crash_by_place x.state picks)
  spec_by_place Idle x picks = as_outcome (crash_by_place x.state picks)
  spec_by_place Again x picks = None

-- the blocks of the specification's step make no calls
abbrev pub ChoosesAlone : ClosedLayer → Obligation → Type 0
ChoosesAlone L (CallOf o) = IsTrue (keeps Spec o.spec)
ChoosesAlone L (CutOf o) = IsTrue (keeps Spec o.spec) × IsTrue (on_crash_keeps o.on_crash) × IsTrue (keeps Spec L.layer.crash)
ChoosesAlone L o = IsTrue (keeps Spec L.layer.crash)

-- no list of picks from the front passes exactly where no list of picks by place does
abbrev pub FailsByPlace : Type 0
FailsByPlace =
    (past : Bool) (L : ClosedLayer) (o : Obligation) (x : Schedule) (end : End) → ChoosesAlone L o →
    NoPicksPass (most L o) (λ picks. passes L o end (spec_after L o x picks))
    ↔ NoPicksPass (most L o) (λ picks. passes L o end (spec_by_place past L o x picks))
