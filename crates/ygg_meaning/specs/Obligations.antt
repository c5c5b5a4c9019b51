-- The obligations of a layer, and schedules.
use Rattle.std.specs.Prelude.{◌≡◌, ℕ, ◌+◌, Bool, false, List, [], ◌∷◌, ◌++◌, length, take, replicate, Option, Some, None, codes}
use Rattle.std.specs.List.{flat_map}
use Rattle.ygg_value.specs.declared.row.Value.{Value}
use Rattle.ygg_syntax.specs.declared.tree.Operation.{Operation}
use Rattle.ygg_syntax.specs.declared.tree.Tick.{Tick}
use Rattle.ygg_syntax.specs.declared.tree.Layer.{Layer}
use Rattle.ygg_syntax.specs.Choices.{choices_of}
use Rattle.ygg_meaning.specs.Environments.{Env}
use Rattle.ygg_meaning.specs.Machine.{Picks}

-- an obligation of a layer, with its operation or background step
pub data Obligation : Type 0 where
  -- formatting gives a state that is related to the specification's start
  Init : Obligation
  -- a whole operation does what its specification does
  CallOf : (operation : Operation) → Obligation
  -- an operation that power cuts, and a recovery, leave what its specification may leave
  CutOf : (operation : Operation) → Obligation
  -- a whole background step changes nothing that the specification sees
  TickOf : (tick : Tick) → Obligation
  -- a background step that power cuts, and a recovery, leave what power loss alone may leave
  CutTickOf : (tick : Tick) → Obligation
  -- power loss between operations, and a recovery, leave what the specification's power loss may leave
  Idle : Obligation
  -- a recovery that power cuts, and another, end where one whole recovery ends
  Again : Obligation

-- a layer's obligations, in order
abbrev pub obligations_of : Layer → List Obligation
obligations_of l =
    Init ∷ flat_map (λ (o : Operation). CallOf o ∷ CutOf o ∷ []) l.operations
    ++ flat_map (λ (t : Tick). TickOf t ∷ CutTickOf t ∷ []) l.ticks ++ Idle ∷ Again ∷ []

-- the name of an obligation of a layer of this name
abbrev pub name_of : List ℕ → Obligation → List ℕ
name_of layer Init = layer ++ codes ".init"
name_of layer (CallOf operation) = layer ++ (codes ".call." ++ operation.name.text)
name_of layer (CutOf operation) = layer ++ (codes ".cut." ++ operation.name.text)
name_of layer (TickOf tick) = layer ++ (codes ".tick." ++ tick.name.text)
name_of layer (CutTickOf tick) = layer ++ (codes ".cuttick." ++ tick.name.text)
name_of layer Idle = layer ++ codes ".idle"
name_of layer Again = layer ++ codes ".again"

-- where a run stops: within a call or before it, and how many calls are whole by then
pub record Halt : Type 0 where
  pub within : Bool
  pub event : ℕ

-- A value for everything that an obligation speaks of. What it does not speak of is not looked at.
pub record Schedule : Type 0 where
  -- the specification's variables
  pub state : Env
  pub memory : Env
  -- the base below
  pub low : Env
  pub args : List Value
  pub stop : Option Halt
  -- the picks of the run, of the recovery after it, and of a recovery from the first state
  pub picks : Picks
  pub wake : Picks
  pub other : Picks

-- a run takes the picks of this list, and 0 past its end
abbrev pub IsRead : Picks → Picks → Type 0
IsRead picks taken = taken ≡ take (length taken) (picks ++ replicate (length taken) false)

-- a run stops where the schedule says
abbrev pub StopsAt : Option Halt → Bool → ℕ → Type 0
StopsAt None within event = ⊥
StopsAt (Some h) within event = (h.within ≡ within) × (h.event ≡ event)

-- how many picks a whole operation of the specification takes at most
abbrev pub call_picks : Operation → ℕ
call_picks o = choices_of o.spec

-- how many picks power loss takes at most
abbrev pub crash_picks : Layer → ℕ
crash_picks l = choices_of l.crash

-- how many picks an operation that power has cut takes at most
abbrev pub fall_picks : Layer → Operation → ℕ
fall_picks l o = elim o.on_crash [ None ↦ 1 + choices_of o.spec + crash_picks l | Some b ↦ choices_of b + crash_picks l ]

-- no list of as many picks as the specification takes at most passes the test
abbrev pub NoPicksPass : ℕ → (Picks → Bool) → Type 0
NoPicksPass most test = (picks : Picks) → length picks ≡ most → test picks ≡ false
