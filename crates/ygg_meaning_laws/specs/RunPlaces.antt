-- Runs of a block on a machine with picks by place in the unrolled text.
use Rattle.std.specs.Prelude.{◌≡◌, ℕ, zero, suc, ◌≤◌, Bool, if◌then◌else◌, List, [], ◌∷◌, ◌++◌, map, length, take, Option, Some, None}
use Rattle.ygg_value.specs.declared.row.Value.{Value}
use Rattle.ygg_syntax.specs.declared.tree.Block.{Block}
use Rattle.ygg_syntax.specs.declared.tree.DiskText.{DiskText}
use Rattle.ygg_meaning_laws.specs.Environments.{Name, Env}
use Rattle.ygg_meaning_laws.specs.Progress.{Question, Choice, Call, Answer, answer_of}
use Rattle.ygg_meaning_laws.specs.Machine.{Picks, State, on, memory_in}
use Rattle.ygg_meaning_laws.specs.Layer.{ClosedLayer, eval_of, operation_of}
use Rattle.ygg_meaning_laws.specs.Obligations.{Halt}
use Rattle.ygg_meaning_laws.specs.Direct.{Event, Reached, direct_run, room_of}
use Rattle.ygg_meaning_laws.specs.Acts.{Taken, Did, Fell, Acts, under, runs, falls_in}
use Rattle.ygg_meaning_laws.specs.Places.{by_place, calling}
use Rattle.ygg_meaning_laws.specs.DiskActs.{disk_acts}
use Rattle.ygg_meaning_laws.specs.SpecActs.{spec_acts}

-- A function of picks that names the picks that it takes, looks at no others, and takes in a call no more than the call has places.
pub record IsTidy {B : Type 0} (past : Bool) (space : Name → ℕ) (F : Acts B Bool) : Type 0 where
  pub takes : (s : State B) (name : Name) (args : List Value) (picks : Picks) → let d = F.calls s name args picks in Taken past d.notes picks d.left
  pub looks : (s : State B) (name : Name) (args : List Value) (picks other left : Picks) → let d = F.calls s name args picks in
      Taken past d.notes other left → F.calls s name args other ≡ record { answer = d.answer; to = d.to; notes = d.notes; left = left }
  pub few : (s : State B) (name : Name) (args : List Value) (picks : Picks) → length (F.calls s name args picks).notes ≤ space name

-- how a whole run ends: with an answer, in a state
pub record Finish (B : Type 0) : Type 0 where
  pub answer : Answer
  pub to : State B

-- what a run does without its picks
abbrev pub finish_of : {B : Type 0} → Did B Bool → Finish B
finish_of d = record { answer = d.answer; to = d.to }

module _ {B : Type 0} (space : Name → ℕ) (F : Acts B Bool) (L : ClosedLayer) (b : Block) (args : Env) (from : State B) where
  -- the statements of the block
  abbrev pub placed_run : Picks → Reached (State B)
  placed_run picks = direct_run (eval_of L) space (by_place (calling F) picks) b (memory_in from ++ args) (under from)

  -- a whole run of the block
  abbrev pub runs_by_place : Picks → Finish B
  runs_by_place picks =
      let r = placed_run picks in
      record { answer = answer_of (eval_of L) b.answer r.env; to = on (take (length (memory_in from)) (take (length (memory_in from ++ args)) r.env)) r.to }

  -- whatever picks by place lead to, some picks from the front do, and the other way round
  pub record SameRuns : Type 0 where
    pub front : (picks : Picks) → (same : Picks) × (finish_of (runs F L b args from same) ≡ runs_by_place picks)
    pub place : (picks : Picks) → (same : Picks) × (runs_by_place same ≡ finish_of (runs F L b args from picks))

-- each call of a disk has one place, as no call of it takes more picks
abbrev pub disk_space : Name → ℕ
disk_space name = 1

-- A call of a specification has one place more than its `spec` block: a call whose block makes no choices has a place of its own too, by which its stops
-- are told from those of other calls.
abbrev pub spec_space : ClosedLayer → Name → ℕ
spec_space L name = suc (elim (operation_of L name) [ None ↦ 0 | Some o ↦ room_of (λ f. 1) o.spec ])

-- on a disk a block runs alike with picks by place and from the front
abbrev pub RunsByPlaceOnDisk : Type 0
RunsByPlaceOnDisk =
    (past : Bool) (d : DiskText) (L : ClosedLayer) (b : Block) (args : Env) (from : State Env) → SameRuns disk_space (disk_acts past d) L b args from

-- and on a specification
abbrev pub RunsByPlaceOnSpec : Type 0
RunsByPlaceOnSpec =
    (past : Bool) (m L : ClosedLayer) (b : Block) (args : Env) (from : State Env) → SameRuns (spec_space m) (spec_acts past m) L b args from

module _ {S B : Type 0} (cut : Question → S → B) (lose : S → B) where
  -- what is left of a run that stops within the question of this number or before it, if there is such a one
  abbrev pub base_at : Bool → List (Question × S) → ℕ → S → Option B
  base_at within [] zero end = if within then None else Some (lose end)
  base_at within [] (suc n) end = None
  base_at within (e ∷ es) zero end = Some (if within then cut e.0 e.1 else lose e.1)
  base_at within (e ∷ es) (suc n) end = base_at within es n end

-- what was asked, and in which states
abbrev pub asked_in : {S : Type 0} → List (Event S) → List (Question × S)
asked_in {S} = map (λ (e : Event S). (e.question, e.before))

-- the base alone
abbrev pub base_of : {B : Type 0} → Option (Fell B Bool) → Option B
base_of None = None
base_of (Some f) = Some f.base

-- power fails within a question, with picks of its own
abbrev pub cut_by : {B : Type 0} → Acts B Bool → Picks → Question → State B → B
cut_by F last Choice s = (F.loses s last).base
cut_by F last (Call f xs) s = (F.falls s f xs last).base

module _ {B : Type 0} (space : Name → ℕ) (F : Acts B Bool) (L : ClosedLayer) (b : Block) (args : Env) (from : State B) where
  -- what is left of a run of the block that stops, where the power failure has a list of picks of its own
  abbrev pub falls_by_place : Halt → Picks → Picks → Option B
  falls_by_place stop picks last =
      let r = placed_run space F L b args from picks in base_at (cut_by F last) (λ s. (F.loses s last).base) stop.within (asked_in r.events) stop.event r.to

  -- whatever picks by place lead to, some picks from the front do, and the other way round
  pub record SameFalls : Type 0 where
    pub front : (stop : Halt) (picks last : Picks) → (same : Picks) × (base_of (falls_in F L b args from stop same) ≡ falls_by_place stop picks last)
    pub place : (stop : Halt) (picks : Picks) → (same last : Picks) × (falls_by_place stop same last ≡ base_of (falls_in F L b args from stop picks))

-- on a disk a block falls alike with picks by place and from the front
abbrev pub FallsByPlaceOnDisk : Type 0
FallsByPlaceOnDisk =
    (past : Bool) (d : DiskText) (L : ClosedLayer) (b : Block) (args : Env) (from : State Env) → SameFalls disk_space (disk_acts past d) L b args from

-- and on a specification
abbrev pub FallsByPlaceOnSpec : Type 0
FallsByPlaceOnSpec =
    (past : Bool) (m L : ClosedLayer) (b : Block) (args : Env) (from : State Env) → SameFalls (spec_space m) (spec_acts past m) L b args from
