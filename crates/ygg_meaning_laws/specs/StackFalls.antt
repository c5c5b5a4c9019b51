-- Power failing in layers on one another, by the number of disk calls.
use Rattle.std.specs.Prelude.{◌≡◌, ℕ, zero, suc, Bool, true, false, if◌then◌else◌, List, [], ◌∷◌, length, option_map, Option, Some, None}
use Rattle.std.specs.List.{flat_map}
use Rattle.ygg_value.specs.declared.row.Value.{Value}
use Rattle.ygg_syntax.specs.declared.tree.DiskText.{DiskText}
use Rattle.ygg_meaning_laws.specs.ygg_disk.Disk as disk
use Rattle.ygg_meaning_laws.specs.Environments.{Name, Env}
use Rattle.ygg_meaning_laws.specs.Machine.{Picks, State, based, Machine}
use Rattle.ygg_meaning_laws.specs.ygg_disk.Kinds.{model_of}
use Rattle.ygg_meaning_laws.specs.DiskMachine.{Store, machine_on, disk_store, disk_call, answer_to, tables_in}
use Rattle.ygg_meaning_laws.specs.Obligations.{Halt}
use Rattle.ygg_meaning_laws.specs.Stack.{Layers, Stacked}
use Rattle.ygg_meaning_laws.specs.Acts.{Taken, Did, Fell, Acts}
use Rattle.ygg_meaning_laws.specs.Places.{left_after}
use Rattle.ygg_meaning_laws.specs.DiskActs.{kind_calls, kind_falls, state_in}
use Rattle.ygg_meaning_laws.specs.StackActs.{stack_acts}

-- a disk call that began: the base on which it did, whether power cut it, and the picks that it took
pub record Step : Type 0 where
  pub base : Env
  pub call : disk.Call
  pub cut : Bool
  pub picks : Picks

-- the picks that were taken, in order
abbrev pub step_picks : List Step → Picks
step_picks = flat_map (λ (n : Step). n.picks)

-- the same store, each call of which is noted with its base
abbrev pub stepping : Store Env Bool → Store Env Step
stepping K = record {
  Starts = K.Starts;
  Calls = λ b call notes reply b'. (picks : Picks) × (notes ≡ record { base = b; call = call; cut = false; picks = picks } ∷ [])
      × K.Calls b call picks reply b';
  Falls = λ b call notes b'. (picks : Picks) × (notes ≡ record { base = b; call = call; cut = true; picks = picks } ∷ []) × K.Falls b call picks b';
  Loses = K.Loses;
}

-- the machine of the disk that a file names, each call of which is noted with its base
abbrev pub StepDisk : DiskText → Machine Env Step
StepDisk d = machine_on (stepping (disk_store d))

module _ (past : Bool) (d : DiskText) where
  -- a disk call
  abbrev pub step_does : State Env → Option disk.Call → Picks → Did Env Step
  step_does s None picks = record { answer = None; to = s; notes = []; left = picks }
  step_does s (Some call) picks =
      let r = kind_calls past d.kind (state_in past d.kind s.base) call picks in
      record {
        answer = answer_to r.reply;
        to = based (tables_in d.kind r.to);
        notes =
            record { base = s.base; call = call; cut = false; picks = r.taken } ∷ [];
        left = r.left;
      }

  -- power fails within a disk call
  abbrev pub cut_step : Env → disk.Call → Picks → Fell Env Step
  cut_step base call picks =
      let r = kind_falls past d.kind (state_in past d.kind base) call picks in
      record { base = tables_in d.kind r.to; notes = record { base = base; call = call; cut = true; picks = r.taken } ∷ []; left = r.left }

  -- power fails with no disk call begun
  abbrev pub lost_on : Env → Picks → Fell Env Step
  lost_on base picks = record { base = tables_in d.kind ((model_of d.kind).lost (state_in past d.kind base)); notes = []; left = picks }

  -- the disk that a file names
  abbrev pub step_acts : Acts Env Step
  step_acts = record {
    calls = λ s name args picks. step_does s (disk_call name args) picks;
    falls = λ s name args picks. elim (disk_call name args) [ None ↦ lost_on s.base picks | Some call ↦ cut_step s.base call picks ];
    loses = λ s picks. lost_on s.base picks;
  }

  -- one more disk call came before
  abbrev pub after_step : Step → Fell Env Step → Fell Env Step
  after_step n f = record { base = f.base; notes = n ∷ f.notes; left = f.left }

  -- power fails within the disk call of this number or before it, if a run makes so many; before the one after the last is its end
  abbrev pub dropped_in : Bool → List Step → ℕ → Env → Picks → Option (Fell Env Step)
  dropped_in within [] zero end picks = if within then None else Some (lost_on end picks)
  dropped_in within [] (suc k) end picks = None
  dropped_in within (n ∷ ns) zero end picks = Some (if within then cut_step n.base n.call picks else lost_on n.base picks)
  dropped_in within (n ∷ ns) (suc k) end picks = option_map (after_step n) (dropped_in within ns k end (left_after (length n.picks) picks))

  -- power fails in an operation of layers on one another
  abbrev pub stack_falls : Layers → State Env → Name → List Value → Halt → Picks → Option (Fell Env Step)
  stack_falls layers s name args stop picks =
      let r = (stack_acts step_acts layers).calls s name args picks in dropped_in stop.within r.notes stop.event r.to.base picks

-- whatever power leaves that fails in an operation of the layers of a file, it is what power leaves that fails at some disk call of the direct run
abbrev pub StacksFallDirectly : Type 0
StacksFallDirectly =
    (past : Bool) (d : DiskText) (layers : Layers) (s : State Env) (name : Name) (args : List Value) (notes : List Step) (picks left : Picks) (fallen : Env) →
    (Stacked (StepDisk d) layers).Falls s name args notes fallen → Taken past (step_picks notes) picks left →
    (stop : Halt) × (stack_falls past d layers s name args stop picks ≡ Some (record { base = fallen; notes = notes; left = left }))

-- how many disk calls were whole
abbrev pub whole_in : List Step → ℕ
whole_in [] = 0
whole_in (n ∷ ns) = if n.cut then whole_in ns else suc (whole_in ns)

-- whether power cut one
abbrev pub cut_in : List Step → Bool
cut_in [] = false
cut_in (n ∷ ns) = if n.cut then true else cut_in ns

-- power that fails in an operation after so many whole disk calls, or within the next, has left one base, with one list of disk calls
abbrev pub StacksFallOnce : Type 0
StacksFallOnce =
    (past : Bool) (d : DiskText) (layers : Layers) (s : State Env) (name : Name) (args : List Value) (notes other : List Step)
    (picks left right : Picks) (fallen also : Env) →
    (Stacked (StepDisk d) layers).Falls s name args notes fallen → Taken past (step_picks notes) picks left →
    (Stacked (StepDisk d) layers).Falls s name args other also → Taken past (step_picks other) picks right →
    whole_in notes ≡ whole_in other → cut_in notes ≡ cut_in other → (notes ≡ other) × (fallen ≡ also)
