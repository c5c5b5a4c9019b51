-- The picks that machines take at places, in order, where each choice that they come to has a bit at its place.
use Rattle.std.specs.Prelude.{ℕ, ◌+◌, Bool, if◌then◌else◌, List, [], ◌∷◌, ◌++◌, Option, Some, None}
use Rattle.ygg_value.specs.declared.row.Value.{Value}
use Rattle.ygg_base.specs.declared.geometry.DiskKind.{DiskKind}
use Rattle.ygg_base.specs.declared.geometry.DiskKind.TheVariants.{Sync, Async}
use Rattle.ygg_syntax.specs.declared.tree.Block.{Block}
use Rattle.ygg_syntax.specs.declared.tree.DiskText.{DiskText}
use Rattle.ygg_syntax.specs.declared.tree.Operation.{Operation}
use Rattle.ygg_sym_laws.specs.ygg_disk.Disk as disk
use Rattle.ygg_sym_laws.specs.ygg_meaning.DiskMachine.{disk_call}
use Rattle.ygg_sym_laws.specs.ygg_meaning.Environments.{Env, bind}
use Rattle.ygg_sym_laws.specs.ygg_meaning.Layer.{ClosedLayer, operation_of}
use Rattle.ygg_sym_laws.specs.ygg_meaning.Machine.{Picks, State}
use Rattle.ygg_sym_laws.specs.ygg_meaning.Progress.{Question, Choice, Call}
use Rattle.ygg_sym_laws.specs.ygg_meaning_laws.Direct.{Event}
use Rattle.ygg_sym_laws.specs.ygg_sym_runs.Specs.{Nothing}
use Rattle.ygg_sym_laws.specs.ygg_sym_runs_proofs_Chosen.{room, block_end, block_run_at}
use Rattle.ygg_sym_laws.specs.ygg_sym_runs_proofs_SpecFalls.{bits_after}

-- the picks that a question at a place takes in a state
abbrev pub Takes : Type 0 → Type 0
Takes S = ℕ → Question → S → Picks

-- the picks that the questions of a run take, in order
abbrev pub picks_of : {S : Type 0} → Takes S → List (Event S) → Picks
picks_of takes [] = []
picks_of takes (e ∷ es) = takes e.place e.question e.before ++ picks_of takes es

-- each question takes the bit of its place
abbrev pub one_each : {S : Type 0} → (ℕ → Bool) → Takes S
one_each bits i q s = bits i ∷ []

-- a whole call on a disk: a write on an asynchronous one takes a pick
abbrev pub whole_picks : DiskKind → Bool → Option disk.Call → Picks
whole_picks Sync pick call = []
whole_picks Async pick None = []
whole_picks Async pick (Some (disk.Read at)) = []
whole_picks Async pick (Some (disk.Write at row)) = pick ∷ []
whole_picks Async pick (Some disk.Flush) = []

-- power fails within a call on a disk: a write takes a pick, whatever the disk's kind
abbrev pub cut_picks : Bool → Option disk.Call → Picks
cut_picks pick None = []
cut_picks pick (Some (disk.Read at)) = []
cut_picks pick (Some (disk.Write at row)) = pick ∷ []
cut_picks pick (Some disk.Flush) = []

-- what is asked of a disk
abbrev pub disk_takes : DiskText → (ℕ → Bool) → Takes (State Env)
disk_takes d bits i Choice z = []
disk_takes d bits i (Call name args) z = whole_picks d.kind (bits i) (disk_call name args)

-- power fails within what is asked of a disk
abbrev pub disk_cut_takes : (ℕ → Bool) → Question → State Env → Picks
disk_cut_takes last Choice z = []
disk_cut_takes last (Call name args) z = cut_picks (last 0) (disk_call name args)

module _ (m : ClosedLayer) where
  -- a block of a specification: the bits at the places of the choices that it comes to
  abbrev pub block_takes : (ℕ → Bool) → Block → Env → Env → Picks
  block_takes bits b vars args = picks_of {S = Nothing} (one_each bits) (block_run_at m bits b vars args).events

  -- an operation of the specification; what is none takes no pick
  abbrev pub operation_takes : (ℕ → Bool) → Option Operation → List Value → State Env → Picks
  operation_takes bits None args z = []
  operation_takes bits (Some o) args z = block_takes bits o.spec z.base (bind o.arguments args)

  -- what is asked of the specification: the places of an operation's choices begin at the place of the call
  abbrev pub spec_takes : (ℕ → Bool) → Takes (State Env)
  spec_takes bits i Choice z = []
  spec_takes bits i (Call name args) z = operation_takes (λ k. bits (i + k)) (operation_of m name) args z

  -- the `crash` block
  abbrev pub crash_takes : (ℕ → Bool) → Env → Picks
  crash_takes bits vars = block_takes bits m.layer.crash vars []

  -- a block and then the `crash` block, whose places come after all of the block's
  abbrev pub then_takes : (ℕ → Bool) → Block → Env → Env → Picks
  then_takes bits b vars args = block_takes bits b vars args ++ crash_takes (bits_after (room b) bits) (block_end m bits b vars args).vars

  -- an operation that power has cut: its own `on crash` block, or one pick that says whether it has happened wholly; then comes the `crash` block
  abbrev pub fall_takes : (ℕ → Bool) → Operation → Option Block → Env → List Value → Picks
  fall_takes bits o (Some b) vars args = then_takes bits b vars (bind o.arguments args)
  fall_takes bits o None vars args =
      bits 0 ∷ (if bits 0 then then_takes (bits_after 1 bits) o.spec vars (bind o.arguments args) else crash_takes (bits_after 1 bits) vars)

  -- a named operation that power has cut; what is none takes no pick
  abbrev pub drop_takes : (ℕ → Bool) → Option Operation → State Env → List Value → Picks
  drop_takes last None z args = []
  drop_takes last (Some o) z args = fall_takes last o o.on_crash z.base args

  -- power fails within what is asked of the specification
  abbrev pub spec_cut_takes : (ℕ → Bool) → Question → State Env → Picks
  spec_cut_takes last Choice z = crash_takes last z.base
  spec_cut_takes last (Call name args) z = drop_takes last (operation_of m name) z args
