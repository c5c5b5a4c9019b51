-- Runs of a layer's blocks with picks from the front of a list.
use Rattle.std.specs.Prelude.{◌≡◌, ℕ, Bool, true, false, List, length, Some, None}
use Rattle.ygg_value.specs.declared.row.Value.{Value}
use Rattle.ygg_syntax.specs.declared.tree.Block.{Block}
use Rattle.ygg_sched.specs.ygg_disk.declared.power.Power.{Power}
use Rattle.ygg_sched.specs.ygg_meaning.Environments.{Env, bind}
use Rattle.ygg_sched.specs.ygg_meaning.Progress.{Answer}
use Rattle.ygg_sched.specs.ygg_meaning.Machine.{Picks, State, based}
use Rattle.ygg_sched.specs.ygg_meaning.Layer.{BlockRuns, BlockFalls}
use Rattle.ygg_sched.specs.ygg_meaning.Obligations.{Halt, IsRead}
use Rattle.ygg_eval.specs.declared.body.Part.{Part}
use Rattle.ygg_eval.specs.Bodies.{block_in, arguments_in}
use Rattle.ygg_replay.specs.declared.site.ReplaySite.{ReplaySite}
use Rattle.ygg_replay.specs.Sites.{closed_in, machine_in, state_at}

-- power that does not fail, with these picks, and 0 past their end
abbrev pub fresh : Picks → Power
fresh picks = record { picks = record { bits = picks; next = 0; past = false }; fuse = None; passed = 0; events = None }

-- a block ran wholly with the first of these picks
pub record RanBy (s : ReplaySite) (b : Block) (args : Env) (picks : Picks) (from : State Env) (answer : Answer) (to : State Env) : Type 0 where
  pub taken : Picks
  pub run : BlockRuns (closed_in s) (machine_in s) b args from taken answer to
  pub read : IsRead picks taken

-- power failed at this stop in a run of a block with the first of these picks, and left this base
pub record CutBy (s : ReplaySite) (b : Block) (args : Env) (stop : Halt) (picks : Picks) (from : State Env) (fallen : Env) : Type 0 where
  pub taken : Picks
  pub run : BlockFalls (closed_in s) (machine_in s) b args from taken fallen
  pub within : stop.within ≡ run.run.within
  pub event : stop.event ≡ length run.run.calls
  pub read : IsRead picks taken

-- power failed in the base below with the first of these picks
pub record LostBy (s : ReplaySite) (low : Env) (picks : Picks) (fallen : Env) : Type 0 where
  pub taken : Picks
  pub run : (machine_in s).Loses (based low) taken fallen
  pub read : IsRead picks taken

-- the layer's block of the part and number ran wholly, from these values of the memory and of the base below to those
abbrev pub PartRan : ReplaySite → Part → ℕ → List Value → Picks → List Value → List Value → Answer → List Value → List Value → Type 0
PartRan s part number args picks memory low answer memory' low' =
    (b : Block) → block_in s.layer.now part number ≡ Some b →
    RanBy s b (bind (arguments_in s.layer.now part number) args) picks (state_at s memory low) answer (state_at s memory' low')

-- a run of that block reaches the stop with this base, or there is no such run
abbrev pub PartCut : ReplaySite → Part → ℕ → List Value → Halt → Picks → List Value → List Value → Bool → Env → Type 0
PartCut s part number args stop picks memory low stopped fallen =
    (b : Block) → block_in s.layer.now part number ≡ Some b →
    let Falls = CutBy s b (bind (arguments_in s.layer.now part number) args) stop picks (state_at s memory low) in
    elim stopped [ true ↦ Falls fallen | false ↦ ((f : Env) → ¬ (Falls f)) ]
