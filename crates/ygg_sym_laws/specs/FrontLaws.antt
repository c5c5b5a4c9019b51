-- Runs with picks by place are runs that take these picks from the front.
use Rattle.std.specs.Prelude.{◌≡◌, ℕ, Bool, IsTrue, List, [], ◌++◌, length, Some}
use Rattle.ygg_syntax.specs.declared.tree.Block.{Block}
use Rattle.ygg_syntax.specs.declared.tree.Def.{Def}
use Rattle.ygg_sym_laws.specs.ygg_meaning.Environments.{Env}
use Rattle.ygg_sym_laws.specs.ygg_meaning.Layer.{ClosedLayer, BlockRuns, BlockFalls}
use Rattle.ygg_sym_laws.specs.ygg_meaning.Machine.{Picks, on, based}
use Rattle.ygg_sym_laws.specs.ygg_meaning.Obligations.{Halt, StopsAt}
use Rattle.ygg_sym_laws.specs.ygg_meaning.Refines.{Below, machine_below}
use Rattle.ygg_sym_laws.specs.ygg_meaning.Shapes.{env_fits}
use Rattle.ygg_sym_laws.specs.ygg_meaning_laws.DirectLaws.{IsTypedBlock}
use Rattle.ygg_sym_laws.specs.Below.{lows_on, signatures_on}
use Rattle.ygg_sym_laws.specs.Typed.{BelowTyped}
use Rattle.ygg_sym_laws.specs.Fronts.{lose_on, loss_picks, low_at_start, answer_by_place, state_by_place, run_picks, left_at, fall_picks}

-- a block without a type error over names of its scope, and a state below of the declared names and shapes
pub record Stands (defs : List Def) (G : Below) (L : ClosedLayer) (b : Block) (memory given low : Env) : Type 0 where
  pub below : BelowTyped defs G
  pub block : IsTypedBlock L (signatures_on G) b (memory ++ given)
  pub shaped : IsTrue (env_fits (lows_on G) low)

-- a run that power cuts at a stop, with just these picks
pub record FallsThere (G : Below) (L : ClosedLayer) (b : Block) (memory given low : Env) (stop : Halt) (picks : Picks) (fallen : Env) : Type 0 where
  pub run : BlockFalls L (machine_below G) b given (on memory (based low)) picks fallen
  pub stops : StopsAt (Some stop) run.run.within (length run.run.calls)

-- whole runs
abbrev pub RunsNamed : Type 0
RunsNamed =
    (defs : List Def) (G : Below) (L : ClosedLayer) (b : Block) (memory given low : Env) → Stands defs G L b memory given low → (bits : ℕ → Bool) →
    BlockRuns L (machine_below G) b given (on memory (based low)) (run_picks G L b memory given low bits) (answer_by_place G L b memory given low bits)
    (state_by_place G L b memory given low bits)

-- runs that power cuts at a stop that they come to
abbrev pub FallsNamed : Type 0
FallsNamed =
    (defs : List Def) (G : Below) (L : ClosedLayer) (b : Block) (memory given low : Env) → Stands defs G L b memory given low →
    (bits last : ℕ → Bool) (stop : Halt) (fallen : Env) → left_at G L b memory given low bits last stop ≡ Some fallen →
    FallsThere G L b memory given low stop (fall_picks G L b memory given low bits last stop) fallen

-- power loss between operations
abbrev pub LossNamed : Type 0
LossNamed =
    (defs : List Def) (G : Below) (low : Env) → BelowTyped defs G → IsTrue (env_fits (lows_on G) low) → (last : ℕ → Bool) →
    (machine_below G).Loses (based low) (loss_picks G last low) (lose_on G last (based low))

-- the state below at its start
abbrev pub StartNamed : Type 0
StartNamed = (defs : List Def) (G : Below) → BelowTyped defs G → (machine_below G).Starts (based (low_at_start G)) []
