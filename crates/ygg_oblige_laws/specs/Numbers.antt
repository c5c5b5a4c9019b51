-- Which inputs an obligation has.
use Rattle.std.specs.Prelude.{ℕ, ◌+◌, ◌*◌, List, []}
use Rattle.ygg_syntax.specs.declared.tree.Declared.{Declared}
use Rattle.ygg_syntax.specs.declared.tree.Block.{Block}
use Rattle.ygg_sym_laws.specs.ygg_meaning.Layer.{ClosedLayer}
use Rattle.ygg_sym_laws.specs.ygg_meaning.Obligations.{Obligation, Init, CallOf, CutOf, TickOf, CutTickOf, Idle, Again}
use Rattle.ygg_sym_laws.specs.ygg_meaning.Refines.{Below}
use Rattle.ygg_sym_laws.specs.Below.{places_on, failure_room}
use Rattle.ygg_oblige_laws.specs.TermStates.{words_in}

-- the arguments that an obligation speaks of
abbrev pub arguments_of : Obligation → List Declared
arguments_of (CallOf o) = o.arguments
arguments_of (CutOf o) = o.arguments
arguments_of Init = []
arguments_of (TickOf t) = []
arguments_of (CutTickOf t) = []
arguments_of Idle = []
arguments_of Again = []

-- the block whose run an obligation speaks of; for power loss between operations, that of recovery
abbrev pub block_of : ClosedLayer → Obligation → Block
block_of L Init = L.layer.format
block_of L (CallOf o) = o.implementation
block_of L (CutOf o) = o.implementation
block_of L (TickOf t) = t.body
block_of L (CutTickOf t) = t.body
block_of L Idle = L.layer.recover
block_of L Again = L.layer.recover

-- Where the inputs of an obligation begin that has so many argument words, whose block has so many places and a recovery so many, and a failure so many
-- picks: those of the arguments, of the run's picks, of its stops, of the failure's picks, of the recovery's picks and of the other recovery's.
pub record Numbers : Type 0 where
  pub args : ℕ
  pub run : ℕ
  pub stop : ℕ
  pub last : ℕ
  pub wake : ℕ
  pub other : ℕ
  -- the number after all of them
  pub next : ℕ

-- the inputs one kind after another
abbrev pub numbers_from : ℕ → ℕ → ℕ → ℕ → ℕ → Numbers
numbers_from start words places failure waking = record {
  args = start;
  run = start + words;
  stop = start + words + places;
  last = start + words + places + (2 * places + 1);
  wake = start + words + places + (2 * places + 1) + failure;
  other = start + words + places + (2 * places + 1) + failure + waking;
  next = start + words + places + (2 * places + 1) + failure + waking + waking;
}

-- the inputs of an obligation of a layer on what it is specified over, from a number on
abbrev pub numbers_of : Below → ClosedLayer → Obligation → ℕ → Numbers
numbers_of G L o start =
    numbers_from start (words_in (arguments_of o)) (places_on G (block_of L o)) (failure_room G) (places_on G L.layer.recover)
