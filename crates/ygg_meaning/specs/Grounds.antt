-- Layers on a ground: the calls that they make there, and where a state is told, the steps of the layers on the stated disk.
use Rattle.std.specs.Prelude.{◌≡◌, Bool, true, false, List, [], ◌∷◌, Some}
use Rattle.ygg_syntax.specs.declared.tree.File.{File}
use Rattle.ygg_meaning.specs.ygg_disk.Ground.{Meaning, Lost, TellsCall, TellsFall}
use Rattle.ygg_meaning.specs.ygg_disk.Kinds.{model_of}
use Rattle.ygg_meaning.specs.Environments.{Env}
use Rattle.ygg_meaning.specs.Machine.{Picks, State, Machine}
use Rattle.ygg_meaning.specs.DiskMachine.{Store, machine_on, tables_in, zeros_on}
use Rattle.ygg_meaning.specs.Stack.{Layers, Stacked, BottomOf, layers_of}
use Rattle.ygg_meaning.specs.Mirror.{SameOn, FormattedIf, Mirrors}
use Rattle.ygg_meaning.specs.Noted.{Note, picks_in, disk_in}

-- the calls that are made on a ground from this state on, whole or cut by power; where it tells a state, they are steps of that disk
abbrev pub ground_store : {S : Type 0} → Meaning S → S → Store S Note
ground_store G start = record {
  Starts = λ s. s ≡ start;
  Calls = λ s call notes reply s'. (picks : Picks) × (notes ≡ record { call = call; cut = false; picks = picks } ∷ [])
      × G.Calls s call picks reply s' × TellsCall (G.told s) call picks reply (G.told s');
  Falls = λ s call notes s'. (picks : Picks) × (notes ≡ record { call = call; cut = true; picks = picks } ∷ [])
      × G.Falls s call picks s' × TellsFall (G.told s) call picks (G.told s');
  Loses = Lost G;
}

-- layers on a ground: those of a file, or of one of its floors
abbrev pub OnGround : {S : Type 0} → Meaning S → Layers → S → Machine S Note
OnGround G layers start = Stacked (machine_on (ground_store G start)) layers

-- a base of the bottom implementation shows the state that a ground tells
abbrev pub TellsBase : {S : Type 0} → Meaning S → File → Env → S → Type 0
TellsBase G f base s = (state : (model_of f.disk.kind).State) × (G.told s ≡ Some (disk_in f.disk.kind state)) × (base ≡ tables_in f.disk.kind state)

-- a state of the bottom implementation is what layers on a ground that tells its state are in
abbrev pub Tells : {S : Type 0} → Meaning S → File → State Env → State S → Type 0
Tells G f = SameOn (TellsBase G f)

-- the picks are those of the notes
abbrev pub ArePicks : List Note → List Bool → Type 0
ArePicks notes picks = picks ≡ picks_in notes

-- the ground tells of this state that it is the disk as a format of the file finds it, all zeros
abbrev pub TellsZeros : {S : Type 0} → Meaning S → File → S → Type 0
TellsZeros G f start = G.told start ≡ Some (disk_in f.disk.kind ((model_of f.disk.kind).start (zeros_on f.disk)))

-- Where a state is told, each step on the ground is one of the bottom implementation, with the picks of its notes. Only a format asks
-- more: that zeros are told of where it starts.
abbrev pub ToldSteps : {S : Type 0} → Meaning S → File → Type 0
ToldSteps {S} G f =
    (start : S) → Mirrors (TellsBase G f) ArePicks (FormattedIf (TellsZeros G f start) (OnGround G (layers_of f) start)) (BottomOf f)
