-- The obligations of a file by their names, and which lines a schedule of each has.
use Rattle.std.specs.Prelude.{ℕ, suc, Bool, true, false, if◌then◌else◌, List, [], ◌∷◌, ◌++◌, map, Option}
use Rattle.std.specs.List.{find}
use Rattle.std.specs.Str.{bytes_eq}
use Rattle.ygg_syntax.specs.declared.tree.Declared.{Declared}
use Rattle.ygg_syntax.specs.declared.tree.Layer.{Layer}
use Rattle.ygg_syntax.specs.declared.tree.File.{File}
use Rattle.ygg_meaning.specs.Obligations.{Obligation, Init, CallOf, CutOf, TickOf, CutTickOf, Idle, Again, obligations_of, name_of}
use Rattle.ygg_meaning.specs.Stack.{tables_of}
use Rattle.ygg_sched.specs.declared.claim.LayerClaim as code
use Rattle.ygg_sched.specs.declared.claim.LayerClaim.TheVariants as asked
use Rattle.ygg_sched.specs.declared.claim.Low.{Low}
use Rattle.ygg_sched.specs.declared.claim.Low.TheVariants as low
use Rattle.ygg_sched.specs.declared.claim.Claim.{Claim}

-- an obligation, its layer with the place of that in the file, from 0, and the variables that `low` names there
pub record Site : Type 0 where
  pub place : ℕ
  pub layer : Layer
  pub low : List Declared
  pub obligation : Obligation

-- the obligations of a layer at this place over these variables below, in order
abbrev pub sites_at : ℕ → Layer → List Declared → List Site
sites_at place l below = map (λ o. record { place = place; layer = l; low = below; obligation = o }) (obligations_of l)

-- the obligations of layers from this place up, over these variables below, those of the lowest layer first
abbrev pub sites_on : ℕ → List Declared → List Layer → List Site
sites_on place below [] = []
sites_on place below (l ∷ ls) = sites_at place l below ++ sites_on (suc place) l.state ls

-- the obligations of a file, in order
abbrev pub sites_of : File → List Site
sites_of f = sites_on 0 (tables_of f.disk) f.layers

-- whether it is the name of the obligation
abbrev pub is_named : List ℕ → Site → Bool
is_named name s = bytes_eq (name_of s.layer.name.text s.obligation) name

-- the first obligation of a file that has this name
abbrev pub site_named : File → List ℕ → Option Site
site_named f name = find (is_named name) (sites_of f)

-- whether an obligation speaks of the specification's variables and of the memory
abbrev pub has_state : Obligation → Bool
has_state Init = false
has_state (CallOf o) = true
has_state (CutOf o) = true
has_state (TickOf t) = true
has_state (CutTickOf t) = true
has_state Idle = true
has_state Again = false

-- whether it speaks of the base below
abbrev pub has_low : Obligation → Bool
has_low Init = false
has_low (CallOf o) = true
has_low (CutOf o) = true
has_low (TickOf t) = true
has_low (CutTickOf t) = true
has_low Idle = true
has_low Again = true

-- the arguments that it speaks of: those of its operation
abbrev pub arguments_of : Obligation → List Declared
arguments_of Init = []
arguments_of (CallOf o) = o.arguments
arguments_of (CutOf o) = o.arguments
arguments_of (TickOf t) = []
arguments_of (CutTickOf t) = []
arguments_of Idle = []
arguments_of Again = []

-- whether it speaks of a run that power cuts
abbrev pub has_stop : Obligation → Bool
has_stop Init = false
has_stop (CallOf o) = false
has_stop (CutOf o) = true
has_stop (TickOf t) = false
has_stop (CutTickOf t) = true
has_stop Idle = false
has_stop Again = true

-- whether it speaks of a recovery after power was lost
abbrev pub has_wake : Obligation → Bool
has_wake Init = false
has_wake (CallOf o) = false
has_wake (CutOf o) = true
has_wake (TickOf t) = false
has_wake (CutTickOf t) = true
has_wake Idle = true
has_wake Again = true

-- whether it speaks of a recovery from the first state besides
abbrev pub has_other : Obligation → Bool
has_other Init = false
has_other (CallOf o) = false
has_other (CutOf o) = false
has_other (TickOf t) = false
has_other (CutTickOf t) = false
has_other Idle = false
has_other Again = true

-- the variables that have lines `state`
abbrev pub state_lines : Site → List Declared
state_lines s = if has_state s.obligation then s.layer.state else []

-- those that have lines `memory`
abbrev pub memory_lines : Site → List Declared
memory_lines s = if has_state s.obligation then s.layer.memory else []

-- those that have lines `low`
abbrev pub low_lines : Site → List Declared
low_lines s = if has_low s.obligation then s.low else []

-- the arguments, which have lines `arg`
abbrev pub argument_lines : Site → List Declared
argument_lines s = arguments_of s.obligation

-- the variables that these are in code
abbrev pub low_in : Low → List Declared
low_in (low.Disk d) = tables_of d
low_in (low.Variables ds) = ds.now

-- the obligation that this is in code
abbrev pub obligation_in : code.LayerClaim → Obligation
obligation_in asked.Init = Init
obligation_in (asked.Call o) = CallOf o.now
obligation_in (asked.Cut o) = CutOf o.now
obligation_in (asked.Tick t) = TickOf t.now
obligation_in (asked.CutTick t) = CutTickOf t.now
obligation_in asked.Idle = Idle
obligation_in asked.Again = Again

-- the same with its layer
abbrev pub site_in : Claim → Site
site_in c = record { place = c.place; layer = c.layer.now; low = low_in c.low; obligation = obligation_in c.obligation }
