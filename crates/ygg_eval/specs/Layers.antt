-- The layers of a file and the machines that they are specified over, by number: 0 is the disk, and each number after it the layer of that place
-- counted from 1.
use Rattle.std.specs.Prelude.{ℕ, zero, suc, Bool, List, [], ◌∷◌, map, slice_get, Some, None}
use Rattle.ygg_syntax.specs.declared.tree.Declared.{Declared}
use Rattle.ygg_syntax.specs.declared.tree.Operation.{Operation}
use Rattle.ygg_syntax.specs.declared.tree.Layer.{Layer}
use Rattle.ygg_syntax.specs.declared.tree.File.{File}
use Rattle.ygg_meaning_laws.specs.ygg_type_rules.Names.{Named}
use Rattle.ygg_meaning_laws.specs.ygg_type_rules.declared.scope.Signature.{Signature}
use Rattle.ygg_meaning_laws.specs.ygg_type_rules.Layers.{operation_signature}
use Rattle.ygg_meaning_laws.specs.ygg_type_rules.Files.{disk_operations}
use Rattle.ygg_meaning_laws.specs.ygg_meaning.Environments.{Env}
use Rattle.ygg_meaning_laws.specs.ygg_meaning.Meaning.{functions_of}
use Rattle.ygg_meaning_laws.specs.ygg_meaning.Machine.{Machine}
use Rattle.ygg_meaning_laws.specs.ygg_meaning.Layer.{ClosedLayer}
use Rattle.ygg_meaning_laws.specs.ygg_meaning.Refines.{Below, OnDisk, OnSpec, machine_below}
use Rattle.ygg_meaning_laws.specs.ygg_meaning.Stack.{tables_of}

-- the variables of the machine with this number, where those of the first are these: the state variables of the layer
abbrev pub variables_from : List Declared → List Layer → ℕ → List Declared
variables_from below [] number = below
variables_from below (l ∷ ls) zero = below
variables_from below (l ∷ ls) (suc number) = variables_from l.state ls number

-- the variables of the machine with this number: the tables of the disk, or the state variables of a layer
abbrev pub variables_at : File → ℕ → List Declared
variables_at file = variables_from (tables_of file.disk) file.layers

-- a layer of a file with all that it speaks of
abbrev pub closed_at : File → ℕ → Layer → ClosedLayer
closed_at file place l = record { functions = functions_of file.defs; layer = l; low = variables_at file place }

-- what the layer at this place is specified over
abbrev pub below_at : File → ℕ → Below
below_at file zero = OnDisk file.disk
below_at file (suc place) = elim (slice_get file.layers place) [ None ↦ OnDisk file.disk | Some l ↦ OnSpec (closed_at file place l) ]

-- the machine with this number: the disk, or the specification of a layer
abbrev pub machine_at : File → ℕ → Machine Env Bool
machine_at file number = machine_below (below_at file number)

-- what operations take and give, by name, in order
abbrev pub signatures_of : List Operation → Named Signature
signatures_of = map (λ (o : Operation). (o.name.text, operation_signature o))

-- what the operations of the machine with this number take and give, in order
abbrev pub signatures_at : File → ℕ → Named Signature
signatures_at file zero = disk_operations file.disk
signatures_at file (suc place) = elim (slice_get file.layers place) [ None ↦ [] | Some l ↦ signatures_of l.operations ]
