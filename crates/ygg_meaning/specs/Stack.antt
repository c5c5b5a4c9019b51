-- The layers of a file on one another.
use Rattle.std.specs.Prelude.{◌≡◌, ℕ, Bool, IsTrue, List, [], ◌∷◌, codes}
use Rattle.ygg_syntax.specs.declared.tree.DiskText.{DiskText}
use Rattle.ygg_base.specs.declared.geometry.DiskKind.{DiskKind}
use Rattle.ygg_base.specs.declared.geometry.DiskKind.TheVariants.{Sync, Async}
use Rattle.ygg_syntax.specs.declared.tree.Declared.{Declared}
use Rattle.ygg_syntax.specs.declared.tree.TypeText.TheVariants.{Table}
use Rattle.ygg_syntax.specs.declared.tree.Layer.{Layer}
use Rattle.ygg_syntax.specs.declared.tree.File.{File}
use Rattle.ygg_meaning.specs.Environments.{Env}
use Rattle.ygg_meaning.specs.Meaning.{Functions, functions_of}
use Rattle.ygg_meaning.specs.Machine.{State, based, on, Machine}
use Rattle.ygg_meaning.specs.Layer.{ClosedLayer, Layered}
use Rattle.ygg_meaning.specs.Spec.{Spec}
use Rattle.ygg_meaning.specs.DiskMachine.{DiskMachine}
use Rattle.ygg_meaning.specs.Related.{related}
use Rattle.ygg_meaning.specs.Refines.{Below, OnDisk, OnSpec, Refines}

-- the layers of a file up to some one, the topmost first
abbrev pub Layers : Type 0
Layers = List ClosedLayer

-- each layer on those below, down to a machine
abbrev pub Stacked : {B X : Type 0} → Machine B X → Layers → Machine B X
Stacked M [] = M
Stacked M (L ∷ lower) = Layered L (Stacked M lower)

-- the bottom implementation: the layers on one another, down to the disk
abbrev pub Bottom : DiskText → Layers → Machine Env Bool
Bottom disk = Stacked (DiskMachine disk)

-- what the next layer is specified over: the specification of the topmost of these layers, or the disk
abbrev pub below_of : DiskText → Layers → Below
below_of disk [] = OnDisk disk
below_of disk (L ∷ lower) = OnSpec L

-- its machine, on any machine in place of the disk
abbrev pub Over : Machine Env Bool → Layers → Machine Env Bool
Over M [] = M
Over M (L ∷ lower) = Spec L

-- its machine, which for a whole file is the topmost specification
abbrev pub Top : DiskText → Layers → Machine Env Bool
Top disk = Over (DiskMachine disk)

-- a specification's variables and the state of the layers: the layer's relation holds of some base below, and that base is linked to the state below
pub record Joined (L : ClosedLayer) (LinkedBelow : Env → State Env → Type 0) (vars : Env) (s : State Env) : Type 0 where
  pub memory : Env
  pub lower : State Env
  pub is : s ≡ on memory lower
  pub low : Env
  pub below : LinkedBelow low lower
  pub here : IsTrue (related L vars memory low)

-- the base that the top shows and the state of all layers are linked by the layers' relations; the disk's tables are the base itself
abbrev pub Linked : Layers → Env → State Env → Type 0
Linked [] base s = s ≡ based base
Linked (L ∷ lower) vars s = Joined L (Linked lower) vars s

-- each layer refines its specification on what it is specified over
abbrev pub AllRefine : Machine Env Bool → Layers → Type 0
AllRefine M [] = Unit {0}
AllRefine M (L ∷ lower) = Refines L (Over M lower) × AllRefine M lower

-- a table of the disk's size, as if it were declared
abbrev pub table_named : List ℕ → DiskText → Declared
table_named name d = record {
  name = record { text = name; place = record { line = 0; column = 0 } };
  shape = Table d.rows d.words d.width;
}

-- the tables that a disk shows
abbrev pub tables_of_kind : DiskKind → DiskText → List Declared
tables_of_kind Sync d = table_named (codes "view") d ∷ []
tables_of_kind Async d = table_named (codes "view") d ∷ table_named (codes "stable") d ∷ []

-- the tables that a file's disk shows
abbrev pub tables_of : DiskText → List Declared
tables_of d = tables_of_kind d.kind d

-- the layers of a file, from the lowest of them up, put on a list of those below
abbrev pub layers_on : Functions → List Declared → List Layer → Layers → Layers
layers_on functions low [] lower = lower
layers_on functions low (l ∷ ls) lower = layers_on functions l.state ls (record { functions = functions; layer = l; low = low } ∷ lower)

-- the layers of a file, the topmost first
abbrev pub layers_of : File → Layers
layers_of f = layers_on (functions_of f.defs) (tables_of f.disk) f.layers []

-- the bottom implementation of a file
abbrev pub BottomOf : File → Machine Env Bool
BottomOf f = Bottom f.disk (layers_of f)

-- the topmost specification of a file
abbrev pub TopOf : File → Machine Env Bool
TopOf f = Top f.disk (layers_of f)

-- each layer of a file refines its specification on what it is specified over
abbrev pub FileRefines : File → Type 0
FileRefines f = AllRefine (DiskMachine f.disk) (layers_of f)
