-- A ground as the machine below the lowest layer.
use Rattle.std.specs.Prelude.{◌≡◌, ◌<◌, ◌≤◌, ◌^◌, false, List, Some, Result}
use Rattle.ygg_list.specs.declared.memory.NoMemory.{NoMemory}
use Rattle.ygg_value.specs.declared.row.Value.{Value}
use Rattle.ygg_value.specs.declared.shape.Shape.{Shape}
use Rattle.ygg_value.specs.declared.shape.Shape.TheVariants.{Row}
use Rattle.ygg_syntax.specs.declared.tree.DiskText.{DiskText}
use Rattle.ygg_syntax.specs.declared.tree.File.{File}
use Rattle.ygg_eval.specs.ygg_disk.Disk as disk
use Rattle.ygg_eval.specs.ygg_disk.Ground as ground
use Rattle.ygg_eval.specs.ygg_disk.declared.turn.Turn.{Turn}
use Rattle.ygg_eval.specs.ygg_meaning.Environments.{Name}
use Rattle.ygg_eval.specs.ygg_meaning.Machine.{based}
use Rattle.ygg_eval.specs.ygg_meaning.DiskMachine.{disk_call, machine_on}
use Rattle.ygg_eval.specs.ygg_meaning.Noted.{Note}
use Rattle.ygg_eval.specs.Lower.{Standing, Behavior, Meaning, Ending, ending_of}
use Rattle.ygg_machine.specs.GroundSteps.{ground_machine, ground_calls}
use Rattle.ygg_machine.specs.Leaves.{LeaveBy}

-- the shape of the rows of a file's disk
abbrev pub row_of : DiskText → Shape
row_of d = Row d.words.value d.width.value

module _ {S : Type 0} (G : ground.Meaning S) where
  -- the rows of the ground are those of the file's disk
  abbrev pub HasRows : File → S → Type 0
  HasRows file s = G.row s ≡ row_of file.disk

  -- an operation of the disk was called on the ground, and ended so
  pub record CallsGround (from : Standing S) (name : Name) (args : List Value) (ending : Ending) (to : Standing S) : Type 0 where
    pub call : disk.Call
    pub is : disk_call name args ≡ Some call
    pub result : Result Turn NoMemory
    pub ends : ending ≡ ending_of result
    pub turns : ground.Turns G call from.machine to.machine from.power to.power result
    pub down : ground.IsDownWhereNamed from.power result
    pub row : G.row to.machine ≡ G.row from.machine
    pub later : G.faults from.machine ≤ G.faults to.machine
    -- the count of whole calls is one of 64 digits
    pub counts : from.power.passed < 2 ^ 64

  -- its steps are the calls on the ground; of formatting nothing is said
  abbrev pub ground_behavior : Behavior S
  ground_behavior = record {
    Base = S;
    Note = Note;
    machine = λ cause file number. machine_on (ground_calls G cause);
    state = λ file s. based s;
    Leaves = λ how file from notes to. LeaveBy G how notes from.power to.power;
  }

  -- a ground, which can't be stopped: its falls come by the fuse
  abbrev pub ground_meaning : Meaning S
  ground_meaning = record {
    number = λ s. 0;
    Fits = HasRows;
    can_stop = false;
    can_lose = G.can_lose;
    faults = G.faults;
    Calls = λ file from name args ending to. CallsGround from name args ending to;
    Falls = λ file from name args outage to. ⊥;
    Loses = λ file from outage to. ⊥;
    behavior = ground_behavior;
  }

  -- the same ground, formatted from this state
  abbrev pub ground_from : S → Meaning S
  ground_from start = record ground_meaning {
    behavior = record ground_behavior { machine = λ cause file number. ground_machine G cause start };
  }
