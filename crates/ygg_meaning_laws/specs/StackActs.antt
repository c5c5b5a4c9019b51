-- Layers on one another as functions of picks, each disk call being noted.
use Rattle.std.specs.Prelude.{◌≡◌, Bool, true, false, List, [], ◌∷◌, Option, Some, None}
use Rattle.ygg_value.specs.declared.row.Value.{Value}
use Rattle.ygg_syntax.specs.declared.tree.DiskText.{DiskText}
use Rattle.ygg_syntax.specs.declared.tree.Operation.{Operation}
use Rattle.ygg_meaning_laws.specs.ygg_disk.Disk as disk
use Rattle.ygg_meaning_laws.specs.Environments.{Name, Env, bind}
use Rattle.ygg_meaning_laws.specs.Progress.{Answer}
use Rattle.ygg_meaning_laws.specs.Machine.{Picks, State, based}
use Rattle.ygg_meaning_laws.specs.Layer.{ClosedLayer, operation_of}
use Rattle.ygg_meaning_laws.specs.ygg_disk.Kinds.{model_of}
use Rattle.ygg_meaning_laws.specs.DiskMachine.{disk_call, answer_to, tables_in}
use Rattle.ygg_meaning_laws.specs.Stack.{Layers, Stacked}
use Rattle.ygg_meaning_laws.specs.Noted.{Note, picks_in, NotedDisk}
use Rattle.ygg_meaning_laws.specs.Acts.{Did, Fell, Acts, Taken, runs}
use Rattle.ygg_meaning_laws.specs.DiskActs.{kind_calls, kind_falls, state_in}

module _ (past : Bool) (d : DiskText) where
  -- a disk call, which is noted
  abbrev pub noted_does : State Env → Option disk.Call → Picks → Did Env Note
  noted_does s None picks = record { answer = None; to = s; notes = []; left = picks }
  noted_does s (Some call) picks =
      let r = kind_calls past d.kind (state_in past d.kind s.base) call picks in
      record {
        answer = answer_to r.reply;
        to = based (tables_in d.kind r.to);
        notes = record { call = call; cut = false; picks = r.taken } ∷ [];
        left = r.left;
      }

  -- power fails within it
  abbrev pub noted_drops : State Env → Option disk.Call → Picks → Fell Env Note
  noted_drops s None picks = record { base = s.base; notes = []; left = picks }
  noted_drops s (Some call) picks =
      let r = kind_falls past d.kind (state_in past d.kind s.base) call picks in
      record { base = tables_in d.kind r.to; notes = record { call = call; cut = true; picks = r.taken } ∷ []; left = r.left }

  -- the disk that a file names, each call of which is noted
  abbrev pub noted_acts : Acts Env Note
  noted_acts = record {
    calls = λ s name args picks. noted_does s (disk_call name args) picks;
    falls = λ s name args picks. noted_drops s (disk_call name args) picks;
    loses = λ s picks. record { base = tables_in d.kind ((model_of d.kind).lost (state_in past d.kind s.base)); notes = []; left = picks };
  }

module _ {B X : Type 0} where
  -- an operation of a layer on a machine; what is none does nothing
  abbrev pub layer_does : ClosedLayer → Acts B X → State B → Option Operation → List Value → Picks → Did B X
  layer_does L F s None args picks = record { answer = None; to = s; notes = []; left = picks }
  layer_does L F s (Some o) args picks = runs F L o.implementation (bind o.arguments args) s picks

  -- Layers on a machine. Of power failing in them nothing is said here.
  abbrev pub stack_acts : Acts B X → Layers → Acts B X
  stack_acts F [] = F
  stack_acts F (L ∷ lower) = record {
    calls = λ s name args picks. layer_does L (stack_acts F lower) s (operation_of L name) args picks;
    falls = λ s name args picks. record { base = s.base; notes = []; left = picks };
    loses = λ s picks. record { base = s.base; notes = []; left = picks };
  }

-- whatever whole operation the layers of a file do is what their function says of the picks that it took
abbrev pub StacksDirectly : Type 0
StacksDirectly =
    (past : Bool) (d : DiskText) (layers : Layers) (s to : State Env) (name : Name) (args : List Value) (notes : List Note) (picks left : Picks)
    (answer : Answer) →
    (Stacked (NotedDisk d) layers).Calls s name args notes answer to → Taken past (picks_in notes) picks left →
    (stack_acts (noted_acts past d) layers).calls s name args picks ≡ record { answer = answer; to = to; notes = notes; left = left }
