-- Layers on one another do what their function of picks says.
use Rattle.std.proofs.Common.{◌≡◌, Bool, false, List, [], ◌∷◌, ◌++◌, Some, refl, sym, ap, ◌∙◌, subst, append_assoc}
use Rattle.std.proofs.lemmas.List.{append-nil}
use Rattle.ygg_value.specs.declared.row.Value.{Value}
use Rattle.ygg_syntax.specs.declared.tree.DiskText.{DiskText}
use Rattle.ygg_meaning_laws.specs.ygg_disk.Disk as disk
use Rattle.ygg_meaning_laws.specs.Environments.{Name, Env, bind}
use Rattle.ygg_meaning_laws.specs.Progress.{Answer}
use Rattle.ygg_meaning_laws.specs.Machine.{Picks, State, based, Machine}
use Rattle.ygg_meaning_laws.specs.Layer.{ClosedLayer, Layered, operation_of}
use Rattle.ygg_meaning_laws.specs.ygg_disk.Kinds.{model_of}
use Rattle.ygg_meaning_laws.specs.DiskMachine.{answer_to, tables_in}
use Rattle.ygg_meaning_laws.specs.Stack.{Layers, Stacked}
use Rattle.ygg_meaning_laws.specs.Noted.{Note, picks_in, NotedDisk}
use Rattle.ygg_meaning_laws.specs.Acts.{Taken, Did, Acts, Notes, AreCalls}
use Rattle.ygg_meaning_laws.specs.DiskActs.{Replied, kind_calls}
use Rattle.ygg_meaning_laws.specs.StackActs.{noted_does, noted_acts, layer_does, stack_acts, StacksDirectly}
use Rattle.ygg_meaning_laws.proofs.DiskActed.{state_is, call_replies}
use Rattle.ygg_meaning_laws.proofs.Agreed.{runs_unique}

-- the picks of disk calls
picks_joined : (a b : List Note) → picks_in (a ++ b) ≡ picks_in a ++ picks_in b
picks_joined [] b = refl
picks_joined (n ∷ a) b = ap (λ z. n.picks ++ z) (picks_joined a b) ∙ sym (append_assoc n.picks (picks_in a) (picks_in b))

abbrev disk_notes : Notes Note
disk_notes = record { picks_in = picks_in; none = refl; joined = picks_joined }

-- a noted disk
noted_calls : (past : Bool) (d : DiskText) → AreCalls past disk_notes (NotedDisk d) (noted_acts past d)
noted_calls past d s s' name args notes picks left y h took =
    let (b, b', call, reply, named, from_is, (bits, noted, (x, z, at, step, shows)), answer, to) = h in
    let taken : Taken past bits picks left = subst (λ t. Taken past t picks left) (ap picks_in noted ∙ append-nil bits) took in
    ap (λ c. noted_does past d s c picks) named
    ∙ ap (λ (e : State Env). noted_does past d e (Some call) picks) (from_is ∙ ap based at)
    ∙ ap (λ x. did d call (kind_calls past d.kind x call picks)) (state_is past d.kind x)
    ∙ ap (did d call) (call_replies past d.kind x z call bits picks left reply step taken)
    ∙ made_so (answer_to reply) y (based (tables_in d.kind z)) s' (record { call = call; cut = false; picks = bits } ∷ []) notes left (sym answer)
    (ap based (sym shows) ∙ sym to) (sym noted)
  where
    did : (d : DiskText) → disk.Call → Replied (model_of d.kind).State → Did Env Note
    did d call r = record {
      answer = answer_to r.reply;
      to = based (tables_in d.kind r.to);
      notes =
          record { call = call; cut = false; picks = r.taken } ∷ [];
      left = r.left;
    }

    made_so : (y z : Answer) (s t : State Env) (n m : List Note) (left : Picks) → y ≡ z → s ≡ t → n ≡ m →
        record { answer = y; to = s; notes = n; left = left } ≡ (let r : Did Env Note = record { answer = z; to = t; notes = m; left = left } in r)
    made_so y z s t n m left h g k = cc

-- a layer on a machine
layer_calls : {B X : Type 0} (past : Bool) (N : Notes X) (M : Machine B X) (F G : Acts B X) (L : ClosedLayer) → AreCalls past N M F →
    ((s : State B) (name : Name) (args : List Value) (picks : Picks) → G.calls s name args picks ≡ layer_does L F s (operation_of L name) args picks)
    → AreCalls past N (Layered L M) G
layer_calls past N M F G L acted same s s' name args notes picks left y h took =
    same s name args picks ∙ ap (λ o. layer_does L F s o args picks) h.is
    ∙ runs_unique past N M F L h.operation.implementation (bind h.operation.arguments args) acted s picks left y s' notes (record { run = h.step; took = took })

-- layers on one another
pub stack_calls : {B X : Type 0} (past : Bool) (N : Notes X) (M : Machine B X) (F : Acts B X) → AreCalls past N M F → (layers : Layers) →
    AreCalls past N (Stacked M layers) (stack_acts F layers)
stack_calls past N M F acted [] = acted
stack_calls past N M F acted (L ∷ lower) =
    layer_calls past N (Stacked M lower) (stack_acts F lower) (stack_acts F (L ∷ lower)) L (stack_calls past N M F acted lower) (λ s name args picks. refl)

pub stacks_directly : StacksDirectly
stacks_directly past d layers s to name args notes picks left answer h took =
    stack_calls past disk_notes (NotedDisk d) (noted_acts past d) (noted_calls past d) layers s to name args notes picks left answer h took
