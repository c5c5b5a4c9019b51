-- What is done on a ground over a device is done on what is seen of the device.
use Rattle.std.proofs.Common.{ℕ, List, ◌++◌, Option, Result, refl, sym, ap, ◌∙◌, subst}
use Rattle.ygg_run_image.specs.ygg_base.Devices.{Attachment, Image}
use Rattle.ygg_syntax.specs.declared.tree.File.{File}
use Rattle.ygg_run_commands.specs.ygg_disk.Disk as disk
use Rattle.ygg_run_commands.specs.ygg_meaning.DiskMachine.{machine_on}
use Rattle.ygg_run_commands.specs.ygg_meaning.Stack.{layers_of}
use Rattle.ygg_run_commands.specs.ygg_meaning.Mirror.{IsJoined, FormattedIf, Mirrors}
use Rattle.ygg_run_commands.specs.ygg_meaning.Noted.{Note}
use Rattle.ygg_run_commands.specs.ygg_meaning_proofs_Mirrored.{stacked_mirrors}
use Rattle.ygg_run_commands.proofs.of_ygg_meaning.Stores.{StoreMirrors, machine_mirrors}
use Rattle.ygg_run_commands.specs.ygg_eval.Lower.{Cause, PowerLoss, GivenUp}
use Rattle.ygg_run_commands.specs.ygg_machine.GroundSteps.{ground_calls}
use Rattle.ygg_run_commands.specs.ygg_machine.Told.{SameNotes}
use Rattle.ygg_run_commands.specs.ygg_script.declared.command.Command.{Command}
use Rattle.ygg_run_commands.specs.OnGround.{layers_on}
use Rattle.ygg_run_commands.specs.Running.{IsRun}
use Rattle.ygg_run_commands.specs.declared.halting.RunHalted.{RunHalted}
use Rattle.ygg_run_image.specs.DeviceMeaning.{device_meaning}
use Rattle.ygg_run_image.specs.Sight.{Sight}
use Rattle.ygg_run_image.specs.Turning.{Moves}
use Rattle.ygg_run_mounted.specs.OnDevice.{on_device, seen}
use Rattle.ygg_run_mounted.proofs.Carried.{Along, carried}

-- what is seen, whichever reference is used and however many faults there were
abbrev pub bare : Sight → Sight
bare s = seen s.geometry s.images s.attached

bare_moves : (Turns : Attachment → (before now : Image) → Type 0) (s s' : Sight) → Moves Turns s s' → Moves Turns (bare s) (bare s')
bare_moves Turns s s' m = record { reference = refl; geometry = m.geometry; attached = m.attached; images = m.images }

same_joined : IsJoined SameNotes
same_joined = record { none = refl; append = λ a c b d x y. ap (λ (l : List Note). l ++ d) x ∙ ap (λ (l : List Note). a ++ l) y }

module _ {S : Type 0} (look : S → Sight) where
  -- how a state is seen
  abbrev pub sight : S → Sight
  sight s = bare (look s)

  calls_seen : (cause : Cause) (b b' : S) (call : disk.Call) (notes : List Note) (reply : disk.Reply) →
      (ground_calls (device_meaning look) cause).Calls b call notes reply b' → (ground_calls on_device cause).Calls (sight b) call notes reply (sight b')
  calls_seen PowerLoss b b' call notes reply (picks, noted, moves, tells) =
      (picks, noted, bare_moves _ (look b) (look b') moves, tells)
  calls_seen GivenUp b b' call notes reply (picks, noted, moves, tells) =
      (picks, noted, bare_moves _ (look b) (look b') moves, tells)

  falls_seen : (cause : Cause) (b b' : S) (call : disk.Call) (notes : List Note) → (ground_calls (device_meaning look) cause).Falls b call notes b' →
      (ground_calls on_device cause).Falls (sight b) call notes (sight b')
  falls_seen PowerLoss b b' call notes (picks, noted, falls, tells) = absurd falls
  falls_seen GivenUp b b' call notes (broken, moves) = (broken, bare_moves _ (look b) (look b') moves)

  loses_seen : (cause : Cause) (b b' : S) → (ground_calls (device_meaning look) cause).Loses b b' → (ground_calls on_device cause).Loses (sight b) (sight b')
  loses_seen PowerLoss b b' lost = absurd lost.step
  loses_seen GivenUp b b' same = ap (λ (s : S). sight s) same

  store_seen : (cause : Cause) → StoreMirrors (Along sight) SameNotes ⊥ (ground_calls (device_meaning look) cause) (ground_calls on_device cause)
  store_seen cause = record {
    starts = λ none b h. absurd none;
    calls = λ c b b' call a reply r h. (
      sight b',
      a,
      subst (λ (x : Sight). (ground_calls on_device cause).Calls x call a reply (sight b')) (sym r) (calls_seen cause b b' call a reply h),
      refl,
      refl,
    );
    falls = λ c b b' call a r h.
        (sight b', a, subst (λ (x : Sight). (ground_calls on_device cause).Falls x call a (sight b')) (sym r) (falls_seen cause b b' call a h), refl, refl);
    loses = λ c b b' r h. (sight b', subst (λ (x : Sight). (ground_calls on_device cause).Loses x (sight b')) (sym r) (loses_seen cause b b' h), refl);
  }

  layers_seen : (f : File) (cause : Cause) →
      Mirrors (Along sight) SameNotes (FormattedIf ⊥ (layers_on (device_meaning look) f cause)) (layers_on on_device f cause)
  layers_seen f cause =
      stacked_mirrors (Along sight) SameNotes same_joined ⊥ (machine_on (ground_calls (device_meaning look) cause)) (machine_on (ground_calls on_device cause))
      (machine_mirrors (Along sight) SameNotes refl ⊥ (ground_calls (device_meaning look) cause) (ground_calls on_device cause) (store_seen cause))
      (layers_of f)

  -- a run on a ground over a device is one on what is seen of it
  pub run_seen : (f : File) (script : List Command) (from to : S) (before now : Option (List ℕ)) (DeviceRose SinkRose LaterDevice LaterSink : Type 0) →
      (DeviceRose → LaterDevice) → (SinkRose → LaterSink) → (result : Result (Unit {0}) RunHalted) →
      IsRun (layers_on (device_meaning look) f) f script from to before now DeviceRose SinkRose result →
      IsRun (layers_on on_device f) f script (sight from) (sight to) before now LaterDevice LaterSink result
  run_seen f = carried sight (layers_on (device_meaning look) f) (layers_on on_device f) (layers_seen f) f
