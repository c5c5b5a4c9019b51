-- How a run of a script on an image ends.
use Rattle.std.specs.Prelude.{◌≡◌, ◌⊎◌, ℕ, List, [], Option, Err}
use Rattle.ygg_base.specs.declared.failure.Refusal.{Refusal}
use Rattle.ygg_base.specs.declared.outside.Moved.TheVariants as moved
use Rattle.ygg_base.specs.declared.reason.Reason.TheVariants as reason
use Rattle.ygg_base.specs.declared.status.Status.{Status}
use Rattle.ygg_base.specs.declared.status.Status.TheVariants.{Done}
use Rattle.ygg_base.specs.Reason.{refusal_at}
use Rattle.ygg_run_mounted.specs.ygg_base.Devices.{Image, ImageTurns, Tells}
use Rattle.ygg_syntax.specs.declared.tree.File.{File}
use Rattle.ygg_type.specs.Typed.{geometry_of}
use Rattle.ygg_top.specs.ygg_meaning.History.{Entry}
use Rattle.ygg_run_mounted.specs.ygg_script.declared.command.Command.{Command}
use Rattle.ygg_run_mounted.specs.ygg_run_image.Judged.{number_of}
use Rattle.ygg_run_mounted.specs.ygg_run_image.declared.reason.ImageReason.{ImageReason}
use Rattle.ygg_run_mounted.specs.ygg_run_image.Mounting.{IsFlushed, Mounts}
use Rattle.ygg_run_mounted.specs.ygg_run_image.declared.unmounted.Unmounted.TheVariants as unmounted
use Rattle.ygg_run_mounted.specs.ygg_run_commands.Ran.{AllRan, run_text}
use Rattle.ygg_run_mounted.specs.ygg_run_commands.declared.halting.RunHalted.TheVariants.{DeviceFailed, SinkFailed, Memory}
use Rattle.ygg_run_mounted.specs.Ending.{IsGivenUp}
use Rattle.ygg_run_mounted.specs.Extending.{KeepsImage}
use Rattle.ygg_top_command.specs.Standing.{IsRefused}

-- the refusal of an image, the third word after the command's, for a reason
abbrev pub image_refusal : ImageReason → Refusal
image_refusal why = record { number = number_of why; line = 0; column = 3 }

module _ (f : File) (image : List ℕ) (before now : Option (List Image)) where
  -- the refusal of the image of that name: there is none, or it is refused for a reason; and no image is changed
  abbrev pub RefusesImage : Refusal → Type 0
  RefusesImage r =
      ((r ≡ refusal_at reason.Absent 0 3) × Tells (Mounts (geometry_of f.disk) image (Err unmounted.Absent)) before now)
      ⊎ ((why : ImageReason) × (r ≡ image_refusal why) × Tells (Mounts (geometry_of f.disk) image (Err (unmounted.Refused why))) before now)

  -- Whatever the status: no image is changed; or the image of that name was accepted, and no other is changed. Then its first block stays and both its lists
  -- hold rows, unless the first flush failed, by which each block that is left when power fails is as before or as it is read.
  abbrev pub LeavesImage : Type 0
  LeavesImage =
      (now ≡ before)
      ⊎ Tells (ImageTurns (IsFlushed (geometry_of f.disk) moved.Failed image) image) before now
      ⊎ Tells (ImageTurns (KeepsImage (geometry_of f.disk)) image) before now

  module _ (script : List Command) where
    -- a run that was given up: what the sink has taken by then, and what that leaves
    abbrev pub LeftBy : List ℕ → Type 0
    LeftBy front =
        IsGivenUp f script image before now (Unit {0}) (Unit {0}) SinkFailed front ⊎ IsGivenUp f script image before now (Unit {0}) (Unit {0}) Memory front

    -- the lines that were whole when the device failed, and what that leaves: none where the image wasn't mounted
    abbrev pub BrokenBy : List ℕ → Type 0
    BrokenBy lines =
        ((lines ≡ []) × Tells (Mounts (geometry_of f.disk) image (Err unmounted.DeviceFailed)) before now)
        ⊎ IsGivenUp f script image before now (Unit {0}) (Unit {0}) DeviceFailed lines

    module _ (Turns : List Entry → (before now : Image) → Type 0) where
      -- A whole run with this text: an entry for each command, by which the image turns so.
      pub record RunsWhole (text : List ℕ) : Type 0 where
        pub entries : List Entry
        pub ran : AllRan f script entries
        pub text_is : text ≡ run_text script entries
        pub leaves : Tells (ImageTurns (Turns entries) image) before now

      -- the image is refused, or the run is whole
      abbrev pub RunsImage : Status → List ℕ → Type 0
      RunsImage status text = ((r : Refusal) × RefusesImage r × IsRefused r status text) ⊎ ((status ≡ Done) × RunsWhole text)
