-- How the command `format` ends, by how the formatting did.
use Rattle.std.proofs.Common.{◌≡◌, ◌⊎◌, ℕ, List, [], Option, Some, inl, inr, refl}
use Rattle.ygg_base.specs.declared.lists.Held.{Held}
use Rattle.ygg_base.specs.declared.status.Status.{Status}
use Rattle.ygg_base.specs.declared.status.Status.TheVariants as status
use Rattle.ygg_run_image.specs.ygg_base.Devices.{Image, Tells}
use Rattle.ygg_syntax.specs.declared.tree.File.{File}
use Rattle.ygg_top_command.specs.ygg_report.Putting.{IsPutSo, NoFront}
use Rattle.ygg_run_image.specs.Leaving.{IsFormattedOn}
use Rattle.ygg_top_command.specs.declared.stopping.CommandStop.{CommandStop}
use Rattle.ygg_top_command.specs.Fetched.{IsNoFile, StandsFile}
use Rattle.ygg_top_command.specs.Reports.{EndsBy, Told}
use Rattle.ygg_top_command.proofs.Stops.{file_stop}
use Rattle.ygg_top_command.proofs.Telling.{lost_told, put_told, stop_told, told_to}
use Rattle.ygg_top_command.specs.Breaking.{IsBroken, ToldOn, device_fault}
use Rattle.ygg_top_command.proofs.Breaks.{told_on}
use Rattle.ygg_top.specs.Formatting.{FormatsBroken, FormatsFile, FormatsNamed, FormatsStored, IsNothing, formatted_line}

module _ (before now : Option (List ℕ)) (old new : Option (List Image)) (image : List ℕ) (DeviceRose SinkRose : Type 0) (result : Status) where
  module _ (f : File) where
    -- the image is formatted, and the line was put
    pub file_done : Tells (IsFormattedOn f image) old new → IsPutSo before now formatted_line status.Done SinkRose result →
        ToldOn (FormatsFile old new image f) NoFront IsNothing before now ⊥ DeviceRose SinkRose result
    file_done told put =
        told_on before now ⊥ DeviceRose SinkRose result (FormatsFile old new image f) NoFront IsNothing
        (put_told (FormatsFile old new image f) NoFront before now ⊥ SinkRose result status.Done formatted_line tt (refl, refl, told) put)

    -- the device failed
    pub file_broken : DeviceRose → IsPutSo before now device_fault status.Fault SinkRose result →
        ToldOn (FormatsFile old new image f) NoFront IsNothing before now ⊥ DeviceRose SinkRose result
    file_broken rose put = record { told = inr (record { rose = rose; lines = []; whole = refl; puts = put }) }

    -- no memory was left
    pub file_lost : result ≡ status.NoMemory → now ≡ before → ToldOn (FormatsFile old new image f) NoFront IsNothing before now ⊥ DeviceRose SinkRose result
    file_lost is same =
        told_on before now ⊥ DeviceRose SinkRose result (FormatsFile old new image f) NoFront IsNothing
        (lost_told (FormatsFile old new image f) NoFront before now ⊥ SinkRose result is same)

  module _ (files : Option (List Held)) (file : List ℕ) (LibraryRose : Type 0) where
    -- a layer file stands under the name, and was formatted
    pub file_read : (f : File) → StandsFile files file f → ToldOn (FormatsFile old new image f) NoFront IsNothing before now ⊥ DeviceRose SinkRose result →
        ToldOn (FormatsNamed files old new file image) NoFront (FormatsBroken files file) before now LibraryRose DeviceRose SinkRose result
    file_read f stands h = record { told = to h.told }
      where
        to : Told (FormatsFile old new image f) NoFront before now ⊥ SinkRose result ⊎ IsBroken IsNothing before now DeviceRose SinkRose result →
            Told (FormatsNamed files old new file image) NoFront before now LibraryRose SinkRose result
            ⊎ IsBroken (FormatsBroken files file) before now DeviceRose SinkRose result
        to (inl told) =
            inl (told_to (FormatsFile old new image f) (FormatsNamed files old new file image) NoFront NoFront before now ⊥ LibraryRose SinkRose result
            (λ ended text does. (Some stands.0, stands.1, inr (stands.0, f, refl, stands.2, does))) (λ front none. none) (λ none. absurd none) told)
        to (inr b) = inr (record { rose = b.rose; lines = b.lines; whole = (b.whole, (f, stands)); puts = b.puts })

    -- none does
    pub file_stopped : new ≡ old → (stop : CommandStop) → IsNoFile files file LibraryRose stop → EndsBy stop before now SinkRose result →
        ToldOn (FormatsNamed files old new file image) NoFront (FormatsBroken files file) before now LibraryRose DeviceRose SinkRose result
    file_stopped same stop none ends =
        told_on before now LibraryRose DeviceRose SinkRose result (FormatsNamed files old new file image) NoFront (FormatsBroken files file)
        (stop_told (FormatsNamed files old new file image) NoFront before now LibraryRose SinkRose result stop
        (file_stop files file LibraryRose (FormatsStored old new image) stop (λ stored r refuses. inl (r, refuses, (refl, refl), same)) none) ends)
