-- How `format` ends, and what it leaves of the images of a device.
use Rattle.std.specs.Prelude.{◌≡◌, ◌⊎◌, ℕ, List, [], codes, Option, Some}
use Rattle.ygg_base.specs.declared.failure.Refusal.{Refusal}
use Rattle.ygg_base.specs.declared.lists.Held.{Held}
use Rattle.ygg_base.specs.declared.status.Status.{Status}
use Rattle.ygg_base.specs.declared.status.Status.TheVariants.{Done}
use Rattle.ygg_run_image.specs.ygg_base.Devices.{Attachment, Image, Tells}
use Rattle.ygg_syntax.specs.declared.tree.File.{File}
use Rattle.ygg_top_command.specs.ygg_report.Lines.{ended}
use Rattle.ygg_run_image.specs.Leaving.{IsFormattedOn, IsLeft}
use Rattle.ygg_top_command.specs.Fetched.{StandsFile}
use Rattle.ygg_top_command.specs.Refusing.{IsLayerFile, RefusesFile}
use Rattle.ygg_top_command.specs.Standing.{DoesWith, IsRefused}

-- the line of an image that is formatted
abbrev pub formatted_line : List ℕ
formatted_line = ended (codes "formatted")

-- `format` of a layer file: where images are told, that of the name is formatted, and no other is changed
abbrev pub FormatsFile : (before now : Option (List Image)) → (image : List ℕ) → File → Status → List ℕ → Type 0
FormatsFile before now image f status text = (status ≡ Done) × (text ≡ formatted_line) × Tells (IsFormattedOn f image) before now

-- the same of what stands under the file's name: it is refused, and no image is changed, or it is a layer file without a fault
abbrev pub FormatsStored : (before now : Option (List Image)) → (image : List ℕ) → Option (List ℕ) → Status → List ℕ → Type 0
FormatsStored before now image stored status text =
    ((r : Refusal) × RefusesFile stored r × IsRefused r status text × (now ≡ before))
    ⊎ ((bytes : List ℕ) × (f : File) × (stored ≡ Some bytes) × IsLayerFile bytes f × FormatsFile before now image f status text)

-- `format` of a file's name and an image's name
abbrev pub FormatsNamed : Option (List Held) → (before now : Option (List Image)) → (file image : List ℕ) → Status → List ℕ → Type 0
FormatsNamed files before now file image = DoesWith (FormatsStored before now image) files file

-- nothing was printed
abbrev pub IsNothing : List ℕ → Type 0
IsNothing lines = lines ≡ []

-- what was printed when the device failed: nothing, and a layer file stands under the file's name
abbrev pub FormatsBroken : Option (List Held) → (file lines : List ℕ) → Type 0
FormatsBroken files file lines = IsNothing lines × ((f : File) × StandsFile files file f)

-- What `format` leaves of the images, however it ends: all are as before; or a layer file stands under the file's name, and where images are told, none is
-- changed but that of the name, which isn't sealed unless it is formatted. Nothing is said of that one where none was created, and then nothing is attached.
abbrev pub FormatsLeave : Option (List Held) → (before now : Option (List Image)) → Option Attachment → (file image : List ℕ) → Type 0
FormatsLeave files before now attached file image =
    (now ≡ before) ⊎ ((f : File) × StandsFile files file f × Tells (IsLeft f image attached) before now)
