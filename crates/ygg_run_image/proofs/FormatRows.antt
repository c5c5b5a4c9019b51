-- The rows that formatting leaves on a device.
use Rattle.std.proofs.Common.{◌≡◌, List, length, Option, Some, None, IfSome, refl, sym, ap, ◌∙◌, subst}
use Rattle.std.specs.Option.{option_map}
use Rattle.ygg_base.specs.declared.geometry.DiskKind.{DiskKind}
use Rattle.ygg_base.specs.declared.geometry.DiskKind.TheVariants as kind
use Rattle.ygg_base.specs.declared.geometry.Geometry.{Geometry}
use Rattle.ygg_run_image.specs.ygg_base.Devices.{AttachedTurns, Attachment, Image, Tells}
use Rattle.ygg_value.specs.Number.{Grid}
use Rattle.ygg_value.specs.Shapes.{IsShape}
use Rattle.ygg_value.specs.declared.row.Value.TheVariants.{Table}
use Rattle.ygg_syntax.specs.declared.tree.File.{File}
use Rattle.ygg_run_image.specs.ygg_type.Typed.{geometry_of}
use Rattle.ygg_run_image.specs.ygg_disk.Ground.{Meaning}
use Rattle.ygg_run_image.specs.ygg_disk.Kinds.{Disk, model_of}
use Rattle.ygg_run_image.specs.ygg_disk.Size.{table_shape, zeros_of}
use Rattle.std.specs.Prelude.{codes}
use Rattle.ygg_run_image.specs.ygg_meaning.Environments.{look_up}
use Rattle.ygg_run_image.specs.ygg_meaning.Noted.{disk_in}
use Rattle.ygg_run_image.specs.ygg_meaning.Grounds.{TellsZeros}
use Rattle.ygg_run_image.specs.ygg_eval.Lower.{Cause, PowerLoss, GivenUp}
use Rattle.ygg_run_image.specs.ygg_machine.GroundSteps.{ground_machine}
use Rattle.ygg_run_image.proofs.of_ygg_machine.Noting.{stacks_tell}
use Rattle.ygg_run_image.specs.Image.{rows_in}
use Rattle.ygg_run_image.proofs.Images.{zeros-held}
use Rattle.ygg_run_image.specs.Kept.{Keeps}
use Rattle.ygg_run_image.specs.Sight.{Sight, held, state_of, told_disk}
use Rattle.ygg_run_image.specs.DeviceMeaning.{device_meaning}
use Rattle.ygg_run_image.specs.Standing.{KeepsHeader, StaysOn}
use Rattle.ygg_run_image.specs.declared.end.FormatEnd.{FormatEnd}
use Rattle.ygg_run_image.specs.declared.end.FormatEnd.TheVariants as end
use Rattle.ygg_run_image.specs.Formatted.{AreFormatted}
use Rattle.ygg_run_image.specs.Formatting.{Formats, FormatsPart, FormatsSo, FormatsWhole}
use Rattle.ygg_run_image.specs.Leaving.{IsBlank}
use Rattle.ygg_run_image.proofs.Alike.{formats_as_kept, viewed}
use Rattle.ygg_run_image.proofs.Kept.{starts_keep, format_falls_keep}
use Rattle.ygg_run_image.proofs.Turns.{not_none, some_same}

-- what a disk shows
abbrev seen : Disk → Grid
seen d = (model_of d.kind).view d.state

-- what the disk of an image shows
seen_of : (k : DiskKind) (g : Geometry) (i : Image) → (model_of k).view (state_of k g i) ≡ rows_in g i.view
seen_of kind.Sync g i = refl
seen_of kind.Async g i = refl

-- the disk of an image of zeros
blank_state : (k : DiskKind) (g : Geometry) (i : Image) → IsShape (table_shape g) → IsBlank g i → state_of k g i ≡ (model_of k).start (zeros_of g)
blank_state kind.Sync g i limits blank = ap (rows_in g) blank.0 ∙ (zeros-held g limits).1
blank_state kind.Async g i limits blank =
    let view : rows_in g i.view ≡ zeros_of g = ap (rows_in g) blank.0 ∙ (zeros-held g limits).1 in
    let stable : rows_in g i.stable ≡ zeros_of g = ap (rows_in g) blank.1 ∙ (zeros-held g limits).1 in
    ap (λ (v : Grid). record { view = v; stable = rows_in g i.stable }) view ∙ ap (λ (s : Grid). record { view = zeros_of g; stable = s }) stable

-- the ground stayed on the device where it stood
abbrev Stays : {S : Type 0} → (S → Sight) → S → S → Type 0
Stays look from s = StaysOn (look from) (look s)

-- what is seen of the disk that the attached image is
abbrev told_as : Geometry → Image → Disk
told_as g i = record { kind = g.kind; state = state_of g.kind g i }

module _ {S : Type 0} (look : S → Sight) (f : File) (from to : S)
    (keeps : (cause : Cause) → Keeps (Stays look from) (ground_machine (device_meaning look) cause from)) where
  abbrev means : Meaning S
  means = device_meaning look

  -- formatting that is given up
  stays_part : FormatsPart means f from to → Stays look from to
  stays_part p = format_falls_keep means f from (Stays look from) GivenUp (keeps GivenUp) (length f.layers) p.notes to p.falls

  -- the device stays as it was but for the rows of the image
  pub stays : (how : FormatEnd) → Formats means f from to how → Stays look from to
  stays how h = by_end how h.so
    where
      by_end : (how : FormatEnd) → FormatsSo means f from to how → Stays look from to
      by_end end.Done w =
          subst (Stays look from) w.leaves
          (starts_keep means f from (Stays look from) PowerLoss (keeps PowerLoss) (length f.layers) w.state w.notes w.starts)
      by_end end.Failed (rose, p) = stays_part p
      by_end end.Memory p = stays_part p

  module _ (same : (look from).geometry ≡ geometry_of f.disk) (limits : IsShape (table_shape (geometry_of f.disk))) where
    -- zeros are told of an image of zeros
    zeros_told : (i : Image) → held (look from).images (look from).attached ≡ Some i → IsBlank (geometry_of f.disk) i → TellsZeros means f from
    zeros_told i is blank =
        ap (option_map (told_as (look from).geometry)) is ∙ ap (λ (h : Geometry). Some (told_as h i)) same
        ∙ ap (λ (x : (model_of f.disk.kind).State). Some (disk_in f.disk.kind x)) (blank_state f.disk.kind (geometry_of f.disk) i limits blank)

    -- the rows of the image, where it was whole
    rows_whole : (i j : Image) → held (look from).images (look from).attached ≡ Some i → IsBlank (geometry_of f.disk) i →
        held (look to).images (look to).attached ≡ Some j → (look to).geometry ≡ (look from).geometry → FormatsWhole means f from to →
        AreFormatted f (rows_in (geometry_of f.disk) j.view)
    rows_whole i j is blank ends still w =
        let g = geometry_of f.disk in
        let k = f.disk.kind in
        let (t, b, starts, r, picks) = (stacks_tell means f from).starts w.state w.notes (zeros_told i is blank, w.starts) in
        let (state, told, shown) = r.bases in
        let here : told_disk (look to) ≡ Some (disk_in k state) = ap (λ (s : S). told_disk (look s)) (sym w.leaves) ∙ told in
        let there : told_disk (look to) ≡ Some (told_as g j) =
        ap (option_map (told_as (look to).geometry)) ends ∙ ap (λ (h : Geometry). Some (told_as h j)) (still ∙ same) in
        let disks : Some (seen (disk_in k state)) ≡ Some (seen (told_as g j)) = ap (option_map seen) (sym here ∙ there) in
        let rows : (model_of k).view state ≡ rows_in g j.view = some_same _ _ disks ∙ seen_of k g j in
        formats_as_kept f t b (rows_in g j.view) starts (ap (look_up (codes "view")) shown ∙ viewed k state ∙ ap Table rows)

    -- so it is wherever images are told
    pub rows : (how : FormatEnd) → Formats means f from to how → how ≡ end.Done →
        IfSome (held (look from).images (look from).attached) (IsBlank (geometry_of f.disk)) → (look to).geometry ≡ (look from).geometry →
        (held (look from).images (look from).attached ≡ None → held (look to).images (look to).attached ≡ None) →
        IfSome (held (look to).images (look to).attached) (λ (j : Image). AreFormatted f (rows_in (geometry_of f.disk) j.view))
    rows how h is blank still none =
        by_held (held (look from).images (look from).attached) refl (held (look to).images (look to).attached) refl
      where
        so : FormatsWhole means f from to
        so = subst (FormatsSo means f from to) is h.so

        by_held : (o : Option Image) → held (look from).images (look from).attached ≡ o → (p : Option Image) →
            held (look to).images (look to).attached ≡ p → IfSome p (λ (j : Image). AreFormatted f (rows_in (geometry_of f.disk) j.view))
        by_held o e None e' = tt
        by_held None e (Some j) e' = absurd (not_none j (sym (none e) ∙ e'))
        by_held (Some i) e (Some j) e' =
            rows_whole i j e (subst (λ (x : Option Image). IfSome x (IsBlank (geometry_of f.disk))) e blank) e' still so

-- nothing is held where nothing is attached
nothing : (images : Option (List Image)) → held images None ≡ None
nothing None = refl
nothing (Some told) = refl

-- where images weren't told they still aren't
pub untold : (start now : Sight) → StaysOn start now → held start.images start.attached ≡ None → held now.images now.attached ≡ None
untold start now s none = by_images start.images refl start.attached refl s.images
  where
    by_images : (images : Option (List Image)) → start.images ≡ images → (attached : Option Attachment) → start.attached ≡ attached →
        Tells (AttachedTurns (KeepsHeader start.geometry) start.attached) start.images now.images → held now.images now.attached ≡ None
    by_images None e attached e' told =
        ap (λ (o : Option (List Image)). held o now.attached)
        (subst (λ (o : Option (List Image)). Tells (AttachedTurns (KeepsHeader start.geometry) start.attached) o now.images) e told)
    by_images (Some old) e None e' told = ap (held now.images) (s.attached ∙ e') ∙ nothing now.images
    by_images (Some old) e (Some a) e' told =
        let (images, is, one) = subst (λ (o : Option Attachment). Tells (AttachedTurns (KeepsHeader start.geometry) o) (Some old) now.images) e'
        (subst (λ (o : Option (List Image)). Tells (AttachedTurns (KeepsHeader start.geometry) start.attached) o now.images) e told) in
        let there : held start.images start.attached ≡ Some one.old =
        ap (λ (o : Option (List Image)). held o start.attached) e ∙ ap (held (Some old)) e' ∙ one.was in
        absurd (not_none one.old (sym none ∙ there))
