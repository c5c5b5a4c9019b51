-- What is known of an image that was mounted.
use Rattle.std.proofs.Common.{◌≡◌, ℕ, List, Option, Some, None, Ok, refl, sym, ap, ◌∙◌, subst}
use Rattle.std.specs.Prelude.{IfSome}
use Rattle.ygg_base.specs.declared.geometry.Geometry.{Geometry}
use Rattle.ygg_base.specs.declared.geometry.DiskKind.{DiskKind}
use Rattle.ygg_base.specs.declared.geometry.DiskKind.TheVariants.{Sync, Async}
use Rattle.ygg_run_image.specs.ygg_base.Devices.{Image, Tells}
use Rattle.ygg_value.specs.Shapes.{IsShape}
use Rattle.ygg_run_commands.specs.ygg_disk.Kinds.{Disk, model_of}
use Rattle.ygg_run_commands.specs.ygg_disk.Size.{table_shape}
use Rattle.ygg_run_commands.specs.ygg_meaning.Noted.{disk_in}
use Rattle.ygg_run_image.specs.Image.{rows_in}
use Rattle.ygg_run_image.specs.Judged.{IsJudged}
use Rattle.ygg_run_image.specs.Laws.{AreBlocks}
use Rattle.ygg_run_image.specs.Sight.{Holds, HoldsImage, state_of, told_disk}
use Rattle.ygg_run_image.specs.Mounting.{Mounts, whole_image}
use Rattle.ygg_run_mounted.specs.OnDevice.{seen}

module _ (g : Geometry) (limits : IsShape (table_shape g)) (name : List ℕ) where
  -- an accepted image holds rows
  pub accepted_blocks : (bytes : List ℕ) → IsJudged g bytes None → AreBlocks g bytes
  accepted_blocks bytes judged = record { limits = limits; whole = judged.1.whole; rows = judged.2 }

  -- so does an image that was mounted, in both its lists
  mounted_holds : (before now : List Image) → Mounts g name (Ok tt) before now → HoldsImage g now name
  mounted_holds before now m =
      let blocks = accepted_blocks m.old.view m.turns.0 in
      record {
        image = m.new;
        is = m.is;
        view = subst (λ (bytes : List ℕ). AreBlocks g bytes) (sym m.turns.1.0) blocks;
        stable = subst (λ (bytes : List ℕ). AreBlocks g bytes) (sym m.turns.1.1) blocks;
      }

  told_holds : (before now : Option (List Image)) → Tells (Mounts g name (Ok tt)) before now → IfSome now (λ told. HoldsImage g told name)
  told_holds None now same = subst (λ (o : Option (List Image)). IfSome o (λ told. HoldsImage g told name)) (sym same) tt
  told_holds (Some before) now (told, is, m) =
      subst (λ (o : Option (List Image)). IfSome o (λ t. HoldsImage g t name)) (sym is) (mounted_holds before told m)

  -- the device then holds a disk
  pub mounted_disk : (before now : Option (List Image)) → Tells (Mounts g name (Ok tt)) before now → Holds g now (Some (whole_image g name))
  mounted_disk before now m =
      record { limits = limits; attachment = whole_image g name; is = refl; size = refl; count = refl; told = told_holds before now m }

  -- the state of a disk of which both tables are the same
  state_flushed : (kind : DiskKind) (i : Image) → i.stable ≡ i.view → state_of kind g i ≡ (model_of kind).start (rows_in g i.view)
  state_flushed Sync i same = refl
  state_flushed Async i same = ap (λ (bytes : List ℕ). record { view = rows_in g i.view; stable = rows_in g bytes }) same

  -- the rows that are told of an image that was mounted are those that it holds, as after a flush
  pub mounted_tells : (before now : List Image) (m : Mounts g name (Ok tt) before now) →
      told_disk (seen g (Some now) (Some (whole_image g name))) ≡ Some (disk_in g.kind ((model_of g.kind).start (rows_in g m.old.view)))
  mounted_tells before now m =
      let same : m.new.stable ≡ m.new.view = m.turns.1.1 ∙ sym m.turns.1.0 in
      ap (λ (o : Option Image). told_of o) m.is
      ∙ ap (λ (s : (model_of g.kind).State). Some (disk_in g.kind s)) (state_flushed g.kind m.new same)
      ∙ ap (λ (bytes : List ℕ). Some (disk_in g.kind ((model_of g.kind).start (rows_in g bytes)))) m.turns.1.0
    where
      told_of : Option Image → Option Disk
      told_of None = None
      told_of (Some i) = Some (record { kind = g.kind; state = state_of g.kind g i })
