-- What a whole run makes of an image that was accepted.
use Rattle.std.proofs.Common.{◌≡◌, ℕ, Bool, true, arith, List, ◌++◌, length, take, codes, Option, Some, None, Ok, inl, inr, refl, sym, ap, ◌∙◌, subst}
use Rattle.std.specs.Option.{option_map}
use Rattle.std.specs.List.{flat_map}
use Rattle.std.specs.Prelude.{◌⊎◌}
use Rattle.std.proofs.lemmas.List.{take-append-le, take_all}
use Rattle.ygg_base.specs.declared.geometry.Geometry.{Geometry}
use Rattle.ygg_base.specs.declared.geometry.DiskKind.{DiskKind}
use Rattle.ygg_base.specs.declared.geometry.DiskKind.TheVariants.{Sync, Async}
use Rattle.ygg_base.specs.declared.outside.Moved.TheVariants.{Done}
use Rattle.ygg_run_image.specs.ygg_base.Devices.{Image, Attachment, ImageTurns, Tells, Flushes, image_of}
use Rattle.ygg_value.specs.Number.{Grid}
use Rattle.ygg_value.specs.Shapes.{IsShape}
use Rattle.ygg_value.specs.declared.row.Value.TheVariants.{Table}
use Rattle.ygg_syntax.specs.declared.tree.File.{File}
use Rattle.ygg_syntax.specs.Files.{IsDerived}
use Rattle.ygg_run_commands.specs.ygg_type_rules.Files.{IsTyped}
use Rattle.ygg_run_commands.specs.ygg_type.Typed.{geometry_of}
use Rattle.ygg_run_commands.specs.ygg_disk.Kinds.{Disk, model_of}
use Rattle.ygg_run_commands.specs.ygg_disk.Size.{table_shape}
use Rattle.ygg_run_commands.specs.ygg_meaning.Environments.{look_up}
use Rattle.ygg_run_commands.specs.ygg_meaning.Machine.{State}
use Rattle.ygg_run_commands.specs.ygg_meaning.DiskMachine.{tables_in}
use Rattle.ygg_run_commands.specs.ygg_meaning.History.{Entry}
use Rattle.ygg_run_commands.specs.ygg_meaning.Left.{Left}
use Rattle.ygg_run_commands.specs.ygg_meaning.Noted.{disk_in}
use Rattle.ygg_run_commands.specs.ygg_script.declared.command.Command.{Command}
use Rattle.ygg_run_image.specs.Image.{block_bytes, header, image, rows_in, row_block}
use Rattle.ygg_run_image.specs.Laws.{AreRows, BlocksAreImages, ImagesHoldTheirRows}
use Rattle.ygg_run_image.proofs.Images.{length-header}
use Rattle.ygg_run_commands.specs.OnGround.{layers_on}
use Rattle.ygg_run_commands.specs.Running.{Runs}
use Rattle.ygg_run_commands.specs.Extending.{RunsExtend, TellsFlushed}
use Rattle.ygg_run_image.specs.DeviceMeaning.{device_meaning}
use Rattle.ygg_run_image.specs.Sight.{Sight, state_of, told_disk}
use Rattle.ygg_run_image.specs.Standing.{KeepsHeader}
use Rattle.ygg_run_image.specs.Mounting.{Mounts, whole_image}
use Rattle.ygg_run_mounted.specs.OnDevice.{seen}
use Rattle.ygg_run_mounted.specs.Extending.{KeepsImage, LeadsTo, HasRun}
use Rattle.ygg_run_mounted.proofs.Seen.{bare}
use Rattle.ygg_run_mounted.proofs.Mounted.{accepted_blocks, mounted_tells}

-- the rows that a disk shows
shown_by : Disk → Grid
shown_by d = (model_of d.kind).view d.state

-- two images under one name are the same
same_image : (images : List Image) (name : List ℕ) (i j : Image) → image_of images name ≡ Some i → image_of images name ≡ Some j → i ≡ j
same_image images name i j is it = first (sym is ∙ it)
  where
    first : Some i ≡ Some j → i ≡ j
    first e = ap (λ (o : Option Image). some_or i o) e
      where
        some_or : Image → Option Image → Image
        some_or x None = x
        some_or x (Some y) = y

module _ (g : Geometry) where
  shown_state : (kind : DiskKind) (i : Image) → (model_of kind).view (state_of kind g i) ≡ rows_in g i.view
  shown_state Sync i = refl
  shown_state Async i = refl

  shown_tables : (kind : DiskKind) (x : (model_of kind).State) → look_up (codes "view") (tables_in kind x) ≡ Table ((model_of kind).view x)
  shown_tables Sync x = refl
  shown_tables Async x = refl

  -- the disk that is told of an image shows the rows that it holds
  pub rows_told : (kind : DiskKind) (i : Image) (x : (model_of kind).State) →
      Some (record { kind = g.kind; state = state_of g.kind g i }) ≡ Some (disk_in kind x) →
      look_up (codes "view") (tables_in kind x) ≡ Table (rows_in g i.view)
  unfolding shown_by
  rows_told kind i x same =
      let told : Some (shown_by (record { kind = g.kind; state = state_of g.kind g i })) ≡ Some (shown_by (disk_in kind x)) =
      ap (λ (o : Option Disk). option_map shown_by o) same in
      let rows : rows_in g i.view ≡ (model_of kind).view x = sym (shown_state g.kind i) ∙ value told in
      shown_tables kind x ∙ ap (λ (t : Grid). Table t) (sym rows)
    where
      value : {a b : Grid} → Some a ≡ Some b → a ≡ b
      value {a} {b} e = ap (λ (o : Option Grid). grid_or a o) e
        where
          grid_or : Grid → Option Grid → Grid
          grid_or t None = t
          grid_or t (Some u) = u

  -- an image of rows begins with its header
  image_first : (sealed : Bool) (rows : Grid) → take (block_bytes g) (image g sealed rows) ≡ header g sealed
  image_first sealed rows =
      let long : length (header g sealed) ≡ block_bytes g = length-header g sealed in
      take-append-le (block_bytes g) (header g sealed) (flat_map (row_block g) rows.rows) (omega (arith, long))
      ∙ take_all (block_bytes g) (header g sealed) (omega (arith, long))

-- an image that was flushed and then kept its header
image_kept : (g : Geometry) (a : Attachment) (before middle now : Image) → Flushes Done a before middle → KeepsHeader g a middle now → KeepsImage g before now
image_kept g a before middle now (view, stable) kept = record {
  view_first = kept.view_first ∙ first view;
  stable_first = by_cases kept.stable_first;
  view_rows = kept.view_rows;
  stable_rows = kept.stable_rows;
}
  where
    first : {bytes : List ℕ} → bytes ≡ before.view → take (block_bytes g) bytes ≡ take (block_bytes g) before.view
    first {bytes} same = ap (λ (x : List ℕ). take (block_bytes g) x) same

    by_cases : (take (block_bytes g) now.stable ≡ take (block_bytes g) middle.stable) ⊎ (take (block_bytes g) now.stable ≡ take (block_bytes g) middle.view) →
        take (block_bytes g) now.stable ≡ take (block_bytes g) before.view
    by_cases (inl same) = same ∙ first stable
    by_cases (inr same) = same ∙ first view

-- an image that was mounted and then kept its header
mounted_keeps : (g : Geometry) (name : List ℕ) (before middle now : List Image) → Mounts g name (Ok tt) before middle →
    ImageTurns (KeepsHeader g (whole_image g name)) name middle now → ImageTurns (KeepsImage g) name before now
mounted_keeps g name before middle now m x =
    let a = whole_image g name in
    let same : x.old ≡ m.new = same_image middle name x.old m.new x.was m.is in
    record {
      old = m.old;
      new = x.new;
      was = m.was;
      is = x.is;
      turns = image_kept g a m.old m.new x.new m.turns.1 (subst (λ (i : Image). KeepsHeader g a i x.new) same x.turns);
      others = λ other apart. x.others other apart ∙ m.others other apart;
    }

-- the same where images are told
pub mounted_stays : (g : Geometry) (name : List ℕ) (before middle now : Option (List Image)) → Tells (Mounts g name (Ok tt)) before middle →
    Tells (ImageTurns (KeepsHeader g (whole_image g name)) name) middle now → Tells (ImageTurns (KeepsImage g) name) before now
mounted_stays g name None middle now m x =
    subst (λ (o : Option (List Image)). Tells (ImageTurns (KeepsHeader g (whole_image g name)) name) o now) m x
mounted_stays g name (Some before) middle now (images1, is1, m) x =
    let (images2, is2, y) = subst (λ (o : Option (List Image)). Tells (ImageTurns (KeepsHeader g (whole_image g name)) name) o now) is1 x in
    (images2, is2, mounted_keeps g name before images1 images2 m y)

module _ (f : File) (name : List ℕ) (held : ImagesHoldTheirRows) (images : BlocksAreImages) where
  -- where an image was that of rows, and its first block and its being rows stay, it is that of the rows that it holds
  sealed_stays : (before now : Image) → KeepsImage (geometry_of f.disk) before now → (rows : Grid) →
      AreRows (geometry_of f.disk) rows → before.view ≡ image (geometry_of f.disk) true rows →
      (rows_in (geometry_of f.disk) before.view ≡ rows) × (now.view ≡ image (geometry_of f.disk) true (rows_in (geometry_of f.disk) now.view))
  sealed_stays before now stays rows are is =
      let g = geometry_of f.disk in
      let first : take (block_bytes g) now.view ≡ header g true =
      stays.view_first ∙ ap (λ (bytes : List ℕ). take (block_bytes g) bytes) is ∙ image_first g true rows in
      (ap (λ (bytes : List ℕ). rows_in g bytes) is ∙ held g true rows are, (images g true now.view stays.view_rows first).1)

  module _ {S : Type 0} (look : S → Sight) (law : RunsExtend (device_meaning look)) (derived : ∥ IsDerived f ∥₁) (typed : IsTyped f)
      (limits : IsShape (table_shape (geometry_of f.disk))) (script : List Command) (from to : S) (es : List Entry) (at : State S)
      (runs : Runs (layers_on (device_meaning look) f) f script from es at) (ends : to ≡ at.base) where
    -- what is told of a device that holds the disk in the first of these images
    abbrev pub held_by : Option (List Image) → Sight
    held_by told = seen (geometry_of f.disk) told (Some (whole_image (geometry_of f.disk) name))

    -- whatever could have left the rows that were found leads to those that are left
    leads : (before middle now : List Image) (m : Mounts (geometry_of f.disk) name (Ok tt) before middle) (i : Image) → image_of now name ≡ Some i →
        bare (look from) ≡ held_by (Some middle) → bare (look to) ≡ held_by (Some now) → (left : List Entry) →
        Left f left (rows_in (geometry_of f.disk) m.old.view) → LeadsTo f (left ++ es) (rows_in (geometry_of f.disk) i.view)
    leads before middle now m i is first last left could =
        let g = geometry_of f.disk in
        let flushed_so : TellsFlushed (device_meaning look) f (rows_in g m.old.view) from =
        ap (λ (s : Sight). told_disk s) first ∙ mounted_tells g limits name before middle m in
        let x = law f derived typed (rows_in g m.old.view) left could script from es at flushed_so runs in
        let (state, told, tables) = x.tells.bases in
        let last_told : told_disk (look at.base) ≡ Some (record { kind = g.kind; state = state_of g.kind g i }) =
        ap (λ (s : S). told_disk (look s)) (sym ends) ∙ ap (λ (s : Sight). told_disk s) last ∙ ap (λ (o : Option Image). told_of o) is in
        record {
          state = x.state;
          history = x.history;
          allows = x.allows;
          shows = ap (λ e. look_up (codes "view") e) tables ∙ rows_told g f.disk.kind i state (sym last_told ∙ told);
        }
      where
        told_of : Option Image → Option Disk
        told_of None = None
        told_of (Some j) = Some (record { kind = f.disk.kind; state = state_of f.disk.kind (geometry_of f.disk) j })

    -- what the run makes of an image that was mounted and whose header stays
    has_run : (before middle now : List Image) (m : Mounts (geometry_of f.disk) name (Ok tt) before middle)
        (x : ImageTurns (KeepsHeader (geometry_of f.disk) (whole_image (geometry_of f.disk) name)) name middle now) →
        bare (look from) ≡ held_by (Some middle) → bare (look to) ≡ held_by (Some now) → ImageTurns (HasRun f es) name before now
    unfolding mounted_keeps
    has_run before middle now m x first last =
        let g = geometry_of f.disk in
        let y = mounted_keeps g name before middle now m x in
        record {
          old = m.old;
          new = x.new;
          was = m.was;
          is = x.is;
          turns = record {
            was = accepted_blocks g limits name m.old.view m.turns.0;
            stays = y.turns;
            extends = leads before middle now m x.new x.is first last;
            sealed = sealed_stays m.old x.new y.turns;
          };
          others = y.others;
        }

    -- the same where images are told
    pub leaves_run : (before middle now : Option (List Image)) → Tells (Mounts (geometry_of f.disk) name (Ok tt)) before middle →
        Tells (ImageTurns (KeepsHeader (geometry_of f.disk) (whole_image (geometry_of f.disk) name)) name) middle now →
        bare (look from) ≡ held_by middle → bare (look to) ≡ held_by now → Tells (ImageTurns (HasRun f es) name) before now
    leaves_run None middle now m x first last =
        subst (λ (o : Option (List Image)). Tells (ImageTurns (KeepsHeader (geometry_of f.disk) (whole_image (geometry_of f.disk) name)) name) o now) m x
    leaves_run (Some before) middle now (images1, is1, m) x first last =
        let (images2, is2, y) =
        subst (λ (o : Option (List Image)). Tells (ImageTurns (KeepsHeader (geometry_of f.disk) (whole_image (geometry_of f.disk) name)) name) o now) is1 x in (
          images2,
          is2,
          has_run before images1 images2 m y (subst (λ (o : Option (List Image)). bare (look from) ≡ held_by o) is1 first)
              (subst (λ (o : Option (List Image)). bare (look to) ≡ held_by o) is2 last),
        )
