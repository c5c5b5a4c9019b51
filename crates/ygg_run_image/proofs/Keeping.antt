-- What calls keep of an image that holds rows.
use Rattle.std.proofs.Common.{◌≡◌, ℕ, suc, ◌+◌, ◌*◌, ◌<◌, ◌≤◌, ◌++◌, List, Option, Some, None, length, take, drop, inl, inr, refl, sym, ap, subst, ◌∙◌, arith}
use Rattle.std.specs.Prelude.{IfSome, ◌⊎◌}
use Rattle.std.proofs.Math.Nat.{mul-le-mul_right, zero-mul, suc-mul}
use Rattle.std.proofs.lemmas.Bool.{cases_lt}
use Rattle.std.proofs.lemmas.List.{length-append, length-take-le, take-append-le, take-take}
use Rattle.ygg_base.specs.declared.geometry.DiskKind.{DiskKind}
use Rattle.ygg_base.specs.declared.geometry.DiskKind.TheVariants.{Sync, Async}
use Rattle.ygg_base.specs.declared.geometry.Geometry.{Geometry}
use Rattle.ygg_base.specs.declared.outside.Moved.{Moved}
use Rattle.ygg_base.specs.declared.outside.Moved.TheVariants.{Done, Failed}
use Rattle.ygg_base.specs.Devices.{Image, Attachment, image_of, block_at, with_block, MayHave, Writes, Flushes, Tells, AttachedTurns, ImageTurns}
use Rattle.ygg_value.specs.Number.{Digits}
use Rattle.ygg_disk.specs.Disk.{Call, Read, Write, Flush}
use Rattle.ygg_run_image.specs.Image.{block_bytes, row_block}
use Rattle.ygg_run_image.specs.Judged.{AreWords, IsRowBlock}
use Rattle.ygg_run_image.specs.Laws.{AreBlocks}
use Rattle.ygg_run_image.proofs.Images.{row-written}
use Rattle.ygg_run_image.specs.Sight.{HoldsImage, Holds}
use Rattle.ygg_run_image.specs.Standing.{KeepsHeader}
use Rattle.ygg_run_image.specs.Turning.{WritesThrough, WritesBlock, FlushesDisk, WritesRow, Turned}

-- the first blocks are the same
abbrev SameFirst : Geometry → List ℕ → List ℕ → Type 0
SameFirst g before now = take (block_bytes g) now ≡ take (block_bytes g) before

module _ (g : Geometry) (a : Attachment) (sized : a.size ≡ block_bytes g) where
  -- a header that is kept twice is kept
  pub keeps_both : (before mid now : Image) → KeepsHeader g a before mid → KeepsHeader g a mid now → KeepsHeader g a before now
  keeps_both before mid now x y = record {
    view_first = y.view_first ∙ x.view_first;
    stable_first = first y.stable_first;
    view_rows = y.view_rows;
    stable_rows = y.stable_rows;
  }
    where
      from_mid : (bytes : List ℕ) → SameFirst g mid.stable bytes → SameFirst g before.stable mid.stable ⊎ SameFirst g before.view mid.stable →
          SameFirst g before.stable bytes ⊎ SameFirst g before.view bytes
      from_mid bytes e (inl f) = inl (e ∙ f)
      from_mid bytes e (inr f) = inr (e ∙ f)

      first : SameFirst g mid.stable now.stable ⊎ SameFirst g mid.view now.stable → SameFirst g before.stable now.stable ⊎ SameFirst g before.view now.stable
      first (inl e) = from_mid now.stable e x.stable_first
      first (inr e) = inr (e ∙ x.view_first)

  -- an image that isn't changed
  pub keeps_same : (before now : Image) → AreBlocks g before.view → AreBlocks g before.stable → now ≡ before → KeepsHeader g a before now
  keeps_same before now view stable e = record {
    view_first = ap (λ (i : Image). take (block_bytes g) i.view) e;
    stable_first = inl (ap (λ (i : Image). take (block_bytes g) i.stable) e);
    view_rows = subst (λ (i : Image). AreBlocks g i.view) (sym e) view;
    stable_rows = subst (λ (i : Image). AreBlocks g i.stable) (sym e) stable;
  }

  module _ (at : ℕ) (words : List ℕ) (within : at < g.rows) (fit : AreWords g words) where
    -- bytes of which a block behind the first may be written
    abbrev May : List ℕ → List ℕ → Type 0
    May before now = MayHave a.size (at + 1) (row_block g words) before now

    abbrev written : List ℕ → List ℕ
    written bytes = with_block (block_bytes g) (at + 1) (row_block g words) bytes

    written_is : (bytes : List ℕ) → with_block a.size (at + 1) (row_block g words) bytes ≡ written bytes
    written_is bytes = ap (λ n. with_block n (at + 1) (row_block g words) bytes) sized

    written_first : (bytes : List ℕ) → AreBlocks g bytes → SameFirst g bytes (written bytes)
    written_first bytes are =
        let size = block_bytes g in
        let start = (at + 1) * size in
        let behind = drop (start + size) bytes in
        let more = suc-mul at size in
        let whole = suc-mul g.rows size in
        let least : size ≤ start = omega (arith, more) in
        let most = mul-le-mul_right {m = suc at} {n = g.rows} size within in
        let long : start ≤ length bytes = omega (arith, most, whole, are.whole) in
        take-append-le size (take start bytes ++ row_block g words) behind
        (omega (arith, least, length-append (take start bytes) (row_block g words), length-take-le start bytes long))
        ∙ take-append-le size (take start bytes) (row_block g words) (omega (arith, least, length-take-le start bytes long))
        ∙ take-take size start bytes least

    may_blocks : (before now : List ℕ) → AreBlocks g before → May before now → AreBlocks g now
    may_blocks before now are (inl e) = subst (λ bytes. AreBlocks g bytes) (sym e) are
    may_blocks before now are (inr e) = subst (λ bytes. AreBlocks g bytes) (sym (e ∙ written_is before)) (row-written g before are at words within fit).0

    may_first : (before now : List ℕ) → AreBlocks g before → May before now → SameFirst g before now
    may_first before now are (inl e) = ap (λ bytes. take (block_bytes g) bytes) e
    may_first before now are (inr e) = ap (λ bytes. take (block_bytes g) bytes) (e ∙ written_is before) ∙ written_first before are

    keeps_may : (before now : Image) → AreBlocks g before.view → AreBlocks g before.stable → May before.view now.view → May before.stable now.stable →
        KeepsHeader g a before now
    keeps_may before now view stable v s = record {
      view_first = may_first before.view now.view view v;
      stable_first = inl (may_first before.stable now.stable stable s);
      view_rows = may_blocks before.view now.view view v;
      stable_rows = may_blocks before.stable now.stable stable s;
    }

    keeps_written : (moved : Moved) (before now : Image) → AreBlocks g before.view → AreBlocks g before.stable →
        Writes (at + 1) (row_block g words) moved a before now → KeepsHeader g a before now
    keeps_written Done before now view stable (v, s) = keeps_may before now view stable (inr v) s
    keeps_written Failed before now view stable (v, s) = keeps_may before now view stable v s

  keeps_flushed : (moved : Moved) (before now : Image) → AreBlocks g before.view → AreBlocks g before.stable → Flushes moved a before now →
      KeepsHeader g a before now
  keeps_flushed Done before now view stable (v, s) = record {
    view_first = ap (λ bytes. take (block_bytes g) bytes) v;
    stable_first = inr (ap (λ bytes. take (block_bytes g) bytes) s);
    view_rows = subst (λ bytes. AreBlocks g bytes) (sym v) view;
    stable_rows = subst (λ bytes. AreBlocks g bytes) (sym s) view;
  }
  keeps_flushed Failed before now view stable (v, (many, each)) = record {
    view_first = ap (λ bytes. take (block_bytes g) bytes) v;
    stable_first = first (each 0);
    view_rows = subst (λ bytes. AreBlocks g bytes) (sym v) view;
    stable_rows = record { limits = stable.limits; whole = many ∙ stable.whole; rows = λ place within. row place within (each (place + 1)) };
  }
    where
      at_size : (place : ℕ) (bytes : List ℕ) → block_at a.size place bytes ≡ block_at (block_bytes g) place bytes
      at_size place bytes = ap (λ n. block_at n place bytes) sized

      at_first : (bytes : List ℕ) → block_at a.size 0 bytes ≡ take (block_bytes g) bytes
      at_first bytes = at_size 0 bytes ∙ ap (λ n. take (block_bytes g) (drop n bytes)) (zero-mul (block_bytes g))

      first : (block_at a.size 0 now.stable ≡ block_at a.size 0 before.stable) ⊎ (block_at a.size 0 now.stable ≡ block_at a.size 0 before.view) →
          SameFirst g before.stable now.stable ⊎ SameFirst g before.view now.stable
      first (inl e) = inl (sym (at_first now.stable) ∙ e ∙ at_first before.stable)
      first (inr e) = inr (sym (at_first now.stable) ∙ e ∙ at_first before.view)

      row : (place : ℕ) → place < g.rows →
          (block_at a.size (place + 1) now.stable ≡ block_at a.size (place + 1) before.stable)
          ⊎ (block_at a.size (place + 1) now.stable ≡ block_at a.size (place + 1) before.view) →
          IsRowBlock g (block_at (block_bytes g) (place + 1) now.stable)
      row place within (inl e) =
          subst (IsRowBlock g) (sym (sym (at_size (place + 1) now.stable) ∙ e ∙ at_size (place + 1) before.stable)) (stable.rows place within)
      row place within (inr e) =
          subst (IsRowBlock g) (sym (sym (at_size (place + 1) now.stable) ∙ e ∙ at_size (place + 1) before.view)) (view.rows place within)

  keeps_through : (at : ℕ) (words : List ℕ) → at < g.rows → AreWords g words → (moved : Moved) (before now : Image) → AreBlocks g before.view →
      AreBlocks g before.stable → WritesThrough (at + 1) (row_block g words) moved a before now → KeepsHeader g a before now
  keeps_through at words within fit Done before now view stable (mid, w, f) =
      let x = keeps_written at words within fit Done before mid view stable w in
      keeps_both before mid now x (keeps_flushed Done mid now x.view_rows x.stable_rows f)
  keeps_through at words within fit Failed before now view stable (inl w) = keeps_written at words within fit Failed before now view stable w
  keeps_through at words within fit Failed before now view stable (inr (mid, w, f)) =
      let x = keeps_written at words within fit Done before mid view stable w in
      keeps_both before mid now x (keeps_flushed Failed mid now x.view_rows x.stable_rows f)

  keeps_block : (kind : DiskKind) (at : ℕ) (words : List ℕ) → at < g.rows → AreWords g words → (moved : Moved) (before now : Image) →
      AreBlocks g before.view → AreBlocks g before.stable → WritesBlock kind (at + 1) (row_block g words) moved a before now → KeepsHeader g a before now
  keeps_block Sync at words within fit moved before now view stable h = keeps_through at words within fit moved before now view stable h
  keeps_block Async at words within fit moved before now view stable h = keeps_written at words within fit moved before now view stable h

  pub keeps_row : (at : ℕ) (row : Digits) (moved : Moved) (before now : Image) → AreBlocks g before.view → AreBlocks g before.stable →
      WritesRow g at row moved a before now → KeepsHeader g a before now
  keeps_row at row moved before now view stable (inl (within, fit, h)) = keeps_block g.kind at row.words within fit moved before now view stable h
  keeps_row at row moved before now view stable (inr (past, e)) = keeps_same before now view stable e

  keeps_disk : (kind : DiskKind) (moved : Moved) (before now : Image) → AreBlocks g before.view → AreBlocks g before.stable →
      FlushesDisk kind moved a before now → KeepsHeader g a before now
  keeps_disk Sync moved before now view stable e = keeps_same before now view stable e
  keeps_disk Async moved before now view stable h = keeps_flushed moved before now view stable h

  pub keeps_flush : (moved : Moved) (before now : Image) → AreBlocks g before.view → AreBlocks g before.stable → FlushesDisk g.kind moved a before now →
      KeepsHeader g a before now
  keeps_flush moved before now view stable h = keeps_disk g.kind moved before now view stable h

  -- whatever a call makes of the image
  pub keeps_turned : (call : Call) (moved : Moved) (before now : Image) → AreBlocks g before.view → AreBlocks g before.stable →
      Turned g call moved a before now → KeepsHeader g a before now
  keeps_turned (Read at) moved before now view stable e = keeps_same before now view stable e
  keeps_turned (Write at row) moved before now view stable h = keeps_row at row moved before now view stable h
  keeps_turned Flush moved before now view stable h = keeps_flush moved before now view stable h

-- images have one image of a name
pub image_same : (told : List Image) (name : List ℕ) (i j : Image) → image_of told name ≡ Some i → image_of told name ≡ Some j → i ≡ j
image_same told name i j a b = some_same i j (sym a ∙ b)
  where
    some_same : (x y : Image) → Some x ≡ Some y → x ≡ y
    some_same x y e = cc e

module _ (g : Geometry) (Turns : Attachment → (before now : Image) → Type 0) where
  -- what each turn keeps of an image that holds rows
  abbrev Keep : Attachment → Type 0
  Keep a = a.size ≡ block_bytes g → (before now : Image) → AreBlocks g before.view → AreBlocks g before.stable → Turns a before now → KeepsHeader g a before now

  module _ (keep : (a : Attachment) → Keep a) where
    -- the image that is attached, as it turns
    pub image_turned : (a : Attachment) → a.size ≡ block_bytes g → (told now : List Image) (h : HoldsImage g told a.name) →
        (t : ImageTurns (Turns a) a.name told now) → KeepsHeader g a t.old t.new
    image_turned a sized told now h t =
        let same = image_same told a.name h.image t.old h.is t.was in
        keep a sized t.old t.new (subst (λ (i : Image). AreBlocks g i.view) same h.view) (subst (λ (i : Image). AreBlocks g i.stable) same h.stable) t.turns

    now_holds : (a : Attachment) → a.size ≡ block_bytes g → (before now : Option (List Image)) → IfSome before (λ told. HoldsImage g told a.name) →
        Tells (AttachedTurns Turns (Some a)) before now → IfSome now (λ told. HoldsImage g told a.name)
    now_holds a sized None now h e = subst (λ (o : Option (List Image)). IfSome o (λ told. HoldsImage g told a.name)) (sym e) tt
    now_holds a sized (Some told) now h (images, is, t) =
        let x = image_turned a sized told images h t in
        subst (λ (o : Option (List Image)). IfSome o (λ told. HoldsImage g told a.name)) (sym is)
        (record { image = t.new; is = t.is; view = x.view_rows; stable = x.stable_rows })

    -- what is held is held still
    pub turned_holds : (before now : Option (List Image)) (attached after : Option Attachment) → Holds g before attached → after ≡ attached →
        Tells (AttachedTurns Turns attached) before now → Holds g now after
    turned_holds before now attached after h still t =
        let turns : Tells (AttachedTurns Turns (Some h.attachment)) before now =
        subst (λ (o : Option Attachment). Tells (AttachedTurns Turns o) before now) h.is t in
        record {
          limits = h.limits;
          attachment = h.attachment;
          is = still ∙ h.is;
          size = h.size;
          count = h.count;
          told = now_holds h.attachment h.size before now h.told turns;
        }

  -- where nothing is changed the image has turned so, if an unchanged image has
  pub stays_so : (images : Option (List Image)) (attached : Option Attachment) → Holds g images attached → ((a : Attachment) (i : Image) → Turns a i i) →
      Tells (AttachedTurns Turns attached) images images
  stays_so None attached h same = refl
  stays_so (Some told) attached h same = (
    told,
    refl,
    subst (λ (o : Option Attachment). AttachedTurns Turns o told told) (sym h.is) (record {
      old = h.told.image;
      new = h.told.image;
      was = h.told.is;
      is = h.told.is;
      turns = same h.attachment h.told.image;
      others = λ other apart. refl;
    }),
  )

-- the row that is written, if one is, is one of the disk
abbrev pub IsFitting : Geometry → Call → Type 0
IsFitting g (Read at) = Unit {0}
IsFitting g (Write at row) = AreWords g row.words
IsFitting g Flush = Unit {0}

module _ (g : Geometry) where
  -- after a flush the image holds rows, whether it was done or failed
  pub flush_holds : (moved : Moved) (before now : Option (List Image)) (attached after : Option Attachment) → Holds g before attached → after ≡ attached →
      Tells (AttachedTurns (FlushesDisk g.kind moved) attached) before now → Holds g now after
  flush_holds moved before now attached after h still t =
      turned_holds g (FlushesDisk g.kind moved) (λ a sized. keeps_flush g a sized moved) before now attached after h still t

  -- after a write too
  pub row_holds : (at : ℕ) (row : Digits) (moved : Moved) (before now : Option (List Image)) (attached after : Option Attachment) → Holds g before attached →
      after ≡ attached → Tells (AttachedTurns (WritesRow g at row moved) attached) before now → Holds g now after
  row_holds at row moved before now attached after h still t =
      turned_holds g (WritesRow g at row moved) (λ a sized. keeps_row g a sized at row moved) before now attached after h still t

  same_block : (kind : DiskKind) (place : ℕ) (block : List ℕ) (a : Attachment) (i : Image) → WritesBlock kind place block Failed a i i
  same_block Sync place block a i = inl (inl refl, inl refl)
  same_block Async place block a i = (inl refl, inl refl)

  same_disk : (kind : DiskKind) (a : Attachment) (i : Image) → FlushesDisk kind Failed a i i
  same_disk Sync a i = refl
  same_disk Async a i = (refl, (refl, λ place. inl refl))

  -- a call that changes nothing does what one may that fails
  pub same_turned : (call : Call) → IsFitting g call → (a : Attachment) (i : Image) → Turned g call Failed a i i
  same_turned (Read at) fits a i = refl
  same_turned (Write at row) fits a i = by_place (cases_lt at g.rows)
    where
      by_place : (at < g.rows) ⊎ (g.rows ≤ at) → WritesRow g at row Failed a i i
      by_place (inl within) = inl (within, fits, same_block g.kind (at + 1) (row_block g row.words) a i)
      by_place (inr past) = inr (past, refl)
  same_turned Flush fits a i = same_disk g.kind a i

module _ (place : ℕ) (block : List ℕ) (moved : Moved) where
  through_turn : (m : Moved) (a : Attachment) (before mid now : Image) → Writes place block Done a before mid → Flushes m a mid now →
      WritesThrough place block m a before now
  through_turn Done a before mid now w f = (mid, w, f)
  through_turn Failed a before mid now w f = inr (mid, w, f)

  through_image : (a : Attachment) (first mid last : List Image) → ImageTurns (Writes place block Done a) a.name first mid →
      ImageTurns (Flushes moved a) a.name mid last → ImageTurns (WritesThrough place block moved a) a.name first last
  through_image a first mid last x y =
      let same = image_same mid a.name x.new y.old x.is y.was in
      record {
        old = x.old;
        new = y.new;
        was = x.was;
        is = y.is;
        turns = through_turn moved a x.old y.old y.new (subst (λ (i : Image). Writes place block Done a x.old i) same x.turns) y.turns;
        others = λ other apart. y.others other apart ∙ x.others other apart;
      }

  through_attached : (attached : Option Attachment) (first mid last : List Image) → AttachedTurns (Writes place block Done) attached first mid →
      AttachedTurns (Flushes moved) attached mid last → AttachedTurns (WritesThrough place block moved) attached first last
  through_attached None first mid last x y = tt
  through_attached (Some a) first mid last x y = through_image a first mid last x y

  through_told : (attached : Option Attachment) (first mid last : Option (List Image)) → Tells (AttachedTurns (Writes place block Done) attached) first mid →
      Tells (AttachedTurns (Flushes moved) attached) mid last → Tells (AttachedTurns (WritesThrough place block moved) attached) first last
  through_told attached None mid last x y = subst (λ (o : Option (List Image)). Tells (AttachedTurns (Flushes moved) attached) o last) x y
  through_told attached (Some first) mid last (images, is, x) y =
      let (images', is', y') = subst (λ (o : Option (List Image)). Tells (AttachedTurns (Flushes moved) attached) o last) is y in
      (images', is', through_attached attached first images images' x y')

  -- a write of a block that is done, and then a flush
  pub through : (attached after : Option Attachment) (first mid last : Option (List Image)) → after ≡ attached →
      Tells (AttachedTurns (Writes place block Done) attached) first mid → Tells (AttachedTurns (Flushes moved) after) mid last →
      Tells (AttachedTurns (WritesThrough place block moved) attached) first last
  through attached after first mid last still x y =
      through_told attached first mid last x (subst (λ (o : Option Attachment). Tells (AttachedTurns (Flushes moved) o) mid last) still y)
